-- An assertion that is known, part by part.
use Rattle.std.proofs.Common.{◌≡◌, ℕ, ◌+◌, ◌<◌, ◌≤◌, List, [], ◌∷◌, ◌++◌, length, map, drop, get_or, All, Option, Some, None, IfSome, refl, sym, ap, ◌∙◌, arith}
use Rattle.std.specs.Prelude.{slice_get, option_map, option_and_then, Ok, Err}
use Rattle.term_trees.specs.declared.term.Place.{Place}
use Rattle.term_trees.specs.declared.term.Place.TheVariants.{Local, Stack, Global, Pages, Arg, Result, Index, Item}
use Rattle.term_trees.specs.declared.term.Term.{Term}
use Rattle.term_trees.specs.declared.term.Formula.{Formula}
use Rattle.term_trees.specs.Leaves.{Leaves, replaced_formula}
use Rattle.term_logic.specs.Table.{tree_at}
use Rattle.notes.specs.declared.chunk.Chunk.{Chunk}
use Rattle.notes.specs.declared.assertion.Assertion.{Assertion}
use Rattle.outline_rules.specs.Refusals.{Ruling, Refusal, ◌>>=◌}
use Rattle.outline_rules.specs.Chunks.{replaced_chunk}
use Rattle.outline_rules.specs.States.{State, settled, fact_added}
use Rattle.outline_rules.specs.Entailment.{assertion_place, assertion_leaves}
use Rattle.outline_rules.specs.Renewal.{variables_from, facts_assumed, chunk_added, chunks_assumed, parts_assumed, assumed}
use Rattle.outline_rules.specs.Initial.{chunks_added}
use Rattle.symbolic_state.specs.declared.assertions.AssertionTerms.{AssertionTerms}
use Rattle.symbolic_state.specs.States.{Tracked}
use Rattle.symbolic_state.specs.Growth.{Grown}
use Rattle.symbolic_state.specs.Assertions.{leaves_in, TermsWithin}
use Rattle.symbolic_state.proofs.Grows.{grown-same, grown-then}
use Rattle.symbolic_renewal.proofs.Settled.{fact-added-same, chunk-added-same}
use Rattle.symbolic_renewal.proofs.Going.{all_gone, going-next, going-stop, going-end}

-- ---- the leaves stay the same

-- the slots of two states are the same
pub record SameSlots (s t : State) : Type 0 where
  pub locals : t.locals ≡ s.locals
  pub operands : t.operands ≡ s.operands
  pub globals : t.globals ≡ s.globals
  pub pages : t.pages ≡ s.pages

module _ (s t : State) (same : SameSlots s t) (args : List Term) (result : Option Term) where
  place-same : (p : Place) → assertion_place t args result p ≡ assertion_place s args result p
  place-same (Local k) = ap (λ es. option_map (λ e. e.1) (slice_get es k)) same.locals
  place-same (Stack k) = ap (λ es. option_map (λ e. e.1) (slice_get es k)) same.operands
  place-same (Global k) = ap (λ gs. option_and_then (λ o. o) (slice_get gs k)) same.globals
  place-same Pages = same.pages
  place-same (Arg k) = refl
  place-same Result = refl
  place-same Index = refl
  place-same Item = refl

module _ (mid new : Tracked) (terms : AssertionTerms) (low : TermsWithin (length mid.terms) terms) (more : Grown mid new) where
  result-kept : (o : Option ℕ) → IfSome o (λ id. id < length mid.terms) → option_map (tree_at new.terms) o ≡ option_map (tree_at mid.terms) o
  result-kept None h = refl
  result-kept (Some id) h = ap Some (more.terms.kept id h)

  result-low : (o : Option ℕ) → IfSome o (λ id. id < length mid.terms) → IfSome o (λ id. id < length new.terms)
  result-low None h = tt
  result-low (Some id) h = omega (arith, more.terms.longer)

  pub terms-more : TermsWithin (length new.terms) terms
  terms-more = record {
    own = λ i d h. let at = low.own i d h in omega (arith, at, more.terms.longer);
    args = λ i d h. let at = low.args i d h in omega (arith, at, more.terms.longer);
    result = result-low terms.result low.result;
  }

  pub leaves-kept : SameSlots mid.state new.state → leaves_in new terms ≡ leaves_in mid terms
  leaves-kept same = λ j. record {
    variable = λ k. None;
    own = λ k. slice_get (more.terms.trees terms.own.now low.own j) k;
    place = λ p. (places p) j;
  }
    where
      places : (p : Place) → (leaves_in new terms).place p ≡ (leaves_in mid terms).place p
      places p =
          place-same mid.state new.state same (map (tree_at new.terms) terms.args.now) (option_map (tree_at new.terms) terms.result) p
          ∙ λ j. assertion_place mid.state (more.terms.trees terms.args.now low.args j) (result-kept terms.result low.result j) p

-- ---- facts

facts-are : (l : Leaves) (fs : List Formula) (s : State) → facts_assumed l fs s ≡ all_gone (λ f. fact_added (replaced_formula l f)) fs s
facts-are l [] s = refl
facts-are l (f ∷ fs) s = λ j. fact_added (replaced_formula l f) s >>= λ t. facts-are l fs t j

-- the first facts are known
pub record Facts (old new : Tracked) (terms : AssertionTerms) (fs : List Formula) (i : ℕ) : Type 0 where
  pub whole : facts_assumed (leaves_in old terms) fs old.state ≡ all_gone (λ f. fact_added (replaced_formula (leaves_in old terms) f)) (drop i fs) new.state
  pub leaves : leaves_in new terms ≡ leaves_in old terms
  pub within : TermsWithin (length new.terms) terms
  pub grown : Grown old new

pub facts-start : (old : Tracked) (terms : AssertionTerms) (fs : List Formula) → TermsWithin (length old.terms) terms → Facts old old terms fs 0
facts-start old terms fs low = record { whole = facts-are (leaves_in old terms) fs old.state; leaves = refl; within = low; grown = grown-same old }

module _ (old mid : Tracked) (terms : AssertionTerms) (fs : List Formula) (i : ℕ) (so_far : Facts old mid terms fs i) where
  abbrev FactStep : Formula → State → Ruling State
  FactStep f = fact_added (replaced_formula (leaves_in old terms) f)

  pub facts-end : length fs ≤ i → facts_assumed (leaves_in old terms) fs old.state ≡ Ok mid.state
  facts-end high = going-end FactStep _ mid.state fs i so_far.whole high

  module _ (f : Formula) (low : i < length fs) (at : f ≡ get_or fs i f) where
    gives-same : (r : Ruling State) → fact_added (replaced_formula (leaves_in mid terms) f) mid.state ≡ r → FactStep f mid.state ≡ r
    gives-same r is = ap (λ l. fact_added (replaced_formula l f) mid.state) (sym so_far.leaves) ∙ is

    pub facts-next : (new : Tracked) → fact_added (replaced_formula (leaves_in mid terms) f) mid.state ≡ Ok new.state → Grown mid new → Facts old new terms fs (i + 1)
    facts-next new gives more =
        let is = fact-added-same (replaced_formula (leaves_in mid terms) f) mid.state new.state gives in
        let slots : SameSlots mid.state new.state = record { locals = ap (λ s. s.locals) is; operands = ap (λ s. s.operands) is; globals = ap (λ s. s.globals) is; pages = ap (λ s. s.pages) is } in
        record {
          whole = going-next FactStep _ mid.state fs i so_far.whole f low at new.state (gives-same (Ok new.state) gives);
          leaves = leaves-kept mid new terms so_far.within more slots ∙ so_far.leaves;
          within = terms-more mid new terms so_far.within more;
          grown = grown-then old mid new so_far.grown more;
        }

    pub facts-stop : (o : Option Refusal) → IfSome o (λ e. fact_added (replaced_formula (leaves_in mid terms) f) mid.state ≡ Err e) → IfSome o (λ e. facts_assumed (leaves_in old terms) fs old.state ≡ Err e)
    facts-stop None fails = tt
    facts-stop (Some e) fails = going-stop FactStep _ mid.state fs i so_far.whole f low at e (gives-same (Err e) fails)

-- an assertion's formulas, and then its chunks
pub parts-are : (l m : Leaves) (a : Assertion) (fs : List Formula) (cs : List Chunk) (s t : State) → fs ≡ a.formulas → cs ≡ a.chunks → facts_assumed l fs s ≡ Ok t → m ≡ l
    → chunks_assumed m cs t ≡ parts_assumed l a s
parts-are l m a fs cs s t formulas chunks gives same =
    (λ j. chunks_assumed (same j) (chunks j) t)
    ∙ ap (λ r. r >>= chunks_assumed l a.chunks) (sym gives)
    ∙ ap (λ gs. facts_assumed l gs s >>= chunks_assumed l a.chunks) formulas

pub ruleset facts = (facts-start, facts-end)

-- ---- chunks

chunks-are : (l : Leaves) (cs : List Chunk) (s : State) → chunks_assumed l cs s ≡ all_gone (λ c. chunk_added (replaced_chunk l c)) cs s
chunks-are l [] s = refl
chunks-are l (c ∷ cs) s = λ j. chunk_added (replaced_chunk l c) s >>= λ t. chunks-are l cs t j

-- the first chunks are appended
pub record Chunks (old new : Tracked) (terms : AssertionTerms) (cs : List Chunk) (i : ℕ) : Type 0 where
  pub whole : chunks_assumed (leaves_in old terms) cs old.state ≡ all_gone (λ c. chunk_added (replaced_chunk (leaves_in old terms) c)) (drop i cs) new.state
  pub leaves : leaves_in new terms ≡ leaves_in old terms
  pub within : TermsWithin (length new.terms) terms
  pub grown : Grown old new

pub chunks-start : (old : Tracked) (terms : AssertionTerms) (cs : List Chunk) → TermsWithin (length old.terms) terms → Chunks old old terms cs 0
chunks-start old terms cs low = record { whole = chunks-are (leaves_in old terms) cs old.state; leaves = refl; within = low; grown = grown-same old }

module _ (old mid : Tracked) (terms : AssertionTerms) (cs : List Chunk) (i : ℕ) (so_far : Chunks old mid terms cs i) where
  abbrev ChunkStep : Chunk → State → Ruling State
  ChunkStep c = chunk_added (replaced_chunk (leaves_in old terms) c)

  pub chunks-end : length cs ≤ i → chunks_assumed (leaves_in old terms) cs old.state ≡ Ok mid.state
  chunks-end high = going-end ChunkStep _ mid.state cs i so_far.whole high

  module _ (c : Chunk) (low : i < length cs) (at : c ≡ get_or cs i c) where
    appended-same : (r : Ruling State) → chunk_added (replaced_chunk (leaves_in mid terms) c) mid.state ≡ r → ChunkStep c mid.state ≡ r
    appended-same r is = ap (λ l. chunk_added (replaced_chunk l c) mid.state) (sym so_far.leaves) ∙ is

    pub chunks-next : (new : Tracked) → chunk_added (replaced_chunk (leaves_in mid terms) c) mid.state ≡ Ok new.state → Grown mid new → Chunks old new terms cs (i + 1)
    chunks-next new gives more =
        let is = chunk-added-same (replaced_chunk (leaves_in mid terms) c) mid.state new.state gives in
        let slots : SameSlots mid.state new.state = record { locals = ap (λ s. s.locals) is; operands = ap (λ s. s.operands) is; globals = ap (λ s. s.globals) is; pages = ap (λ s. s.pages) is } in
        record {
          whole = going-next ChunkStep _ mid.state cs i so_far.whole c low at new.state (appended-same (Ok new.state) gives);
          leaves = leaves-kept mid new terms so_far.within more slots ∙ so_far.leaves;
          within = terms-more mid new terms so_far.within more;
          grown = grown-then old mid new so_far.grown more;
        }

    pub chunks-stop : (o : Option Refusal) → IfSome o (λ e. chunk_added (replaced_chunk (leaves_in mid terms) c) mid.state ≡ Err e) → IfSome o (λ e. chunks_assumed (leaves_in old terms) cs old.state ≡ Err e)
    chunks-stop None fails = tt
    chunks-stop (Some e) fails = going-stop ChunkStep _ mid.state cs i so_far.whole c low at e (appended-same (Err e) fails)

pub ruleset chunks = (chunks-start, chunks-end)

-- ---- chunks as they stand

added-are : (cs : List Chunk) (s : State) → chunks_added cs s ≡ all_gone chunk_added cs s
added-are [] s = refl
added-are (c ∷ cs) s = λ j. chunk_added c s >>= λ t. added-are cs t j

-- the first chunks are added
pub record Added (old new : Tracked) (cs : List Chunk) (i : ℕ) : Type 0 where
  pub whole : chunks_added cs old.state ≡ all_gone chunk_added (drop i cs) new.state
  pub grown : Grown old new

pub added-start : (old : Tracked) (cs : List Chunk) → Added old old cs 0
added-start old cs = record { whole = added-are cs old.state; grown = grown-same old }

module _ (old mid : Tracked) (cs : List Chunk) (i : ℕ) (so_far : Added old mid cs i) where
  pub added-end : length cs ≤ i → chunks_added cs old.state ≡ Ok mid.state
  added-end high = going-end chunk_added _ mid.state cs i so_far.whole high

  module _ (c : Chunk) (low : i < length cs) (at : c ≡ get_or cs i c) where
    pub added-next : (new : Tracked) → chunk_added c mid.state ≡ Ok new.state → Grown mid new → Added old new cs (i + 1)
    added-next new gives more = record {
      whole = going-next chunk_added _ mid.state cs i so_far.whole c low at new.state gives;
      grown = grown-then old mid new so_far.grown more;
    }

    pub added-stop : (o : Option Refusal) → IfSome o (λ e. chunk_added c mid.state ≡ Err e) → IfSome o (λ e. chunks_added cs old.state ≡ Err e)
    added-stop None fails = tt
    added-stop (Some e) fails = going-stop chunk_added _ mid.state cs i so_far.whole c low at e fails

pub ruleset whole_chunks = (added-start, added-end)

-- ---- with its own variables

term-kept : (old new : Tracked) → Grown old new → (o : Option ℕ) → IfSome o (λ id. id < length old.terms) → option_map (tree_at new.terms) o ≡ option_map (tree_at old.terms) o
term-kept old new more None h = refl
term-kept old new more (Some id) h = ap Some (more.terms.kept id h)

pub assumed-is : (old mid : Tracked) (a : Assertion) (fixed args own : List ℕ) (answer : Option ℕ)
    → All (λ id. id < length old.terms) args → IfSome answer (λ id. id < length old.terms) → Grown old mid
    → settled [] (record old.state { vars = old.state.vars + a.own }) ≡ Ok mid.state
    → map (tree_at mid.terms) own ≡ map (tree_at old.terms) fixed ++ variables_from old.state.vars a.own
    → parts_assumed (assertion_leaves mid.state (map (tree_at mid.terms) own) (map (tree_at mid.terms) args) (option_map (tree_at mid.terms) answer)) a mid.state
    ≡ assumed a (map (tree_at old.terms) fixed) (map (tree_at old.terms) args) (option_map (tree_at old.terms) answer) old.state
assumed-is old mid a fixed args own answer low_args low_answer more gives own_is =
    (λ j. parts_assumed (assertion_leaves mid.state (own_is j) (more.terms.trees args low_args j) (term-kept old mid more answer low_answer j)) a mid.state)
    ∙ ap (λ r. r >>= λ t. parts_assumed (assertion_leaves t (map (tree_at old.terms) fixed ++ variables_from old.state.vars a.own) (map (tree_at old.terms) args) (option_map (tree_at old.terms) answer)) a t) (sym gives)
