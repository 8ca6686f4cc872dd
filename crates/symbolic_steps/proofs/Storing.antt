-- Stores and growths whose terms are made first.
use Rattle.std.proofs.Common.{◌≡◌, ℕ, ◌+◌, ◌≤◌, ◌<◌, Bool, true, false, ◌&&◌, [], ◌∷◌, ◌++◌, refl, sym, ap, ◌∙◌, arith}
use Rattle.std.proofs.lemmas.Bool.{le-leb, lt-leb, leb-false, leb-true}
use Rattle.std.specs.Prelude.{nat_le, length, Ok, Err}
use Rattle.wasm_values.specs.declared.limit.LimitWord.TheVariants as limit
use Rattle.wasm_syntax.specs.declared.instr.StoreOp.{StoreOp}
use Rattle.wasm_syntax.specs.Accesses.{bytes_stored}
use Rattle.term_trees.specs.declared.term.Term.{Term, fold-roll-Term}
use Rattle.term_trees.specs.declared.term.Term.TheVariants as term
use Rattle.term_trees.specs.declared.term.Term.TheOpen as layer
use Rattle.term_trees.specs.declared.term.Formula.{Formula, fold-roll-Formula}
use Rattle.term_trees.specs.declared.term.Formula.TheVariants as formula
use Rattle.term_trees.specs.declared.term.Formula.TheOpen as form_layer
use Rattle.term_trees.specs.Terms.{node_count, nodes_here}
use Rattle.term_trees.specs.Formulas.{formula_nodes, formula_nodes_here}
use Rattle.notes.specs.declared.chunk.Chunk.TheVariants.{Cell, Region}
use Rattle.outline_rules.specs.Refusals.{Ruling, PastLimit, limited, within, ◌>>=◌, ◌>>◌}
use Rattle.outline_rules.specs.States.{State, nodes_of, settled, number, fact_added, with_facts, with_chunk, with_more_chunks}
use Rattle.outline_rules.specs.Memory.{written, growth, grown_region}
use Rattle.outline_rules.specs.Renewal.{chunk_added}
use Rattle.symbolic_steps.specs.words.Parts.{pages_made, pages_between, joined, region_made}
use Rattle.symbolic_state.specs.Making.{made}

-- ---- stores

module _ (op : StoreOp) (k : ℕ) (at t : Term) (s : State) where
  stored : (b : Bool) →
      (limited limit.Nodes (b && true) >> within limit.Variables 1000000 s.vars >> within limit.Facts 4096 (length s.facts)
      >> within limit.Chunks 1024 (length (with_chunk k (Cell (bytes_stored op) at t) s).chunks)
      >> within limit.State 1000000 (nodes_of (with_chunk k (Cell (bytes_stored op) at t) s)) >> Ok (with_chunk k (Cell (bytes_stored op) at t) s))
      ≡ ((limited limit.Nodes b >> Ok t) >>= λ u. settled [] (with_chunk k (Cell (bytes_stored op) at u) s))
  unfolding settled
  stored true = refl
  stored false = refl

  pub written-is : written op k at t s ≡ (made t >>= λ u. settled [] (with_chunk k (Cell (bytes_stored op) at u) s))
  unfolding settled
  written-is = stored (nat_le (node_count t) 4096)

  pub written-known : node_count t ≤ 4096 → written op k at t s ≡ settled [] (with_chunk k (Cell (bytes_stored op) at t) s)
  written-known low = written-is ∙ ap (λ b. (limited limit.Nodes b >> Ok t) >>= λ u. settled [] (with_chunk k (Cell (bytes_stored op) at u) s)) (le-leb (node_count t) 4096 low)

pub ruleset stores = (written-is)

pub ruleset stores_known = (written-known)

-- ---- growths

nodes-eq : (a b : Term) → formula_nodes (formula.Eq a b) ≡ 1 + node_count a + node_count b
nodes-eq a b = ap formula_nodes (sym (formula.rolls-Eq a b)) ∙ fold-roll-Formula ℕ formula_nodes_here (form_layer.Eq a b)

nodes-and : (f g : Formula) → formula_nodes (formula.And f g) ≡ 1 + formula_nodes f + formula_nodes g
nodes-and f g = ap formula_nodes (sym (formula.rolls-And f g)) ∙ fold-roll-Formula ℕ formula_nodes_here (form_layer.And f g)

nodes-or : (f g : Formula) → formula_nodes (formula.Or f g) ≡ 1 + formula_nodes f + formula_nodes g
nodes-or f g = ap formula_nodes (sym (formula.rolls-Or f g)) ∙ fold-roll-Formula ℕ formula_nodes_here (form_layer.Or f g)

nodes-mul : (a b : Term) → node_count (term.Mul a b) ≡ 1 + node_count a + node_count b
nodes-mul a b = ap node_count (sym (term.rolls-Mul a b)) ∙ fold-roll-Term ℕ nodes_here (layer.Mul a b)

module _ (r p q n : Term) (s : State) where
  -- the sum of pages is smaller than what is known of them
  sum-smaller : node_count (term.Add p n) ≤ formula_nodes (growth r p q n)
  sum-smaller =
      let last = nodes-eq q (term.Add p n) in
      let second = nodes-and (formula.Eq r p) (formula.Eq q (term.Add p n)) in
      let first = nodes-or (formula.And (formula.Eq r (number 4294967295)) (formula.Eq q p)) (formula.And (formula.Eq r p) (formula.Eq q (term.Add p n))) in
      omega (arith, last, second, first)

  too-large : 4096 < node_count (term.Add p n) → fact_added (growth r p q n) s ≡ Err (PastLimit limit.Nodes)
  unfolding settled
  too-large high = ap (λ b. limited limit.Nodes (b && true) >> within limit.Variables 1000000 s.vars >> within limit.Facts 4096 (length (s.facts ++ growth r p q n ∷ []))
      >> within limit.Chunks 1024 (length s.chunks) >> within limit.State 1000000 (nodes_of (with_facts (growth r p q n ∷ []) s)) >> Ok (with_facts (growth r p q n ∷ []) s))
      (lt-leb (formula_nodes (growth r p q n)) 4096 (let small = sum-smaller in omega (arith, small)))

  summed : (b : Bool) → nat_le (node_count (term.Add p n)) 4096 ≡ b → fact_added (growth r p q n) s ≡ ((limited limit.Nodes b >> Ok (term.Add p n)) >>= λ u. fact_added (growth r p q n) s)
  summed true is = refl
  summed false is = too-large (leb-false (node_count (term.Add p n)) 4096 is)

  pub growth-known-is : fact_added (growth r p q n) s ≡ (made (term.Add p n) >>= λ u. fact_added (growth r p q n) s)
  growth-known-is = summed (nat_le (node_count (term.Add p n)) 4096) refl

pub ruleset growths = (growth-known-is)

-- ---- regions of pages

module _ (x y : Term) (s : State) where
  abbrev region_added : State
  region_added = with_more_chunks (Region x y ∷ []) s

  abbrev added : (b c : Bool) → Ruling State
  added b c =
      limited limit.Nodes (b && (c && true)) >> within limit.Variables 1000000 s.vars >> within limit.Facts 4096 (length s.facts)
      >> within limit.Chunks 1024 (length region_added.chunks) >> within limit.State 1000000 (nodes_of region_added) >> Ok region_added

  added-is : chunk_added (Region x y) s ≡ added (nat_le (node_count x) 4096) (nat_le (node_count y) 4096)
  unfolding settled
  added-is = refl

  -- the address is too large, or the length
  no-address : 4096 < node_count x → chunk_added (Region x y) s ≡ Err (PastLimit limit.Nodes)
  no-address high = added-is ∙ ap (λ b. added b (nat_le (node_count y) 4096)) (lt-leb (node_count x) 4096 high)

  no-length : node_count x ≤ 4096 → 4096 < node_count y → chunk_added (Region x y) s ≡ Err (PastLimit limit.Nodes)
  no-length low high = added-is ∙ (λ j. added (le-leb (node_count x) 4096 low j) (lt-leb (node_count y) 4096 high j))

nodes-sub : (a b : Term) → node_count (term.Sub a b) ≡ 1 + node_count a + node_count b
nodes-sub a b = ap node_count (sym (term.rolls-Sub a b)) ∙ fold-roll-Term ℕ nodes_here (layer.Sub a b)

module _ (p q : Term) where
  abbrev start : Term
  start = term.Mul (number 65536) p

  abbrev between : Term
  between = term.Sub q p

  abbrev size : Term
  size = term.Mul (number 65536) between

  start-by : (b : Bool) → nat_le (node_count start) 4096 ≡ b → pages_made p ≡ (limited limit.Nodes b >> Ok start)
  start-by b is = ap (λ c. limited limit.Nodes c >> Ok start) is

  size-by : (c d : Bool) → nat_le (node_count between) 4096 ≡ c → nat_le (node_count size) 4096 ≡ d
      → pages_between p q ≡ (limited limit.Nodes c >> (limited limit.Nodes d >> Ok size))
  size-by true d ec ed = ap (λ b. (limited limit.Nodes b >> Ok between) >>= λ e. made (term.Mul (number 65536) e)) ec ∙ ap (λ b. limited limit.Nodes b >> Ok size) ed
  size-by false d ec ed = ap (λ b. (limited limit.Nodes b >> Ok between) >>= λ e. made (term.Mul (number 65536) e)) ec

  module _ (s : State) where
    abbrev next : Ruling (Term × Term) → Ruling State
    next r = r >>= λ e. chunk_added (Region e.0 e.1) s

    by : (b c d : Bool) → nat_le (node_count start) 4096 ≡ b → nat_le (node_count between) 4096 ≡ c → nat_le (node_count size) 4096 ≡ d
        → chunk_added (Region start size) s ≡ next (joined (limited limit.Nodes b >> Ok start) (limited limit.Nodes c >> (limited limit.Nodes d >> Ok size)))
    by false c d eb ec ed = no-address start size s (leb-false (node_count start) 4096 eb)
    by true false d eb ec ed =
        no-length start size s (leb-true (node_count start) 4096 eb)
        (let big = leb-false (node_count between) 4096 ec in let sizes = nodes-mul (number 65536) between in omega (arith, big, sizes))
    by true true false eb ec ed = no-length start size s (leb-true (node_count start) 4096 eb) (leb-false (node_count size) 4096 ed)
    by true true true eb ec ed = refl

    pub region-is : chunk_added (grown_region p q) s ≡ (region_made p q >>= λ r. chunk_added (Region r.0 r.1) s)
    region-is =
        by (nat_le (node_count start) 4096) (nat_le (node_count between) 4096) (nat_le (node_count size) 4096) refl refl refl
        ∙ sym (λ j. next (joined (start-by _ refl j) (size-by (nat_le (node_count between) 4096) (nat_le (node_count size) 4096) refl refl j)))

pub ruleset regions = (region-is)
