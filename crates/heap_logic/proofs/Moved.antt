-- Each heap move is its plan, and then the change within the limits.
use Rattle.std.proofs.Common.{◌≡◌, ℕ, ℤ, ◌+◌, ◌*◌, ◌^◌, ◌==◌, not, Bool, true, false, ◌&&◌, ◌||◌, List, [], ◌∷◌, ◌++◌, Some, Ok, refl, sym, ap, ◌∙◌}
use Rattle.std.specs.Prelude.{nat_le, slice_set, remove, length, pos}
use Rattle.std.specs.List.{list_all}
use Rattle.std.proofs.lemmas.List.{append-nil}
use Rattle.std.proofs.Math.Nat.{add-zero}
use Rattle.wasm_values.specs.declared.limit.LimitWord.TheVariants as limit
use Rattle.term_trees.specs.declared.term.Term.{Term, fold-roll-Term}
use Rattle.term_trees.specs.declared.term.Term.TheOpen as layer
use Rattle.term_trees.specs.declared.term.Term.TheVariants as term
use Rattle.term_trees.specs.declared.term.Formula.{fold-roll-Formula}
use Rattle.term_trees.specs.declared.term.Formula.TheOpen as form_layer
use Rattle.term_trees.specs.declared.term.Formula.TheVariants as formula
use Rattle.term_trees.specs.Terms.{nodes_here, node_count}
use Rattle.term_trees.specs.Formulas.{formula_nodes_here, formula_nodes}
use Rattle.term_trees.specs.Views.{num_of}
use Rattle.notes.specs.declared.reason.Reason.TheVariants as reason
use Rattle.notes.specs.declared.chunk.Chunk.{Chunk}
use Rattle.notes.specs.declared.chunk.Chunk.TheVariants.{Cell, Region}
use Rattle.outline_rules.specs.Refusals.{Ruling, limited, wanted, ◌>>=◌, ◌>>◌}
use Rattle.outline_rules.specs.States.{State, number, fresh, nodes_of, settled, with_facts, with_chunk, with_more_chunks, without_chunk}
use Rattle.outline_rules.specs.HeapMoves.{fact_wanted, chunk_at, region_at, cell_at, greatest_in, cell_range, forgotten, width_by, half_of, joined_value, address_of, with_address, extent_of, with_extent, merge, forget, view, halve, unite}
use Rattle.heap_logic.specs.words.Effects.{Effect, after, fitting}
use Rattle.heap_logic.specs.words.Making.{made}
use Rattle.heap_logic.specs.words.Plans.{turned, split_wanted, split_plan, merge_wanted, merge_plan, forgotten_made, forget_plan, view_wanted, viewed, view_plan, halve_wanted, halves, halve_plan, unite_wanted, unite_plan, readdr_plan, reval_plan, relen_plan}
use Rattle.heap_logic.proofs.Binds.{bind_bind, then_bind, through, past, one_made, two_made, made_then}
use Rattle.heap_logic.proofs.Takings.{made-part}

-- the change within the limits
abbrev pub done : State → Effect → Ruling State
done s e = fitting (after e s)

pub settled-is : (made : List ℕ) (s : State) → settled made s ≡ (limited limit.Nodes (list_all (λ n. nat_le n 4096) made) >> fitting s)
unfolding settled
settled-is made s = by_small (list_all (λ n. nat_le n 4096) made)
  where
    by_small : (b : Bool) → (limited limit.Nodes b
        >> limited limit.Variables (nat_le s.vars 1000000)
        >> limited limit.Facts (nat_le (length s.facts) 4096)
        >> limited limit.Chunks (nat_le (length s.chunks) 1024)
        >> limited limit.State (nat_le (nodes_of s) 1000000)
        >> Ok s) ≡ (limited limit.Nodes b >> fitting s)
    by_small true = refl
    by_small false = refl

-- the limit of variables comes first
pub variables-first : (s : State) → fitting s ≡ (limited limit.Variables (nat_le s.vars 1000000) >> fitting s)
variables-first s = by_many (nat_le s.vars 1000000)
  where
    by_many : (b : Bool) → (limited limit.Variables b
        >> limited limit.Facts (nat_le (length s.facts) 4096)
        >> limited limit.Chunks (nat_le (length s.chunks) 1024)
        >> limited limit.State (nat_le (nodes_of s) 1000000)
        >> Ok s)
        ≡ (limited limit.Variables b >> (limited limit.Variables b
        >> limited limit.Facts (nat_le (length s.facts) 4096)
        >> limited limit.Chunks (nat_le (length s.chunks) 1024)
        >> limited limit.State (nat_le (nodes_of s) 1000000)
        >> Ok s))
    by_many true = refl
    by_many false = refl

-- ---- the nodes of a range

nodes-num : (n : ℤ) → node_count (term.Num n) ≡ 1
nodes-num n = ap node_count (sym (term.rolls-Num n)) ∙ fold-roll-Term ℕ nodes_here (layer.Num n)

pub nodes-var : (k : ℕ) → node_count (term.Var k) ≡ 1
nodes-var k = ap node_count (sym (term.rolls-Var k)) ∙ fold-roll-Term ℕ nodes_here (layer.Var k)

nodes-le : (a b : Term) → formula_nodes (formula.Le a b) ≡ 1 + node_count a + node_count b
nodes-le a b = ap formula_nodes (sym (formula.rolls-Le a b)) ∙ fold-roll-Formula ℕ formula_nodes_here (form_layer.Le a b)

pub low-nodes : (k : ℕ) → formula_nodes (formula.Le (number 0) (term.Var k)) ≡ 3
low-nodes k = nodes-le (number 0) (term.Var k) ∙ (λ j. 1 + nodes-num (pos 0) j + nodes-var k j)

pub high-nodes : (k n : ℕ) → formula_nodes (formula.Le (term.Var k) (number n)) ≡ 3
high-nodes k n = nodes-le (term.Var k) (number n) ∙ (λ j. 1 + nodes-var k j + nodes-num (pos n) j)

-- ---- the state after a change

module _ (s : State) (c : ℕ) (x : Chunk) where
  pub after-turned : after (turned c x) s ≡ with_chunk c x s
  after-turned = λ j. record s {
    vars = add-zero s.vars j;
    facts = append-nil s.facts j;
    chunks = append-nil (slice_set s.chunks c x) j;
  }

  pub after-gone : (d : ℕ) → after (record (turned c x) { gone = Some d }) s ≡ without_chunk d (with_chunk c x s)
  after-gone d = λ j. record s {
    vars = add-zero s.vars j;
    facts = append-nil s.facts j;
    chunks = remove (append-nil (slice_set s.chunks c x) j) d;
  }

  after-more : (m : List Chunk) → after (record (turned c x) { more = m }) s ≡ with_more_chunks m (with_chunk c x s)
  after-more m = λ j. record s {
    vars = add-zero s.vars j;
    facts = append-nil s.facts j;
    chunks = slice_set s.chunks c x ++ m;
  }

-- ---- moves

module _ (s : State) where
  pub split-is : (c : ℕ) (k : Term) (f g : ℕ)
      → (region_at s c >>= λ r.
      fact_wanted s f (formula.Le (number 0) k)
      >> fact_wanted s g (formula.Le k r.1)
      >> settled (node_count (term.Add r.0 k) ∷ node_count (term.Sub r.1 k) ∷ [])
      (with_more_chunks (Region (term.Add r.0 k) (term.Sub r.1 k) ∷ []) (with_chunk c (Region r.0 k) s)))
      ≡ (split_plan c k f g s >>= done s)
  split-is c k f g =
      through (region_at s c) _ _ _ (λ r.
      past (fact_wanted s f (formula.Le (number 0) k) >> fact_wanted s g (formula.Le k r.1)) _ r _
      (settled-is _ _
      ∙ two_made limit.Nodes (nat_le (node_count (term.Add r.0 k)) 4096) (nat_le (node_count (term.Sub r.1 k)) 4096) (term.Add r.0 k) (term.Sub r.1 k)
      (λ a n. Ok (record (turned c (Region r.0 k)) { more = Region a n ∷ [] })) (done s) _
      (ap fitting (sym (after-more s c (Region r.0 k) (Region (term.Add r.0 k) (term.Sub r.1 k) ∷ []))))))
      ∙ sym (bind_bind (split_wanted c k f g s) _ (done s))

  pub merge-is : (c d f : ℕ) → merge c d f s ≡ (merge_plan c d f s >>= done s)
  merge-is c d f =
      through (region_at s c) _ _ _ (λ x.
      through (region_at s d) _ _ _ (λ y.
      past (wanted reason.Chunk (not (c == d)) >> fact_wanted s f (formula.Eq y.0 (term.Add x.0 x.1))) _ (x.0, x.1, y.1) _
      (settled-is _ _
      ∙ one_made limit.Nodes (nat_le (node_count (term.Add x.1 y.1)) 4096) (term.Add x.1 y.1)
      (λ n. Ok (record (turned c (Region x.0 n)) { gone = Some d })) (done s) _
      (ap fitting (sym (after-gone s c (Region x.0 (term.Add x.1 y.1)) d))))))
      ∙ sym (bind_bind (merge_wanted c d f s) _ (done s))

  pub forget-is : (c : ℕ) → forget c s ≡ (forget_plan c s >>= done s)
  forget-is c =
      through (chunk_at s c) _ _ _ (λ chunk.
      through (forgotten chunk) _ (λ r. made r.1 >>= λ n. Ok (r.0, n)) _ (λ r.
      settled-is _ _
      ∙ one_made limit.Nodes (nat_le (node_count r.1) 4096) r.1 (λ n. Ok (r.0, n)) (λ p. done s (turned c (Region p.0 p.1))) _
      (ap fitting (sym (after-turned s c (Region r.0 r.1)))))
      ∙ sym (bind_bind (forgotten_made chunk) (λ r. Ok (turned c (Region r.0 r.1))) (done s)))

  -- a region becomes a cell of a fresh value
  after-viewed : (c w : ℕ) (a : Term)
      → with_chunk c (Cell w a (fresh s)) (with_facts (cell_range w (fresh s)) (record s { vars = s.vars + 1 })) ≡ after (viewed c w a (fresh s)) s
  after-viewed c w a = λ j. record s {
    vars = s.vars + 1;
    facts = s.facts ++ cell_range w (fresh s);
    chunks = sym (append-nil (slice_set s.chunks c (Cell w a (fresh s)))) j;
  }

  pub view-is : (c : ℕ) → view c s ≡ (view_plan c s >>= done s)
  view-is c =
      through (region_at s c) _ _ _ (λ r.
      through (width_by (num_of r.1)) _ _ _ (λ w.
      settled-is _ _
      ∙ (λ j. limited limit.Nodes (nat_le (low-nodes s.vars j) 4096 && (nat_le (high-nodes s.vars (greatest_in w) j) 4096 && true))
      >> fitting (after-viewed c w r.0 j))
      ∙ variables-first (after (viewed c w r.0 (fresh s)) s)
      ∙ sym (then_bind (limited limit.Variables (nat_le (s.vars + 1) 1000000)) (Ok (viewed c w r.0 (fresh s))) (done s))))
      ∙ sym (bind_bind (view_wanted c s) _ (done s))

  -- a cell becomes two
  pub halve-is : (c : ℕ) → halve c s ≡ (halve_plan c s >>= done s)
  halve-is c =
      through (cell_at s c) _ _ _ (λ x.
      through (half_of x.0) _ _ _ (λ h.
      let u = term.Var s.vars in
      let v = term.Var (s.vars + 1) in
      let b = term.Add x.1 (number h) in
      let g = formula.Eq x.2 (joined_value h u v) in
      settled-is _ _
      ∙ (λ j. limited limit.Nodes (nat_le (node_count b) 4096
      && (nat_le (low-nodes s.vars j) 4096 && (nat_le (high-nodes s.vars (greatest_in h) j) 4096
      && (nat_le (low-nodes (s.vars + 1) j) 4096 && (nat_le (high-nodes (s.vars + 1) (greatest_in h) j) 4096
      && (nat_le (formula_nodes g) 4096 && true)))))) >> fitting (after (halves c h x.1 b x.2 u v) s))
      ∙ made_then limit.Nodes (nat_le (node_count b) 4096) (nat_le (formula_nodes g) 4096) (limited limit.Variables (nat_le (s.vars + 2) 1000000)) b
      (λ b. halves c h x.1 b x.2 u v) (done s) (fitting (after (halves c h x.1 b x.2 u v) s))
      (variables-first (after (halves c h x.1 b x.2 u v) s)) refl))
      ∙ sym (bind_bind (halve_wanted c s) _ (done s))

  pub unite-is : (c d f : ℕ) → unite c d f s ≡ (unite_plan c d f s >>= done s)
  unite-is c d f =
      through (cell_at s c) _ _ _ (λ x.
      through (cell_at s d) _ _ _ (λ y.
      past (wanted reason.Chunk (not (c == d) && ((x.0 == 1 || (x.0 == 2 || x.0 == 4)) && y.0 == x.0)) >> fact_wanted s f (formula.Eq y.1 (term.Add x.1 (number x.0)))) _
      (x.0, x.1, x.2, y.2) _
      (settled-is _ _
      ∙ one_made limit.Nodes (nat_le (node_count (joined_value x.0 x.2 y.2)) 4096) (joined_value x.0 x.2 y.2)
      (λ v. Ok (record (turned c (Cell (2 * x.0) x.1 v)) { gone = Some d })) (done s) _
      (ap fitting (sym (after-gone s c (Cell (2 * x.0) x.1 (joined_value x.0 x.2 y.2)) d)))
      ∙ sym (λ j. (made-part x.2 (term.Mul (number (256 ^ x.0)) y.2) j >>= λ v. Ok (record (turned c (Cell (2 * x.0) x.1 v)) { gone = Some d })) >>= done s))))
      ∙ sym (bind_bind (unite_wanted c d f s) _ (done s))

  -- ---- other terms for equal ones

  pub readdr-is : (c : ℕ) (b : Term) (f : ℕ)
      → (chunk_at s c >>= λ chunk. fact_wanted s f (formula.Eq (address_of chunk) b) >> settled [] (with_chunk c (with_address b chunk) s))
      ≡ (readdr_plan c b f s >>= done s)
  readdr-is c b f =
      through (chunk_at s c) _ _ _ (λ chunk.
      past (fact_wanted s f (formula.Eq (address_of chunk) b)) _ (turned c (with_address b chunk)) (done s)
      (settled-is [] _ ∙ ap fitting (sym (after-turned s c (with_address b chunk)))))

  pub reval-is : (c : ℕ) (v : Term) (f : ℕ)
      → (cell_at s c >>= λ x. fact_wanted s f (formula.Eq x.2 v) >> settled [] (with_chunk c (Cell x.0 x.1 v) s)) ≡ (reval_plan c v f s >>= done s)
  reval-is c v f =
      through (cell_at s c) _ _ _ (λ x.
      past (fact_wanted s f (formula.Eq x.2 v)) _ (turned c (Cell x.0 x.1 v)) (done s)
      (settled-is [] _ ∙ ap fitting (sym (after-turned s c (Cell x.0 x.1 v)))))

  pub relen-is : (c : ℕ) (n : Term) (f : ℕ)
      → (chunk_at s c >>= λ chunk. extent_of chunk >>= λ m. fact_wanted s f (formula.Eq m n) >> settled [] (with_chunk c (with_extent n chunk) s))
      ≡ (relen_plan c n f s >>= done s)
  relen-is c n f =
      through (chunk_at s c) _ _ _ (λ chunk.
      through (extent_of chunk) _ _ _ (λ m.
      past (fact_wanted s f (formula.Eq m n)) _ (turned c (with_extent n chunk)) (done s)
      (settled-is [] _ ∙ ap fitting (sym (after-turned s c (with_extent n chunk))))))
