-- Each move on rows is its plan, and then the change within the limits.
use Rattle.std.proofs.Common.{◌≡◌, ℕ, ◌+◌, ◌==◌, not, Bool, true, false, ◌&&◌, [], ◌∷◌, Some, Ok, refl, sym, ap, ◌∙◌, arith}
use Rattle.std.specs.Prelude.{nat_le}
use Rattle.std.proofs.lemmas.Bool.{leb-false, lt-leb}
use Rattle.wasm_values.specs.declared.limit.LimitWord.TheVariants as limit
use Rattle.term_trees.specs.declared.term.Term.{Term}
use Rattle.term_trees.specs.declared.term.Term.TheVariants as term
use Rattle.term_trees.specs.declared.term.Formula.{Formula}
use Rattle.term_trees.specs.declared.term.Formula.TheVariants as formula
use Rattle.term_trees.specs.Terms.{node_count}
use Rattle.term_trees.specs.Formulas.{formula_nodes}
use Rattle.term_trees.specs.Same.{same, same_formula}
use Rattle.term_trees.specs.Rows.{at_position}
use Rattle.notes.specs.declared.reason.Reason.TheVariants as reason
use Rattle.notes.specs.declared.chunk.Chunk.TheVariants.{Cell, Row}
use Rattle.outline_rules.specs.Refusals.{Ruling, limited, wanted, ◌>>=◌, ◌>>◌}
use Rattle.outline_rules.specs.Chunks.{shifted}
use Rattle.outline_rules.specs.States.{State, number, fresh, settled, with_facts, with_chunk, with_more_chunks}
use Rattle.outline_rules.specs.HeapMoves.{fact_wanted, region_at, cell_at, row_at, greatest_in, item_facts, picked, join}
use Rattle.heap_logic.specs.words.Effects.{after, fitting}
use Rattle.heap_logic.specs.words.Making.{made}
use Rattle.heap_logic.specs.words.Plans.{turned}
use Rattle.heap_logic.specs.words.RowPlans.{pick_wanted, pick_limits, picks, pick_plan, join_wanted, join_plan, enrow_plan, rows_plan}
use Rattle.heap_logic.proofs.Binds.{bind_bind, through, past, one_made}
use Rattle.heap_logic.proofs.Moved.{done, settled-is, variables-first, after-turned, after-gone, low-nodes, high-nodes, nodes-var}
use Rattle.heap_logic.proofs.Takings.{made-part, nodes-add, nodes-mul}

-- the tests of a `pick` together, and one after another
module _ {E C : Type 0} (g : E → Ruling C) (f : Ruling C) where
  pub pick_made : (x : Bool) (a : Term) (i : Bool) (k : Term) (b : Term → Bool) (at : Term → Term) (n : Term → Bool) (rest : Term → Term)
      (h : Bool) (p : Bool) (v : Ruling (Unit {0})) (eff : Term → Term → Term → Term → E) (lim : Term → Ruling (Unit {0}))
      → (i ≡ false → b k ≡ false) → lim k ≡ ((limited limit.Nodes h >> limited limit.Nodes p) >> v) → f ≡ (v >> f) → f ≡ g (eff a k (at k) (rest k))
      → (limited limit.Nodes (x && (b k && (n k && (h && (p && true))))) >> f)
      ≡ (((limited limit.Nodes x >> Ok a) >>= λ a'. (limited limit.Nodes i >> Ok k) >>= λ k'. (limited limit.Nodes (b k') >> Ok (at k')) >>= λ b'.
      (limited limit.Nodes (n k') >> Ok (rest k')) >>= λ n'. (lim k' >> Ok (eff a' k' b' n'))) >>= g)
  pick_made false a i k b at n rest h p v eff lim part limits again same = refl
  pick_made true a false k b at n rest h p v eff lim part limits again same =
      ap (λ t. limited limit.Nodes (t && (n k && (h && (p && true)))) >> f) (part refl)
  pick_made true a true k b at n rest h p v eff lim part limits again same = by_parts (b k) (n k) h p
      ∙ sym (λ j. ((limited limit.Nodes (b k) >> Ok (at k)) >>= λ b'. (limited limit.Nodes (n k) >> Ok (rest k)) >>= λ n'. (limits j >> Ok (eff a k b' n'))) >>= g)
    where
      by_parts : (q r h p : Bool) → (limited limit.Nodes (q && (r && (h && (p && true)))) >> f)
          ≡ (((limited limit.Nodes q >> Ok (at k)) >>= λ b'. (limited limit.Nodes r >> Ok (rest k)) >>= λ n'. (((limited limit.Nodes h >> limited limit.Nodes p) >> v) >> Ok (eff a k b' n'))) >>= g)
      by_parts true true true true = again ∙ past v f (eff a k (at k) (rest k)) g same
      by_parts true true true false = refl
      by_parts true true false p = refl
      by_parts true false h p = refl
      by_parts false r h p = refl

module _ (s : State) where
  after-picked : (c w : ℕ) (a n : Term) (each : Formula) (t : Term)
      → with_more_chunks
      (Cell w (term.Add a (term.Mul (number w) t)) (fresh s)
      ∷ Row w (term.Add a (term.Mul (number w) (term.Add t (number 1)))) (term.Sub n (term.Add t (number 1))) (shifted each (term.Add t (number 1))) ∷ [])
      (with_chunk c (Row w a t each) (with_facts (item_facts w each t (fresh s)) (record s { vars = s.vars + 1 })))
      ≡ after (picks c w a each t (term.Add a (term.Mul (number w) t)) (term.Add t (number 1)) (term.Add a (term.Mul (number w) (term.Add t (number 1)))) (term.Sub n (term.Add t (number 1))) (fresh s)) s
  after-picked c w a n each t = refl

  pub pick-is : (c : ℕ) (t : Term) (f g : ℕ)
      → (row_at s c >>= λ r.
      fact_wanted s f (formula.Le (number 0) t) >> fact_wanted s g (formula.Lt t r.2) >> picked c r.0 r.1 r.2 r.3 t (fresh s) s)
      ≡ (pick_plan c t f g s >>= done s)
  pick-is c t f g =
      through (row_at s c) _ _ _ (λ r.
      past (fact_wanted s f (formula.Le (number 0) t) >> fact_wanted s g (formula.Lt t r.2)) _ r _
      (let w = r.0 in
      let a = r.1 in
      let v = fresh s in
      let behind : Term → Term = λ i. term.Add a (term.Mul (number w) i) in
      let rest : Term → Term = λ i. term.Sub r.2 i in
      let k = term.Add t (number 1) in
      let then = after (picks c w a r.3 t (behind t) k (behind k) (rest k) v) s in
      settled-is _ _
      ∙ (λ j. limited limit.Nodes (nat_le (node_count (behind t)) 4096 && (nat_le (nodes-var s.vars j) 4096
      && (nat_le (node_count (behind k)) 4096 && (nat_le (node_count (rest k)) 4096 && (nat_le (formula_nodes (shifted r.3 k)) 4096
      && (nat_le (low-nodes s.vars j) 4096 && (nat_le (high-nodes s.vars (greatest_in w) j) 4096
      && (nat_le (formula_nodes (at_position r.3 t v)) 4096 && true)))))))) >> fitting then)
      ∙ pick_made (done s) (fitting then) (nat_le (node_count (behind t)) 4096) (behind t) (nat_le (node_count k) 4096) k
      (λ i. nat_le (node_count (behind i)) 4096) behind (λ i. nat_le (node_count (rest i)) 4096) rest
      (nat_le (formula_nodes (shifted r.3 k)) 4096) (nat_le (formula_nodes (at_position r.3 t v)) 4096) (limited limit.Variables (nat_le (s.vars + 1) 1000000))
      (λ x i b n. picks c w a r.3 t x i b n v) (λ i. pick_limits r.3 t i v s.vars)
      (λ e. lt-leb (node_count (behind k)) 4096 (let h = leb-false (node_count k) 4096 e in omega (arith, h, nodes-add a (term.Mul (number w) k), nodes-mul (number w) k)))
      refl (variables-first then) refl
      ∙ sym (λ j. (made-part a (term.Mul (number w) t) j >>= λ x. made k >>= λ i. made-part a (term.Mul (number w) i) j >>= λ b. made (rest i) >>= λ n.
      pick_limits r.3 t i v s.vars >> Ok (picks c w a r.3 t x i b n v)) >>= done s)))
      ∙ sym (bind_bind (pick_wanted c t f g s) _ (done s))

  pub join-is : (c d f : ℕ) → join c d f s ≡ (join_plan c d f s >>= done s)
  join-is c d f =
      through (row_at s c) _ _ _ (λ x.
      through (row_at s d) _ _ _ (λ y.
      past (wanted reason.Chunk (not (c == d) && (y.0 == x.0 && same_formula y.3 (shifted x.3 x.2))) >> fact_wanted s f (formula.Eq y.1 (term.Add x.1 (term.Mul (number x.0) x.2)))) _
      (x.0, x.1, x.2, y.2, x.3) _
      (settled-is _ _
      ∙ one_made limit.Nodes (nat_le (node_count (term.Add x.2 y.2)) 4096) (term.Add x.2 y.2)
      (λ n. Ok (record (turned c (Row x.0 x.1 n x.3)) { gone = Some d })) (done s) _
      (ap fitting (sym (after-gone s c (Row x.0 x.1 (term.Add x.2 y.2) x.3) d))))))
      ∙ sym (bind_bind (join_wanted c d f s) _ (done s))

  pub enrow-is : (c : ℕ) (g : Formula) (f : ℕ)
      → (cell_at s c >>= λ x. fact_wanted s f (at_position g (number 0) x.2) >> settled [] (with_chunk c (Row x.0 x.1 (number 1) g) s)) ≡ (enrow_plan c g f s >>= done s)
  enrow-is c g f =
      through (cell_at s c) _ _ _ (λ x.
      past (fact_wanted s f (at_position g (number 0) x.2)) _ (turned c (Row x.0 x.1 (number 1) g)) (done s)
      (settled-is [] _ ∙ ap fitting (sym (after-turned s c (Row x.0 x.1 (number 1) g)))))

  pub rows-is : (c w : ℕ) (g : Formula)
      → (region_at s c >>= λ r. wanted reason.Chunk (same r.1 (number 0)) >> settled [] (with_chunk c (Row w r.0 (number 0) g) s)) ≡ (rows_plan c w g s >>= done s)
  rows-is c w g =
      through (region_at s c) _ _ _ (λ r.
      past (wanted reason.Chunk (same r.1 (number 0))) _ (turned c (Row w r.0 (number 0) g)) (done s)
      (settled-is [] _ ∙ ap fitting (sym (after-turned s c (Row w r.0 (number 0) g)))))
