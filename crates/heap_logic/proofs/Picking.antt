-- A `pick` by what it wants, where its row is cut, and what it then comes to.
use Rattle.std.proofs.Common.{◌≡◌, ℕ, refl, ap, ◌∙◌}
use Rattle.std.specs.Prelude.{Ok, Err, [], ◌∷◌, ◌++◌, None}
use Rattle.term_trees.specs.declared.term.Place.TheVariants as place
use Rattle.term_trees.specs.Rows.{at_position}
use Rattle.notes.specs.declared.chunk.Chunk.TheVariants.{Cell, Row}
use Rattle.outline_rules.specs.Chunks.{shifted}
use Rattle.outline_rules.specs.HeapMoves.{cell_range}
use Rattle.term_trees.specs.declared.term.Term.{Term}
use Rattle.term_trees.specs.declared.term.Term.TheVariants as term
use Rattle.term_trees.specs.declared.term.Formula.{Formula}
use Rattle.outline_rules.specs.Refusals.{Ruling, ◌>>=◌, ◌>>◌}
use Rattle.outline_rules.specs.States.{State, number, fresh}
use Rattle.heap_logic.specs.words.Effects.{Effect}
use Rattle.heap_logic.specs.words.Making.{made}
use Rattle.heap_logic.specs.words.RowPlans.{pick_wanted, address_made, pick_limits, picks, pick_plan}
use Rattle.heap_logic.specs.words.Shifts.{cut_made, picked_at}

abbrev pair : {A B : Type 0} → A → B → A × B
pair a b = (a, b)

abbrev cut_of : {X I B N : Type 0} → X → I → B × N → X × I × B × N
cut_of x k p = (x, k, p.0, p.1)

module _ {X I B N E : Type 0} (next : X → I → B → N → Ruling E) where
  cut-bind : (a : Ruling X) (i : Ruling I) (b : I → Ruling B) (n : I → Ruling N)
      → (a >>= λ x. i >>= λ k. b k >>= λ y. n k >>= λ z. next x k y z)
      ≡ ((a >>= λ x. i >>= λ k. (b k >>= λ y. n k >>= λ z. Ok (pair y z)) >>= λ p. Ok (cut_of x k p)) >>= λ p. next p.0 p.1 p.2 p.3)
  cut-bind (Err e) i b n = refl
  cut-bind (Ok x) (Err e) b n = refl
  cut-bind (Ok x) (Ok k) b n = by_parts (b k) (n k)
    where
      by_parts : (q : Ruling B) (r : Ruling N) → (q >>= λ y. r >>= λ z. next x k y z)
          ≡ (((q >>= λ y. r >>= λ z. Ok (pair y z)) >>= λ p. Ok (cut_of x k p)) >>= λ p. next p.0 p.1 p.2 p.3)
      by_parts (Err e) r = refl
      by_parts (Ok y) (Err e) = refl
      by_parts (Ok y) (Ok z) = refl

limits-then : {A B : Type 0} (r : Ruling (Unit {0})) (a : A) (next : A → Ruling B) → (r >> next a) ≡ ((r >> Ok a) >>= next)
limits-then (Ok t) a next = refl
limits-then (Err e) a next = refl

pub pick-goes : (c : ℕ) (t : Term) (f g : ℕ) (s : State) (r : ℕ × Term × Term × Formula) (p : Term × Term × Term × Term)
    → pick_wanted c t f g s ≡ Ok r → cut_made r.0 r.1 r.2 t ≡ Ok p
    → pick_plan c t f g s ≡ picked_at c r.0 r.1 r.3 t (p.0, p.2, p.3) (term.Add (term.At place.Index) p.1) (term.At place.Item) (fresh s) s.vars
pick-goes c t f g s r p is cut =
    let last : (r : ℕ × Term × Term × Formula) (x i b n : Term) → Ruling Effect = λ r x i b n.
    pick_limits r.3 t i (fresh s) s.vars >> Ok (picks c r.0 r.1 r.3 t x i b n (fresh s)) in
    ap (λ q. q >>= λ r.
    address_made r.0 r.1 t >>= λ x.
    made (term.Add t (number 1)) >>= λ i.
    address_made r.0 r.1 i >>= λ b.
    made (term.Sub r.2 i) >>= λ n. last r x i b n) is
    ∙ cut-bind (last r) (address_made r.0 r.1 t) (made (term.Add t (number 1))) (λ i. address_made r.0 r.1 i) (λ i. made (term.Sub r.2 i))
    ∙ ap (λ q. q >>= λ p. last r p.0 p.1 p.2 p.3) cut
    ∙ limits-then (pick_limits r.3 t p.1 (fresh s) s.vars) (pair (shifted r.3 p.1) (at_position r.3 t (fresh s))) (λ q. Ok (record {
      variables = 1;
      facts = cell_range r.0 (fresh s) ++ q.1 ∷ [];
      chunk = c;
      becomes = Row r.0 r.1 t r.3;
      more = Cell r.0 p.0 (fresh s) ∷ Row r.0 p.2 p.3 q.0 ∷ [];
      gone = None;
    }))
