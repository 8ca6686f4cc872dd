-- The subterms of a term, by its outermost form.
use Rattle.std.proofs.Common.{◌≡◌, List, ◌∷◌, refl, ap, ◌∙◌}
use Rattle.term_trees.specs.declared.term.Term.{Term, roll-Term, map-Term, fold-Term, fold-roll-Term}
use Rattle.term_trees.specs.declared.term.Term.TheOpen.{Term-F, Num, Var, Own, At, Add, Sub, Mul, One, Two, Low, Sext, Sgn}
use Rattle.term_trees.specs.Terms.{joined_here, subterms}
use Rattle.term_trees.proofs.Sameness.{induct, map_map}

map_id : (l : Term-F Term) → map-Term Term Term (λ t. t) l ≡ l
map_id (Num n) = refl
map_id (Var k) = refl
map_id (Own k) = refl
map_id (At p) = refl
map_id (Add a b) = refl
map_id (Sub a b) = refl
map_id (Mul a b) = refl
map_id (One op a) = refl
map_id (Two op a b) = refl
map_id (Low k a) = refl
map_id (Sext k n a) = refl
map_id (Sgn n a) = refl

-- what is computed of a term from the term itself and from what is computed of its parts
module _ {X : Type 0} (h : Term → Term-F X → X) where
  abbrev pub with_here : Term-F (Term × X) → Term × X
  with_here l = let t = roll-Term (map-Term (Term × X) Term (λ p. p.0) l) in (t, h t (map-Term (Term × X) X (λ p. p.1) l))

  abbrev pub both_of : Term → Term × X
  both_of t = fold-Term (Term × X) with_here t

  abbrev Whole : Term → Type 0
  Whole t = (both_of t).0 ≡ t

  -- the fold keeps the term itself
  whole : (t : Term) → (both_of t).0 ≡ t
  whole = induct Whole (λ l.
      let part = λ (e : (t : Term) × Whole t). e.0 in
      let first = λ (p : Term × X). p.0 in
      ap (λ p. p.0) (fold-roll-Term (Term × X) with_here (map-Term _ _ part l))
      ∙ ap roll-Term (map_map both_of first (map-Term _ _ part l) ∙ map_map part (λ t. (both_of t).0) l ∙ (λ j. map-Term ((t : Term) × Whole t) Term (λ e. e.1 j) l)))

  pub with-roll : (l : Term-F Term) → (both_of (roll-Term l)).1 ≡ h (roll-Term l) (map-Term Term X (λ t. (both_of t).1) l)
  with-roll l =
      let first = λ (p : Term × X). p.0 in
      let second = λ (p : Term × X). p.1 in
      ap (λ p. p.1) (fold-roll-Term (Term × X) with_here l)
      ∙ (λ j. h (roll-Term ((map_map both_of first l ∙ (λ i. map-Term Term Term (λ t. whole t i) l) ∙ map_id l) j)) (map_map both_of second l j))

-- a term, and then the subterms of its parts
pub subterms-roll : (l : Term-F Term) → subterms (roll-Term l) ≡ roll-Term l ∷ joined_here (map-Term Term (List Term) subterms l)
subterms-roll l = with-roll (λ t k. t ∷ joined_here k) l
