-- The normal form of a well-formed term is well formed.
use Rattle.std.proofs.Common.{◌≡◌, ℤ, ◌+ℤ◌, ◌-ℤ◌, ◌*ℤ◌, Bool, true, false, ◌&&◌, List, [], ◌∷◌, map, Some, None, refl, sym, ap, subst, ◌∙◌}
use Rattle.std.specs.Prelude.{filter, if◌then◌else◌}
use Rattle.std.specs.List.{list_all}
use Rattle.term_trees.specs.declared.term.Term.{Term, roll-Term, map-Term, fold-roll-Term}
use Rattle.term_trees.specs.declared.term.Term.TheOpen.{Term-F, Num, Var, Own, At, Add, Sub, Mul, One, Two, Low, Sext, Sgn}
use Rattle.term_trees.specs.declared.forms.Normal.{Normal}
use Rattle.term_trees.specs.Terms.{well_formed_here, well_formed}
use Rattle.term_trees.specs.Normal.{Form, single, combined, is_constant, product, layer_form, form, on_the_way, fits, distinct, parts_of, normal_form, well_formed_normal}
use Rattle.term_trees.proofs.Truths.{both, and_true}
use Rattle.term_trees.proofs.Sameness.{induct, map_map}
use Rattle.term_trees.proofs.Grounded.{list_all-append}
use Rattle.term_trees.proofs.AtomLists.{list_all-distinct}
use Rattle.term_trees.proofs.LinearForms.{form-roll}
use Rattle.term_trees.proofs.NormalForms.{finished}

-- ---- the atoms of a form

abbrev AllSound : Form → Type 0
AllSound f = list_all well_formed f.atoms ≡ true

sound-single : (t : Term) → well_formed t ≡ true → AllSound (single t)
sound-single t e = and_true _ _ e refl

sound-combined : (op : ℤ → ℤ → ℤ) (f g : Form) → AllSound f → AllSound g → AllSound (combined op f g)
sound-combined op f g ef eg = list_all-append well_formed f.atoms g.atoms ∙ and_true _ _ ef eg

sound-if : (b : Bool) (f g : Form) → AllSound f → AllSound g → AllSound (if b then f else g)
sound-if true f g ef eg = ef
sound-if false f g ef eg = eg

sound-product : (t : Term) (f g : Form) → well_formed t ≡ true → AllSound f → AllSound g → AllSound (product t f g)
sound-product t f g e ef eg =
    sound-if (is_constant f) _ _ (sound-combined (λ x y. f.constant *ℤ y) f g ef eg)
    (sound-if (is_constant g) _ _ (sound-combined (λ x y. x *ℤ g.constant) f g ef eg) (sound-single t e))

abbrev Sound : Term → Type 0
Sound t = well_formed t ≡ true → AllSound (form t)

sound-layer : (t : Term) (l : Term-F ((u : Term) × Sound u)) → well_formed t ≡ true → well_formed_here (map-Term ((u : Term) × Sound u) Bool (λ e. well_formed e.0) l) ≡ true
    → AllSound (layer_form t (map-Term ((u : Term) × Sound u) Form (λ e. form e.0) l))
sound-layer t (Num n) e parts = refl
sound-layer t (Var k) e parts = sound-single t e
sound-layer t (Own k) e parts = sound-single t e
sound-layer t (At p) e parts = sound-single t e
sound-layer t (Add a b) e parts = let p = both _ _ parts in sound-combined (λ x y. x +ℤ y) (form a.0) (form b.0) (a.1 p.0) (b.1 p.1)
sound-layer t (Sub a b) e parts = let p = both _ _ parts in sound-combined (λ x y. x -ℤ y) (form a.0) (form b.0) (a.1 p.0) (b.1 p.1)
sound-layer t (Mul a b) e parts = let p = both _ _ parts in sound-product t (form a.0) (form b.0) e (a.1 p.0) (b.1 p.1)
sound-layer t (One op a) e parts = sound-single t e
sound-layer t (Two op a b) e parts = sound-single t e
sound-layer t (Low k a) e parts = sound-single t e
sound-layer t (Sext k n a) e parts = sound-single t e
sound-layer t (Sgn n a) e parts = sound-single t e

atoms-sound : (t : Term) → Sound t
atoms-sound = induct Sound (λ l e.
    let part = λ (e : (u : Term) × Sound u). e.0 in
    subst AllSound (sym (form-roll (map-Term _ _ part l) ∙ ap (layer_form (roll-Term (map-Term _ _ part l))) (map_map part form l)))
    (sound-layer (roll-Term (map-Term _ _ part l)) l e
    (sym (fold-roll-Term Bool well_formed_here (map-Term _ _ part l) ∙ ap well_formed_here (map_map part well_formed l)) ∙ e)))

-- ---- the parts

kept-step : {X : Type 0} (p : X → Bool) (x : X) (xs : List X) (b : Bool) → p x ≡ true → list_all p xs ≡ true → list_all p (if b then x ∷ xs else xs) ≡ true
kept-step p x xs true e es = and_true _ _ e es
kept-step p x xs false e es = es

list_all-filter : {X : Type 0} (p q : X → Bool) (xs : List X) → list_all p xs ≡ true → list_all p (filter q xs) ≡ true
list_all-filter p q [] e = refl
list_all-filter p q (x ∷ xs) e = let b = both _ _ e in kept-step p x (filter q xs) (q x) b.0 (list_all-filter p q xs b.1)

list_all-parts : (k : Term → ℤ) (xs : List Term) → list_all (λ (p : Term × ℤ). well_formed p.0) (map (λ x. (x, k x)) xs) ≡ list_all well_formed xs
list_all-parts k [] = refl
list_all-parts k (x ∷ xs) = ap (λ b. well_formed x && b) (list_all-parts k xs)

finished-sound : (t : Term) → well_formed t ≡ true → well_formed_normal (finished ((form t).constant, parts_of (form t))) ≡ true
finished-sound t e =
    list_all-filter _ _ (parts_of (form t))
    (list_all-parts (form t).coefficient (distinct (form t).atoms) ∙ list_all-distinct well_formed (form t).atoms ∙ atoms-sound t e)

same_some : (f g : Normal) → Some f ≡ Some g → f ≡ g
same_some f g e = cc

pub normal-sound : (t : Term) (f : Normal) → well_formed t ≡ true → normal_form t ≡ Some f → well_formed_normal f ≡ true
unfolding normal_form
normal-sound t f sound e = at (list_all (λ u. fits (form u)) (on_the_way t)) e
  where
    at : (b : Bool) → (if b then Some (finished ((form t).constant, parts_of (form t))) else None) ≡ Some f → well_formed_normal f ≡ true
    at true e = subst (λ g. well_formed_normal g ≡ true) (same_some _ _ e) (finished-sound t sound)
    at false e = cc
