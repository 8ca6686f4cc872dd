-- The tests that types are the same hold exactly of equal ones.
use Rattle.std.proofs.Common.{◌≡◌, ◌&&◌, ◌↔◌, Bool, true, false, IsTrue, List, [], ◌∷◌, refl, ap, ◌∙◌, subst}
use Rattle.wasm_values.specs.declared.number.ValType.{ValType}
use Rattle.wasm_values.specs.declared.number.ValType.TheVariants.{I32, I64}
use Rattle.wasm_values.specs.Types.{is_same_type, are_same_types}

pub type-eq : (a b : ValType) → IsTrue (is_same_type a b) → a ≡ b
type-eq I32 I32 h = refl
type-eq I32 I64 h = cc
type-eq I64 I32 h = cc
type-eq I64 I64 h = refl

pub type-refl : (a : ValType) → IsTrue (is_same_type a a)
type-refl I32 = refl
type-refl I64 = refl

both-of : (a b : Bool) → IsTrue (a && b) → IsTrue a × IsTrue b
both-of true b h = (refl, h)
both-of false b h = cc

and-of : (a b : Bool) → IsTrue a → IsTrue b → IsTrue (a && b)
and-of true b h k = k
and-of false b h k = cc

pub types-eq : (xs ys : List ValType) → IsTrue (are_same_types xs ys) → xs ≡ ys
types-eq [] [] h = refl
types-eq [] (y ∷ ys) h = cc
types-eq (x ∷ xs) [] h = cc
types-eq (x ∷ xs) (y ∷ ys) h =
    let b = both-of (is_same_type x y) (are_same_types xs ys) h in
    ap (λ v. v ∷ xs) (type-eq x y b.0) ∙ ap (λ vs. y ∷ vs) (types-eq xs ys b.1)

pub types-refl : (xs : List ValType) → IsTrue (are_same_types xs xs)
types-refl [] = refl
types-refl (x ∷ xs) = and-of (is_same_type x x) (are_same_types xs xs) (type-refl x) (types-refl xs)

pub type-same : (a b : ValType) → IsTrue (is_same_type a b) ↔ (a ≡ b)
type-same a b = (type-eq a b, λ e. subst (λ c. IsTrue (is_same_type a c)) e (type-refl a))

pub types-same : (xs ys : List ValType) → IsTrue (are_same_types xs ys) ↔ (xs ≡ ys)
types-same xs ys = (types-eq xs ys, λ e. subst (λ zs. IsTrue (are_same_types xs zs)) e (types-refl xs))
