-- The test that function types are the same holds exactly of equal ones.
use Rattle.std.proofs.Common.{◌≡◌, ◌&&◌, Bool, true, false, IsTrue, List, refl, ap, ◌∙◌, subst}
use Rattle.wasm_values.specs.declared.number.ValType.{ValType}
use Rattle.wasm_values.specs.Types.{are_same_types}
use Rattle.wasm_values.proofs.TypeLaws as values
use Rattle.wasm_syntax.specs.declared.module.FuncType.{FuncType}
use Rattle.wasm_store.specs.Control.{is_same_func_type}

and-both : (a b : Bool) → IsTrue (a && b) → IsTrue a × IsTrue b
and-both true b h = (refl, h)
and-both false b h = cc

both-and : (a b : Bool) → IsTrue a → IsTrue b → IsTrue (a && b)
both-and true b h k = k
both-and false b h k = cc

pub types-eq : (a b : FuncType) → IsTrue (is_same_func_type a b) → a ≡ b
types-eq a b h =
    let both = and-both (are_same_types a.params b.params) (are_same_types a.results b.results) h in
    let make : List ValType → List ValType → FuncType = λ ps rs. record { params = ps; results = rs } in
    ap (λ ps. make ps a.results) (values.types-eq a.params b.params both.0) ∙ ap (λ rs. make b.params rs) (values.types-eq a.results b.results both.1)

types-refl : (a : FuncType) → IsTrue (is_same_func_type a a)
types-refl a =
    both-and (are_same_types a.params a.params) (are_same_types a.results a.results) (values.types-refl a.params) (values.types-refl a.results)

pub eq-types : (a b : FuncType) → a ≡ b → IsTrue (is_same_func_type a b)
eq-types a b e = subst (λ c. IsTrue (is_same_func_type a c)) e (types-refl a)
