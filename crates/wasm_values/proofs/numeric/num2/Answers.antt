use Rattle.std.proofs.Common.{◌<◌, ◌^◌, ◌≡◌, Some, inl, refl, sym, ◌∙◌, rules, subst}
use Rattle.std.specs.Prelude.{IfSome}
use Rattle.wasm_values.proofs.RangeLaws.{binary-lt}
use Rattle.wasm_values.specs.Operators.{binary}
use Rattle.wasm_values.proofs.numeric.num2.Goals as goal

pub narrow-requires : goal.narrow-requires
narrow-requires c =
    let given : binary 32 c.in-W32-I32-I32.op c.from.result c.from-in-W32-I32-I32.result ≡ Some c.in_ok-given-in-W32-I32-I32.given =
    sym c.two.ensures ∙ c.in_ok-given-in-W32-I32-I32.was in
    subst (λ o. IfSome o (λ r. r < 2 ^ 32)) given (binary-lt 32 c.in-W32-I32-I32.op c.from.result c.from-in-W32-I32-I32.result (inl refl) (search rules) (search rules))
