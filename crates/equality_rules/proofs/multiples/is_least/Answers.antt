use Rattle.std.proofs.Common.{rules, ◌≡◌, ◌&&◌, ℤ, ◌+ℤ◌, pos, nat_eq, true, of_z, ap, ◌∙◌, sym}
use Rattle.std.specs.Prelude.{int_le}
use Rattle.std.specs.Int.{int_div_euclid, int_rem_euclid}
use Rattle.std.specs.Ordering.{int_eq}
use mir.Syntax.{w128}
use Rattle.equality_rules.specs.Equality.{is_least}
use Rattle.equality_rules.proofs.Quotients.{least_is, least_next}
use Rattle.equality_rules.proofs.multiples.is_least.Goals as goal

pub returns-then-rem_euclid-eq0 : goal.returns-then-rem_euclid-eq0
returns-then-rem_euclid-eq0 c =
    let some : int_le (pos 1) c.args.d ≡ true = search rules in
    let compared : nat_eq (of_z w128 c.args.q) (of_z w128 c.div_euclid-quotient.result) ≡ int_eq c.args.q c.div_euclid-quotient.result = search rules in
    let none : int_rem_euclid c.args.n c.args.d ≡ pos 0 = search rules in
    let divided : c.div_euclid-quotient.result ≡ int_div_euclid c.args.n c.args.d = search rules in
    compared ∙ ap (int_eq c.args.q) divided ∙ least_is c.args.d c.args.n c.args.q some none ∙ sym (ap (λ b. b && is_least c.args.d c.args.n c.args.q) some)

pub returns-else-rem_euclid-eq0 : goal.returns-else-rem_euclid-eq0
returns-else-rem_euclid-eq0 c =
    let some : int_le (pos 1) c.args.d ≡ true = search rules in
    let other : int_rem_euclid c.args.n c.args.d ≡ pos 0 → ⊥ = search rules in
    let divided : c.div_euclid-quotient.result ≡ int_div_euclid c.args.n c.args.d = search rules in
    let next : c.is_next.result ≡ int_eq (c.div_euclid-quotient.result +ℤ pos 1) c.args.q = search rules in
    next ∙ ap (λ (k : ℤ). int_eq (k +ℤ pos 1) c.args.q) divided ∙ least_next c.args.d c.args.n c.args.q some other ∙ sym (ap (λ b. b && is_least c.args.d c.args.n c.args.q) some)
