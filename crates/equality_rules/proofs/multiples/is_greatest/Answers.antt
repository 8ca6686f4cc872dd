use Rattle.std.proofs.Common.{rules, ◌≡◌, ◌&&◌, pos, nat_eq, true, of_z, ap, ◌∙◌, sym}
use Rattle.std.specs.Prelude.{int_le}
use Rattle.std.specs.Int.{int_div_euclid}
use Rattle.std.specs.Ordering.{int_eq}
use mir.Syntax.{w128}
use Rattle.equality_rules.specs.Equality.{is_greatest}
use Rattle.equality_rules.proofs.Quotients.{greatest_is}
use Rattle.equality_rules.proofs.multiples.is_greatest.Goals as goal

pub returns-then-d-ge1 : goal.returns-then-d-ge1
returns-then-d-ge1 c =
    let some : int_le (pos 1) c.args.d ≡ true = search rules in
    let compared : nat_eq (of_z w128 c.args.q) (of_z w128 c.div_euclid.result) ≡ int_eq c.args.q c.div_euclid.result = search rules in
    let divided : c.div_euclid.result ≡ int_div_euclid c.args.n c.args.d = search rules in
    compared ∙ ap (int_eq c.args.q) divided ∙ greatest_is c.args.d c.args.n c.args.q some ∙ sym (ap (λ b. b && is_greatest c.args.d c.args.n c.args.q) some)
