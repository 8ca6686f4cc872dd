use Rattle.std.proofs.Common.{◌≡◌, false, sym, ◌∙◌}
use Rattle.wasm_values.proofs.SignedLemmas.{Reads, overflow, divided-low, divided-high, quotient-is}
use Rattle.wasm_values.proofs.width.Width.quotient.Goals as goal

pub unsigned-requires-clause-low : goal.unsigned-requires-clause-low
unsigned-requires-clause-low g c =
    let r : Reads g.row.BITS c.args.a c.signed.result = record { below = c.requires.left; value = c.signed.ensures.value; low = c.signed.ensures.low; high = c.signed.ensures.high } in
    let s : Reads g.row.BITS c.args.b c.signed-2.result = record { below = c.requires.right; value = c.signed-2.ensures.value; low = c.signed-2.ensures.low; high = c.signed-2.ensures.high } in
    let held : overflow g.row.BITS c.args.a c.args.b ≡ false = sym c.overflows.ensures ∙ c.if-overflows.false in
    divided-low g.row.BITS c.args.a c.args.b c.signed.result c.signed-2.result c.requires.width r s held

pub unsigned-requires-clause-high : goal.unsigned-requires-clause-high
unsigned-requires-clause-high g c =
    let r : Reads g.row.BITS c.args.a c.signed.result = record { below = c.requires.left; value = c.signed.ensures.value; low = c.signed.ensures.low; high = c.signed.ensures.high } in
    let s : Reads g.row.BITS c.args.b c.signed-2.result = record { below = c.requires.right; value = c.signed-2.ensures.value; low = c.signed-2.ensures.low; high = c.signed-2.ensures.high } in
    let held : overflow g.row.BITS c.args.a c.args.b ≡ false = sym c.overflows.ensures ∙ c.if-overflows.false in
    divided-high g.row.BITS c.args.a c.args.b c.signed.result c.signed-2.result c.requires.width r s held

pub returns : goal.returns
returns g c =
    let r : Reads g.row.BITS c.args.a c.signed.result = record { below = c.requires.left; value = c.signed.ensures.value; low = c.signed.ensures.low; high = c.signed.ensures.high } in
    let s : Reads g.row.BITS c.args.b c.signed-2.result = record { below = c.requires.right; value = c.signed-2.ensures.value; low = c.signed-2.ensures.low; high = c.signed-2.ensures.high } in
    let held : overflow g.row.BITS c.args.a c.args.b ≡ false = sym c.overflows.ensures ∙ c.if-overflows.false in
    quotient-is g.row.BITS c.args.a c.args.b c.signed.result c.signed-2.result c.requires.width r s held c.unsigned.result c.if-b-eq0.false c.unsigned.ensures
