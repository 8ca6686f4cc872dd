use Rattle.std.proofs.Common.{SFits, w64}
use Rattle.wasm_values.proofs.SignedLemmas.{Reads, rest-low, rest-high, remainder-is}
use Rattle.wasm_values.proofs.width.Width.remainder.Goals as goal

pub unsigned-requires-clause-low : goal.unsigned-requires-clause-low
unsigned-requires-clause-low g c =
    let r : Reads g.row.BITS c.args.a c.signed.result = record { below = c.requires.left; value = c.signed.ensures.value; low = c.signed.ensures.low; high = c.signed.ensures.high } in
    let s : Reads g.row.BITS c.args.b c.signed-2.result = record { below = c.requires.right; value = c.signed-2.ensures.value; low = c.signed-2.ensures.low; high = c.signed-2.ensures.high } in
    let f : SFits w64 c.wrapping_rem-rest.result = record { sfits = c.wrapping_rem-rest.type_inv } in
    rest-low g.row.BITS c.args.a c.args.b c.signed.result c.signed-2.result c.wrapping_rem-rest.result c.requires.width r s f c.wrapping_rem-rest.ensures

pub unsigned-requires-clause-high : goal.unsigned-requires-clause-high
unsigned-requires-clause-high g c =
    let r : Reads g.row.BITS c.args.a c.signed.result = record { below = c.requires.left; value = c.signed.ensures.value; low = c.signed.ensures.low; high = c.signed.ensures.high } in
    let s : Reads g.row.BITS c.args.b c.signed-2.result = record { below = c.requires.right; value = c.signed-2.ensures.value; low = c.signed-2.ensures.low; high = c.signed-2.ensures.high } in
    let f : SFits w64 c.wrapping_rem-rest.result = record { sfits = c.wrapping_rem-rest.type_inv } in
    rest-high g.row.BITS c.args.a c.args.b c.signed.result c.signed-2.result c.wrapping_rem-rest.result c.requires.width r s f c.wrapping_rem-rest.ensures

pub returns : goal.returns
returns g c =
    let r : Reads g.row.BITS c.args.a c.signed.result = record { below = c.requires.left; value = c.signed.ensures.value; low = c.signed.ensures.low; high = c.signed.ensures.high } in
    let s : Reads g.row.BITS c.args.b c.signed-2.result = record { below = c.requires.right; value = c.signed-2.ensures.value; low = c.signed-2.ensures.low; high = c.signed-2.ensures.high } in
    let f : SFits w64 c.wrapping_rem-rest.result = record { sfits = c.wrapping_rem-rest.type_inv } in
    remainder-is g.row.BITS c.args.a c.args.b c.signed.result c.signed-2.result c.wrapping_rem-rest.result c.requires.width r s f c.wrapping_rem-rest.ensures c.unsigned.result c.if-b-eq0.false c.unsigned.ensures
