use Rattle.std.proofs.Common.{◌<◌, length, get_or, arith}
use Rattle.std.proofs.lemmas.Option.{slice_get-get_or, slice_get_within}
use Rattle.wasm_syntax.specs.FlatForm.{flat_body}
use Rattle.module_listing.proofs.Steps.{no_items, next_item}
use Rattle.module_listing.proofs.instrs.write_code.Goals as goal

pub loop-i-init : goal.loop-i-init
loop-i-init c = no_items c.args.out.now

pub loop-i-preserved : goal.loop-i-preserved
loop-i-preserved c =
    let within : c.loop-i.i < length (flat_body c.args.code.now) = slice_get_within _ _ _ c.at.ensures.item in
    let inside : c.loop-i.i < length c.args.places.now = omega (arith, within, c.requires) in
    next_item c.args.out.now c.loop-i.out c.write_line.new.out c.args.places.now (flat_body c.args.code.now) c.loop-i.i (get_or c.args.places.now c.loop-i.i 0) c.at.result.now
    (slice_get-get_or c.args.places.now c.loop-i.i 0 inside) c.at.ensures.item c.loop-i.invariant c.in_ok-write_line.ensures
