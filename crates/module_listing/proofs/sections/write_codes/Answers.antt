use Rattle.std.proofs.Common.{◌≡◌, ◌++◌, ◌+◌, ◌<◌, refl, ap, ◌∙◌, length, arith}
use Rattle.module_listing.specs.Listing.{func_code_text}
use Rattle.module_listing.proofs.Steps.{no_code, next_code, read_of}
use Rattle.module_listing.proofs.sections.write_codes.Goals as goal

pub loop-i-init : goal.loop-i-init
loop-i-init c = no_code c.imported_funcs-first.result c.args.out.now

pub write_func_code-requires : goal.write_func_code-requires
write_func_code-requires c =
    let within : c.loop-i.i < length c.as_slice-places.result.now =
    omega (arith, c.loop-i-test.true, c.requires.code, ap length c.as_slice-places.ensures, ap length c.as_slice-func-items.ensures) in
    ap length c.as_slice-in-loop-i.ensures ∙
    c.requires.items c.loop-i.i c.func-item.result c.index-places-i.result
    (read_of c.as_slice-func-items.result.now _ c.loop-i.i _ c.as_slice-func-items.ensures c.loop-i-test.true c.func-item.is)
    (read_of c.as_slice-places.result.now _ c.loop-i.i _ c.as_slice-places.ensures within c.index-places-i.is)

pub loop-i-preserved : goal.loop-i-preserved
loop-i-preserved c =
    let within : c.loop-i.i < length c.as_slice-places.result.now =
    omega (arith, c.loop-i-test.true, c.requires.code, ap length c.as_slice-places.ensures, ap length c.as_slice-func-items.ensures) in
    let written : c.write_func_code.new.out ≡ c.loop-i.out ++ func_code_text (c.imported_funcs-first.result + c.loop-i.i) c.index-places-i.result c.func-item.result =
    c.in_ok-write_func_code.ensures ∙ ap (λ places. c.loop-i.out ++ func_code_text (c.imported_funcs-first.result + c.loop-i.i) places c.func-item.result) c.as_slice-in-loop-i.ensures in
    next_code c.imported_funcs-first.result c.args.out.now c.loop-i.out c.write_func_code.new.out c.as_slice-places.result.now c.args.module.now.funcs c.loop-i.i c.index-places-i.result c.func-item.result
    (read_of c.as_slice-places.result.now _ c.loop-i.i _ refl within c.index-places-i.is)
    (read_of c.as_slice-func-items.result.now _ c.loop-i.i _ c.as_slice-func-items.ensures c.loop-i-test.true c.func-item.is)
    c.loop-i.invariant written
