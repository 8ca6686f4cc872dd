use Rattle.std.proofs.Common.{◌≡◌, Some, ◌++◌, refl, sym, ap, ◌∙◌, slice_get}
use Rattle.std.specs.Option.{option_copied}
use Rattle.wasm_values.specs.Types.{zeros_of}
use Rattle.wasm_store.specs.declared.config.CodeFrame.{CodeFrame}
use Rattle.wasm_store.specs.Seen.{func_of}
use Rattle.wasm_store.proofs.FrameLaws.{same_inst, code_frame, host_frame}
use Rattle.wasm_store.proofs.enter.make_frame.Goals as goal

pub returns-in_ok-add_zeros-in-Code : goal.returns-in_ok-add_zeros-in-Code
returns-in_ok-add_zeros-in-Code c = λ inst there.
    let s = c.args.store.now in
    let a = c.args.address in
    let fn = c.unwrap-func.result.now in
    let x = c.in-Code in
    let is = same_inst s.funcs c.as_slice.result.now a c.index-as_slice-address.result inst c.index-as_slice-address.is c.as_slice.ensures there ∙ x.is in
    let found : func_of s.instances (slice_get s.funcs a) ≡ Some fn = sym c.func_at.ensures ∙ ap option_copied c.unwrap-func.ensures in
    let f : CodeFrame = record { instance = x.instance; func = a; locals = c.add_zeros.new.locals; operands = c.new.result; labels = c.new-in-Code.result; position = 0 } in
    let locals = c.in_ok-add_zeros-in-Code.ensures ∙ ap (λ ts. c.args.args ++ zeros_of ts) c.as_slice-in-Code.ensures in
    code_frame s.funcs s.instances a inst fn f c.args.args x.ty x.instance x.code there is found refl refl locals c.new.ensures c.new-in-Code.ensures refl

pub returns-in-Host : goal.returns-in-Host
returns-in-Host c = λ inst there.
    let s = c.args.store.now in
    let a = c.args.address in
    let is = same_inst s.funcs c.as_slice.result.now a c.index-as_slice-address.result inst c.index-as_slice-address.is c.as_slice.ensures there ∙ c.in-Host.is in
    host_frame s.instances a inst c.args.args c.new-in-Host.result c.in-Host.ty is c.new-in-Host.ensures
