use Rattle.std.proofs.Common.{length, [], ◌∷◌, None, ap, ◌∙◌, arith}
use Rattle.std.proofs.lemmas.List.{length-append}
use Rattle.wasm_syntax.specs.declared.instr.Instr.TheVariants as instr
use Rattle.wasm_syntax.specs.declared.flat.Flat.TheVariants.{End}
use Rattle.wasm_syntax.specs.FlatForm.{flat}
use Rattle.wasm_syntax.proofs.FlatLemmas.{flat_of-If, length-flat-push}
use Rattle.layer_tests.proofs.code.put_if.Goals as goal

pub returns : goal.returns
returns c =
    let all = ap (λ is. length (flat is)) c.in_ok-push.ensures.ok ∙ length-flat-push c.args.list.now (instr.If None c.args.inside None) in
    let part = ap length (flat_of-If None c.args.inside) in
    omega (arith, length-append (flat c.args.inside) (End ∷ []))
