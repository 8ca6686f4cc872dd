use Rattle.std.proofs.Common.{◌+◌, length, ap, ◌∙◌}
use Rattle.wasm_syntax.specs.FlatForm.{flat}
use Rattle.wasm_syntax.proofs.FlatLemmas.{flat_of-simple, length-flat-push}
use Rattle.layer_tests.proofs.code.put.Goals as goal

pub returns : goal.returns
returns c =
    ap (λ is. length (flat is)) c.in_ok-push.ensures.ok ∙ length-flat-push c.args.list.now c.args.instr ∙
    ap (λ xs. length (flat c.args.list.now) + length xs) (flat_of-simple c.args.instr c.requires)
