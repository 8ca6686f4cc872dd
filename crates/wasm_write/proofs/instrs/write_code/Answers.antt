use Rattle.std.proofs.Common.{◌++◌, sym, ap, ◌∙◌}
use Rattle.wasm_syntax.specs.FlatForm.{flat_body}
use Rattle.wasm_write.specs.Encoding.{item_text}
use Rattle.wasm_write.proofs.Written.{wrote_next}
use Rattle.wasm_write.proofs.instrs.write_code.Goals as goal

pub loop-i-preserved : goal.loop-i-preserved
loop-i-preserved c =
    wrote_next c.args.out.now c.loop-i.out c.write_item.new.out (flat_body c.args.code.now) c.loop-i.i c.at.result.now c.loop-i.invariant c.at.ensures.item (c.in_ok-write_item.ensures ∙ ap (λ x. c.loop-i.out ++ item_text x) (sym c.seen.ensures))
