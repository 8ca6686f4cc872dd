use Rattle.std.proofs.Common.{ap, sym, ◌∙◌, Some, arith}
use Rattle.wasm_syntax.specs.Items.{instr_seen}
use Rattle.wasm_syntax.proofs.SeenLemmas.{one_seen}
use Rattle.outline_check.proofs.WalkLemmas.{length-simple, instr-read, no_other_item}
use Rattle.outline_check.proofs.walk.instr_at.Goals as goal

pub at-requires : goal.at-requires
at-requires c = omega (arith, length-simple c.args.code.now c.requires.simple)

pub unreachable-requires : goal.unreachable-requires
unreachable-requires c =
    no_other_item c.args.code.now c.args.i c.at.result.now c.requires.simple c.requires.within c.at.ensures.item (λ instr e. let one = one_seen c.seen.result instr (sym c.seen.ensures ∙ e) in c.in_default.not-One one.0 one.1)

pub returns : goal.returns
returns c =
    instr-read c.args.code.now c.args.i (instr_seen c.in-One.instr) c.requires.simple c.requires.within
    (c.at.ensures.item ∙ ap Some c.in-One.ensures)
