use Rattle.std.proofs.Common.{sym, ◌∙◌}
use Rattle.wasm_syntax.specs.Items.{instr_seen}
use Rattle.wasm_syntax.proofs.SeenLemmas.{simple_seen}
use Rattle.body_check.specs.words.Operands.{Are}
use Rattle.body_check.specs.words.Steps.{context_in, labels_in}
use Rattle.body_check.proofs.ActLemmas.{need_stuck}
use Rattle.body_check.proofs.instrs.step.Goals as goal

pub returns-in-Some-clause-goes : goal.returns-in-Some-clause-goes
returns-in-Some-clause-goes c =
    need_stuck (Are c.args.operands.now) (context_in c.args.names.now) (labels_in c.args.labels.now) (instr_seen c.args.instr) c.in-Some.word (simple_seen c.args.instr) (sym c.first_need.ensures ∙ c.in-Some.is)
