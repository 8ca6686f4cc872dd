use Rattle.std.proofs.Common.{[], ◌∷◌, Ok, true, ap}
use Rattle.wasm_values.specs.declared.number.ValType.{ValType}
use Rattle.wasm_values.specs.declared.number.ValType.TheVariants.{I32}
use Rattle.wasm_syntax.specs.declared.instr.Plain.TheVariants as plain
use Rattle.wasm_syntax.specs.declared.instr.Instr as source
use Rattle.wasm_typing.specs.declared.fault.ValidWord.TheVariants as word
use Rattle.wasm_typing.specs.Typing.{Turns}
use Rattle.body_check.specs.words.Operands.{Are}
use Rattle.body_check.specs.words.Steps.{context_in, labels_in}
use Rattle.body_check.proofs.OperandLemmas.{are_some, all_are}
use Rattle.body_check.proofs.ActLemmas.{acts_as, same_self, guarded, lt_from, first_holds, ready_along}
use Rattle.body_check.proofs.instrs.act_plain.Goals as goal

pub returns-in-Unreachable-clause-goes : goal.returns-in-Unreachable-clause-goes
returns-in-Unreachable-clause-goes c =
    acts_as (Ok true) (Are c.args.operands.now) (Are c.die.new.self) (λ ins outs. Unit {0}) (context_in c.args.names.now) (labels_in c.args.labels.now) (source.Plain c.args.op) (source.Plain plain.Unreachable) (ap source.Plain c.in-Unreachable.is) (same_self (λ ins outs. Unit {0})) (λ outs q. (let s = are_some c.args.operands.now in (s.0, s.1, tt)), λ ins outs p r. (all_are c.args.operands.now c.die.new.self c.die.ensures outs))

pub returns-in-Drop-clause-goes : goal.returns-in-Drop-clause-goes
returns-in-Drop-clause-goes c =
    acts_as (Ok c.drop_one.result) (Are c.args.operands.now) (Are c.drop_one.new.self) (λ ins outs. (t : ValType) × Turns (t ∷ []) [] ins outs) (context_in c.args.names.now) (labels_in c.args.labels.now) (source.Plain c.args.op) (source.Plain plain.Drop) (ap source.Plain c.in-Drop.is) (same_self _) c.drop_one.ensures.goes

pub returns-in-Select-clause-goes : goal.returns-in-Select-clause-goes
returns-in-Select-clause-goes c =
    acts_as c.select.result (Are c.args.operands.now) (Are c.select.new.self) (λ ins outs. (t : ValType) × Turns (I32 ∷ t ∷ t ∷ []) (t ∷ []) ins outs) (context_in c.args.names.now) (labels_in c.args.labels.now) (source.Plain c.args.op) (source.Plain plain.Select) (ap source.Plain c.in-Select.is) (same_self _) c.select.ensures.goes

pub returns-in-MemorySize-clause-goes : goal.returns-in-MemorySize-clause-goes
returns-in-MemorySize-clause-goes c =
    acts_as c.turn.result (Are c.args.operands.now) (Are c.turn.new.self) (Turns [] (I32 ∷ [])) (context_in c.args.names.now) (labels_in c.args.labels.now) (source.Plain c.args.op) (source.Plain plain.MemorySize) (ap source.Plain c.in-MemorySize.is) (guarded _ _ (lt_from 0 _ (first_holds _ word.Index [] (ready_along (context_in c.args.names.now) (labels_in c.args.labels.now) (source.Plain c.args.op) (source.Plain plain.MemorySize) (ap source.Plain c.in-MemorySize.is) c.requires.ready)))) c.turn.ensures.goes
