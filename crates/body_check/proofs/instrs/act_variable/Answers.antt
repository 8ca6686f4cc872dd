use Rattle.std.proofs.Common.{◌≡◌, [], ◌∷◌, slice_get, true, sym, ap, ◌∙◌}
use Rattle.wasm_values.specs.declared.number.ValType.{ValType}
use Rattle.wasm_syntax.specs.declared.instr.Instr as source
use Rattle.wasm_syntax.specs.Items.{instr_seen}
use Rattle.wasm_syntax.specs.declared.module.GlobalType.{GlobalType}
use Rattle.wasm_typing.specs.Typing.{Turns}
use Rattle.body_check.specs.words.Operands.{Are}
use Rattle.body_check.specs.words.Steps.{context_in, labels_in}
use Rattle.body_check.proofs.ActLemmas.{acts_as, looked_up, looked_up_with, ready_along, set_mutable}
use Rattle.body_check.proofs.instrs.act_variable.Goals as goal

pub returns-in-Some-clause-goes : goal.returns-in-Some-clause-goes
returns-in-Some-clause-goes c =
    acts_as c.turn.result (Are c.args.operands.now) (Are c.turn.new.self) (Turns [] (c.in-Some.ty ∷ [])) (context_in c.args.names.now) (labels_in c.args.labels.now) (instr_seen c.args.instr) (source.LocalGet c.in-LocalGet.x) (ap instr_seen c.in-LocalGet.is) (looked_up (slice_get (context_in c.args.names.now).locals c.in-LocalGet.x) c.in-Some.ty (λ (t : ValType). Turns [] (t ∷ [])) (sym c.local_type.ensures ∙ c.in-Some.is)) c.turn.ensures.goes

pub returns-in-Some-local_type-clause-goes : goal.returns-in-Some-local_type-clause-goes
returns-in-Some-local_type-clause-goes c =
    acts_as c.turn-in-Some-local_type.result (Are c.args.operands.now) (Are c.turn-in-Some-local_type.new.self) (Turns (c.in-Some-local_type.ty ∷ []) []) (context_in c.args.names.now) (labels_in c.args.labels.now) (instr_seen c.args.instr) (source.LocalSet c.in-LocalSet.x) (ap instr_seen c.in-LocalSet.is) (looked_up (slice_get (context_in c.args.names.now).locals c.in-LocalSet.x) c.in-Some-local_type.ty (λ (t : ValType). Turns (t ∷ []) []) (sym c.local_type-in-LocalSet.ensures ∙ c.in-Some-local_type.is)) c.turn-in-Some-local_type.ensures.goes

pub returns-in-Some-global_type-clause-goes : goal.returns-in-Some-global_type-clause-goes
returns-in-Some-global_type-clause-goes c =
    acts_as c.turn-in-Some-global_type.result (Are c.args.operands.now) (Are c.turn-in-Some-global_type.new.self) (Turns [] (c.in-Some-global_type.ty.value ∷ [])) (context_in c.args.names.now) (labels_in c.args.labels.now) (instr_seen c.args.instr) (source.GlobalGet c.in-GlobalGet.x) (ap instr_seen c.in-GlobalGet.is) (looked_up (slice_get (context_in c.args.names.now).globals c.in-GlobalGet.x) c.in-Some-global_type.ty (λ (g : GlobalType). Turns [] (g.value ∷ [])) (sym c.global_type.ensures ∙ c.in-Some-global_type.is)) c.turn-in-Some-global_type.ensures.goes

pub returns-in-Some-global_type-2-clause-goes : goal.returns-in-Some-global_type-2-clause-goes
returns-in-Some-global_type-2-clause-goes c =
    acts_as c.turn-in-Some-global_type-2.result (Are c.args.operands.now) (Are c.turn-in-Some-global_type-2.new.self) (Turns (c.in-Some-global_type-2.ty.value ∷ []) []) (context_in c.args.names.now) (labels_in c.args.labels.now) (instr_seen c.args.instr) (source.GlobalSet c.in-GlobalSet.x) (ap instr_seen c.in-GlobalSet.is) (looked_up_with (slice_get (context_in c.args.names.now).globals c.in-GlobalSet.x) c.in-Some-global_type-2.ty (λ (g : GlobalType). g.mutable ≡ true) (λ (g : GlobalType). Turns (g.value ∷ []) []) (sym c.global_type-in-GlobalSet.ensures ∙ c.in-Some-global_type-2.is) (set_mutable (context_in c.args.names.now) (labels_in c.args.labels.now) c.in-GlobalSet.x c.in-Some-global_type-2.ty (ready_along (context_in c.args.names.now) (labels_in c.args.labels.now) (instr_seen c.args.instr) (source.GlobalSet c.in-GlobalSet.x) (ap instr_seen c.in-GlobalSet.is) c.requires.ready) (sym c.global_type-in-GlobalSet.ensures ∙ c.in-Some-global_type-2.is))) c.turn-in-Some-global_type-2.ensures.goes
