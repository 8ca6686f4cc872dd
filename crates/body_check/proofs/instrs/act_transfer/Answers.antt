use Rattle.std.proofs.Common.{◌≡◌, ◌∷◌, reverse, slice_get, Ok, sym, ap, ◌∙◌, option_map, Some}
use Rattle.std.specs.List.{All}
use Rattle.wasm_values.specs.declared.number.ValType.TheVariants.{I32}
use Rattle.wasm_syntax.specs.declared.instr.Instr as source
use Rattle.wasm_syntax.specs.Items.{instr_seen}
use Rattle.wasm_syntax.specs.declared.module.FuncType.{FuncType}
use Rattle.wasm_typing.specs.Typing.{types_of, Turns, Takes}
use Rattle.body_check.specs.words.Operands.{Are}
use Rattle.body_check.specs.words.Steps.{context_in, labels_in}
use Rattle.body_check.proofs.ActLemmas.{acts_as, looked_up, looked_up_with, ready_along, same_then, same_turns, guarded, targets_there, table_there}
use Rattle.body_check.proofs.instrs.act_transfer.Goals as goal

pub returns-in-Some-label_at-clause-goes : goal.returns-in-Some-label_at-clause-goes
returns-in-Some-label_at-clause-goes c =
    acts_as c.keep_with.result (Are c.args.operands.now) (Are c.keep_with.new.self) (Turns (I32 ∷ types_of c.in-Some-label_at.ty) (types_of c.in-Some-label_at.ty)) (context_in c.args.names.now) (labels_in c.args.labels.now) (instr_seen c.args.instr) (source.BrIf c.in-BrIf.l) (ap instr_seen c.in-BrIf.is) (looked_up (slice_get (labels_in c.args.labels.now) c.in-BrIf.l) (types_of c.in-Some-label_at.ty) (λ ts. Turns (I32 ∷ ts) ts) (sym c.label_at-in-BrIf.ensures ∙ ap (option_map types_of) c.in-Some-label_at.is)) c.keep_with.ensures.goes

pub returns-in-Some-label_at-2-clause-goes : goal.returns-in-Some-label_at-2-clause-goes
returns-in-Some-label_at-2-clause-goes c =
    acts_as (Ok c.choose_with.result) (Are c.args.operands.now) (Are c.choose_with.new.self) (λ ins outs. Takes (I32 ∷ types_of c.in-Some-label_at-2.ty) ins) (context_in c.args.names.now) (labels_in c.args.labels.now) (instr_seen c.args.instr) (source.BrTable c.in-BrTable.field-0.now c.in-BrTable.l) (ap instr_seen c.in-BrTable.is) (looked_up_with (slice_get (labels_in c.args.labels.now) c.in-BrTable.l) (types_of c.in-Some-label_at-2.ty) (λ ts. All (λ k. slice_get (labels_in c.args.labels.now) k ≡ Some ts) c.in-BrTable.field-0.now) (λ ts ins outs. Takes (I32 ∷ ts) ins) (sym c.label_at-in-BrTable.ensures ∙ ap (option_map types_of) c.in-Some-label_at-2.is) (targets_there (context_in c.args.names.now) (labels_in c.args.labels.now) c.in-BrTable.field-0.now c.in-BrTable.l (types_of c.in-Some-label_at-2.ty) (ready_along (context_in c.args.names.now) (labels_in c.args.labels.now) (instr_seen c.args.instr) (source.BrTable c.in-BrTable.field-0.now c.in-BrTable.l) (ap instr_seen c.in-BrTable.is) c.requires.ready) (sym c.label_at-in-BrTable.ensures ∙ ap (option_map types_of) c.in-Some-label_at-2.is))) c.choose_with.ensures.goes

pub returns-in-Some-func_type-clause-goes : goal.returns-in-Some-func_type-clause-goes
returns-in-Some-func_type-clause-goes c =
    acts_as c.turn.result (Are c.args.operands.now) (Are c.turn.new.self) (Turns (reverse c.as_slice.result.now) (reverse c.as_slice-in-Some-func_type.result.now)) (context_in c.args.names.now) (labels_in c.args.labels.now) (instr_seen c.args.instr) (source.Call c.in-Call.f) (ap instr_seen c.in-Call.is) (same_then _ _ _ (same_turns _ _ _ _ (ap reverse c.as_slice.ensures) (ap reverse c.as_slice-in-Some-func_type.ensures)) (looked_up (slice_get (context_in c.args.names.now).funcs c.in-Call.f) c.in-Some-func_type.ty.now (λ (ty : FuncType). Turns (reverse ty.params) (reverse ty.results)) (sym c.func_type.ensures ∙ ap (option_map (λ ty. ty.now)) c.in-Some-func_type.is))) c.turn.ensures.goes

pub returns-in-Some-numbered_type-clause-goes : goal.returns-in-Some-numbered_type-clause-goes
returns-in-Some-numbered_type-clause-goes c =
    acts_as c.turn_over.result (Are c.args.operands.now) (Are c.turn_over.new.operands) (Turns (I32 ∷ reverse c.as_slice-in-Some-numbered_type.result.now) (reverse c.as_slice-in-Some-numbered_type-2.result.now)) (context_in c.args.names.now) (labels_in c.args.labels.now) (instr_seen c.args.instr) (source.CallIndirect c.in-CallIndirect.t) (ap instr_seen c.in-CallIndirect.is) (same_then _ _ _ (same_then _ _ _ (same_turns _ _ _ _ (ap (λ xs. I32 ∷ reverse xs) c.as_slice-in-Some-numbered_type.ensures) (ap reverse c.as_slice-in-Some-numbered_type-2.ensures)) (looked_up (slice_get (context_in c.args.names.now).types c.in-CallIndirect.t) c.in-Some-numbered_type.ty.now (λ (ty : FuncType). Turns (I32 ∷ reverse ty.params) (reverse ty.results)) (sym c.numbered_type.ensures ∙ ap (option_map (λ ty. ty.now)) c.in-Some-numbered_type.is))) (guarded _ _ (table_there (context_in c.args.names.now) (labels_in c.args.labels.now) c.in-CallIndirect.t (ready_along (context_in c.args.names.now) (labels_in c.args.labels.now) (instr_seen c.args.instr) (source.CallIndirect c.in-CallIndirect.t) (ap instr_seen c.in-CallIndirect.is) c.requires.ready)))) c.turn_over.ensures.goes
