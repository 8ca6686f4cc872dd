use Rattle.std.proofs.Common.{[], ◌∷◌, ap, refl}
use Rattle.wasm_values.specs.declared.number.ValType.TheVariants.{I32}
use Rattle.wasm_values.specs.Operators.{type_of, result_type}
use Rattle.wasm_syntax.specs.declared.instr.Instr as source
use Rattle.wasm_syntax.specs.Items.{instr_seen}
use Rattle.wasm_typing.specs.Typing.{num_takes, Turns}
use Rattle.body_check.specs.words.Operands.{Are}
use Rattle.body_check.specs.words.Steps.{context_in, labels_in}
use Rattle.body_check.proofs.ActLemmas.{acts_as, same_self, same_turns, same_load, same_store, ready_along}
use Rattle.body_check.proofs.instrs.act.Goals as goal

pub returns-in-Num-clause-goes : goal.returns-in-Num-clause-goes
returns-in-Num-clause-goes c =
    acts_as c.act_num.result (Are c.args.operands.now) (Are c.act_num.new.operands) (Turns (num_takes c.in-Num.op) (result_type c.in-Num.op ∷ [])) (context_in c.args.names.now) (labels_in c.args.labels.now) (instr_seen c.args.instr) (source.Num c.in-Num.op) (ap instr_seen c.in-Num.is) (same_self _) c.act_num.ensures.goes

pub returns-in-Const-clause-goes : goal.returns-in-Const-clause-goes
returns-in-Const-clause-goes c =
    acts_as c.turn.result (Are c.args.operands.now) (Are c.turn.new.self) (Turns [] (c.ty.result ∷ [])) (context_in c.args.names.now) (labels_in c.args.labels.now) (instr_seen c.args.instr) (source.Const c.in-Const.value) (ap instr_seen c.in-Const.is) (same_turns [] [] _ (type_of c.in-Const.value ∷ []) refl (ap (λ t. t ∷ []) c.ty.ensures)) c.turn.ensures.goes

pub returns-in-Load-clause-goes : goal.returns-in-Load-clause-goes
returns-in-Load-clause-goes c =
    acts_as c.turn-in-Load.result (Are c.args.operands.now) (Are c.turn-in-Load.new.self) (Turns (I32 ∷ []) (c.loaded_type.result ∷ [])) (context_in c.args.names.now) (labels_in c.args.labels.now) (instr_seen c.args.instr) (source.Load c.in-Load.op c.in-Load.field-1 c.in-Load.field-2) (ap instr_seen c.in-Load.is) (same_load (context_in c.args.names.now) (labels_in c.args.labels.now) c.in-Load.op c.in-Load.field-1 c.in-Load.field-2 c.loaded_type.result c.loaded_type.ensures (ready_along (context_in c.args.names.now) (labels_in c.args.labels.now) (instr_seen c.args.instr) (source.Load c.in-Load.op c.in-Load.field-1 c.in-Load.field-2) (ap instr_seen c.in-Load.is) c.requires.ready)) c.turn-in-Load.ensures.goes

pub returns-in-Store-clause-goes : goal.returns-in-Store-clause-goes
returns-in-Store-clause-goes c =
    acts_as c.turn-in-Store.result (Are c.args.operands.now) (Are c.turn-in-Store.new.self) (Turns (c.stored_type.result ∷ I32 ∷ []) []) (context_in c.args.names.now) (labels_in c.args.labels.now) (instr_seen c.args.instr) (source.Store c.in-Store.op c.in-Store.field-1 c.in-Store.field-2) (ap instr_seen c.in-Store.is) (same_store (context_in c.args.names.now) (labels_in c.args.labels.now) c.in-Store.op c.in-Store.field-1 c.in-Store.field-2 c.stored_type.result c.stored_type.ensures (ready_along (context_in c.args.names.now) (labels_in c.args.labels.now) (instr_seen c.args.instr) (source.Store c.in-Store.op c.in-Store.field-1 c.in-Store.field-2) (ap instr_seen c.in-Store.is) c.requires.ready)) c.turn-in-Store.ensures.goes
