use Rattle.std.proofs.Common.{◌∙◌, sym, ap, [], true, Ok}
use Rattle.std.proofs.lemmas.List.{length-map}
use Rattle.term_logic.specs.Formulas.{formula_of}
use Rattle.heap_logic.specs.Heaps.{chunk_of}
use Rattle.outline_rules.specs.States.{State, settled}
use Rattle.outline_rules.specs.Refusals.{Ruling, ◌>>◌}
use Rattle.heap_logic.proofs.Binds.{stops_here, refused_later}
use Rattle.symbolic_state.specs.Refused.{refusal_of}
use Rattle.symbolic_state.specs.States.{state_of}
use Rattle.symbolic_state.specs.words.Limits.{limits}
use Rattle.symbolic_state.proofs.Sized.{counted-is}
use Rattle.symbolic_state.proofs.parts.state_within.Goals as goal

pub returns-in-Ok-clause-done : goal.returns-in-Ok-clause-done
returns-in-Ok-clause-done c =
    let s : State = state_of c.args.table.now c.args.state.now in
    counted-is s c.len.result c.len-2.result c.state_size-nodes.result (c.len.ensures ∙ sym (length-map c.args.state.now.heap.facts (formula_of c.args.table.now))) (c.len-2.ensures ∙ sym (length-map c.args.state.now.heap.chunks (chunk_of c.args.table.now))) c.state_size-nodes.ensures
    ∙ ap (λ (q : Ruling (Unit {0})). q >> Ok s) c.in-Ok.ensures

pub returns-in-Err-clause-done : goal.returns-in-Err-clause-done
returns-in-Err-clause-done c =
    let s : State = state_of c.args.table.now c.args.state.now in
    refused_later (refusal_of c.in-Err.refused) (settled [] s) (limits true s.vars c.len.result c.len-2.result c.state_size-nodes.result >> Ok s)
    (counted-is s c.len.result c.len-2.result c.state_size-nodes.result (c.len.ensures ∙ sym (length-map c.args.state.now.heap.facts (formula_of c.args.table.now))) (c.len-2.ensures ∙ sym (length-map c.args.state.now.heap.chunks (chunk_of c.args.table.now))) c.state_size-nodes.ensures)
    (stops_here _ (Ok s) (refusal_of c.in-Err.refused) c.in-Err.ensures)
