use Rattle.std.proofs.Common.{sym, ap, ◌∙◌}
use Rattle.outline_rules.specs.States.{nodes_of}
use Rattle.heap_logic.specs.Faults.{refusal_of}
use Rattle.heap_logic.proofs.Applied.{seen-kept, applied, nodes-applied, heap-applied, widths-applied, facts-applied, variables-applied, refused-plan}
use Rattle.heap_logic.proofs.applying.apply.Goals as goal

pub returns-in-Err-clause-moved : goal.returns-in-Err-clause-moved
returns-in-Err-clause-moved c gs =
    refused-plan c.args.table.now c.planned.new.table c.args.heap.now c.args.slots.now c.requires.slots c.args.m.now gs (refusal_of c.in-Err.fault) c.in-Err.ensures.planned

pub commit-requires-clause-nodes : goal.commit-requires-clause-nodes
commit-requires-clause-nodes c =
    c.requires.nodes ∙ ap nodes_of (sym (seen-kept c.args.table.now c.planned.new.table c.in-Ok.ensures.kept c.args.heap.now c.args.slots.now c.requires.heap c.requires.leaves))

pub returns-in-Ok-clause-moved : goal.returns-in-Ok-clause-moved
returns-in-Ok-clause-moved c =
    applied c.args.table.now c.planned.new.table c.in-Ok.ensures.kept c.args.heap.now c.commit.new.heap c.args.slots.now c.requires.slots c.requires.heap c.requires.leaves c.args.m.now c.in-Ok.change c.in-Ok.ensures.within c.in-Ok.ensures.planned
    c.commit.result c.commit.ensures.limits c.commit.ensures.ok

pub returns-in-Ok-clause-nodes : goal.returns-in-Ok-clause-nodes
returns-in-Ok-clause-nodes c =
    nodes-applied c.args.table.now c.planned.new.table c.in-Ok.ensures.kept c.args.heap.now c.commit.new.heap c.args.slots.now c.requires.slots c.requires.heap c.requires.leaves c.args.m.now c.in-Ok.change c.in-Ok.ensures.within c.in-Ok.ensures.planned
    c.commit.result c.commit.ensures.nodes c.commit.ensures.ok

pub returns-in-Ok-clause-within : goal.returns-in-Ok-clause-within
returns-in-Ok-clause-within c =
    heap-applied c.args.table.now c.planned.new.table c.in-Ok.ensures.kept c.args.heap.now c.commit.new.heap c.args.slots.now c.requires.slots c.requires.heap c.requires.leaves c.args.m.now c.in-Ok.change c.in-Ok.ensures.within c.in-Ok.ensures.planned
    c.commit.result c.commit.ensures.ok c.commit.ensures.err

pub returns-in-Ok-clause-widths : goal.returns-in-Ok-clause-widths
returns-in-Ok-clause-widths c =
    widths-applied c.args.table.now c.planned.new.table c.in-Ok.ensures.kept c.args.heap.now c.commit.new.heap c.args.slots.now c.requires.slots c.requires.heap c.requires.leaves c.args.m.now c.in-Ok.change c.in-Ok.ensures.within c.in-Ok.ensures.planned
    c.requires.widths c.commit.result c.commit.ensures.ok c.commit.ensures.err

pub returns-in-Ok-clause-facts : goal.returns-in-Ok-clause-facts
returns-in-Ok-clause-facts c =
    facts-applied c.args.table.now c.planned.new.table c.in-Ok.ensures.kept c.args.heap.now c.commit.new.heap c.args.slots.now c.requires.slots c.requires.heap c.requires.leaves c.args.m.now c.in-Ok.change c.in-Ok.ensures.within c.in-Ok.ensures.planned
    c.commit.result c.commit.ensures.ok

pub returns-in-Ok-clause-variables : goal.returns-in-Ok-clause-variables
returns-in-Ok-clause-variables c =
    variables-applied c.args.table.now c.planned.new.table c.in-Ok.ensures.kept c.args.heap.now c.commit.new.heap c.args.slots.now c.requires.slots c.requires.heap c.requires.leaves c.args.m.now c.in-Ok.change c.in-Ok.ensures.within c.in-Ok.ensures.planned
    c.commit.result c.commit.ensures.ok
