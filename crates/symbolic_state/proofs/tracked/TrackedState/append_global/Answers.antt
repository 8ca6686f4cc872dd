use Rattle.std.proofs.Common.{rules, ◌+◌, ◌≤◌, arith}
use Rattle.term_trees.specs.Terms.{node_count}
use Rattle.term_logic.specs.Table.{tree_at}
use Rattle.outline_rules.specs.States.{nodes_of}
use Rattle.symbolic_state.specs.States.{state_of}
use Rattle.symbolic_state.proofs.Entered.{stable-grown}
use Rattle.symbolic_state.proofs.tracked.TrackedState.append_global.Goals as goal

pub invariant_of-self-2 : goal.invariant_of-self-2
invariant_of-self-2 c =
    stable-grown c.self.inside c.self.invariant c.push.new.self (c.self.inside.nodes + c.nodes_of-nodes.result) (let room : nodes_of (state_of c.self.inside.table c.self.inside.state) + node_count (tree_at c.self.inside.table c.args.id) ≤ 1000000 = search rules in omega (arith, room, c.self.invariant.nodes, c.nodes_of-nodes.ensures.count)) c.args.id
    (search rules) (search rules) (omega (arith, c.nodes_of-nodes.ensures.count))
