use Rattle.std.proofs.Common.{◌≡◌, true, arith, rules}
use Rattle.term_trees.specs.Scopes.{formula_in_scope, given}
use Rattle.outline_rules.specs.Tests.{lemma_variables}
use Rattle.notes_tests.proofs.Passings.{passed_limit, passed_on}
use Rattle.notes_tests.proofs.lemmas.passes.Goals as goal

pub returns-then-formula_nodes-gt4096-clause-passed : goal.returns-then-formula_nodes-gt4096-clause-passed
returns-then-formula_nodes-gt4096-clause-passed c =
    let inside : formula_in_scope (given (lemma_variables c.args.variables)) c.args.formula.now ≡ true = search rules in
    passed_limit c.args.variables c.args.formula.now inside (omega (arith, c.formula_nodes.ensures))

pub returns-clause-passed : goal.returns-clause-passed
returns-clause-passed c =
    let inside : formula_in_scope (given (lemma_variables c.args.variables)) c.args.formula.now ≡ true = search rules in
    passed_on c.args.variables c.args.formula.now inside (omega (arith, c.formula_nodes.ensures))
