-- The tests of leaves that code makes.
use Rattle.notes_tests.specs.declared.reasons.Leaves.{Leaves}
use Rattle.notes_tests.specs.declared.reasons.RowLeaves.{RowLeaves}
use Rattle.outline_rules.specs.Tests.{LeafTest, leaf_test, row_test}

-- the test of an assertion with these leaves
abbrev pub leaves_test : Leaves → LeafTest
leaves_test l = leaf_test l.setting.now l.own l.args l.has_result

-- the test of a row's formula in it
abbrev pub row_leaves_test : RowLeaves → LeafTest
row_leaves_test r = row_test (leaves_test r.around.now)
