use Rattle.std.proofs.Common.{◌≡◌, false, rules}
use Rattle.escape_analysis.specs.Exposure.{is_exposed}
use Rattle.notes_tests.proofs.Tested.{gives_same, tested_on, tested_not}
use Rattle.notes_tests.proofs.contracts.tested_by.Goals as goal

pub returns-in-Ok : goal.returns-in-Ok
returns-in-Ok c =
    let free : is_exposed c.args.setting.now.code c.args.func ≡ false = search rules in
    gives_same c.post_tested.result _ _ (tested_on c.args.setting.now c.args.func c.args.contract.now c.func_type-ty.result.now free c.func_type-ty.ensures _ c.in-Ok.ensures) c.post_tested.ensures

pub returns-in-Err : goal.returns-in-Err
returns-in-Err c =
    let free : is_exposed c.args.setting.now.code c.args.func ≡ false = search rules in
    tested_not c.args.setting.now c.args.func c.args.contract.now c.func_type-ty.result.now free c.func_type-ty.ensures _ c.in-Err.ensures
