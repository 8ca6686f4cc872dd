use Rattle.binary_grammar.specs.Bounds.{the_bounds}
use Rattle.binary_grammar.proofs.ModuleLaws.{module_takes, module_again}
use Rattle.binary_grammar.proofs.PlanWhole.{reads_module, reading_module}
use Rattle.binary_grammar.proofs.laws.complete_readings.Goals as goal

pub returns-clause-spelled : goal.returns-clause-spelled
returns-clause-spelled c = λ bytes r.
    let e = reads_module the_bounds bytes r in
    (λ h. module_takes the_bounds bytes r (e.1 h), λ h. e.0 (module_again the_bounds bytes r.module r.marks h.0 h.1))

pub returns-clause-parts : goal.returns-clause-parts
returns-clause-parts c = reading_module the_bounds
