use Rattle.wasm_store.proofs.StepLaws.{step_keeps}
use Rattle.wasm_store.proofs.laws.steps_keep_code.Goals as goal

pub returns-clause-funcs : goal.returns-clause-funcs
returns-clause-funcs c = λ b d h. (step_keeps b d h).funcs

pub returns-clause-tables : goal.returns-clause-tables
returns-clause-tables c = λ b d h. (step_keeps b d h).tables

pub returns-clause-instances : goal.returns-clause-instances
returns-clause-instances c = λ b d h. (step_keeps b d h).instances
