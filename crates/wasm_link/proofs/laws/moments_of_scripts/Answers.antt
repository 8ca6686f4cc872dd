use Rattle.std.proofs.Common.{refl}
use Rattle.wasm_link.specs.Stages.{first_stage}
use Rattle.wasm_link.specs.Logs.{modules_in}
use Rattle.wasm_link.proofs.Moments.{linked_is_session, loaded_valid}
use Rattle.wasm_link.proofs.laws.moments_of_scripts.Goals as goal

pub returns : goal.returns
returns c = λ files x modules events stage loaded goes.
    linked_is_session (modules_in x modules) (first_stage x) events stage (λ k m there. loaded_valid files x.loads modules k m loaded there) refl goes
