use Rattle.wasm_link.proofs.SomeAnswer.{some_answer_there}
use Rattle.wasm_link.proofs.laws.every_script_has_an_answer.Goals as goal

pub returns : goal.returns
returns c = some_answer_there
