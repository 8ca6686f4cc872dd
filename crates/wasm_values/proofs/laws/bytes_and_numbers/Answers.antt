use Rattle.wasm_values.proofs.ByteLaws.{number_of_bytes-bytes_of_number, bytes_of_number-number_of_bytes}
use Rattle.wasm_values.proofs.laws.bytes_and_numbers.Goals as goal

pub returns-clause-number : goal.returns-clause-number
returns-clause-number c k a = number_of_bytes-bytes_of_number k a

pub returns-clause-bytes : goal.returns-clause-bytes
returns-clause-bytes c bytes = bytes_of_number-number_of_bytes bytes
