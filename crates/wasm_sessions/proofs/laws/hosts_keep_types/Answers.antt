use Rattle.wasm_sessions.proofs.HostLaws.{added_typed, write_typed, call_typed, return_typed, trap_typed}
use Rattle.wasm_sessions.proofs.Embedding.{catch_typed, loaded_typed}
use Rattle.wasm_sessions.proofs.laws.hosts_keep_types.Goals as goal

pub returns : goal.returns
returns c = record {
  added = λ ty b d t h. added_typed b d ty t h;
  written = λ b d t h. write_typed b d h.0 t h.1;
  called = λ func values b d t h. call_typed b d func values t h;
  returned = λ values b d t h. return_typed b d values t h;
  trapped = λ b d t h. trap_typed b d t h;
  caught = λ b d t h. catch_typed b d t h;
  loaded = λ m externs b d t h. loaded_typed b d m externs t h;
}
