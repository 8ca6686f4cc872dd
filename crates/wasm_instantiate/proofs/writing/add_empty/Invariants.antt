use Rattle.std.proofs.Common.{◌≡◌, ◌++◌, replicate, None}
use Rattle.wasm_instantiate.proofs.writing.add_empty.Given as goal

abbrev pub invariant-loop : goal.invariant-loop
invariant-loop l = l.entries ≡ l.initial.entries ++ replicate l.counter None
