use Rattle.std.proofs.Common.{◌≡◌, ◌++◌, ◌+◌, ◌≤◌, drop}
use Rattle.wasm_write.specs.Encoding.{joined_to, runs_of}
use Rattle.wasm_write.proofs.code.runs_of.Given as goal

abbrev pub invariant-loop-next : goal.invariant-loop-next
invariant-loop-next l = (l.count ≤ l.next-index + 1) × (l.runs ++ joined_to l.count l.ty (runs_of (drop l.next-index l.rest)) ≡ runs_of l.locals)
