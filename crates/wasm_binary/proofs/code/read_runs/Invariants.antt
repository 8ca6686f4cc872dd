use Rattle.std.proofs.Common.{◌≡◌, ◌-◌, ◌≤◌, length}
use Rattle.binary_grammar.specs.words.CodeReading.{runs_at}
use Rattle.wasm_binary.proofs.CodeLoop.{with_locals}
use Rattle.wasm_binary.proofs.code.read_runs.Given as goal

abbrev pub invariant-loop : goal.invariant-loop
invariant-loop l =
    (with_locals l.locals (runs_at 1000 (length l.locals) (l.count - l.counter) l.end l.rest) ≡ runs_at 1000 0 l.count l.end l.bytes) ×
    (length l.locals ≤ 1000) × (length l.rest ≤ length l.bytes)
