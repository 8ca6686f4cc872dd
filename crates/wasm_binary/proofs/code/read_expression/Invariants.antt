use Rattle.std.proofs.Common.{◌≡◌, ◌-◌, ◌≤◌, length}
use Rattle.wasm_syntax.specs.Parts.{flat_parts}
use Rattle.binary_grammar.specs.words.CodeReading.{rest_at, expression_at}
use Rattle.wasm_binary.proofs.CodeLoop.{with_places}
use Rattle.wasm_binary.proofs.code.read_expression.Given as goal

abbrev pub invariant-loop : goal.invariant-loop
invariant-loop l =
    (with_places l.places (rest_at 100 (length l.bytes - l.counter) l.maker l.fn.end l.rest) ≡ expression_at 100 l.fn.end l.bytes) ×
    (length (flat_parts l.maker) ≤ l.counter) × (length l.rest ≤ length l.bytes)
