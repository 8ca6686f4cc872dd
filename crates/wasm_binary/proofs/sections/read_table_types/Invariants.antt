use Rattle.std.proofs.Common.{◌≡◌, ◌-◌}
use Rattle.binary_grammar.specs.words.Reading.{entries_at}
use Rattle.binary_grammar.specs.words.TypeReading.{table_type_at}
use Rattle.wasm_binary.proofs.EntryLoop.{with_front}
use Rattle.wasm_binary.proofs.sections.read_table_types.Given as goal

abbrev pub invariant-loop : goal.invariant-loop
invariant-loop l =
    with_front l.entries l.places (entries_at table_type_at (l.count - l.counter) l.fn.end l.rest) ≡ entries_at table_type_at l.count l.fn.end l.bytes
