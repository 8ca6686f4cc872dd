use Rattle.std.proofs.Common.{◌≡◌, ◌-◌, length}
use Rattle.binary_grammar.specs.Bounds.{the_bounds}
use Rattle.binary_grammar.specs.words.SectionReading.{sections_at}
use Rattle.wasm_binary.proofs.decoder.read_sections.Given as goal

abbrev pub invariant-loop : goal.invariant-loop
invariant-loop l =
    sections_at the_bounds (length l.bytes - l.counter) l.draft l.fn.end l.rest ≡ sections_at the_bounds (length l.bytes) l.fn.draft l.fn.end l.bytes
