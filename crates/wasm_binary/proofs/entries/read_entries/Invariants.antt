use Rattle.std.proofs.Common.{◌≡◌, ◌-◌, ◌≤◌, length}
use Rattle.binary_grammar.specs.words.Reading.{entries_at}
use Rattle.wasm_binary.proofs.EntryLoop.{with_front}
use Rattle.wasm_binary.proofs.entries.read_entries.Given as goal

abbrev pub invariant-loop : goal.invariant-loop
invariant-loop g l = (with_front l.entries l.places (entries_at g.T.Entry.reads (l.count - l.counter) l.end l.rest) ≡ entries_at g.T.Entry.reads l.count l.end l.bytes) × (length l.rest ≤ length l.bytes)
