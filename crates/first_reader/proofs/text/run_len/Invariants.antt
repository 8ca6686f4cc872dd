use Rattle.std.proofs.Common.{◌≡◌, ◌+◌, drop}
use Rattle.first_reader.specs.ReadingLexemes.{run_len}
use Rattle.first_reader.proofs.text.run_len.Given as goal

abbrev pub invariant-loop-byte : goal.invariant-loop-byte
invariant-loop-byte l = (l.len ≡ l.byte-index) × (l.len + run_len (drop l.byte-index l.text) ≡ run_len l.text)
