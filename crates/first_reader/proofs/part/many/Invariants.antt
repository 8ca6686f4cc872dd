use Rattle.std.proofs.Common.{◌≡◌, ◌≤◌, length}
use Rattle.first_reader.specs.Lexemes.{lexemes}
use Rattle.first_reader.specs.ReadingLexemes.{many_at}
use Rattle.first_reader.proofs.Loop.{with_front}
use Rattle.first_reader.proofs.part.many.Given as goal

abbrev pub invariant-each : goal.invariant-each
invariant-each g l = record {
  told : with_front l.parts (many_at g.P.Part.begins g.P.Part.reads (lexemes l.rest)) ≡ many_at g.P.Part.begins g.P.Part.reads (lexemes l.text);
  less : length (lexemes l.rest) ≤ length (lexemes l.text);
}

abbrev pub decreases-each : goal.decreases-each
decreases-each g l = length (lexemes l.rest)
