use Rattle.std.proofs.Common.{◌≡◌, map, drop}
use Rattle.notes_grammar.specs.Words.{pick}
use Rattle.notes_parts.proofs.words.find.Given as goal

abbrev pub invariant-loop-name : goal.invariant-loop-name
invariant-loop-name g l = pick (map (λ e. (e.0.now, e.1)) (drop l.name-index l.table)) l.word ≡ pick (map (λ e. (e.0.now, e.1)) l.table) l.word
