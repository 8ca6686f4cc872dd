use Rattle.std.proofs.Common.{◌≡◌, [], drop}
use Rattle.script_text.specs.Reading.{all_from, value_in}
use Rattle.script_text.proofs.read.read_values.Given as goal

abbrev pub invariant-loop-s : goal.invariant-loop-s
invariant-loop-s l = all_from value_in l.values (drop l.s-index l.parts) ≡ all_from value_in [] l.parts
