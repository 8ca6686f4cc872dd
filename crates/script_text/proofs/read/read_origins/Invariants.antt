use Rattle.std.proofs.Common.{◌≡◌, [], drop}
use Rattle.script_text.specs.Reading.{all_from, origin_in}
use Rattle.script_text.proofs.read.read_origins.Given as goal

abbrev pub invariant-loop-s : goal.invariant-loop-s
invariant-loop-s l = all_from (origin_in l.made) l.origins (drop l.s-index l.parts) ≡ all_from (origin_in l.made) [] l.parts
