use Rattle.std.proofs.Common.{◌≡◌, [], drop}
use Rattle.script_text.specs.Grammar.{modules_of}
use Rattle.script_text.specs.Reading.{loads_from}
use Rattle.script_text.proofs.read.read_loads.Given as goal

abbrev pub invariant-loop-n : goal.invariant-loop-n
invariant-loop-n l = record {
  names : l.modules ≡ modules_of l.loads;
  rest : loads_from l.loads (drop l.n l.parts) ≡ loads_from [] l.parts;
}
