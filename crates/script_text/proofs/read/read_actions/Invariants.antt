use Rattle.std.proofs.Common.{◌≡◌, [], drop}
use Rattle.script_text.specs.Grammar.{instances_of}
use Rattle.script_text.specs.Reading.{actions_from}
use Rattle.script_text.proofs.read.read_actions.Given as goal

abbrev pub invariant-loop-s : goal.invariant-loop-s
invariant-loop-s l = record {
  names : l.made ≡ instances_of l.actions;
  rest : actions_from l.modules l.actions (drop l.s-index l.parts) ≡ actions_from l.modules [] l.parts;
}
