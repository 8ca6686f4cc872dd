use Rattle.std.proofs.Common.{take}
use Rattle.std.specs.List.{All}
use Rattle.wasm_syntax.specs.Trees.{sequence_of}
use Rattle.wasm_typing.specs.Valid.{SequenceInRange}
use Rattle.wasm_syntax.specs.declared.module.Global.{Global}
use Rattle.wasm_validate.proofs.ranges.read_globals.Given as goal

abbrev pub invariant-loop-global : goal.invariant-loop-global
invariant-loop-global l = All (λ (g : Global). SequenceInRange (sequence_of g.init)) (take l.global-index l.«module».globals)
