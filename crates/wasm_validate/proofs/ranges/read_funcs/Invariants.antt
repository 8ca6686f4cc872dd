use Rattle.std.proofs.Common.{take}
use Rattle.std.specs.List.{All}
use Rattle.wasm_syntax.specs.Trees.{sequence_of}
use Rattle.wasm_typing.specs.Valid.{IsWord, SequenceInRange}
use Rattle.wasm_syntax.specs.declared.module.Func.{Func}
use Rattle.wasm_validate.proofs.ranges.read_funcs.Given as goal

abbrev pub invariant-loop-func : goal.invariant-loop-func
invariant-loop-func l = All (λ (f : Func). IsWord f.ty × SequenceInRange (sequence_of f.body)) (take l.func-index l.«module».funcs)
