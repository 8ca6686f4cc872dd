use Rattle.std.proofs.Common.{take}
use Rattle.std.specs.List.{All}
use Rattle.wasm_syntax.specs.Trees.{sequence_of}
use Rattle.wasm_typing.specs.Valid.{IsWord, SequenceInRange}
use Rattle.wasm_syntax.specs.declared.module.Elem.{Elem}
use Rattle.wasm_validate.proofs.ranges.read_elems.Given as goal

abbrev pub invariant-loop-elem : goal.invariant-loop-elem
invariant-loop-elem l = All (λ (e : Elem). IsWord e.table × SequenceInRange (sequence_of e.offset) × All IsWord e.funcs) (take l.elem-index l.«module».elems)
