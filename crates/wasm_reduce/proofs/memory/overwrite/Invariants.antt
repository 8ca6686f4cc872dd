use Rattle.std.proofs.Common.{◌≡◌, ◌+◌, ◌++◌, length, take, drop}
use Rattle.wasm_reduce.proofs.memory.overwrite.Given as goal

abbrev pub invariant-loop-i : goal.invariant-loop-i
invariant-loop-i l = record {
  long : length l.bytes ≡ length l.initial.bytes;
  written : l.bytes ≡ take l.at l.initial.bytes ++ take l.i l.others ++ drop (l.at + l.i) l.initial.bytes;
}
