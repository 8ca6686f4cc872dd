use Rattle.std.proofs.Common.{◌≡◌, ◌+◌, ◌++◌, length, take, drop}
use Rattle.wasm_reduce.proofs.operands.keep.Given as goal

abbrev pub invariant-loop-k : goal.invariant-loop-k
invariant-loop-k l = record {
  long : length l.operands ≡ length l.initial.operands;
  taken : take (l.height + l.k) l.operands ≡ take l.height l.initial.operands ++ take l.k (drop l.start l.initial.operands);
  dropped : drop (l.height + l.k) l.operands ≡ drop (l.height + l.k) l.initial.operands;
}
