use Rattle.std.proofs.Common.{take}
use Rattle.std.specs.List.{All}
use Rattle.wasm_typing.specs.Valid.{LimitsInRange}
use Rattle.wasm_validate.proofs.ranges.read_all_limits.Given as goal

abbrev pub invariant-loop-one : goal.invariant-loop-one
invariant-loop-one l = All (LimitsInRange) (take l.one-index l.limits)
