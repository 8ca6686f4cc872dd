use Rattle.std.proofs.Common.{◌<◌, take}
use Rattle.std.specs.List.{All}
use Rattle.wasm_typing.specs.Valid.{BytesInRange}
use Rattle.wasm_syntax.specs.declared.module.Custom.{Custom}
use Rattle.wasm_validate.proofs.ranges.read_customs.Given as goal

abbrev pub invariant-loop-custom : goal.invariant-loop-custom
invariant-loop-custom l = All (λ (s : Custom). (s.after < 256) × BytesInRange s.name × BytesInRange s.bytes) (take l.custom-index l.«module».customs)
