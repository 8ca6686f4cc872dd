use Rattle.std.proofs.Common.{◌≡◌, drop}
use Rattle.outline_setting.specs.words.Judging.{judged_walk}
use Rattle.outline_setting.proofs.judging.judged_segment.Given as goal

abbrev pub invariant-loop-func : goal.invariant-loop-func
invariant-loop-func l = judged_walk l.setting l.ty l.fn.first l.funcs ≡ judged_walk l.setting l.ty l.known (drop l.func-index l.funcs)
