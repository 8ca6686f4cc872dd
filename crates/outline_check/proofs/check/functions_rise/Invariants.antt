use Rattle.std.proofs.Common.{◌≡◌, map, drop}
use Rattle.outline_check.specs.Outlines.{rise_within}
use Rattle.outline_check.proofs.check.functions_rise.Given as goal

abbrev pub invariant-loop-func : goal.invariant-loop-func
invariant-loop-func l =
    rise_within l.low l.high (map (λ func. func.func) (drop l.func-index l.notes))
    ≡ rise_within 0 l.fn.high (map (λ func. func.func) l.fn.notes)
