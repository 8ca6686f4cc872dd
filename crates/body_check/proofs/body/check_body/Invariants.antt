use Rattle.std.proofs.Common.{ℕ, ◌<◌}
use Rattle.wasm_typing.specs.faults.Open.{parts_before, TypedThrough}
use Rattle.body_check.specs.words.Steps.{context_in}
use Rattle.body_check.specs.words.Walks.{IsAt}
use Rattle.body_check.proofs.body.check_body.Given as goal

abbrev pub invariant-loop-n : goal.invariant-loop-n
invariant-loop-n l =
    IsAt (context_in l.names) l.walk (parts_before l.names.func.now.body l.n)
    × ((k : ℕ) → k < l.n → TypedThrough (context_in l.names) l.names.func.now.body k)
