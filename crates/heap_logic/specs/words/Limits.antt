-- The limits of a state as limits of numbers.
use Rattle.std.specs.Prelude.{ℕ}
use Rattle.wasm_values.specs.declared.limit.LimitWord.TheVariants as limit
use Rattle.outline_rules.specs.Refusals.{Ruling, within, ◌>>◌}

-- the limits of a state with so many variables, facts, chunks and nodes
abbrev pub limits : (vars facts chunks nodes : ℕ) → Ruling (Unit {0})
limits vars facts chunks nodes =
    within limit.Variables 1000000 vars
    >> within limit.Facts 4096 facts
    >> within limit.Chunks 1024 chunks
    >> within limit.State 1000000 nodes
