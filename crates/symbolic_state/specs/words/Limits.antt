-- The limits of a state as limits of numbers.
use Rattle.std.specs.Prelude.{ℕ, Bool}
use Rattle.wasm_values.specs.declared.limit.LimitWord.TheVariants as limit
use Rattle.outline_rules.specs.Refusals.{Ruling, limited, within, ◌>>◌}

-- the limits of a state with so many variables, facts, chunks and nodes, and whether what is made for it is within its own
abbrev pub limits : (made : Bool) → (vars facts chunks nodes : ℕ) → Ruling (Unit {0})
limits made vars facts chunks nodes =
    limited limit.Nodes made
    >> within limit.Variables 1000000 vars
    >> within limit.Facts 4096 facts
    >> within limit.Chunks 1024 chunks
    >> within limit.State 1000000 nodes
