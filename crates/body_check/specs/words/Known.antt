-- What the walk over a body knows of the operands of all open blocks.
use Rattle.std.specs.Prelude.{Bool, List, Option}
use Rattle.wasm_values.specs.declared.number.ValType.{ValType}

-- What is known of the types of operands, the topmost last: of those below the innermost open block, and of its own. In dead
-- code any operands may lie below its own.
pub record Known : Type 0 where
  pub below : List (Option ValType)
  pub here : List (Option ValType)
  pub dead : Bool
