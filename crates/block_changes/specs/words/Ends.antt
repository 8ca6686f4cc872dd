-- Places of a part, up to its end.
use Rattle.std.specs.Prelude.{◌≡◌, ℕ, ◌+◌, ◌<◌, List, length}
use Rattle.wasm_syntax.specs.declared.instr.Instr.{Instr}
use Rattle.wasm_syntax.specs.FlatForm.{flat_body}
use Rattle.wasm_syntax.specs.Places.{size_of_all, rest_at}

-- a later place of a part: what is left of it ends where what is left from the earlier one does
pub record IsFurther (body : List Instr) (p q : ℕ) : Type 0 where
  pub further : p < q
  pub within : q < length (flat_body body)
  pub same_end : q + size_of_all (rest_at body q) ≡ p + size_of_all (rest_at body p)
