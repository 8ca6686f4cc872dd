-- Equality of types, bounds, and the zeros of types.
use Rattle.std.specs.Prelude.{ℕ, Bool, true, false, nat_le, Option, Some, None, List, map}
use Rattle.std.specs.Cmp.Lexicographic.{pointwise}
use Rattle.wasm_values.specs.declared.number.ValType.{ValType}
use Rattle.wasm_values.specs.declared.number.ValType.TheVariants.{I32, I64}
use Rattle.wasm_values.specs.declared.number.Val.{Val}
use Rattle.wasm_values.specs.Operators.{value_of}

-- Two value types are the same.
abbrev pub is_same_type : ValType → ValType → Bool
is_same_type I32 I32 = true
is_same_type I64 I64 = true
is_same_type _ _ = false

-- Two lists of value types are the same.
abbrev pub are_same_types : List ValType → List ValType → Bool
are_same_types = pointwise is_same_type

-- A number is at most a bound, where there is one.
abbrev pub is_at_most : ℕ → Option ℕ → Bool
is_at_most n None = true
is_at_most n (Some bound) = nat_le n bound

-- The zeros of types, with which locals begin (4.4.7, 'Invocation of function address').
abbrev pub zeros_of : List ValType → List Val
zeros_of types = map (λ t. value_of t 0) types
