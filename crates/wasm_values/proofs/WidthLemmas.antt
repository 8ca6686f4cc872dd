-- The two widths of integers.
use Rattle.std.proofs.Common.{ℕ, ◌<◌, ◌≤◌, inl, inr, arith}
use Rattle.wasm_values.specs.Operators.{IsWidth}

pub width-within : (n : ℕ) → IsWidth n → n ≤ 64
width-within n (inl e) = omega (arith, e)
width-within n (inr e) = omega (arith, e)

pub width-positive : (n : ℕ) → IsWidth n → 0 < n
width-positive n (inl e) = omega (arith, e)
width-positive n (inr e) = omega (arith, e)
