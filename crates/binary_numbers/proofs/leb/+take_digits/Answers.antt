use Rattle.std.proofs.Common.{ℕ, zero, suc, ◌^◌, ◌≤◌, lit≤, arith}
use Rattle.binary_numbers.proofs.leb.+take_digits.Goals as goal

-- nine digits leave room for one more
below : (n : ℕ) → n ≤ 9 → 128 ^ n ≤ 2 ^ 63
below zero h = lit≤ tt
below (suc zero) h = lit≤ tt
below (suc (suc zero)) h = lit≤ tt
below (suc (suc (suc zero))) h = lit≤ tt
below (suc (suc (suc (suc zero)))) h = lit≤ tt
below (suc (suc (suc (suc (suc zero))))) h = lit≤ tt
below (suc (suc (suc (suc (suc (suc zero)))))) h = lit≤ tt
below (suc (suc (suc (suc (suc (suc (suc zero))))))) h = lit≤ tt
below (suc (suc (suc (suc (suc (suc (suc (suc zero)))))))) h = lit≤ tt
below (suc (suc (suc (suc (suc (suc (suc (suc (suc zero))))))))) h = lit≤ tt
below (suc (suc (suc (suc (suc (suc (suc (suc (suc (suc n)))))))))) h = absurd (omega arith)

pub overflow_mul-value : goal.overflow_mul-value
overflow_mul-value t c =
    let some = c.in_ok-high-in-len1-up.ensures in
    omega (arith, some.small, below c.in_ok-high-in-len1-up.high.len (omega (arith, some.few)))

pub overflow_add-value : goal.overflow_add-value
overflow_add-value t c =
    let some = c.in_ok-high-in-len1-up.ensures in
    omega (arith, some.small, below c.in_ok-high-in-len1-up.high.len (omega (arith, some.few)))
