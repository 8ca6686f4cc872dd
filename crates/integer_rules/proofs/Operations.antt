-- What the operators give of numbers whose bounds are known, in whole numbers.
use Rattle.std.proofs.Common.{◌≡◌, ℕ, zero, suc, ◌+◌, ◌-◌, ◌*◌, ◌/◌, ◌%◌, ◌^◌, ◌<◌, ◌≤◌, ℤ, pos, negsuc, ◌+ℤ◌, ◌-ℤ◌, ◌*ℤ◌, ◌≤ℤ◌, ◌<ℤ◌, int_lt, int_le, Bool, true, false, ◌==◌, if◌then◌else◌, Option, Some, None, refl, sym, ap, ap₂, subst, ◌∙◌, arith}
use Rattle.std.specs.Prelude.{unwrap_or, nat_lt, nat_le, not}
use Rattle.std.specs.Ordering.{int_eq}
use Rattle.std.proofs.lemmas.Int.{ints}
use Rattle.std.proofs.lemmas.Nat.{pow_pos, mul-mod, mod_below, pow_below, and_mask, mod-pow-add}
use Rattle.std.proofs.lemmas.Bool.{ne_eqb, cond-false, cond-true}
use Rattle.std.proofs.Math.Nat.{mod-eq_of_lt, add-mod_right, mod-eq-sub-mod, div-add-mod}
use Rattle.wasm_values.specs.declared.number.IntOp.{IntOp}
use Rattle.wasm_values.specs.declared.number.IntOp.TheVariants as op
use Rattle.wasm_values.specs.Operators.{binary, unary, signed, unsigned, quotient, remainder, sign_extended, truth, count_positions}
use Rattle.wasm_values.proofs.SignedLemmas.{twice-half, signed-cases}
use Rattle.std.specs.Prelude.{◌⊎◌, IfSome, bit_and, ◌&&◌, int_div, int_rem}
use Rattle.std.proofs.Common.{inl, inr, ⊎_elim, eqb, ltb}
use Rattle.std.proofs.lemmas.Bool.{lt-ltb}
use Rattle.std.proofs.lemmas.Nat.{mod_low}
use Rattle.std.proofs.Math.Pow.{pow_mono}
use Rattle.std.proofs.lemmas.Bool.{eqb-true, eq-eqb}
use Rattle.std.proofs.lemmas.Bool.Decides.{same_from_decides, Decides-int_eq, nat_tests}
use Rattle.std.proofs.lemmas.Option.{same_Some}
use Rattle.wasm_values.specs.declared.number.NumOp.{NumOp}
use Rattle.wasm_values.specs.declared.number.NumOp.TheVariants.{W32, W64, Wrap, ExtendS, ExtendU}
use Rattle.wasm_values.specs.Operators.{num_width, num_unary, num_binary}
use Rattle.wasm_values.proofs.RangeLaws.{num_unary-lt, sign_extended-lt}
use Rattle.term_trees.specs.Terms.{is_sext_pair}
use Rattle.integer_rules.specs.Rows.{limit, shift_as}
use Rattle.term_trees.specs.Meaning.{modulo}
use Rattle.integer_rules.specs.Rows.{limited}
use Rattle.wasm_values.specs.Operators.{IsWidth}
use Rattle.wasm_values.proofs.RangeLaws.{binary-lt}

-- What an operator of two operands gives at n bits.
abbrev pub given : ℕ → IntOp → ℤ → ℤ → ℤ
given n o A B = pos (unwrap_or (binary n o (modulo A (2 ^ n)) (modulo B (2 ^ n))) 0)

-- a number of n bits is its own remainder
pub small : (n x : ℕ) → x ≤ 2 ^ n - 1 → x % 2 ^ n ≡ x
small n x h = let l : x < 2 ^ n = omega (arith, pow_pos n) in mod-eq_of_lt l

pub add_given : (n : ℕ) (A B : ℤ) → pos 0 ≤ℤ A → pos 0 ≤ℤ B → (A +ℤ B) ≤ℤ pos (2 ^ n - 1) → given n op.Add A B ≡ A +ℤ B
add_given n (pos x) (pos y) a b m =
    let fits : x + y ≤ 2 ^ n - 1 = omega (arith, ints) in
    ap pos (ap₂ (λ u v. (u + v) % 2 ^ n) (small n x (omega arith)) (small n y (omega arith)) ∙ small n (x + y) fits)
add_given n (pos x) (negsuc y) a b m = absurd (omega (arith, ints))
add_given n (negsuc x) B a b m = absurd (omega (arith, ints))

-- both operands are positive, where neither passes M and the sum does
pub addwrap_given : (n : ℕ) (A B : ℤ) → A ≤ℤ pos (2 ^ n - 1) → B ≤ℤ pos (2 ^ n - 1) → pos (2 ^ n) ≤ℤ (A +ℤ B) → given n op.Add A B ≡ (A +ℤ B) -ℤ pos (2 ^ n)
addwrap_given n (pos x) (pos y) a b m =
    let x_fits : x ≤ 2 ^ n - 1 = omega (arith, ints) in
    let y_fits : y ≤ 2 ^ n - 1 = omega (arith, ints) in
    let passes : 2 ^ n ≤ x + y = omega (arith, ints) in
    let less : x + y - 2 ^ n < 2 ^ n = omega (arith, pow_pos n) in
    ap pos (ap₂ (λ u v. (u + v) % 2 ^ n) (small n x x_fits) (small n y y_fits) ∙ mod-eq-sub-mod passes ∙ mod-eq_of_lt less) ∙ omega (arith, ints)
addwrap_given n (pos x) (negsuc y) a b m = absurd (omega (arith, ints, pow_pos n))
addwrap_given n (negsuc x) B a b m = absurd (omega (arith, ints, pow_pos n))

pub sub_given : (n : ℕ) (A B : ℤ) → pos 0 ≤ℤ B → B ≤ℤ A → A ≤ℤ pos (2 ^ n - 1) → given n op.Sub A B ≡ A -ℤ B
sub_given n (pos x) (pos y) b l a =
    let x_fits : x ≤ 2 ^ n - 1 = omega (arith, ints) in
    let y_fits : y ≤ x = omega (arith, ints) in
    let turned : x + 2 ^ n - y ≡ (x - y) + 2 ^ n = omega arith in
    ap pos (ap₂ (λ u v. (u + 2 ^ n - v) % 2 ^ n) (small n x x_fits) (small n y (omega arith)) ∙ ap (λ s. s % 2 ^ n) turned ∙ add-mod_right (x - y) (2 ^ n) ∙ small n (x - y) (omega arith)) ∙ omega (arith, ints)
sub_given n (pos x) (negsuc y) b l a = absurd (omega (arith, ints))
sub_given n (negsuc x) B b l a = absurd (omega (arith, ints))

pub subwrap_given : (n : ℕ) (A B : ℤ) → pos 0 ≤ℤ A → A <ℤ B → B ≤ℤ pos (2 ^ n - 1) → given n op.Sub A B ≡ (A -ℤ B) +ℤ pos (2 ^ n)
subwrap_given n (pos x) (pos y) a l b =
    let y_fits : y ≤ 2 ^ n - 1 = omega (arith, ints) in
    let x_less : x < y = omega (arith, ints) in
    let less : x + 2 ^ n - y < 2 ^ n = omega arith in
    ap pos (ap₂ (λ u v. (u + 2 ^ n - v) % 2 ^ n) (small n x (omega arith)) (small n y y_fits) ∙ mod-eq_of_lt less) ∙ omega (arith, ints)
subwrap_given n (pos x) (negsuc y) a l b = absurd (omega (arith, ints))
subwrap_given n (negsuc x) B a l b = absurd (omega (arith, ints))

pub mul_given : (n : ℕ) (A B : ℤ) → pos 0 ≤ℤ A → pos 0 ≤ℤ B → (A *ℤ B) ≤ℤ pos (2 ^ n - 1) → given n op.Mul A B ≡ A *ℤ B
mul_given n (pos x) (pos y) a b m =
    let fits : x * y ≤ 2 ^ n - 1 = omega (arith, ints) in
    ap pos (sym (mul-mod x y (2 ^ n)) ∙ small n (x * y) fits)
mul_given n (pos x) (negsuc y) a b m = absurd (omega (arith, ints))
mul_given n (negsuc x) B a b m = absurd (omega (arith, ints))

-- ---- quotients and remainders

pub divu_given : (n x y : ℕ) → x ≤ 2 ^ n - 1 → 0 < y → y ≤ 2 ^ n - 1 → given n op.DivU (pos x) (pos y) ≡ pos (x / y)
divu_given n x y x_fits positive y_fits =
    ap pos (ap₂ (λ u v. unwrap_or (if v == 0 then None else Some (u / v)) 0) (small n x x_fits) (small n y y_fits)
    ∙ ap (λ o. unwrap_or o 0) (cond-false (y == 0) None (Some (x / y)) (ne_eqb y 0 (λ e. omega (arith, e)))))

pub remu_given : (n x y : ℕ) → x ≤ 2 ^ n - 1 → 0 < y → y ≤ 2 ^ n - 1 → given n op.RemU (pos x) (pos y) ≡ pos (x % y)
remu_given n x y x_fits positive y_fits =
    ap pos (ap₂ (λ u v. unwrap_or (if v == 0 then None else Some (u % v)) 0) (small n x x_fits) (small n y y_fits)
    ∙ ap (λ o. unwrap_or o 0) (cond-false (y == 0) None (Some (x % y)) (ne_eqb y 0 (λ e. omega (arith, e)))))

-- ---- signed division

reads : (n x : ℕ) → x < 2 ^ (n - 1) → signed n x ≡ pos x
reads n x l = cond-true (ltb x (2 ^ (n - 1))) _ _ (lt-ltb _ _ l)

module _ (n x y : ℕ) (bits : 0 < n) (x_fits : x ≤ 2 ^ (n - 1) - 1) (positive : 0 < y) (y_fits : y ≤ 2 ^ (n - 1) - 1) where
  x_reads : signed n x ≡ pos x
  x_reads = reads n x (omega (arith, pow_pos (n - 1)))

  y_reads : signed n y ≡ pos y
  y_reads = reads n y (omega (arith, pow_pos (n - 1)))

  pub divs_given : given n op.DivS (pos x) (pos y) ≡ given n op.DivU (pos x) (pos y)
  divs_given =
      let x_small : x ≤ 2 ^ n - 1 = omega (arith, twice-half n bits) in
      let y_small : y ≤ 2 ^ n - 1 = omega (arith, twice-half n bits) in
      let nonzero : y ≡ 0 → ⊥ = λ e. omega (arith, e) in
      let below : x ≡ 2 ^ (n - 1) → ⊥ = λ e. omega (arith, e, pow_pos (n - 1)) in
      ap pos (ap₂ (λ u v. unwrap_or (quotient n u v) 0) (small n x x_small) (small n y y_small)
      ∙ ap (λ o. unwrap_or o 0) (cond-false (eqb y 0) None _ (ne_eqb y 0 nonzero) ∙ cond-false (eqb x (2 ^ (n - 1)) && eqb y (2 ^ n - 1)) None _ (ap (λ t. t && eqb y (2 ^ n - 1)) (ne_eqb x (2 ^ (n - 1)) below)))
      ∙ ap (unsigned n) (ap₂ int_div x_reads y_reads))
      ∙ sym (divu_given n x y x_small positive y_small)

  pub rems_given : given n op.RemS (pos x) (pos y) ≡ given n op.RemU (pos x) (pos y)
  rems_given =
      let x_small : x ≤ 2 ^ n - 1 = omega (arith, twice-half n bits) in
      let y_small : y ≤ 2 ^ n - 1 = omega (arith, twice-half n bits) in
      let nonzero : y ≡ 0 → ⊥ = λ e. omega (arith, e) in
      ap pos (ap₂ (λ u v. unwrap_or (remainder n u v) 0) (small n x x_small) (small n y y_small)
      ∙ ap (λ o. unwrap_or o 0) (cond-false (eqb y 0) None _ (ne_eqb y 0 nonzero))
      ∙ ap (unsigned n) (ap₂ int_rem x_reads y_reads))
      ∙ sym (remu_given n x y x_small positive y_small)

-- ---- readings

pub sgn_given : (n : ℕ) (A : ℤ) → 0 < n → pos 0 ≤ℤ A → A ≤ℤ pos (2 ^ n - 1)
    → ((A ≤ℤ pos (2 ^ (n - 1) - 1)) × (signed n (modulo A (2 ^ n)) ≡ A)) ⊎ ((pos (2 ^ (n - 1)) ≤ℤ A) × (signed n (modulo A (2 ^ n)) ≡ A -ℤ pos (2 ^ n)))
sgn_given n (pos x) bits a m =
    let fits : x ≤ 2 ^ n - 1 = omega (arith, ints) in
    let below : x < 2 ^ n = omega (arith, pow_pos n) in
    ⊎_elim (λ (l : (x < 2 ^ (n - 1)) × (signed n x ≡ pos x)). inl (omega (arith, ints), ap (signed n) (small n x fits) ∙ l.1))
    (λ (h : (2 ^ (n - 1) ≤ x) × (signed n x ≡ negsuc (2 ^ n - x - 1))). inr (omega (arith, ints), ap (signed n) (small n x fits) ∙ h.1 ∙ omega (arith, ints)))
    (signed-cases n x below)
sgn_given n (negsuc x) bits a m = absurd (omega (arith, ints))

pub sext_given : (k n : ℕ) (A : ℤ) → 0 < k → k ≤ n → pos 0 ≤ℤ A → A ≤ℤ pos (2 ^ k - 1)
    → ((A ≤ℤ pos (2 ^ (k - 1) - 1)) × (pos (sign_extended k n (modulo A (2 ^ k))) ≡ A)) ⊎ ((pos (2 ^ (k - 1)) ≤ℤ A) × (pos (sign_extended k n (modulo A (2 ^ k))) ≡ A +ℤ pos (2 ^ n - 2 ^ k)))
sext_given k n (pos x) bits within a m =
    let fits : x ≤ 2 ^ k - 1 = omega (arith, ints) in
    let below : x < 2 ^ k = omega (arith, pow_pos k) in
    let longer : 2 ^ k ≤ 2 ^ n = pow_mono within in
    ⊎_elim (λ (l : (x < 2 ^ (k - 1)) × (signed k x ≡ pos x)). inl (omega (arith, ints), ap (λ u. pos (sign_extended k n u)) (small k x fits) ∙ ap (λ z. pos (unsigned n z)) l.1))
    (λ (h : (2 ^ (k - 1) ≤ x) × (signed k x ≡ negsuc (2 ^ k - x - 1))). inr (omega (arith, ints), ap (λ u. pos (sign_extended k n u)) (small k x fits) ∙ ap (λ z. pos (unsigned n z)) h.1 ∙ ap pos (omega arith)))
    (signed-cases k x below)
sext_given k n (negsuc x) bits within a m = absurd (omega (arith, ints))

pub low_given : (k : ℕ) (A : ℤ) → pos 0 ≤ℤ A → A ≤ℤ pos (2 ^ k - 1) → pos (modulo A (2 ^ k)) ≡ A
low_given k (pos x) a m = ap pos (small k x (omega (arith, ints)))
low_given k (negsuc x) a m = absurd (omega (arith, ints))

-- a remainder by 2 ^ 64 has the remainder by 2 ^ 32 of the number
low_digits : (j k x : ℕ) → x % 2 ^ (j + k) % 2 ^ k ≡ x % 2 ^ k
low_digits j k x = ap (λ r. r % 2 ^ k) (mod-pow-add x j k) ∙ mod_low (x / 2 ^ k % 2 ^ j) k (x % 2 ^ k) (mod_below x (2 ^ k) (pow_pos k))

-- the same of a number taken from the greatest
taken : (p left q r : ℕ) → r < p → (left + 1 + q) * p - 1 - (q * p + r) ≡ left * p + (p - 1 - r)
taken p left q r less = omega arith

high_digits : (j k q r : ℕ) → q < 2 ^ j → r < 2 ^ k → (2 ^ j * 2 ^ k - 1 - (q * 2 ^ k + r)) % 2 ^ k ≡ 2 ^ k - 1 - r
high_digits j k q r q_less r_less =
    let whole : 2 ^ j ≡ 2 ^ j - 1 - q + 1 + q = omega arith in
    let rest : 2 ^ k - 1 - r < 2 ^ k = omega arith in
    ap (λ w. (w * 2 ^ k - 1 - (q * 2 ^ k + r)) % 2 ^ k) whole
    ∙ ap (λ m. m % 2 ^ k) (taken (2 ^ k) (2 ^ j - 1 - q) q r r_less)
    ∙ mod_low (2 ^ j - 1 - q) k (2 ^ k - 1 - r) rest

pub wrap_given : (A : ℤ) → modulo A (2 ^ 64) % 2 ^ 32 ≡ modulo A (2 ^ 32)
wrap_given (pos x) = low_digits 32 32 x
wrap_given (negsuc x) =
    ap (λ r. (2 ^ 64 - 1 - r) % 2 ^ 32) (mod-pow-add x 32 32)
    ∙ high_digits 32 32 (x / 2 ^ 32 % 2 ^ 32) (x % 2 ^ 32) (mod_below _ _ (pow_pos 32)) (mod_below _ _ (pow_pos 32))

-- ---- shifts and masks

pub shl_given : (n m : ℕ) (A : ℤ) → 0 < n → m ≤ 2 ^ n - 1 → given n op.Shl A (pos m) ≡ given n op.Mul A (pos (2 ^ (m % n)))
shl_given n m A bits fits =
    ap pos (ap (λ k. (modulo A (2 ^ n) * 2 ^ (k % n)) % 2 ^ n) (small n m fits)
    ∙ ap (λ p. (modulo A (2 ^ n) * p) % 2 ^ n) (sym (mod-eq_of_lt (pow_below (m % n) n (mod_below m n bits)))))

pub shr_given : (n m : ℕ) (A : ℤ) → 0 < n → m ≤ 2 ^ n - 1 → given n op.ShrU A (pos m) ≡ given n op.DivU A (pos (2 ^ (m % n)))
shr_given n m A bits fits =
    let p = 2 ^ (m % n) in
    ap pos (ap (λ k. modulo A (2 ^ n) / 2 ^ (k % n)) (small n m fits)
    ∙ sym (ap (λ b. unwrap_or (if b == 0 then None else Some (modulo A (2 ^ n) / b)) 0) (mod-eq_of_lt (pow_below (m % n) n (mod_below m n bits)))
    ∙ ap (λ o. unwrap_or o 0) (cond-false (eqb p 0) None (Some (modulo A (2 ^ n) / p)) (ne_eqb p 0 (λ e. omega (arith, e, pow_pos (m % n)))))))

pub mask_given : (n k : ℕ) (A : ℤ) → k < n → given n op.And A (pos (2 ^ k - 1)) ≡ given n op.RemU A (pos (2 ^ k))
mask_given n k A within =
    let p = 2 ^ k in
    let less : 2 ^ k < 2 ^ n = pow_below k n within in
    let low : 2 ^ k - 1 < 2 ^ n = omega arith in
    let a = modulo A (2 ^ n) in
    ap pos (ap (λ m. bit_and a m) (mod-eq_of_lt low) ∙ and_mask a k
    ∙ sym (ap (λ b. unwrap_or (if b == 0 then None else Some (a % b)) 0) (mod-eq_of_lt less)
    ∙ ap (λ o. unwrap_or o 0) (cond-false (eqb p 0) None (Some (a % p)) (ne_eqb p 0 (λ e. omega (arith, e, pow_pos k))))))

-- ---- remainders are numbers of their bits

pub modulo-lt : (A : ℤ) (m : ℕ) → 0 < m → modulo A m < m
modulo-lt (pos x) m h = mod_below x m h
modulo-lt (negsuc x) m h = omega arith

-- ---- limits

truth-le : (b : Bool) → truth b ≤ 1
truth-le true = omega arith
truth-le false = omega arith

count_positions-le : (n : ℕ) (p : ℕ → Bool) → count_positions n p ≤ n
unfolding count_positions
count_positions-le zero p = omega arith
count_positions-le (suc n) p = omega (arith, count_positions-le n p, truth-le (p n))

module _ (n m : ℕ) where
  -- no operator of one operand passes its limit
  pub unary_limit : (o : IntOp) (a : ℕ) → unary n o a ≤ limited o n m
  unary_limit op.Eqz a = truth-le (eqb a 0)
  unary_limit op.Clz a = count_positions-le n _
  unary_limit op.Ctz a = count_positions-le n _
  unary_limit op.Popcnt a = count_positions-le n _
  unary_limit _ a = omega arith

  within : (o : Option ℕ) → IfSome o (λ r. r ≤ m) → unwrap_or o 0 ≤ m
  within None h = omega arith
  within (Some r) h = h

  -- nor does one of two operands, where what it gives doesn't pass m
  pub binary_limit : (o : IntOp) (a b : ℕ) → IfSome (binary n o a b) (λ r. r ≤ m) → unwrap_or (binary n o a b) 0 ≤ limited o n m
  binary_limit op.Eq a b h = truth-le _
  binary_limit op.Ne a b h = truth-le _
  binary_limit op.LtS a b h = truth-le _
  binary_limit op.LtU a b h = truth-le _
  binary_limit op.GtS a b h = truth-le _
  binary_limit op.GtU a b h = truth-le _
  binary_limit op.LeS a b h = truth-le _
  binary_limit op.LeU a b h = truth-le _
  binary_limit op.GeS a b h = truth-le _
  binary_limit op.GeU a b h = truth-le _
  binary_limit op.Eqz a b h = omega arith
  binary_limit op.Clz a b h = omega arith
  binary_limit op.Ctz a b h = omega arith
  binary_limit op.Popcnt a b h = omega arith
  binary_limit o a b h = within (binary n o a b) h

at_most : (o : Option ℕ) (m : ℕ) → IfSome o (λ r. r < m) → IfSome o (λ r. r ≤ m - 1)
at_most None m h = tt
at_most (Some r) m h = omega arith

pub given_limit : (n : ℕ) (o : IntOp) (A B : ℤ) → IsWidth n → unwrap_or (binary n o (modulo A (2 ^ n)) (modulo B (2 ^ n))) 0 ≤ limited o n (2 ^ n - 1)
given_limit n o A B w =
    binary_limit n (2 ^ n - 1) o (modulo A (2 ^ n)) (modulo B (2 ^ n))
    (at_most _ (2 ^ n) (binary-lt n o (modulo A (2 ^ n)) (modulo B (2 ^ n)) w (modulo-lt A (2 ^ n) (pow_pos n)) (modulo-lt B (2 ^ n) (pow_pos n))))

-- ---- whole numbers whose bounds are known

pub divu_law : (n : ℕ) (A B : ℤ) → pos 0 ≤ℤ A → A ≤ℤ pos (2 ^ n - 1) → pos 1 ≤ℤ B → B ≤ℤ pos (2 ^ n - 1)
    → (A ≡ (B *ℤ given n op.DivU A B) +ℤ given n op.RemU A B) × (pos 0 ≤ℤ given n op.RemU A B) × (given n op.RemU A B <ℤ B)
divu_law n (pos x) (pos y) a m b k =
    let x_fits : x ≤ 2 ^ n - 1 = omega (arith, ints) in
    let y_fits : y ≤ 2 ^ n - 1 = omega (arith, ints) in
    let positive : 0 < y = omega (arith, ints) in
    let q = divu_given n x y x_fits positive y_fits in
    let r = remu_given n x y x_fits positive y_fits in (
      sym (ap₂ (λ u v. (pos y *ℤ u) +ℤ v) q r ∙ ap pos (div-add-mod x y)),
      subst (λ z. pos 0 ≤ℤ z) (sym r) (omega (arith, ints)),
      subst (λ z. z <ℤ pos y) (sym r) (omega (arith, ints, mod_below x y positive)),
    )
divu_law n (pos x) (negsuc y) a m b k = absurd (omega (arith, ints))
divu_law n (negsuc x) B a m b k = absurd (omega (arith, ints))

pub divs_law : (n : ℕ) (A B : ℤ) → 0 < n → pos 0 ≤ℤ A → A ≤ℤ pos (2 ^ (n - 1) - 1) → pos 1 ≤ℤ B → B ≤ℤ pos (2 ^ (n - 1) - 1)
    → (given n op.DivS A B ≡ given n op.DivU A B) × (given n op.RemS A B ≡ given n op.RemU A B)
divs_law n (pos x) (pos y) bits a m b k =
    let x_fits : x ≤ 2 ^ (n - 1) - 1 = omega (arith, ints) in
    let y_fits : y ≤ 2 ^ (n - 1) - 1 = omega (arith, ints) in
    let positive : 0 < y = omega (arith, ints) in
    (divs_given n x y bits x_fits positive y_fits, rems_given n x y bits x_fits positive y_fits)
divs_law n (pos x) (negsuc y) bits a m b k = absurd (omega (arith, ints))
divs_law n (negsuc x) B bits a m b k = absurd (omega (arith, ints))

-- ---- comparisons

-- equality of natural numbers is that of whole numbers
same_test : (x y : ℕ) → (x == y) ≡ int_eq (pos x) (pos y)
same_test x y = same_from_decides {P = pos x ≡ pos y} (x == y) (int_eq (pos x) (pos y)) (λ e. ap pos (eqb-true x y e), λ e. eq-eqb x y cc) (Decides-int_eq (pos x) (pos y))

turned : (b : Bool) → (if b then false else true) ≡ not b
turned true = refl
turned false = refl

module _ (n : ℕ) where
  -- what holds of two numbers in range holds of two natural numbers that are their own remainders
  both_small : (P : ℤ → ℤ → Type 0) (A B : ℤ) → pos 0 ≤ℤ A → A ≤ℤ pos (2 ^ n - 1) → pos 0 ≤ℤ B → B ≤ℤ pos (2 ^ n - 1)
      → ((x y : ℕ) → x % 2 ^ n ≡ x → y % 2 ^ n ≡ y → P (pos x) (pos y)) → P A B
  both_small P (pos x) (pos y) a m b k so = so x y (small n x (omega (arith, ints))) (small n y (omega (arith, ints)))
  both_small P (pos x) (negsuc y) a m b k so = absurd (omega (arith, ints))
  both_small P (negsuc x) B a m b k so = absurd (omega (arith, ints))

  module _ (A B : ℤ) (a : pos 0 ≤ℤ A) (m : A ≤ℤ pos (2 ^ n - 1)) (b : pos 0 ≤ℤ B) (k : B ≤ℤ pos (2 ^ n - 1)) where
    pub eq_given : given n op.Eq A B ≡ pos (truth (int_eq A B))
    eq_given = both_small (λ A B. given n op.Eq A B ≡ pos (truth (int_eq A B))) A B a m b k (λ x y p q. ap pos (ap₂ (λ u v. truth (u == v)) p q ∙ ap truth (same_test x y)))

    pub ne_given : given n op.Ne A B ≡ pos (truth (not (int_eq A B)))
    ne_given = both_small (λ A B. given n op.Ne A B ≡ pos (truth (not (int_eq A B)))) A B a m b k (λ x y p q. ap pos (ap₂ (λ u v. truth (if u == v then false else true)) p q ∙ ap truth (turned (x == y) ∙ ap not (same_test x y))))

    pub lt_given : given n op.LtU A B ≡ pos (truth (int_lt A B))
    lt_given = both_small (λ A B. given n op.LtU A B ≡ pos (truth (int_lt A B))) A B a m b k (λ x y p q. ap pos (ap₂ (λ u v. truth (nat_lt u v)) p q))

    pub gt_given : given n op.GtU A B ≡ pos (truth (int_lt B A))
    gt_given = both_small (λ A B. given n op.GtU A B ≡ pos (truth (int_lt B A))) A B a m b k (λ x y p q. ap pos (ap₂ (λ u v. truth (nat_lt v u)) p q))

    pub le_given : given n op.LeU A B ≡ pos (truth (int_le A B))
    le_given = both_small (λ A B. given n op.LeU A B ≡ pos (truth (int_le A B))) A B a m b k (λ x y p q. ap pos (ap₂ (λ u v. truth (nat_le u v)) p q))

    pub ge_given : given n op.GeU A B ≡ pos (truth (int_le B A))
    ge_given = both_small (λ A B. given n op.GeU A B ≡ pos (truth (int_le B A))) A B a m b k (λ x y p q. ap pos (ap₂ (λ u v. truth (nat_le v u)) p q))

  pub eqz_given : (A : ℤ) → pos 0 ≤ℤ A → A ≤ℤ pos (2 ^ n - 1) → pos (unary n op.Eqz (modulo A (2 ^ n))) ≡ pos (truth (int_eq A (pos 0)))
  eqz_given (pos x) a m = ap pos (ap (λ u. truth (u == 0)) (small n x (omega (arith, ints))) ∙ ap truth (same_test x 0))
  eqz_given (negsuc x) a m = absurd (omega (arith, ints))

-- ---- limits of numeric instructions

pub unary_le : (o : NumOp) (A : ℤ) → num_unary o (modulo A (2 ^ num_width o)) ≤ limit o
unary_le (W32 o) A = unary_limit 32 (2 ^ 32 - 1) o (modulo A (2 ^ 32))
unary_le (W64 o) A = unary_limit 64 (2 ^ 64 - 1) o (modulo A (2 ^ 64))
unary_le Wrap A = omega (arith, mod_below (modulo A (2 ^ 64)) (2 ^ 32) (pow_pos 32))
unary_le ExtendS A = omega (arith, num_unary-lt ExtendS (modulo A (2 ^ 32)) (modulo-lt A (2 ^ 32) (pow_pos 32)))
unary_le ExtendU A = omega (arith, modulo-lt A (2 ^ 32) (pow_pos 32))

pub binary_le : (o : NumOp) (A B : ℤ) → unwrap_or (num_binary o (modulo A (2 ^ num_width o)) (modulo B (2 ^ num_width o))) 0 ≤ limit o
binary_le (W32 o) A B = given_limit 32 o A B (inl refl)
binary_le (W64 o) A B = given_limit 64 o A B (inr refl)
binary_le _ A B = omega arith

-- the widths of a sign extension
pub pair_bounds : (k n : ℕ) → is_sext_pair k n ≡ true → (0 < k) × (k ≤ n)
pair_bounds k n h = grind (arith, nat_tests)

pub sext_le : (k n : ℕ) (A : ℤ) → is_sext_pair k n ≡ true → sign_extended k n (modulo A (2 ^ k)) ≤ 2 ^ n - 1
sext_le k n A h =
    let bounds = pair_bounds k n h in
    omega (arith, sign_extended-lt k n (modulo A (2 ^ k)) bounds.0 bounds.1 (modulo-lt A (2 ^ k) (pow_pos k)))

pub shift_law : (n : ℕ) (o r : IntOp) (A k : ℤ) → 0 < n → shift_as o ≡ Some r → pos 0 ≤ℤ k → k ≤ℤ pos (2 ^ n - 1) → given n o A k ≡ given n r A (pos (2 ^ modulo k n))
shift_law n op.Shl r A (pos m) bits is low high = shl_given n m A bits (omega (arith, ints)) ∙ ap (λ s. given n s A (pos (2 ^ (m % n)))) (same_Some op.Mul r is)
shift_law n op.ShrU r A (pos m) bits is low high = shr_given n m A bits (omega (arith, ints)) ∙ ap (λ s. given n s A (pos (2 ^ (m % n)))) (same_Some op.DivU r is)
shift_law n _ r A (pos m) bits is low high = cc
shift_law n o r A (negsuc m) bits is low high = absurd (omega (arith, ints))
