-- Where operators of two operands give nothing.
use Rattle.std.proofs.Common.{◌≡◌, ℕ, ◌-◌, ◌/◌, ◌%◌, ◌^◌, ◌<◌, ◌≤◌, Bool, true, false, cond, eqb, Option, Some, None, pos, negsuc, neg_ℤ, int_div, int_rem, refl, ap, ◌∙◌, ◌⊎◌, inl, inr, ⊎_elim, arith}
use Rattle.std.specs.Prelude.{IsNone, ◌↔◌}
use Rattle.std.proofs.lemmas.Int.{ints}
use Rattle.std.proofs.lemmas.Nat.{pow_pos}
use Rattle.std.proofs.lemmas.Bool.{true≢false, false≢true, eq-eqb, eqb-true, and_parts, and_from}
use Rattle.wasm_values.specs.declared.number.IntOp.{IntOp}
use Rattle.wasm_values.specs.declared.number.IntOp.TheVariants.{Eqz, Clz, Ctz, Popcnt, DivS, DivU, RemS, RemU}
use Rattle.wasm_values.specs.Operators.{IsWidth, IsUndefined, operands, signed, unsigned, binary, quotient}
use Rattle.wasm_values.proofs.SignedLemmas.{overflow, twice-half, signed-cases, least-from, minus_one-from}
use Rattle.wasm_values.proofs.WidthLemmas.{width-positive}

-- a choice of nothing or o
cond-none : (t : Bool) (o : Option ℕ) → IsNone (cond t None o) → (t ≡ true) ⊎ IsNone o
cond-none true o e = inl refl
cond-none false o e = inr e

none-first : (t : Bool) (o : Option ℕ) → t ≡ true → IsNone (cond t None o)
none-first true o e = refl
none-first false o e = absurd (false≢true e)

none-second : (t : Bool) (o : Option ℕ) → IsNone o → IsNone (cond t None o)
none-second true o e = refl
none-second false o e = e

-- nothing comes exactly where the divisor is 0
by_zero : (b given : ℕ) → IsNone (cond (eqb b 0) None (Some given)) ↔ (b ≡ 0)
by_zero b given =
    (λ e. ⊎_elim (λ t. eqb-true b 0 t) (λ p. absurd (true≢false p)) (cond-none (eqb b 0) (Some given) e), λ z. none-first (eqb b 0) (Some given) (eq-eqb b 0 z))

-- the readings of the least number and of the greatest
least-reading : (n : ℕ) → 0 < n → signed n (2 ^ (n - 1)) ≡ neg_ℤ (pos (2 ^ (n - 1)))
least-reading n p =
    let below : 2 ^ (n - 1) < 2 ^ n = omega (arith, twice-half n p, pow_pos (n - 1)) in
    ⊎_elim (λ (l : (2 ^ (n - 1) < 2 ^ (n - 1)) × (signed n (2 ^ (n - 1)) ≡ pos (2 ^ (n - 1)))). absurd (omega arith))
    (λ (l : (2 ^ (n - 1) ≤ 2 ^ (n - 1)) × (signed n (2 ^ (n - 1)) ≡ negsuc (2 ^ n - 2 ^ (n - 1) - 1))). l.1 ∙ omega (arith, ints, twice-half n p, pow_pos (n - 1)))
    (signed-cases n (2 ^ (n - 1)) below)

greatest-reading : (n : ℕ) → 0 < n → signed n (2 ^ n - 1) ≡ negsuc 0
greatest-reading n p =
    let below : 2 ^ n - 1 < 2 ^ n = omega (arith, pow_pos n) in
    ⊎_elim (λ (l : (2 ^ n - 1 < 2 ^ (n - 1)) × (signed n (2 ^ n - 1) ≡ pos (2 ^ n - 1))). absurd (omega (arith, twice-half n p, pow_pos (n - 1))))
    (λ (l : (2 ^ (n - 1) ≤ 2 ^ n - 1) × (signed n (2 ^ n - 1) ≡ negsuc (2 ^ n - (2 ^ n - 1) - 1))). l.1 ∙ ap negsuc (omega (arith, pow_pos n)))
    (signed-cases n (2 ^ n - 1) below)

overflow-is : (n a b : ℕ) → IsWidth n → a < 2 ^ n → b < 2 ^ n → (overflow n a b ≡ true) ↔ ((signed n a ≡ neg_ℤ (pos (2 ^ (n - 1)))) × (signed n b ≡ negsuc 0))
overflow-is n a b w ha hb = (
  λ e.
      let both = and_parts (eqb a (2 ^ (n - 1))) (eqb b (2 ^ n - 1)) e in
      (ap (signed n) (eqb-true _ _ both.0) ∙ least-reading n (width-positive n w), ap (signed n) (eqb-true _ _ both.1) ∙ greatest-reading n (width-positive n w)),
  λ r. and_from _ _ (eq-eqb _ _ (least-from n a w ha r.0)) (eq-eqb _ _ (minus_one-from n b hb r.1)),
)

quotient-none : (n a b : ℕ) → IsWidth n → a < 2 ^ n → b < 2 ^ n → IsNone (quotient n a b) ↔ IsUndefined n DivS a b
quotient-none n a b w ha hb =
    let given : Option ℕ = Some (unsigned n (int_div (signed n a) (signed n b))) in (
      λ e. ⊎_elim (λ t. inl (eqb-true b 0 t))
          (λ f. ⊎_elim (λ t. inr ((overflow-is n a b w ha hb).0 t)) (λ p. absurd (true≢false p)) (cond-none (overflow n a b) given f))
          (cond-none (eqb b 0) (cond (overflow n a b) None given) e),
      λ u. ⊎_elim (λ z. none-first (eqb b 0) (cond (overflow n a b) None given) (eq-eqb b 0 z))
          (λ r. none-second (eqb b 0) (cond (overflow n a b) None given) (none-first (overflow n a b) given ((overflow-is n a b w ha hb).1 r))) u,
    )

pub undefined-is : (n : ℕ) (op : IntOp) (a b : ℕ) → IsWidth n → a < 2 ^ n → b < 2 ^ n → operands op ≡ 2 → IsNone (binary n op a b) ↔ IsUndefined n op a b
undefined-is n DivS a b w ha hb two = quotient-none n a b w ha hb
undefined-is n DivU a b w ha hb two = by_zero b (a / b)
undefined-is n RemS a b w ha hb two = by_zero b (unsigned n (int_rem (signed n a) (signed n b)))
undefined-is n RemU a b w ha hb two = by_zero b (a % b)
undefined-is n Eqz a b w ha hb two = absurd (omega arith)
undefined-is n Clz a b w ha hb two = absurd (omega arith)
undefined-is n Ctz a b w ha hb two = absurd (omega arith)
undefined-is n Popcnt a b w ha hb two = absurd (omega arith)
undefined-is n _ a b w ha hb two = (λ e. absurd (true≢false e), λ u. absurd u)
