-- Tests of the numbers of a range.
use Rattle.std.proofs.Common.{◌≡◌, ℕ, zero, suc, ◌+◌, ◌-◌, ◌<◌, ◌≤◌, Bool, true, false, ◌||◌, sym, ap, ◌∙◌, refl, true≢false, arith}
use Rattle.std.specs.List.{list_any, range_with_len}
use Rattle.std.proofs.lemmas.List.Folds.{list_any_at}
use Rattle.std.proofs.lemmas.List.FromFn.{length-range_with_len, get_or-range_with_len}

-- one of two tests passes
pub either : (a b : Bool) (Q : Type 0) → (a || b) ≡ true → (a ≡ true → Q) → (b ≡ true → Q) → Q
either true b Q h left right = left refl
either false b Q h left right = right h

-- what follows where some number of a range passes a test
pub passing : (p : ℕ → Bool) (Q : Type 0) (a n : ℕ) → list_any p (range_with_len a n) ≡ true → ((k : ℕ) → a ≤ k → k < a + n → p k ≡ true → Q) → Q
passing p Q a zero h then = absurd (true≢false (sym h))
passing p Q a (suc n) h then =
    either (p a) (list_any p (range_with_len (a + 1) n)) Q h (λ e. then a (omega arith) (omega arith) e)
    (λ rest. passing p Q (a + 1) n rest (λ k low high e. then k (omega arith) (omega arith) e))

-- a number of a range that passes
pub passes_at : (p : ℕ → Bool) (a n k : ℕ) → a ≤ k → k < a + n → p k ≡ true → list_any p (range_with_len a n) ≡ true
passes_at p a n k low high e =
    let same : a + (k - a) ≡ k = omega arith in
    list_any_at p (range_with_len a n) (k - a) 0 (omega (arith, length-range_with_len a n)) (ap p (get_or-range_with_len a n (k - a) 0 (omega arith) ∙ same) ∙ e)

-- the first number of a range, and the others
pub first_and_rest : (p : ℕ → Bool) (k n : ℕ) → k < n → list_any p (range_with_len k (n - k)) ≡ (p k || list_any p (range_with_len (k + 1) (n - (k + 1))))
first_and_rest p k n h =
    let more : n - k ≡ suc (n - (k + 1)) = omega arith in
    ap (λ m. list_any p (range_with_len k m)) more

-- a search of a range that has come to k: it ends at k, it goes on behind k, or it has found none
module _ (p : ℕ → Bool) (found : Bool) (k n : ℕ) (so_far : found ≡ list_any p (range_with_len k (n - k))) where
  abbrev rest : Bool
  rest = list_any p (range_with_len (k + 1) (n - (k + 1)))

  pub ends : k < n → true ≡ p k → true ≡ found
  ends h e = sym (so_far ∙ first_and_rest p k n h ∙ ap (λ b. b || rest) (sym e))

  pub goes_on : k < n → false ≡ p k → found ≡ list_any p (range_with_len (k + 1) (n - (k + 1)))
  goes_on h e = so_far ∙ first_and_rest p k n h ∙ ap (λ b. b || rest) (sym e)

  pub finds_none : n ≤ k → false ≡ found
  finds_none h = let none : n - k ≡ 0 = omega arith in sym (so_far ∙ ap (λ m. list_any p (range_with_len k m)) none)
