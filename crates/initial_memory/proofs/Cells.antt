-- Cells of a window, and of the memory.
use Rattle.std.proofs.Common.{◌≡◌, refl, sym, ap, ◌∙◌, ℕ, zero, suc, ◌+◌, ◌-◌, ◌*◌, ◌≤◌, ◌<◌, Bool, true, false, ◌&&◌, ⊎_elim, List, ◌∷◌, length, take, drop, arith}
use Rattle.std.proofs.lemmas.Bool.{cases_eq}
use Rattle.std.proofs.Math.Nat.{mul-le-mul_right}
use Rattle.wasm_values.specs.Operators.{number_of_bytes}
use Rattle.term_trees.specs.declared.term.Formula.{Formula}
use Rattle.term_trees.specs.Ground.{ground_truth}
use Rattle.term_trees.specs.Rows.{at_position}
use Rattle.outline_rules.specs.States.{number}
use Rattle.outline_rules.specs.Settings.{Setting}
use Rattle.outline_rules.specs.Initial.{byte_at, bytes_at, is_truth, is_true_below}
use Rattle.initial_memory.specs.words.Windows.{true_in}

-- the bytes from a later address on
bytes_drop : (c : Setting) (a n k : ℕ) → k ≤ n → drop k (bytes_at c a n) ≡ bytes_at c (a + k) (n - k)
bytes_drop c a n zero low = let e : a ≡ a + 0 = omega arith in let f : n ≡ n - 0 = omega arith in λ j. bytes_at c (e j) (f j)
bytes_drop c a zero (suc k) low = absurd (omega arith)
bytes_drop c a (suc n) (suc k) low = bytes_drop c (suc a) n k (omega arith) ∙ (let e : suc a + k ≡ a + suc k = omega arith in let f : n - k ≡ suc n - suc k = omega arith in λ j. bytes_at c (e j) (f j))

-- the first of them
bytes_take : (c : Setting) (a n w : ℕ) → w ≤ n → take w (bytes_at c a n) ≡ bytes_at c a w
bytes_take c a n zero low = refl
bytes_take c a zero (suc w) low = absurd (omega arith)
bytes_take c a (suc n) (suc w) low = ap (λ bs. byte_at c a ∷ bs) (bytes_take c (suc a) n w (omega arith))

pub length-bytes : (c : Setting) (a n : ℕ) → length (bytes_at c a n) ≡ n
length-bytes c a zero = refl
length-bytes c a (suc n) = ap suc (length-bytes c (suc a) n)

cell_bytes : (c : Setting) (a n k w : ℕ) → k + w ≤ n → take w (drop k (bytes_at c a n)) ≡ bytes_at c (a + k) w
cell_bytes c a n k w low = ap (take w) (bytes_drop c a n k (omega arith)) ∙ bytes_take c (a + k) (n - k) w (omega arith)

rows_within : (n all w : ℕ) → suc n ≤ all → n * w + w ≤ all * w
rows_within n all w low = let more : suc n * w ≤ all * w = mul-le-mul_right w low in omega (arith, more)

true_below : (c : Setting) (a all n w : ℕ) (each : Formula) → n ≤ all → true_in (bytes_at c a (all * w)) n w each ≡ is_true_below c n w a each
true_below c a all zero w each low = refl
true_below c a all (suc n) w each low =
    let within : n * w + w ≤ all * w = rows_within n all w low in
    (λ j. true_below c a all n w each (omega arith) j && is_truth (ground_truth (at_position each (number n) (number (number_of_bytes (cell_bytes c a (all * w) (n * w) w within j))))))

-- what is true in the window is true in the memory
pub true_in_memory : (c : Setting) (a n w : ℕ) (each : Formula) → true_in (bytes_at c a (n * w)) n w each ≡ is_true_below c n w a each
true_in_memory c a n w each = true_below c a n n w each (omega arith)

-- where it isn't true of one cell, it isn't true of all
and_false : (x : Bool) → false ≡ (x && false)
and_false true = refl
and_false false = refl

pub true_fails : (window : List ℕ) (n w k : ℕ) (each : Formula) → k < n
    → is_truth (ground_truth (at_position each (number k) (number (number_of_bytes (take w (drop (k * w) window)))))) ≡ false → false ≡ true_in window n w each
true_fails window zero w k each low wrong = absurd (omega arith)
true_fails window (suc n) w k each low wrong =
    ⊎_elim
    (λ e. and_false (true_in window n w each) ∙ ap (λ b. true_in window n w each && b) (sym wrong ∙ ap (λ i. is_truth (ground_truth (at_position each (number i) (number (number_of_bytes (take w (drop (i * w) window))))))) e))
    (λ ne. ap (λ b. b && is_truth (ground_truth (at_position each (number n) (number (number_of_bytes (take w (drop (n * w) window))))))) (true_fails window n w k each (omega arith) wrong))
    (cases_eq k n)
