-- One answer alone tells of a function's bound.
use Rattle.std.proofs.Common.{◌≡◌, ℕ, zero, suc, ◌<◌, ◌≤◌, List, [], ◌∷◌, Some, length, slice_get, refl, sym, ap, ◌∙◌, arith}
use Rattle.wasm_syntax.specs.declared.module.Module.{Module}
use Rattle.step_bound.specs.declared.bound.Bound.{Bound}
use Rattle.step_bound.specs.declared.bound.Bound.TheVariants.{Steps, Over, Unbounded}
use Rattle.step_bound.specs.declared.bound.TheConstants.{MAX_STEPS}
use Rattle.step_bound.specs.Bounds.{FunctionBound}
use Rattle.step_bound.specs.Told.{IsBoundOf, AreBoundsOf}
use Rattle.step_bound.proofs.Parts.{at_most_one}

not_both : (m : Module) (k n p : ℕ) → FunctionBound m k n → n ≤ MAX_STEPS → FunctionBound m k p → MAX_STEPS < p → ⊥
not_both m k n p x small y large = let same = at_most_one m k n p x y in omega (arith, same)

pub one_answer : (m : Module) (k : ℕ) (a b : Bound) → IsBoundOf m k a → IsBoundOf m k b → a ≡ b
one_answer m k (Steps n) (Steps p) x y = ap Steps (at_most_one m k n p x.0 y.0)
one_answer m k (Steps n) Over x y = absurd (not_both m k n y.0 x.0 x.1 y.1 y.2)
one_answer m k (Steps n) Unbounded x y = absurd (y n x.0)
one_answer m k Over (Steps p) x y = absurd (not_both m k p x.0 y.0 y.1 x.1 x.2)
one_answer m k Over Over x y = refl
one_answer m k Over Unbounded x y = absurd (y x.0 x.1)
one_answer m k Unbounded (Steps p) x y = absurd (x p y.0)
one_answer m k Unbounded Over x y = absurd (x y.0 y.1)
one_answer m k Unbounded Unbounded x y = refl

same_lists : (m : Module) (a b : List Bound) → length a ≡ length b → ((k : ℕ) (x y : Bound) → slice_get a k ≡ Some x → slice_get b k ≡ Some y → x ≡ y) → a ≡ b
same_lists m [] [] long same = refl
same_lists m [] (y ∷ ys) long same = absurd (omega arith)
same_lists m (x ∷ xs) [] long same = absurd (omega arith)
same_lists m (x ∷ xs) (y ∷ ys) long same =
    ap (λ z. z ∷ xs) (same zero x y refl refl) ∙ ap (λ zs. y ∷ zs) (same_lists m xs ys (omega arith) (λ k. same (suc k)))

pub same_answers : (m : Module) (a b : List Bound) → AreBoundsOf m a → AreBoundsOf m b → a ≡ b
same_answers m a b x y =
    same_lists m a b (x.count ∙ sym y.count) (λ k p q at there. one_answer m k p q (x.each k p at) (y.each k q there))
