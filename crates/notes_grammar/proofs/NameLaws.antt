-- Words that are variables are read exactly.
use Rattle.std.proofs.Common.{◌≡◌, ℕ, zero, suc, ◌+◌, ◌-◌, ◌*◌, ◌/◌, ◌%◌, ◌<◌, ◌≤◌, Bool, true, false, cond, eqb, ◌&&◌, ◌⊎◌, inl, inr, List, [], ◌∷◌, ◌++◌, length, Option, Some, None, refl, sym, ap, ◌∙◌, subst, append_assoc, arith}
use Rattle.std.proofs.lemmas.Bool.{eqb-true, leb-true, le-leb}
use Rattle.std.proofs.lemmas.Bool.Decides.{nat_tests}
use Rattle.std.proofs.lemmas.List.{append-nil}
use Rattle.std.proofs.lemmas.Fmt.{decimal_digit, decimal_step_wide, decimal_by_steps_wide}
use Rattle.std.specs.Fmt.{decimal}
use Rattle.sexp_text.specs.Bytes.{is_digit, is_between}
use Rattle.term_trees.specs.declared.term.Term.{Term}
use Rattle.term_trees.specs.declared.term.Term.TheVariants as terms
use Rattle.notes_grammar.specs.Shapes.{is_small}
use Rattle.notes_grammar.specs.Reading.{index_from, index_of, made, leaf_of}

both : (x y : Bool) → (x && y) ≡ true → (x ≡ true) × (y ≡ true)
both true y e = (refl, e)
both false y e = cc

small_le : (n : ℕ) → is_small n ≡ true → n ≤ 4294967295
small_le n h = leb-true n 4294967295 h

le_small : (n : ℕ) → n ≤ 4294967295 → is_small n ≡ true
le_small n h = le-leb n 4294967295 h

-- one more digit
push_digit : (n b : ℕ) → 0 < n → n ≤ 4294967295 → is_digit b ≡ true → decimal (10 * n + (b - 48)) ≡ decimal n ++ b ∷ []
push_digit n b p l h =
    let low : 48 ≤ b = grind (arith, nat_tests) in
    let high : b ≤ 57 = grind (arith, nat_tests) in
    let m = 10 * n + (b - 48) in
    let tens : m / 10 ≡ n = omega arith in
    let ones : 48 + m % 10 ≡ b = omega arith in
    decimal_step_wide m (omega arith) (omega arith) ∙ ap (λ k. decimal k ++ (48 + m % 10) ∷ []) tens ∙ ap (λ c. decimal n ++ c ∷ []) ones

index_from_sound : (bs : List ℕ) (n m : ℕ) → 0 < n → n ≤ 4294967295 → index_from n bs ≡ Some m → (decimal n ++ bs ≡ decimal m) × (m ≤ 4294967295)
index_from_sound [] n m p l e = let same : n ≡ m = cc in (append-nil (decimal n) ∙ ap decimal same, subst (λ k. k ≤ 4294967295) same l)
index_from_sound (b ∷ bs) n m p l e = by_digit (is_digit b && is_small (10 * n + (b - 48))) refl (λ p l f. index_from_sound bs (10 * n + (b - 48)) m p l f) e
  where
    by_digit : (v : Bool) → (is_digit b && is_small (10 * n + (b - 48))) ≡ v →
        (0 < 10 * n + (b - 48) → 10 * n + (b - 48) ≤ 4294967295 → index_from (10 * n + (b - 48)) bs ≡ Some m → (decimal (10 * n + (b - 48)) ++ bs ≡ decimal m) × (m ≤ 4294967295)) →
        cond v (index_from (10 * n + (b - 48)) bs) None ≡ Some m → (decimal n ++ b ∷ bs ≡ decimal m) × (m ≤ 4294967295)
    by_digit true t more e =
        let parts = both (is_digit b) (is_small (10 * n + (b - 48))) t in
        let rest = more (omega arith) (small_le (10 * n + (b - 48)) parts.1) e in
        (sym (append_assoc (decimal n) (b ∷ []) bs) ∙ ap (λ xs. xs ++ bs) (sym (push_digit n b p l parts.0)) ∙ rest.0, rest.1)
    by_digit false t more e = cc

first_digit : (b : ℕ) → is_between 49 57 b ≡ true → (49 ≤ b) × (b ≤ 57)
first_digit b h = (grind (arith, nat_tests), grind (arith, nat_tests))

index_sound : (bs : List ℕ) (n : ℕ) → index_of bs ≡ Some n → (bs ≡ decimal n) × (is_small n ≡ true)
unfolding index_of
index_sound [] n e = cc
index_sound (b ∷ bs) n e = by_zero (eqb b 48) refl e
  where
    by_end : (bs : List ℕ) (v : Bool) → eqb (length bs) 0 ≡ v → b ≡ 48 → cond v (Some 0) None ≡ Some n → (b ∷ bs ≡ decimal n) × (is_small n ≡ true)
    by_end [] true t z e = let same : 0 ≡ n = cc in (ap (λ c. c ∷ []) z ∙ sym (decimal_digit 0 (omega arith)) ∙ ap decimal same, le_small n (omega arith))
    by_end (c ∷ cs) true t z e = let no_end = eqb-true (length (c ∷ cs)) 0 t in absurd (omega arith)
    by_end bs false t z e = cc

    by_first : (v : Bool) → is_between 49 57 b ≡ v → cond v (index_from (b - 48) bs) None ≡ Some n → (b ∷ bs ≡ decimal n) × (is_small n ≡ true)
    by_first true t e =
        let d = first_digit b t in
        let r = index_from_sound bs (b - 48) n (omega (arith, d)) (omega (arith, d)) e in
        let whole : 48 + (b - 48) ≡ b = omega (arith, d) in
        (ap (λ c. c ∷ bs) (sym whole) ∙ ap (λ xs. xs ++ bs) (sym (decimal_digit (b - 48) (omega (arith, d)))) ∙ r.0, le_small n r.1)
    by_first false t e = cc

    by_zero : (v : Bool) → eqb b 48 ≡ v → cond v (cond (eqb (length bs) 0) (Some 0) None) (cond (is_between 49 57 b) (index_from (b - 48) bs) None) ≡ Some n → (b ∷ bs ≡ decimal n) × (is_small n ≡ true)
    by_zero true t e = by_end bs (eqb (length bs) 0) refl (eqb-true b 48 t) e
    by_zero false t e = by_first (is_between 49 57 b) refl e

-- and back

index_push : (bs : List ℕ) (k m d : ℕ) → d < 10 → 10 * m + d ≤ 4294967295 → index_from k bs ≡ Some m → index_from k (bs ++ (48 + d) ∷ []) ≡ Some (10 * m + d)
index_push [] k m d h l e =
    let same : k ≡ m = cc in
    let digit : is_digit (48 + d) ≡ true = grind (arith, nat_tests) in
    let value : 10 * k + ((48 + d) - 48) ≡ 10 * m + d = omega (arith, same) in
    let fits : is_small (10 * k + ((48 + d) - 48)) ≡ true = le_small (10 * k + ((48 + d) - 48)) (omega (arith, value)) in
    rw (digit, fits) (ap Some value)
index_push (b ∷ bs) k m d h l e = by_digit (is_digit b && is_small (10 * k + (b - 48))) (λ f. index_push bs (10 * k + (b - 48)) m d h l f) e
  where
    by_digit : (v : Bool) → (index_from (10 * k + (b - 48)) bs ≡ Some m → index_from (10 * k + (b - 48)) (bs ++ (48 + d) ∷ []) ≡ Some (10 * m + d)) →
        cond v (index_from (10 * k + (b - 48)) bs) None ≡ Some m → cond v (index_from (10 * k + (b - 48)) (bs ++ (48 + d) ∷ [])) None ≡ Some (10 * m + d)
    by_digit true more e = more e
    by_digit false more e = cc

positive_of : List ℕ → Option ℕ
positive_of [] = None
positive_of (b ∷ bs) = cond (is_between 49 57 b) (index_from (b - 48) bs) None

abbrev Back : ℕ → List ℕ → Type 0
Back n ds = 0 < n → n ≤ 4294967295 → positive_of ds ≡ Some n

back_one : (n : ℕ) → n < 10 → Back n ((48 + n) ∷ [])
unfolding positive_of
back_one n h p l =
    let first : is_between 49 57 (48 + n) ≡ true = grind (arith, nat_tests) in
    let value : (48 + n) - 48 ≡ n = omega arith in
    rw first (ap Some value)

back_more : (n : ℕ) (ds : List ℕ) → 10 ≤ n → Back (n / 10) ds → Back n (ds ++ (48 + n % 10) ∷ [])
unfolding positive_of
back_more n [] h b p l = let e = b (omega arith) (omega arith) in cc
back_more n (d ∷ ds) h b p l = by_first (is_between 49 57 d) (b (omega arith) (omega arith))
  where
    by_first : (v : Bool) → cond v (index_from (d - 48) ds) None ≡ Some (n / 10) → cond v (index_from (d - 48) (ds ++ (48 + n % 10) ∷ [])) None ≡ Some n
    by_first true e =
        let whole : 10 * (n / 10) + n % 10 ≡ n = omega arith in
        index_push ds (d - 48) (n / 10) (n % 10) (omega arith) (omega (arith, whole, l)) e ∙ ap Some whole
    by_first false e = cc

index_zero : index_of (48 ∷ []) ≡ Some 0
unfolding index_of
index_zero = refl

positive_index : (ds : List ℕ) (n : ℕ) → positive_of ds ≡ Some n → index_of ds ≡ Some n
unfolding index_of positive_of
positive_index [] n e = cc
positive_index (b ∷ bs) n e = by_first (is_between 49 57 b) refl e
  where
    by_first : (v : Bool) → is_between 49 57 b ≡ v → cond v (index_from (b - 48) bs) None ≡ Some n →
        cond (eqb b 48) (cond (eqb (length bs) 0) (Some 0) None) (cond v (index_from (b - 48) bs) None) ≡ Some n
    by_first true t e = let other : eqb b 48 ≡ false = grind (arith, nat_tests) in rw other e
    by_first false t e = cc

index_whole : (n : ℕ) → n ≤ 4294967295 → index_of (decimal n) ≡ Some n
index_whole zero h = ap index_of (decimal_digit 0 (omega arith)) ∙ index_zero
index_whole (suc n) h = positive_index (decimal (suc n)) (suc n) (decimal_by_steps_wide Back back_one back_more (suc n) (omega arith) (omega arith) h)

pub leaf_sound : (w : List ℕ) (t : Term) → leaf_of w ≡ Some t →
    ((n : ℕ) × (t ≡ terms.Var n) × (w ≡ 118 ∷ decimal n) × (is_small n ≡ true)) ⊎ ((n : ℕ) × (t ≡ terms.Own n) × (w ≡ 120 ∷ decimal n) × (is_small n ≡ true))
unfolding leaf_of
leaf_sound [] t e = cc
leaf_sound (b ∷ bs) t e = by_var (eqb b 118) refl e
  where
    made_of : (f : ℕ → Term) (o : Option ℕ) → index_of bs ≡ o → made f o ≡ Some t → (n : ℕ) × (t ≡ f n) × (bs ≡ decimal n) × (is_small n ≡ true)
    made_of f None i e = cc
    made_of f (Some n) i e = let same : f n ≡ t = cc in let s = index_sound bs n i in (n, sym same, s.0, s.1)

    by_own : (v : Bool) → eqb b 120 ≡ v → cond v (made terms.Own (index_of bs)) None ≡ Some t →
        ((n : ℕ) × (t ≡ terms.Var n) × (b ∷ bs ≡ 118 ∷ decimal n) × (is_small n ≡ true)) ⊎ ((n : ℕ) × (t ≡ terms.Own n) × (b ∷ bs ≡ 120 ∷ decimal n) × (is_small n ≡ true))
    by_own true t e = let m = made_of terms.Own (index_of bs) refl e in inr (m.0, m.1, (λ i. eqb-true b 120 t i ∷ m.2 i), m.3)
    by_own false t e = cc

    by_var : (v : Bool) → eqb b 118 ≡ v → cond v (made terms.Var (index_of bs)) (cond (eqb b 120) (made terms.Own (index_of bs)) None) ≡ Some t →
        ((n : ℕ) × (t ≡ terms.Var n) × (b ∷ bs ≡ 118 ∷ decimal n) × (is_small n ≡ true)) ⊎ ((n : ℕ) × (t ≡ terms.Own n) × (b ∷ bs ≡ 120 ∷ decimal n) × (is_small n ≡ true))
    by_var true t e = let m = made_of terms.Var (index_of bs) refl e in inl (m.0, m.1, (λ i. eqb-true b 118 t i ∷ m.2 i), m.3)
    by_var false t e = by_own (eqb b 120) refl e

pub var_whole : (n : ℕ) → is_small n ≡ true → leaf_of (118 ∷ decimal n) ≡ Some (terms.Var n)
unfolding leaf_of
var_whole n h = ap (made terms.Var) (index_whole n (small_le n h))

pub own_whole : (n : ℕ) → is_small n ≡ true → leaf_of (120 ∷ decimal n) ≡ Some (terms.Own n)
unfolding leaf_of
own_whole n h = ap (made terms.Own) (index_whole n (small_le n h))
