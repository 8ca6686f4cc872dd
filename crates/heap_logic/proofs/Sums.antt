-- Sums that end at a greatest number.
use Rattle.std.proofs.Common.{◌≡◌, ℕ, ◌+◌, ◌<◌, List, [], ◌∷◌, length, get_or, map, take, sum_by, min, sym, ap, ◌∙◌, arith, add-one}
use Rattle.std.proofs.Math.Seq.{take-suc}
use Rattle.std.proofs.lemmas.List.{map-append}
use Rattle.std.proofs.lemmas.List.Sums.{sum_by_push}

pub sum-step : {X Y : Type 0} (f : Y → ℕ) (g : X → Y) (xs : List X) (i : ℕ) (x : X) → i < length xs → x ≡ get_or xs i x
    → sum_by f (map g (take (i + 1) xs)) ≡ sum_by f (map g (take i xs)) + f (g x)
sum-step f g xs i x h at =
    ap (λ n. sum_by f (map g (take n xs))) (add-one i) ∙ ap (λ ys. sum_by f (map g ys)) (take-suc xs i x h)
    ∙ ap (sum_by f) (map-append g (take i xs) (get_or xs i x ∷ [])) ∙ sum_by_push f (map g (take i xs)) (g (get_or xs i x))
    ∙ ap (λ y. sum_by f (map g (take i xs)) + f (g y)) (sym at)

-- one more number of a sum
pub capped : (cap total more before step after : ℕ) → before ≡ min total cap → step ≡ min more cap → after ≡ min (before + step) cap → after ≡ min (total + more) cap
capped cap total more before step after b s a = omega (arith, b, s, a)
