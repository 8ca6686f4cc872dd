-- Numbers in decimal digits, read from the front.
use Rattle.std.proofs.Common.{◌≡◌, ℕ, ◌+◌, ◌-◌, ◌*◌, ◌^◌, ◌≤◌, ◌<◌, Bool, true, false, ◌&&◌, cond, ltb, List, [], ◌∷◌, length, get_or, drop, Some, None, refl, arith}
use Rattle.std.proofs.lemmas.Bool.{le-ltb}
use Rattle.std.proofs.lemmas.List.{at_drop_more}
use Rattle.std.specs.List.{list_all}
use Rattle.first_reader.specs.Lexemes.{is_digit, value_from, digits_value}

-- more digits make no smaller number
value_from-grows : (n : ℕ) (ds : List ℕ) → n ≤ value_from n ds
value_from-grows n [] = omega arith
value_from-grows n (d ∷ ds) = omega (arith, value_from-grows (10 * n + (d - 48)) ds)

no_value : (b t : Bool) (n : ℕ) → t ≡ false → None ≡ cond (b && t) (Some n) None
no_value true true n e = absurd cc
no_value true false n e = refl
no_value false t n e = refl

-- a number that is too great already stays so
pub too_great : (ds : List ℕ) (value i : ℕ) → i < length ds → value_from value (drop i ds) ≡ value_from 0 ds → 2 ^ 120 ≤ 10 * value + (get_or ds i 0 - 48) → None ≡ digits_value ds
unfolding digits_value
too_great ds value i lt worth le =
    let next = at_drop_more (value_from value) ds i 0 lt in
    let grown = value_from-grows (10 * value + (get_or ds i 0 - 48)) (drop (i + 1) ds) in
    no_value (list_all is_digit ds) (ltb (value_from 0 ds) (2 ^ 120)) (value_from 0 ds) (le-ltb _ _ (omega (arith, next, grown, worth, le)))
