-- Writing segments into a window.
use Rattle.std.proofs.Common.{◌≡◌, refl, sym, ap, ◌∙◌, ℕ, zero, suc, ◌+◌, ◌-◌, ◌≤◌, ◌<◌, if◌then◌else◌, List, [], ◌∷◌, ◌++◌, length, take, drop, arith, append-nil, min}
use Rattle.std.specs.Prelude.{slice_get, Some, None, unwrap_or, nat_le, replicate}
use Rattle.std.proofs.lemmas.List.{take_all, drop_all, length-drop}
use Rattle.std.proofs.Math.Seq.{take-append_seam}
use borrow.Rule.Slice.PartMut.{put_mid}
use Rattle.std.proofs.lemmas.Bool.{le-leb, false_from_ne_true, leb-true}
use Rattle.wasm_syntax.specs.declared.module.Segment.{Segment}
use Rattle.outline_rules.specs.Settings.{Setting}
use Rattle.outline_rules.specs.Initial.{offset_of, byte_over, byte_after, byte_at, bytes_at}
use Rattle.initial_memory.specs.words.Windows.{overlaid, window_over, window_after}

-- what lies over a window
pub overlaid_count : (n : ℕ) (xs bs : List ℕ) → n ≡ min (length bs) (length xs) → overlaid xs bs ≡ take n xs ++ drop n bs
overlaid_count zero xs [] is = refl
overlaid_count zero [] (b ∷ bs) is = refl
overlaid_count zero (x ∷ xs) (b ∷ bs) is = absurd (omega arith)
overlaid_count (suc n) xs [] is = absurd (omega arith)
overlaid_count (suc n) [] (b ∷ bs) is = absurd (omega arith)
overlaid_count (suc n) (x ∷ xs) (b ∷ bs) is = ap (λ s. x ∷ s) (overlaid_count n xs bs (omega arith))

pub overlaid_none : (bs : List ℕ) → overlaid [] bs ≡ bs
overlaid_none [] = refl
overlaid_none (b ∷ bs) = refl

overlaid-cons : (bytes : List ℕ) (k b : ℕ) (bs : List ℕ) → overlaid (drop k bytes) (b ∷ bs) ≡ unwrap_or (slice_get bytes k) b ∷ overlaid (drop (suc k) bytes) bs
overlaid-cons [] zero b bs = ap (λ s. b ∷ s) (sym (overlaid_none bs))
overlaid-cons [] (suc k) b bs = ap (λ s. b ∷ s) (sym (overlaid_none bs))
overlaid-cons (x ∷ xs) zero b bs = refl
overlaid-cons (x ∷ xs) (suc k) b bs = overlaid-cons xs k b bs

-- a byte at or behind the segment's offset, and one before it
byte_behind : (o a b : ℕ) (bytes : List ℕ) → o ≤ a → byte_over (Some o) bytes a b ≡ unwrap_or (slice_get bytes (a - o)) b
byte_behind o a b bytes low = ap (λ t. if t then unwrap_or (slice_get bytes (a - o)) b else b) (le-leb o a low)

byte_before : (o a b : ℕ) (bytes : List ℕ) → a < o → byte_over (Some o) bytes a b ≡ b
byte_before o a b bytes low =
    ap (λ t. if t then unwrap_or (slice_get bytes (a - o)) b else b) (false_from_ne_true (nat_le o a) (λ e. let back : o ≤ a = leb-true o a e in omega arith))

-- a segment that begins at or before the window
pub over_behind : (o a : ℕ) (bytes bs : List ℕ) → o ≤ a → window_over (Some o) bytes a bs ≡ overlaid (drop (a - o) bytes) bs
over_behind o a bytes [] low = refl
over_behind o a bytes (b ∷ bs) low =
    let next : suc a - o ≡ suc (a - o) = omega arith in
    (λ j. byte_behind o a b bytes low j ∷ over_behind o (suc a) bytes bs (omega arith) j)
    ∙ ap (λ k. unwrap_or (slice_get bytes (a - o)) b ∷ overlaid (drop k bytes) bs) next
    ∙ sym (overlaid-cons bytes (a - o) b bs)

-- a segment that begins so many bytes behind the window's beginning
over_at : (k o a : ℕ) (bytes bs : List ℕ) → o ≡ a + k → window_over (Some o) bytes a bs ≡ take k bs ++ overlaid bytes (drop k bs)
over_at zero o a bytes bs is = let none : a - o ≡ 0 = omega arith in over_behind o a bytes bs (omega arith) ∙ ap (λ k. overlaid (drop k bytes) bs) none
over_at (suc k) o a bytes [] is = refl
over_at (suc k) o a bytes (b ∷ bs) is = λ j. byte_before o a b bytes (omega arith) j ∷ over_at k o (suc a) bytes bs (omega arith) j

pub over_ahead : (o a : ℕ) (bytes bs : List ℕ) → a ≤ o → window_over (Some o) bytes a bs ≡ take (o - a) bs ++ overlaid bytes (drop (o - a) bs)
over_ahead o a bytes bs low = over_at (o - a) o a bytes bs (omega arith)

-- no segment
pub over_none : (a : ℕ) (bytes bs : List ℕ) → window_over None bytes a bs ≡ bs
over_none a bytes [] = refl
over_none a bytes (b ∷ bs) = ap (λ s. b ∷ s) (over_none (suc a) bytes bs)

-- each byte by itself
abbrev each_after : List Segment → (a : ℕ) → List ℕ → List ℕ
each_after segs a [] = []
each_after segs a (b ∷ bs) = byte_after segs a b ∷ each_after segs (suc a) bs

each_none : (a : ℕ) (bs : List ℕ) → bs ≡ each_after [] a bs
each_none a [] = refl
each_none a (b ∷ bs) = ap (λ s. b ∷ s) (each_none (suc a) bs)

each_more : (seg : Segment) (segs : List Segment) (a : ℕ) (bs : List ℕ) → each_after segs a (window_over (offset_of seg.offset) seg.bytes a bs) ≡ each_after (seg ∷ segs) a bs
each_more seg segs a [] = refl
each_more seg segs a (b ∷ bs) = ap (λ s. byte_after segs a (byte_over (offset_of seg.offset) seg.bytes a b) ∷ s) (each_more seg segs (suc a) bs)

each_is : (segs : List Segment) (a : ℕ) (bs : List ℕ) → window_after segs a bs ≡ each_after segs a bs
each_is [] a bs = each_none a bs
each_is (seg ∷ segs) a bs = each_is segs a (window_over (offset_of seg.offset) seg.bytes a bs) ∙ each_more seg segs a bs

from_zeros : (c : Setting) (a n : ℕ) → each_after c.code.segments a (replicate n 0) ≡ bytes_at c a n
from_zeros c a zero = refl
from_zeros c a (suc n) = ap (λ s. byte_at c a ∷ s) (from_zeros c (suc a) n)

-- all segments over zeros
pub written : (c : Setting) (a n : ℕ) → window_after c.code.segments a (replicate n 0) ≡ bytes_at c a n
written c a n = each_is c.code.segments a (replicate n 0) ∙ from_zeros c a n

length-after : (segs : List Segment) (a : ℕ) (bs : List ℕ) → length (each_after segs a bs) ≡ length bs
length-after segs a [] = refl
length-after segs a (b ∷ bs) = ap suc (length-after segs (suc a) bs)

-- ---- what code leaves of a window

-- the segment begins before the window and ends in it or behind it
pub behind : (o a : ℕ) (bytes bs new : List ℕ) → o ≤ a → new ≡ overlaid (take (length bytes - (a - o)) (drop (a - o) bytes)) bs → new ≡ window_over (Some o) bytes a bs
behind o a bytes bs new low is =
    let long : length (drop (a - o) bytes) ≤ length bytes - (a - o) = omega (arith, length-drop (a - o) bytes) in
    is ∙ ap (λ xs. overlaid xs bs) (take_all (length bytes - (a - o)) (drop (a - o) bytes) long) ∙ sym (over_behind o a bytes bs low)

-- it ends before the window
pub passed : (o a : ℕ) (bytes bs : List ℕ) → o ≤ a → length bytes ≤ a - o → bs ≡ window_over (Some o) bytes a bs
passed o a bytes bs low past =
    sym (over_behind o a bytes bs low ∙ ap (λ xs. overlaid xs bs) (drop_all (a - o) bytes past) ∙ overlaid_none bs)

-- it begins in the window
pub ahead : (o a : ℕ) (bytes bs new : List ℕ) → a ≤ o → new ≡ overlaid bytes (take (length bs - (o - a)) (drop (o - a) bs))
    → put_mid (o - a) (length bs - (o - a)) bs new ≡ window_over (Some o) bytes a bs
ahead o a bytes bs new low is =
    let long : length (drop (o - a) bs) ≤ length bs - (o - a) = omega (arith, length-drop (o - a) bs) in
    ap (λ xs. take (o - a) bs ++ (new ++ xs)) (drop_all (length bs - (o - a)) (drop (o - a) bs) long)
    ∙ ap (λ xs. take (o - a) bs ++ xs) (append-nil new ∙ is ∙ ap (overlaid bytes) (take_all (length bs - (o - a)) (drop (o - a) bs) long))
    ∙ sym (over_ahead o a bytes bs low)

-- it begins behind the window
pub not_reached : (o a : ℕ) (bytes bs : List ℕ) → a ≤ o → length bs ≤ o - a → bs ≡ window_over (Some o) bytes a bs
not_reached o a bytes bs low past =
    sym (over_ahead o a bytes bs low
    ∙ (λ j. take_all (o - a) bs past j ++ overlaid bytes (drop_all (o - a) bs past j)) ∙ append-nil bs)

-- all of a window comes back
pub all_back : (c : Setting) (a n len : ℕ) (zeros items new : List ℕ) → len ≡ length items → items ≡ replicate n 0 → zeros ≡ items → new ≡ window_after c.code.segments a zeros
    → take len (new ++ drop (length new) items) ≡ bytes_at c a n
all_back c a n len zeros items new many are same is =
    let whole : length new ≡ length items = ap (λ (xs : List ℕ). length xs) (is ∙ ap (window_after c.code.segments a) same ∙ each_is c.code.segments a items) ∙ length-after c.code.segments a items in
    ap (λ k. take k (new ++ drop (length new) items)) (many ∙ sym whole) ∙ take-append_seam new (drop (length new) items)
    ∙ is ∙ ap (window_after c.code.segments a) (same ∙ are) ∙ written c a n
