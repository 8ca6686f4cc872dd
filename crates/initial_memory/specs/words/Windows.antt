-- A window of the memory while segments are written.
use Rattle.std.specs.Prelude.{ℕ, zero, suc, ◌*◌, Bool, true, ◌&&◌, List, [], ◌∷◌, take, drop, Option}
use Rattle.wasm_syntax.specs.declared.module.Segment.{Segment}
use Rattle.wasm_values.specs.Operators.{number_of_bytes}
use Rattle.term_trees.specs.declared.term.Formula.{Formula}
use Rattle.term_trees.specs.Ground.{ground_truth}
use Rattle.term_trees.specs.Rows.{at_position}
use Rattle.outline_rules.specs.States.{number}
use Rattle.outline_rules.specs.Initial.{offset_of, byte_over, is_truth}

-- bytes over the first of others, as many as there is room for
abbrev pub overlaid : (bytes window : List ℕ) → List ℕ
overlaid bytes [] = []
overlaid [] (b ∷ bs) = b ∷ bs
overlaid (x ∷ xs) (b ∷ bs) = x ∷ overlaid xs bs

-- the bytes of a window from an address on, once a segment is written from an offset on
abbrev pub window_over : Option ℕ → (bytes : List ℕ) → (at : ℕ) → (window : List ℕ) → List ℕ
window_over o bytes a [] = []
window_over o bytes a (b ∷ bs) = byte_over o bytes a b ∷ window_over o bytes (suc a) bs

-- the bytes of a window once these segments are written, one after another
abbrev pub window_after : List Segment → (at : ℕ) → (window : List ℕ) → List ℕ
window_after [] a window = window
window_after (seg ∷ segs) a window = window_after segs a (window_over (offset_of seg.offset) seg.bytes a window)

-- whether a formula is true of each of the first n cells of a window
abbrev pub true_in : (window : List ℕ) → (n width : ℕ) → Formula → Bool
true_in window zero w each = true
true_in window (suc n) w each =
    true_in window n w each
    && is_truth (ground_truth (at_position each (number n) (number (number_of_bytes (take w (drop (n * w) window))))))
