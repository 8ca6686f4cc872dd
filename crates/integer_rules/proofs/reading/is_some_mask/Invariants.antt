use Rattle.std.proofs.Common.{◌≡◌, ◌-◌, map}
use Rattle.std.specs.List.{list_any, range_with_len}
use Rattle.wasm_values.specs.Operators.{width_of}
use Rattle.term_logic.specs.Table.{tree_at}
use Rattle.term_logic.specs.Formulas.{formula_of}
use Rattle.integer_rules.specs.Rows.{mask_row}
use Rattle.integer_rules.specs.Fits.{fits_row}
use Rattle.integer_rules.proofs.reading.is_some_mask.Given as goal

-- some number from 1 on passes where one from k on does
abbrev pub invariant-loop-k : goal.invariant-loop-k
invariant-loop-k l =
    list_any (λ k. fits_row (mask_row l.width (tree_at l.table l.a) k) (map (λ f. formula_of l.table f.now) l.premises) (formula_of l.table l.conclusion)) (range_with_len 1 (width_of l.width - 1))
    ≡ list_any (λ k. fits_row (mask_row l.width (tree_at l.table l.a) k) (map (λ f. formula_of l.table f.now) l.premises) (formula_of l.table l.conclusion)) (range_with_len l.k (width_of l.width - l.k))
