use Rattle.std.proofs.Common.{ℕ, map, Bool, arith}
use Rattle.wasm_values.specs.Operators.{width_of}
use Rattle.term_logic.specs.Formulas.{formula_of}
use Rattle.term_logic.specs.Table.{tree_at}
use Rattle.integer_rules.specs.Rows.{mask_row}
use Rattle.integer_rules.specs.Fits.{fits_row, fits_some_mask}
use Rattle.integer_rules.proofs.Ranges.{ends, goes_on, finds_none}
use Rattle.integer_rules.proofs.reading.is_some_mask.Goals as goal

pub returns-then-is_masked : goal.returns-then-is_masked
unfolding fits_some_mask
returns-then-is_masked c =
    let p : ℕ → Bool = λ k. fits_row (mask_row c.args.width (tree_at c.args.table.now c.args.a) k) (map (λ f. formula_of c.args.table.now f.now) c.args.premises.now) (formula_of c.args.table.now c.args.conclusion.now) in
    ends p _ c.loop-k.k (width_of c.args.width) c.loop-k.invariant (omega arith) c.if-is_masked.ensures

pub loop-k-preserved : goal.loop-k-preserved
loop-k-preserved c =
    let p : ℕ → Bool = λ k. fits_row (mask_row c.args.width (tree_at c.args.table.now c.args.a) k) (map (λ f. formula_of c.args.table.now f.now) c.args.premises.now) (formula_of c.args.table.now c.args.conclusion.now) in
    goes_on p _ c.loop-k.k (width_of c.args.width) c.loop-k.invariant (omega arith) c.if-is_masked.ensures

pub returns : goal.returns
unfolding fits_some_mask
returns c =
    let p : ℕ → Bool = λ k. fits_row (mask_row c.args.width (tree_at c.args.table.now c.args.a) k) (map (λ f. formula_of c.args.table.now f.now) c.args.premises.now) (formula_of c.args.table.now c.args.conclusion.now) in
    finds_none p _ c.loop-k.k (width_of c.args.width) c.loop-k.invariant (omega arith)
