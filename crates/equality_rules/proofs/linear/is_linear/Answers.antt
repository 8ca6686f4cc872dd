use Rattle.std.proofs.Common.{rules, ◌≡◌, [], pos, Bool, true, false, not, ◌||◌, map, Some, None, refl, sym, ap, ◌∙◌}
use Rattle.std.specs.List.{list_all}
use Rattle.term_logic.specs.Table.{tree_at}
use Rattle.term_logic.specs.Formulas.{formula_of}
use Rattle.term_trees.specs.Linear.{shown_form}
use Rattle.equality_rules.specs.Linear.{is_equation}
use Rattle.equality_rules.specs.words.Sums.{concluded_form, total_after, remains}
use Rattle.equality_rules.proofs.LinearTerms.{linear-unformed, linear-high, linear-settled}
use Rattle.equality_rules.proofs.linear.is_linear.Goals as goal
use Rattle.equality_rules.proofs.linear.is_linear.Goals.{else-none-via-then-none+else-not-are_equations, else-none-via-else-none}

pub returns-in_default : goal.returns-in_default
returns-in_default c =
    let none : None ≡ concluded_form (formula_of c.args.table.now c.args.conclusion.now) = search rules in
    linear-unformed (map (λ f. formula_of c.args.table.now f.now) c.args.premises.now) c.args.numbers.now (formula_of c.args.table.now c.args.conclusion.now) (sym none)

pub returns-in_default-2 : goal.returns-in_default-2
returns-in_default-2 c =
    let none : None ≡ total_after (pos 0, []) (map (λ f. formula_of c.args.table.now f.now) c.args.premises.now) c.args.numbers.now = search rules in
    linear-high (map (λ f. formula_of c.args.table.now f.now) c.args.premises.now) c.args.numbers.now (formula_of c.args.table.now c.args.conclusion.now) (sym none)

-- equations come from equations
all_fit : (c b : Bool) → c ≡ false → (not c || b) ≡ true
all_fit false b e = refl
all_fit true b e = cc

these_fit : (c b : Bool) → b ≡ true → (not c || b) ≡ true
these_fit false b e = refl
these_fit true b e = e

fit : (c : goal.After-drop-form-2) → (not (is_equation (formula_of c.args.table.now c.args.conclusion.now)) || list_all is_equation (map (λ f. formula_of c.args.table.now f.now) c.args.premises.now)) ≡ true
fit c = elim c.else-none.branch [
  | else-none-via-then-none+else-not-are_equations w ↦ these_fit (is_equation (formula_of c.args.table.now c.args.conclusion.now)) _ (search rules)
  | else-none-via-else-none w ↦ all_fit (is_equation (formula_of c.args.table.now c.args.conclusion.now)) _ (search rules)
]

pub returns : goal.returns
returns c =
    let formed : Some (shown_form (tree_at c.args.table.now) c.in-Some.form) ≡ concluded_form (formula_of c.args.table.now c.args.conclusion.now) = search rules in
    let summed : Some (shown_form (tree_at c.args.table.now) c.in-Some-2.sum) ≡ total_after (pos 0, []) (map (λ f. formula_of c.args.table.now f.now) c.args.premises.now) c.args.numbers.now = search rules in
    c.remains.ensures
    ∙ ap (λ b. remains b (shown_form (tree_at c.args.table.now) c.in-Some.form) (shown_form (tree_at c.args.table.now) c.in-Some-2.sum)) c.is_equation-none.ensures
    ∙ linear-settled (map (λ f. formula_of c.args.table.now f.now) c.args.premises.now) c.args.numbers.now (formula_of c.args.table.now c.args.conclusion.now)
    (shown_form (tree_at c.args.table.now) c.in-Some.form) (shown_form (tree_at c.args.table.now) c.in-Some-2.sum) (fit c) (sym formed) (sym summed)
