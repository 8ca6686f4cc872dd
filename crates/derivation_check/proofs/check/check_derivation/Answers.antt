use Rattle.std.proofs.Common.{◌∙◌, sym, ap, map, []}
use Rattle.std.proofs.lemmas.List.{append-nil}
use Rattle.term_logic.specs.Formulas.{formula_of}
use Rattle.term_trees.specs.Same.{passes, same_formula}
use Rattle.bitvector_rules.specs.Goals.{last_formula}
use Rattle.derivation_check.specs.Derivations.{good_steps}
use Rattle.derivation_check.specs.words.Facts.{hyps_at, earlier_at}
use Rattle.derivation_check.proofs.StepLemmas.{answer_yes, answer_ends, answer_bad}
use Rattle.derivation_check.proofs.check.check_derivation.Goals.{else-good-len-via-then-good-len+else-ends_with, else-good-len-via-else-good-len}
use Rattle.derivation_check.proofs.check.check_derivation.Goals as goal

pub returns-then-ends_with-clause-checked : goal.returns-then-ends_with-clause-checked
returns-then-ends_with-clause-checked c =
    let ts = c.args.table.now in
    let counts = c.in_ok-good.ensures.good
    ∙ (λ j. good_steps (hyps_at ts (c.as_slice.ensures j) (c.new-added.ensures j) 0) (earlier_at ts (c.new-added.ensures j) 0) (c.as_slice-2.ensures j))
    ∙ ap (λ hyps. good_steps (map (formula_of ts) hyps) [] c.args.steps.now) (append-nil c.args.hyps.now) in
    answer_yes (map (formula_of ts) c.args.hyps.now) (formula_of ts c.args.goal.now) c.args.steps.now c.in_ok-good.good counts (c.if-good-len.true ∙ c.len.ensures)
    (sym c.if-ends_with.true ∙ c.ends_with.ensures ∙ (λ j. passes (last_formula (c.as_slice-then-good-len.ensures j)) (λ f. same_formula f (c.good_steps.ensures.kept.formula c.args.goal.now c.requires.goal j))))

pub returns-clause-checked : goal.returns-clause-checked
returns-clause-checked c =
    let ts = c.args.table.now in
    let counts = c.in_ok-good.ensures.good
    ∙ (λ j. good_steps (hyps_at ts (c.as_slice.ensures j) (c.new-added.ensures j) 0) (earlier_at ts (c.new-added.ensures j) 0) (c.as_slice-2.ensures j))
    ∙ ap (λ hyps. good_steps (map (formula_of ts) hyps) [] c.args.steps.now) (append-nil c.args.hyps.now) in
    let hyps = map (formula_of ts) c.args.hyps.now in
    let g = formula_of ts c.args.goal.now in
    elim c.else-good-len.branch [
      | else-good-len-via-then-good-len+else-ends_with w ↦ answer_ends hyps g c.args.steps.now c.in_ok-good.good counts (w.if-good-len.true ∙ c.len.ensures)
          (sym w.if-ends_with.false ∙ w.ends_with.ensures ∙ (λ j. passes (last_formula (w.as_slice-then-good-len.ensures j)) (λ f. same_formula f (c.good_steps.ensures.kept.formula c.args.goal.now c.requires.goal j))))
      | else-good-len-via-else-good-len w ↦ answer_bad hyps g c.args.steps.now c.in_ok-good.good counts (λ e. w.if-good-len.false (e ∙ sym c.len.ensures))
    ]
