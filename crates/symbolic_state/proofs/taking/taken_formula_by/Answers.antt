use Rattle.std.proofs.Common.{rules, Ok, refl, sym, ap, ◌∙◌, arith}
use Rattle.std.proofs.lemmas.Bool.{lt-leb, le-leb}
use Rattle.term_trees.specs.Formulas.{formula_nodes}
use Rattle.term_trees.specs.Scopes.{formula_in_scope}
use Rattle.heap_logic.specs.words.Leaves.{slot_leaves}
use Rattle.heap_logic.proofs.Alike.{formula-same}
use Rattle.heap_logic.proofs.Slots.{slots-same}
use Rattle.symbolic_state.proofs.Taken.{leaf-scope-is}
use Rattle.heap_logic.proofs.Takings.{formula-not-there, formula-too-large, formula-there}
use Rattle.symbolic_state.proofs.taking.taken_formula_by.Goals as goal

pub returns-then-not-formula_in_scope-clause-taken : goal.returns-then-not-formula_in_scope-clause-taken
returns-then-not-formula_in_scope-clause-taken c =
    let ts = c.args.table.now in
    let l = c.args.slots.now in
    let scope = ap (λ s. formula_in_scope s c.args.f.now) (leaf-scope-is ts c.args.vars l c.requires.slots (record { variables = c.args.vars; leaves = c.args.slots }) refl refl) in
    formula-not-there (slot_leaves ts c.args.vars l) c.args.f.now (sym scope ∙ sym c.formula_in_scope.ensures ∙ search rules)

pub returns-then-replaced_formula_nodes-gt-NODES-clause-taken : goal.returns-then-replaced_formula_nodes-gt-NODES-clause-taken
returns-then-replaced_formula_nodes-gt-NODES-clause-taken c =
    let ts = c.args.table.now in
    let l = c.args.slots.now in
    let scope = ap (λ s. formula_in_scope s c.args.f.now) (leaf-scope-is ts c.args.vars l c.requires.slots (record { variables = c.args.vars; leaves = c.args.slots }) refl refl) in
    let is = ap formula_nodes (formula-same _ _ (slots-same ts c.args.vars l c.requires.slots) c.args.f.now) in
    formula-too-large (slot_leaves ts c.args.vars l) c.args.f.now (sym scope ∙ sym c.formula_in_scope.ensures ∙ search rules)
    (lt-leb _ 4096 (omega (arith, is, c.replaced_formula_nodes.ensures, c.if-replaced_formula_nodes-gt-NODES.true)))

pub returns-clause-taken : goal.returns-clause-taken
returns-clause-taken c =
    let ts = c.args.table.now in
    let l = c.args.slots.now in
    let scope = ap (λ s. formula_in_scope s c.args.f.now) (leaf-scope-is ts c.args.vars l c.requires.slots (record { variables = c.args.vars; leaves = c.args.slots }) refl refl) in
    let same = formula-same _ _ (slots-same ts c.args.vars l c.requires.slots) c.args.f.now in
    let is = ap formula_nodes same in
    formula-there (slot_leaves ts c.args.vars l) c.args.f.now (sym scope ∙ sym c.formula_in_scope.ensures ∙ search rules)
    (le-leb _ 4096 (omega (arith, is, c.replaced_formula_nodes.ensures, c.if-replaced_formula_nodes-gt-NODES.false)))
    ∙ ap (λ f. Ok f) (sym (c.in_ok-put_replaced_formula.ensures.tree ∙ sym same))
