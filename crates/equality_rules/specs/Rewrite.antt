-- Rewriting: some of the subterms a of a formula replaced by b.
use Rattle.std.specs.Prelude.{ℕ, Bool, ◌&&◌, ◌||◌, List}
use Rattle.term_logic.specs.declared.term.Term.{Term, fold-Term, roll-Term, map-Term}
use Rattle.term_logic.specs.declared.term.Term.TheOpen.{Term-F}
use Rattle.term_logic.specs.declared.term.Formula.{Formula, fold-Formula}
use Rattle.term_logic.specs.declared.term.Formula.TheOpen.{Formula-F, True, False, Eq, Le, Lt, Not, And, Or, Imp}
use Rattle.term_logic.specs.declared.table.TermCell.{TermCell}
use Rattle.term_logic.specs.Table.{cell_layer, tree_at}
use Rattle.term_logic.specs.Same.{passes, same_here, same}
use Rattle.term_logic.specs.Views.{is_true, is_false, eq_of, le_of, lt_of, not_of, and_of, or_of, imp_of}

-- whether the term t becomes u, from whether its parts become given terms: t is a and u is b, or u is built the same way
-- from what the parts become
abbrev pub layer_becomes : Term → Term → Term → Term-F (Term → Bool) → Term → Bool
layer_becomes a b t l u = (same t a && same u b) || same_here l u

-- one layer as a term, beside the test which terms it becomes
abbrev pub becomes_here : Term → Term → Term-F (Term × (Term → Bool)) → Term × (Term → Bool)
becomes_here a b l =
    let t = roll-Term (map-Term (Term × (Term → Bool)) Term (λ p. p.0) l) in
    (t, layer_becomes a b t (map-Term (Term × (Term → Bool)) (Term → Bool) (λ p. p.1) l))

-- Whether a term becomes another by replacing some of its subterms a, none or all, by b.
unfoldable pub becomes : Term → Term → Term → Term → Bool
becomes a b t = (fold-Term (Term × (Term → Bool)) (becomes_here a b) t).1

-- whether one layer becomes the formula f, from whether its parts become given formulas: f is built the same way
abbrev pub formula_becomes_here : Term → Term → Formula-F (Formula → Bool) → Formula → Bool
formula_becomes_here a b True f = is_true f
formula_becomes_here a b False f = is_false f
formula_becomes_here a b (Eq t u) f = passes (eq_of f) (λ p. becomes a b t p.0 && becomes a b u p.1)
formula_becomes_here a b (Le t u) f = passes (le_of f) (λ p. becomes a b t p.0 && becomes a b u p.1)
formula_becomes_here a b (Lt t u) f = passes (lt_of f) (λ p. becomes a b t p.0 && becomes a b u p.1)
formula_becomes_here a b (Not g) f = passes (not_of f) (λ h. g h)
formula_becomes_here a b (And g h) f = passes (and_of f) (λ p. g p.0 && h p.1)
formula_becomes_here a b (Or g h) f = passes (or_of f) (λ p. g p.0 && h p.1)
formula_becomes_here a b (Imp g h) f = passes (imp_of f) (λ p. g p.0 && h p.1)

-- Whether a formula becomes another by replacing some of the subterms a of its terms by b.
abbrev pub formula_becomes : Term → Term → Formula → Formula → Bool
formula_becomes a b f g = fold-Formula (Formula → Bool) (formula_becomes_here a b) f g

-- `rewrite`: from `(= a b)` and f to f with some subterms a replaced by b.
abbrev pub is_rewrite : Formula → Formula → Formula → Bool
is_rewrite e f c = passes (eq_of e) (λ s. formula_becomes s.0 s.1 f c)

-- whether a cell's parts in a table become those of u, and u is built from them as the cell is
abbrev pub cell_becomes : Term → Term → List Term → TermCell → Term → Bool
cell_becomes a b ts c u = same_here (map-Term ℕ (Term → Bool) (λ i. becomes a b (tree_at ts i)) (cell_layer c)) u
