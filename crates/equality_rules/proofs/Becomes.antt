-- What a term becomes, by its outermost form.
use Rattle.std.proofs.Common.{◌≡◌, ℕ, Bool, true, false, ◌&&◌, ◌||◌, List, sym, ap, ◌∙◌}
use Rattle.term_trees.specs.declared.term.Term.{Term, roll-Term, out-Term, roll-out-Term, map-Term}
use Rattle.term_trees.specs.declared.term.Term.TheOpen.{Term-F}
use Rattle.term_logic.specs.declared.table.TermCell.{TermCell}
use Rattle.term_logic.specs.Table.{cell_layer, tree_at}
use Rattle.term_trees.specs.Same.{same_here, same}
use Rattle.term_trees.proofs.Sameness.{map_map}
use Rattle.term_trees.proofs.Subterms.{with-roll}
use Rattle.equality_rules.specs.Rewrite.{layer_becomes, becomes, cell_becomes}

module _ (a b : Term) where
  pub becomes-roll : (l : Term-F Term) (u : Term) → becomes a b (roll-Term l) u ≡ layer_becomes a b (roll-Term l) (map-Term Term (Term → Bool) (becomes a b) l) u
  unfolding becomes
  becomes-roll l u = ap (λ (test : Term → Bool). test u) (with-roll (layer_becomes a b) l)

  pub becomes-out : (t u : Term) → becomes a b t u ≡ layer_becomes a b t (map-Term Term (Term → Bool) (becomes a b) (out-Term t)) u
  becomes-out t u =
      ap (λ v. becomes a b v u) (sym (roll-out-Term t))
      ∙ becomes-roll (out-Term t) u
      ∙ ap (λ v. layer_becomes a b v (map-Term Term (Term → Bool) (becomes a b) (out-Term t)) u) (roll-out-Term t)

  -- over a table
  pub becomes-cell : (ts : List Term) (t : Term) (c : TermCell) (u : Term) → out-Term t ≡ map-Term ℕ Term (tree_at ts) (cell_layer c)
      → becomes a b t u ≡ ((same t a && same u b) || cell_becomes a b ts c u)
  becomes-cell ts t c u is =
      becomes-out t u
      ∙ ap (λ l. layer_becomes a b t (map-Term Term (Term → Bool) (becomes a b) l) u) is
      ∙ ap (λ l. layer_becomes a b t l u) (map_map (tree_at ts) (becomes a b) (cell_layer c))

  -- what the code shows
  pub became : (t u : Term) → (same t a && same u b) ≡ true → true ≡ becomes a b t u
  became t u e = sym (becomes-out t u ∙ ap (λ c. c || same_here (map-Term Term (Term → Bool) (becomes a b) (out-Term t)) u) e)

  pub stayed : (ts : List Term) (t : Term) (c : TermCell) (u : Term) → out-Term t ≡ map-Term ℕ Term (tree_at ts) (cell_layer c) → (same t a && same u b) ≡ false → cell_becomes a b ts c u ≡ becomes a b t u
  stayed ts t c u is e = sym (becomes-cell ts t c u is ∙ ap (λ d. d || cell_becomes a b ts c u) e)
