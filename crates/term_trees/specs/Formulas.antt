-- What a formula is: its nodes, its terms, and when it is well formed.
use Rattle.std.specs.Prelude.{ℕ, ◌+◌, Bool, true, ◌&&◌, List, [], ◌++◌}
use Rattle.term_trees.specs.declared.term.Term.{Term}
use Rattle.term_trees.specs.declared.term.Formula.{Formula, fold-Formula}
use Rattle.term_trees.specs.declared.term.Formula.TheOpen.{Formula-F}
use Rattle.term_trees.specs.declared.term.Formula.TheOpen as layer
use Rattle.term_trees.specs.Terms.{node_count, well_formed, subterms}

-- the nodes of one layer, from those of its parts
abbrev pub formula_nodes_here : Formula-F ℕ → ℕ
formula_nodes_here layer.True = 1
formula_nodes_here layer.False = 1
formula_nodes_here (layer.Eq a b) = 1 + node_count a + node_count b
formula_nodes_here (layer.Le a b) = 1 + node_count a + node_count b
formula_nodes_here (layer.Lt a b) = 1 + node_count a + node_count b
formula_nodes_here (layer.Not f) = 1 + f
formula_nodes_here (layer.And f g) = 1 + f + g
formula_nodes_here (layer.Or f g) = 1 + f + g
formula_nodes_here (layer.Imp f g) = 1 + f + g

-- How many nodes a formula has: each formula and each term in it is one node.
abbrev pub formula_nodes : Formula → ℕ
formula_nodes f = fold-Formula ℕ formula_nodes_here f

-- whether the terms of one layer are well formed, and its parts
abbrev pub well_formed_formula_here : Formula-F Bool → Bool
well_formed_formula_here layer.True = true
well_formed_formula_here layer.False = true
well_formed_formula_here (layer.Eq a b) = well_formed a && well_formed b
well_formed_formula_here (layer.Le a b) = well_formed a && well_formed b
well_formed_formula_here (layer.Lt a b) = well_formed a && well_formed b
well_formed_formula_here (layer.Not f) = f
well_formed_formula_here (layer.And f g) = f && g
well_formed_formula_here (layer.Or f g) = f && g
well_formed_formula_here (layer.Imp f g) = f && g

-- Whether a formula is well formed: its terms are.
abbrev pub well_formed_formula : Formula → Bool
well_formed_formula f = fold-Formula Bool well_formed_formula_here f

-- the subterms of the terms of one layer, after those of its parts
abbrev pub formula_terms_here : Formula-F (List Term) → List Term
formula_terms_here layer.True = []
formula_terms_here layer.False = []
formula_terms_here (layer.Eq a b) = subterms a ++ subterms b
formula_terms_here (layer.Le a b) = subterms a ++ subterms b
formula_terms_here (layer.Lt a b) = subterms a ++ subterms b
formula_terms_here (layer.Not f) = f
formula_terms_here (layer.And f g) = f ++ g
formula_terms_here (layer.Or f g) = f ++ g
formula_terms_here (layer.Imp f g) = f ++ g

-- All terms that stand in a formula, subterms among them.
abbrev pub formula_terms : Formula → List Term
formula_terms f = fold-Formula (List Term) formula_terms_here f
