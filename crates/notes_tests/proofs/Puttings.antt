-- How far formulas are put into a table.
use Rattle.std.proofs.Common.{◌≡◌, refl, sym, ap, subst, ◌∙◌, ℕ, suc, ◌+◌, ◌<◌, ◌≤◌, true, IsTrue, List, [], ◌∷◌, ◌++◌, length, take, drop, get_or, map, arith, add-one}
use Rattle.std.specs.Prelude.{nat_le}
use Rattle.std.specs.List.{list_all}
use Rattle.std.proofs.lemmas.List.{map-append}
use Rattle.std.proofs.lemmas.List.Elements.{All-push}
use Rattle.std.proofs.lemmas.Bool.{leb-true}
use Rattle.std.proofs.Math.Seq.{take-suc}
use Rattle.term_trees.specs.declared.term.Term.{Term}
use Rattle.term_trees.specs.declared.term.Formula.{Formula}
use Rattle.term_trees.specs.Formulas.{formula_nodes, well_formed_formula}
use Rattle.term_trees.proofs.Truths.{both}
use Rattle.term_logic.specs.declared.formula.IdFormula.{IdFormula}
use Rattle.term_logic.specs.Formulas.{formula_bound, formula_of}
use Rattle.term_logic.specs.Extends.{Extends}
use Rattle.term_logic.proofs.Formulas.{extended}
use Rattle.bitvector_rules.specs.Facts.{AllWithin}
use Rattle.bitvector_rules.specs.Steps.{is_admissible_formula}
use Rattle.derivation_check.proofs.FactLemmas.{extends_trans, within_more}
use Rattle.outline_setting.proofs.Walks.{drop_at}

-- the first i formulas are in the table, which was that of old
pub record Putting (old ts : List Term) (formulas : List Formula) (i : ℕ) (ids : List IdFormula) : Type 0 where
  pub within : AllWithin (length ts) ids
  pub trees : map (formula_of ts) ids ≡ take i formulas
  pub grown : Extends old ts
  pub formed : list_all is_admissible_formula (drop i formulas) ≡ true

pub same_table : (ts : List Term) → Extends ts ts
same_table ts = extended ts ts (omega arith) (λ i h. refl)

-- what a formula that may stand in a step is
pub few_nodes : (f : Formula) → IsTrue (is_admissible_formula f) → formula_nodes f ≤ 4096
few_nodes f h = leb-true (formula_nodes f) 4096 (both (nat_le (formula_nodes f) 4096) (well_formed_formula f) h).0

pub formed_one : (f : Formula) → IsTrue (is_admissible_formula f) → IsTrue (well_formed_formula f)
formed_one f h = (both (nat_le (formula_nodes f) 4096) (well_formed_formula f) h).1

module _ (old ts : List Term) (formulas : List Formula) (i : ℕ) (ids : List IdFormula) (f : Formula) (low : i < length formulas) (is : f ≡ get_or formulas i f) (now : Putting old ts formulas i ids) where
  parts : (is_admissible_formula f ≡ true) × (list_all is_admissible_formula (drop (suc i) formulas) ≡ true)
  parts = both (is_admissible_formula f) (list_all is_admissible_formula (drop (suc i) formulas)) (sym (ap (list_all is_admissible_formula) (drop_at formulas i f low is)) ∙ now.formed)

  pub this_one : IsTrue (is_admissible_formula f)
  this_one = parts.0

  pub put_one : (us : List Term) (g : IdFormula) (more : List IdFormula) → Extends ts us → formula_bound g ≤ length us → formula_of us g ≡ f → more ≡ ids ++ g ∷ []
      → Putting old us formulas (i + 1) more
  put_one us g more put bound tree pushed = record {
    within = subst (λ xs. AllWithin (length us) xs) (sym pushed) (All-push (λ h. formula_bound h ≤ length us) ids g (within_more (length ts) (length us) ids put.longer now.within) bound);
    trees = ap (map (formula_of us)) pushed ∙ map-append (formula_of us) ids (g ∷ [])
        ∙ (λ j. (put.formulas ids now.within ∙ now.trees) j ++ (tree ∙ is) j ∷ [])
        ∙ sym (take-suc formulas i f low) ∙ ap (λ k. take k formulas) (sym (add-one i));
    grown = extends_trans old ts us now.grown put;
    formed = ap (λ k. list_all is_admissible_formula (drop k formulas)) (add-one i) ∙ parts.1;
  }
