-- An entailment from its stages.
use Rattle.std.proofs.Common.{◌≡◌, ℕ, List, length, map, Option, Some, None, IfSome, refl, sym, ap, ◌∙◌, arith}
use Rattle.std.specs.Prelude.{Ok, Err}
use Rattle.term_trees.specs.declared.term.Term.{Term}
use Rattle.term_logic.specs.Table.{tree_at}
use Rattle.term_logic.specs.Extends.{Extends}
use Rattle.notes.specs.declared.uses.With.{With}
use Rattle.outline_rules.specs.Refusals.{Ruling, Refusal, ◌>>=◌, ◌>>◌}
use Rattle.outline_rules.specs.States.{State}
use Rattle.outline_rules.specs.Entailment as entailment
use Rattle.outline_rules.specs.Entailment.{Entailed, entailed, chunks_besides}
use Rattle.symbolic_state.specs.States.{Tracked}
use Rattle.symbolic_state.specs.Growth.{Grown}
use Rattle.symbolic_state.proofs.Growing.{option-kept, option-more}
use Rattle.symbolic_assertions.specs.declared.wanting.Wanted.{Wanted}
use Rattle.symbolic_assertions.specs.Wanting.{wanted_of, WantedWithin}
use Rattle.symbolic_assertions.specs.words.Stages.{terms_wanted, parts_of}

-- ---- what is wanted, over a longer table

module _ (old new : List Term) (more : Extends old new) (w : Wanted) (low : WantedWithin (length old) w) where
  pub wanted-kept : wanted_of new w ≡ wanted_of old w
  wanted-kept = λ j. record {
    assertion = w.assertion.now;
    args = more.trees w.args.now low.args j;
    result = option-kept old new more w.result low.result j;
    fixed = more.trees w.fixed.now low.fixed j;
  }

  pub wanted-within : WantedWithin (length new) w
  wanted-within = record {
    args = λ k d h. let at = low.args k d h in omega (arith, more.longer);
    result = option-more (length old) (length new) more.longer w.result low.result;
    fixed = λ k d h. let at = low.fixed k d h in omega (arith, more.longer);
  }

-- ---- the stages

abbrev left_of : State → With → List Term → Entailed
left_of s w terms = record { terms = terms; left = chunks_besides w.chunks 0 s.chunks }

module _ (s : State) (want : entailment.Wanted) (w : With) where
  in-stages : entailed s want w ≡ (terms_wanted s want.assertion w >>= λ terms. parts_of s want w terms >> Ok (left_of s w terms))
  in-stages = refl

  pub terms-refused : (o : Option Refusal) → IfSome o (λ e. terms_wanted s want.assertion w ≡ Err e) → IfSome o (λ e. entailed s want w ≡ Err e)
  terms-refused None is = tt
  terms-refused (Some e) is = in-stages ∙ ap (λ r. r >>= λ terms. parts_of s want w terms >> Ok (left_of s w terms)) is

  module _ (terms : List Term) (first : terms_wanted s want.assertion w ≡ Ok terms) where
    second : entailed s want w ≡ (parts_of s want w terms >> Ok (left_of s w terms))
    second = in-stages ∙ ap (λ r. r >>= λ us. parts_of s want w us >> Ok (left_of s w us)) first

    all-there : parts_of s want w terms ≡ Ok tt → entailed s want w ≡ Ok (left_of s w terms)
    all-there is = second ∙ ap (λ r. r >> Ok (left_of s w terms)) is

    part-refused : (o : Option Refusal) → IfSome o (λ e. parts_of s want w terms ≡ Err e) → IfSome o (λ e. entailed s want w ≡ Err e)
    part-refused None is = tt
    part-refused (Some e) is = second ∙ ap (λ r. r >> Ok (left_of s w terms)) is

-- ---- over a state whose table has grown

module _ (old new : Tracked) (wanted : Wanted) (w : With) (ids : List ℕ) (low : WantedWithin (length old.terms) wanted) (first : terms_wanted old.state wanted.assertion.now w ≡ Ok (map (tree_at new.terms) ids)) (same : new.state ≡ old.state) (more : Grown old new) where
  abbrev at_old : Ruling (Unit {0})
  at_old = parts_of old.state (wanted_of old.terms wanted) w (map (tree_at new.terms) ids)

  abbrev at_new : Ruling (Unit {0})
  at_new = parts_of new.state (wanted_of new.terms wanted) w (map (tree_at new.terms) ids)

  parts-same : at_old ≡ at_new
  parts-same = λ j. parts_of (sym same j) (sym (wanted-kept old.terms new.terms more.terms wanted low) j) w (map (tree_at new.terms) ids)

  pub entails-all : at_new ≡ Ok tt → entailed old.state (wanted_of old.terms wanted) w ≡ Ok (left_of old.state w (map (tree_at new.terms) ids))
  entails-all is = all-there old.state (wanted_of old.terms wanted) w (map (tree_at new.terms) ids) first (parts-same ∙ is)

  pub entails-not : (o : Option Refusal) → IfSome o (λ e. at_new ≡ Err e) → IfSome o (λ e. entailed old.state (wanted_of old.terms wanted) w ≡ Err e)
  entails-not None is = tt
  entails-not (Some e) is = part-refused old.state (wanted_of old.terms wanted) w (map (tree_at new.terms) ids) first (Some e) (parts-same ∙ is)

pub ruleset entailing = (wanted-within)
