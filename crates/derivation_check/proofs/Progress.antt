-- How far a check of steps has come.
use Rattle.std.proofs.Common.{◌≡◌, ℕ, suc, ◌+◌, ◌<◌, ◌≤◌, true, false, if◌then◌else◌, List, [], ◌∷◌, ◌++◌, length, take, drop, get_or, length-append, refl, sym, ap, ◌∙◌, arith, add-one}
use Rattle.std.proofs.lemmas.List.{take-append-le, take_all, drop_all}
use Rattle.std.proofs.lemmas.List.Elements.{All-push}
use Rattle.std.proofs.Math.Seq.{drop-cons}
use Rattle.term_trees.specs.declared.term.Term.{Term}
use Rattle.term_trees.specs.declared.term.Formula.{Formula}
use Rattle.term_logic.specs.declared.formula.IdFormula.{IdFormula}
use Rattle.term_logic.specs.Formulas.{formula_bound, formula_of}
use Rattle.term_logic.specs.Extends.{Extends}
use Rattle.term_logic.proofs.Formulas.{extended}
use Rattle.bitvector_rules.specs.declared.step.Step.{Step}
use Rattle.bitvector_rules.specs.Facts.{AllWithin}
use Rattle.derivation_check.specs.Derivations.{is_instance, conclusion_of, good_steps}
use Rattle.derivation_check.specs.words.Facts.{hyps_at, earlier_at}
use Rattle.derivation_check.proofs.FactLemmas.{extends_trans, within_more, hyps_kept, earlier_kept, hyps_push, earlier_push}

-- after i good steps the table is ts and the added facts are `added`, and what is left is to count the other steps
pub record Progress (ts0 : List Term) (hyps added0 : List IdFormula) (base : ℕ) (steps : List Step) (i : ℕ) (ts : List Term) (added : List IdFormula) : Type 0 where
  pub prefix : take (length added0) added ≡ added0
  pub longer : length added0 ≤ length added
  pub within : AllWithin (length ts) added
  pub grown : Extends ts0 ts
  pub same_hyps : hyps_at ts hyps added base ≡ hyps_at ts0 hyps added0 base
  pub rest : good_steps (hyps_at ts0 hyps added0 base) (earlier_at ts0 added0 base) steps ≡ i + good_steps (hyps_at ts0 hyps added0 base) (earlier_at ts added base) (drop i steps)

module _ (ts0 : List Term) (hyps added0 : List IdFormula) (hs : AllWithin (length ts0) hyps) (base : ℕ) (room : base ≤ length added0) (steps : List Step) where
  abbrev H : List Formula
  H = hyps_at ts0 hyps added0 base

  pub begin : AllWithin (length ts0) added0 → Progress ts0 hyps added0 base steps 0 ts0 added0
  begin within = record {
    prefix = take_all (length added0) added0 (omega arith);
    longer = omega arith;
    within = within;
    grown = extended ts0 ts0 (omega arith) (λ i h. refl);
    same_hyps = refl;
    rest = omega arith;
  }

  pub ended : (ts : List Term) (added : List IdFormula) → Progress ts0 hyps added0 base steps (length steps) ts added → length steps ≡ good_steps H (earlier_at ts0 added0 base) steps
  ended ts added now =
      let none : good_steps H (earlier_at ts added base) (drop (length steps) steps) ≡ 0 = ap (good_steps H (earlier_at ts added base)) (drop_all (length steps) steps (omega arith)) in
      omega (arith, now.rest, none)

  module _ (i : ℕ) (ts us vs : List Term) (added : List IdFormula) (now : Progress ts0 hyps added0 base steps i ts added) (put : Extends ts us) (checked : Extends us vs) (s : Step) (is : s ≡ get_or steps i s) (low : i < length steps) where
    split : drop i steps ≡ s ∷ drop (suc i) steps
    split = drop-cons steps i s low ∙ ap (λ x. x ∷ drop (suc i) steps) (sym is)

    grown_here : Extends ts vs
    grown_here = extends_trans ts us vs put checked

    hyps_here : AllWithin (length ts) hyps
    hyps_here = within_more (length ts0) (length ts) hyps now.grown.longer hs

    -- what the check of the step says, in the words of the loop
    same_claim : is_instance s (hyps_at us hyps added base) (earlier_at us added base) ≡ is_instance s H (earlier_at ts added base)
    same_claim = λ j. is_instance s ((hyps_kept ts us put hyps added hyps_here now.within base ∙ now.same_hyps) j) (earlier_kept ts us put hyps added hyps_here now.within base j)

    opened : good_steps H (earlier_at ts added base) (drop i steps) ≡ (if is_instance s H (earlier_at ts added base) then suc (good_steps H (earlier_at ts added base ++ conclusion_of s ∷ []) (drop (suc i) steps)) else 0)
    opened = ap (good_steps H (earlier_at ts added base)) split

    pub stopped : false ≡ is_instance s (hyps_at us hyps added base) (earlier_at us added base) → i ≡ good_steps H (earlier_at ts0 added0 base) steps
    stopped fails =
        let none : good_steps H (earlier_at ts added base) (drop i steps) ≡ 0 =
        opened ∙ ap (λ b. if b then suc (good_steps H (earlier_at ts added base ++ conclusion_of s ∷ []) (drop (suc i) steps)) else 0) (sym (fails ∙ same_claim)) in
        omega (arith, now.rest, none)

    module _ (c : IdFormula) (bound : formula_bound c ≤ length us) (stands : formula_of us c ≡ conclusion_of s) (passes : true ≡ is_instance s (hyps_at us hyps added base) (earlier_at us added base)) where
      earlier_next : earlier_at vs (added ++ c ∷ []) base ≡ earlier_at ts added base ++ conclusion_of s ∷ []
      earlier_next = earlier_push vs hyps added c base (omega (arith, now.longer))
          ∙ (λ j. earlier_kept ts vs grown_here hyps added hyps_here now.within base j ++ (checked.formula c bound ∙ stands) j ∷ [])

      pub next : Progress ts0 hyps added0 base steps (i + 1) vs (added ++ c ∷ [])
      next = record {
        prefix = take-append-le (length added0) added (c ∷ []) now.longer ∙ now.prefix;
        longer = omega (arith, now.longer, length-append added (c ∷ []));
        within = All-push (λ f. formula_bound f ≤ length vs) added c (within_more (length ts) (length vs) added grown_here.longer now.within) (omega (arith, checked.longer));
        grown = extends_trans ts0 ts vs now.grown grown_here;
        same_hyps = hyps_push vs hyps added c base (omega (arith, now.longer)) ∙ hyps_kept ts vs grown_here hyps added hyps_here now.within base ∙ now.same_hyps;
        rest =
            let one : good_steps H (earlier_at ts added base) (drop i steps) ≡ suc (good_steps H (earlier_at vs (added ++ c ∷ []) base) (drop (i + 1) steps)) =
            opened ∙ ap (λ b. if b then suc (good_steps H (earlier_at ts added base ++ conclusion_of s ∷ []) (drop (suc i) steps)) else 0) (sym (passes ∙ same_claim))
            ∙ ap (λ e. suc (good_steps H e (drop (suc i) steps))) (sym earlier_next)
            ∙ ap (λ k. suc (good_steps H (earlier_at vs (added ++ c ∷ []) base) (drop k steps))) (sym (add-one i)) in
            omega (arith, now.rest, one);
      }
