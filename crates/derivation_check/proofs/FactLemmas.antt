-- What facts stand for while the table grows and facts are added.
use Rattle.std.proofs.Common.{◌≡◌, ℕ, ◌≤◌, List, [], ◌∷◌, ◌++◌, map, length, take, drop, refl, sym, ap, ◌∙◌, arith, append_assoc}
use Rattle.std.proofs.lemmas.List.{map-append, take-append-le, drop-append-le, take_all, drop_all, take-append-drop}
use Rattle.std.proofs.lemmas.List.Elements.{All-head, All-tail, All-take, All-drop, All-append}
use Rattle.term_trees.specs.declared.term.Term.{Term}
use Rattle.term_logic.specs.declared.formula.IdFormula.{IdFormula}
use Rattle.term_logic.specs.Formulas.{formula_bound, formula_of}
use Rattle.term_logic.specs.Extends.{Extends}
use Rattle.term_logic.proofs.Formulas.{extended}
use Rattle.bitvector_rules.specs.declared.goals.SubGoal.{SubGoal}
use Rattle.bitvector_rules.specs.Facts.{AllWithin}
use Rattle.bitvector_rules.specs.Goals.{goal_of, GoalsWithin}
use Rattle.derivation_check.specs.words.Facts.{hyps_at, earlier_at, facts_at}

pub extends_trans : (a b c : List Term) → Extends a b → Extends b c → Extends a c
extends_trans a b c p q = extended a c (omega (arith, p.longer, q.longer)) (λ i h. q.kept i (omega (arith, p.longer)) ∙ p.kept i h)

pub within_more : (m n : ℕ) (fs : List IdFormula) → m ≤ n → AllWithin m fs → AllWithin n fs
within_more m n fs h within = λ k d low. omega (arith, within k d low)

pub goals_more : (m n : ℕ) (gs : List SubGoal) → m ≤ n → GoalsWithin m gs → GoalsWithin n gs
goals_more m n gs h within = λ k d low. (omega (arith, (within k d low).0), omega (arith, (within k d low).1))

pub goals_tail : (n : ℕ) (g : SubGoal) (gs : List SubGoal) → GoalsWithin n (g ∷ gs) → GoalsWithin n gs
goals_tail n g gs within = All-tail (λ g. (formula_bound g.assumption ≤ n) × (formula_bound g.goal ≤ n)) g gs within

abbrev Within : ℕ → IdFormula → Type 0
Within n f = formula_bound f ≤ n

module _ (ts us : List Term) (grown : Extends ts us) where
  pub goals_kept : (gs : List SubGoal) → GoalsWithin (length ts) gs → map (goal_of us) gs ≡ map (goal_of ts) gs
  goals_kept [] within = refl
  goals_kept (g ∷ gs) within =
      let P : SubGoal → Type 0 = λ g. (formula_bound g.assumption ≤ length ts) × (formula_bound g.goal ≤ length ts) in
      let here = All-head P g gs within in
      λ j. (grown.formula g.assumption here.0 j, grown.formula g.goal here.1 j) ∷ goals_kept gs (All-tail P g gs within) j

  module _ (hyps added : List IdFormula) (hs : AllWithin (length ts) hyps) (ads : AllWithin (length ts) added) where
    pub facts_kept : facts_at us hyps added ≡ facts_at ts hyps added
    facts_kept = grown.formulas (hyps ++ added) (All-append (Within (length ts)) hyps added hs ads)

    pub hyps_kept : (base : ℕ) → hyps_at us hyps added base ≡ hyps_at ts hyps added base
    hyps_kept base = grown.formulas (hyps ++ take base added) (All-append (Within (length ts)) hyps (take base added) hs (All-take (Within (length ts)) base added ads))

    pub earlier_kept : (base : ℕ) → earlier_at us added base ≡ earlier_at ts added base
    earlier_kept base = grown.formulas (drop base added) (All-drop (Within (length ts)) base added ads)

module _ (ts : List Term) (hyps added : List IdFormula) where
  -- the hypotheses and the earlier conclusions are all facts
  pub all_facts : (base : ℕ) → hyps_at ts hyps added base ++ earlier_at ts added base ≡ facts_at ts hyps added
  all_facts base =
      sym (map-append (formula_of ts) (hyps ++ take base added) (drop base added))
      ∙ ap (map (formula_of ts)) (append_assoc hyps (take base added) (drop base added) ∙ ap (λ xs. hyps ++ xs) (take-append-drop base added))

  module _ (c : IdFormula) where
    pub hyps_push : (base : ℕ) → base ≤ length added → hyps_at ts hyps (added ++ c ∷ []) base ≡ hyps_at ts hyps added base
    hyps_push base room = ap (λ xs. map (formula_of ts) (hyps ++ xs)) (take-append-le base added (c ∷ []) room)

    pub earlier_push : (base : ℕ) → base ≤ length added → earlier_at ts (added ++ c ∷ []) base ≡ earlier_at ts added base ++ formula_of ts c ∷ []
    earlier_push base room = ap (map (formula_of ts)) (drop-append-le base added (c ∷ []) room) ∙ map-append (formula_of ts) (drop base added) (c ∷ [])

    -- the assumption of a sub-derivation is its last hypothesis
    pub assumed_hyps : (n : ℕ) → n ≡ length (added ++ c ∷ []) → hyps_at ts hyps (added ++ c ∷ []) n ≡ facts_at ts hyps added ++ formula_of ts c ∷ []
    assumed_hyps n is =
        ap (λ xs. map (formula_of ts) (hyps ++ xs)) (take_all n (added ++ c ∷ []) (omega arith))
        ∙ ap (map (formula_of ts)) (sym (append_assoc hyps added (c ∷ [])))
        ∙ map-append (formula_of ts) (hyps ++ added) (c ∷ [])

    pub assumed_earlier : (n : ℕ) → n ≡ length (added ++ c ∷ []) → earlier_at ts (added ++ c ∷ []) n ≡ []
    assumed_earlier n is = ap (map (formula_of ts)) (drop_all n (added ++ c ∷ []) (omega arith))
