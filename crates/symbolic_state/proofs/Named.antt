-- States in which terms are named.
use Rattle.std.proofs.Common.{◌≡◌, ℕ, ◌+◌, Bool, true, false, ◌&&◌, List, [], ◌∷◌, length, map, refl, ap, ◌∙◌, arith}
use Rattle.std.specs.Prelude.{nat_le, Ok}
use Rattle.std.proofs.lemmas.List.{length-append}
use Rattle.term_trees.specs.declared.term.Place.{Place}
use Rattle.term_trees.specs.declared.term.Place.TheVariants.{Local, Stack, Global, Pages, Arg, Result, Index, Item}
use Rattle.term_trees.specs.declared.term.Term.{Term}
use Rattle.term_trees.specs.declared.term.Formula.{Formula}
use Rattle.term_trees.specs.declared.term.Formula.TheVariants as formula
use Rattle.term_trees.specs.Terms.{node_count}
use Rattle.term_trees.specs.Formulas.{formula_nodes}
use Rattle.outline_rules.specs.Refusals.{◌>>◌}
use Rattle.outline_rules.specs.States.{State, number, nodes_of, settled, fresh, with_facts, fact_added}
use Rattle.outline_rules.specs.Moves.{with_slot, name_facts}
use Rattle.symbolic_state.specs.words.Limits.{limits}
use Rattle.symbolic_state.proofs.Facts.{nodes-variable, nodes-number, nodes-le, nodes-eq}
use Rattle.symbolic_state.proofs.Counting.{nodes-facts}
use Rattle.symbolic_state.proofs.Settling.{settled-is}

and-true : (b : Bool) → (b && true) ≡ b
and-true true = refl
and-true false = refl

pub let-is : (t : Term) (s : State)
    → fact_added (formula.Eq (fresh s) t) (record s { vars = s.vars + 1 })
    ≡ (limits (nat_le (2 + node_count t) 4096) (s.vars + 1) (length s.facts + 1) (length s.chunks + 0) (nodes_of s + (2 + node_count t))
    >> Ok (with_facts (formula.Eq (fresh s) t ∷ []) (record s { vars = s.vars + 1 })))
let-is t s =
    let count : formula_nodes (formula.Eq (fresh s) t) ≡ 2 + node_count t = omega (arith, nodes-eq (fresh s) t, nodes-variable s.vars) in
    let next : State = record s { vars = s.vars + 1 } in
    settled-is (formula_nodes (formula.Eq (fresh s) t) ∷ []) (with_facts (formula.Eq (fresh s) t ∷ []) next) (nat_le (2 + node_count t) 4096)
    (s.vars + 1) (length s.facts + 1) (length s.chunks + 0) (nodes_of s + (2 + node_count t))
    ((λ j. nat_le (count j) 4096 && true) ∙ and-true (nat_le (2 + node_count t) 4096)) refl (length-append s.facts (formula.Eq (fresh s) t ∷ [])) (omega arith)
    (omega (arith, nodes-facts (formula.Eq (fresh s) t ∷ []) next, count))

pub ruleset namings = (let-is)

-- ---- slots

-- what a slot's term leaves of a state
module _ (t : Term) (s : State) where
  pub slot-vars : (p : Place) → (with_slot p t s).vars ≡ s.vars
  slot-vars (Local k) = refl
  slot-vars (Stack k) = refl
  slot-vars (Global k) = refl
  slot-vars Pages = refl
  slot-vars (Arg k) = refl
  slot-vars Result = refl
  slot-vars Index = refl
  slot-vars Item = refl

  pub slot-facts : (p : Place) → (with_slot p t s).facts ≡ s.facts
  slot-facts (Local k) = refl
  slot-facts (Stack k) = refl
  slot-facts (Global k) = refl
  slot-facts Pages = refl
  slot-facts (Arg k) = refl
  slot-facts Result = refl
  slot-facts Index = refl
  slot-facts Item = refl

  slot-chunks : (p : Place) → (with_slot p t s).chunks ≡ s.chunks
  slot-chunks (Local k) = refl
  slot-chunks (Stack k) = refl
  slot-chunks (Global k) = refl
  slot-chunks Pages = refl
  slot-chunks (Arg k) = refl
  slot-chunks Result = refl
  slot-chunks Index = refl
  slot-chunks Item = refl

  pub slot-args : (p : Place) → (with_slot p t s).args ≡ s.args
  slot-args (Local k) = refl
  slot-args (Stack k) = refl
  slot-args (Global k) = refl
  slot-args Pages = refl
  slot-args (Arg k) = refl
  slot-args Result = refl
  slot-args Index = refl
  slot-args Item = refl

  pub slot-given : (p : Place) → (with_slot p t s).given ≡ s.given
  slot-given (Local k) = refl
  slot-given (Stack k) = refl
  slot-given (Global k) = refl
  slot-given Pages = refl
  slot-given (Arg k) = refl
  slot-given Result = refl
  slot-given Index = refl
  slot-given Item = refl

  -- the slot is set before or after variables and facts are added
  slot-first : (n : ℕ) (fs : List Formula) (p : Place)
      → with_slot p t (with_facts fs (record s { vars = s.vars + n })) ≡ with_facts fs (record (with_slot p t s) { vars = s.vars + n })
  slot-first n fs (Local k) = refl
  slot-first n fs (Stack k) = refl
  slot-first n fs (Global k) = refl
  slot-first n fs Pages = refl
  slot-first n fs (Arg k) = refl
  slot-first n fs Result = refl
  slot-first n fs Index = refl
  slot-first n fs Item = refl

  pub put-slot-is : (p : Place) → settled [] (with_slot p t s) ≡ (limits true (s.vars + 0) (length s.facts + 0) (length s.chunks + 0) (nodes_of (with_slot p t s)) >> Ok (with_slot p t s))
  put-slot-is p =
      let vars = slot-vars p in
      let facts = ap length (slot-facts p) in
      let chunks = ap length (slot-chunks p) in
      settled-is [] (with_slot p t s) true (s.vars + 0) (length s.facts + 0) (length s.chunks + 0) (nodes_of (with_slot p t s)) refl (omega (arith, vars)) (omega (arith, facts)) (omega (arith, chunks)) refl

-- a slot's term is named
pub name-slot-is : (p : Place) (m : ℕ) (u : Term) (s : State)
    → settled (map formula_nodes (name_facts m u (fresh s))) (with_slot p (fresh s) (with_facts (name_facts m u (fresh s)) (record s { vars = s.vars + 1 })))
    ≡ (limits (nat_le (2 + node_count u) 4096) (s.vars + 1) (length s.facts + 3) (length s.chunks + 0) (nodes_of (with_slot p (fresh s) s) + (2 + node_count u) + 6)
    >> Ok (with_facts (name_facts m u (fresh s)) (record (with_slot p (fresh s) s) { vars = s.vars + 1 })))
name-slot-is p m u s =
    let first : formula_nodes (formula.Eq (fresh s) u) ≡ 2 + node_count u = omega (arith, nodes-eq (fresh s) u, nodes-variable s.vars) in
    let second : formula_nodes (formula.Le (number 0) (fresh s)) ≡ 3 = omega (arith, nodes-le (number 0) (fresh s), nodes-variable s.vars, nodes-number 0) in
    let third : formula_nodes (formula.Le (fresh s) (number m)) ≡ 3 = omega (arith, nodes-le (fresh s) (number m), nodes-variable s.vars, nodes-number m) in
    let slotted : State = with_slot p (fresh s) s in
    let facts = ap length (slot-facts (fresh s) s p) in
    let chunks = ap length (slot-chunks (fresh s) s p) in
    ap (settled (map formula_nodes (name_facts m u (fresh s)))) (slot-first (fresh s) s 1 (name_facts m u (fresh s)) p)
    ∙ settled-is (map formula_nodes (name_facts m u (fresh s))) (with_facts (name_facts m u (fresh s)) (record slotted { vars = s.vars + 1 })) (nat_le (2 + node_count u) 4096)
    (s.vars + 1) (length s.facts + 3) (length s.chunks + 0) (nodes_of slotted + (2 + node_count u) + 6)
    ((λ j. nat_le (first j) 4096 && (nat_le (second j) 4096 && (nat_le (third j) 4096 && true))) ∙ and-true (nat_le (2 + node_count u) 4096))
    refl (omega (arith, facts, length-append slotted.facts (name_facts m u (fresh s)))) (omega (arith, chunks))
    (let parts = nodes-facts (name_facts m u (fresh s)) (record slotted { vars = s.vars + 1 }) in omega (arith, parts, first, second, third))

pub ruleset slots_put = (put-slot-is, slot-facts, slot-vars, slot-args, slot-given)

pub ruleset named_slots = (slot-facts, slot-vars)

pub ruleset slot_names = (name-slot-is, slot-facts, slot-vars, slot-args, slot-given, nodes-variable, nodes-number)
