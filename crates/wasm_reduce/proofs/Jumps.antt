-- Branches, by the block at their depth.
use Rattle.std.proofs.Common.{◌≡◌, ◌≢◌, Option, Some, None, ℕ, zero, suc, ◌+◌, ◌<◌, ◌≤◌, List, [], ◌∷◌, length, drop, map, reverse, option_map, arith, refl, sym, ap, ◌∙◌}
use Rattle.std.proofs.lemmas.List.{drop-map, length-map, length-reverse}
use Rattle.wasm_syntax.specs.Places.{rest_at}
use Rattle.wasm_syntax.specs.Trees.{Sequence}
use Rattle.wasm_syntax.specs.declared.instr.Instr.{Instr}
use Rattle.wasm_values.specs.declared.number.Val.{Val}
use Rattle.wasm_values.specs.declared.number.Val.TheVariants.{I32}
use Rattle.wasm_store.specs.declared.config.Label.{Label}
use Rattle.wasm_store.specs.declared.store.Store.{Store}
use Rattle.wasm_store.specs.Configuration.{OpenBlock, Activation, Layer, Configuration, going}
use Rattle.wasm_store.specs.Seen.{seen_label}
use Rattle.wasm_store.specs.Control.{Leaves, Branches, BranchesIf, jumped}

module _ (s : Store) (f : Activation) (below : List Layer) (d : Configuration) where
  -- A branch out of all blocks leaves the frame.
  pub branch_out : (ls : List OpenBlock) (k : ℕ) → k ≡ length ls → Leaves s f below d → Branches s f below d ls k
  branch_out [] zero e h = h
  branch_out [] (suc k) e h = absurd (omega arith)
  branch_out (l ∷ ls) zero e h = absurd (omega arith)
  branch_out (l ∷ ls) (suc k) e h = branch_out ls k (omega arith) h

  pub leaves_out : (ls : List OpenBlock) (k : ℕ) → k ≡ length ls → Branches s f below d ls k → Leaves s f below d
  leaves_out [] zero e h = h
  leaves_out [] (suc k) e h = absurd (omega arith)
  leaves_out (l ∷ ls) zero e h = absurd (omega arith)
  leaves_out (l ∷ ls) (suc k) e h = leaves_out ls k (omega arith) h

  -- There is no branch out of more blocks.
  pub Branches-within : (ls : List OpenBlock) (k : ℕ) → Branches s f below d ls k → k ≤ length ls
  Branches-within [] zero h = omega arith
  Branches-within [] (suc k) h = elim h [ ]
  Branches-within (l ∷ ls) zero h = omega arith
  Branches-within (l ∷ ls) (suc k) h = omega (arith, Branches-within ls k h)

  pub Branches-wide : (ls outer : List OpenBlock) (l : OpenBlock) (k : ℕ) → drop k ls ≡ l ∷ outer → Branches s f below d ls k → l.arity + l.height ≤ length f.operands
  Branches-wide [] outer l zero e h = cc
  Branches-wide [] outer l (suc k) e h = cc
  Branches-wide (m ∷ ls) outer l zero e h = let same : m ≡ l = cc in rw (← same) h.0
  Branches-wide (m ∷ ls) outer l (suc k) e h = Branches-wide ls outer l k e h

  pub branch_to : (ls outer : List OpenBlock) (l : OpenBlock) (k : ℕ) → drop k ls ≡ l ∷ outer → l.arity + l.height ≤ length f.operands → d ≡ going s (jumped f l outer l.again) below → Branches s f below d ls k
  branch_to [] outer l zero e w h = cc
  branch_to [] outer l (suc k) e w h = cc
  branch_to (m ∷ ls) outer l zero e w h =
      let same : m ≡ l = cc in
      let rest : ls ≡ outer = cc in
      rw (same, rest) (w, h)
  branch_to (m ∷ ls) outer l (suc k) e w h = branch_to ls outer l k e w h

pub found : {A : Type 0} → (xs : List A) (k : ℕ) → k < length xs → (x : A) × (outer : List A) × (drop k xs ≡ x ∷ outer)
found [] k h = absurd (omega arith)
found (x ∷ xs) zero h = (x, xs, refl)
found (x ∷ xs) (suc k) h = found xs k (omega arith)

-- The same of a frame's own labels, the innermost last.
module _ (s : Store) (f : Activation) (below : List Layer) (code : List Instr) (labels : List Label) (k : ℕ) where
  long : length (map (seen_label code) (reverse labels)) ≡ length labels
  long = length-map (reverse labels) (seen_label code) ∙ length-reverse labels

  pub labels_out : (d : Configuration) → k ≡ length labels → Leaves s f below d → Branches s f below d (map (seen_label code) (reverse labels)) k
  labels_out d e h = branch_out s f below d (map (seen_label code) (reverse labels)) k (e ∙ sym long) h

  pub labels_leave : (d : Configuration) → k ≡ length labels → Branches s f below d (map (seen_label code) (reverse labels)) k → Leaves s f below d
  labels_leave d e h = leaves_out s f below d (map (seen_label code) (reverse labels)) k (e ∙ sym long) h

  pub labels_within : (d : Configuration) → Branches s f below d (map (seen_label code) (reverse labels)) k → k ≤ length labels
  labels_within d h =
      omega (arith, Branches-within s f below d (map (seen_label code) (reverse labels)) k h, long)

  module _ (l : Label) (outer : List Label) (at : drop k (reverse labels) ≡ l ∷ outer) where
    there : drop k (map (seen_label code) (reverse labels)) ≡ seen_label code l ∷ map (seen_label code) outer
    there = drop-map (seen_label code) k (reverse labels) ∙ ap (map (seen_label code)) at

    pub labels_wide : (d : Configuration) → Branches s f below d (map (seen_label code) (reverse labels)) k → l.arity + l.height ≤ length f.operands
    labels_wide d h =
        Branches-wide s f below d (map (seen_label code) (reverse labels)) (map (seen_label code) outer) (seen_label code l) k there h

    pub labels_go : (g : Activation) → l.arity + l.height ≤ length f.operands → g ≡ jumped f (seen_label code l) (map (seen_label code) outer) (option_map (rest_at code) l.again) → Branches s f below (going s g below) (map (seen_label code) (reverse labels)) k
    labels_go g w h =
        branch_to s f below (going s g below) (map (seen_label code) (reverse labels)) (map (seen_label code) outer) (seen_label code l) k there w (ap (λ x. going s x below) h)

module _ (s : Store) (f : Activation) (below : List Layer) (d : Configuration) (k : ℕ) where
  pub taken : (c : ℕ) → c ≢ 0 → BranchesIf s f below d k c → Branches s f below d f.labels k
  taken zero n h = absurd (n refl)
  taken (suc c) n h = h

  pub take_it : (c : ℕ) → c ≢ 0 → Branches s f below d f.labels k → BranchesIf s f below d k c
  take_it zero n h = absurd (n refl)
  take_it (suc c) n h = h

-- A branch that is taken, by the number on top.
pub taken_by : (s : Store) (f : Activation) (below : List Layer) (d : Configuration) (k : ℕ) (stack rest : List Val) (n : ℕ) → n ≢ 0 → stack ≡ I32 n ∷ rest → (c : ℕ) (operands : List Val) → stack ≡ I32 c ∷ operands → BranchesIf s (record f { operands = operands }) below d k c → Branches s (record f { operands = rest }) below d f.labels k
taken_by s f below d k stack rest n ne top c operands is h =
    let same : c ≡ n = cc in
    let left : operands ≡ rest = cc in
    taken s (record f { operands = rest }) below d k n ne (rw (← same, ← left) h)

-- Branches do not read the rest of the frame's code.
module _ (s : Store) (f : Activation) (r : Sequence) (below : List Layer) (d : Configuration) where
  jumped_same : (l : OpenBlock) (ls : List OpenBlock) (again : Option Sequence) → jumped (record f { rest = r }) l ls again ≡ jumped f l ls again
  jumped_same l ls None = refl
  jumped_same l ls (Some body) = refl

  pub to_any_rest : (ls : List OpenBlock) (k : ℕ) → Branches s f below d ls k → Branches s (record f { rest = r }) below d ls k
  to_any_rest [] zero h = h
  to_any_rest [] (suc k) h = h
  to_any_rest (l ∷ ls) zero h = (h.0, h.1 ∙ ap (λ x. going s x below) (sym (jumped_same l ls l.again)))
  to_any_rest (l ∷ ls) (suc k) h = to_any_rest ls k h

  pub of_any_rest : (ls : List OpenBlock) (k : ℕ) → Branches s (record f { rest = r }) below d ls k → Branches s f below d ls k
  of_any_rest [] zero h = h
  of_any_rest [] (suc k) h = h
  of_any_rest (l ∷ ls) zero h = (h.0, h.1 ∙ ap (λ x. going s x below) (jumped_same l ls l.again))
  of_any_rest (l ∷ ls) (suc k) h = of_any_rest ls k h
