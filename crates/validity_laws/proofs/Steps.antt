-- From open parts over one item: what is known of their operands goes on, or the parts have no typing through it.
use Rattle.std.proofs.Common.{◌≡◌, Bool, true, false, List, [], ◌∷◌, ◌++◌, map, reverse, Option, Some, None, refl, sym, subst, ◌⊎◌, inl, inr}
use Rattle.std.proofs.lemmas.List.{reverse-reverse}
use Rattle.wasm_values.specs.declared.number.ValType.{ValType}
use Rattle.wasm_values.specs.declared.number.ValType.TheVariants.{I32}
use Rattle.wasm_syntax.specs.declared.instr.Instr.{Instr}
use Rattle.wasm_syntax.specs.declared.flat.Flat.{Flat}
use Rattle.wasm_syntax.specs.declared.flat.Flat.TheVariants as flat
use Rattle.wasm_syntax.specs.declared.flat.Head.{Head}
use Rattle.wasm_syntax.specs.declared.flat.Head.TheVariants as head
use Rattle.wasm_syntax.specs.Parts.{Part, begun, with_instr, turned, closed_part}
use Rattle.wasm_syntax.specs.Trees.{instruction_of}
use Rattle.wasm_typing.specs.Typing.{Types, Context, InstructionTyped}
use Rattle.wasm_typing.specs.faults.Open.{part_results, labels_of, before_part, PartsTyped}
use Rattle.body_check.specs.words.Known.{Known}
use Rattle.body_check.specs.declared.open.Open.{Open}
use Rattle.body_check.specs.words.Operands.{StandsFor, Are, Exactly, Advances, Gave, lower}
use Rattle.body_check.specs.words.Walks.{then_inner, MayEnd, floor_under, IsOpen, IsOneSimple}
use Rattle.body_check.proofs.WalkLemmas.{one_more, one_stuck, opened, floor_of, block_begins, no_block, side_turns, own_turns, no_turn, block_ends, no_end}
use Rattle.validity_laws.proofs.Known.{Decided, Moves, Taking, stands, taking, giving}
use Rattle.validity_laws.proofs.Instructions.{simple_moves}

-- operands of which this is known, the topmost first, over those below the innermost block
abbrev pub operands : List (Option ValType) → List (Option ValType) → Bool → Known
operands ks below dead = record { below = below; here = reverse ks; dead = dead }

-- what is said of these operands is said of what is known
as_known : (Q : (Types → Type 0) → Type 0) (ks below : List (Option ValType)) (dead : Bool) → Q (StandsFor ks dead) → Q (Are (operands ks below dead))
as_known Q ks below dead q = let M : List (Option ValType) → Type 0 = λ xs. Q (StandsFor xs dead) in subst M (sym (reverse-reverse ks)) q

abbrev none : List (Option ValType) → Known
none below = record { below = below; here = []; dead = false }

-- open parts have a typing, as far as these operands and open blocks say
pub record Stands (c : Context) (ps : List Part) : Type 0 where
  pub here : Known
  pub opens : List Open
  pub stand : IsOpen c None here opens ps

-- what comes of an item
abbrev pub Passes : Context → List Part → Type 0
Passes c ps = Stands c ps ⊎ (PartsTyped c None ps → ⊥)

-- whether operands may be of these types
pub are : (s : Known) (ts : Types) → Decided (Are s ts)
are s ts = stands (reverse s.here) s.dead ts

-- ---- an instruction

one_passes : (c : Context) (s : Known) (os : List Open) (p : Part) (around : List Part) (i : Instr) → IsOpen c None s os (p ∷ around) →
    Moves (Are s) (InstructionTyped c (labels_of c (p ∷ around)) (instruction_of i)) → Passes c (with_instr i p ∷ around)
one_passes c s os p around i h (inl g) =
    let n = operands g.known s.below g.dead in
    let Q : (Types → Type 0) → Type 0 = λ N. Advances (Are s) N (InstructionTyped c (labels_of c (p ∷ around)) (instruction_of i)) in
    inl (record { here = n; opens = os; stand = one_more c s n os p around i refl (as_known Q g.known s.below g.dead g.leads) h })
one_passes c s os p around i h (inr stuck) = inr (one_stuck c s os p around i stuck h)

-- ---- a block

abbrev Beginning : Known → Head → Type 0
Beginning s hd = ((below : Known) × (below.below ≡ s.below) × Exactly (Are below) (λ ts. Are s (before_part (Some hd) ts))) ⊎ ((ts : Types) → Are s (before_part (Some hd) ts) → ⊥)

beginning : (s : Known) (hd : Head) → Beginning s hd
beginning s (head.Block ty) = inl (s, refl, (λ ts a. a, λ ts a. a))
beginning s (head.Loop ty) = inl (s, refl, (λ ts a. a, λ ts a. a))
beginning s (head.If ty) = by_choice (taking (I32 ∷ []) (reverse s.here) s.dead)
  where
    by_choice : Taking (Are s) s.dead (I32 ∷ []) → Beginning s (head.If ty)
    by_choice (inl took) =
        let Q : (Types → Type 0) → Type 0 = λ N. Exactly N (λ ts. Are s (I32 ∷ ts)) in
        inl (operands took.0 s.below s.dead, refl, as_known Q took.0 s.below s.dead (λ ts q. (took.1 ts).1 q, λ ts p. (took.1 ts).0 p))
    by_choice (inr never) = inr never

block_passes : (c : Context) (s : Known) (os : List Open) (p : Part) (around : List Part) (hd : Head) → IsOpen c None s os (p ∷ around) → Beginning s hd → Passes c (begun hd ∷ p ∷ around)
block_passes c s os p around hd h (inl b) =
    let n = none (b.0.below ++ b.0.here) in
    inl (record { here = n; opens = opened hd false (floor_of b.0) ∷ os; stand = block_begins c s b.0 n os p around hd b.1 b.2 refl h })
block_passes c s os p around hd h (inr never) = inr (no_block c s os p around hd never h)

-- ---- an `else`

else_passes : (c : Context) (s : Known) (os : List Open) (p : Part) (around : List Part) → IsOpen c None s os (p ∷ around) → Decided (Are s (part_results c p.head)) → Passes c (turned p ∷ around)
else_passes c s [] p around h (inl a) = inl (record { here = none s.below; opens = []; stand = own_turns c s (none s.below) p around a refl h })
else_passes c s (o ∷ os) p around h (inl a) = inl (record { here = none s.below; opens = opened o.head true (floor_under o) ∷ os; stand = side_turns c s (none s.below) o os p around a refl h })
else_passes c s os p around h (inr never) = inr (no_turn c s os p around never h)

-- ---- an `end`

may_end : (hd : Head) (sides : Bool) → Decided (MayEnd hd sides)
may_end (head.Block ty) sides = inl tt
may_end (head.Loop ty) sides = inl tt
may_end (head.If None) false = inl refl
may_end (head.If (Some t)) false = inr (λ e. no_cons e)
  where
    no_cons : [] ≡ t ∷ [] → ⊥
    no_cons e = cc
may_end (head.If ty) true = inl tt

end_passes : (c : Context) (s : Known) (o : Open) (os : List Open) (p q : Part) (ps : List Part) → IsOpen c None s (o ∷ os) (p ∷ q ∷ ps) →
    Decided (Are s (part_results c (Some o.head))) → Decided (MayEnd o.head o.turned) → Passes c (with_instr (closed_part p) q ∷ ps)
end_passes c s o os p q ps h (inl a) (inl m) =
    let us = part_results c (Some o.head) in
    let under = lower (floor_under o) s.below in
    let ks = map Some us ++ reverse under.here in
    let Q : (Types → Type 0) → Type 0 = λ N. Gave (Are under) N us in
    let n = operands ks under.below under.dead in
    inl (record { here = n; opens = os; stand = block_ends c s n o os p q ps a m refl (as_known Q ks under.below under.dead (giving us (reverse under.here) under.dead)) h })
end_passes c s o os p q ps h (inl a) (inr never) = inr (no_end c s o os p q ps (λ a m. never m) h)
end_passes c s o os p q ps h (inr never) m = inr (no_end c s o os p q ps (λ a m. never a) h)

-- ---- any item

item_passes : (c : Context) (s : Known) (os : List Open) (ps : List Part) (x : Flat) → IsOneSimple x → IsOpen c None s os ps → Passes c (then_inner ps x)
item_passes c s os [] x simple h = absurd h
item_passes c s os (p ∷ around) (flat.Block ty) simple h = block_passes c s os p around (head.Block ty) h (beginning s (head.Block ty))
item_passes c s os (p ∷ around) (flat.Loop ty) simple h = block_passes c s os p around (head.Loop ty) h (beginning s (head.Loop ty))
item_passes c s os (p ∷ around) (flat.If ty) simple h = block_passes c s os p around (head.If ty) h (beginning s (head.If ty))
item_passes c s os (p ∷ around) (flat.One i) simple h = one_passes c s os p around i h (simple_moves c (labels_of c (p ∷ around)) i (reverse s.here) s.dead simple)
item_passes c s os (p ∷ around) flat.Else simple h = else_passes c s os p around h (are s (part_results c p.head))
item_passes c s os (p ∷ []) flat.End simple h = inl (record { here = s; opens = os; stand = h })
item_passes c s [] (p ∷ q ∷ ps) flat.End simple h = absurd (no_cons h.1.1)
  where
    no_cons : q ∷ ps ≡ [] → ⊥
    no_cons e = cc
item_passes c s (o ∷ os) (p ∷ q ∷ ps) flat.End simple h = end_passes c s o os p q ps h (are s (part_results c (Some o.head))) (may_end o.head o.turned)

pub passes : (c : Context) (ps : List Part) (x : Flat) → IsOneSimple x → Stands c ps → Passes c (then_inner ps x)
passes c ps x simple h = item_passes c h.here h.opens ps x simple h.stand
