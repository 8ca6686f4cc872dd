-- A walk over a body, item by item.
use Rattle.std.proofs.Common.{length-append, map, ◌≡◌, length, arith, Bool, true, false, List, [], ◌∷◌, ◌++◌, reverse, Option, Some, None, refl, sym, ap, ◌∙◌, subst, append_assoc}
use Rattle.std.specs.Option.{is_some}
use Rattle.std.proofs.lemmas.List.{reverse-append, reverse-reverse}
use Rattle.std.proofs.Math.Seq.{take-append_seam, drop-append_seam}
use Rattle.wasm_values.specs.declared.number.ValType.{ValType}
use Rattle.wasm_values.specs.declared.number.ValType.TheVariants.{I32}
use Rattle.wasm_syntax.specs.declared.instr.Instr.{Instr}
use Rattle.wasm_syntax.specs.declared.flat.Flat.{Flat}
use Rattle.wasm_syntax.specs.declared.flat.Flat.TheVariants as flat
use Rattle.wasm_syntax.specs.declared.flat.Head.{Head}
use Rattle.wasm_syntax.specs.declared.flat.Head.TheVariants as head
use Rattle.wasm_syntax.specs.Trees.{instruction_of, sequence_of}
use Rattle.wasm_syntax.specs.Parts.{Part, own, begun, with_instr, turned, instr_of, closed_part, with_last, closed, then_item}
use Rattle.wasm_syntax.proofs.TreeLaws.{instruction_of-Block, instruction_of-Loop, instruction_of-If, instruction_of-IfElse}
use Rattle.body_check.specs.declared.open.Floor.{Floor}
use Rattle.body_check.specs.declared.open.Open.{Open}
use Rattle.wasm_typing.specs.Typing.{Types, Context, Turns, InstructionTyped, SequenceTyped, BodyTyped}
use Rattle.wasm_typing.specs.faults.Open.{part_results, label_of, labels_of, before_part, FirstSideTyped, PartsTyped}
use Rattle.body_check.specs.words.Known.{Known}
use Rattle.body_check.specs.words.Operands.{Are, Exactly, Advances, IsStuck, Gave, lower}
use Rattle.body_check.specs.words.Steps.{taken_by_branch}
use Rattle.body_check.specs.words.Walks.{then_inner, MayEnd, floor_under, IsAround, IsOpen}
use Rattle.body_check.proofs.OperandLemmas.{are_some}

-- ---- one more instruction of a sequence

pub snoc_to : (c : Context) (labels : List Types) (is : List Instr) (i : Instr) (ins outs : Types) → SequenceTyped c labels (sequence_of (is ++ i ∷ [])) ins outs →
    (mid : Types) × SequenceTyped c labels (sequence_of is) ins mid × InstructionTyped c labels (instruction_of i) mid outs
snoc_to c labels [] i ins outs t =
    (ins, refl, let M : Types → Type 0 = λ o. InstructionTyped c labels (instruction_of i) ins o in subst M t.2 t.1)
snoc_to c labels (j ∷ is) i ins outs t = let r = snoc_to c labels is i t.0 outs t.2 in (r.0, (t.0, t.1, r.1), r.2)

snoc_from : (c : Context) (labels : List Types) (is : List Instr) (i : Instr) (ins mid outs : Types) → SequenceTyped c labels (sequence_of is) ins mid →
    InstructionTyped c labels (instruction_of i) mid outs → SequenceTyped c labels (sequence_of (is ++ i ∷ [])) ins outs
snoc_from c labels [] i ins mid outs a b =
    (outs, (let M : Types → Type 0 = λ m. InstructionTyped c labels (instruction_of i) m outs in subst M (sym a) b), refl)
snoc_from c labels (j ∷ is) i ins mid outs a b = (a.0, a.1, snoc_from c labels is i a.0 mid outs a.2 b)

-- ---- what stands for open parts has a typing

around_typed : (c : Context) (p : Part) (below : List (Option ValType)) (os : List Open) (around : List Part) → ((s : Known) (os' : List Open) → IsOpen c p.head s os' around → PartsTyped c p.head around) →
    IsAround p below os around (λ o os'. IsOpen c p.head (lower (floor_under o) below) os' around) → PartsTyped c p.head around
around_typed c p below [] around rec h = let M : List Part → Type 0 = λ ps. PartsTyped c p.head ps in subst M (sym h.1) tt
around_typed c p below (o ∷ os) around rec h = rec (lower (floor_under o) below) os h.3

pub open_typed : (c : Context) (inner : Option Head) (s : Known) (os : List Open) (ps : List Part) → IsOpen c inner s os ps → PartsTyped c inner ps
open_typed c inner s os [] h = absurd h
open_typed c inner s os (p ∷ around) h =
    let some = are_some s in
    ((some.0, h.0.0.0 some.0 some.1), h.0.1, around_typed c p s.below os around (λ s' os' h'. open_typed c p.head s' os' around h') h.1)

-- ---- labels

taken_same : (c : Context) (hd : Head) → taken_by_branch hd ≡ label_of c (Some hd)
taken_same c (head.Block ty) = refl
taken_same c (head.Loop ty) = refl
taken_same c (head.If ty) = refl

-- what branches to the labels of open blocks take, and to the function's own, is what they take at open parts
pub labels_open : (c : Context) (inner : Option Head) (s : Known) (os : List Open) (ps : List Part) → IsOpen c inner s os ps →
    map (λ (o : Open). taken_by_branch o.head) os ++ c.results ∷ [] ≡ labels_of c ps
labels_open c inner s os [] h = absurd h
labels_open c inner s [] (p ∷ around) h =
    sym (ap (λ hd. label_of c hd ∷ labels_of c around) h.1.0 ∙ ap (λ ps. label_of c None ∷ labels_of c ps) h.1.1)
labels_open c inner s (o ∷ os) (p ∷ around) h =
    ap (λ ts. taken_by_branch o.head ∷ ts) (labels_open c p.head (lower (floor_under o) s.below) os around h.1.3) ∙
    ap (λ t. t ∷ labels_of c around) (taken_same c o.head ∙ ap (label_of c) (sym h.1.0))

-- ---- an instruction that holds no others

-- what is around a part is the same over the same operands below
around_same : (c : Context) (s n : Known) (os : List Open) (p r : Part) (around : List Part) → n.below ≡ s.below → r.head ≡ p.head → r.first ≡ p.first →
    IsAround p s.below os around (λ o os'. IsOpen c p.head (lower (floor_under o) s.below) os' around) →
    IsAround r n.below os around (λ o os'. IsOpen c r.head (lower (floor_under o) n.below) os' around)
around_same c s n os p r around e hd first h =
    let B : List (Option ValType) → Type 0 = λ b. IsAround p b os around (λ o os'. IsOpen c p.head (lower (floor_under o) b) os' around) in
    headed os (subst B (sym e) h)
  where
    headed : (os : List Open) → IsAround p n.below os around (λ o os'. IsOpen c p.head (lower (floor_under o) n.below) os' around) →
        IsAround r n.below os around (λ o os'. IsOpen c r.head (lower (floor_under o) n.below) os' around)
    headed [] h = (hd ∙ h.0, h.1)
    headed (o ∷ os') h =
        let H : Option Head → Type 0 = λ k. IsOpen c k (lower (floor_under o) n.below) os' around in
        (hd ∙ h.0, h.1 ∙ ap is_some (sym first), h.2, subst H (sym hd) h.3)

pub one_more : (c : Context) (s n : Known) (os : List Open) (p : Part) (around : List Part) (i : Instr) → n.below ≡ s.below →
    Advances (Are s) (Are n) (InstructionTyped c (labels_of c (p ∷ around)) (instruction_of i)) →
    IsOpen c None s os (p ∷ around) → IsOpen c None n os (with_instr i p ∷ around)
one_more c s n os p around i same a h =
    let L = labels_of c (p ∷ around) in (
      (
        (
          λ ts q. let e = a.0 ts q in snoc_from c L p.instrs i [] e.0 ts (h.0.0.0 e.0 e.1) e.2,
          λ ts t. let r = snoc_to c L p.instrs i [] ts t in a.1 r.0 ts (h.0.0.1 r.0 r.1) r.2,
        ),
        h.0.1,
      ),
      around_same c s n os p (with_instr i p) around same refl refl h.1,
    )

pub one_stuck : (c : Context) (s : Known) (os : List Open) (p : Part) (around : List Part) (i : Instr) →
    IsStuck (Are s) (InstructionTyped c (labels_of c (p ∷ around)) (instruction_of i)) →
    IsOpen c None s os (p ∷ around) → PartsTyped c None (with_instr i p ∷ around) → ⊥
one_stuck c s os p around i a h t =
    let r = snoc_to c (labels_of c (p ∷ around)) p.instrs i [] t.0.0 t.0.1 in a r.0 t.0.0 (h.0.0.1 r.0 r.1) r.2

-- ---- a block begins

abbrev pub opened : Head → Bool → Floor → Open
opened hd t floor = record { head = hd; turned = t; dead = floor.dead; base = floor.base }

-- where operands of a block begin
abbrev pub floor_of : Known → Floor
floor_of s = record { base = length s.below; dead = s.dead }

-- operands that a block began over are back where it ends
back_down : (s : Known) → lower (floor_of s) (s.below ++ s.here) ≡ s
back_down s =
    let front = take-append_seam s.below s.here in
    let end = drop-append_seam s.below s.here in
    λ j. record { below = front j; here = end j; dead = s.dead }

pub block_begins : (c : Context) (s below n : Known) (os : List Open) (p : Part) (around : List Part) (hd : Head) →
    below.below ≡ s.below → Exactly (Are below) (λ ts. Are s (before_part (Some hd) ts)) →
    n ≡ record { below = below.below ++ below.here; here = []; dead = false } →
    IsOpen c None s os (p ∷ around) → IsOpen c None n (opened hd false (floor_of below) ∷ os) (begun hd ∷ p ∷ around)
block_begins c s below n os p around hd same e is h =
    let K : Known → Type 0 = λ k. IsOpen c None k (opened hd false (floor_of below) ∷ os) (begun hd ∷ p ∷ around) in
    let U : Known → Type 0 = λ k. IsOpen c (Some hd) k os (p ∷ around) in
    subst K (sym is) (
      ((λ ts a. sym a, λ ts t. sym t), tt),
      (
        refl,
        refl,
        (let e = length-append below.below below.here in omega (arith, e)),
        subst U (sym (back_down below)) (
          ((λ ts a. h.0.0.0 (before_part (Some hd) ts) (e.0 ts a), λ ts t. e.1 ts (h.0.0.1 (before_part (Some hd) ts) t)), h.0.1),
          around_same c s below os p p around same refl refl h.1,
        ),
      ),
    )

pub no_block : (c : Context) (s : Known) (os : List Open) (p : Part) (around : List Part) (hd : Head) →
    ((ts : Types) → Are s (before_part (Some hd) ts) → ⊥) → IsOpen c None s os (p ∷ around) → PartsTyped c None (begun hd ∷ p ∷ around) → ⊥
no_block c s os p around hd never h t = never t.2.0.0 (h.0.0.1 (before_part (Some hd) t.2.0.0) t.2.0.1)

-- ---- an `else`

pub side_turns : (c : Context) (s n : Known) (o : Open) (os : List Open) (p : Part) (around : List Part) →
    Are s (part_results c p.head) → n ≡ record { below = s.below; here = []; dead = false } →
    IsOpen c None s (o ∷ os) (p ∷ around) → IsOpen c None n (opened o.head true (floor_under o) ∷ os) (turned p ∷ around)
side_turns c s n o os p around a is h =
    let K : Known → Type 0 = λ k. IsOpen c None k (opened o.head true (floor_under o) ∷ os) (turned p ∷ around) in
    subst K (sym is) (((λ ts q. sym q, λ ts t. sym t), h.0.0.0 (part_results c p.head) a), (h.1.0, refl, h.1.2, h.1.3))

pub own_turns : (c : Context) (s n : Known) (p : Part) (around : List Part) →
    Are s (part_results c p.head) → n ≡ record { below = s.below; here = []; dead = false } →
    IsOpen c None s [] (p ∷ around) → IsOpen c None n [] (turned p ∷ around)
own_turns c s n p around a is h =
    let K : Known → Type 0 = λ k. IsOpen c None k [] (turned p ∷ around) in
    subst K (sym is) (((λ ts q. sym q, λ ts t. sym t), h.0.0.0 (part_results c p.head) a), h.1)

pub no_turn : (c : Context) (s : Known) (os : List Open) (p : Part) (around : List Part) →
    (Are s (part_results c p.head) → ⊥) → IsOpen c None s os (p ∷ around) → PartsTyped c None (turned p ∷ around) → ⊥
no_turn c s os p around never h t = never (h.0.0.1 (part_results c p.head) t.1)

-- ---- an `end`

abbrev pub taken_by : Head → Types
taken_by (head.If ty) = I32 ∷ []
taken_by _ = []

pub before_taken : (hd : Head) (below : Types) → taken_by hd ++ below ≡ before_part (Some hd) below
before_taken (head.Block ty) below = refl
before_taken (head.Loop ty) below = refl
before_taken (head.If ty) below = refl

whole_typed : (c : Context) (labels : List Types) (hd : Head) (first : Option (List Instr)) (is : List Instr) →
    SequenceTyped c (label_of c (Some hd) ∷ labels) (sequence_of is) [] (part_results c (Some hd)) →
    FirstSideTyped c (label_of c (Some hd) ∷ labels) (Some hd) first → MayEnd hd (is_some first) →
    (ins outs : Types) → Turns (taken_by hd) (part_results c (Some hd)) ins outs → InstructionTyped c labels (instruction_of (instr_of (Some hd) first is)) ins outs
whole_typed c labels (head.Block ty) first is t f m ins outs r = subst (λ i. InstructionTyped c labels i ins outs) (sym (instruction_of-Block ty is)) (t, r)
whole_typed c labels (head.Loop ty) first is t f m ins outs r = subst (λ i. InstructionTyped c labels i ins outs) (sym (instruction_of-Loop ty is)) (t, r)
whole_typed c labels (head.If ty) None is t f m ins outs r = subst (λ i. InstructionTyped c labels i ins outs) (sym (instruction_of-If ty is)) (t, m, r)
whole_typed c labels (head.If ty) (Some first) is t f m ins outs r = subst (λ i. InstructionTyped c labels i ins outs) (sym (instruction_of-IfElse ty first is)) (f, t, r)

-- of an `if`, that its first side has a typing
abbrev pub IfFirst : Context → List Types → Head → Option (List Instr) → Type 0
IfFirst c labels (head.If ty) first = FirstSideTyped c (label_of c (Some (head.If ty)) ∷ labels) (Some (head.If ty)) first
IfFirst c labels _ first = Unit {0}

-- what a typing of a whole block says of its parts
pub record Parted (c : Context) (labels : List Types) (hd : Head) (firsts : Option (List Instr)) (is : List Instr) (ins outs : Types) : Type 0 where
  pub side : SequenceTyped c (label_of c (Some hd) ∷ labels) (sequence_of is) [] (part_results c (Some hd))
  pub may_end : MayEnd hd (is_some firsts)
  pub first : IfFirst c labels hd firsts
  pub turns : Turns (taken_by hd) (part_results c (Some hd)) ins outs

pub parted : (c : Context) (labels : List Types) (hd : Head) (first : Option (List Instr)) (is : List Instr) (ins outs : Types) →
    InstructionTyped c labels (instruction_of (instr_of (Some hd) first is)) ins outs → Parted c labels hd first is ins outs
parted c labels (head.Block ty) first is ins outs t =
    let r = subst (λ i. InstructionTyped c labels i ins outs) (instruction_of-Block ty is) t in record { side = r.0; may_end = tt; first = tt; turns = r.1 }
parted c labels (head.Loop ty) first is ins outs t =
    let r = subst (λ i. InstructionTyped c labels i ins outs) (instruction_of-Loop ty is) t in record { side = r.0; may_end = tt; first = tt; turns = r.1 }
parted c labels (head.If ty) None is ins outs t =
    let r = subst (λ i. InstructionTyped c labels i ins outs) (instruction_of-If ty is) t in record { side = r.0; may_end = r.1; first = tt; turns = r.2 }
parted c labels (head.If ty) (Some first) is ins outs t =
    let r = subst (λ i. InstructionTyped c labels i ins outs) (instruction_of-IfElse ty first is) t in record { side = r.1; may_end = tt; first = r.0; turns = r.2 }

abbrev pub part : Head → Option (List Instr) → List Instr → Part
part hd first is = record { head = Some hd; first = first; instrs = is }

pub as_part : (p : Part) (hd : Head) → p.head ≡ Some hd → p ≡ part hd p.first p.instrs
as_part p hd e = λ j. record { head = e j; first = p.first; instrs = p.instrs }

block_ends_at : (c : Context) (s n : Known) (o : Open) (os : List Open) (first : Option (List Instr)) (is : List Instr) (q : Part) (ps : List Part) →
    Are s (part_results c (Some o.head)) → MayEnd o.head o.turned → n.below ≡ (lower (floor_under o) s.below).below → Gave (Are (lower (floor_under o) s.below)) (Are n) (part_results c (Some o.head)) →
    IsOpen c None s (o ∷ os) (part o.head first is ∷ q ∷ ps) → IsOpen c None n os (with_instr (closed_part (part o.head first is)) q ∷ ps)
block_ends_at c s n o os first is q ps a m same g h =
    let L = labels_of c (q ∷ ps) in
    let hd = o.head in
    let i = instr_of (Some hd) first is in
    let M : Bool → Type 0 = λ b. MayEnd hd b in
    let typed = whole_typed c L hd first is (h.0.0.0 (part_results c (Some hd)) a) h.0.1 (subst M h.1.1 m) in
    let below = h.1.3 in (
      (
        (
          λ ts r.
              let e = g.0 ts r in
              snoc_from c L q.instrs i [] (before_part (Some hd) e.0) ts (below.0.0.0 e.0 e.1) (typed (before_part (Some hd) e.0) ts (e.0, sym (before_taken hd e.0), e.2)),
          λ ts t.
              let r = snoc_to c L q.instrs i [] ts t in
              let u = (parted c L hd first is r.0 ts r.2).turns in
              let S : Types → Type 0 = λ m. SequenceTyped c L (sequence_of q.instrs) [] m in
              let under = below.0.0.1 u.0 (subst S (u.1 ∙ before_taken hd u.0) r.1) in
              let N : Types → Type 0 = λ outs. Are n outs in
              subst N (sym u.2) (g.1 u.0 under),
        ),
        below.0.1,
      ),
      around_same c (lower (floor_under o) s.below) n os q (with_instr i q) ps same refl refl below.1,
    )

pub block_ends : (c : Context) (s n : Known) (o : Open) (os : List Open) (p q : Part) (ps : List Part) →
    Are s (part_results c (Some o.head)) → MayEnd o.head o.turned → n.below ≡ (lower (floor_under o) s.below).below → Gave (Are (lower (floor_under o) s.below)) (Are n) (part_results c (Some o.head)) →
    IsOpen c None s (o ∷ os) (p ∷ q ∷ ps) → IsOpen c None n os (with_instr (closed_part p) q ∷ ps)
block_ends c s n o os p q ps a m kept g h =
    let same = as_part p o.head h.1.0 in
    let H : Part → Type 0 = λ r. IsOpen c None s (o ∷ os) (r ∷ q ∷ ps) in
    let G : Part → Type 0 = λ r. IsOpen c None n os (with_instr (closed_part r) q ∷ ps) in
    subst G (sym same) (block_ends_at c s n o os p.first p.instrs q ps a m kept g (subst H same h))

no_end_at : (c : Context) (s : Known) (o : Open) (os : List Open) (first : Option (List Instr)) (is : List Instr) (q : Part) (ps : List Part) →
    (Are s (part_results c (Some o.head)) → MayEnd o.head o.turned → ⊥) →
    IsOpen c None s (o ∷ os) (part o.head first is ∷ q ∷ ps) → PartsTyped c None (with_instr (closed_part (part o.head first is)) q ∷ ps) → ⊥
no_end_at c s o os first is q ps never h t =
    let L = labels_of c (q ∷ ps) in
    let r = snoc_to c L q.instrs (instr_of (Some o.head) first is) [] t.0.0 t.0.1 in
    let u = parted c L o.head first is r.0 t.0.0 r.2 in
    let M : Bool → Type 0 = λ b. MayEnd o.head b in
    never (h.0.0.1 (part_results c (Some o.head)) u.side) (subst M (sym h.1.1) u.may_end)

pub no_end : (c : Context) (s : Known) (o : Open) (os : List Open) (p q : Part) (ps : List Part) →
    (Are s (part_results c (Some o.head)) → MayEnd o.head o.turned → ⊥) →
    IsOpen c None s (o ∷ os) (p ∷ q ∷ ps) → PartsTyped c None (with_instr (closed_part p) q ∷ ps) → ⊥
no_end c s o os p q ps never h t =
    let same = as_part p o.head h.1.0 in
    let H : Part → Type 0 = λ r. IsOpen c None s (o ∷ os) (r ∷ q ∷ ps) in
    let T : Part → Type 0 = λ r. PartsTyped c None (with_instr (closed_part r) q ∷ ps) in
    no_end_at c s o os p.first p.instrs q ps never (subst H same h) (subst T same t)

-- ---- the whole body

pub body_typed : (c : Context) (s : Known) (os : List Open) (body : List Instr) → IsOpen c None s os (own body ∷ []) → Are s c.results → BodyTyped c (sequence_of body)
body_typed c s os body h a = h.0.0.0 c.results a

pub body_untyped : (c : Context) (s : Known) (os : List Open) (body : List Instr) → IsOpen c None s os (own body ∷ []) → (Are s c.results → ⊥) → BodyTyped c (sequence_of body) → ⊥
body_untyped c s os body h never t = never (h.0.0.1 c.results t)

-- ---- parts from the front, the innermost first

with_last_push : (f : Part → Part) (ps : List Part) (q : Part) → with_last f (ps ++ q ∷ []) ≡ ps ++ f q ∷ []
with_last_push f [] q = refl
with_last_push f (p ∷ []) q = refl
with_last_push f (p ∷ r ∷ ps) q = ap (λ qs. p ∷ qs) (with_last_push f (r ∷ ps) q)

closed_push : (ps : List Part) (q p : Part) → closed (ps ++ q ∷ p ∷ []) ≡ ps ++ with_instr (closed_part p) q ∷ []
closed_push [] q p = refl
closed_push (r ∷ []) q p = refl
closed_push (r ∷ s ∷ []) q p = refl
closed_push (r ∷ s ∷ t ∷ ps) q p = ap (λ qs. r ∷ qs) (closed_push (s ∷ t ∷ ps) q p)

last_first : (qs : List Part) (q : Part) → reverse (q ∷ qs) ≡ reverse qs ++ q ∷ []
last_first qs q = reverse-append (q ∷ []) qs

back : (qs : List Part) (q : Part) → reverse (reverse qs ++ q ∷ []) ≡ q ∷ qs
back qs q = reverse-append (reverse qs) (q ∷ []) ∙ ap (λ xs. q ∷ xs) (reverse-reverse qs)

last_changed : (f : Part → Part) (qs : List Part) (q : Part) → reverse (with_last f (reverse (q ∷ qs))) ≡ f q ∷ qs
last_changed f qs q = ap (λ ps. reverse (with_last f ps)) (last_first qs q) ∙ ap reverse (with_last_push f (reverse qs) q) ∙ back qs (f q)

begun_last : (h : Head) (qs : List Part) → reverse (reverse qs ++ begun h ∷ []) ≡ begun h ∷ qs
begun_last h qs = back qs (begun h)

inner_step : (qs : List Part) (x : Flat) → reverse (then_item (reverse qs) x) ≡ then_inner qs x
inner_step qs (flat.Block ty) = begun_last (head.Block ty) qs
inner_step qs (flat.Loop ty) = begun_last (head.Loop ty) qs
inner_step qs (flat.If ty) = begun_last (head.If ty) qs
inner_step [] (flat.One i) = refl
inner_step (q ∷ qs) (flat.One i) = last_changed (with_instr i) qs q
inner_step [] flat.Else = refl
inner_step (q ∷ qs) flat.Else = last_changed turned qs q
inner_step [] flat.End = refl
inner_step (q ∷ []) flat.End = refl
inner_step (p ∷ q ∷ qs) flat.End =
    ap (λ ps. reverse (closed ps)) (last_first (q ∷ qs) p ∙ ap (λ xs. xs ++ p ∷ []) (last_first qs q) ∙ append_assoc (reverse qs) (q ∷ []) (p ∷ [])) ∙
    ap reverse (closed_push (reverse qs) q p) ∙ back qs (with_instr (closed_part p) q)

pub inner_of : (ps : List Part) (x : Flat) → reverse (then_item ps x) ≡ then_inner (reverse ps) x
inner_of ps x = ap (λ qs. reverse (then_item qs x)) (sym (reverse-reverse ps)) ∙ inner_step (reverse ps) x
