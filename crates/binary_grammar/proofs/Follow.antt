-- In the flat form of instructions each item may follow those before it.
use Rattle.std.proofs.Common.{◌≡◌, ℕ, suc, ◌+◌, ◌-◌, ◌<◌, Bool, true, false, List, [], ◌∷◌, ◌++◌, length, set, Option, Some, None, refl, sym, ap, subst, ◌∙◌, arith}
use Rattle.std.proofs.lemmas.List.{length-append, length-set}
use Rattle.wasm_values.specs.declared.number.ValType.{ValType}
use Rattle.wasm_syntax.specs.declared.instr.Instr.{Instr}
use Rattle.wasm_syntax.specs.declared.instr.Instr.TheVariants as instr
use Rattle.wasm_syntax.specs.declared.flat.Flat.{Flat}
use Rattle.wasm_syntax.specs.declared.flat.Flat.TheVariants.{One, Block, Loop, If, Else, End}
use Rattle.wasm_syntax.specs.declared.flat.Head.{Head}
use Rattle.wasm_syntax.specs.declared.flat.Head.TheVariants as head
use Rattle.wasm_syntax.specs.FlatForm.{is_simple, flat_of, flat}
use Rattle.wasm_syntax.specs.Parts.{Part, begun, with_instr, turned, with_last, may_turn, part_turns, head_item, then_item, then_items, parts_of, StandFor}
use Rattle.wasm_syntax.proofs.Induction.{Cases, of_instr, of_instrs}
use Rattle.wasm_syntax.proofs.FlatLemmas.{flat_of-Block, flat_of-Loop, flat_of-If, flat_of-If_Else, flat_of-simple}
use Rattle.wasm_syntax.proofs.PartLemmas.{some_marks, StandFor-put, StandFor-begin, StandFor-turn, StandFor-end}
use Rattle.wasm_syntax.proofs.PartLaws.{with_instrs, then_items-flat_of, then_items-flat}
use Rattle.binary_grammar.specs.CodeGrammar.{opened}

-- what an item needs of the open parts
abbrev pub MayFollow : List Part → Flat → Type 0
MayFollow ps (One i) = is_simple i ≡ true
MayFollow ps Else = may_turn ps ≡ true
MayFollow ps End = 1 < length ps
MayFollow ps _ = Unit {0}

abbrev pub Follow : List Part → List Flat → Type 0
Follow ps [] = Unit {0}
Follow ps (i ∷ is) = MayFollow ps i × Follow (then_item ps i) is

then_items-append : (ps : List Part) (xs ys : List Flat) → then_items ps (xs ++ ys) ≡ then_items (then_items ps xs) ys
then_items-append ps [] ys = refl
then_items-append ps (x ∷ xs) ys = then_items-append (then_item ps x) xs ys

follow-append : (ps : List Part) (xs ys : List Flat) → Follow ps xs → Follow (then_items ps xs) ys → Follow ps (xs ++ ys)
follow-append ps [] ys a b = b
follow-append ps (x ∷ xs) ys a b = (a.0, follow-append (then_item ps x) xs ys a.1 b)

with_last-length : (f : Part → Part) (ps : List Part) → length (with_last f ps) ≡ length ps
with_last-length f [] = refl
with_last-length f (p ∷ []) = refl
with_last-length f (p ∷ q ∷ ps) = ap suc (with_last-length f (q ∷ ps))

with_last-push : (f : Part → Part) (ps : List Part) (q : Part) → with_last f (ps ++ q ∷ []) ≡ ps ++ f q ∷ []
with_last-push f [] q = refl
with_last-push f (p ∷ []) q = refl
with_last-push f (p ∷ r ∷ ps) q = ap (λ qs. p ∷ qs) (with_last-push f (r ∷ ps) q)

may_turn-push : (ps : List Part) (q : Part) → may_turn (ps ++ q ∷ []) ≡ part_turns q
may_turn-push [] q = refl
may_turn-push (p ∷ []) q = refl
may_turn-push (p ∷ r ∷ ps) q = may_turn-push (r ∷ ps) q

-- the items of an instruction follow any parts
abbrev Follows : Instr → Type 0
Follows i = (ps : List Part) → 0 < length ps → Follow ps (flat_of i)

abbrev FollowsAll : List Instr → Type 0
FollowsAll is = (ps : List Part) → 0 < length ps → Follow ps (flat is)

follows-simple : (i : Instr) → is_simple i ≡ true → Follows i
follows-simple i e ps h = subst (Follow ps) (sym (flat_of-simple i e)) (e, tt)

follows-cons : (i : Instr) (is : List Instr) → Follows i → FollowsAll is → FollowsAll (i ∷ is)
follows-cons i is a b ps h =
    follow-append ps (flat_of i) (flat is) (a ps h)
    (subst (λ qs. Follow qs (flat is)) (sym (then_items-flat_of i ps h)) (b (with_last (with_instr i) ps) (omega (arith, with_last-length (with_instr i) ps))))

-- instructions of a part, and its `End`
part-follows : (p : Part) (is : List Instr) → FollowsAll is → (ps : List Part) → 0 < length ps → Follow (ps ++ p ∷ []) (flat is ++ End ∷ [])
part-follows p is a ps h =
    let some : 0 < length (ps ++ p ∷ []) = omega (arith, length-append ps (p ∷ [])) in
    let two : 1 < length (then_items (ps ++ p ∷ []) (flat is)) =
    omega (arith, ap length (then_items-flat is (ps ++ p ∷ []) some), with_last-length (with_instrs is) (ps ++ p ∷ []), length-append ps (p ∷ [])) in
    follow-append (ps ++ p ∷ []) (flat is) (End ∷ []) (a (ps ++ p ∷ []) some) (two, tt)

follows-Block : (ty : Option ValType) (is : List Instr) → FollowsAll is → Follows (instr.Block ty is)
follows-Block ty is a ps h = subst (Follow ps) (sym (flat_of-Block ty is)) (tt, part-follows (begun (head.Block ty)) is a ps h)

follows-Loop : (ty : Option ValType) (is : List Instr) → FollowsAll is → Follows (instr.Loop ty is)
follows-Loop ty is a ps h = subst (Follow ps) (sym (flat_of-Loop ty is)) (tt, part-follows (begun (head.Loop ty)) is a ps h)

follows-If : (ty : Option ValType) (is : List Instr) → FollowsAll is → Follows (instr.If ty is None)
follows-If ty is a ps h = subst (Follow ps) (sym (flat_of-If ty is)) (tt, part-follows (begun (head.If ty)) is a ps h)

follows-If_Else : (ty : Option ValType) (is others : List Instr) → FollowsAll is → FollowsAll others → Follows (instr.If ty is (Some others))
follows-If_Else ty is others a b ps h =
    let p = begun (head.If ty) in
    let some : 0 < length (ps ++ p ∷ []) = omega (arith, length-append ps (p ∷ [])) in
    let here : then_items (ps ++ p ∷ []) (flat is) ≡ ps ++ with_instrs is p ∷ [] = then_items-flat is (ps ++ p ∷ []) some ∙ with_last-push (with_instrs is) ps p in
    let turns : may_turn (then_items (ps ++ p ∷ []) (flat is)) ≡ true = ap may_turn here ∙ may_turn-push ps (with_instrs is p) in
    let there : then_item (then_items (ps ++ p ∷ []) (flat is)) Else ≡ ps ++ turned (with_instrs is p) ∷ [] = ap (with_last turned) here ∙ with_last-push turned ps (with_instrs is p) in
    let after : Follow (then_item (then_items (ps ++ p ∷ []) (flat is)) Else) (flat others ++ End ∷ []) =
    subst (λ qs. Follow qs (flat others ++ End ∷ [])) (sym there) (part-follows (turned (with_instrs is p)) others b ps h) in
    subst (Follow ps) (sym (flat_of-If_Else ty is others)) (tt, follow-append (ps ++ p ∷ []) (flat is) (Else ∷ (flat others ++ End ∷ [])) (a (ps ++ p ∷ []) some) (turns, after))

follows : Cases Follows FollowsAll
follows = record {
  simple = follows-simple;
  block = follows-Block;
  loop = follows-Loop;
  one_side = follows-If;
  two_sides = follows-If_Else;
  none = λ ps h. tt;
  more = follows-cons;
}

pub follow-flat_of : (i : Instr) → Follows i
follow-flat_of = of_instr Follows FollowsAll follows

pub follow-flat : (is : List Instr) → FollowsAll is
follow-flat = of_instrs Follows FollowsAll follows

-- ---- marks of open parts

-- the marks behind one more item
pub record Marked (before : List Flat) (now : ℕ) (i : Flat) : Type 0 where
  pub marks : List Bool
  pub stands : StandFor (before ++ i ∷ []) marks (parts_of (before ++ i ∷ []))
  pub count : length marks ≡ opened now i

record Split (bs : List Bool) : Type 0 where
  left : List Bool
  last : Bool
  is : bs ≡ left ++ last ∷ []

split_last : (bs : List Bool) → 0 < length bs → Split bs
split_last [] h = absurd (omega arith)
split_last (b ∷ []) h = record { left = []; last = b; is = refl }
split_last (b ∷ c ∷ bs) h = let s = split_last (c ∷ bs) (omega arith) in record { left = b ∷ s.left; last = s.last; is = ap (λ cs. b ∷ cs) s.is }

head_marked : (before : List Flat) (marks : List Bool) → StandFor before marks (parts_of before) → (h : Head) →
    (left : List Bool) × StandFor (before ++ head_item h ∷ []) left (parts_of (before ++ head_item h ∷ [])) × (length left ≡ length marks + 1)
head_marked before marks s h =
    let left = marks ++ part_turns (begun h) ∷ [] in
    (left, StandFor-begin before (before ++ head_item h ∷ []) marks s h left refl refl, omega (arith, length-append marks (part_turns (begun h) ∷ [])))

pub next_marked : (before : List Flat) (marks : List Bool) → StandFor before marks (parts_of before) → (i : Flat) → MayFollow (parts_of before) i → Marked before (length marks) i
next_marked before marks s (One i) f = record { marks = marks; stands = StandFor-put before (before ++ One i ∷ []) marks s i f refl; count = refl }
next_marked before marks s (Block ty) f = let m = head_marked before marks s (head.Block ty) in record { marks = m.0; stands = m.1; count = m.2 }
next_marked before marks s (Loop ty) f = let m = head_marked before marks s (head.Loop ty) in record { marks = m.0; stands = m.1; count = m.2 }
next_marked before marks s (If ty) f = let m = head_marked before marks s (head.If ty) in record { marks = m.0; stands = m.1; count = m.2 }
next_marked before marks s Else f =
    let n = length marks - 1 in
    record { marks = set marks n false; stands = StandFor-turn before (before ++ Else ∷ []) marks s (set marks n false) n f refl refl refl; count = length-set marks n false }
next_marked before marks s End f =
    let some : 0 < length marks = omega (arith, f, some_marks before marks (parts_of before) s) in
    let t = split_last marks some in
    record { marks = t.left; stands = StandFor-end before (before ++ End ∷ []) marks s t.left t.last f refl t.is; count = omega (arith, ap length t.is, length-append t.left (t.last ∷ [])) }
