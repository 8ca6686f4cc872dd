-- Expressions and bodies are read exactly.
use Rattle.std.proofs.Common.{◌≡◌, ℕ, zero, suc, ◌+◌, ◌<◌, ◌≤◌, Bool, true, false, cond, ltb, List, [], ◌∷◌, ◌++◌, length, Ok, inl, inr, refl, sym, ap, subst, ◌∙◌, append_assoc, arith}
use Rattle.std.proofs.lemmas.Bool.{ltb-false, le-ltb, leb-true, leb-false, lt-leb}
use Rattle.std.proofs.lemmas.List.{append-nil, length-append}
use Rattle.wasm_syntax.specs.declared.instr.Instr.{Instr}
use Rattle.wasm_syntax.specs.declared.flat.Flat.{Flat}
use Rattle.wasm_syntax.specs.declared.flat.Flat.TheVariants.{One, Block, Loop, If, Else, End}
use Rattle.wasm_syntax.specs.declared.kind.Opcode.{Opcode}
use Rattle.wasm_syntax.specs.declared.kind.Opcode.TheVariants as op
use Rattle.wasm_syntax.specs.FlatForm.{is_simple, flat, flat_body}
use Rattle.wasm_syntax.specs.Parts.{Part, own, may_turn, then_item, parts_of, StandFor}
use Rattle.wasm_syntax.proofs.PartLemmas.{finished, some_marks, parts_of-push, parts_of-none, StandFor-new}
use Rattle.wasm_syntax.proofs.PartLaws.{parts_of-flat}
use Rattle.binary_grammar.specs.words.Reading.{◌>>=◌, place}
use Rattle.binary_grammar.specs.words.CodeReading.{item_at, is_last, own_instrs, rest_at, expression_at, instrs_at}
use Rattle.binary_grammar.specs.Grammar.{Then, Done, Tagged, Each}
use Rattle.binary_grammar.specs.CodeGrammar.{InstrOf, ItemOf, SpellsItem, SpellsExpression, SpellsInstrs, opened, MayOpen, OpenAtMost, NestsAtMost}
use Rattle.binary_grammar.proofs.NumberLaws.{chosen}
use Rattle.binary_grammar.proofs.Exact.{Limited, Exact, ok, ok_is, bind_ok, place_after, shorter, exact_then, exact_done}
use Rattle.binary_grammar.proofs.ItemLaws.{Stands, exact_item}
use Rattle.binary_grammar.proofs.Follow.{MayFollow, Follow, follow-flat, next_marked}

-- ---- single instructions

simple_of : (o : Opcode) (at : ℕ) (text : List ℕ) (i : Instr) → InstrOf o at text i → is_simple i ≡ true
unfolding InstrOf Then Done
simple_of op.Unreachable at text i h = ap is_simple h.1
simple_of op.Nop at text i h = ap is_simple h.1
simple_of op.Return at text i h = ap is_simple h.1
simple_of op.Drop at text i h = ap is_simple h.1
simple_of op.Select at text i h = ap is_simple h.1
simple_of (op.Num o) at text i h = ap is_simple h.1
simple_of op.MemorySize at text i h = ap is_simple h.5.1
simple_of op.MemoryGrow at text i h = ap is_simple h.5.1
simple_of op.I32Const at text i h = ap is_simple h.5.1
simple_of op.I64Const at text i h = ap is_simple h.5.1
simple_of op.Br at text i h = ap is_simple h.5.1
simple_of op.BrIf at text i h = ap is_simple h.5.1
simple_of op.BrTable at text i h = ap is_simple h.5.5.1
simple_of op.Call at text i h = ap is_simple h.5.1
simple_of op.CallIndirect at text i h = ap is_simple h.5.5.1
simple_of op.LocalGet at text i h = ap is_simple h.5.1
simple_of op.LocalSet at text i h = ap is_simple h.5.1
simple_of op.LocalTee at text i h = ap is_simple h.5.1
simple_of op.GlobalGet at text i h = ap is_simple h.5.1
simple_of op.GlobalSet at text i h = ap is_simple h.5.1
simple_of (op.Load o) at text i h = ap is_simple h.5.5.1
simple_of (op.Store o) at text i h = ap is_simple h.5.5.1
simple_of op.Block at text i h = absurd h
simple_of op.Loop at text i h = absurd h
simple_of op.If at text i h = absurd h
simple_of op.Else at text i h = absurd h
simple_of op.End at text i h = absurd h

-- one instruction is no block
abbrev SimpleOne : Flat → Type 0
SimpleOne (One i) = is_simple i ≡ true
SimpleOne _ = Unit {0}

one_simple : (o : Opcode) (at : ℕ) (text : List ℕ) (x : Flat) → Then (InstrOf o) (λ i. Done (One i)) at text x → SimpleOne x
unfolding Then Done
one_simple o at text x h = subst SimpleOne (sym h.5.1) (simple_of o at h.1 h.0 h.4)

item_simple : (o : Opcode) (at : ℕ) (text : List ℕ) (x : Flat) → ItemOf o at text x → SimpleOne x
unfolding ItemOf Then Done
item_simple op.Block at text x h = subst SimpleOne (sym h.5.1) tt
item_simple op.Loop at text x h = subst SimpleOne (sym h.5.1) tt
item_simple op.If at text x h = subst SimpleOne (sym h.5.1) tt
item_simple op.Else at text x h = subst SimpleOne (sym h.1) tt
item_simple op.End at text x h = subst SimpleOne (sym h.1) tt
item_simple op.Unreachable at text x h = one_simple op.Unreachable at text x h
item_simple op.Nop at text x h = one_simple op.Nop at text x h
item_simple op.Return at text x h = one_simple op.Return at text x h
item_simple op.Drop at text x h = one_simple op.Drop at text x h
item_simple op.Select at text x h = one_simple op.Select at text x h
item_simple (op.Num o) at text x h = one_simple (op.Num o) at text x h
item_simple op.MemorySize at text x h = one_simple op.MemorySize at text x h
item_simple op.MemoryGrow at text x h = one_simple op.MemoryGrow at text x h
item_simple op.I32Const at text x h = one_simple op.I32Const at text x h
item_simple op.I64Const at text x h = one_simple op.I64Const at text x h
item_simple op.Br at text x h = one_simple op.Br at text x h
item_simple op.BrIf at text x h = one_simple op.BrIf at text x h
item_simple op.BrTable at text x h = one_simple op.BrTable at text x h
item_simple op.Call at text x h = one_simple op.Call at text x h
item_simple op.CallIndirect at text x h = one_simple op.CallIndirect at text x h
item_simple op.LocalGet at text x h = one_simple op.LocalGet at text x h
item_simple op.LocalSet at text x h = one_simple op.LocalSet at text x h
item_simple op.LocalTee at text x h = one_simple op.LocalTee at text x h
item_simple op.GlobalGet at text x h = one_simple op.GlobalGet at text x h
item_simple op.GlobalSet at text x h = one_simple op.GlobalSet at text x h
item_simple (op.Load o) at text x h = one_simple (op.Load o) at text x h
item_simple (op.Store o) at text x h = one_simple (op.Store o) at text x h

spelled_simple : (at : ℕ) (text : List ℕ) (x : Flat) → SpellsItem at text x → SimpleOne x
unfolding SpellsItem Tagged
spelled_simple at text x h = item_simple h.3.0 (at + 1) h.1 x h.3.2

pub some_text : (at : ℕ) (text : List ℕ) (x : Flat) → SpellsItem at text x → 0 < length text
unfolding SpellsItem Tagged
some_text at text x h = omega (arith, ap length h.2)

-- the text of the last end
end_text : (at : ℕ) → SpellsItem at (0x0b ∷ []) End
unfolding SpellsItem Tagged ItemOf Done
end_text at = (0x0b, [], refl, (op.End, refl, (refl, refl)))

-- ---- where items stand

-- an item that stands where it does may follow, unless it is the last
follows : (ps : List Part) (full : Bool) (i : Flat) → SimpleOne i → Stands (may_turn ps) full i → is_last (length ps) i ≡ false → MayFollow ps i
follows ps full (One i) s w l = s
follows ps full (Block t) s w l = tt
follows ps full (Loop t) s w l = tt
follows ps full (If t) s w l = tt
follows ps full Else s w l = w
follows ps full End s w l = leb-false (length ps) 1 l

may_open : (most : ℕ) (ps : List Part) (n : ℕ) (i : Flat) → length ps ≡ n + 1 → Stands (may_turn ps) (ltb most (length ps)) i → MayOpen most n i
may_open most ps n (One i) e w = tt
may_open most ps n (Block t) e w = omega (arith, ltb-false most (length ps) w)
may_open most ps n (Loop t) e w = omega (arith, ltb-false most (length ps) w)
may_open most ps n (If t) e w = omega (arith, ltb-false most (length ps) w)
may_open most ps n Else e w = tt
may_open most ps n End e w = tt

stands_so : (most : ℕ) (ps : List Part) (n : ℕ) (i : Flat) → length ps ≡ n + 1 → MayFollow ps i → MayOpen most n i → Stands (may_turn ps) (ltb most (length ps)) i
stands_so most ps n (One i) e f o = tt
stands_so most ps n (Block t) e f o = le-ltb most (length ps) (omega arith)
stands_so most ps n (Loop t) e f o = le-ltb most (length ps) (omega arith)
stands_so most ps n (If t) e f o = le-ltb most (length ps) (omega arith)
stands_so most ps n Else e f o = f
stands_so most ps n End e f o = tt

not_last : (ps : List Part) (i : Flat) → MayFollow ps i → is_last (length ps) i ≡ false
not_last ps (One i) f = refl
not_last ps (Block t) f = refl
not_last ps (Loop t) f = refl
not_last ps (If t) f = refl
not_last ps Else f = refl
not_last ps End f = lt-leb (length ps) 1 f

record IsEnd (n : ℕ) (i : Flat) : Type 0 where
  is : i ≡ End
  few : n ≤ 1

last_end : (n : ℕ) (i : Flat) → is_last n i ≡ true → IsEnd n i
last_end n (One i) e = absurd cc
last_end n (Block t) e = absurd cc
last_end n (Loop t) e = absurd cc
last_end n (If t) e = absurd cc
last_end n Else e = absurd cc
last_end n End e = record { is = refl; few = leb-true n 1 e }

-- ---- expressions

abbrev Found : Type 0
Found = (List Instr × List ℕ) × List ℕ

-- what was taken of an expression of which some items were read before
record RestTaken (most now : ℕ) (before : List Flat) (end : ℕ) (bytes : List ℕ) (x : Found) : Type 0 where
  text : List ℕ
  parts : bytes ≡ text ++ x.1
  items : List Flat
  spells : Each SpellsItem (place end bytes) text (items ++ End ∷ [], x.0.1)
  whole : before ++ items ≡ flat x.0.0
  nested : OpenAtMost most now items

last_taken : (most now : ℕ) (before : List Flat) (marks : List Bool) (end : ℕ) (bytes rest text : List ℕ) (i : Flat) (x : Found) → StandFor before marks (parts_of before) →
    IsEnd (length (parts_of before)) i → bytes ≡ text ++ rest → SpellsItem (place end bytes) text i → ok ((own_instrs (parts_of before), place end bytes ∷ []), rest) ≡ ok x → RestTaken most now before end bytes x
last_taken most now before marks end bytes rest text i x s l e h q =
    let one : length (parts_of before) ≡ 1 = omega (arith, l.few, some_marks before marks (parts_of before) s) in
    let f = finished before marks (parts_of before) s one in
    let instrs : own_instrs (parts_of before) ≡ f.instrs = ap own_instrs f.parts in
    subst (RestTaken most now before end bytes) (ok_is ((own_instrs (parts_of before), place end bytes ∷ []), rest) x q) (record {
      text = text;
      parts = e;
      items = [];
      spells = (refl, text, [], sym (append-nil text), subst (SpellsItem (place end bytes) text) l.is h, refl);
      whole = append-nil before ∙ f.form ∙ ap flat (sym instrs);
      nested = tt;
    })

more_taken : (most now : ℕ) (before : List Flat) (end : ℕ) (bytes rest text : List ℕ) (i : Flat) (x y : Found) → length bytes ≤ end →
    bytes ≡ text ++ rest → SpellsItem (place end bytes) text i → MayOpen most now i → RestTaken most (opened now i) (before ++ i ∷ []) end rest y →
    ok ((y.0.0, place end bytes ∷ y.0.1), y.1) ≡ ok x → RestTaken most now before end bytes x
more_taken most now before end bytes rest text i x y le e h o t q =
    let each : Each SpellsItem (place end bytes + length text) t.text (t.items ++ End ∷ [], y.0.1) =
    subst (λ at. Each SpellsItem at t.text (t.items ++ End ∷ [], y.0.1)) (sym (place_after end bytes text rest le e)) t.spells in
    subst (RestTaken most now before end bytes) (ok_is ((y.0.0, place end bytes ∷ y.0.1), y.1) x q) (record {
      text = text ++ t.text;
      parts = e ∙ ap (λ more. text ++ more) t.parts ∙ sym (append_assoc text t.text y.1);
      items = i ∷ t.items;
      spells = (refl, text, t.text, refl, h, each);
      whole = sym (append_assoc before (i ∷ []) t.items) ∙ t.whole;
      nested = (o, t.nested);
    })

rest_takes : (most n : ℕ) (before : List Flat) (marks : List Bool) → StandFor before marks (parts_of before) → (end : ℕ) (bytes : List ℕ) (x : Found) → length bytes ≤ end →
    rest_at most n (parts_of before) end bytes ≡ Ok x → RestTaken most (length marks) before end bytes x
unfolding rest_at
rest_takes most zero before marks s end bytes x le e = absurd cc
rest_takes most (suc n) before marks s end bytes x le e =
    let ps = parts_of before in
    let full = ltb most (length ps) in
    let p = bind_ok (item_at (may_turn ps) full end bytes) (λ i. cond (is_last (length ps) i.0) (Ok ((own_instrs ps, place end bytes ∷ []), i.1))
    (rest_at most n (then_item ps i.0) end i.1 >>= λ y. Ok ((y.0.0, place end bytes ∷ y.0.1), y.1))) x e in
    let i = p.0.0 in
    let rest = p.0.1 in
    let t = (exact_item (may_turn ps) full).takes end bytes rest i le p.1 in
    elim (chosen (is_last (length ps) i) (ok ((own_instrs ps, place end bytes ∷ []), rest)) (rest_at most n (then_item ps i) end rest >>= λ y. Ok ((y.0.0, place end bytes ∷ y.0.1), y.1)) (ok x) p.2) [
      | inl h ↦ last_taken most (length marks) before marks end bytes rest t.text i x s (last_end (length ps) i h.0) t.parts t.spells h.1
      | inr h ↦
          let q = bind_ok (rest_at most n (then_item ps i) end rest) (λ y. Ok ((y.0.0, place end bytes ∷ y.0.1), y.1)) x h.1 in
          let f = follows ps full i (spelled_simple (place end bytes) t.text i t.spells) t.within h.0 in
          let m = next_marked before marks s i f in
          let again : rest_at most n (parts_of (before ++ i ∷ [])) end rest ≡ Ok q.0 = ap (λ qs. rest_at most n qs end rest) (parts_of-push before i) ∙ q.1 in
          let r = rest_takes most n (before ++ i ∷ []) m.marks m.stands end rest q.0 (shorter end bytes t.text rest le t.parts) again in
          let r2 = subst (λ k. RestTaken most k (before ++ i ∷ []) end rest q.0) m.count r in
          more_taken most (length marks) before end bytes rest t.text i x q.0 le t.parts t.spells (may_open most ps (length marks) i (some_marks before marks ps s) t.within) r2 q.2
    ]

own_of : (before : List Flat) (is : List Instr) → before ≡ flat is → parts_of before ≡ own is ∷ []
own_of before is e = ap parts_of e ∙ parts_of-flat is

rest_again : (most n : ℕ) (items before : List Flat) (marks : List Bool) → StandFor before marks (parts_of before) → (end : ℕ) (text rest ps : List ℕ) (is : List Instr) → length (text ++ rest) ≤ end →
    length items < n → Each SpellsItem (place end (text ++ rest)) text (items ++ End ∷ [], ps) → before ++ items ≡ flat is → Follow (parts_of before) items → OpenAtMost most (length marks) items →
    rest_at most n (parts_of before) end (text ++ rest) ≡ Ok ((is, ps), rest)
unfolding rest_at
rest_again most zero items before marks s end text rest ps is le lt h w f o = absurd (omega arith)
rest_again most (suc n) [] before marks s end text rest [] is le lt h w f o = absurd h
rest_again most (suc n) [] before marks s end text rest (p ∷ q ∷ ps) is le lt h w f o = absurd h.5
rest_again most (suc n) [] before marks s end text rest (p ∷ []) is le lt h w f o =
    let qs = parts_of before in
    let mine : qs ≡ own is ∷ [] = own_of before is (sym (append-nil before) ∙ w) in
    let whole : text ≡ h.1 = h.3 ∙ ap (λ t. h.1 ++ t) h.5 ∙ append-nil h.1 in
    let here : SpellsItem (place end (text ++ rest)) text End = subst (λ t. SpellsItem (place end (text ++ rest)) t End) (sym whole) h.4 in
    let read : item_at (may_turn qs) (ltb most (length qs)) end (text ++ rest) ≡ Ok (End, rest) = (exact_item (may_turn qs) (ltb most (length qs))).again end text rest End le here tt in
    let last : is_last (length qs) End ≡ true = ap (λ ps. is_last (length ps) End) mine in
    let instrs : own_instrs qs ≡ is = ap own_instrs mine in
    rw (read, last) (ap (λ js. ok ((js, place end (text ++ rest) ∷ []), rest)) instrs ∙ ap (λ k. ok ((is, k ∷ []), rest)) (sym h.0))
rest_again most (suc n) (i ∷ items) before marks s end text rest [] is le lt h w f o = absurd h
rest_again most (suc n) (i ∷ items) before marks s end text rest (p ∷ ps) is le lt h w f o =
    let qs = parts_of before in
    let a = h.1 in
    let b = h.2 in
    let whole : text ++ rest ≡ a ++ (b ++ rest) = ap (λ t. t ++ rest) h.3 ∙ append_assoc a b rest in
    let here : SpellsItem (place end (a ++ (b ++ rest))) a i = subst (λ t. SpellsItem (place end t) a i) whole h.4 in
    let ws = stands_so most qs (length marks) i (some_marks before marks qs s) f.0 o.0 in
    let read : item_at (may_turn qs) (ltb most (length qs)) end (text ++ rest) ≡ Ok (i, b ++ rest) =
    ap (item_at (may_turn qs) (ltb most (length qs)) end) whole ∙ (exact_item (may_turn qs) (ltb most (length qs))).again end a (b ++ rest) i (subst (λ t. length t ≤ end) whole le) here ws in
    let m = next_marked before marks s i f.0 in
    let each : Each SpellsItem (place end (b ++ rest)) b (items ++ End ∷ [], ps) = subst (λ at. Each SpellsItem at b (items ++ End ∷ [], ps)) (place_after end (text ++ rest) a (b ++ rest) le whole) h.5 in
    let others = rest_again most n items (before ++ i ∷ []) m.marks m.stands end b rest ps is (shorter end (text ++ rest) a (b ++ rest) le whole) (omega arith) each
    (append_assoc before (i ∷ []) items ∙ w) (subst (λ rs. Follow rs items) (sym (parts_of-push before i)) f.1) (subst (λ k. OpenAtMost most k items) (sym m.count) o.1) in
    let next : rest_at most n (then_item qs i) end (b ++ rest) ≡ Ok ((is, ps), rest) = ap (λ rs. rest_at most n rs end (b ++ rest)) (sym (parts_of-push before i)) ∙ others in
    rw (read, not_last qs i f.0, next) (ap (λ k. ok ((is, k ∷ ps), rest)) (sym h.0))

-- each item has a byte of its own
items_fit : (at : ℕ) (text : List ℕ) (items : List Flat) (ps : List ℕ) → Each SpellsItem at text (items, ps) → length items ≤ length text
items_fit at text [] ps h = omega arith
items_fit at text (i ∷ items) [] h = absurd h
items_fit at text (i ∷ items) (p ∷ ps) h =
    omega (arith, some_text at h.1 i h.4, items_fit (at + length h.1) h.2 items ps h.5, ap length h.3, length-append h.1 h.2)

none_stand : StandFor [] [] (parts_of [])
none_stand = StandFor-new [] [] refl refl

abbrev pub Nested : ℕ → Limited (List Instr × List ℕ)
Nested most x = NestsAtMost most x.0

pub exact_expression : (most : ℕ) → Exact (expression_at most) SpellsExpression (Nested most)
unfolding expression_at SpellsExpression
exact_expression most = record {
  takes = λ end bytes rest x le e.
      let begun : rest_at most (length bytes) (parts_of []) end bytes ≡ Ok (x, rest) = ap (λ qs. rest_at most (length bytes) qs end bytes) (parts_of-none [] refl) ∙ e in
      let t = rest_takes most (length bytes) [] [] none_stand end bytes (x, rest) le begun in
      record {
        text = t.text;
        parts = t.parts;
        spells = subst (λ items. Each SpellsItem (place end bytes) t.text (items ++ End ∷ [], x.1)) t.whole t.spells;
        within = subst (OpenAtMost most 0) t.whole t.nested;
      };
  again = λ end text rest x le h w.
      let fit = items_fit (place end (text ++ rest)) text (flat_body x.0) x.1 h in
      let many : length (flat x.0) < length (text ++ rest) = omega (arith, fit, length-append (flat x.0) (End ∷ []), length-append text rest) in
      let mine : parts_of [] ≡ own [] ∷ [] = parts_of-none [] refl in
      let f : Follow (parts_of []) (flat x.0) = subst (λ qs. Follow qs (flat x.0)) (sym mine) (follow-flat x.0 (own [] ∷ []) (omega arith)) in
      ap (λ qs. rest_at most (length (text ++ rest)) qs end (text ++ rest)) (sym mine) ∙
      rest_again most (length (text ++ rest)) (flat x.0) [] [] none_stand end text rest x.1 x.0 le many h refl f w;
}

pub exact_instrs : (most : ℕ) → Exact (instrs_at most) SpellsInstrs (NestsAtMost most)
unfolding instrs_at SpellsInstrs Done
exact_instrs most = exact_then (exact_expression most) (λ x. exact_done x.0) (record {
  split = λ x at text y q u. (subst (NestsAtMost most) q.1 u, tt);
  join = λ x at text y q w v. subst (NestsAtMost most) (sym q.1) w;
})
