-- Each step of a typed configuration gives a typed one.
use Rattle.std.proofs.Common.{◌≡◌, ℕ, zero, suc, ◌==◌, Bool, List, [], ◌∷◌, ◌++◌, Option, Some, None, All, length, refl, sym, ap, subst, ◌∙◌, append_assoc}
use Rattle.std.proofs.lemmas.List.{map-append}
use Rattle.wasm_values.specs.declared.number.Val.{Val}
use Rattle.wasm_values.specs.declared.number.Val.TheVariants as val
use Rattle.wasm_values.specs.declared.number.ValType.{ValType}
use Rattle.wasm_values.specs.declared.number.ValType.TheVariants.{I32}
use Rattle.wasm_values.specs.Operators.{type_of, num_operands}
use Rattle.wasm_syntax.specs.declared.instr.Plain.{Plain}
use Rattle.wasm_syntax.specs.declared.instr.Plain.TheVariants.{Unreachable, Nop, Return, Drop, Select, MemorySize, MemoryGrow}
use Rattle.wasm_syntax.specs.Trees as tree
use Rattle.wasm_syntax.specs.Trees.{Instruction, Sequence, Empty, Then, IfElse}
use Rattle.wasm_typing.specs.Typing.{Types, types_of, PlainTyped, InstructionTyped, SequenceTyped}
use Rattle.wasm_typing.specs.Valid.{ValInRange, InstructionInRange, SequenceInRange}
use Rattle.wasm_store.specs.declared.store.FuncInst.TheVariants.{Code}
use Rattle.wasm_store.specs.declared.store.Store.{Store}
use Rattle.wasm_store.specs.Configuration.{OpenBlock, Activation, Layer, OfCode, OfHost, Configuration, going}
use Rattle.wasm_store.specs.Control.{count_of, opened, chosen, Closes}
use Rattle.wasm_store.specs.Step.{PlainStep, InstructionStep, Moves, TopMoves}
use Rattle.type_safety.specs.Shapes.{types, shape_of}
use Rattle.type_safety.specs.Stores.{StoreTyped}
use Rattle.type_safety.specs.Frames.{CodeTyped, AgainTyped, BlocksTyped, FrameTyped, LayersTyped}
use Rattle.type_safety.specs.Typed.{Typed}
use Rattle.type_safety.specs.Safety.{Preservation}
use Rattle.type_safety.proofs.Frames.{goes_on, going_typed, trapped_typed, leaves_typed}
use Rattle.type_safety.proofs.Keeping as keep
use Rattle.type_safety.proofs.Calling.{keeps_call, keeps_call_indirect}

length-types_of : (t : Option ValType) → length (types_of t) ≡ count_of t
length-types_of None = refl
length-types_of (Some t) = refl

module _ (s : Store) (store : StoreTyped s) (f : Activation) (results : Types) (t : FrameTyped (shape_of s) f [] results) (below : List Layer) (layers : LayersTyped (shape_of s) below results) (d : Configuration) where
  -- The end of the innermost code.
  closes : (blocks : List OpenBlock) (own under : List Val) (labels : List Types) (wanted : Types) → f.operands ≡ own ++ under → types own ≡ wanted → BlocksTyped t.context blocks under labels wanted → Closes s f below d blocks → Typed d
  closes [] own under labels wanted split is b h =
      leaves_typed s store f below d results (Code t.ty f.instance t.code) own under t.func_there t.results_are t.ranges split (is ∙ b.2 ∙ t.context_results) layers h
  closes (l ∷ ls) own under labels wanted split is b h =
      let ins : types (own ++ b.own) ≡ wanted ++ types b.own = map-append type_of own b.own ∙ ap (λ x. x ++ types b.own) is in
      subst Typed (sym h) (
      going_typed s store (record f { labels = ls; rest = l.rest }) below results (
      goes_on (shape_of s) f [] results t f.locals f.operands ls l.rest (own ++ b.own) b.under b.outer b.next [] t.locals t.ranges (
      split ∙ ap (λ x. own ++ x) b.split ∙ sym (append_assoc own b.own b.under)
      ) (
      subst (λ (x : Types). CodeTyped t.context b.outer l.rest x b.next) (sym ins) b.rest
      ) b.around_it
      ) layers
      )

  module _ (rest : Sequence) (mid : Types) (typed : SequenceTyped t.context t.labels rest mid t.wanted) (range : SequenceInRange rest) where
    -- A block is opened over these operands.
    opens : (ty : Option ValType) (body : Sequence) (operands own : List Val) (arity : ℕ) (again : Option Sequence) (taken : Types) → All ValInRange operands → operands ≡ own ++ t.under → length taken ≡ arity → AgainTyped t.context (taken ∷ t.labels) again taken (types_of ty) → CodeTyped t.context (taken ∷ t.labels) body [] (types_of ty) → mid ≡ types_of ty ++ types own → d ≡ going s (opened (record f { operands = operands; rest = rest }) arity again body rest) below → Typed d
    opens ty body operands own arity again taken ok split long same inside out h =
        let g : Activation = opened (record f { operands = operands; rest = rest }) arity again body rest in
        let after : CodeTyped t.context t.labels rest (types_of ty ++ types own) t.wanted =
        (subst (λ (x : Types). SequenceTyped t.context t.labels rest x t.wanted) out typed, range)
        in
        subst Typed (sym h) (
        going_typed s store g below results (
        goes_on (shape_of s) f [] results t f.locals operands g.labels body [] operands (taken ∷ t.labels) (types_of ty) [] t.locals ok refl inside (
        record {
          taken = taken;
          outer = t.labels;
          labels_are = refl;
          arity = long;
          height = refl;
          again = same;
          own = own;
          under = t.under;
          split = split;
          next = t.wanted;
          rest = after;
          around_it = t.blocks;
        }
        )
        ) layers
        )

    chooses : (ty : Option ValType) (first second : Sequence) (ins : Types) → types t.own ≡ I32 ∷ ins → CodeTyped t.context (types_of ty ∷ t.labels) first [] (types_of ty) → CodeTyped t.context (types_of ty ∷ t.labels) second [] (types_of ty) → mid ≡ types_of ty ++ ins → (c : ℕ) (operands : List Val) → f.operands ≡ val.I32 c ∷ operands → d ≡ going s (opened (record f { operands = operands; rest = rest }) (count_of ty) None (chosen c first second) rest) below → Typed d
    chooses ty first second ins is one two out zero operands top h =
        let p = keep.popped t.under t.own f.operands (val.I32 0) operands I32 ins t.split t.ranges top is in
        opens ty second operands p.rest (count_of ty) None (types_of ty) p.ok p.is (length-types_of ty) refl two (out ∙ ap (λ x. types_of ty ++ x) (sym p.left)) h
    chooses ty first second ins is one two out (suc n) operands top h =
        let p = keep.popped t.under t.own f.operands (val.I32 (suc n)) operands I32 ins t.split t.ranges top is in
        opens ty first operands p.rest (count_of ty) None (types_of ty) p.ok p.is (length-types_of ty) refl one (out ∙ ap (λ x. types_of ty ++ x) (sym p.left)) h

    keeps_plain : (grows : Bool) (op : Plain) → PlainTyped t.context op (types t.own) mid → PlainStep grows s (record f { rest = rest }) below d op → Typed d
    keeps_plain grows Unreachable i h = subst Typed (sym h) (trapped_typed s store)
    keeps_plain grows Nop i h = keep.keeps_nop s store f results t below layers d rest mid typed range i.0 i.1 i.2 h
    keeps_plain grows Return i h = keep.keeps_return s store f results t below layers d rest mid typed range i.0 i.1 h
    keeps_plain grows Drop i h = keep.keeps_drop s store f results t below layers d rest mid typed range i.0 i.1.0 i.1.1 i.1.2 h
    keeps_plain grows Select i h = keep.keeps_select s store f results t below layers d rest mid typed range i.0 i.1.0 i.1.1 i.1.2 h
    keeps_plain grows MemorySize i h = keep.keeps_size s store f results t below layers d rest mid typed range i.1.0 i.1.1 i.1.2 h
    keeps_plain grows MemoryGrow i h = keep.keeps_grow s store f results t below layers d rest mid typed range grows i.1.0 i.1.1 i.1.2 h

    keeps : (grows : Bool) (i : Instruction) → InstructionTyped t.context t.labels i (types t.own) mid → InstructionInRange i → InstructionStep grows s (record f { rest = rest }) below d i → Typed d
    keeps grows (tree.Plain op) i r h = keeps_plain grows op i h
    keeps grows (tree.Num op) i r h = keep.keeps_num s store f results t below layers d rest mid typed range op (num_operands op == 1) i.0 i.1 i.2 h
    keeps grows (tree.Const value) i r h = keep.keeps_const s store f results t below layers d rest mid typed range value i.0 r i.1 i.2 h
    keeps grows (tree.LocalGet x) i r h = keep.keeps_local_get s store f results t below layers d rest mid typed range x i.0 i.2.0 i.1 i.2.1 i.2.2 h
    keeps grows (tree.LocalSet x) i r h = keep.keeps_local_set s store f results t below layers d rest mid typed range x i.0 i.2.0 i.1 i.2.1 i.2.2 h
    keeps grows (tree.LocalTee x) i r h = keep.keeps_local_tee s store f results t below layers d rest mid typed range x i.0 i.2.0 i.1 i.2.1 i.2.2 h
    keeps grows (tree.GlobalGet x) i r h = keep.keeps_global_get s store f results t below layers d rest mid typed range x i.0 i.2.0 i.1 i.2.1 i.2.2 h
    keeps grows (tree.GlobalSet x) i r h = keep.keeps_global_set s store f results t below layers d rest mid typed range x i.0 i.3.0 i.1 i.3.1 i.3.2 h
    keeps grows (tree.Load op align offset) i r h = keep.keeps_load s store f results t below layers d rest mid typed range op offset i.2.0 i.2.1 i.2.2 h
    keeps grows (tree.Store op align offset) i r h = keep.keeps_store s store f results t below layers d rest mid typed range op offset i.2.0 i.2.1 i.2.2 h
    keeps grows (tree.Block ty body) i r h =
        opens ty body f.operands t.own (count_of ty) None (types_of ty) t.ranges t.split (length-types_of ty) refl (i.0, r) (i.1.2 ∙ ap (λ x. types_of ty ++ x) (sym i.1.1)) h
    keeps grows (tree.Loop ty body) i r h =
        opens ty body f.operands t.own 0 (Some body) [] t.ranges t.split refl (refl, (i.0, r)) (i.0, r) (i.1.2 ∙ ap (λ x. types_of ty ++ x) (sym i.1.1)) h
    keeps grows (tree.If ty first) i r h =
        chooses ty first Empty i.2.0 i.2.1 (i.0, r) (i.1, tt) i.2.2 h.0 h.1 h.2 h.3
    keeps grows (IfElse ty first second) i r h =
        chooses ty first second i.2.0 i.2.1 (i.0, r.0) (i.1, r.1) i.2.2 h.0 h.1 h.2 h.3
    keeps grows (tree.Br k) i r h = keep.keeps_branch s store f results t below layers d rest mid typed range f.operands t.own k i.0 i.2.0 t.ranges t.split i.2.1 i.1 h
    keeps grows (tree.BrIf k) i r h = keep.keeps_br_if s store f results t below layers d rest mid typed range k i.0 i.2.0 i.2.1 i.1 i.2.2 h
    keeps grows (tree.BrTable ks k) i r h = keep.keeps_br_table s store f results t below layers d rest mid typed range ks k i.0 i.3.0 i.3.1 i.1 i.2 h
    keeps grows (tree.Call x) i r h = keeps_call s store f results t below layers d rest mid typed range x i.0 i.2.0 i.1 i.2.1 i.2.2 h
    keeps grows (tree.CallIndirect x) i r h = keeps_call_indirect s store f results t below layers d rest mid typed range x i.1.0 i.1.2.0 i.1.1 i.1.2.1 i.1.2.2 h

  moves : (grows : Bool) (code : Sequence) → CodeTyped t.context t.labels code (types t.own) t.wanted → Moves grows s f below d code → Typed d
  moves grows Empty c h = closes f.labels t.own t.under t.labels t.wanted t.split c.0 t.blocks h
  moves grows (Then i rest) c h = keeps rest c.0.0 c.0.2 c.1.1 grows i c.0.1 c.1.0 h

top_keeps : (grows : Bool) (s : Store) (frames : List Layer) (d : Configuration) → StoreTyped s → LayersTyped (shape_of s) frames [] → TopMoves grows s frames d → Typed d
top_keeps grows s [] d store ls h = elim h [ ]
top_keeps grows s (OfCode f ∷ below) d store ls h = moves s store f ls.0 ls.1 below ls.2 d grows f.rest ls.1.typed h
top_keeps grows s (OfHost func args given ∷ below) d store ls h = elim h [ ]

pub preservation : Preservation
preservation c d t h = top_keeps h.0 c.store c.frames d t.store t.frames h.1.1
