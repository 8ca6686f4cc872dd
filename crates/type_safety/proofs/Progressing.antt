-- Each typed running configuration whose top frame is of code has a step.
use Rattle.std.proofs.Common.{◌≡◌, ℕ, zero, suc, ◌+◌, ◌<◌, ◌≤◌, ◌==◌, if◌then◌else◌, Bool, true, false, MatchBool, List, [], ◌∷◌, ◌++◌, Option, Some, None, IfSome, option_and_then, unwrap_or, All, length, take, reverse, slice_get, refl, sym, ap, ◌∙◌, subst, arith, append_assoc, length-append}
use Rattle.std.proofs.lemmas.List.{length-map, length-reverse}
use Rattle.std.proofs.lemmas.Option.{slice_get_within}
use Rattle.wasm_values.specs.declared.number.NumOp.{NumOp}
use Rattle.wasm_values.specs.declared.number.Val.{Val}
use Rattle.wasm_values.specs.declared.number.Val.TheVariants as val
use Rattle.wasm_values.specs.declared.number.ValType.{ValType}
use Rattle.wasm_values.specs.declared.number.ValType.TheVariants.{I32}
use Rattle.wasm_values.specs.Operators.{type_of, number_of, value_of, num_operands, operand_type}
use Rattle.wasm_syntax.specs.declared.instr.Plain.{Plain}
use Rattle.wasm_syntax.specs.declared.instr.Plain.TheVariants.{Unreachable, Nop, Return, Drop, Select, MemorySize, MemoryGrow}
use Rattle.wasm_syntax.specs.declared.module.FuncType.{FuncType}
use Rattle.wasm_syntax.specs.Trees as tree
use Rattle.wasm_syntax.specs.Trees.{Instruction, Sequence, Empty, Then, IfElse}
use Rattle.wasm_typing.specs.Typing.{Types, PlainTyped, InstructionTyped, SequenceTyped}
use Rattle.wasm_store.specs.declared.store.FuncInst.{FuncInst}
use Rattle.wasm_store.specs.declared.store.FuncInst.TheVariants.{Code, Host}
use Rattle.wasm_store.specs.declared.store.TableInst.{TableInst}
use Rattle.wasm_store.specs.declared.store.Store.{Store}
use Rattle.wasm_store.specs.Configuration.{OpenBlock, Activation, Layer, OfCode, OfHost, Configuration, going, trapped, with_operands, pushed, address_in}
use Rattle.wasm_store.specs.Seen.{func_in, func_of}
use Rattle.wasm_store.specs.Numeric.{NumOneStep, NumTwoStep, DropStep, SelectStep, LocalGetStep, LocalSetStep, LocalTeeStep, GlobalGetStep, GlobalSetStep}
use Rattle.wasm_syntax.specs.Accesses.{stored_type}
use Rattle.wasm_store.specs.Memory.{LoadStep, StoreStep, SizeStep, GrowStep}
use Rattle.wasm_store.specs.Control.{type_of_inst, given_to, Leaves, IfStep, Closes, jumped, Branches, BranchesIf, BrIfStep, BrTableStep, EntersInst, CallStep, CallsInst, CallsEntry, entry_at, CallIndirectStep, is_same_func_type}
use Rattle.wasm_store.specs.Step.{PlainStep, InstructionStep, Moves, TopMoves}
use Rattle.wasm_store.proofs.TypeLaws.{types-eq}
use Rattle.type_safety.specs.Shapes.{types, shape_of}
use Rattle.type_safety.specs.Stores.{FuncInstTyped, TableTyped, StoreTyped}
use Rattle.type_safety.specs.Frames.{BlocksTyped, FrameTyped, LayersTyped}
use Rattle.type_safety.specs.Safety.{HasCodeOnTop, Progress}
use Rattle.type_safety.proofs.Lists.{of_cons, of_append, of_get, all-get, there}
use Rattle.type_safety.proofs.Lookups.{func_there, global_there, memory_there, table_there}

-- A value is that of its type with its number.
value_is_own : (v : Val) → v ≡ value_of (type_of v) (number_of v)
value_is_own (val.I32 n) = refl
value_is_own (val.I64 n) = refl

value_is : (v : Val) (ty : ValType) → type_of v ≡ ty → v ≡ value_of ty (number_of v)
value_is v ty h = value_is_own v ∙ ap (λ t. value_of t (number_of v)) h

-- Operands on top, by their types.
record One (own : List Val) (ty : ValType) (ins : Types) : Type 0 where
  number : ℕ
  rest : List Val
  is : own ≡ value_of ty number ∷ rest
  left : types rest ≡ ins

one : (own : List Val) (ty : ValType) (ins : Types) → types own ≡ ty ∷ ins → One own ty ins
one own ty ins h =
    let c = of_cons type_of own ty ins h in
    record {
      number = number_of c.first;
      rest = c.rest;
      is = c.is ∙ ap (λ v. v ∷ c.rest) (value_is c.first ty c.first_is);
      left = c.rest_is;
    }

record Two (own : List Val) (first second : ValType) (ins : Types) : Type 0 where
  top : ℕ
  next : ℕ
  rest : List Val
  is : own ≡ value_of first top ∷ value_of second next ∷ rest
  left : types rest ≡ ins

two : (own : List Val) (first second : ValType) (ins : Types) → types own ≡ first ∷ second ∷ ins → Two own first second ins
two own first second ins h =
    let a = one own first (second ∷ ins) h in
    let b = one a.rest second ins a.left in
    record { top = a.number; next = b.number; rest = b.rest; is = a.is ∙ ap (λ r. value_of first a.number ∷ r) b.is; left = b.left }

-- As many operands as parameters.
wide : (operands own under : List Val) (params ins : Types) → operands ≡ own ++ under → types own ≡ reverse params ++ ins → length params ≤ length operands
wide operands own under params ins split h =
    omega (arith, ap length split, length-append own under, length-map own type_of, ap length h, length-append (reverse params) ins, length-reverse params)

module _ (s : Store) (store : StoreTyped s) (f : Activation) (results : Types) (below : List Layer) (t : FrameTyped (shape_of s) f [] results) where
  leaves : (g : Activation) (top rest : List Val) → g.func ≡ f.func → g.operands ≡ top ++ rest → types top ≡ results → (d : Configuration) × Leaves s g below d
  leaves g top rest same split is =
      let n = length t.ty.results in
      let long : n ≤ length g.operands =
      omega (arith, ap length split, length-append top rest, ap length (is ∙ t.results_are), length-map top type_of, length-reverse t.ty.results)
      in
      (given_to s (take n g.operands) below, (Code t.ty f.instance t.code, ap (slice_get s.funcs) same ∙ t.func_there, long, refl))

  branches : (g : Activation) (blocks : List OpenBlock) (top middle under : List Val) (labels : List Types) (wanted : Types) (k : ℕ) (ts : Types) → g.func ≡ f.func → g.operands ≡ top ++ (middle ++ under) → types top ≡ ts → slice_get labels k ≡ Some ts → BlocksTyped t.context blocks under labels wanted → (d : Configuration) × Branches s g below d blocks k
  branches g [] top middle under labels wanted zero ts same split is at b =
      let all : slice_get (t.context.results ∷ []) 0 ≡ Some ts = ap (λ x. slice_get x 0) (sym b.1) ∙ at in
      let e : t.context.results ≡ ts = cc all in
      leaves g top (middle ++ under) same split (is ∙ sym e ∙ t.context_results)
  branches g [] top middle under labels wanted (suc k) ts same split is at b =
      let all : slice_get (t.context.results ∷ []) (suc k) ≡ Some ts = ap (λ x. slice_get x (suc k)) (sym b.1) ∙ at in
      cc all
  branches g (l ∷ ls) top middle under labels wanted zero ts same split is at b =
      let all : slice_get (b.taken ∷ b.outer) 0 ≡ Some ts = ap (λ x. slice_get x 0) (sym b.labels_are) ∙ at in
      let e : b.taken ≡ ts = cc all in
      let wide : l.arity + l.height ≤ length g.operands =
      omega (arith, ap length split, length-append top (middle ++ under), length-append middle under, ap length (is ∙ sym e), length-map top type_of, b.arity, b.height)
      in
      (going s (jumped g l ls l.again) below, (wide, refl))
  branches g (l ∷ ls) top middle under labels wanted (suc k) ts same split is at b =
      let deeper : slice_get b.outer k ≡ Some ts = ap (λ x. slice_get x (suc k)) (sym b.labels_are) ∙ at in
      branches g ls top (middle ++ b.own) b.under b.outer b.next k ts same (
      split ∙ ap (λ x. top ++ (middle ++ x)) b.split ∙ ap (λ x. top ++ x) (sym (append_assoc middle b.own b.under))
      ) is deeper b.around_it

  closes : (blocks : List OpenBlock) (labels : List Types) (wanted : Types) → types t.own ≡ wanted → BlocksTyped t.context blocks t.under labels wanted → (d : Configuration) × Closes s f below d blocks
  closes [] labels wanted is b = leaves f t.own t.under refl t.split (is ∙ b.2 ∙ t.context_results)
  closes (l ∷ ls) labels wanted is b = (going s (record f { labels = ls; rest = l.rest }) below, refl)

  -- The operands, where the frame's own are these.
  over : (own : List Val) → t.own ≡ own → f.operands ≡ own ++ t.under
  over own is = t.split ∙ ap (λ x. x ++ t.under) is

  enters : (g : Activation) (a : ℕ) (inst : FuncInst) → slice_get s.funcs a ≡ Some inst → length (type_of_inst inst).params ≤ length g.operands → (d : Configuration) × EntersInst s g below d a inst
  enters g a (Code ty instance code) there wide =
      let typed = all-get (FuncInstTyped (shape_of s)) s.funcs a (Code ty instance code) store.funcs there in
      let fn = typed.1 in
      let found : func_of s.instances (Some (Code ty instance code)) ≡ Some fn.fn = ap (λ i. func_in i code) fn.inst_there ∙ fn.fn_there in
      (_, (fn.fn, found, wide, refl))
  enters g a (Host ty) there wide = (_, (wide, refl))

  module _ (rest : Sequence) where
    -- The frame with the code after the instruction.
    abbrev after : Activation
    after = record f { rest = rest }

    nums : (op : NumOp) (b : Bool) (ins : Types) → types t.own ≡ (if b then operand_type op ∷ [] else (operand_type op ∷ operand_type op ∷ [])) ++ ins → (d : Configuration) × MatchBool b (NumOneStep s after below d op) (NumTwoStep s after below d op)
    nums op true ins is =
        let o = one t.own (operand_type op) ins is in
        (_, (o.number, o.rest ++ t.under, over (value_of (operand_type op) o.number ∷ o.rest) o.is, refl))
    nums op false ins is =
        let o = two t.own (operand_type op) (operand_type op) ins is in
        (_, (o.next, o.top, o.rest ++ t.under, over (value_of (operand_type op) o.top ∷ value_of (operand_type op) o.next ∷ o.rest) o.is, refl))

    drops : (ty : ValType) (ins : Types) → types t.own ≡ ty ∷ ins → (d : Configuration) × DropStep s after below d
    drops ty ins is =
        let o = one t.own ty ins is in
        (_, (value_of ty o.number, o.rest ++ t.under, over (value_of ty o.number ∷ o.rest) o.is, refl))

    selects : (ty : ValType) (ins : Types) → types t.own ≡ I32 ∷ ty ∷ ty ∷ ins → (d : Configuration) × SelectStep s after below d
    selects ty ins is =
        let a = one t.own I32 (ty ∷ ty ∷ ins) is in
        let o = two a.rest ty ty ins a.left in
        (_, (a.number, value_of ty o.next, value_of ty o.top, o.rest ++ t.under, over (val.I32 a.number ∷ value_of ty o.top ∷ value_of ty o.next ∷ o.rest) (a.is ∙ ap (λ r. val.I32 a.number ∷ r) o.is), refl))

    local_there : (x : ℕ) (ty : ValType) → slice_get t.context.locals x ≡ Some ty → (v : Val) × (slice_get f.locals x ≡ Some v)
    local_there x ty h =
        let v = of_get type_of f.locals x ty (ap (λ l. slice_get l x) t.locals.0 ∙ h) in
        (v.0, v.1)

    local_gets : (x : ℕ) (ty : ValType) → slice_get t.context.locals x ≡ Some ty → (d : Configuration) × LocalGetStep s after below d x
    local_gets x ty h =
        let v = local_there x ty h in
        (_, (v.0, v.1, refl))

    local_sets : (x : ℕ) (ty : ValType) (ins : Types) → slice_get t.context.locals x ≡ Some ty → types t.own ≡ ty ∷ ins → (d : Configuration) × LocalSetStep s after below d x
    local_sets x ty ins h is =
        let v = local_there x ty h in
        let o = one t.own ty ins is in
        (_, (value_of ty o.number, o.rest ++ t.under, over (value_of ty o.number ∷ o.rest) o.is, slice_get_within f.locals x v.0 v.1, refl))

    local_tees : (x : ℕ) (ty : ValType) (ins : Types) → slice_get t.context.locals x ≡ Some ty → types t.own ≡ ty ∷ ins → (d : Configuration) × LocalTeeStep s after below d x
    local_tees x ty ins h is =
        let v = local_there x ty h in
        let o = one t.own ty ins is in
        (_, (value_of ty o.number, o.rest ++ t.under, over (value_of ty o.number ∷ o.rest) o.is, slice_get_within f.locals x v.0 v.1, refl))

    global_gets : (x : ℕ) (ty : _) → slice_get t.context.globals x ≡ Some ty → (d : Configuration) × GlobalGetStep s after below d x
    global_gets x ty h =
        let g = global_there s t.inst t.context t.context_is x ty h in
        (_, (g.address, g.global, ap (λ i. address_in (λ i. i.globals) i x) t.inst_there ∙ g.address_is, g.global_is, refl))

    global_sets : (x : ℕ) (ty : _) (ins : Types) → slice_get t.context.globals x ≡ Some ty → types t.own ≡ ty.value ∷ ins → (d : Configuration) × GlobalSetStep s after below d x
    global_sets x ty ins h is =
        let g = global_there s t.inst t.context t.context_is x ty h in
        let o = one t.own ty.value ins is in
        (_, (g.address, g.global, value_of ty.value o.number, o.rest ++ t.under, ap (λ i. address_in (λ i. i.globals) i x) t.inst_there ∙ g.address_is, g.global_is, over (value_of ty.value o.number ∷ o.rest) o.is, refl))

    loads : (op : _) (offset : ℕ) (ins : Types) → 0 < length t.context.memories → types t.own ≡ I32 ∷ ins → (d : Configuration) × LoadStep s after below d op offset
    loads op offset ins some is =
        let m = memory_there s store f.instance t.inst t.context t.inst_there t.context_is some in
        let o = one t.own I32 ins is in
        (_, (m.address, m.memory, o.number, o.rest ++ t.under, ap (λ i. address_in (λ i. i.memories) i 0) t.inst_there ∙ m.address_is, m.memory_is, over (val.I32 o.number ∷ o.rest) o.is, refl))

    stores : (op : _) (offset : ℕ) (ins : Types) → 0 < length t.context.memories → types t.own ≡ stored_type op ∷ I32 ∷ ins → (d : Configuration) × StoreStep s after below d op offset
    stores op offset ins some is =
        let m = memory_there s store f.instance t.inst t.context t.inst_there t.context_is some in
        let o = two t.own (stored_type op) I32 ins is in
        (_, (m.address, m.memory, o.next, o.top, o.rest ++ t.under, ap (λ i. address_in (λ i. i.memories) i 0) t.inst_there ∙ m.address_is, m.memory_is, over (value_of (stored_type op) o.top ∷ val.I32 o.next ∷ o.rest) o.is, refl))

    sizes : 0 < length t.context.memories → (d : Configuration) × SizeStep s after below d
    sizes some =
        let m = memory_there s store f.instance t.inst t.context t.inst_there t.context_is some in
        (_, (m.address, m.memory, ap (λ i. address_in (λ i. i.memories) i 0) t.inst_there ∙ m.address_is, m.memory_is, refl))

    -- A growth may always fail.
    fails_to_grow : (ins : Types) → 0 < length t.context.memories → types t.own ≡ I32 ∷ ins → (d : Configuration) × GrowStep false s after below d
    fails_to_grow ins some is =
        let m = memory_there s store f.instance t.inst t.context t.inst_there t.context_is some in
        let o = one t.own I32 ins is in
        (_, (m.address, m.memory, o.number, o.rest ++ t.under, ap (λ i. address_in (λ i. i.memories) i 0) t.inst_there ∙ m.address_is, m.memory_is, over (val.I32 o.number ∷ o.rest) o.is, λ h. cc h, refl))

    chooses : (ty : Option ValType) (first second : Sequence) (ins : Types) → types t.own ≡ I32 ∷ ins → (d : Configuration) × IfStep s after below d ty first second
    chooses ty first second ins is =
        let o = one t.own I32 ins is in
        (_, (o.number, o.rest ++ t.under, over (val.I32 o.number ∷ o.rest) o.is, refl))

    -- A branch with these operands on top of the frame's own.
    jumps : (g : Activation) (own : List Val) (k : ℕ) (ts ins : Types) → g.func ≡ f.func → g.operands ≡ own ++ t.under → types own ≡ ts ++ ins → slice_get t.labels k ≡ Some ts → (d : Configuration) × Branches s g below d f.labels k
    jumps g own k ts ins same split is at =
        let p = of_append type_of own ts ins is in
        branches g f.labels p.left p.right t.under t.labels t.wanted k ts same (split ∙ ap (λ x. x ++ t.under) p.is ∙ append_assoc p.left p.right t.under) p.left_is at t.blocks

    branches_if : (k : ℕ) (ts ins : Types) → types t.own ≡ I32 ∷ (ts ++ ins) → slice_get t.labels k ≡ Some ts → (d : Configuration) × BrIfStep s after below d k
    branches_if k ts ins is at =
        let o = one t.own I32 (ts ++ ins) is in
        let g : Activation = with_operands after (o.rest ++ t.under) in
        let goes = jumps g o.rest k ts ins refl refl o.left at in
        let if_so : (n : ℕ) → (d : Configuration) × BranchesIf s g below d k n = elim [ zero ↦ (going s g below, refl) | suc n ↦ goes ] in
        let r = if_so o.number in
        (r.0, (o.number, o.rest ++ t.under, over (val.I32 o.number ∷ o.rest) o.is, r.1))

    target : (ks : List ℕ) (k : ℕ) (ts : Types) (c : ℕ) (o : Option ℕ) → slice_get ks c ≡ o → slice_get t.labels k ≡ Some ts → All (λ k. slice_get t.labels k ≡ Some ts) ks → slice_get t.labels (unwrap_or o k) ≡ Some ts
    target ks k ts c None h at all = at
    target ks k ts c (Some j) h at all = all-get (λ k. slice_get t.labels k ≡ Some ts) ks c j all h

    branches_by_table : (ks : List ℕ) (k : ℕ) (ts ins : Types) → types t.own ≡ I32 ∷ (ts ++ ins) → slice_get t.labels k ≡ Some ts → All (λ k. slice_get t.labels k ≡ Some ts) ks → (d : Configuration) × BrTableStep s after below d ks k
    branches_by_table ks k ts ins is at all =
        let o = one t.own I32 (ts ++ ins) is in
        let g : Activation = with_operands after (o.rest ++ t.under) in
        let r = jumps g o.rest (unwrap_or (slice_get ks o.number) k) ts ins refl refl o.left (target ks k ts o.number (slice_get ks o.number) refl at all) in
        (r.0, (o.number, o.rest ++ t.under, over (val.I32 o.number ∷ o.rest) o.is, r.1))

    calls : (x : ℕ) (ty : FuncType) (ins : Types) → slice_get t.context.funcs x ≡ Some ty → types t.own ≡ reverse ty.params ++ ins → (d : Configuration) × CallStep s after below d x
    calls x ty ins h is =
        let a = func_there s t.inst t.context t.context_is x ty h in
        let enough : length (type_of_inst a.inst).params ≤ length f.operands =
        subst (λ (y : FuncType). length y.params ≤ length f.operands) (sym a.type_is) (wide f.operands t.own t.under ty.params ins t.split is)
        in
        let e = enters after a.address a.inst a.inst_there enough in
        (e.0, (a.address, ap (λ i. address_in (λ i. i.funcs) i x) t.inst_there ∙ a.address_is, (a.inst, a.inst_there, e.1)))

    calls_inst : (g : Activation) (a : ℕ) (inst : FuncInst) (ty : FuncType) (b : Bool) → slice_get s.funcs a ≡ Some inst → length ty.params ≤ length g.operands → is_same_func_type (type_of_inst inst) ty ≡ b → (d : Configuration) × CallsInst s g below d a inst b
    calls_inst g a inst ty true there enough same =
        enters g a inst there (subst (λ (y : FuncType). length y.params ≤ length g.operands) (sym (types-eq (type_of_inst inst) ty same)) enough)
    calls_inst g a inst ty false there enough same = (trapped s, refl)

    calls_entry : (g : Activation) (ty : FuncType) (entry : Option ℕ) → length ty.params ≤ length g.operands → IfSome entry (λ a. a < length s.funcs) → (d : Configuration) × CallsEntry s g below d ty entry
    calls_entry g ty None enough known = (trapped s, refl)
    calls_entry g ty (Some a) enough known =
        let inst = there s.funcs a known in
        let r = calls_inst g a inst.0 ty (is_same_func_type (type_of_inst inst.0) ty) inst.1 enough refl in
        (r.0, (inst.0, inst.1, r.1))

    entry_known : (table : TableInst) (c : ℕ) (o : Option (Option ℕ)) → All (λ entry. IfSome entry (λ a. a < length s.funcs)) table.entries → slice_get table.entries c ≡ o → IfSome (option_and_then (λ entry. entry) o) (λ a. a < length s.funcs)
    entry_known table c None all h = tt
    entry_known table c (Some entry) all h = all-get (λ entry. IfSome entry (λ a. a < length s.funcs)) table.entries c entry all h

    calls_indirect : (x : ℕ) (ty : FuncType) (ins : Types) → 0 < length t.context.tables → slice_get t.context.types x ≡ Some ty → types t.own ≡ I32 ∷ (reverse ty.params ++ ins) → (d : Configuration) × CallIndirectStep s after below d x
    calls_indirect x ty ins some h is =
        let o = one t.own I32 (reverse ty.params ++ ins) is in
        let table = table_there s store f.instance t.inst t.context t.inst_there t.context_is some in
        let typed = all-get (TableTyped (shape_of s)) s.tables table.address table.table store.tables table.table_is in
        let operands = o.rest ++ t.under in
        let enough : length ty.params ≤ length operands = wide operands o.rest t.under ty.params ins refl o.left in
        let known = entry_known table.table o.number (slice_get table.table.entries o.number) typed.entries refl in
        let r = calls_entry (with_operands after operands) ty (entry_at table.table o.number) enough known in
        (r.0, (t.inst, ty, table.address, table.table, o.number, operands, t.inst_there, ap (λ l. slice_get l x) (sym t.context_is.types) ∙ h, table.address_is, table.table_is, over (val.I32 o.number ∷ o.rest) o.is, r.1))

    plain_goes : (op : Plain) (mid : Types) → PlainTyped t.context op (types t.own) mid → (d : Configuration) × PlainStep false s after below d op
    plain_goes Unreachable mid h = (trapped s, refl)
    plain_goes Nop mid h = (going s after below, refl)
    plain_goes Return mid h =
        let p = of_append type_of t.own t.context.results h.0 h.1 in
        leaves after p.left (p.right ++ t.under) refl (t.split ∙ ap (λ x. x ++ t.under) p.is ∙ append_assoc p.left p.right t.under) (p.left_is ∙ t.context_results)
    plain_goes Drop mid h = drops h.0 h.1.0 h.1.1
    plain_goes Select mid h = selects h.0 h.1.0 h.1.1
    plain_goes MemorySize mid h = sizes h.0
    plain_goes MemoryGrow mid h = fails_to_grow h.1.0 h.0 h.1.1

    goes : (i : Instruction) (mid : Types) → InstructionTyped t.context t.labels i (types t.own) mid → (d : Configuration) × InstructionStep false s after below d i
    goes (tree.Plain op) mid h = plain_goes op mid h
    goes (tree.Num op) mid h = nums op (num_operands op == 1) h.0 h.1
    goes (tree.Const value) mid h = (going s (pushed after value) below, refl)
    goes (tree.LocalGet x) mid h = local_gets x h.0 h.1
    goes (tree.LocalSet x) mid h = local_sets x h.0 h.2.0 h.1 h.2.1
    goes (tree.LocalTee x) mid h = local_tees x h.0 h.2.0 h.1 h.2.1
    goes (tree.GlobalGet x) mid h = global_gets x h.0 h.1
    goes (tree.GlobalSet x) mid h = global_sets x h.0 h.3.0 h.1 h.3.1
    goes (tree.Load op align offset) mid h = loads op offset h.2.0 h.0 h.2.1
    goes (tree.Store op align offset) mid h = stores op offset h.2.0 h.0 h.2.1
    goes (tree.Block ty body) mid h = (_, refl)
    goes (tree.Loop ty body) mid h = (_, refl)
    goes (tree.If ty first) mid h = chooses ty first Empty h.2.0 h.2.1
    goes (IfElse ty first second) mid h = chooses ty first second h.2.0 h.2.1
    goes (tree.Br k) mid h = jumps after t.own k h.0 h.2.0 refl t.split h.2.1 h.1
    goes (tree.BrIf k) mid h = branches_if k h.0 h.2.0 h.2.1 h.1
    goes (tree.BrTable ks k) mid h = branches_by_table ks k h.0 h.3.0 h.3.1 h.1 h.2
    goes (tree.Call x) mid h = calls x h.0 h.2.0 h.1 h.2.1
    goes (tree.CallIndirect x) mid h = calls_indirect x h.1.0 h.1.2.0 h.0 h.1.1 h.1.2.1

  code_goes : (code : Sequence) → SequenceTyped t.context t.labels code (types t.own) t.wanted → (d : Configuration) × Moves false s f below d code
  code_goes Empty h = closes f.labels t.labels t.wanted h t.blocks
  code_goes (Then i rest) h = goes rest i h.0 h.1

top_goes : (s : Store) (frames : List Layer) → StoreTyped s → LayersTyped (shape_of s) frames [] → HasCodeOnTop frames → (d : Configuration) × TopMoves false s frames d
top_goes s [] store ls h = elim h [ ]
top_goes s (OfCode f ∷ below) store ls h = code_goes s store f ls.0 below ls.1 f.rest ls.1.typed.0
top_goes s (OfHost func args given ∷ below) store ls h = elim h [ ]

pub progress : Progress
progress c typed running top =
    let h = top_goes c.store c.frames typed.store typed.frames top in
    (h.0, (false, (running, h.1)))
