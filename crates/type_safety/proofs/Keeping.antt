-- Instructions without instructions in them keep typings.
use Rattle.std.proofs.Common.{◌≡◌, ℕ, zero, suc, ◌+◌, ◌^◌, ◌<◌, ◌≤◌, ◌==◌, if◌then◌else◌, Bool, true, false, IsTrue, MatchBool, List, [], ◌∷◌, ◌++◌, Option, Some, None, IfSome, option_map, unwrap_or, All, length, set, slice_get, drop, refl, sym, ap, subst, ◌∙◌, arith, append_assoc, leb-true}
use Rattle.std.proofs.lemmas.List.{map-set}
use Rattle.std.proofs.lemmas.List.Elements.{All-cons, All-head, All-tail, All-set, All-take, All-drop}
use Rattle.wasm_values.specs.declared.number.NumOp.{NumOp}
use Rattle.wasm_values.specs.declared.number.Val.{Val}
use Rattle.wasm_values.specs.declared.number.Val.TheVariants as val
use Rattle.wasm_values.specs.declared.number.ValType.{ValType}
use Rattle.wasm_values.specs.declared.number.ValType.TheVariants.{I32}
use Rattle.wasm_values.specs.Operators.{type_of, value_of, width_of, operand_type, result_type, num_unary, num_binary, bytes_of_number}
use Rattle.wasm_values.proofs.ByteLaws.{length-bytes_of_number}
use Rattle.wasm_syntax.specs.declared.instr.LoadOp.{LoadOp}
use Rattle.wasm_syntax.specs.declared.instr.StoreOp.{StoreOp}
use Rattle.wasm_syntax.specs.declared.module.GlobalType.{GlobalType}
use Rattle.wasm_syntax.specs.Trees.{Sequence}
use Rattle.wasm_typing.specs.Typing.{Types, SequenceTyped}
use Rattle.wasm_typing.specs.Valid.{ValInRange, SequenceInRange}
use Rattle.wasm_store.specs.declared.store.FuncInst.TheVariants.{Code}
use Rattle.wasm_store.specs.declared.store.MemInst.{MemInst}
use Rattle.wasm_store.specs.declared.store.GlobalInst.{GlobalInst}
use Rattle.wasm_store.specs.declared.store.Store.{Store}
use Rattle.wasm_store.specs.Configuration.{Activation, Layer, Configuration, going, trapped, address_in}
use Rattle.wasm_store.specs.Numeric.{computed, NumOneStep, NumTwoStep, DropStep, SelectStep, LocalGetStep, LocalSetStep, LocalTeeStep, with_global, GlobalGetStep, GlobalSetStep}
use Rattle.wasm_syntax.specs.Accesses.{loaded_type, bytes_loaded, stored_type, bytes_stored}
use Rattle.wasm_store.specs.Memory.{value_loaded, items_at, overwritten, is_within, pages_of, with_bytes, can_grow, grown_bytes, LoadStep, StoreStep, SizeStep, GrowStep, grown}
use Rattle.wasm_store.specs.Control.{Leaves, Branches, BranchesIf, BrIfStep, BrTableStep}
use Rattle.type_safety.specs.Shapes.{types, HaveTypes, Shape, shape_of}
use Rattle.type_safety.specs.Stores.{MemoryTyped, GlobalTyped, StoreTyped}
use Rattle.type_safety.specs.Frames.{CodeTyped, FrameTyped, LayersTyped}
use Rattle.type_safety.specs.Typed.{Typed}
use Rattle.type_safety.proofs.Lists.{of_cons, of_append, get-map, all-get, same_some, set_same, chosen_has}
use Rattle.type_safety.proofs.Lookups.{global_there}
use Rattle.type_safety.proofs.Ranges.{type_of-value_of, value_in_range, unary_in_range, binary_in_range, loaded_in_range}
use Rattle.type_safety.proofs.Memories.{bytes_of_number-bytes, length-items_at, overwritten_typed, pages_are, grown_typed, shape-with_bytes, with_bytes_typed, shape-with_global, with_global_typed}
use Rattle.type_safety.proofs.Frames.{goes_on, going_typed, trapped_typed, leaves_typed}
use Rattle.type_safety.proofs.Branching.{branch_typed}

-- The topmost operand, and those below it, where the frame's own end with `under`.
pub record Popped (under : List Val) (v : Val) (operands : List Val) (ty : ValType) (ins : Types) : Type 0 where
  pub rest : List Val
  pub is : operands ≡ rest ++ under
  pub fits : type_of v ≡ ty
  pub left : types rest ≡ ins
  pub fine : ValInRange v
  pub ok : All ValInRange operands

pub popped : (under own ops : List Val) (v : Val) (operands : List Val) (ty : ValType) (ins : Types) → ops ≡ own ++ under → All ValInRange ops → ops ≡ v ∷ operands → types own ≡ ty ∷ ins → Popped under v operands ty ins
popped under own ops v operands ty ins split ranges top is =
    let c = of_cons type_of own ty ins is in
    let all : v ∷ operands ≡ c.first ∷ (c.rest ++ under) = sym top ∙ split ∙ ap (λ x. x ++ under) c.is in
    let same : v ≡ c.first = cc all in
    let ranged : All ValInRange (v ∷ operands) = subst (All ValInRange) top ranges in
    record {
      rest = c.rest;
      is = cc all;
      fits = ap type_of same ∙ c.first_is;
      left = c.rest_is;
      fine = All-head ValInRange v operands ranged;
      ok = All-tail ValInRange v operands ranged;
    }

module _ (s : Store) (store : StoreTyped s) (f : Activation) (results : Types) (t : FrameTyped (shape_of s) f [] results) (below : List Layer) (layers : LayersTyped (shape_of s) below results) (d : Configuration) (rest : Sequence) (mid : Types) (typed : SequenceTyped t.context t.labels rest mid t.wanted) (range : SequenceInRange rest) where
  -- The frame goes on, in a store of the same shape, with other locals and operands.
  continues : (s' : Store) → StoreTyped s' → shape_of s' ≡ shape_of s → (locals operands own : List Val) → HaveTypes locals t.context.locals → All ValInRange operands → operands ≡ own ++ t.under → mid ≡ types own → d ≡ going s' (record f { locals = locals; operands = operands; rest = rest }) below → Typed d
  continues s' store' same locals operands own have ok split is h =
      let g : Activation = record f { locals = locals; operands = operands; rest = rest } in
      let code : CodeTyped t.context t.labels rest (types own) t.wanted = (subst (λ (x : Types). SequenceTyped t.context t.labels rest x t.wanted) is typed, range) in
      let frame : FrameTyped (shape_of s) g [] results = goes_on (shape_of s) f [] results t locals operands f.labels rest own t.under t.labels t.wanted [] have ok split code t.blocks in
      subst Typed (sym h) (
      going_typed s' store' g below results (subst (λ (x : Shape). FrameTyped x g [] results) (sym same) frame) (subst (λ (x : Shape). LayersTyped x below results) (sym same) layers)
      )

  -- The same in the same store with the same locals.
  stays : (operands own : List Val) → All ValInRange operands → operands ≡ own ++ t.under → mid ≡ types own → d ≡ going s (record f { operands = operands; rest = rest }) below → Typed d
  stays operands own ok split is h = continues s store refl f.locals operands own t.locals ok split is h

  -- The same with one value pushed.
  pushes : (v : Val) (ty : ValType) (operands own : List Val) (ins : Types) → type_of v ≡ ty → ValInRange v → All ValInRange operands → operands ≡ own ++ t.under → types own ≡ ins → mid ≡ ty ∷ ins → d ≡ going s (record f { operands = v ∷ operands; rest = rest }) below → Typed d
  pushes v ty operands own ins fits fine ok split left is h =
      stays (v ∷ operands) (v ∷ own) (All-cons ValInRange v operands fine ok) (ap (λ x. v ∷ x) split) (
      is ∙ ap (λ x. x ∷ ins) (sym fits) ∙ ap (λ x. type_of v ∷ x) (sym left)
      ) h

  traps : d ≡ trapped s → Typed d
  traps h = subst Typed (sym h) (trapped_typed s store)

  pub keeps_nop : (ins : Types) → types t.own ≡ ins → mid ≡ ins → d ≡ going s (record f { rest = rest }) below → Typed d
  keeps_nop ins is out h = stays f.operands t.own t.ranges t.split (out ∙ sym is) h

  pub keeps_const : (v : Val) (ins : Types) → ValInRange v → types t.own ≡ ins → mid ≡ type_of v ∷ ins → d ≡ going s (record f { operands = v ∷ f.operands; rest = rest }) below → Typed d
  keeps_const v ins fine is out h = pushes v (type_of v) f.operands t.own ins refl fine t.ranges t.split is out h

  pops : (v : Val) (operands : List Val) (ty : ValType) (ins : Types) → f.operands ≡ v ∷ operands → types t.own ≡ ty ∷ ins → Popped t.under v operands ty ins
  pops v operands ty ins top is = popped t.under t.own f.operands v operands ty ins t.split t.ranges top is

  -- ---- numeric and parametric instructions

  computes : (op : NumOp) (operands own : List Val) (ins : Types) (o : Option ℕ) → IfSome o (λ r. r < 2 ^ width_of (result_type op)) → All ValInRange operands → operands ≡ own ++ t.under → types own ≡ ins → mid ≡ result_type op ∷ ins → d ≡ computed s (record f { rest = rest }) below operands (option_map (value_of (result_type op)) o) → Typed d
  computes op operands own ins None fine ok split left is h = traps h
  computes op operands own ins (Some r) fine ok split left is h =
      pushes (value_of (result_type op) r) (result_type op) operands own ins (type_of-value_of (result_type op) r) (value_in_range (result_type op) r fine) ok split left is h

  pub keeps_num : (op : NumOp) (b : Bool) (ins : Types) → types t.own ≡ (if b then operand_type op ∷ [] else (operand_type op ∷ operand_type op ∷ [])) ++ ins → mid ≡ result_type op ∷ ins → MatchBool b (NumOneStep s (record f { rest = rest }) below d op) (NumTwoStep s (record f { rest = rest }) below d op) → Typed d
  keeps_num op true ins is out h =
      let p = pops (value_of (operand_type op) h.0) h.1 (operand_type op) ins h.2 is in
      pushes (value_of (result_type op) (num_unary op h.0)) (result_type op) h.1 p.rest ins (type_of-value_of (result_type op) (num_unary op h.0)) (unary_in_range op h.0 p.fine) p.ok p.is p.left out h.3
  keeps_num op false ins is out h =
      let v = value_of (operand_type op) h.1 in
      let w = value_of (operand_type op) h.0 in
      let p = pops v (w ∷ h.2) (operand_type op) (operand_type op ∷ ins) h.3 is in
      let q = popped t.under p.rest (w ∷ h.2) w h.2 (operand_type op) ins p.is p.ok refl p.left in
      computes op h.2 q.rest ins (num_binary op h.0 h.1) (binary_in_range op h.0 h.1 q.fine p.fine) q.ok q.is q.left out h.4

  pub keeps_drop : (ty : ValType) (ins : Types) → types t.own ≡ ty ∷ ins → mid ≡ ins → DropStep s (record f { rest = rest }) below d → Typed d
  keeps_drop ty ins is out h =
      let p = pops h.0 h.1 ty ins h.2 is in
      stays h.1 p.rest p.ok p.is (out ∙ sym p.left) h.3

  pub keeps_select : (ty : ValType) (ins : Types) → types t.own ≡ I32 ∷ ty ∷ ty ∷ ins → mid ≡ ty ∷ ins → SelectStep s (record f { rest = rest }) below d → Typed d
  keeps_select ty ins is out h =
      let p = pops (val.I32 h.0) (h.2 ∷ h.1 ∷ h.3) I32 (ty ∷ ty ∷ ins) h.4 is in
      let q = popped t.under p.rest (h.2 ∷ h.1 ∷ h.3) h.2 (h.1 ∷ h.3) ty (ty ∷ ins) p.is p.ok refl p.left in
      let r = popped t.under q.rest (h.1 ∷ h.3) h.1 h.3 ty ins q.is q.ok refl q.left in
      let v = if h.0 == 0 then h.2 else h.1 in
      pushes v ty h.3 r.rest ins (chosen_has (λ v. type_of v ≡ ty) (h.0 == 0) h.2 h.1 q.fits r.fits) (chosen_has ValInRange (h.0 == 0) h.2 h.1 q.fine r.fine) r.ok r.is r.left out h.5

  -- ---- variables

  pub keeps_local_get : (x : ℕ) (ty : ValType) (ins : Types) → slice_get t.context.locals x ≡ Some ty → types t.own ≡ ins → mid ≡ ty ∷ ins → LocalGetStep s (record f { rest = rest }) below d x → Typed d
  keeps_local_get x ty ins at is out h =
      let fits : type_of h.0 ≡ ty = same_some (slice_get (types f.locals) x) (type_of h.0) ty (get-map type_of f.locals x h.0 h.1) (ap (λ l. slice_get l x) t.locals.0 ∙ at) in
      pushes h.0 ty f.operands t.own ins fits (all-get ValInRange f.locals x h.0 t.locals.1 h.1) t.ranges t.split is out h.2

  written : (x : ℕ) (v : Val) (ty : ValType) → slice_get t.context.locals x ≡ Some ty → type_of v ≡ ty → ValInRange v → HaveTypes (set f.locals x v) t.context.locals
  written x v ty at fits fine =
      let there : slice_get (types f.locals) x ≡ Some (type_of v) = ap (λ l. slice_get l x) t.locals.0 ∙ at ∙ ap (λ y. Some y) (sym fits) in
      (map-set type_of f.locals x v ∙ set_same (types f.locals) x (type_of v) there ∙ t.locals.0, All-set ValInRange f.locals x v fine t.locals.1)

  pub keeps_local_set : (x : ℕ) (ty : ValType) (ins : Types) → slice_get t.context.locals x ≡ Some ty → types t.own ≡ ty ∷ ins → mid ≡ ins → LocalSetStep s (record f { rest = rest }) below d x → Typed d
  keeps_local_set x ty ins at is out h =
      let p = pops h.0 h.1 ty ins h.2 is in
      continues s store refl (set f.locals x h.0) h.1 p.rest (written x h.0 ty at p.fits p.fine) p.ok p.is (out ∙ sym p.left) h.4

  pub keeps_local_tee : (x : ℕ) (ty : ValType) (ins : Types) → slice_get t.context.locals x ≡ Some ty → types t.own ≡ ty ∷ ins → mid ≡ ty ∷ ins → LocalTeeStep s (record f { rest = rest }) below d x → Typed d
  keeps_local_tee x ty ins at is out h =
      let p = pops h.0 h.1 ty ins h.2 is in
      continues s store refl (set f.locals x h.0) f.operands t.own (written x h.0 ty at p.fits p.fine) t.ranges t.split (out ∙ sym is) h.4

  -- The global that a step names has the type of the context.
  global_fits : (x : ℕ) (ty : GlobalType) (a : ℕ) (g : GlobalInst) → slice_get t.context.globals x ≡ Some ty → address_in (λ i. i.globals) (slice_get s.instances f.instance) x ≡ Some a → slice_get s.globals a ≡ Some g → g.ty ≡ ty
  global_fits x ty a g at address there =
      let known = global_there s t.inst t.context t.context_is x ty at in
      let mine : slice_get t.inst.globals x ≡ Some a = sym (ap (λ i. address_in (λ i. i.globals) i x) t.inst_there) ∙ address in
      let same : a ≡ known.address = same_some (slice_get t.inst.globals x) a known.address mine known.address_is in
      let found : slice_get s.globals a ≡ Some known.global = ap (slice_get s.globals) same ∙ known.global_is in
      ap (λ (y : GlobalInst). y.ty) (same_some (slice_get s.globals a) g known.global there found) ∙ known.type_is

  pub keeps_global_get : (x : ℕ) (ty : GlobalType) (ins : Types) → slice_get t.context.globals x ≡ Some ty → types t.own ≡ ins → mid ≡ ty.value ∷ ins → GlobalGetStep s (record f { rest = rest }) below d x → Typed d
  keeps_global_get x ty ins at is out h =
      let g = all-get GlobalTyped s.globals h.0 h.1 store.globals h.3 in
      let fits : type_of h.1.value ≡ ty.value = g.0 ∙ ap (λ (y : GlobalType). y.value) (global_fits x ty h.0 h.1 at h.2 h.3) in
      pushes h.1.value ty.value f.operands t.own ins fits g.1 t.ranges t.split is out h.4

  pub keeps_global_set : (x : ℕ) (ty : GlobalType) (ins : Types) → slice_get t.context.globals x ≡ Some ty → types t.own ≡ ty.value ∷ ins → mid ≡ ins → GlobalSetStep s (record f { rest = rest }) below d x → Typed d
  keeps_global_set x ty ins at is out h =
      let p = pops h.2 h.3 ty.value ins h.6 is in
      let fits : type_of h.2 ≡ h.1.ty.value = p.fits ∙ ap (λ (y : GlobalType). y.value) (sym (global_fits x ty h.0 h.1 at h.4 h.5)) in
      continues (with_global s h.0 h.1 h.2) (with_global_typed s h.0 h.1 h.2 h.5 store fits p.fine) (shape-with_global s h.0 h.1 h.2 h.5) f.locals h.3 p.rest t.locals p.ok p.is (out ∙ sym p.left) h.7

  -- ---- memory

  loads : (op : LoadOp) (mem : MemInst) (at : ℕ) (operands own : List Val) (ins : Types) (b : Bool) → is_within mem.bytes at (bytes_loaded op) ≡ b → MemoryTyped mem → All ValInRange operands → operands ≡ own ++ t.under → types own ≡ ins → mid ≡ loaded_type op ∷ ins → d ≡ (if b then going s (record f { operands = value_loaded op (items_at mem.bytes at (bytes_loaded op)) ∷ operands; rest = rest }) below else trapped s) → Typed d
  loads op mem at operands own ins true here m ok split left out h =
      let bytes = items_at mem.bytes at (bytes_loaded op) in
      let all = All-take (λ b. b < 256) (bytes_loaded op) (drop at mem.bytes) (All-drop (λ b. b < 256) at mem.bytes m.bytes) in
      pushes (value_loaded op bytes) (loaded_type op) operands own ins (type_of-value_of (loaded_type op) _) (loaded_in_range op bytes all (length-items_at mem.bytes at (bytes_loaded op) here)) ok split left out h
  loads op mem at operands own ins false here m ok split left out h = traps h

  pub keeps_load : (op : LoadOp) (offset : ℕ) (ins : Types) → types t.own ≡ I32 ∷ ins → mid ≡ loaded_type op ∷ ins → LoadStep s (record f { rest = rest }) below d op offset → Typed d
  keeps_load op offset ins is out h =
      let p = pops (val.I32 h.2) h.3 I32 ins h.6 is in
      let m = all-get MemoryTyped s.memories h.0 h.1 store.memories h.5 in
      loads op h.1 (h.2 + offset) h.3 p.rest ins (is_within h.1.bytes (h.2 + offset) (bytes_loaded op)) refl m p.ok p.is p.left out h.7

  stores : (op : StoreOp) (a : ℕ) (mem : MemInst) (at value : ℕ) (operands own : List Val) (ins : Types) (b : Bool) → is_within mem.bytes at (bytes_stored op) ≡ b → MemoryTyped mem → All ValInRange operands → operands ≡ own ++ t.under → types own ≡ ins → mid ≡ ins → d ≡ (if b then going (with_bytes s a mem (overwritten mem.bytes at (bytes_of_number (bytes_stored op) value))) (record f { operands = operands; rest = rest }) below else trapped s) → Typed d
  stores op a mem at value operands own ins true here m ok split left out h =
      let new = bytes_of_number (bytes_stored op) value in
      let long : at + bytes_stored op ≤ length mem.bytes = leb-true (at + bytes_stored op) (length mem.bytes) here in
      let fits : at + length new ≤ length mem.bytes = subst (λ k. at + k ≤ length mem.bytes) (sym (length-bytes_of_number (bytes_stored op) value)) long in
      let bytes = overwritten mem.bytes at new in
      continues (with_bytes s a mem bytes) (with_bytes_typed s a mem bytes store (overwritten_typed mem at new m (bytes_of_number-bytes (bytes_stored op) value) fits)) (shape-with_bytes s a mem bytes) f.locals operands own t.locals ok split (out ∙ sym left) h
  stores op a mem at value operands own ins false here m ok split left out h = traps h

  pub keeps_store : (op : StoreOp) (offset : ℕ) (ins : Types) → types t.own ≡ stored_type op ∷ I32 ∷ ins → mid ≡ ins → StoreStep s (record f { rest = rest }) below d op offset → Typed d
  keeps_store op offset ins is out h =
      let p = pops (value_of (stored_type op) h.3) (val.I32 h.2 ∷ h.4) (stored_type op) (I32 ∷ ins) h.7 is in
      let q = popped t.under p.rest (val.I32 h.2 ∷ h.4) (val.I32 h.2) h.4 I32 ins p.is p.ok refl p.left in
      let m = all-get MemoryTyped s.memories h.0 h.1 store.memories h.6 in
      stores op h.0 h.1 (h.2 + offset) h.3 h.4 q.rest ins (is_within h.1.bytes (h.2 + offset) (bytes_stored op)) refl m q.ok q.is q.left out h.8

  -- The number of a memory's pages is a number of 32 bits.
  pages_in_range : (a : ℕ) (mem : MemInst) → slice_get s.memories a ≡ Some mem → pages_of mem < 2 ^ 32
  pages_in_range a mem there =
      let m = all-get MemoryTyped s.memories a mem store.memories there in
      omega (arith, pages_are mem m, m.few)

  pub keeps_size : (ins : Types) → types t.own ≡ ins → mid ≡ I32 ∷ ins → SizeStep s (record f { rest = rest }) below d → Typed d
  keeps_size ins is out h =
      pushes (val.I32 (pages_of h.1)) I32 f.operands t.own ins refl (pages_in_range h.0 h.1 h.3) t.ranges t.split is out h.4

  grows : (b : Bool) (a : ℕ) (mem : MemInst) (pages : ℕ) (operands own : List Val) (ins : Types) → slice_get s.memories a ≡ Some mem → (IsTrue b → IsTrue (can_grow mem pages)) → All ValInRange operands → operands ≡ own ++ t.under → types own ≡ ins → mid ≡ I32 ∷ ins → d ≡ grown b s (record f { rest = rest }) below operands a mem pages → Typed d
  grows true a mem pages operands own ins there can ok split left out h =
      let m = all-get MemoryTyped s.memories a mem store.memories there in
      let bytes = grown_bytes mem pages in
      let v = val.I32 (pages_of mem) in
      continues (with_bytes s a mem bytes) (with_bytes_typed s a mem bytes store (grown_typed mem pages m (can refl))) (shape-with_bytes s a mem bytes) f.locals (v ∷ operands) (v ∷ own) t.locals (
      All-cons ValInRange v operands (pages_in_range a mem there) ok
      ) (ap (λ x. v ∷ x) split) (out ∙ ap (λ x. I32 ∷ x) (sym left)) h
  grows false a mem pages operands own ins there can ok split left out h =
      pushes (val.I32 4294967295) I32 operands own ins refl (omega arith) ok split left out h

  pub keeps_grow : (b : Bool) (ins : Types) → types t.own ≡ I32 ∷ ins → mid ≡ I32 ∷ ins → GrowStep b s (record f { rest = rest }) below d → Typed d
  keeps_grow b ins is out h =
      let p = pops (val.I32 h.2) h.3 I32 ins h.6 is in
      grows b h.0 h.1 h.2 h.3 p.rest ins h.5 h.7 p.ok p.is p.left out h.8

  -- ---- branches

  pub keeps_branch : (operands own : List Val) (k : ℕ) (ts ins : Types) → All ValInRange operands → operands ≡ own ++ t.under → types own ≡ ts ++ ins → slice_get t.labels k ≡ Some ts → Branches s (record f { operands = operands; rest = rest }) below d f.labels k → Typed d
  keeps_branch operands own k ts ins ok split is at h =
      let p = of_append type_of own ts ins is in
      branch_typed s store f results t below layers d operands rest ok f.labels p.left p.right t.under t.labels t.wanted k ts (split ∙ ap (λ x. x ++ t.under) p.is ∙ append_assoc p.left p.right t.under) p.left_is at t.blocks h

  branches_if : (operands own : List Val) (k : ℕ) (ts ins : Types) (c : ℕ) → All ValInRange operands → operands ≡ own ++ t.under → types own ≡ ts ++ ins → slice_get t.labels k ≡ Some ts → mid ≡ ts ++ ins → BranchesIf s (record f { operands = operands; rest = rest }) below d k c → Typed d
  branches_if operands own k ts ins zero ok split is at out h = stays operands own ok split (out ∙ sym is) h
  branches_if operands own k ts ins (suc c) ok split is at out h = keeps_branch operands own k ts ins ok split is at h

  pub keeps_br_if : (k : ℕ) (ts ins : Types) → types t.own ≡ I32 ∷ (ts ++ ins) → slice_get t.labels k ≡ Some ts → mid ≡ ts ++ ins → BrIfStep s (record f { rest = rest }) below d k → Typed d
  keeps_br_if k ts ins is at out h =
      let p = pops (val.I32 h.0) h.1 I32 (ts ++ ins) h.2 is in
      branches_if h.1 p.rest k ts ins h.0 p.ok p.is p.left at out h.3

  target : (ks : List ℕ) (k : ℕ) (ts : Types) (c : ℕ) (o : Option ℕ) → slice_get ks c ≡ o → slice_get t.labels k ≡ Some ts → All (λ k. slice_get t.labels k ≡ Some ts) ks → slice_get t.labels (unwrap_or o k) ≡ Some ts
  target ks k ts c None h at all = at
  target ks k ts c (Some j) h at all = all-get (λ k. slice_get t.labels k ≡ Some ts) ks c j all h

  pub keeps_br_table : (ks : List ℕ) (k : ℕ) (ts ins : Types) → types t.own ≡ I32 ∷ (ts ++ ins) → slice_get t.labels k ≡ Some ts → All (λ k. slice_get t.labels k ≡ Some ts) ks → BrTableStep s (record f { rest = rest }) below d ks k → Typed d
  keeps_br_table ks k ts ins is at all h =
      let p = pops (val.I32 h.0) h.1 I32 (ts ++ ins) h.2 is in
      keeps_branch h.1 p.rest (unwrap_or (slice_get ks h.0) k) ts ins p.ok p.is p.left (target ks k ts h.0 (slice_get ks h.0) refl at all) h.3

  pub keeps_return : (ins : Types) → types t.own ≡ t.context.results ++ ins → Leaves s (record f { rest = rest }) below d → Typed d
  keeps_return ins is h =
      let p = of_append type_of t.own t.context.results ins is in
      leaves_typed s store (record f { rest = rest }) below d results (Code t.ty f.instance t.code) p.left (p.right ++ t.under) t.func_there t.results_are t.ranges (t.split ∙ ap (λ x. x ++ t.under) p.is ∙ append_assoc p.left p.right t.under) (p.left_is ∙ t.context_results) layers h
