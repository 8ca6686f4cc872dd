-- Calls keep typings.
use Rattle.std.proofs.Common.{◌≡◌, ℕ, Bool, true, false, List, [], ◌∷◌, ◌++◌, Option, Some, None, All, length, map, take, drop, reverse, slice_get, refl, sym, ap, subst, ◌∙◌, arith, append_assoc}
use Rattle.std.proofs.lemmas.List.{map-append, length-map, length-reverse, reverse-reverse, take_at, drop_at}
use Rattle.std.proofs.lemmas.List.Elements.{All-nil, All-cons, All-append, All-take, All-drop}
use Rattle.wasm_values.specs.declared.number.Val.{Val}
use Rattle.wasm_values.specs.declared.number.Val.TheVariants as val
use Rattle.wasm_values.specs.declared.number.ValType.{ValType}
use Rattle.wasm_values.specs.declared.number.ValType.TheVariants.{I32, I64}
use Rattle.wasm_values.specs.Operators.{type_of, value_of}
use Rattle.wasm_syntax.specs.declared.module.FuncType.{FuncType}
use Rattle.wasm_syntax.specs.declared.module.Func.{Func}
use Rattle.wasm_syntax.specs.Trees.{Sequence, sequence_of}
use Rattle.wasm_typing.specs.Typing.{Types, SequenceTyped}
use Rattle.wasm_typing.specs.Valid.{ValInRange, SequenceInRange}
use Rattle.wasm_store.specs.declared.store.FuncInst.{FuncInst}
use Rattle.wasm_store.specs.declared.store.FuncInst.TheVariants.{Code, Host}
use Rattle.wasm_store.specs.declared.store.Instance.{Instance}
use Rattle.wasm_store.specs.declared.store.Store.{Store}
use Rattle.wasm_store.specs.Configuration.{Activation, Layer, OfCode, Configuration, address_in}
use Rattle.wasm_store.specs.Seen.{func_in, func_of}
use Rattle.wasm_store.specs.Control.{type_of_inst, entered, without_arguments, EntersInst, CallStep, CallsInst, CallsEntry, CallIndirectStep, is_same_func_type, entry_at}
use Rattle.wasm_store.proofs.TypeLaws.{types-eq}
use Rattle.type_safety.specs.Shapes.{types, HaveTypes, shape_of}
use Rattle.type_safety.specs.Stores.{FuncInstTyped, StoreTyped}
use Rattle.type_safety.specs.Frames.{CodeTyped, FrameTyped, HostTyped, LayersTyped}
use Rattle.type_safety.specs.Typed.{Typed}
use Rattle.type_safety.proofs.Lists.{of_append, all-get, same_some, map-reverse, All-reverse}
use Rattle.type_safety.proofs.Lookups.{func_there}
use Rattle.type_safety.proofs.Ranges.{type_of-value_of}
use Rattle.type_safety.proofs.Frames.{goes_on, going_typed, trapped_typed}
use Rattle.type_safety.proofs.Keeping.{popped}

-- Zeros of some types have them, and lie in their ranges.
types-zeros : (ts : List ValType) → types (map (λ t. value_of t 0) ts) ≡ ts
types-zeros [] = refl
types-zeros (t ∷ ts) = ap (λ x. x ∷ types (map (λ t. value_of t 0) ts)) (type_of-value_of t 0) ∙ ap (λ l. t ∷ l) (types-zeros ts)

zero_in_range : (t : ValType) → ValInRange (value_of t 0)
zero_in_range I32 = omega arith
zero_in_range I64 = omega arith

zeros_in_range : (ts : List ValType) → All ValInRange (map (λ t. value_of t 0) ts)
zeros_in_range [] = All-nil ValInRange
zeros_in_range (t ∷ ts) = All-cons ValInRange (value_of t 0) (map (λ t. value_of t 0) ts) (zero_in_range t) (zeros_in_range ts)

-- Arguments that stand with the last first, in the order of the parameters.
pub arguments_have : (args : List Val) (params : Types) → types args ≡ reverse params → All ValInRange args → HaveTypes (reverse args) params
arguments_have args params is ok =
    (map-reverse type_of args ∙ ap reverse is ∙ reverse-reverse params, All-reverse ValInRange args ok)

-- The frame of a function that is entered with arguments of its parameter types is typed.
pub entered_typed : (s : Store) → StoreTyped s → (a : ℕ) (ty : FuncType) (instance code : ℕ) (fn : Func) (args : List Val) → slice_get s.funcs a ≡ Some (Code ty instance code) → func_of s.instances (Some (Code ty instance code)) ≡ Some fn → HaveTypes (reverse args) ty.params → FrameTyped (shape_of s) (entered instance a args fn) [] (reverse ty.results)
entered_typed s store a ty instance code fn args there found have =
    let f = all-get (FuncInstTyped (shape_of s)) s.funcs a (Code ty instance code) store.funcs there in
    let t = f.1 in
    let mine : slice_get t.inst.code code ≡ Some fn = sym (ap (λ i. func_in i code) t.inst_there) ∙ found in
    let same : t.fn ≡ fn = same_some (slice_get t.inst.code code) t.fn fn t.fn_there mine in
    let zeros = map (λ t. value_of t 0) fn.locals in
    let locals : types (reverse args ++ zeros) ≡ t.context.locals =
    map-append type_of (reverse args) zeros ∙ ap (λ x. x ++ types zeros) have.0 ∙ ap (λ x. ty.params ++ x) (types-zeros fn.locals)
    ∙ ap (λ (x : Func). ty.params ++ x.locals) (sym same) ∙ sym t.locals
    in
    let body : CodeTyped t.context (t.context.results ∷ []) (sequence_of fn.body) [] t.context.results =
    subst (λ (x : Func). CodeTyped t.context (t.context.results ∷ []) (sequence_of x.body) [] t.context.results) same (t.body, t.ranges)
    in
    record {
      ty = ty;
      code = code;
      func_there = there;
      results_are = refl;
      inst = t.inst;
      inst_there = t.inst_there;
      context = t.context;
      context_is = t.context_is;
      context_results = t.results;
      locals = (locals, All-append ValInRange (reverse args) zeros have.1 (zeros_in_range fn.locals));
      ranges = All-nil ValInRange;
      own = [];
      under = [];
      split = refl;
      labels = t.context.results ∷ [];
      wanted = t.context.results;
      typed = body;
      blocks = (refl, refl, refl);
    }

module _ (s : Store) (store : StoreTyped s) (f : Activation) (results : Types) (t : FrameTyped (shape_of s) f [] results) (below : List Layer) (layers : LayersTyped (shape_of s) below results) (d : Configuration) (rest : Sequence) (mid : Types) (typed : SequenceTyped t.context t.labels rest mid t.wanted) (range : SequenceInRange rest) where
  module _ (operands own : List Val) (ok : All ValInRange operands) (split : operands ≡ own ++ t.under) where
    -- The frame that calls, with the operands that it has then.
    abbrev caller : Activation
    caller = record f { operands = operands; rest = rest }

    -- The arguments of a function of this type, and the frame that waits for it.
    record Passed (ty : FuncType) : Type 0 where
      taken : types (take (length ty.params) operands) ≡ reverse ty.params
      fine : All ValInRange (take (length ty.params) operands)
      waits : FrameTyped (shape_of s) (without_arguments ty (record f { operands = operands; rest = rest })) (reverse ty.results) results

    passed : (ty : FuncType) (ins : Types) → types own ≡ reverse ty.params ++ ins → mid ≡ reverse ty.results ++ ins → Passed ty
    passed ty ins is out =
        let p = of_append type_of own (reverse ty.params) ins is in
        let n = length ty.params in
        let ops : operands ≡ p.left ++ (p.right ++ t.under) = split ∙ ap (λ x. x ++ t.under) p.is ∙ append_assoc p.left p.right t.under in
        let long : length p.left ≡ n = sym (length-map p.left type_of) ∙ ap length p.left_is ∙ length-reverse ty.params in
        let left : drop n operands ≡ p.right ++ t.under = ap (drop n) ops ∙ drop_at p.left (p.right ++ t.under) n long in
        let code : CodeTyped t.context t.labels rest (reverse ty.results ++ types p.right) t.wanted =
        (subst (λ (x : Types). SequenceTyped t.context t.labels rest x t.wanted) (out ∙ ap (λ x. reverse ty.results ++ x) (sym p.right_is)) typed, range)
        in
        record {
          taken = ap types (ap (take n) ops ∙ take_at p.left (p.right ++ t.under) n long) ∙ p.left_is;
          fine = All-take ValInRange n operands ok;
          waits = goes_on (shape_of s) f [] results t f.locals (drop n operands) f.labels rest p.right t.under t.labels t.wanted (reverse ty.results) t.locals (All-drop ValInRange n operands ok) left code t.blocks;
        }

    enters_typed : (a : ℕ) (inst : FuncInst) (ins : Types) → slice_get s.funcs a ≡ Some inst → types own ≡ reverse (type_of_inst inst).params ++ ins → mid ≡ reverse (type_of_inst inst).results ++ ins → EntersInst s (record f { operands = operands; rest = rest }) below d a inst → Typed d
    enters_typed a (Code ty instance code) ins there is out h =
        let p = passed ty ins is out in
        let args = take (length ty.params) operands in
        let callee = entered_typed s store a ty instance code h.0 args there h.1 (arguments_have args ty.params p.taken p.fine) in
        subst Typed (sym h.3) (
        going_typed s store (entered instance a args h.0) (OfCode (without_arguments ty (record f { operands = operands; rest = rest })) ∷ below) (reverse ty.results) callee (results, p.waits, layers)
        )
    enters_typed a (Host ty) ins there is out h =
        let p = passed ty ins is out in
        let args = take (length ty.params) operands in
        let host : HostTyped (shape_of s) a (reverse args) [] (reverse ty.results) =
        record { ty = ty; func_there = there; results_are = refl; arguments = arguments_have args ty.params p.taken p.fine; ranges = All-nil ValInRange }
        in
        subst Typed (sym h.1) (record { store = store; outcome = tt; frames = (reverse ty.results, host, (results, p.waits, layers)) })

    calls_inst : (a : ℕ) (inst : FuncInst) (ty : FuncType) (ins : Types) (b : Bool) → slice_get s.funcs a ≡ Some inst → is_same_func_type (type_of_inst inst) ty ≡ b → types own ≡ reverse ty.params ++ ins → mid ≡ reverse ty.results ++ ins → CallsInst s (record f { operands = operands; rest = rest }) below d a inst b → Typed d
    calls_inst a inst ty ins true there same is out h =
        let e = sym (types-eq (type_of_inst inst) ty same) in
        enters_typed a inst ins there (is ∙ ap (λ (x : FuncType). reverse x.params ++ ins) e) (out ∙ ap (λ (x : FuncType). reverse x.results ++ ins) e) h
    calls_inst a inst ty ins false there same is out h = subst Typed (sym h) (trapped_typed s store)

    calls_entry : (ty : FuncType) (ins : Types) (entry : Option ℕ) → types own ≡ reverse ty.params ++ ins → mid ≡ reverse ty.results ++ ins → CallsEntry s (record f { operands = operands; rest = rest }) below d ty entry → Typed d
    calls_entry ty ins None is out h = subst Typed (sym h) (trapped_typed s store)
    calls_entry ty ins (Some a) is out h = calls_inst a h.0 ty ins (is_same_func_type (type_of_inst h.0) ty) h.1 refl is out h.2

  pub keeps_call : (x : ℕ) (ty : FuncType) (ins : Types) → slice_get t.context.funcs x ≡ Some ty → types t.own ≡ reverse ty.params ++ ins → mid ≡ reverse ty.results ++ ins → CallStep s (record f { rest = rest }) below d x → Typed d
  keeps_call x ty ins at is out h =
      let known = func_there s t.inst t.context t.context_is x ty at in
      let mine : slice_get t.inst.funcs x ≡ Some h.0 = sym (ap (λ i. address_in (λ i. i.funcs) i x) t.inst_there) ∙ h.1 in
      let same : h.0 ≡ known.address = same_some (slice_get t.inst.funcs x) h.0 known.address mine known.address_is in
      let found : slice_get s.funcs h.0 ≡ Some known.inst = ap (slice_get s.funcs) same ∙ known.inst_there in
      let inst : h.2.0 ≡ known.inst = same_some (slice_get s.funcs h.0) h.2.0 known.inst h.2.1 found in
      let e : ty ≡ type_of_inst h.2.0 = sym (ap type_of_inst inst ∙ known.type_is) in
      enters_typed f.operands t.own t.ranges t.split h.0 h.2.0 ins h.2.1 (is ∙ ap (λ (x : FuncType). reverse x.params ++ ins) e) (out ∙ ap (λ (x : FuncType). reverse x.results ++ ins) e) h.2.2

  pub keeps_call_indirect : (x : ℕ) (ty : FuncType) (ins : Types) → slice_get t.context.types x ≡ Some ty → types t.own ≡ I32 ∷ (reverse ty.params ++ ins) → mid ≡ reverse ty.results ++ ins → CallIndirectStep s (record f { rest = rest }) below d x → Typed d
  keeps_call_indirect x ty ins at is out h =
      let p = popped t.under t.own f.operands (val.I32 h.4) h.5 I32 (reverse ty.params ++ ins) t.split t.ranges h.10 is in
      let same_inst : h.0 ≡ t.inst = same_some (slice_get s.instances f.instance) h.0 t.inst h.6 t.inst_there in
      let found : slice_get h.0.types x ≡ Some ty = ap (λ (i : Instance). slice_get i.types x) same_inst ∙ ap (λ l. slice_get l x) (sym t.context_is.types) ∙ at in
      let e : ty ≡ h.1 = same_some (slice_get h.0.types x) ty h.1 found h.7 in
      calls_entry h.5 p.rest p.ok p.is h.1 ins (entry_at h.3 h.4) (p.left ∙ ap (λ (x : FuncType). reverse x.params ++ ins) e) (out ∙ ap (λ (x : FuncType). reverse x.results ++ ins) e) h.11
