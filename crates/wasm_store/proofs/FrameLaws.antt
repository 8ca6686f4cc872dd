-- The frame of a function that is entered, as it is stored.
use Rattle.std.proofs.Common.{◌≡◌, ℕ, List, [], ◌++◌, Some, map, reverse, slice_get, get_or, unwrap_or, sym, ap, subst, ◌∙◌}
use Rattle.std.proofs.lemmas.List.{reverse-reverse}
use Rattle.std.proofs.lemmas.Option.{unwrap_or-slice_get}
use Rattle.wasm_values.specs.declared.number.Val.{Val}
use Rattle.wasm_values.specs.Types.{zeros_of}
use Rattle.wasm_syntax.specs.declared.module.Func.{Func as FuncOf}
use Rattle.wasm_syntax.specs.declared.module.FuncType.{FuncType}
use Rattle.wasm_syntax.specs.Trees.{Sequence, sequence_of}
use Rattle.wasm_syntax.specs.Places.{rest_at}
use Rattle.wasm_syntax.proofs.NextLaws.{rest_at-zero}
use Rattle.wasm_store.specs.declared.store.FuncInst.{FuncInst}
use Rattle.wasm_store.specs.declared.store.FuncInst.TheVariants.{Code, Host}
use Rattle.wasm_store.specs.declared.store.Instance.{Instance}
use Rattle.wasm_store.specs.declared.config.CodeFrame.{CodeFrame}
use Rattle.wasm_store.specs.Configuration.{OpenBlock, Activation, OfCode, OfHost}
use Rattle.wasm_store.specs.Seen.{func_of, body_or_nothing, body_of, seen_label, seen_code}
use Rattle.wasm_store.specs.Control.{entered, IsFrameOf}

module _ (funcs : List FuncInst) (instances : List Instance) (a : ℕ) (inst : FuncInst) (fn : FuncOf) (f : CodeFrame) (args : List Val) where
  body_is : slice_get funcs a ≡ Some inst → func_of instances (Some inst) ≡ Some fn → body_of funcs instances a ≡ fn.body
  body_is there found = ap (λ o. body_or_nothing (func_of instances o)) there ∙ ap body_or_nothing found

  frame_is : slice_get funcs a ≡ Some inst → func_of instances (Some inst) ≡ Some fn → f.func ≡ a → f.locals ≡ args ++ zeros_of fn.locals → f.operands ≡ [] → f.labels ≡ [] → f.position ≡ 0 → seen_code (body_of funcs instances a) f ≡ entered f.instance a (reverse args) fn
  frame_is there found is locals operands labels start =
      let body = body_of funcs instances a in
      let code : rest_at body f.position ≡ sequence_of fn.body = ap (rest_at body) start ∙ rest_at-zero body ∙ ap sequence_of (body_is there found) in
      let own : f.locals ≡ reverse (reverse args) ++ zeros_of fn.locals = locals ∙ ap (λ l. l ++ zeros_of fn.locals) (sym (reverse-reverse args)) in
      let make : ℕ → List Val → List Val → List OpenBlock → Sequence → Activation = λ n ls os bs r. record { instance = f.instance; func = n; locals = ls; operands = os; labels = bs; rest = r } in
      ap (λ n. make n f.locals (reverse f.operands) (map (seen_label body) (reverse f.labels)) (rest_at body f.position)) is
      ∙ ap (λ ls. make a ls (reverse f.operands) (map (seen_label body) (reverse f.labels)) (rest_at body f.position)) own
      ∙ ap (λ os. make a (reverse (reverse args) ++ zeros_of fn.locals) (reverse os) (map (seen_label body) (reverse f.labels)) (rest_at body f.position)) operands
      ∙ ap (λ ls. make a (reverse (reverse args) ++ zeros_of fn.locals) [] (map (seen_label body) (reverse ls)) (rest_at body f.position)) labels
      ∙ ap (λ r. make a (reverse (reverse args) ++ zeros_of fn.locals) [] [] r) code

-- The item that is read of a slice is the one there.
pub same_inst : {A : Type 0} → (xs slice : List A) (a : ℕ) (r x : A) → r ≡ get_or slice a r → slice ≡ xs → slice_get xs a ≡ Some x → x ≡ r
same_inst xs slice a r x is same there = sym (is ∙ ap (λ l. get_or l a r) same ∙ sym (unwrap_or-slice_get xs a r) ∙ ap (λ o. unwrap_or o r) there)

-- The frame of a module's function.
pub code_frame : (funcs : List FuncInst) (instances : List Instance) (a : ℕ) (inst : FuncInst) (fn : FuncOf) (f : CodeFrame) (args : List Val) (ty : FuncType) (instance code : ℕ) → slice_get funcs a ≡ Some inst → inst ≡ Code ty instance code → func_of instances (slice_get funcs a) ≡ Some fn → f.instance ≡ instance → f.func ≡ a → f.locals ≡ args ++ zeros_of fn.locals → f.operands ≡ [] → f.labels ≡ [] → f.position ≡ 0 → IsFrameOf instances a args inst (OfCode (seen_code (body_of funcs instances a) f))
code_frame funcs instances a inst fn f args ty instance code there is found at func locals operands labels start =
    let fn_of : func_of instances (Some inst) ≡ Some fn = ap (func_of instances) (sym there) ∙ found in
    let P : FuncInst → Type 0 = λ i. IsFrameOf instances a args i (OfCode (seen_code (body_of funcs instances a) f)) in
    let here : seen_code (body_of funcs instances a) f ≡ entered instance a (reverse args) fn =
    frame_is funcs instances a inst fn f args there fn_of func locals operands labels start ∙ ap (λ n. entered n a (reverse args) fn) at
    in
    subst P (sym is) (fn, ap (λ i. func_of instances (Some i)) (sym is) ∙ fn_of, ap OfCode here)

-- The frame of a host's function.
pub host_frame : (instances : List Instance) (a : ℕ) (inst : FuncInst) (args given : List Val) (ty : FuncType) → inst ≡ Host ty → given ≡ [] → IsFrameOf instances a args inst (OfHost a args given)
host_frame instances a inst args given ty is none =
    let P : FuncInst → Type 0 = λ i. IsFrameOf instances a args i (OfHost a args given) in
    subst P (sym is) (ap (OfHost a args) none)
