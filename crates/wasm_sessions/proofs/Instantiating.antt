-- Instantiations of valid modules keep configurations typed.
use Rattle.std.proofs.Common.{◌≡◌, ℕ, ◌<◌, IsTrue, List, [], Option, Some, None, IfSome, All, length, map, reverse, slice_get, refl, sym, ap, subst, ◌∙◌}
use Rattle.std.specs.Prelude.{slice_index}
use Rattle.std.proofs.lemmas.List.Elements.{All-nil}
use Rattle.wasm_syntax.specs.declared.module.FuncType.{FuncType}
use Rattle.wasm_syntax.specs.declared.module.Elem.{Elem}
use Rattle.wasm_syntax.specs.declared.module.Segment.{Segment}
use Rattle.wasm_syntax.specs.declared.module.Module.{Module}
use Rattle.wasm_syntax.specs.Trees.{sequence_of}
use Rattle.wasm_typing.specs.Valid.{func_types_of, funcs_of, StartValid, ElemValid, ValInRange, IsWord, SequenceInRange, BytesInRange, Valid}
use Rattle.wasm_store.specs.declared.store.FuncInst.{FuncInst}
use Rattle.wasm_store.specs.declared.store.Extern.{Extern}
use Rattle.wasm_store.specs.declared.store.Store.{Store}
use Rattle.wasm_store.specs.Configuration.{Configuration}
use Rattle.wasm_store.specs.Control.{type_of_inst}
use Rattle.type_safety.specs.Shapes.{HaveTypes, Shape, shape_of, func_type_at}
use Rattle.type_safety.specs.Stores.{StoreTyped}
use Rattle.type_safety.specs.Typed.{Typed}
use Rattle.type_safety.proofs.Lists.{of_get, get-map, of_option_map, same_some}
use Rattle.wasm_sessions.specs.Matching.{MatchImports}
use Rattle.wasm_sessions.specs.Instantiation.{func_addresses, made_instance, allocated, initialized, segments_fit, Starts, Instantiated}
use Rattle.wasm_sessions.proofs.Extending.{all-map}
use Rattle.wasm_sessions.proofs.Allocating.{slice_index-is, funcs_image, func_at_index, allocated_typed}
use Rattle.wasm_sessions.proofs.Initializing.{Kept, initialized_typed}
use Rattle.wasm_sessions.proofs.HostLaws.{frame_typed}

module _ (s : Store) (store : StoreTyped s) (m : Module) (valid : Valid m) (externs : List Extern) (match : MatchImports s m externs) where
  -- The start function takes nothing.
  start_takes : (x : ℕ) (inst : FuncInst) (t : Store) → shape_of t ≡ shape_of (allocated s m externs) → StartValid m x → slice_get t.funcs (slice_index (func_addresses s m externs) x) ≡ Some inst → HaveTypes [] (type_of_inst inst).params
  start_takes x inst t same start there =
      let empty : FuncType = record { params = []; results = [] } in
      let sh = shape_of (allocated s m externs) in
      let mapped : slice_get (map (func_type_at sh) (func_addresses s m externs)) x ≡ Some (Some empty) =
      ap (λ l. slice_get l x) (sym (funcs_image s store m valid externs match)) ∙ get-map (λ x. Some x) (funcs_of m) x empty start
      in
      let a = of_get (func_type_at sh) (func_addresses s m externs) x (Some empty) mapped in
      let f = of_option_map type_of_inst (slice_get sh.funcs a.0) empty a.2 in
      let funcs : t.funcs ≡ sh.funcs = ap (λ (x : Shape). x.funcs) same in
      let here : slice_get sh.funcs a.0 ≡ Some inst =
      ap (λ l. slice_get l a.0) (sym funcs) ∙ ap (slice_get t.funcs) (sym (slice_index-is (func_addresses s m externs) x a.0 a.1)) ∙ there
      in
      let kind : type_of_inst inst ≡ empty = ap type_of_inst (same_some (slice_get sh.funcs a.0) inst f.0 here f.1) ∙ f.2 in
      (sym (ap (λ (ty : FuncType). ty.params) kind), All-nil ValInRange)

  starts_typed : (t : Store) → Kept (allocated s m externs) t → (start : Option ℕ) → IfSome start (StartValid m) → (d : Configuration) → Starts t (made_instance s m externs) start d → Typed d
  starts_typed t k None ok d h = subst Typed (sym h) (record { store = k.store; outcome = (refl, All-nil ValInRange); frames = tt })
  starts_typed t k (Some x) ok d h =
      let have = start_takes x h.0 t k.shape ok h.2 in
      let frame = frame_typed t k.store (slice_index (func_addresses s m externs) x) [] h.0 h.1 h.2 have h.3 in
      subst Typed (sym h.4) (record { store = k.store; outcome = tt; frames = (reverse (type_of_inst h.0).results, frame, tt) })

  made_typed : (d : Configuration) → IsTrue (segments_fit (allocated s m externs) (made_instance s m externs) m) → Starts (initialized (allocated s m externs) (made_instance s m externs) m) (made_instance s m externs) m.start d → Typed d
  made_typed d fits h =
      let elems = all-map (ElemValid m) (λ (e : Elem). All (λ x. slice_index (func_addresses s m externs) x < length (shape_of (allocated s m externs)).funcs) e.funcs) m.elems (
      λ e v. all-map (λ x. x < length (func_types_of m)) (λ x. slice_index (func_addresses s m externs) x < length (shape_of (allocated s m externs)).funcs) e.funcs (func_at_index s store m valid externs match) v.2
      ) valid.parts.elems in
      let segments = all-map (λ (s : Segment). IsWord s.memory × SequenceInRange (sequence_of s.offset) × BytesInRange s.bytes) (λ (e : Segment). All (λ b. b < 256) e.bytes) m.segments (λ e v. v.2) valid.ranges.segments in
      let k = initialized_typed (allocated s m externs) (made_instance s m externs) m (allocated_typed s store m valid externs match) elems segments fits in
      starts_typed (initialized (allocated s m externs) (made_instance s m externs) m) k m.start valid.parts.start d h

pub instantiated_typed : (c d : Configuration) (m : Module) (externs : List Extern) → Valid m → Typed c → Instantiated c m externs d → Typed d
instantiated_typed c d m externs valid t h = made_typed c.store t.store m valid externs h.matching d h.in_bounds h.starts
