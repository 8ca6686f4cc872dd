-- A store that new parts are put into, and whose segments are written.
use Rattle.std.proofs.Common.{◌≡◌, ℕ, ◌<◌, ◌&&◌, Bool, true, false, IsTrue, List, [], ◌∷◌, Option, Some, IfSome, All, length, get_or, slice_get, refl, sym, ap, subst, ◌∙◌}
use Rattle.std.specs.Prelude.{fold}
use Rattle.std.specs.List.{list_all}
use Rattle.std.proofs.lemmas.Option.{slice_get-get_or}
use Rattle.wasm_syntax.specs.declared.module.Elem.{Elem}
use Rattle.wasm_syntax.specs.declared.module.Segment.{Segment}
use Rattle.wasm_syntax.specs.declared.module.Module.{Module}
use Rattle.wasm_typing.specs.Valid.{globals_of, ElemValid, SegmentValid}
use Rattle.wasm_store.specs.declared.store.FuncInst.{FuncInst}
use Rattle.wasm_store.specs.declared.store.TableInst.{TableInst}
use Rattle.wasm_store.specs.declared.store.MemInst.{MemInst}
use Rattle.wasm_store.specs.declared.store.GlobalInst.{GlobalInst}
use Rattle.wasm_store.specs.declared.store.Instance.{Instance}
use Rattle.wasm_store.specs.declared.store.Store.{Store}
use Rattle.wasm_store.specs.declared.config.Frame.{Frame}
use Rattle.wasm_store.specs.Seen.{seen_frame}
use Rattle.type_safety.proofs.Lists.{there}
use Rattle.wasm_store.specs.Control.{IsFrameOf}
use Rattle.wasm_sessions.specs.Instantiation.{elem_fits, segment_fits, segments_fit, with_elem, with_segment, initialized}
use Rattle.module_instances.specs.words.Building.{HasConstOffset, elem_fits_in, segment_fits_in, tables_written, memories_written}
use Rattle.module_instances.specs.words.Putting.{Begins}

both : (a b : Bool) → (a && b) ≡ true → (a ≡ true) × (b ≡ true)
both true b h = (refl, h)
both false b h = cc

-- ---- offsets are constant

pub constant_elems : (m : Module) (slice : List Elem) → slice ≡ m.elems → All (ElemValid m) m.elems → All (λ (e : Elem). HasConstOffset e.offset) slice
constant_elems m slice same valid =
    let P : List Elem → Type 0 = λ l. All (λ (e : Elem). HasConstOffset e.offset) l in
    subst P (sym same) (λ k d h. (globals_of m, (valid k d h).1))

pub constant_segments : (m : Module) (slice : List Segment) → slice ≡ m.segments → All (SegmentValid m) m.segments → All (λ (e : Segment). HasConstOffset e.offset) slice
constant_segments m slice same valid =
    let P : List Segment → Type 0 = λ l. All (λ (e : Segment). HasConstOffset e.offset) l in
    subst P (sym same) (λ k d h. (globals_of m, (valid k d h).1))

-- ---- segments of an instance that is there

pub instance_read : (all slice : List Instance) (n : ℕ) (r : Instance) → n < length all → slice ≡ all → r ≡ get_or slice n r → slice_get all n ≡ Some r
instance_read all slice n r within same read =
    slice_get-get_or all n r within ∙ ap (λ x. Some x) (sym (read ∙ ap (λ l. get_or l n r) same))

pub fitting_elems : (s : Store) (i : Instance) (m : Module) (gs : List GlobalInst) (es : List Elem) → gs ≡ s.globals → es ≡ m.elems → IsTrue (segments_fit s i m) → IsTrue (list_all (elem_fits_in s.tables gs i.tables i.globals) es)
fitting_elems s i m gs es same listed fits =
    ap (λ l. list_all (elem_fits_in s.tables l i.tables i.globals) es) same ∙ ap (list_all (elem_fits_in s.tables s.globals i.tables i.globals)) listed
    ∙ (both (list_all (elem_fits s i) m.elems) (list_all (segment_fits s i) m.segments) fits).0

pub fitting_segments : (s : Store) (i : Instance) (m : Module) (gs : List GlobalInst) (es : List Segment) → gs ≡ s.globals → es ≡ m.segments → IsTrue (segments_fit s i m) → IsTrue (list_all (segment_fits_in s.memories gs i.memories i.globals) es)
fitting_segments s i m gs es same listed fits =
    ap (λ l. list_all (segment_fits_in s.memories l i.memories i.globals) es) same ∙ ap (list_all (segment_fits_in s.memories s.globals i.memories i.globals)) listed
    ∙ (both (list_all (elem_fits s i) m.elems) (list_all (segment_fits s i) m.segments) fits).1

pub elems_fold : (i : Instance) (s : Store) (es : List Elem) → fold (with_elem i) s es ≡ record s { tables = fold (tables_written i s.globals) s.tables es }
elems_fold i s [] = refl
elems_fold i s (e ∷ es) = elems_fold i (with_elem i s e) es

pub segments_fold : (i : Instance) (s : Store) (es : List Segment) → fold (with_segment i) s es ≡ record s { memories = fold (memories_written i s.globals) s.memories es }
segments_fold i s [] = refl
segments_fold i s (e ∷ es) = segments_fold i (with_segment i s e) es

pub initialized_is : (s : Store) (i r : Instance) (m : Module) (gs hs : List GlobalInst) (es : List Elem) (ss : List Segment) (ts : List TableInst) (ms : List MemInst) → i ≡ r → gs ≡ s.globals → es ≡ m.elems → hs ≡ s.globals → ss ≡ m.segments → ts ≡ fold (tables_written r gs) s.tables es → ms ≡ fold (memories_written r hs) s.memories ss → ◌≡◌ {A = Store} (record { funcs = s.funcs; tables = ts; memories = ms; globals = s.globals; instances = s.instances }) (initialized s i m)
initialized_is s i r m gs hs es ss ts ms same g e h d tables memories =
    let make : List TableInst → List MemInst → Store = λ ts ms. record { funcs = s.funcs; tables = ts; memories = ms; globals = s.globals; instances = s.instances } in
    let T = fold (tables_written r s.globals) s.tables m.elems in
    let M = fold (memories_written r s.globals) s.memories m.segments in
    let all_tables : ts ≡ T = tables ∙ ap (λ l. fold (tables_written r l) s.tables es) g ∙ ap (fold (tables_written r s.globals) s.tables) e in
    let all_memories : ms ≡ M = memories ∙ ap (λ l. fold (memories_written r l) s.memories ss) h ∙ ap (fold (memories_written r s.globals) s.memories) d in
    let first : fold (with_elem r) s m.elems ≡ make T s.memories = elems_fold r s m.elems in
    let then : fold (with_segment r) (make T s.memories) m.segments ≡ make T M = segments_fold r (make T s.memories) m.segments in
    ap (λ l. make l ms) all_tables ∙ ap (make T) all_memories ∙ sym then ∙ sym (ap (λ x. fold (with_segment r) x m.segments) first)
    ∙ ap (λ x. initialized s x m) (sym same)

-- ---- frames that begin

pub begins : (s : Store) (start : Option ℕ) (a : ℕ) (frame : Frame) (frames : List Frame) → start ≡ Some a → IfSome start (λ a. a < length s.funcs) → frames ≡ frame ∷ [] → ((inst : FuncInst) → slice_get s.funcs a ≡ Some inst → IsFrameOf s.instances a [] inst (seen_frame s.funcs s.instances frame)) → Begins s start frames
begins s start a frame frames is exists one made =
    let P : Option ℕ → Type 0 = λ o. Begins s o frames in
    let E : Option ℕ → Type 0 = λ o. IfSome o (λ a. a < length s.funcs) in
    let f = there s.funcs a (subst E is exists) in
    subst P (sym is) (f.0, frame, one, f.1, made f.0 f.1)
