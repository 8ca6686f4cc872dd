-- Instantiations and invocations have one outcome.
use Rattle.std.proofs.Common.{◌≡◌, inl, inr, ℕ, ◌<◌, Bool, true, false, reverse, List, [], Option, Some, None, IsTrue, slice_get, slice_index, refl, sym, ap, subst, ◌∙◌}
use Rattle.std.proofs.lemmas.Bool.{cases_order}
use Rattle.wasm_values.specs.declared.number.Val.{Val}
use Rattle.wasm_syntax.specs.declared.module.Module.{Module}
use Rattle.wasm_syntax.specs.declared.module.Func.{Func as FuncOf}
use Rattle.wasm_store.specs.declared.store.FuncInst.{FuncInst}
use Rattle.wasm_store.specs.declared.store.FuncInst.TheVariants.{Code, Host}
use Rattle.wasm_store.specs.declared.store.Instance.{Instance}
use Rattle.wasm_store.specs.declared.store.Extern.{Extern}
use Rattle.wasm_store.specs.declared.store.Extern.TheVariants.{Func, Table, Memory, Global}
use Rattle.wasm_store.specs.declared.store.Store.{Store}
use Rattle.wasm_store.specs.Seen.{func_of}
use Rattle.wasm_store.specs.Configuration.{Layer, OfCode, Configuration}
use Rattle.wasm_store.specs.Control.{entered, type_of_inst, IsFrameOf}
use Rattle.wasm_sessions.specs.Matching.{MatchImports, does_match}
use Rattle.wasm_sessions.specs.Instantiation.{made_instance, allocated, initialized, segments_fit, Starts, Instantiated, Invoked, alone}
use Rattle.module_instances.specs.declared.faults.InstFault.{InstFault}
use Rattle.module_instances.specs.declared.faults.InstFault.TheVariants as inst
use Rattle.module_instances.specs.Refusals.{IsFirstMismatch, is_within_limits}
use Rattle.module_instances.specs.Answers.{IsRefusedFor}
use Rattle.wasm_instantiate.specs.Answers.{IsNoFunction, ArgumentsDiffer}
use Rattle.wasm_link.specs.Stages.{the_policy}

same_some : {A : Type 0} (o : Option A) (x y : A) → o ≡ Some x → o ≡ Some y → x ≡ y
same_some o x y a b = cc

-- ---- frames

frame_once : (instances : List Instance) (a : ℕ) (args : List Val) (f : FuncInst) (l k : Layer) → IsFrameOf instances a args f l → IsFrameOf instances a args f k → l ≡ k
frame_once instances a args (Code ty instance code) l k x y =
    let same = same_some (func_of instances (Some (Code ty instance code))) x.0 y.0 x.1 y.1 in
    x.2 ∙ ap (λ (fn : FuncOf). OfCode (entered instance a (reverse args) fn)) same ∙ sym y.2
frame_once instances a args (Host ty) l k x y = x ∙ sym y

frame_at_once : (s : Store) (a : ℕ) (args : List Val) (f g : FuncInst) (l k : Layer) → slice_get s.funcs a ≡ Some f → slice_get s.funcs a ≡ Some g →
    IsFrameOf s.instances a args f l → IsFrameOf s.instances a args g k → l ≡ k
frame_at_once s a args f g l k there other x y =
    let P : FuncInst → Type 0 = λ h. IsFrameOf s.instances a args h l in
    frame_once s.instances a args g l k (subst P (same_some (slice_get s.funcs a) f g there other) x) y

starts_once : (s : Store) (i : Instance) (start : Option ℕ) (c d : Configuration) → Starts s i start c → Starts s i start d → c ≡ d
starts_once s i None c d x y = x ∙ sym y
starts_once s i (Some n) c d x y = x.4 ∙ ap (alone s) (frame_at_once s (slice_index i.funcs n) [] x.0 y.0 x.1 y.1 x.2 y.2 x.3 y.3) ∙ sym y.4

pub made_once : (c d e : Configuration) (m : Module) (externs : List Extern) → Instantiated c m externs d → Instantiated c m externs e → d ≡ e
made_once c d e m externs x y = starts_once (initialized (allocated c.store m externs) (made_instance c.store m externs) m) (made_instance c.store m externs) m.start d e x.starts y.starts

pub invoked_once : (c d e : Configuration) (x : Extern) (args : List Val) → Invoked c x args d → Invoked c x args e → d ≡ e
invoked_once c d e (Func a) args x y = x.6 ∙ ap (alone c.store) (frame_at_once c.store a args x.0 y.0 x.1 y.1 x.3 y.3 x.5 y.5) ∙ sym y.6
invoked_once c d e (Table a) args x y = absurd x
invoked_once c d e (Memory a) args x y = absurd x
invoked_once c d e (Global a) args x y = absurd x

pub invoked_is_function : (c d : Configuration) (x : Extern) (args : List Val) → Invoked c x args d → IsNoFunction x → ⊥
invoked_is_function c d (Func a) args h no_func = no_func
invoked_is_function c d (Table a) args h no_func = h
invoked_is_function c d (Memory a) args h no_func = h
invoked_is_function c d (Global a) args h no_func = h

pub arguments_of_function : (s : Store) (x : Extern) (args : List Val) → ArgumentsDiffer s x args → IsNoFunction x → ⊥
arguments_of_function s (Func a) args h no_func = no_func
arguments_of_function s (Table a) args h no_func = h
arguments_of_function s (Memory a) args h no_func = h
arguments_of_function s (Global a) args h no_func = h

pub invoked_takes : (c d : Configuration) (x : Extern) (args : List Val) → Invoked c x args d → ArgumentsDiffer c.store x args → ⊥
invoked_takes c d (Func a) args h k =
    let same = same_some (slice_get c.store.funcs a) h.0 k.0 h.3 k.1 in
    k.2 (h.4.0 ∙ ap (λ (f : FuncInst). (type_of_inst f).params) same)
invoked_takes c d (Table a) args h k = h
invoked_takes c d (Memory a) args h k = h
invoked_takes c d (Global a) args h k = h

-- ---- refusals of instantiations

both : (b : Bool) → b ≡ false → IsTrue b → ⊥
both true a h = cc
both false a h = cc

module _ (s : Store) (m : Module) (externs : List Extern) where
  mismatch_before : (k j : ℕ) → IsFirstMismatch s m externs k → IsFirstMismatch s m externs j → k < j → ⊥
  mismatch_before k j a b less =
      let matches : does_match s m.types a.extern a.wanted.kind ≡ true = b.before k a.extern a.wanted less a.extern_there a.wanted_there in
      both (does_match s m.types a.extern a.wanted.kind) a.differs matches

  mismatch_once : (k j : ℕ) → IsFirstMismatch s m externs k → IsFirstMismatch s m externs j → k ≡ j
  mismatch_once k j a b = elim (cases_order k j) [
    | inl same ↦ same
    | inr other ↦ elim other [
      | inl less ↦ absurd (mismatch_before k j a b less)
      | inr more ↦ absurd (mismatch_before j k b a more)
    ]
  ]

  mismatch_not : (k : ℕ) → IsFirstMismatch s m externs k → MatchImports s m externs → ⊥
  mismatch_not k a h = both (does_match s m.types a.extern a.wanted.kind) a.differs (h.each k a.extern a.wanted a.extern_there a.wanted_there)

  abbrev Fault : InstFault → Type 0
  Fault f = IsRefusedFor the_policy s m externs f

  -- one that isn't want of memory
  abbrev pub IsOwn : InstFault → Type 0
  IsOwn inst.OutOfMemory = ⊥
  IsOwn _ = Unit {0}

  pub refused_once : (a b : InstFault) → IsOwn a → IsOwn b → Fault a → Fault b → a ≡ b
  refused_once inst.Count inst.Count p q x y = refl
  refused_once inst.Count (inst.Mismatch k) p q x y = absurd (x y.0)
  refused_once inst.Count inst.Bounds p q x y = absurd (x y.0.count)
  refused_once inst.Count inst.Limit p q x y = absurd (x y.0.count)
  refused_once (inst.Mismatch k) inst.Count p q x y = absurd (y x.0)
  refused_once (inst.Mismatch k) (inst.Mismatch j) p q x y = ap inst.Mismatch (mismatch_once k j x.1 y.1)
  refused_once (inst.Mismatch k) inst.Bounds p q x y = absurd (mismatch_not k x.1 y.0)
  refused_once (inst.Mismatch k) inst.Limit p q x y = absurd (mismatch_not k x.1 y.0)
  refused_once inst.Bounds inst.Count p q x y = absurd (y x.0.count)
  refused_once inst.Bounds (inst.Mismatch k) p q x y = absurd (mismatch_not k y.1 x.0)
  refused_once inst.Bounds inst.Bounds p q x y = refl
  refused_once inst.Bounds inst.Limit p q x y = absurd (both (segments_fit (allocated s m externs) (made_instance s m externs) m) x.1 y.1)
  refused_once inst.Limit inst.Count p q x y = absurd (y x.0.count)
  refused_once inst.Limit (inst.Mismatch k) p q x y = absurd (mismatch_not k y.1 x.0)
  refused_once inst.Limit inst.Bounds p q x y = absurd (both (segments_fit (allocated s m externs) (made_instance s m externs) m) y.1 x.1)
  refused_once inst.Limit inst.Limit p q x y = refl
  refused_once inst.OutOfMemory b p q x y = absurd p
  refused_once inst.Count inst.OutOfMemory p q x y = absurd q
  refused_once (inst.Mismatch k) inst.OutOfMemory p q x y = absurd q
  refused_once inst.Bounds inst.OutOfMemory p q x y = absurd q
  refused_once inst.Limit inst.OutOfMemory p q x y = absurd q

  pub made_not_refused : (c d : Configuration) (f : InstFault) → c.store ≡ s → IsOwn f → Fault f → Instantiated c m externs d → IsTrue (is_within_limits the_policy (allocated s m externs)) → ⊥
  made_not_refused c d f same own x made within = by f own x (subst P same (made.matching, made.in_bounds))
    where
      P : Store → Type 0
      P t = MatchImports t m externs × IsTrue (segments_fit (allocated t m externs) (made_instance t m externs) m)

      by : (f : InstFault) → IsOwn f → Fault f → P s → ⊥
      by inst.Count own x h = x h.0.count
      by (inst.Mismatch k) own x h = mismatch_not k x.1 h.0
      by inst.Bounds own x h = both (segments_fit (allocated s m externs) (made_instance s m externs) m) x.1 h.1
      by inst.Limit own x h = both (is_within_limits the_policy (allocated s m externs)) x.2 within
      by inst.OutOfMemory own x h = own
