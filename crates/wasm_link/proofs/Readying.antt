-- What a run keeps over a step.
use Rattle.std.proofs.Common.{◌⊎◌, inl, inr, zero, [], ◌∷◌, ◌++◌, map, Option, None, arith, length-append, ◌≡◌, ℕ, suc, ◌+◌, ◌<◌, List, Some, length, slice_get, refl, sym, ap, subst, ◌∙◌}
use Rattle.wasm_store.specs.declared.store.FuncInst.{FuncInst}
use Rattle.wasm_store.specs.declared.store.FuncInst.TheVariants.{Host}
use Rattle.wasm_store.specs.declared.store.Instance.{Instance}
use Rattle.wasm_store.specs.declared.store.Store.{Store}
use Rattle.wasm_store.specs.declared.store.Extern.{Extern}
use Rattle.wasm_store.specs.declared.store.Extern.TheVariants.{Func, Table, Memory, Global}
use Rattle.wasm_syntax.specs.declared.module.Module.{Module}
use Rattle.wasm_syntax.specs.declared.module.FuncType.{FuncType}
use Rattle.wasm_syntax.specs.declared.module.Func.{Func as FuncOf}
use Rattle.wasm_syntax.specs.declared.module.Elem.{Elem}
use Rattle.wasm_syntax.specs.declared.module.Segment.{Segment}
use Rattle.wasm_values.specs.declared.number.Val.{Val}
use Rattle.std.specs.Prelude.{fold}
use Rattle.std.specs.List.{enumerate_from}
use Rattle.wasm_sessions.specs.Instantiation.{made_instance, made_func, allocated, initialized, with_elem, with_segment, Starts, Instantiated, Invoked}
use Rattle.wasm_store.specs.Configuration.{Configuration}
use Rattle.wasm_store.proofs.StepLaws.{step_keeps}
use Rattle.type_safety.specs.Typed.{Typed}
use Rattle.wasm_reduce.specs.Policies.{PolicyStep, grows_next}
use Rattle.wasm_link.specs.declared.run.Run.{Run}
use Rattle.wasm_link.specs.Stages.{the_policy}
use Rattle.wasm_link.specs.Stages.{number_at}
use Rattle.wasm_link.specs.words.{Ready, Kept, HasNoHosts, Said, Settled}

pub step_ready : (r : Run) (d : Configuration) (left steps : ℕ) → Ready r → Typed d → PolicyStep the_policy r.config d → steps + left < 4294967296 →
    Ready (record r { config = d; left = left; steps = steps })
step_ready r d left steps ready typed step few =
    let kept = step_keeps r.config d (grows_next the_policy r.config.store r.config.frames, step) in
    record {
      typed = typed;
      no_hosts = λ a ty h. ready.no_hosts a ty (ap (λ (fs : List FuncInst). slice_get fs a) (sym kept.funcs) ∙ h);
      beside = ready.beside;
      there = λ k n h. subst (λ (is : List Instance). n < length is) (sym kept.instances) (ready.there k n h);
      few = few;
    }

pub same_kept : (r : Run) → Kept r r
same_kept r = record { names = refl; numbers = refl; instances = refl }

pub kept_on : (r s t : Run) → Kept r s → Kept s t → Kept r t
kept_on r s t a b = record { names = b.names ∙ a.names; numbers = b.numbers ∙ a.numbers; instances = b.instances ∙ a.instances }

pub step_kept : (r : Run) (d : Configuration) (left steps : ℕ) → PolicyStep the_policy r.config d → Kept r (record r { config = d; left = left; steps = steps })
step_kept r d left steps step =
    let kept = step_keeps r.config d (grows_next the_policy r.config.store r.config.frames, step) in
    record { names = refl; numbers = refl; instances = ap length kept.instances }

-- ---- lines

pub said_ready : (r t : Run) (line : List ℕ) → Ready r → Said r t line → Ready t
said_ready r t line ready s =
    let P : Configuration → Type 0 = λ c. Typed c × HasNoHosts c.store in
    let c = subst P (sym s.config) (ready.typed, ready.no_hosts) in
    let Q : List (Option ℕ) × Configuration → Type 0 = λ x. (k n : ℕ) → number_at x.0 k ≡ Some n → n < length x.1.store.instances in
    record {
      typed = c.0;
      no_hosts = c.1;
      beside = ap length s.numbers ∙ ready.beside ∙ sym (ap length s.names);
      there = subst Q (λ i. (sym s.numbers i, sym s.config i)) ready.there;
      few = omega (arith, ready.few, s.left, s.steps);
    }

number_after_push : (ns : List (Option ℕ)) (o : Option ℕ) (k n : ℕ) → number_at (ns ++ o ∷ []) k ≡ Some n → (number_at ns k ≡ Some n) ⊎ (o ≡ Some n)
number_after_push [] o zero n h = inr h
number_after_push [] o (suc k) n h = absurd cc
number_after_push (x ∷ ns) o zero n h = inl h
number_after_push (x ∷ ns) o (suc k) n h = number_after_push ns o k n h

pub settled_ready : (r t : Run) (line name : List ℕ) (number : Option ℕ) → Ready r → ((n : ℕ) → number ≡ Some n → n < length r.config.store.instances) → Settled r t line name number → Ready t
settled_ready r t line name number ready within s =
    let P : Configuration → Type 0 = λ c. Typed c × HasNoHosts c.store in
    let c = subst P (sym s.config) (ready.typed, ready.no_hosts) in
    let Q : List (Option ℕ) × Configuration → Type 0 = λ x. (k n : ℕ) → number_at x.0 k ≡ Some n → n < length x.1.store.instances in
    let pushed : Q (r.numbers ++ number ∷ [], r.config) = λ k n h. elim (number_after_push r.numbers number k n h) [ inl x ↦ ready.there k n x | inr x ↦ within n x ] in
    record {
      typed = c.0;
      no_hosts = c.1;
      beside = ap length s.numbers ∙ length-append r.numbers (number ∷ []) ∙ ap (λ n. n + 1) ready.beside ∙ sym (length-append r.names (name ∷ [])) ∙ sym (ap length s.names);
      there = subst Q (λ i. (sym s.numbers i, sym s.config i)) pushed;
      few = omega (arith, ready.few, s.left, s.steps);
    }

-- ---- instances

abbrev NoHost : List FuncInst → Type 0
NoHost fs = (a : ℕ) (ty : FuncType) → slice_get fs a ≡ Some (Host ty) → ⊥

no_host_behind : (fs gs : List FuncInst) → NoHost fs → NoHost gs → (a : ℕ) (ty : FuncType) → slice_get (fs ++ gs) a ≡ Some (Host ty) → ⊥
no_host_behind [] gs n m a ty h = m a ty h
no_host_behind (f ∷ fs) gs n m zero ty h = n zero ty h
no_host_behind (f ∷ fs) gs n m (suc a) ty h = no_host_behind fs gs (λ b ty h. n (suc b) ty h) m a ty h

no_host_made : (m : Module) (k : ℕ) (xs : List (ℕ × FuncOf)) → NoHost (map (made_func m k) xs)
no_host_made m k [] a ty h = cc
no_host_made m k (x ∷ xs) zero ty h = cc
no_host_made m k (x ∷ xs) (suc a) ty h = no_host_made m k xs a ty h

pub record SameNames (s t : Store) : Type 0 where
  pub funcs : t.funcs ≡ s.funcs
  pub instances : t.instances ≡ s.instances

elems_same : (i : Instance) (s : Store) (es : List Elem) → SameNames s (fold (with_elem i) s es)
elems_same i s [] = record { funcs = refl; instances = refl }
elems_same i s (e ∷ es) = let k = elems_same i (with_elem i s e) es in record { funcs = k.funcs; instances = k.instances }

segments_same : (i : Instance) (s : Store) (es : List Segment) → SameNames s (fold (with_segment i) s es)
segments_same i s [] = record { funcs = refl; instances = refl }
segments_same i s (e ∷ es) = let k = segments_same i (with_segment i s e) es in record { funcs = k.funcs; instances = k.instances }

pub initialized_same : (i : Instance) (s : Store) (m : Module) → SameNames s (initialized s i m)
initialized_same i s m =
    let a = elems_same i s m.elems in
    let b = segments_same i (fold (with_elem i) s m.elems) m.segments in
    record { funcs = b.funcs ∙ a.funcs; instances = b.instances ∙ a.instances }

store_started : (s : Store) (i : Instance) (start : Option ℕ) (d : Configuration) → Starts s i start d → d.store ≡ s
store_started s i None d h = ap (λ (c : Configuration). c.store) h
store_started s i (Some x) d h = ap (λ (c : Configuration). c.store) h.4

module _ (c d : Configuration) (m : Module) (externs : List Extern) (made : Instantiated c m externs d) where
  names_made : SameNames (allocated c.store m externs) d.store
  names_made =
      let one = made_instance c.store m externs in
      let same = initialized_same one (allocated c.store m externs) m in
      let store = store_started (initialized (allocated c.store m externs) one m) one m.start d made.starts in
      record { funcs = ap (λ (s : Store). s.funcs) store ∙ same.funcs; instances = ap (λ (s : Store). s.instances) store ∙ same.instances }

  pub instances_made : length d.store.instances ≡ length c.store.instances + 1
  instances_made = ap length names_made.instances ∙ length-append c.store.instances (made_instance c.store m externs ∷ [])

  pub no_hosts_made : HasNoHosts c.store → HasNoHosts d.store
  no_hosts_made none =
      let made = map (made_func m (length c.store.instances)) (enumerate_from 0 m.funcs) in
      subst NoHost (sym names_made.funcs) (no_host_behind c.store.funcs made none (no_host_made m (length c.store.instances) (enumerate_from 0 m.funcs)))

pub made_ready : (r : Run) (d : Configuration) (m : Module) (externs : List Extern) → Instantiated r.config m externs d → Ready r → Typed d → Ready (record r { config = d })
made_ready r d m externs made ready typed =
    record {
      typed = typed;
      no_hosts = no_hosts_made r.config d m externs made ready.no_hosts;
      beside = ready.beside;
      there = λ k n h. omega (arith, instances_made r.config d m externs made, ready.there k n h);
      few = ready.few;
    }

pub invoked_store : (c d : Configuration) (e : Extern) (values : List Val) → Invoked c e values d → d.store ≡ c.store
invoked_store c d (Func a) values h = ap (λ (x : Configuration). x.store) h.6
invoked_store c d (Table a) values h = absurd h
invoked_store c d (Memory a) values h = absurd h
invoked_store c d (Global a) values h = absurd h

pub invoked_ready : (r : Run) (d : Configuration) (e : Extern) (values : List Val) → Invoked r.config e values d → Ready r → Typed d → Ready (record r { config = d })
invoked_ready r d e values h ready typed =
    let same = invoked_store r.config d e values h in
    let P : Store → Type 0 = λ s. HasNoHosts s × ((k n : ℕ) → number_at r.numbers k ≡ Some n → n < length s.instances) in
    let all = subst P (sym same) (ready.no_hosts, ready.there) in
    record { typed = typed; no_hosts = all.0; beside = ready.beside; there = all.1; few = ready.few }
