-- The configurations that a script goes through are the moments of a session.
use Rattle.std.proofs.Common.{◌≡◌, ℕ, zero, suc, ◌+◌, Bool, List, [], ◌∷◌, ◌++◌, Option, Some, None, Result, Ok, slice_get, option_map, refl, sym, ap, subst, ◌∙◌, add-one, All, inl}
use Rattle.std.specs.Prelude.{find, option_and_then, nat_eq}
use Rattle.std.specs.Cmp.Lexicographic.{pointwise}
use Rattle.std.specs.List.{position_or_len, flat_map}
use Rattle.std.proofs.lemmas.List.Folds.{find_at}
use Rattle.std.proofs.lemmas.List.Elements.{All-nil, All-push}
use Rattle.wasm_syntax.specs.declared.module.Module.{Module}
use Rattle.wasm_typing.specs.Valid.{Valid}
use Rattle.wasm_store.specs.declared.store.Extern.{Extern}
use Rattle.wasm_store.specs.declared.store.Instance.{Instance}
use Rattle.wasm_store.specs.declared.store.Store.{Store}
use Rattle.wasm_store.specs.Configuration.{Configuration, started}
use Rattle.wasm_store.specs.Readers.{export_named}
use Rattle.wasm_reduce.specs.Policies.{grows_next}
use Rattle.wasm_sessions.specs.Pool.{InPool}
use Rattle.wasm_sessions.specs.Sessions.{Follows, IsSession}
use Rattle.wasm_sessions.specs.Sessions as session
use Rattle.script_text.specs.declared.script.Load.{Load}
use Rattle.script_text.specs.declared.script.Origin.{Origin}
use Rattle.wasm_link.specs.Loading.{Files, AreLoaded}
use Rattle.wasm_link.specs.Stages.{the_policy, Live, live_number, export_at, export_named_by, found_at, and_then, externs_from, Modules, Stage, Event, Says, Lacks, Makes, Enters, Steps, Next, Goes, new_absent, new_lacks, new_refused, new_limited, new_made, call_absent, call_lacks, call_no_function, call_arguments, call_entered, stopped, frames_passed, stepped, over}
use Rattle.wasm_link.specs.Logs.{configurations_of}

some_same : {A : Type 0} (x y : A) → Some x ≡ Some y → x ≡ y
some_same x y e = cc

ok_same : {A : Type 0} (x y : A) → ◌≡◌ {A = Result A ℕ} (Ok x) (Ok y) → x ≡ y
ok_same x y e = cc

-- ---- what is looked up is in the pool

pub inner : {A B : Type 0} (f : A → Option B) (o : Option A) (y : B) → option_and_then f o ≡ Some y → (x : A) × (o ≡ Some x) × (f x ≡ Some y)
inner f None y e = absurd cc
inner f (Some x) y e = (x, refl, e)

mapped : {A B : Type 0} (f : A → B) (o : Option A) (y : B) → option_map f o ≡ Some y → (x : A) × (o ≡ Some x) × (f x ≡ y)
mapped f None y e = absurd cc
mapped f (Some x) y e = (x, refl, some_same (f x) y e)

exported : (s : Store) (number : ℕ) (i : Instance) (name : List ℕ) (e : Extern) → slice_get s.instances number ≡ Some i → export_named i name ≡ Some e → InPool s e
exported s number i name e there named =
    let p : List ℕ × Extern → Bool = λ x. pointwise nat_eq x.0 name in
    let f = mapped (λ (x : List ℕ × Extern). x.1) (find p i.exports) e named in
    let place : slice_get i.exports (position_or_len p i.exports) ≡ Some f.0 = sym (find_at p i.exports) ∙ f.1 in
    let P : Extern → Type 0 = λ x. slice_get i.exports (position_or_len p i.exports) ≡ Some (f.0.0, x) in
    inl (record {
      number = number;
      instance = i;
      there = there;
      place = position_or_len p i.exports;
      name = f.0.0;
      export_there = subst P f.2 place;
    })

pub looked_up : (s : Store) (live : Live) (instance name : List ℕ) (e : Extern) → export_named_by s live instance name ≡ Some e → InPool s e
looked_up s live instance name e h =
    let n = inner (export_at s name) (live_number live instance) e h in
    let i = inner (λ (i : Instance). export_named i name) (slice_get s.instances n.0) e n.2 in
    exported s n.0 i.0 name e i.1 i.2

all_looked_up : (s : Store) (live : Live) (before : List Extern) (os : List Origin) (es : List Extern) → externs_from s live before os ≡ Ok es → All (InPool s) before → All (InPool s) es
all_looked_up s live before [] es h all = subst (All (InPool s)) (ok_same before es h) all
all_looked_up s live before (o ∷ os) es h all = by (export_named_by s live o.instance o.export) refl h (λ e f more. all_looked_up s live (before ++ e ∷ []) os es f more)
  where
    by : (found : Option Extern) → export_named_by s live o.instance o.export ≡ found →
        and_then (found_at o.at found) (λ e. externs_from s live (before ++ e ∷ []) os) ≡ Ok es →
        ((e : Extern) → externs_from s live (before ++ e ∷ []) os ≡ Ok es → All (InPool s) (before ++ e ∷ []) → All (InPool s) es) → All (InPool s) es
    by None is h go = absurd cc
    by (Some e) is h go = go e h (All-push (InPool s) before e all (looked_up s live o.instance o.export e is))

-- ---- one configuration follows another

abbrev AreValid : Modules → Type 0
AreValid ms = (k : ℕ) (m : Module) → slice_get ms.modules k ≡ Some m → Valid m

abbrev Linked : Configuration → List Configuration → Type 0
Linked c [] = Unit {0}
Linked c (d ∷ ds) = Follows c d × Linked d ds

abbrev With : Configuration → Event → List Configuration → List Configuration
With c e ds = configurations_of e ++ ds

-- what an event adds follows, and the stage has the last configuration
abbrev Adds : Configuration → Event → Configuration → Type 0
Adds c (Says line) d = d ≡ c
Adds c (Lacks at) d = d ≡ c
Adds c (Makes name number m x) d = Follows c x × (d ≡ x)
Adds c (Enters x) d = Follows c x × (d ≡ x)
Adds c (Steps x) d = Follows c x × (d ≡ x)

stays : (s t u : Stage) (e : Event) (line : List ℕ) → e ≡ Says line → t ≡ u → u.config ≡ s.config → Adds s.config e t.config
stays s t u e line is after same = subst (λ e. Adds s.config e t.config) (sym is) (ap (λ (z : Stage). z.config) after ∙ same)

stays_lacking : (s t u : Stage) (e : Event) (at : ℕ) → e ≡ Lacks at → t ≡ u → u.config ≡ s.config → Adds s.config e t.config
stays_lacking s t u e at is after same = subst (λ e. Adds s.config e t.config) (sym is) (ap (λ (z : Stage). z.config) after ∙ same)

adds : (ms : Modules) (s : Stage) (e : Event) (t : Stage) → AreValid ms → Next ms s e t → Adds s.config e t.config
adds ms s e t valid (new_absent i m from rest a b c is after) = stays s t _ e _ is after refl
adds ms s e t valid (new_lacks i m from rest at a b c d is after) = stays_lacking s t _ e at is after refl
adds ms s e t valid (new_refused i m from rest externs md fault a b c d f g h is after) = stays s t _ e _ is after refl
adds ms s e t valid (new_limited i m from rest externs md a b c d f g is after) = stays s t _ e _ is after refl
adds ms s e t valid (new_made i m from rest externs md d a b c looked named made within is after) =
    let k = inner (slice_get ms.modules) _ md named in
    let pool = all_looked_up s.config.store s.live [] from externs looked (All-nil (InPool s.config.store)) in
    let follows : Follows s.config d = (session.Instantiates md externs, (valid k.0 md k.2, pool, made)) in
    subst (λ e. Adds s.config e t.config) (sym is) (follows, ap (λ (z : Stage). z.config) after)
adds ms s e t valid (call_absent i x at args rest a b c is after) = stays s t _ e _ is after refl
adds ms s e t valid (call_lacks i x at args rest number a b c d is after) = stays_lacking s t _ e at is after refl
adds ms s e t valid (call_no_function i x at args rest extern a b c d is after) = stays s t _ e _ is after refl
adds ms s e t valid (call_arguments i x at args rest extern a b c d is after) = stays s t _ e _ is after refl
adds ms s e t valid (call_entered i x at args rest extern d a b named invoked is after) =
    let follows : Follows s.config d = (session.Invokes extern args, (looked_up s.config.store s.live i x extern named, invoked)) in
    subst (λ e. Adds s.config e t.config) (sym is) (follows, ap (λ (z : Stage). z.config) after)
adds ms s e t valid (stopped doing a b c is after) = stays s t _ e _ is after refl
adds ms s e t valid (frames_passed doing n a b c d is after) = stays s t _ e _ is after refl
adds ms s e t valid (stepped doing n d a b c f step is after) =
    let follows : Follows s.config d = (session.Steps, (grows_next the_policy s.config.store s.config.frames, step)) in
    subst (λ e. Adds s.config e t.config) (sym is) (follows, ap (λ (z : Stage). z.config) after)
adds ms s e t valid (over doing a b is after) = stays s t _ e _ is after refl

one_more : (c d : Configuration) (e : Event) (ds : List Configuration) → Adds c e d → Linked d ds → Linked c (configurations_of e ++ ds)
one_more c d (Says line) ds h more = subst (λ x. Linked x ds) h more
one_more c d (Lacks at) ds h more = subst (λ x. Linked x ds) h more
one_more c d (Makes name number m x) ds h more = (h.0, subst (λ y. Linked y ds) h.1 more)
one_more c d (Enters x) ds h more = (h.0, subst (λ y. Linked y ds) h.1 more)
one_more c d (Steps x) ds h more = (h.0, subst (λ y. Linked y ds) h.1 more)

linked : (ms : Modules) (s : Stage) (es : List Event) (t : Stage) → AreValid ms → Goes ms s es t → Linked s.config (flat_map configurations_of es)
linked ms s [] t valid h = tt
linked ms s (e ∷ es) t valid h =
    one_more s.config h.0.config e (flat_map configurations_of es) (adds ms s e h.0 valid h.1) (linked ms h.0 es t valid h.2)

followed : (c : Configuration) (ds : List Configuration) (k : ℕ) (x y : Configuration) → Linked c ds → slice_get (c ∷ ds) k ≡ Some x → slice_get (c ∷ ds) (suc k) ≡ Some y → Follows x y
followed c [] zero x y h a b = absurd cc
followed c [] (suc k) x y h a b = absurd cc
followed c (d ∷ ds) zero x y h a b =
    let P : Configuration → Type 0 = λ z. Follows z y in
    let Q : Configuration → Type 0 = λ z. Follows c z in
    subst P (some_same c x a) (subst Q (some_same d y b) h.0)
followed c (d ∷ ds) (suc k) x y h a b = followed d ds k x y h.1 a b

later : (ds : List Configuration) (k : ℕ) (d : Configuration) → slice_get (started ∷ ds) (k + 1) ≡ Some d → slice_get (started ∷ ds) (suc k) ≡ Some d
later ds k d h = let P : ℕ → Type 0 = λ n. slice_get (started ∷ ds) n ≡ Some d in subst P (add-one k) h

pub linked_is_session : (ms : Modules) (s : Stage) (es : List Event) (t : Stage) → AreValid ms → s.config ≡ started → Goes ms s es t → IsSession (started ∷ flat_map configurations_of es)
linked_is_session ms s es t valid first h =
    let ds = flat_map configurations_of es in
    let so : Linked started ds = subst (λ c. Linked c ds) first (linked ms s es t valid h) in
    record { first = refl; next = λ k c d a b. followed started ds k c d so a (later ds k d b) }

pub loaded_valid : (files : Files) (ls : List Load) (ms : List Module) (k : ℕ) (m : Module) → AreLoaded files ls ms → slice_get ms k ≡ Some m → Valid m
loaded_valid files [] [] k m h there = absurd cc
loaded_valid files [] (n ∷ ms) k m h there = absurd h
loaded_valid files (l ∷ ls) [] k m h there = absurd h
loaded_valid files (l ∷ ls) (n ∷ ms) zero m h there = subst Valid (some_same n m there) h.0.valid
loaded_valid files (l ∷ ls) (n ∷ ms) (suc k) m h there = loaded_valid files ls ms k m h.1 there
