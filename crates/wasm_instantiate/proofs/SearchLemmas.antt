-- Searches of lists.
use Rattle.std.proofs.Common.{◌≡◌, ℕ, ◌+◌, ◌<◌, ◌≤◌, ◌⊎◌, inl, inr, Bool, true, false, IsTrue, List, Some, length, get_or, slice_get, refl, sym, ap, subst, ◌∙◌, arith}
use Rattle.std.proofs.lemmas.Option.{slice_get-get_or, slice_get_within}
use Rattle.wasm_store.specs.declared.store.Extern.{Extern}
use Rattle.wasm_store.specs.declared.store.Extern.TheVariants.{Func, Table, Memory, Global}
use Rattle.wasm_store.specs.declared.store.Instance.{Instance}
use Rattle.wasm_store.specs.declared.store.Store.{Store}
use Rattle.wasm_sessions.specs.Pool.{IsExported, IsHostFunc, IsSharedByTable, InReach}
use Rattle.wasm_instantiate.specs.words.Finding.{IsAmong, Shares, IsSharedBy, Reaches, ReachesAmong, IsReached}

-- What holds of no item before the n-th.
abbrev pub NoneBefore : {A : Type 0} → (A → Type 0) → List A → ℕ → Type 0
NoneBefore {A} P xs n = (k : ℕ) (x : A) → k < n → slice_get xs k ≡ Some x → P x → ⊥

pub item_is : {A : Type 0} → (xs slice : List A) (n : ℕ) (y : A) → slice ≡ xs → n < length slice → y ≡ get_or slice n y → slice_get xs n ≡ Some y
item_is xs slice n y same within read =
    ap (λ l. slice_get l n) (sym same) ∙ slice_get-get_or slice n y within ∙ ap (λ x. Some x) (sym read)

at_or_before : (k n : ℕ) → k < n + 1 → (k < n) ⊎ (k ≡ n)
at_or_before k n h = grind arith

pub none_more : {A : Type 0} → (P : A → Type 0) (xs slice : List A) (n : ℕ) (y : A) → NoneBefore P xs n → slice ≡ xs → n < length slice → y ≡ get_or slice n y → (P y → ⊥) → NoneBefore P xs (n + 1)
none_more P xs slice n y before same within read fails k x h there holds =
    elim (at_or_before k n h) [
      | inl less ↦ before k x less there holds
      | inr equal ↦ let is : x ≡ y = cc (item_is xs slice n y same within read, there, equal) in fails (subst P is holds)
    ]

pub none_at_all : {A : Type 0} → (P : A → Type 0) (xs slice : List A) (n : ℕ) → NoneBefore P xs n → slice ≡ xs → length slice ≤ n → (k : ℕ) (x : A) → slice_get xs k ≡ Some x → P x → ⊥
none_at_all P xs slice n before same all k x there holds =
    let inside = slice_get_within xs k x there in
    let long : length slice ≡ length xs = ap length same in
    before k x (omega (arith, inside, long, all)) there holds

pub fails : (r : Bool) {P : Type 0} → (P → IsTrue r) → r ≡ false → P → ⊥
fails true f h p = cc
fails false f h p = cc (f p)

-- ---- externs among exports

pub among : (exports : List (List ℕ × Extern)) (n : ℕ) (item : List ℕ × Extern) (wanted : Extern) → n < length exports → item ≡ get_or exports n item → item.1 ≡ wanted → IsAmong exports wanted
among exports n item wanted within read is =
    record { place = n; name = item.0; there = item_is exports exports n item refl within read ∙ ap (λ e. Some (item.0, e)) is }

pub among_none : (exports : List (List ℕ × Extern)) (wanted : Extern) → ((k : ℕ) (x : List ℕ × Extern) → slice_get exports k ≡ Some x → x.1 ≡ wanted → ⊥) → IsAmong exports wanted → ⊥
among_none exports wanted none h = none h.place (h.name, wanted) h.there refl

-- ---- exports of instances

pub exported : (s : Store) (slice : List Instance) (n : ℕ) (i : Instance) (wanted : Extern) → slice ≡ s.instances → n < length slice → i ≡ get_or slice n i → IsAmong i.exports wanted → IsExported s wanted
exported s slice n i wanted same within read h =
    record { number = n; instance = i; there = item_is s.instances slice n i same within read; place = h.place; name = h.name; export_there = h.there }

pub exported_none : (s : Store) (wanted : Extern) → ((k : ℕ) (i : Instance) → slice_get s.instances k ≡ Some i → IsAmong i.exports wanted → ⊥) → IsExported s wanted → ⊥
exported_none s wanted none h = none h.number h.instance h.there (record { place = h.place; name = h.name; there = h.export_there })

-- ---- functions within reach

pub shared : (s : Store) (slice : List Instance) (n : ℕ) (i : Instance) (table a : ℕ) → slice ≡ s.instances → n < length slice → i ≡ get_or slice n i → Shares i table a → IsSharedBy s table a
shared s slice n i table a same within read h =
    record { number = n; instance = i; there = item_is s.instances slice n i same within read; shares = h }

pub shared_none : (s : Store) (table a : ℕ) → ((k : ℕ) (i : Instance) → slice_get s.instances k ≡ Some i → Shares i table a → ⊥) → IsSharedBy s table a → ⊥
shared_none s table a none h = none h.number h.instance h.there h.shares

pub reaches_among : (s : Store) (exports : List (List ℕ × Extern)) (n : ℕ) (item : List ℕ × Extern) (a : ℕ) → n < length exports → item ≡ get_or exports n item → Reaches s item.1 a → ReachesAmong s exports a
reaches_among s exports n item a within read h =
    record { extern = item.1; among = among exports n item item.1 within read refl; reaches = h }

pub reaches_among_none : (s : Store) (exports : List (List ℕ × Extern)) (a : ℕ) → ((k : ℕ) (x : List ℕ × Extern) → slice_get exports k ≡ Some x → Reaches s x.1 a → ⊥) → ReachesAmong s exports a → ⊥
reaches_among_none s exports a none h = none h.among.place (h.among.name, h.extern) h.among.there h.reaches

pub reached : (s : Store) (slice : List Instance) (n : ℕ) (i : Instance) (a : ℕ) → slice ≡ s.instances → n < length slice → i ≡ get_or slice n i → ReachesAmong s i.exports a → IsReached s a
reached s slice n i a same within read h =
    record { number = n; instance = i; there = item_is s.instances slice n i same within read; reaches = h }

pub reached_none : (s : Store) (a : ℕ) → ((k : ℕ) (i : Instance) → slice_get s.instances k ≡ Some i → ReachesAmong s i.exports a → ⊥) → IsReached s a → ⊥
reached_none s a none h = none h.number h.instance h.there h.reaches

-- An export that brings a function within reach, and the other way round.
export_of : (s : Store) (e : Extern) (a : ℕ) → IsExported s e → Reaches s e a → InReach s a
export_of s (Func own) a h r = inl (inl (subst (λ n. IsExported s (Func n)) r h))
export_of s (Table table) a h r =
    inr (record { number = r.number; instance = r.instance; there = r.there; table = table; table_is = r.shares.table_is; in_pool = inl h; place = r.shares.place; named = r.shares.named })
export_of s (Memory m) a h r = absurd r
export_of s (Global g) a h r = absurd r

pub reached_is : (s : Store) (a : ℕ) → IsReached s a → InReach s a
reached_is s a h =
    let x = h.reaches in
    export_of s x.extern a (record { number = h.number; instance = h.instance; there = h.there; place = x.among.place; name = x.among.name; export_there = x.among.there }) x.reaches

by_export : (s : Store) (e : Extern) (a : ℕ) → IsExported s e → Reaches s e a → IsReached s a
by_export s e a h r =
    record { number = h.number; instance = h.instance; there = h.there; reaches = record { extern = e; among = record { place = h.place; name = h.name; there = h.export_there }; reaches = r } }

by_table : (s : Store) (a : ℕ) → IsSharedByTable s a → IsReached s a ⊎ IsHostFunc s (Func a)
by_table s a h =
    elim h.in_pool [
      | inl x ↦ inl (by_export s (Table h.table) a x (record { number = h.number; instance = h.instance; there = h.there; shares = record { table_is = h.table_is; place = h.place; named = h.named } }))
      | inr x ↦ absurd x
    ]

pub reach_is : (s : Store) (a : ℕ) → InReach s a → IsReached s a ⊎ IsHostFunc s (Func a)
reach_is s a h =
    elim h [
      | inl p ↦ elim p [ inl x ↦ inl (by_export s (Func a) a x refl) | inr x ↦ inr x ]
      | inr t ↦ by_table s a t
    ]
