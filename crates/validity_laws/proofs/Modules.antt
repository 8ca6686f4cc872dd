-- A module is valid, or has a first fault.
use Rattle.std.proofs.Common.{◌≡◌, ℕ, zero, suc, ◌+◌, ◌<◌, List, [], length, slice_get, get_or, Option, Some, None, IfSome, refl, sym, ap, ◌∙◌, subst, add-one, ◌⊎◌, inl, inr, arith}
use Rattle.std.proofs.lemmas.Option.{slice_get-get_or, slice_get_within}
use Rattle.wasm_syntax.specs.declared.module.Func.{Func}
use Rattle.wasm_syntax.specs.declared.module.Module.{Module}
use Rattle.wasm_syntax.specs.declared.module.Marks.{Marks}
use Rattle.wasm_typing.specs.declared.fault.ValidWord.{ValidWord}
use Rattle.wasm_typing.specs.Valid.{context_of, FuncValid, InRange, Valid}
use Rattle.wasm_typing.specs.faults.Faults.{NoFault, FirstFault, CodeFault, BodiesValid, In, StartFault, start_fault, type_fault, import_fault, func_fault, module_table_fault, module_memory_fault, global_fault, export_fault, elem_fault, segment_fault, InvalidAt, HasNoFault, Marked}
use Rattle.body_check.proofs.SectionLemmas.{NoneBefore, none_at_first, none_more, none_at_all, first_fault}
use Rattle.wasm_validate.proofs.PartsLemmas.{parts_valid, parts_none, refuted}
use Rattle.validity_laws.proofs.Bodies.{Faulty, body_decided}

-- a place and a word of which this holds
abbrev pub SomeAt : (ℕ → ValidWord → Type 0) → Type 0
SomeAt Fails = (at : ℕ) × (w : ValidWord) × Fails at w

-- ---- the entries of a section

none_is_some : {X : Type 0} (x : X) → None ≡ Some x → ⊥
none_is_some x e = cc

-- no entry before the n-th has a fault, or the section has one
abbrev Before : {X : Type 0} → (ℕ → X → Option ValidWord) → List X → List ℕ → ℕ → Type 0
Before fault xs places n = SomeAt (FirstFault fault xs places) ⊎ NoneBefore fault xs n

next : {X : Type 0} (fault : ℕ → X → Option ValidWord) (xs : List X) (places : List ℕ) (n : ℕ) (x : X) (o : Option ValidWord) → length places ≡ length xs → slice_get xs n ≡ Some x → fault n x ≡ o →
    NoneBefore fault xs n → Before fault xs places (n + 1)
next fault xs places n x None same there e none = inr (none_more fault xs n x none there e)
next fault xs places n x (Some w) same there e none = inl (get_or places n 0, w, first_fault fault xs places n x w none there e same)

behind : {X : Type 0} (fault : ℕ → X → Option ValidWord) (xs : List X) (n : ℕ) → slice_get xs n ≡ None → NoneBefore fault xs n → NoneBefore fault xs (n + 1)
behind fault xs n end none k x less there = elim (at_or_before k less) [ inl b ↦ none k x b there | inr e ↦ absurd (none_is_some x (sym end ∙ (ap (slice_get xs) (sym e) ∙ there))) ]
  where
    at_or_before : (k : ℕ) → k < n + 1 → (k < n) ⊎ (k ≡ n)
    at_or_before k h = grind arith

before : {X : Type 0} (fault : ℕ → X → Option ValidWord) (xs : List X) (places : List ℕ) → length places ≡ length xs → (n : ℕ) → Before fault xs places n
before fault xs places same zero = inr (none_at_first fault xs)
before {X} fault xs places same (suc n) = by_before (before fault xs places same n)
  where
    by_entry : (o : Option X) → slice_get xs n ≡ o → NoneBefore fault xs n → Before fault xs places (n + 1)
    by_entry None e none = inr (behind fault xs n e none)
    by_entry (Some x) e none = next fault xs places n x (fault n x) same e refl none

    by_before : Before fault xs places n → Before fault xs places (suc n)
    by_before (inl f) = inl f
    by_before (inr none) = let B : ℕ → Type 0 = λ k. Before fault xs places k in subst B (add-one n) (by_entry (slice_get xs n) refl none)

entries : {X : Type 0} (fault : ℕ → X → Option ValidWord) (xs : List X) (places : List ℕ) → length places ≡ length xs → SomeAt (FirstFault fault xs places) ⊎ NoFault fault xs
entries fault xs places same = by_all (before fault xs places same (length xs))
  where
    by_all : Before fault xs places (length xs) → SomeAt (FirstFault fault xs places) ⊎ NoFault fault xs
    by_all (inl f) = inl f
    by_all (inr none) = inr (none_at_all fault xs (length xs) (omega arith) none)

starts : (m : Module) (o : Option ℕ) (place : ℕ) → SomeAt (StartFault m o place) ⊎ IfSome o (λ f. start_fault m f ≡ None)
starts m None place = inr tt
starts m (Some f) place = by_word (start_fault m f) refl
  where
    by_word : (o : Option ValidWord) → start_fault m f ≡ o → SomeAt (StartFault m (Some f) place) ⊎ (start_fault m f ≡ None)
    by_word None e = inr e
    by_word (Some w) e = inl (place, w, (e, refl))

-- ---- the bodies

abbrev ValidBefore : Module → ℕ → Type 0
ValidBefore m n = (k : ℕ) (f : Func) → k < n → slice_get m.funcs k ≡ Some f → FuncValid m f

abbrev BodiesBefore : Module → Marks → ℕ → Type 0
BodiesBefore m k n = SomeAt (CodeFault m k.code) ⊎ ValidBefore m n

body_next : (m : Module) (k : Marks) (n : ℕ) (f : Func) (places : List ℕ) → slice_get m.funcs n ≡ Some f → slice_get k.code n ≡ Some places → ValidBefore m n →
    FuncValid m f ⊎ Faulty (context_of m f) f.body places → BodiesBefore m k (n + 1)
body_next m k n f places there marked valid (inr fault) =
    inl (fault.0, fault.1, record { number = n; func = f; there = there; before = valid; places = places; marked = marked; body = fault.2 })
body_next m k n f places there marked valid (inl here) = inr (λ j g less is. elim (at_or_before j less) [ inl b ↦ valid j g b is | inr e ↦ same j g e is ])
  where
    at_or_before : (j : ℕ) → j < n + 1 → (j < n) ⊎ (j ≡ n)
    at_or_before j h = grind arith

    one : (g : Func) → Some f ≡ Some g → f ≡ g
    one g e = cc

    same : (j : ℕ) (g : Func) → j ≡ n → slice_get m.funcs j ≡ Some g → FuncValid m g
    same j g e is = subst (FuncValid m) (one g (sym there ∙ (ap (slice_get m.funcs) (sym e) ∙ is))) here

bodies_before : (m : Module) (k : Marks) → Marked m k → (n : ℕ) → BodiesBefore m k n
bodies_before m k marked zero = inr (λ j f less there. absurd (omega (arith, less)))
bodies_before m k marked (suc n) = by_before (bodies_before m k marked n)
  where
    by_places : (f : Func) (o : Option (List ℕ)) → slice_get m.funcs n ≡ Some f → slice_get k.code n ≡ o → ValidBefore m n → BodiesBefore m k (n + 1)
    by_places f (Some places) there at valid = body_next m k n f places there at valid (body_decided (context_of m f) f.body places (marked.items n f places there at))
    by_places f None there at valid =
        let inside = slice_get_within m.funcs n f there in
        absurd (none_is_some (get_or k.code n []) (sym at ∙ slice_get-get_or k.code n [] (let l = marked.code in omega (arith, inside, l))))

    by_entry : (o : Option Func) → slice_get m.funcs n ≡ o → ValidBefore m n → BodiesBefore m k (n + 1)
    by_entry (Some f) there valid = by_places f (slice_get k.code n) there refl valid
    by_entry None end valid = inr (λ j g less is. elim (at_or_before j less) [ inl b ↦ valid j g b is | inr e ↦ absurd (none_is_some g (sym end ∙ (ap (slice_get m.funcs) (sym e) ∙ is))) ])
      where
        at_or_before : (j : ℕ) → j < n + 1 → (j < n) ⊎ (j ≡ n)
        at_or_before j h = grind arith

    by_before : BodiesBefore m k n → BodiesBefore m k (suc n)
    by_before (inl f) = inl f
    by_before (inr valid) = let B : ℕ → Type 0 = λ j. BodiesBefore m k j in subst B (add-one n) (by_entry (slice_get m.funcs n) refl valid)

bodies : (m : Module) (k : Marks) → Marked m k → SomeAt (CodeFault m k.code) ⊎ BodiesValid m
bodies m k marked = by_all (bodies_before m k marked (length m.funcs))
  where
    by_all : BodiesBefore m k (length m.funcs) → SomeAt (CodeFault m k.code) ⊎ BodiesValid m
    by_all (inl f) = inl f
    by_all (inr valid) = inr (λ n f there. valid n f (slice_get_within m.funcs n f there) there)

-- ---- the whole

-- a section, and what comes after it
then_later : (Fails Later : ℕ → ValidWord → Type 0) (Holds Rest : Type 0) → SomeAt Fails ⊎ Holds → SomeAt Later ⊎ Rest →
    SomeAt (λ at w. In (Fails at w) Holds (Later at w)) ⊎ (Holds × Rest)
then_later Fails Later Holds Rest (inl f) later = inl (f.0, f.1, inl f.2)
then_later Fails Later Holds Rest (inr h) (inl f) = inl (f.0, f.1, inr (h, f.2))
then_later Fails Later Holds Rest (inr h) (inr r) = inr (h, r)

faults : (m : Module) (k : Marks) → Marked m k → SomeAt (InvalidAt m k) ⊎ HasNoFault m
faults m k marked =
    let i10 = then_later _ _ _ _ (bodies m k marked) (entries (λ n. segment_fault m) m.segments k.segments marked.segments) in
    let i9 = then_later _ _ _ _ (entries (λ n. elem_fault m) m.elems k.elems marked.elems) i10 in
    let i8 = then_later _ _ _ _ (starts m m.start k.start) i9 in
    let i7 = then_later _ _ _ _ (entries (export_fault m) m.exports k.exports marked.exports) i8 in
    let i6 = then_later _ _ _ _ (entries (λ n. global_fault m) m.globals k.globals marked.globals) i7 in
    let i5 = then_later _ _ _ _ (entries (module_memory_fault m) m.memories k.memories marked.memories) i6 in
    let i4 = then_later _ _ _ _ (entries (module_table_fault m) m.tables k.tables marked.tables) i5 in
    let i3 = then_later _ _ _ _ (entries (λ n. func_fault m) m.funcs k.funcs marked.funcs) i4 in
    let i2 = then_later _ _ _ _ (entries (import_fault m) m.imports k.imports marked.imports) i3 in
    let i1 = then_later _ _ _ _ (entries (λ n. type_fault) m.types k.types marked.types) i2 in
    elim i1 [
      | inl f ↦ inl f
      | inr h ↦ inr (record {
        types = h.0;
        imports = h.1.0;
        funcs = h.1.1.0;
        tables = h.1.1.1.0;
        memories = h.1.1.1.1.0;
        globals = h.1.1.1.1.1.0;
        exports = h.1.1.1.1.1.1.0;
        start = h.1.1.1.1.1.1.1.0;
        elems = h.1.1.1.1.1.1.1.1.0;
        bodies = h.1.1.1.1.1.1.1.1.1.0;
        segments = h.1.1.1.1.1.1.1.1.1.1;
      })
    ]

pub valid_or_fault : (m : Module) (k : Marks) → Marked m k → InRange m → Valid m ⊎ ((at : ℕ) × (w : ValidWord) × InvalidAt m k at w)
valid_or_fault m k marked ranges = by_faults (faults m k marked)
  where
    by_faults : SomeAt (InvalidAt m k) ⊎ HasNoFault m → Valid m ⊎ ((at : ℕ) × (w : ValidWord) × InvalidAt m k at w)
    by_faults (inl f) = inr f
    by_faults (inr none) = inl (record { ranges = ranges; parts = parts_valid m none })

pub never_both : (m : Module) (k : Marks) (at : ℕ) (w : ValidWord) → Valid m → InvalidAt m k at w → ⊥
never_both m k at w valid fault = refuted m k at w fault (parts_none m valid.parts)
