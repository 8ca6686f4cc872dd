-- What loads come to.
use Rattle.std.proofs.Common.{◌≡◌, inl, inr, ℕ, suc, ◌+◌, ◌<◌, ◌≤◌, List, [], ◌∷◌, ◌++◌, drop, drop-cons, get_or, length, length-append, Option, Some, None, Result, Ok, Err, refl, sym, ap, subst, ◌∙◌, append_assoc, append-nil, arith, add-one}
use Rattle.std.proofs.Math.ListN.{drop_of_length-le}
use Rattle.std.specs.Prelude.{IfSome, IsSome, IsSomeAnd}
use Rattle.rw_edge.specs.Files.{contents_of, IfContents, IsLonger}
use Rattle.rw_edge.specs.Count.{Faulted}
use Rattle.wasm_syntax.specs.declared.module.Module.{Module}
use Rattle.wasm_syntax.specs.declared.module.Marks.{Marks}
use Rattle.wasm_typing.specs.declared.fault.ValidFault.{ValidFault}
use Rattle.wasm_typing.specs.declared.fault.ValidFault.TheVariants as valid
use Rattle.wasm_typing.specs.Valid.{Valid}
use Rattle.wasm_typing.specs.faults.Faults.{InvalidAt}
use Rattle.binary_grammar.specs.declared.fault.DecodeFault.{DecodeFault}
use Rattle.binary_grammar.specs.declared.fault.DecodeFault.TheVariants as decode
use Rattle.binary_grammar.specs.ModuleGrammar.{Spells, InLimits}
use Rattle.binary_grammar.specs.Plans.{Fault, Refused}
use Rattle.binary_grammar.specs.Bounds.{the_bounds}
use Rattle.body_check.specs.words.Answers.{Answers}
use Rattle.script_text.specs.declared.script.Load.{Load}
use Rattle.script_text.specs.Grammar.{modules_of}
use Rattle.wasm_link.specs.declared.fault.LinkFault.{LinkFault}
use Rattle.wasm_link.specs.declared.fault.LinkFault.TheVariants.{Shelf, TooLong, Decode, Invalid, UnknownName, OutOfMemory}
use Rattle.wasm_link.specs.declared.loading.Loaded.{Loaded}
use Rattle.wasm_link.specs.Loading.{Files, IsLoaded, IsNoMemory, AreLoaded, IsFirstRefused, module_limit}
use Rattle.wasm_link.specs.words.Loads.{DecodeTold, InvalidTold, FileOf, IsInvalidSo, CheckedOf, ModuleOf, LoadOf, MoreOf, LoadsOf, AreNew, Continues}

-- ---- one load

-- a module that isn't valid
pub told_invalid : {A : Type 0} (holds : A → Type 0) (load : Load) (m : Module) (k : Marks) (fault : ValidFault) (e : LinkFault) → InvalidTold load fault e →
    Answers holds (λ at w. InvalidAt m k at w × (Valid m → ⊥)) (Err fault) → CheckedOf load m k (Err e)
told_invalid holds load m k (valid.Invalid at w) (Invalid name f) t a = (t.0, subst (IsInvalidSo load m k) (sym t.1) a.0)
told_invalid holds load m k valid.OutOfMemory (Invalid name f) t a = absurd t.2
told_invalid holds load m k fault OutOfMemory t a = tt
told_invalid holds load m k fault Shelf t a = absurd t
told_invalid holds load m k fault (TooLong name) t a = absurd t
told_invalid holds load m k fault (Decode name f) t a = absurd t
told_invalid holds load m k fault (UnknownName at) t a = absurd t

-- bytes that have a fault
pub told_undecoded : (load : Load) (bytes : List ℕ) (fault : DecodeFault) (e : LinkFault) → DecodeTold load fault e → Refused the_bounds bytes fault → ModuleOf load bytes (Err e)
told_undecoded load bytes (decode.Malformed at w) (Decode name f) t r =
    let P : DecodeFault → Type 0 = λ g. Fault the_bounds bytes g × IsNoMemory g in
    let h = subst P (sym t.1) (r, tt) in (t.0, h.0, h.1)
told_undecoded load bytes (decode.Limit at w) (Decode name f) t r =
    let P : DecodeFault → Type 0 = λ g. Fault the_bounds bytes g × IsNoMemory g in
    let h = subst P (sym t.1) (r, tt) in (t.0, h.0, h.1)
told_undecoded load bytes decode.OutOfMemory (Decode name f) t r = absurd t.2
told_undecoded load bytes fault OutOfMemory t r = tt
told_undecoded load bytes fault Shelf t r = absurd t
told_undecoded load bytes fault (TooLong name) t r = absurd t
told_undecoded load bytes fault (Invalid name f) t r = absurd t
told_undecoded load bytes fault (UnknownName at) t r = absurd t

-- bytes that spell a module
pub told_checked : (load : Load) (bytes : List ℕ) (m : Module) (k : Marks) (r : Result Module LinkFault) → Spells bytes m k → InLimits the_bounds m → CheckedOf load m k r → ModuleOf load bytes r
told_checked load bytes m k (Ok v) s w c =
    let P : Module → Type 0 = λ n. Spells bytes n k × InLimits the_bounds n × Valid n in
    let h = subst P (sym c.0) (s, w, c.1) in (k, h.0, h.1, h.2)
told_checked load bytes m k (Err (Invalid name f)) s w c = (c.0, (m, k, s, w, c.1))
told_checked load bytes m k (Err OutOfMemory) s w c = tt
told_checked load bytes m k (Err Shelf) s w c = absurd c
told_checked load bytes m k (Err (TooLong name)) s w c = absurd c
told_checked load bytes m k (Err (Decode name f)) s w c = absurd c
told_checked load bytes m k (Err (UnknownName at)) s w c = absurd c

contents_are : (files : Files) (name bytes : List ℕ) → IsSomeAnd (contents_of files name) (λ contents. bytes ≡ contents) → contents_of files name ≡ Some bytes
contents_are files name bytes h = by (contents_of files name) h
  where
    by : (o : Option (List ℕ)) → IsSomeAnd o (λ contents. bytes ≡ contents) → o ≡ Some bytes
    by None h = absurd h
    by (Some c) h = ap Some (sym h)

-- a file that was read
pub told_module : (told : Option Files) (faulted : Type 0) (load : Load) (bytes : List ℕ) (r : Result Module LinkFault) →
    IfContents told load.file (λ contents. bytes ≡ contents) → length bytes ≤ module_limit → ModuleOf load bytes r → LoadOf told faulted load r
told_module None faulted load bytes (Ok v) whole le m = tt
told_module (Some files) faulted load bytes (Ok v) whole le m =
    record { bytes = bytes; is_read = (contents_are files load.file bytes whole, le); marks = m.0; spells = m.1; within = m.2; valid = m.3 }
told_module told faulted load bytes (Err Shelf) whole le m = absurd m
told_module told faulted load bytes (Err (TooLong name)) whole le m = absurd m
told_module None faulted load bytes (Err (Decode name f)) whole le m = tt
told_module (Some files) faulted load bytes (Err (Decode name f)) whole le m =
    (m.0, (bytes, (contents_are files load.file bytes whole, le), m.1, m.2))
told_module None faulted load bytes (Err (Invalid name f)) whole le m = tt
told_module (Some files) faulted load bytes (Err (Invalid name (valid.Invalid at w))) whole le m =
    (m.0, (bytes, m.1.0, m.1.1, (contents_are files load.file bytes whole, le), m.1.2, m.1.3, m.1.4))
told_module (Some files) faulted load bytes (Err (Invalid name valid.OutOfMemory)) whole le m = absurd m.1.4
told_module told faulted load bytes (Err (UnknownName at)) whole le m = absurd m
told_module told faulted load bytes (Err OutOfMemory) whole le m = tt

longer_than : (told : Option Files) (name : List ℕ) → (IsSome told → IsLonger told name module_limit) → IfSome told (λ files. (bytes : List ℕ) × (contents_of files name ≡ Some bytes) × (module_limit < length bytes))
longer_than None name h = tt
longer_than (Some files) name h = by (contents_of files name) (h refl)
  where
    by : (o : Option (List ℕ)) → IsSomeAnd o (λ contents. module_limit < length contents) → (bytes : List ℕ) × (o ≡ Some bytes) × (module_limit < length bytes)
    by None h = absurd h
    by (Some c) h = (c, refl, h)

-- a file that wasn't
pub told_unread : (told : Option Files) (faulted : Type 0) (load : Load) (e : LinkFault) → FileOf told faulted load (Err e) → LoadOf told faulted load (Err e)
told_unread told faulted load Shelf (inl h) = inl h
told_unread None faulted load Shelf (inr h) = absurd h
told_unread (Some files) faulted load Shelf (inr h) = inr h
told_unread None faulted load (TooLong name) h = tt
told_unread (Some files) faulted load (TooLong name) h = (h.0, longer_than (Some files) load.file h.1)
told_unread told faulted load (Decode name f) h = absurd h
told_unread told faulted load (Invalid name f) h = absurd h
told_unread told faulted load (UnknownName at) h = absurd h
told_unread told faulted load OutOfMemory h = tt

-- ---- all loads

pub begins : (told : Option Files) (loads : List Load) → AreNew [] loads → Continues told loads [] [] loads
begins None loads new = record { loaded = tt; refused = tt; named = refl; beside = refl; new = new }
begins (Some files) loads new = record { loaded = λ more h. h; refused = λ e h. h; named = refl; beside = refl; new = new }

pub at_item : {A : Type 0} (xs : List A) (n : ℕ) (x : A) → n < length xs → x ≡ get_or xs n x → drop n xs ≡ x ∷ drop (n + 1) xs
at_item xs n x within is =
    let P : ℕ → Type 0 = λ k. drop n xs ≡ x ∷ drop k xs in
    subst P (sym (add-one n)) (drop-cons xs n x within ∙ ap (λ y. y ∷ drop (suc n) xs) (sym is))

grown : {A B : Type 0} (xs xs' : List A) (ys ys' : List B) (x : A) (y : B) → xs' ≡ xs ++ x ∷ [] → ys' ≡ ys ++ y ∷ [] → length xs ≡ length ys → length xs' ≡ length ys'
grown xs xs' ys ys' x y a b h =
    ap length a ∙ length-append xs (x ∷ []) ∙ ap (λ n. n + 1) h ∙ sym (length-append ys (y ∷ [])) ∙ sym (ap length b)

pub goes_on : (told : Option Files) (faulted : Type 0) (loads : List Load) (before after : Loaded) (load : Load) (rest : List Load) →
    Continues told loads before.names before.modules (load ∷ rest) → MoreOf told faulted load before after (Ok tt) → Continues told loads after.names after.modules rest
goes_on told faulted loads before after load rest c m =
    let named : after.names ++ modules_of rest ≡ modules_of loads =
    ap (λ z. z ++ modules_of rest) m.2 ∙ append_assoc before.names (load.name ∷ []) (modules_of rest) ∙ c.named in
    let N : List (List ℕ) → Type 0 = λ z. AreNew z rest in
    record {
      loaded = loaded_on told m.1 c.loaded;
      refused = refused_on told m.1 c.refused;
      named = named;
      beside = grown before.modules after.modules before.names after.names m.0 load.name m.3 m.2 c.beside;
      new = subst N (sym m.2) c.new.1;
    }
  where
    moved : (more : List Module) → before.modules ++ (m.0 ∷ more) ≡ after.modules ++ more
    moved more = sym (append_assoc before.modules (m.0 ∷ []) more) ∙ ap (λ z. z ++ more) (sym m.3)

    loaded_on : (told : Option Files) → IfSome told (λ files. IsLoaded files load m.0) →
        IfSome told (λ files. (more : List Module) → AreLoaded files (load ∷ rest) more → AreLoaded files loads (before.modules ++ more)) →
        IfSome told (λ files. (more : List Module) → AreLoaded files rest more → AreLoaded files loads (after.modules ++ more))
    loaded_on None is h = tt
    loaded_on (Some files) is h = λ more are. subst (AreLoaded files loads) (moved more) (h (m.0 ∷ more) (is, are))

    refused_on : (told : Option Files) → IfSome told (λ files. IsLoaded files load m.0) →
        IfSome told (λ files. (fault : LinkFault) → IsFirstRefused files (load ∷ rest) fault → IsFirstRefused files loads fault) →
        IfSome told (λ files. (fault : LinkFault) → IsFirstRefused files rest fault → IsFirstRefused files loads fault)
    refused_on None is h = tt
    refused_on (Some files) is h = λ fault first. h fault (inr (m.0, is, first))

pub all_loaded : (told : Option Files) (faulted : Type 0) (loads : List Load) (l : Loaded) → Continues told loads l.names l.modules [] → LoadsOf told faulted loads (Ok l)
all_loaded told faulted loads l c = (done told c.loaded, sym (append-nil l.names) ∙ c.named, c.beside)
  where
    done : (told : Option Files) → IfSome told (λ files. (more : List Module) → AreLoaded files [] more → AreLoaded files loads (l.modules ++ more)) →
        IfSome told (λ files. AreLoaded files loads l.modules)
    done None h = tt
    done (Some files) h = subst (AreLoaded files loads) (append-nil l.modules) (h [] tt)

pub stops : (told : Option Files) (old mid new : ℕ) (loads : List Load) (l : Loaded) (load : Load) (rest : List Load) (e : LinkFault) →
    Continues told loads l.names l.modules (load ∷ rest) → old ≤ mid → LoadOf told (Faulted mid new) load (Err e) → LoadsOf told (Faulted old new) loads (Err e)
stops told old mid new loads l load rest Shelf c le (inl (inl rose)) = inl (inl (omega (arith, le, rose)))
stops told old mid new loads l load rest Shelf c le (inl (inr last)) = inl (inr last)
stops None old mid new loads l load rest Shelf c le (inr h) = absurd h
stops (Some files) old mid new loads l load rest Shelf c le (inr h) = inr (c.refused Shelf (inl h))
stops told old mid new loads l load rest (UnknownName at) c le h = absurd h
stops told old mid new loads l load rest OutOfMemory c le h = tt
stops None old mid new loads l load rest (TooLong name) c le h = tt
stops (Some files) old mid new loads l load rest (TooLong name) c le h = c.refused (TooLong name) (inl h)
stops None old mid new loads l load rest (Decode name f) c le h = tt
stops (Some files) old mid new loads l load rest (Decode name f) c le h = c.refused (Decode name f) (inl h)
stops None old mid new loads l load rest (Invalid name f) c le h = tt
stops (Some files) old mid new loads l load rest (Invalid name f) c le h = c.refused (Invalid name f) (inl h)

pub nothing_left : {A : Type 0} (xs : List A) (n : ℕ) → length xs ≤ n → drop n xs ≡ []
nothing_left xs n le = drop_of_length-le xs le
