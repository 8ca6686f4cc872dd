-- A script has one answer over the same files.
use Rattle.std.proofs.Common.{◌≡◌, ◌⊎◌, inl, inr, ℕ, ◌<◌, ◌≤◌, List, [], ◌∷◌, length, Option, Some, None, Result, Ok, Err, refl, sym, ap, subst, ◌∙◌, arith}
use Rattle.std.specs.Prelude.{IsSome}
use Rattle.rw_edge.specs.Files.{contents_of}
use Rattle.wasm_syntax.specs.declared.module.Module.{Module}
use Rattle.wasm_syntax.specs.declared.module.Marks.{Marks}
use Rattle.binary_grammar.specs.declared.fault.DecodeFault.{DecodeFault}
use Rattle.binary_grammar.specs.declared.section.Decoded.{Decoded}
use Rattle.binary_grammar.specs.words.SectionReading.{module_at}
use Rattle.binary_grammar.specs.ModuleGrammar.{Spells, InLimits}
use Rattle.binary_grammar.specs.Plans.{Fault}
use Rattle.binary_grammar.specs.Bounds.{the_bounds}
use Rattle.binary_grammar.proofs.UniqueLaws.{one_module}
use Rattle.binary_grammar.proofs.ModuleLaws.{module_again}
use Rattle.binary_grammar.proofs.PlanWhole.{stops_module}
use Rattle.wasm_typing.specs.declared.fault.ValidFault.TheVariants as valid
use Rattle.wasm_typing.specs.declared.fault.ValidWord.{ValidWord}
use Rattle.wasm_typing.specs.Valid.{Valid}
use Rattle.wasm_typing.specs.faults.Faults.{InvalidAt}
use Rattle.validity_laws.proofs.InvalidLaws.{invalid_once, valid_is_not_invalid}
use Rattle.wasm_instantiate.specs.Observers.{Eyes}
use Rattle.script_text.specs.declared.script.Load.{Load}
use Rattle.script_text.specs.declared.script.Script.{Script}
use Rattle.wasm_link.specs.declared.fault.LinkFault.{LinkFault}
use Rattle.wasm_link.specs.declared.fault.LinkFault.TheVariants.{Shelf, TooLong, Decode, Invalid, UnknownName, OutOfMemory}
use Rattle.wasm_link.specs.declared.log.Log.{Log}
use Rattle.wasm_link.specs.Loading.{Files, IsLoaded, IsRefusedLoad, AreLoaded, IsFirstRefused, module_limit}
use Rattle.wasm_link.specs.Stages.{Modules, Stage, IsOver, Event, first_stage, Goes}
use Rattle.wasm_link.specs.Watching.{Watch, fresh, heard_unless, watched}
use Rattle.wasm_link.specs.Logs.{modules_in, blind, Watches, ScriptLog, ScriptLacks}
use Rattle.wasm_link.specs.Answers.{ScriptAnswers}
use Rattle.wasm_link.proofs.Determined.{Way, next_once, no_next}

same_some : {A : Type 0} (o : Option A) (x y : A) → o ≡ Some x → o ≡ Some y → x ≡ y
same_some o x y a b = cc

some_not_none : {A : Type 0} (o : Option A) (x : A) → o ≡ Some x → o ≡ None → ⊥
some_not_none o x a b = cc

-- ---- one load

one_fault : (bytes : List ℕ) (fault other : DecodeFault) → Fault the_bounds bytes fault → Fault the_bounds bytes other → fault ≡ other
one_fault bytes fault other f g =
    let one : module_at the_bounds bytes ≡ Err fault = (stops_module the_bounds bytes fault).1 f in
    let two : module_at the_bounds bytes ≡ Err other = (stops_module the_bounds bytes other).1 g in
    cc

no_fault : (bytes : List ℕ) (m : Module) (k : Marks) (fault : DecodeFault) → Spells bytes m k → InLimits the_bounds m → Fault the_bounds bytes fault → ⊥
no_fault bytes m k fault spelled within f =
    let read : module_at the_bounds bytes ≡ Ok (record { «module» = m; marks = k }) = module_again the_bounds bytes m k spelled within in
    let stops : module_at the_bounds bytes ≡ Err fault = (stops_module the_bounds bytes fault).1 f in
    never (record { «module» = m; marks = k }) fault (sym read ∙ stops)
  where
    never : (x : Decoded) (e : DecodeFault) → Ok x ≡ Err e → ⊥
    never x e h = cc

-- what is refused in bytes within the limit
data RefusedBytes (load : Load) (bytes : List ℕ) (f : LinkFault) : Type 0 where
  undecoded : (fault : DecodeFault) → Fault the_bounds bytes fault → f ≡ Decode load.name fault → RefusedBytes load bytes f
  invalid : (m : Module) (k : Marks) (at : ℕ) (w : ValidWord) → Spells bytes m k → InLimits the_bounds m → InvalidAt m k at w → f ≡ Invalid load.name (valid.Invalid at w) → RefusedBytes load bytes f

-- a refusal, read off from the file
data RefusedFile (load : Load) (o : Option (List ℕ)) (f : LinkFault) : Type 0 where
  missing : o ≡ None → f ≡ Shelf → RefusedFile load o f
  long : (bytes : List ℕ) → o ≡ Some bytes → module_limit < length bytes → f ≡ TooLong load.name → RefusedFile load o f
  read : (bytes : List ℕ) → o ≡ Some bytes → length bytes ≤ module_limit → RefusedBytes load bytes f → RefusedFile load o f

refused_file : (files : Files) (load : Load) (f : LinkFault) → IsRefusedLoad files load f → RefusedFile load (contents_of files load.file) f
refused_file files load Shelf h = missing h refl
refused_file files load (TooLong name) h = long h.1.0 h.1.1 h.1.2 (ap TooLong h.0)
refused_file files load (Decode name fault) h = read h.1.0 h.1.1.0 h.1.1.1 (undecoded fault h.1.2 (ap (λ n. Decode n fault) h.0))
refused_file files load (Invalid name (valid.Invalid at w)) h =
    read h.1.0 h.1.3.0 h.1.3.1 (invalid h.1.1 h.1.2 at w h.1.4 h.1.5 h.1.6 (ap (λ n. Invalid n (valid.Invalid at w)) h.0))
refused_file files load (Invalid name valid.OutOfMemory) h = absurd h
refused_file files load (UnknownName at) h = absurd h
refused_file files load OutOfMemory h = absurd h

bytes_once : (load : Load) (bytes : List ℕ) (f g : LinkFault) → RefusedBytes load bytes f → RefusedBytes load bytes g → f ≡ g
bytes_once load bytes f g (undecoded a x p) (undecoded b y q) = p ∙ ap (Decode load.name) (one_fault bytes a b x y) ∙ sym q
bytes_once load bytes f g (undecoded a x p) (invalid m k at w s i y q) = absurd (no_fault bytes m k a s i x)
bytes_once load bytes f g (invalid m k at w s i x p) (undecoded b y q) = absurd (no_fault bytes m k b s i y)
bytes_once load bytes f g (invalid m k at w s i x p) (invalid n j other v t l y q) =
    let same = one_module bytes m n k j s t in
    let P : Module × Marks → Type 0 = λ z. InvalidAt z.0 z.1 at w in
    let place = invalid_once n j at other w v (subst P (λ z. (same.0 z, same.1 z)) x) y in
    p ∙ (λ z. Invalid load.name (valid.Invalid (place.0 z) (place.1 z))) ∙ sym q

file_once : (load : Load) (o : Option (List ℕ)) (f g : LinkFault) → RefusedFile load o f → RefusedFile load o g → f ≡ g
file_once load o f g (missing a p) (missing b q) = p ∙ sym q
file_once load o f g (missing a p) (long d b l q) = absurd (some_not_none o d b a)
file_once load o f g (missing a p) (read d b l q) = absurd (some_not_none o d b a)
file_once load o f g (long c a k p) (missing b q) = absurd (some_not_none o c a b)
file_once load o f g (long c a k p) (long d b l q) = p ∙ sym q
file_once load o f g (long c a k p) (read d b l q) = let same = ap length (same_some o c d a b) in absurd (omega (arith, same, k, l))
file_once load o f g (read c a k p) (missing b q) = absurd (some_not_none o c a b)
file_once load o f g (read c a k p) (long d b l q) = let same = ap length (same_some o c d a b) in absurd (omega (arith, same, k, l))
file_once load o f g (read c a k p) (read d b l q) =
    let P : List ℕ → Type 0 = λ z. RefusedBytes load z f in bytes_once load d f g (subst P (same_some o c d a b) p) q

load_once : (files : Files) (load : Load) (m n : Module) → IsLoaded files load m → IsLoaded files load n → m ≡ n
load_once files load m n a b =
    let same = same_some (contents_of files load.file) a.bytes b.bytes a.is_read.0 b.is_read.0 in
    let P : List ℕ → Type 0 = λ z. Spells z m a.marks in
    (one_module b.bytes m n a.marks b.marks (subst P same a.spells) b.spells).0

bytes_valid : (load : Load) (bytes : List ℕ) (m : Module) (k : Marks) (f : LinkFault) → Spells bytes m k → InLimits the_bounds m → Valid m → RefusedBytes load bytes f → ⊥
bytes_valid load bytes m k f s i v (undecoded a x p) = no_fault bytes m k a s i x
bytes_valid load bytes m k f s i v (invalid n j at w t l x p) =
    let same = one_module bytes m n k j s t in
    valid_is_not_invalid n j at w (subst Valid same.0 v) x

loaded_or_refused : (files : Files) (load : Load) (m : Module) (f : LinkFault) → IsLoaded files load m → IsRefusedLoad files load f → ⊥
loaded_or_refused files load m f a h = by (refused_file files load f h)
  where
    by : RefusedFile load (contents_of files load.file) f → ⊥
    by (missing b q) = some_not_none (contents_of files load.file) a.bytes a.is_read.0 b
    by (long d b l q) = let same = ap length (same_some (contents_of files load.file) a.bytes d a.is_read.0 b) in let k = a.is_read.1 in absurd (omega (arith, same, k, l))
    by (read d b l q) =
        let P : List ℕ → Type 0 = λ z. RefusedBytes load z f in
        bytes_valid load a.bytes m a.marks f a.spells a.within a.valid (subst P (sym (same_some (contents_of files load.file) a.bytes d a.is_read.0 b)) q)

-- ---- all loads

loads_once : (files : Files) (ls : List Load) (ms ns : List Module) → AreLoaded files ls ms → AreLoaded files ls ns → ms ≡ ns
loads_once files [] [] [] a b = refl
loads_once files [] [] (n ∷ ns) a b = absurd b
loads_once files [] (m ∷ ms) ns a b = absurd a
loads_once files (l ∷ ls) [] ns a b = absurd a
loads_once files (l ∷ ls) (m ∷ ms) [] a b = absurd b
loads_once files (l ∷ ls) (m ∷ ms) (n ∷ ns) a b =
    let head = load_once files l m n a.0 b.0 in let tail = loads_once files ls ms ns a.1 b.1 in λ z. head z ∷ tail z

first_once : (files : Files) (ls : List Load) (f g : LinkFault) → IsFirstRefused files ls f → IsFirstRefused files ls g → f ≡ g
first_once files [] f g a b = absurd a
first_once files (l ∷ ls) f g (inl a) (inl b) = file_once l (contents_of files l.file) f g (refused_file files l f a) (refused_file files l g b)
first_once files (l ∷ ls) f g (inl a) (inr b) = absurd (loaded_or_refused files l b.0 f b.1 a)
first_once files (l ∷ ls) f g (inr a) (inl b) = absurd (loaded_or_refused files l a.0 g a.1 b)
first_once files (l ∷ ls) f g (inr a) (inr b) = first_once files ls f g a.2 b.2

loads_or_refused : (files : Files) (ls : List Load) (ms : List Module) (f : LinkFault) → AreLoaded files ls ms → IsFirstRefused files ls f → ⊥
loads_or_refused files [] ms f a b = b
loads_or_refused files (l ∷ ls) [] f a b = a
loads_or_refused files (l ∷ ls) (m ∷ ms) f a (inl b) = loaded_or_refused files l m f a.0 b
loads_or_refused files (l ∷ ls) (m ∷ ms) f a (inr b) = loads_or_refused files ls ms f a.1 b.2

-- ---- what is noted

stays_stopped : {O : Type 0} (eyes : Eyes O) (w : Watch O) (n : ℕ) (es : List Event) → w.stopped ≡ Some n → watched eyes w es ≡ w
stays_stopped eyes w n [] is = refl
stays_stopped eyes w n (e ∷ es) is =
    let once : heard_unless eyes w e w.stopped ≡ w = ap (heard_unless eyes w e) is in
    ap (λ v. watched eyes v es) once ∙ stays_stopped eyes w n es is

some_of : (o : Option ℕ) → IsSome o → (n : ℕ) × (o ≡ Some n)
some_of None h = absurd cc
some_of (Some n) h = (n, refl)

module _ {O : Type 0} (eyes : Eyes O) (ms : Modules) where
  abbrev Whole : Watch O → Stage → Type 0
  Whole w s = IsSome w.stopped ⊎ IsOver s

  ends_here : (s : Stage) (e : Event) (es : List Event) (t : Stage) (w : Watch O) → Goes ms s (e ∷ es) t → Whole w s → watched eyes w (e ∷ es) ≡ w
  ends_here s e es t w goes (inl stopped) = let n = some_of w.stopped stopped in stays_stopped eyes w n.0 (e ∷ es) n.1
  ends_here s e es t w goes (inr over) = absurd (no_next ms s e goes.0 over.nothing_begun over.nothing_left goes.1)

  pub noted_once : (es fs : List Event) (s t u : Stage) (w : Watch O) → Goes ms s es t → Goes ms s fs u → Whole (watched eyes w es) t → Whole (watched eyes w fs) u → watched eyes w es ≡ watched eyes w fs
  noted_once [] [] s t u w a b x y = refl
  noted_once [] (f ∷ fs) s t u w a b x y = let P : Stage → Type 0 = λ z. Whole w z in sym (ends_here s f fs u w b (subst P a x))
  noted_once (e ∷ es) [] s t u w a b x y = let P : Stage → Type 0 = λ z. Whole w z in ends_here s e es t w a (subst P b y)
  noted_once (e ∷ es) (f ∷ fs) s t u w a b x y =
      let same = next_once ms s e f a.0 b.0 a.1 b.1 in
      let G : Way → Type 0 = λ z. Goes ms z.1 es t × Whole (watched eyes (heard_unless eyes w z.0 w.stopped) es) t in
      let first = subst G same (a.2, x) in
      ap (λ (z : Way). watched eyes (heard_unless eyes w z.0 w.stopped) es) same
      ∙ noted_once es fs b.0 t u (heard_unless eyes w f w.stopped) first.0 b.2 first.1 y

watches_once : {O : Type 0} (eyes : Eyes O) (x : Script) (ms : Modules) (notes : O) (v w : Watch O) → Watches eyes x ms notes v → Watches eyes x ms notes w → v ≡ w
watches_once {O} eyes x ms notes v w a b =
    let A : Watch O → Type 0 = λ z. IsSome z.stopped ⊎ IsOver a.stage in
    let B : Watch O → Type 0 = λ z. IsSome z.stopped ⊎ IsOver b.stage in
    sym a.is ∙ noted_once eyes ms a.events b.events (first_stage x) a.stage b.stage (fresh notes) a.goes b.goes (subst A (sym a.is) a.whole) (subst B (sym b.is) b.whole) ∙ b.is

module _ (files : Files) (x : Script) where
  watch_once : (ms ns : List Module) (v w : Watch (Unit {0})) → AreLoaded files x.loads ms → AreLoaded files x.loads ns → Watches blind x (modules_in x ms) tt v → Watches blind x (modules_in x ns) tt w → v ≡ w
  watch_once ms ns v w a b p q =
      let P : List Module → Type 0 = λ z. Watches blind x (modules_in x z) tt v in
      watches_once blind x (modules_in x ns) tt v w (subst P (loads_once files x.loads ms ns a b) p) q

  log_once : (a b : List ℕ) → ScriptLog files x a → ScriptLog files x b → a ≡ b
  log_once a b p q =
      let same = watch_once p.modules q.modules p.watch q.watch p.loaded q.loaded p.watches q.watches in
      p.text_is ∙ ap (λ (w : Watch (Unit {0})). w.text) same ∙ sym q.text_is

  lacks_once : (a b : ℕ) → ScriptLacks files x a → ScriptLacks files x b → a ≡ b
  lacks_once a b p q =
      let same = watch_once p.modules q.modules p.watch q.watch p.loaded q.loaded p.watches q.watches in
      same_some q.watch.lacking a b (sym (ap (λ (w : Watch (Unit {0})). w.lacking) same) ∙ p.lacks) q.lacks

  log_or_lacks : (a : List ℕ) (at : ℕ) → ScriptLog files x a → ScriptLacks files x at → ⊥
  log_or_lacks a at p q =
      let same = watch_once p.modules q.modules p.watch q.watch p.loaded q.loaded p.watches q.watches in
      some_not_none q.watch.lacking at q.lacks (sym (ap (λ (w : Watch (Unit {0})). w.lacking) same) ∙ p.lacks_none)

  -- a refusal of a load
  abbrev IsOfLoad : LinkFault → Type 0
  IsOfLoad f = IsFirstRefused files x.loads f

  log_not_refused : (a : List ℕ) (f : LinkFault) → ScriptLog files x a → IsOfLoad f → ⊥
  log_not_refused a f p q = loads_or_refused files x.loads p.modules f p.loaded q

  lacks_not_refused : (at : ℕ) (f : LinkFault) → ScriptLacks files x at → IsOfLoad f → ⊥
  lacks_not_refused at f p q = loads_or_refused files x.loads p.modules f p.loaded q

  pub one_answer : (r s : Result Log LinkFault) → ScriptAnswers files x r → ScriptAnswers files x s → r ≡ s
  one_answer (Ok a) (Ok b) p q = let same = log_once a.text b.text p q in λ z. Ok (record { text = same z })
  one_answer (Ok a) (Err (UnknownName at)) p q = absurd (log_or_lacks a.text at p q)
  one_answer (Ok a) (Err OutOfMemory) p q = absurd q
  one_answer (Ok a) (Err Shelf) p q = absurd (log_not_refused a.text Shelf p q)
  one_answer (Ok a) (Err (TooLong name)) p q = absurd (log_not_refused a.text (TooLong name) p q)
  one_answer (Ok a) (Err (Decode name f)) p q = absurd (log_not_refused a.text (Decode name f) p q)
  one_answer (Ok a) (Err (Invalid name f)) p q = absurd (log_not_refused a.text (Invalid name f) p q)
  one_answer (Err (UnknownName at)) (Ok b) p q = absurd (log_or_lacks b.text at q p)
  one_answer (Err (UnknownName at)) (Err (UnknownName other)) p q = let same = lacks_once at other p q in λ z. Err (UnknownName (same z))
  one_answer (Err (UnknownName at)) (Err OutOfMemory) p q = absurd q
  one_answer (Err (UnknownName at)) (Err Shelf) p q = absurd (lacks_not_refused at Shelf p q)
  one_answer (Err (UnknownName at)) (Err (TooLong name)) p q = absurd (lacks_not_refused at (TooLong name) p q)
  one_answer (Err (UnknownName at)) (Err (Decode name f)) p q = absurd (lacks_not_refused at (Decode name f) p q)
  one_answer (Err (UnknownName at)) (Err (Invalid name f)) p q = absurd (lacks_not_refused at (Invalid name f) p q)
  one_answer (Err OutOfMemory) s p q = absurd p
  one_answer (Err Shelf) (Ok b) p q = absurd (log_not_refused b.text Shelf q p)
  one_answer (Err Shelf) (Err (UnknownName at)) p q = absurd (lacks_not_refused at Shelf q p)
  one_answer (Err Shelf) (Err OutOfMemory) p q = absurd q
  one_answer (Err Shelf) (Err Shelf) p q = ap Err (first_once files x.loads Shelf Shelf p q)
  one_answer (Err Shelf) (Err (TooLong name2)) p q = ap Err (first_once files x.loads Shelf (TooLong name2) p q)
  one_answer (Err Shelf) (Err (Decode name2 f2)) p q = ap Err (first_once files x.loads Shelf (Decode name2 f2) p q)
  one_answer (Err Shelf) (Err (Invalid name2 f2)) p q = ap Err (first_once files x.loads Shelf (Invalid name2 f2) p q)
  one_answer (Err (TooLong name1)) (Ok b) p q = absurd (log_not_refused b.text (TooLong name1) q p)
  one_answer (Err (TooLong name1)) (Err (UnknownName at)) p q = absurd (lacks_not_refused at (TooLong name1) q p)
  one_answer (Err (TooLong name1)) (Err OutOfMemory) p q = absurd q
  one_answer (Err (TooLong name1)) (Err Shelf) p q = ap Err (first_once files x.loads (TooLong name1) Shelf p q)
  one_answer (Err (TooLong name1)) (Err (TooLong name2)) p q = ap Err (first_once files x.loads (TooLong name1) (TooLong name2) p q)
  one_answer (Err (TooLong name1)) (Err (Decode name2 f2)) p q = ap Err (first_once files x.loads (TooLong name1) (Decode name2 f2) p q)
  one_answer (Err (TooLong name1)) (Err (Invalid name2 f2)) p q = ap Err (first_once files x.loads (TooLong name1) (Invalid name2 f2) p q)
  one_answer (Err (Decode name1 f1)) (Ok b) p q = absurd (log_not_refused b.text (Decode name1 f1) q p)
  one_answer (Err (Decode name1 f1)) (Err (UnknownName at)) p q = absurd (lacks_not_refused at (Decode name1 f1) q p)
  one_answer (Err (Decode name1 f1)) (Err OutOfMemory) p q = absurd q
  one_answer (Err (Decode name1 f1)) (Err Shelf) p q = ap Err (first_once files x.loads (Decode name1 f1) Shelf p q)
  one_answer (Err (Decode name1 f1)) (Err (TooLong name2)) p q = ap Err (first_once files x.loads (Decode name1 f1) (TooLong name2) p q)
  one_answer (Err (Decode name1 f1)) (Err (Decode name2 f2)) p q = ap Err (first_once files x.loads (Decode name1 f1) (Decode name2 f2) p q)
  one_answer (Err (Decode name1 f1)) (Err (Invalid name2 f2)) p q = ap Err (first_once files x.loads (Decode name1 f1) (Invalid name2 f2) p q)
  one_answer (Err (Invalid name1 f1)) (Ok b) p q = absurd (log_not_refused b.text (Invalid name1 f1) q p)
  one_answer (Err (Invalid name1 f1)) (Err (UnknownName at)) p q = absurd (lacks_not_refused at (Invalid name1 f1) q p)
  one_answer (Err (Invalid name1 f1)) (Err OutOfMemory) p q = absurd q
  one_answer (Err (Invalid name1 f1)) (Err Shelf) p q = ap Err (first_once files x.loads (Invalid name1 f1) Shelf p q)
  one_answer (Err (Invalid name1 f1)) (Err (TooLong name2)) p q = ap Err (first_once files x.loads (Invalid name1 f1) (TooLong name2) p q)
  one_answer (Err (Invalid name1 f1)) (Err (Decode name2 f2)) p q = ap Err (first_once files x.loads (Invalid name1 f1) (Decode name2 f2) p q)
  one_answer (Err (Invalid name1 f1)) (Err (Invalid name2 f2)) p q = ap Err (first_once files x.loads (Invalid name1 f1) (Invalid name2 f2) p q)
