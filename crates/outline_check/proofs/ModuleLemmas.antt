-- What the walk over the functions of a module rests on.
use Rattle.std.proofs.Common.{◌≡◌, ℕ, zero, suc, ◌+◌, Bool, true, false, cond, nat_eq, List, [], ◌∷◌, length, map, drop, Option, Some, None, Result, Ok, Err, refl, ap, sym, ◌∙◌, arith}
use Rattle.std.specs.Prelude.{All, find, slice_get, slice_index_or}
use Rattle.std.specs.List.{list_all, AllZip}
use Rattle.std.specs.Option.{option_map_or}
use Rattle.std.proofs.lemmas.Grind.{common_steps}
use Rattle.std.proofs.lemmas.Bool.{and_parts}
use Rattle.std.proofs.lemmas.List.Elements.{All-head, All-tail}
use Rattle.wasm_values.specs.declared.number.Val.TheVariants as value
use Rattle.wasm_syntax.specs.declared.instr.Instr.{Instr, Plain, Const, GlobalGet, GlobalSet}
use Rattle.wasm_syntax.specs.declared.instr.Plain.TheVariants.{Nop, Drop}
use Rattle.wasm_syntax.specs.declared.module.Func.{Func}
use Rattle.wasm_syntax.specs.declared.module.Module.{Module}
use Rattle.wasm_syntax.specs.declared.module.Marks.{Marks}
use Rattle.wasm_syntax.specs.FlatForm.{is_simple, flat_body}
use Rattle.wasm_typing.specs.faults.Faults.{Marked}
use Rattle.outline_check.specs.declared.notes.Formula.{Formula}
use Rattle.outline_check.specs.declared.notes.Note.{Note}
use Rattle.outline_check.specs.declared.notes.FuncNotes.{FuncNotes}
use Rattle.outline_check.specs.declared.notes.Notes.{Notes}
use Rattle.outline_check.specs.declared.stop.Refusal.{Refusal}
use Rattle.wasm_values.specs.declared.error.OrMemory.{OrMemory}
use Rattle.outline_check.specs.First.{IsFirstBody, IsFirstFunc, HasPlaceEach}
use Rattle.outline_check.specs.Refusals.{and_then, IsSaid}
use Rattle.outline_check.specs.Outlines.{rise_within, instructions, body_fits, notes_fit, notes_of, function_outline, functions_from}
use Rattle.outline_check.specs.Cursors.{AreSimple, numbered}
use Rattle.outline_check.proofs.WalkLemmas.{drop-get, refused-first}

-- lists that go together
pub length-zip : {A B : Type 0} (R : A → B → Type 0) (xs : List A) (ys : List B) → AllZip R xs ys → length xs ≡ length ys
length-zip R [] [] h = refl
length-zip R [] (y ∷ ys) h = absurd h
length-zip R (x ∷ xs) [] h = absurd h
length-zip R (x ∷ xs) (y ∷ ys) h = ap suc (length-zip R xs ys h.1)

pub zip-at : {A B : Type 0} (R : A → B → Type 0) (xs : List A) (ys : List B) (i : ℕ) (x : A) (y : B) → AllZip R xs ys →
    slice_get xs i ≡ Some x → slice_get ys i ≡ Some y → R x y
zip-at R [] [] i x y h e f = cc
zip-at R [] (z ∷ ys) i x y h e f = absurd h
zip-at R (z ∷ xs) [] i x y h e f = absurd h
zip-at R (a ∷ xs) (b ∷ ys) zero x y h e f = same (some a x e) (some b y f) h.0
  where
    some : {C : Type 0} (c d : C) → Some c ≡ Some d → c ≡ d
    some c d e = cc

    same : a ≡ x → b ≡ y → R a b → R x y
    same p q r = rw (← p, ← q) r
zip-at R (a ∷ xs) (b ∷ ys) (suc i) x y h e f = zip-at R xs ys i x y h.1 e f

zip-from : {A B : Type 0} (R : A → B → Type 0) (xs : List A) (ys : List B) → length ys ≡ length xs →
    ((n : ℕ) (x : A) (y : B) → slice_get xs n ≡ Some x → slice_get ys n ≡ Some y → R x y) → AllZip R xs ys
zip-from R [] [] e h = tt
zip-from R [] (y ∷ ys) e h = absurd (omega arith)
zip-from R (x ∷ xs) [] e h = absurd (omega arith)
zip-from R (x ∷ xs) (y ∷ ys) e h = (h 0 x y refl refl, zip-from R xs ys (omega arith) (λ n x y. h (suc n) x y))

-- marks with a place for each instruction
pub marked-places : (m : Module) (k : Marks) → Marked m k → AllZip HasPlaceEach m.funcs k.code
marked-places m k marked = zip-from HasPlaceEach m.funcs k.code marked.code marked.items

-- a function of a module without blocks
pub simple-at : (funcs : List Func) (i : ℕ) (func : Func) → AreSimple funcs → slice_get funcs i ≡ Some func → list_all is_simple func.body ≡ true
simple-at [] i func h e = cc
simple-at (f ∷ funcs) zero func h e = same f func e h.0
  where
    same : (f g : Func) → Some f ≡ Some g → list_all is_simple f.body ≡ true → list_all is_simple g.body ≡ true
    same f g e h = let p : f ≡ g = cc in rw (← p) h
simple-at (f ∷ funcs) (suc i) func h e = simple-at funcs i func h.1 e

-- First has no blocks
first-simple : (globals depth : ℕ) (body : List Instr) → IsFirstBody globals depth body → list_all is_simple body ≡ true
first-simple globals depth [] h = refl
first-simple globals zero (Plain Nop ∷ rest) h = first-simple globals zero rest h
first-simple globals (suc depth) (Plain Nop ∷ rest) h = first-simple globals (suc depth) rest h
first-simple globals (suc depth) (Plain Drop ∷ rest) h = first-simple globals depth rest h
first-simple globals zero (Const (value.I32 n) ∷ rest) h = first-simple globals 1 rest h.1
first-simple globals (suc depth) (Const (value.I32 n) ∷ rest) h = first-simple globals (suc (suc depth)) rest h.1
first-simple globals zero (GlobalGet k ∷ rest) h = first-simple globals 1 rest h.1
first-simple globals (suc depth) (GlobalGet k ∷ rest) h = first-simple globals (suc (suc depth)) rest h.1
first-simple globals (suc depth) (GlobalSet k ∷ rest) h = first-simple globals depth rest h.1
first-simple globals zero (instr ∷ rest) h = absurd h
first-simple globals (suc depth) (instr ∷ rest) h = absurd h

pub first-AreSimple : (types globals : ℕ) (funcs : List Func) → All (IsFirstFunc types globals) funcs → AreSimple funcs
first-AreSimple types globals [] h = tt
first-AreSimple types globals (func ∷ funcs) h =
    let first = All-head (IsFirstFunc types globals) func funcs h in
    (first-simple globals 0 func.body first.body, first-AreSimple types globals funcs (All-tail (IsFirstFunc types globals) func funcs h))

-- what is found is in the list, and has the number
found-here : {A : Type 0} (p q : A → Bool) (y x : A) (b : Bool) (later : Option A) → b ≡ q y → p y ≡ true → cond b (Some y) later ≡ Some x →
    (later ≡ Some x → (p x ≡ true) × (q x ≡ true)) → (p x ≡ true) × (q x ≡ true)
found-here p q y x true later eb h e rest =
    let same : y ≡ x = cc in
    (rw (← same) h, rw (← same) (sym eb))
found-here p q y x false later eb h e rest = rest e

found-passes : {A : Type 0} (p q : A → Bool) (xs : List A) (x : A) → list_all p xs ≡ true → find q xs ≡ Some x →
    (p x ≡ true) × (q x ≡ true)
found-passes p q [] x h e = cc
found-passes p q (y ∷ xs) x h e =
    let parts = and_parts (p y) (list_all p xs) h in
    found-here p q y x (q y) (find q xs) refl parts.0 e (found-passes p q xs x parts.1)

fits-found : (funcs : List Func) (f : ℕ) (found : Option FuncNotes) (high : ℕ) →
    ((n : FuncNotes) → found ≡ Some n → (body_fits funcs n ≡ true) × (n.func ≡ f)) → instructions funcs f ≡ high →
    rise_within 0 high (map (λ note. note.at) (option_map_or (λ func. func.notes) found [])) ≡ true
fits-found funcs f None high h e = refl
fits-found funcs f (Some n) high h e =
    let p = h n refl in
    let there : instructions funcs n.func ≡ high = ap (instructions funcs) p.1 ∙ e in
    rw there at p.0

pub fits-at : (funcs : List Func) (notes : List FuncNotes) (f : ℕ) (func : Func) → notes_fit funcs notes ≡ true →
    slice_get funcs f ≡ Some func → rise_within 0 (length (flat_body func.body)) (map (λ note. note.at) (notes_of notes f)) ≡ true
fits-at funcs notes f func h e =
    let all : list_all (body_fits funcs) notes ≡ true = grind (arith, common_steps) in
    fits-found funcs f (numbered (λ func. func.func) notes f) (length (flat_body func.body))
    (λ n found.
    let p = found-passes (body_fits funcs) (λ entry. nat_eq entry.func f) notes n all found in
    (p.0, grind (arith, common_steps)))
    (ap (λ o. option_map_or (λ func. length (flat_body func.body)) o 0) e)

-- one more function
pub record IsNext (notes : Notes) (code : List (List ℕ)) (funcs : List Func) (f : ℕ) (func : Func) (formulas : List Formula) (own : List Note) (places : List ℕ) : Type 0 where
  pub get : slice_get funcs f ≡ Some func
  pub own_notes : own ≡ notes_of notes.funcs f
  pub own_places : places ≡ slice_index_or code f []
  pub invariant : formulas ≡ notes.invariant.formulas

functions-next : (globals : ℕ) (notes : Notes) (code : List (List ℕ)) (funcs : List Func) (f : ℕ) (func : Func) (formulas : List Formula) (own : List Note) (places : List ℕ) →
    IsNext notes code funcs f func formulas own places →
    functions_from globals notes code f (drop f funcs)
    ≡ and_then (function_outline formulas f own places globals func.body) (λ _. functions_from globals notes code (f + 1) (drop (f + 1) funcs))
functions-next globals notes code funcs f func formulas own places n =
    rw (drop-get funcs f func n.get, n.own_notes, n.own_places, n.invariant) refl

pub functions-refused : (globals : ℕ) (notes : Notes) (code : List (List ℕ)) (funcs : List Func) (f : ℕ) (func : Func) (formulas : List Formula) (own : List Note) (places : List ℕ) →
    IsNext notes code funcs f func formulas own places → (why : OrMemory Refusal) (whole : Result (Unit {0}) Refusal) →
    functions_from globals notes code f (drop f funcs) ≡ whole →
    IsSaid {A = Unit {0}} {W = Refusal} (Err why) (function_outline formulas f own places globals func.body) → IsSaid {A = Unit {0}} {W = Refusal} (Err why) whole
functions-refused globals notes code funcs f func formulas own places n why whole e said =
    rw (← e, functions-next globals notes code funcs f func formulas own places n)
    (refused-first why (function_outline formulas f own places globals func.body)
    (λ _. functions_from globals notes code (f + 1) (drop (f + 1) funcs)) said)

pub functions-on : (globals : ℕ) (notes : Notes) (code : List (List ℕ)) (funcs : List Func) (f : ℕ) (func : Func) (formulas : List Formula) (own : List Note) (places : List ℕ) →
    IsNext notes code funcs f func formulas own places → (whole : Result (Unit {0}) Refusal) (u : Unit {0}) →
    functions_from globals notes code f (drop f funcs) ≡ whole →
    function_outline formulas f own places globals func.body ≡ Ok u → functions_from globals notes code (f + 1) (drop (f + 1) funcs) ≡ whole
functions-on globals notes code funcs f func formulas own places n whole u e said =
    sym (functions-next globals notes code funcs f func formulas own places n
    ∙ ap (λ r. and_then r (λ _. functions_from globals notes code (f + 1) (drop (f + 1) funcs))) said) ∙ e
