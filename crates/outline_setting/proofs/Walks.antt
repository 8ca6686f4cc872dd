-- Steps of walks over notes and over globals.
use Rattle.std.proofs.Common.{◌≡◌, refl, sym, ap, ◌∙◌, ℕ, suc, zero, ◌+◌, ◌<◌, ◌==◌, Bool, true, false, cond, if◌then◌else◌, List, [], ◌∷◌, ◌++◌, length, drop, get_or, arith, add-one, zero-add, add-zero, append_assoc, append-nil, drop-cons}
use Rattle.std.specs.Prelude.{find, slice_get, slice_index_or, Option, Some, option_and_then, option_map}
use Rattle.wasm_values.specs.declared.number.ValType.{ValType}
use Rattle.wasm_syntax.specs.declared.module.Module.{Module}
use Rattle.wasm_syntax.specs.declared.module.GlobalType.{GlobalType}
use Rattle.wasm_typing.specs.Valid.{func_types_of, globals_of}
use Rattle.escape_analysis.specs.declared.stability.Exposure.{Exposure}
use Rattle.escape_analysis.specs.Exposure.{stability, stabilities_from, is_exposed, exposed_from, exposure_of}
use Rattle.escape_analysis.specs.declared.stability.Stability.{Stability}
use Rattle.outline_rules.specs.Settings.{setting, is_private, private_from}
use Rattle.notes.specs.declared.outline.Notes.{Notes}
use Rattle.notes.specs.declared.outline.FuncNotes.{FuncNotes}
use Rattle.std.proofs.lemmas.Option.{slice_get-get_or, get_or_from_slice_get}

-- an item that is read stands before those after it
pub drop_at : {X : Type 0} (xs : List X) (i : ℕ) (x : X) → i < length xs → x ≡ get_or xs i x → drop i xs ≡ x ∷ drop (suc i) xs
drop_at xs i x within is = drop-cons xs i x within ∙ ap (λ y. y ∷ drop (suc i) xs) (sym is)

pub get_at : {X : Type 0} (xs : List X) (i : ℕ) (x : X) → i < length xs → x ≡ get_or xs i x → slice_get xs i ≡ Some x
get_at xs i x within is = slice_get-get_or xs i x within ∙ ap Some (sym is)

-- ---- notes

-- the places of the first notes from a place on
abbrev pub NotedFrom : List FuncNotes → ℕ → (ℕ → Option ℕ) → Type 0
NotedFrom funcs i place = (f : ℕ) → option_and_then (slice_get funcs) (place f) ≡ find (λ (n : FuncNotes). n.func == f) (drop i funcs)

-- one earlier place
pub noted_step : (funcs : List FuncNotes) (i : ℕ) (x : FuncNotes) (old new : ℕ → Option ℕ) → i < length funcs → x ≡ get_or funcs i x
    → ((f : ℕ) → new f ≡ (if x.func == f then Some i else old f)) → NotedFrom funcs (suc i) old → NotedFrom funcs i new
noted_step funcs i x old new within is step known f =
    ap (option_and_then (slice_get funcs)) (step f)
    ∙ pick (x.func == f)
    ∙ sym (ap (find (λ (n : FuncNotes). n.func == f)) (drop_at funcs i x within is))
  where
    pick : (b : Bool) → option_and_then (slice_get funcs) (if b then Some i else old f) ≡ cond b (Some x) (find (λ (n : FuncNotes). n.func == f) (drop (suc i) funcs))
    pick true = get_at funcs i x within is
    pick false = known f

-- ---- globals

-- there are as many stabilities as globals
pub length-stabilities : (m : Module) (k : ℕ) (gs : List GlobalType) → length (stabilities_from m k gs) ≡ length gs
length-stabilities m k [] = refl
length-stabilities m k (g ∷ gs) = ap suc (length-stabilities m (suc k) gs)

-- the stability with a number
pub stability-at : (m : Module) (k : ℕ) (gs : List GlobalType) (i : ℕ) → slice_get (stabilities_from m k gs) i ≡ option_map (stability m (k + i)) (slice_get gs i)
stability-at m k [] i = refl
stability-at m k (g ∷ gs) zero = ap (λ j. Some (stability m j g)) (sym (add-zero k))
stability-at m k (g ∷ gs) (suc i) = stability-at m (suc k) gs i ∙ ap (λ j. option_map (stability m j) (slice_get gs i)) (omega arith)

pub stability_read : (m : Module) (gs : List GlobalType) (i : ℕ) (g : GlobalType) (d : Stability) → i < length gs → g ≡ get_or gs i g
    → get_or (stabilities_from m 0 gs) i d ≡ stability m i g
stability_read m gs i g d within is =
    get_or_from_slice_get (stabilities_from m 0 gs) i (stability m i g) d
    (stability-at m 0 gs i ∙ ap (λ j. option_map (stability m j) (slice_get gs i)) (zero-add i) ∙ ap (option_map (stability m i)) (get_at gs i g within is))

-- one more global that is private, or isn't
pub private_step : (m : Module) (notes : Notes) (gs : List GlobalType) (i : ℕ) (g : GlobalType) → i < length gs → g ≡ get_or gs i g
    → private_from (setting m notes) i (drop i gs)
    ≡ (if is_private (Some (stability m i g)) then (i, g.value) ∷ private_from (setting m notes) (suc i) (drop (suc i) gs) else private_from (setting m notes) (suc i) (drop (suc i) gs))
private_step m notes gs i g within is = ap (private_from (setting m notes) i) (drop_at gs i g within is)

-- what is added for a global
abbrev pub private_one : Module → ℕ → GlobalType → List (ℕ × ValType)
private_one m i g = if is_private (Some (stability m i g)) then (i, g.value) ∷ [] else []

pub private_added : (m : Module) (notes : Notes) (gs : List GlobalType) (i : ℕ) (g : GlobalType) (all before after : List (ℕ × ValType)) → i < length gs → g ≡ get_or gs i g
    → after ≡ before ++ private_one m i g → all ≡ before ++ private_from (setting m notes) i (drop i gs) → all ≡ after ++ private_from (setting m notes) (i + 1) (drop (i + 1) gs)
private_added m notes gs i g all before after within is next known =
    known ∙ ap (λ more. before ++ more) (private_step m notes gs i g within is)
    ∙ pick (is_private (Some (stability m i g)))
    ∙ ap (λ start. start ++ rest (suc i)) (sym next)
    ∙ ap (λ j. after ++ rest j) (sym (add-one i))
  where
    rest : ℕ → List (ℕ × ValType)
    rest j = private_from (setting m notes) j (drop j gs)

    pick : (b : Bool) → before ++ (if b then (i, g.value) ∷ rest (suc i) else rest (suc i)) ≡ (before ++ (if b then (i, g.value) ∷ [] else [])) ++ rest (suc i)
    pick true = sym (append_assoc before ((i, g.value) ∷ []) (rest (suc i)))
    pick false = ap (λ start. start ++ rest (suc i)) (sym (append-nil before))

-- ---- functions

-- there are as many marks as functions
pub length-exposed : (m : Module) (f n : ℕ) → length (exposed_from m f n) ≡ n
length-exposed m f zero = refl
length-exposed m f (suc n) = ap suc (length-exposed m (suc f) n)

-- the mark with a number
pub exposed-at : (m : Module) (f n k : ℕ) → k < n → slice_index_or (exposed_from m f n) k false ≡ is_exposed m (f + k)
exposed-at m f zero k within = absurd (omega arith)
exposed-at m f (suc n) zero within = ap (is_exposed m) (sym (add-zero f))
exposed-at m f (suc n) (suc k) within = exposed-at m (suc f) n k (omega arith) ∙ ap (is_exposed m) (omega arith)

-- what an exposure says of functions and of globals
pub marks-length : (m : Module) (e : Exposure) → e ≡ exposure_of m → length e.exposed ≡ length (func_types_of m)
marks-length m e is = ap (λ x. length x.exposed) is ∙ length-exposed m 0 (length (func_types_of m))

pub mark-at : (m : Module) (e : Exposure) (f : ℕ) → e ≡ exposure_of m → f < length (func_types_of m) → slice_index_or e.exposed f false ≡ is_exposed m f
mark-at m e f is within =
    ap (λ x. slice_index_or x.exposed f false) is ∙ exposed-at m 0 (length (func_types_of m)) f within ∙ ap (is_exposed m) (zero-add f)

pub known-stability : (m : Module) (e : Exposure) (k : ℕ) → e ≡ exposure_of m → slice_get e.globals k ≡ option_map (stability m k) (slice_get (globals_of m) k)
known-stability m e k is =
    ap (λ x. slice_get x.globals k) is ∙ stability-at m 0 (globals_of m) k ∙ ap (λ j. option_map (stability m j) (slice_get (globals_of m) k)) (zero-add k)

-- an item is read within a list whatever stands for one past it
pub read_any : {X : Type 0} (xs : List X) (i : ℕ) (d e : X) → i < length xs → get_or xs i d ≡ get_or xs i e
read_any xs i d e within = sym (get_or_from_slice_get xs i (get_or xs i d) e (slice_get-get_or xs i d within))

-- the loop over globals
pub private_next : (m : Module) (notes : Notes) (gs : List GlobalType) (stabilities : List Stability) (i : ℕ) (d : GlobalType) (e : Stability) (all before after : List (ℕ × ValType))
    → gs ≡ globals_of m → stabilities ≡ stabilities_from m 0 (globals_of m) → i < length gs
    → after ≡ before ++ (if is_private (Some (get_or stabilities i e)) then (i, (get_or gs i d).value) ∷ [] else [])
    → all ≡ before ++ private_from (setting m notes) i (drop i gs) → all ≡ after ++ private_from (setting m notes) (i + 1) (drop (i + 1) gs)
private_next m notes gs stabilities i d e all before after are known within next so_far =
    private_added m notes gs i (get_or gs i d) all before after within (read_any gs i d (get_or gs i d) within)
    (next ∙ ap (λ s. before ++ (if is_private (Some s) then (i, (get_or gs i d).value) ∷ [] else []))
    (ap (λ ss. get_or ss i e) (known ∙ ap (stabilities_from m 0) (sym are)) ∙ stability_read m gs i (get_or gs i d) e within (read_any gs i d (get_or gs i d) within)))
    so_far
