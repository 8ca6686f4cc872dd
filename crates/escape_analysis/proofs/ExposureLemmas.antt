-- What the marks of functions and the stabilities of globals come to is the exposure.
use Rattle.std.proofs.Common.{◌≡◌, refl, sym, ap, ◌∙◌, ℕ, suc, ◌+◌, ◌≤◌, Bool, true, false, not, ◌&&◌, ◌||◌, if◌then◌else◌, List, [], ◌∷◌, ◌++◌, length, map, arith, length-append}
use Rattle.std.specs.Prelude.{nat_le, nat_lt}
use Rattle.std.specs.List.{filter_map}
use Rattle.std.proofs.lemmas.List.{length-map}
use Rattle.std.proofs.lemmas.Bool.{le-leb, lt-ltb, false_from_ne_true, leb-true, ltb-true}
use Rattle.wasm_syntax.specs.declared.module.Module.{Module}
use Rattle.wasm_syntax.specs.declared.module.Import.{Import}
use Rattle.wasm_syntax.specs.declared.module.Func.{Func}
use Rattle.wasm_syntax.specs.declared.module.Global.{Global}
use Rattle.wasm_syntax.specs.declared.module.GlobalType.{GlobalType}
use Rattle.wasm_typing.specs.Valid.{func_import, func_types_of, globals_of, imported_globals_of}
use Rattle.escape_analysis.specs.declared.stability.Stability.{Stability}
use Rattle.escape_analysis.specs.declared.stability.Stability.TheVariants.{Unstable, Immutable, Private}
use Rattle.escape_analysis.specs.Exposure.{stability, stabilities_from, has_private_table, imported_funcs, is_exposed, exposed_from}
use Rattle.escape_analysis.specs.words.Changing.{changed_where, func_among, global_among, named_among, exposing, exporting, imported_stability, defined_stability, unexported_globals, imported_marks}
use Rattle.escape_analysis.proofs.ChangeLemmas.{changed-or, changed-same}

-- ---- globals

-- an exported global is exported once
pub exporting_once : (s : Stability) → exporting (exporting s) ≡ exporting s
exporting_once Unstable = refl
exporting_once Immutable = refl
exporting_once Private = refl

-- an imported one, and one that is defined
imported_one : (mutable exported : Bool)
    → (if not mutable then Immutable else if false && not exported then Private else Unstable)
    ≡ (if exported then exporting (if mutable then Unstable else Immutable) else if mutable then Unstable else Immutable)
imported_one true true = refl
imported_one true false = refl
imported_one false true = refl
imported_one false false = refl

defined_one : (mutable exported : Bool)
    → (if not mutable then Immutable else if true && not exported then Private else Unstable)
    ≡ (if exported then exporting (if mutable then Private else Immutable) else if mutable then Private else Immutable)
defined_one true true = refl
defined_one true false = refl
defined_one false true = refl
defined_one false false = refl

-- the stability of an imported global, and of one that is defined
stability-imported : (m : Module) (k : ℕ) (g : GlobalType) → (nat_le (length (imported_globals_of m)) k ≡ false)
    → stability m k g ≡ (if global_among m.exports k then exporting (imported_stability g) else imported_stability g)
stability-imported m k g past =
    ap (λ d. if not g.mutable then Immutable else if d && not (global_among m.exports k) then Private else Unstable) past
    ∙ imported_one g.mutable (global_among m.exports k)

stability-defined : (m : Module) (k : ℕ) (g : GlobalType) → (nat_le (length (imported_globals_of m)) k ≡ true)
    → stability m k g ≡ (if global_among m.exports k then exporting (defined_stability g) else defined_stability g)
stability-defined m k g past =
    ap (λ d. if not g.mutable then Immutable else if d && not (global_among m.exports k) then Private else Unstable) past
    ∙ defined_one g.mutable (global_among m.exports k)

-- the stabilities of globals that are defined
stabilities-defined : (m : Module) (k : ℕ) (gs : List Global) → length (imported_globals_of m) ≤ k
    → stabilities_from m k (map (λ (g : Global). g.ty) gs)
    ≡ changed_where exporting (global_among m.exports) k (map (λ (g : Global). defined_stability g.ty) gs)
stabilities-defined m k [] past = refl
stabilities-defined m k (g ∷ gs) past =
    let here : stability m k g.ty ≡ (if global_among m.exports k then exporting (defined_stability g.ty) else defined_stability g.ty) =
    stability-defined m k g.ty (le-leb (length (imported_globals_of m)) k past) in
    let later : stabilities_from m (suc k) (map (λ (g : Global). g.ty) gs)
    ≡ changed_where exporting (global_among m.exports) (suc k) (map (λ (g : Global). defined_stability g.ty) gs) =
    stabilities-defined m (suc k) gs (omega (arith, past)) in
    cc

-- the stabilities of imported globals, and of those that are defined behind them
stabilities-imported : (m : Module) (k : ℕ) (xs : List GlobalType) (gs : List Global) → (k + length xs ≡ length (imported_globals_of m))
    → stabilities_from m k (xs ++ map (λ (g : Global). g.ty) gs)
    ≡ changed_where exporting (global_among m.exports) k (map imported_stability xs ++ map (λ (g : Global). defined_stability g.ty) gs)
stabilities-imported m k [] gs all = stabilities-defined m k gs (omega (arith, all))
stabilities-imported m k (x ∷ xs) gs all =
    let before : nat_le (length (imported_globals_of m)) k ≡ false =
    false_from_ne_true (nat_le (length (imported_globals_of m)) k) (λ wrong. omega (arith, all, leb-true (length (imported_globals_of m)) k wrong)) in
    let here : stability m k x ≡ (if global_among m.exports k then exporting (imported_stability x) else imported_stability x) =
    stability-imported m k x before in
    let later : stabilities_from m (suc k) (xs ++ map (λ (g : Global). g.ty) gs)
    ≡ changed_where exporting (global_among m.exports) (suc k) (map imported_stability xs ++ map (λ (g : Global). defined_stability g.ty) gs) =
    stabilities-imported m (suc k) xs gs (omega (arith, all)) in
    cc

-- The stabilities of all globals: what they would be were none exported, once those that are exported are changed.
pub stabilities-all : (m : Module)
    → changed_where exporting (global_among m.exports) 0 (unexported_globals m) ≡ stabilities_from m 0 (globals_of m)
stabilities-all m = sym (stabilities-imported m 0 (imported_globals_of m) m.globals (omega arith))

-- ---- functions

-- exposed, whatever it was
exposing_same : (b : Bool) → (if b then true else true) ≡ true
exposing_same true = refl
exposing_same false = refl

exposing_new : (b : Bool) → (if b then true else false) ≡ b
exposing_new true = refl
exposing_new false = refl

-- Whether a function is exported, or named by an element segment of a table that isn't private.
abbrev pub is_reached : Module → ℕ → Bool
is_reached m f = func_among m.exports f || (not (has_private_table m) && named_among m.elems f)

-- the functions that are defined
exposed-defined : (m : Module) (k : ℕ) (fs : List Func) → imported_funcs m ≤ k
    → exposed_from m k (length fs) ≡ changed_where exposing (is_reached m) k (map (λ (f : Func). false) fs)
exposed-defined m k [] past = refl
exposed-defined m k (f ∷ fs) past =
    let new : nat_lt k (imported_funcs m) ≡ false =
    false_from_ne_true (nat_lt k (imported_funcs m)) (λ wrong. omega (arith, past, ltb-true k (imported_funcs m) wrong)) in
    let here : is_exposed m k ≡ (if is_reached m k then true else false) =
    ap (λ b. b || is_reached m k) new ∙ sym (exposing_new (is_reached m k)) in
    let later : exposed_from m (suc k) (length fs) ≡ changed_where exposing (is_reached m) (suc k) (map (λ (f : Func). false) fs) =
    exposed-defined m (suc k) fs (omega (arith, past)) in
    cc

-- the functions that are imported, and those that are defined behind them
exposed-imported : (m : Module) (k : ℕ) (xs : List ℕ) (fs : List Func) → (k + length xs ≡ imported_funcs m)
    → exposed_from m k (length xs + length fs)
    ≡ changed_where exposing (is_reached m) k (map (λ t. true) xs ++ map (λ (f : Func). false) fs)
exposed-imported m k [] fs all =
    let count : 0 + length fs ≡ length fs = omega arith in
    rw count (exposed-defined m k fs (omega (arith, all)))
exposed-imported m k (x ∷ xs) fs all =
    let old : nat_lt k (imported_funcs m) ≡ true = lt-ltb k (imported_funcs m) (omega (arith, all)) in
    let here : is_exposed m k ≡ (if is_reached m k then true else true) =
    ap (λ b. b || is_reached m k) old ∙ sym (exposing_same (is_reached m k)) in
    let later : exposed_from m (suc k) (length xs + length fs)
    ≡ changed_where exposing (is_reached m) (suc k) (map (λ t. true) xs ++ map (λ (f : Func). false) fs) =
    exposed-imported m (suc k) xs fs (omega (arith, all)) in
    let count : length (x ∷ xs) + length fs ≡ suc (length xs + length fs) = omega arith in
    rw count (cc)

-- All functions: the marks of imports, once those that are reached are exposed.
pub exposed-all : (m : Module)
    → changed_where exposing (is_reached m) 0 (imported_marks m) ≡ exposed_from m 0 (length (func_types_of m))
exposed-all m =
    let imports : List ℕ = filter_map (λ (i : Import). func_import i.kind) m.imports in
    let numbers : List ℕ = map (λ (f : Func). f.ty) m.funcs in
    let joint : length (imports ++ numbers) ≡ length imports + length numbers = length-append imports numbers in
    let defined : length numbers ≡ length m.funcs = length-map m.funcs (λ (f : Func). f.ty) in
    let count : length (func_types_of m) ≡ length imports + length m.funcs = joint ∙ ap (λ n. length imports + n) defined in
    let first : 0 + length imports ≡ imported_funcs m = omega (arith, count) in
    rw count (sym (exposed-imported m 0 imports m.funcs first))

-- Those that are exported are exposed, and then those that the element segments of a table that others reach name.
pub exposed-open : (m : Module) → (has_private_table m ≡ false)
    → changed_where exposing (named_among m.elems) 0 (changed_where exposing (func_among m.exports) 0 (imported_marks m))
    ≡ exposed_from m 0 (length (func_types_of m))
exposed-open m reached =
    sym (changed-or exposing (func_among m.exports) (named_among m.elems) 0 (imported_marks m) (λ b. refl))
    ∙ changed-same exposing (λ f. func_among m.exports f || named_among m.elems f) (is_reached m) 0 (imported_marks m)
    (λ f from. ap (λ b. func_among m.exports f || (not b && named_among m.elems f)) (sym reached))
    ∙ exposed-all m

-- a test or one that fails
or_no : (b : Bool) → b ≡ (b || false)
or_no true = refl
or_no false = refl

-- Those of a private table aren't.
pub exposed-private : (m : Module) → (has_private_table m ≡ true)
    → changed_where exposing (func_among m.exports) 0 (imported_marks m) ≡ exposed_from m 0 (length (func_types_of m))
exposed-private m private =
    changed-same exposing (func_among m.exports) (is_reached m) 0 (imported_marks m)
    (λ f from. or_no (func_among m.exports f) ∙ ap (λ b. func_among m.exports f || (not b && named_among m.elems f)) (sym private))
    ∙ exposed-all m
