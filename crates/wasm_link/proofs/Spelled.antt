-- What is known of a script that some text spells.
use Rattle.std.proofs.Common.{All, arith, ◌≡◌, ℕ, ◌≤◌, true, false, List, [], ◌∷◌, ◌++◌, Option, Some, None, sym, ap, subst, ◌∙◌, append-nil, append_assoc}
use Rattle.std.specs.Prelude.{codes}
use Rattle.std.proofs.lemmas.List.{map-append}
use Rattle.std.proofs.lemmas.Grind.{flat_map-append}
use Rattle.std.proofs.lemmas.List.Elements.{All-nil, All-cons}
use Rattle.wasm_values.specs.declared.number.Val.{Val}
use Rattle.wasm_values.specs.declared.number.Val.TheVariants.{I32, I64}
use Rattle.wasm_typing.specs.Valid.{ValInRange}
use Rattle.sexp_text.specs.declared.sexp.Sexp.{Sexp}
use Rattle.script_text.specs.declared.script.Load.{Load}
use Rattle.script_text.specs.declared.script.Action.{Action}
use Rattle.script_text.specs.declared.script.Action.TheVariants.{New, Call}
use Rattle.script_text.specs.declared.script.Script.{Script}
use Rattle.script_text.specs.Names.{is_among}
use Rattle.script_text.specs.Parts.{parts_of}
use Rattle.script_text.specs.Grammar.{Row, End, Then, Each, Listed, IsList, IsWord, IsString, IsNumber, IsKnown, IsNew, IsStringAt, IsValue, modules_of, made_by, instances_of, IsOrigin, IsLoad, IsAction, AreActions, AreLoads}
use Rattle.script_text.specs.Spelling.{ScriptSpells}
use Rattle.wasm_link.specs.Answers.{IsSpelled}
use Rattle.wasm_link.specs.words.{IsKnownAction, AreKnown}
use Rattle.wasm_link.specs.words.Loads.{AreNew}

-- the parts of a list
parts : (R : Row) (o : Option (List Sexp × ℕ)) → Listed R o → (ss : List Sexp) × R ss
parts R None h = absurd h
parts R (Some l) h = (l.0, h)

-- the first part, and those after it
first_part : (First : Sexp → Type 0) (Rest : Row) (ss : List Sexp) → Then First Rest ss → ((s : Sexp) × First s) × ((more : List Sexp) × Rest more)
first_part First Rest [] h = absurd h
first_part First Rest (s ∷ ss) h = ((s, h.0), (ss, h.1))

-- the second part
second_part : (A B : Sexp → Type 0) (Rest : Row) (s : Sexp) → IsList (Then A (Then B Rest)) s → ((t : Sexp) × B t) × ((more : List Sexp) × Rest more)
second_part A B Rest s h =
    let p = parts (Then A (Then B Rest)) (parts_of s.node) h in
    let q = first_part A (Then B Rest) p.0 p.1 in
    first_part B Rest q.1.0 q.1.1

-- a load has a new name
new_name : (before : List Load) (l : Load) (s : Sexp) → IsLoad before l s → is_among (modules_of before) l.name ≡ false
new_name before l s h = (second_part (IsWord (codes "load")) (IsNew (modules_of before) l.name) (Then (IsString l.file) End) s h).0.1.2

-- What is known of loads and of the actions behind them.
record Known (before ls : List Load) (actions : List Action) : Type 0 where
  new : AreNew (modules_of before) ls
  rest : List Sexp
  actions_are : AreActions (modules_of (before ++ ls)) [] actions rest

known_loads : (before ls : List Load) (actions : List Action) (ss : List Sexp) → AreLoads before ls actions ss → Known before ls actions
known_loads before [] actions ss h =
    let P : List Load → Type 0 = λ x. AreActions (modules_of x) [] actions ss in
    record { new = tt; rest = ss; actions_are = subst P (sym (append-nil before)) h }
known_loads before (l ∷ ls) actions [] h = absurd h
known_loads before (l ∷ ls) actions (s ∷ ss) h =
    let k = known_loads (before ++ l ∷ []) ls actions ss h.1 in
    let N : List (List ℕ) → Type 0 = λ names. AreNew names ls in
    let P : List Load → Type 0 = λ x. AreActions (modules_of x) [] actions k.rest in
    record {
      new = (new_name before l s h.0, subst N (map-append (λ (x : Load). x.name) before (l ∷ [])) k.new);
      rest = k.rest;
      actions_are = subst P (append_assoc before (l ∷ []) ls) k.actions_are;
    }

known_action : (modules made : List (List ℕ)) (a : Action) (s : Sexp) → IsAction modules made a s → IsKnownAction modules made a
known_action modules made (New i m from) s h =
    let p = second_part (IsWord (codes "new")) (IsNew made i) (Then (IsKnown modules m) (Each (IsOrigin made) from)) s h in
    let q = first_part (IsKnown modules m) (Each (IsOrigin made) from) p.1.0 p.1.1 in
    (p.0.1.2, q.0.1.2)
known_action modules made (Call i x at args) s h = tt

made_more : (before : List Action) (a : Action) → instances_of (before ++ a ∷ []) ≡ instances_of before ++ made_by a
made_more before a = flat_map-append made_by before (a ∷ []) ∙ ap (λ l. instances_of before ++ l) (append-nil (made_by a))

known_actions : (modules : List (List ℕ)) (before more : List Action) (ss : List Sexp) → AreActions modules before more ss → AreKnown modules (instances_of before) more
known_actions modules before [] ss h = tt
known_actions modules before (a ∷ more) [] h = absurd h
known_actions modules before (a ∷ more) (s ∷ ss) h =
    let K : List (List ℕ) → Type 0 = λ names. AreKnown modules names more in
    (known_action modules (instances_of before) a s h.0, subst K (made_more before a) (known_actions modules (before ++ a ∷ []) more ss h.1))

-- ---- values

value_fits : (v : Val) (s : Sexp) → IsValue v s → ValInRange v
value_fits (I32 n) s h = let m = (second_part (IsWord (codes "i32")) (IsNumber 0 4294967295 n) End s h).0.1.no_more in omega (arith, m)
value_fits (I64 n) s h = let m = (second_part (IsWord (codes "i64")) (IsNumber 0 18446744073709551615 n) End s h).0.1.no_more in omega (arith, m)

values_fit : (vs : List Val) (ss : List Sexp) → Each IsValue vs ss → All ValInRange vs
values_fit [] ss h = All-nil ValInRange
values_fit (v ∷ vs) [] h = absurd h
values_fit (v ∷ vs) (s ∷ ss) h = All-cons ValInRange v vs (value_fits v s h.0) (values_fit vs ss h.1)

-- An action makes an instance of a module that is loaded, or its arguments lie in their ranges.
abbrev pub IsFine : (modules : List (List ℕ)) → Action → Type 0
IsFine modules (New instance «module» from) = is_among modules «module» ≡ true
IsFine modules (Call instance export at args) = All ValInRange args

abbrev pub AreFine : (modules : List (List ℕ)) → List Action → Type 0
AreFine modules [] = Unit {0}
AreFine modules (a ∷ more) = IsFine modules a × AreFine modules more

fine_action : (modules made : List (List ℕ)) (a : Action) (s : Sexp) → IsAction modules made a s → IsFine modules a
fine_action modules made (New i m from) s h = (known_action modules made (New i m from) s h).1
fine_action modules made (Call i x at args) s h =
    let p = second_part (IsWord (codes "call")) (IsKnown made i) (Then (IsStringAt x at) (Each IsValue args)) s h in
    let q = first_part (IsStringAt x at) (Each IsValue args) p.1.0 p.1.1 in
    values_fit args q.1.0 q.1.1

fine_actions : (modules : List (List ℕ)) (before more : List Action) (ss : List Sexp) → AreActions modules before more ss → AreFine modules more
fine_actions modules before [] ss h = tt
fine_actions modules before (a ∷ more) [] h = absurd h
fine_actions modules before (a ∷ more) (s ∷ ss) h = (fine_action modules (instances_of before) a s h.0, fine_actions modules (before ++ a ∷ []) more ss h.1)

-- What is known of a script.
pub record KnownScript (x : Script) : Type 0 where
  pub few : x.steps ≤ 100000000
  pub new : AreNew [] x.loads
  pub known : AreKnown (modules_of x.loads) [] x.actions
  pub fine : AreFine (modules_of x.loads) x.actions

pub known_script : (x : Script) → IsSpelled x → KnownScript x
unfolding ScriptSpells
known_script x h =
    let p = second_part (IsWord (codes "script")) (IsNumber 1 100000000 x.steps) (AreLoads [] x.loads x.actions) h.1.0 h.1.2 in
    let k = known_loads [] x.loads x.actions p.1.0 p.1.1 in
    record { few = p.0.1.no_more; new = k.new; known = known_actions (modules_of x.loads) [] x.actions k.rest k.actions_are; fine = fine_actions (modules_of x.loads) [] x.actions k.rest k.actions_are }
