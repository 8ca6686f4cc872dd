-- Which parts of a text are which parts of a script. The format of scripts is this project's own:
--
--   SCRIPT = (script N LOAD* ACTION*)                 N is 1 to 100000000
--   LOAD   = (load NAME STRING)
--   ACTION = (new NAME NAME FROM*) | (call NAME STRING VALUE*)
--   FROM   = (from NAME STRING)       VALUE = (i32 V) | (i64 V)     V unsigned and in range
--
-- A NAME is a word that begins with a letter. No module is loaded twice and no instance made twice, and every other name is that
-- of an earlier `load` or `new`.
use Rattle.std.specs.Prelude.{◌≡◌, ℕ, ◌^◌, ◌-◌, ◌≤◌, pos, true, false, List, [], ◌∷◌, ◌++◌, map, Option, Some, None, codes}
use Rattle.std.specs.List.{flat_map}
use Rattle.wasm_values.specs.declared.number.Val.{Val}
use Rattle.wasm_values.specs.declared.number.Val.TheVariants.{I32, I64}
use Rattle.sexp_text.specs.declared.sexp.Node.{Num, Word, Str}
use Rattle.sexp_text.specs.declared.sexp.Sexp.{Sexp}
use Rattle.script_text.specs.declared.script.Load.{Load}
use Rattle.script_text.specs.declared.script.Origin.{Origin}
use Rattle.script_text.specs.declared.script.Action.{Action}
use Rattle.script_text.specs.declared.script.Action.TheVariants.{New, Call}
use Rattle.script_text.specs.declared.script.Script.{Script}
use Rattle.script_text.specs.Names.{is_among, is_name}
use Rattle.script_text.specs.Parts.{parts_of}

-- ---- parts

-- what parts are to be, one after another
abbrev pub Row : Type 1
Row = List Sexp → Type 0

-- no part
abbrev pub End : Row
End [] = Unit {0}
End (s ∷ ss) = ⊥

-- a first part that is so, and then these
abbrev pub Then : (Sexp → Type 0) → Row → Row
Then First Rest [] = ⊥
Then First Rest (s ∷ ss) = First s × Rest ss

-- one part for each of these values
abbrev pub Each : {A : Type 0} → (A → Sexp → Type 0) → List A → Row
Each Is [] ss = End ss
Each Is (x ∷ xs) [] = ⊥
Each Is (x ∷ xs) (s ∷ ss) = Is x s × Each Is xs ss

-- a list of these parts
abbrev pub Listed : Row → Option (List Sexp × ℕ) → Type 0
Listed Parts None = ⊥
Listed Parts (Some l) = Parts l.0

abbrev pub IsList : Row → Sexp → Type 0
IsList Parts s = Listed Parts (parts_of s.node)

-- this word
abbrev pub IsWord : List ℕ → Sexp → Type 0
IsWord w s = s.node ≡ Word w

-- this string
abbrev pub IsString : List ℕ → Sexp → Type 0
IsString text s = s.node ≡ Str text

-- this string, whose first byte stands at this place
abbrev pub IsStringAt : List ℕ → ℕ → Sexp → Type 0
IsStringAt text at s = (s.node ≡ Str text) × (s.at ≡ at)

-- this number, which lies between two others
pub record IsNumber (least greatest n : ℕ) (s : Sexp) : Type 0 where
  pub number : s.node ≡ Num (pos n)
  pub no_less : least ≤ n
  pub no_more : n ≤ greatest

-- a name that is among these
abbrev pub IsKnown : List (List ℕ) → List ℕ → Sexp → Type 0
IsKnown names n s = IsWord n s × (is_name n ≡ true) × (is_among names n ≡ true)

-- a name that isn't among these
abbrev pub IsNew : List (List ℕ) → List ℕ → Sexp → Type 0
IsNew names n s = IsWord n s × (is_name n ≡ true) × (is_among names n ≡ false)

-- ---- scripts

-- the names of modules that are loaded
abbrev pub modules_of : List Load → List (List ℕ)
modules_of = map (λ l. l.name)

-- the name of the instance that an action makes, if it makes one
abbrev pub made_by : Action → List (List ℕ)
made_by (New instance «module» from) = instance ∷ []
made_by (Call instance export at args) = []

-- the names of the instances that actions make
abbrev pub instances_of : List Action → List (List ℕ)
instances_of = flat_map made_by

-- FROM, behind instances of these names
abbrev pub IsOrigin : List (List ℕ) → Origin → Sexp → Type 0
IsOrigin made o = IsList (Then (IsWord (codes "from")) (Then (IsKnown made o.instance) (Then (IsStringAt o.export o.at) End)))

-- VALUE
abbrev pub IsValue : Val → Sexp → Type 0
IsValue (I32 n) = IsList (Then (IsWord (codes "i32")) (Then (IsNumber 0 (2 ^ 32 - 1) n) End))
IsValue (I64 n) = IsList (Then (IsWord (codes "i64")) (Then (IsNumber 0 (2 ^ 64 - 1) n) End))

-- LOAD, behind these
abbrev pub IsLoad : List Load → Load → Sexp → Type 0
IsLoad before l = IsList (Then (IsWord (codes "load")) (Then (IsNew (modules_of before) l.name) (Then (IsString l.file) End)))

-- ACTION, with these modules, behind instances of these names
abbrev pub IsAction : (modules made : List (List ℕ)) → Action → Sexp → Type 0
IsAction modules made (New instance «module» from) =
    IsList (Then (IsWord (codes "new")) (Then (IsNew made instance) (Then (IsKnown modules «module») (Each (IsOrigin made) from))))
IsAction modules made (Call instance export at args) =
    IsList (Then (IsWord (codes "call")) (Then (IsKnown made instance) (Then (IsStringAt export at) (Each IsValue args))))

-- actions with these modules, behind these actions
abbrev pub AreActions : List (List ℕ) → (before : List Action) → List Action → Row
AreActions modules before [] ss = End ss
AreActions modules before (a ∷ more) [] = ⊥
AreActions modules before (a ∷ more) (s ∷ ss) = IsAction modules (instances_of before) a s × AreActions modules (before ++ a ∷ []) more ss

-- loads behind these loads, and then actions
abbrev pub AreLoads : (before : List Load) → List Load → List Action → Row
AreLoads before [] actions ss = AreActions (modules_of before) [] actions ss
AreLoads before (l ∷ ls) actions [] = ⊥
AreLoads before (l ∷ ls) actions (s ∷ ss) = IsLoad before l s × AreLoads (before ++ l ∷ []) ls actions ss

-- SCRIPT
abbrev pub IsScript : Script → Sexp → Type 0
IsScript x = IsList (Then (IsWord (codes "script")) (Then (IsNumber 1 100000000 x.steps) (AreLoads [] x.loads x.actions)))
