-- Words of private contracts.
use Rattle.std.specs.Prelude.{◌≡◌, ℕ, false, List, Result, Ok, Err}
use Rattle.sexp_text.specs.declared.fault.TextFault.{TextFault}
use Rattle.sexp_text.specs.declared.fault.TextFault.TheVariants.{OutOfMemory}
use Rattle.sexp_text.specs.declared.sexp.Sexp.{Sexp}
use Rattle.sexp_text.specs.Spelling.{SexpSpells}
use Rattle.script_text.specs.declared.script.Action.{Action}
use Rattle.script_text.specs.declared.script.Action.TheVariants.{New, Call}
use Rattle.script_text.specs.declared.script.Script.{Script}
use Rattle.script_text.specs.Names.{is_among}
use Rattle.script_text.specs.Reading.{script_in}
use Rattle.script_text.specs.Spelling.{ScriptFault}

-- the instance that an action makes, if it makes one, isn't among these
abbrev pub IsNewAmong : List (List ℕ) → Action → Type 0
IsNewAmong made (New instance «module» from) = is_among made instance ≡ false
IsNewAmong made (Call instance export at args) = Unit {0}

-- what reading a text answers: a script that its value is, or its fault, or want of memory
abbrev pub IsRead : List ℕ → Result Script TextFault → Type 0
IsRead text (Ok x) = (s : Sexp) × SexpSpells text s × (script_in s ≡ Ok x)
IsRead text (Err OutOfMemory) = Unit {0}
IsRead text (Err e) = ScriptFault text e
