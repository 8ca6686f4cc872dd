-- Which texts spell which scripts, and the faults of the others.
use Rattle.std.specs.Prelude.{◌≡◌, ◌⊎◌, ℕ, List, Err}
use Rattle.sexp_text.specs.declared.fault.TextFault.{TextFault}
use Rattle.sexp_text.specs.declared.sexp.Sexp.{Sexp}
use Rattle.sexp_text.specs.Reading.{read}
use Rattle.sexp_text.specs.Spelling.{SexpSpells}
use Rattle.script_text.specs.declared.script.Script.{Script}
use Rattle.script_text.specs.Grammar.{IsScript}
use Rattle.script_text.specs.Reading.{script_in}

-- the text spells the script: its one list is the script by the grammar
unfoldable pub ScriptSpells : List ℕ → Script → Type 0
ScriptSpells text x = (s : Sexp) × SexpSpells text s × IsScript x s

-- The text has the fault: that of its list where it spells none, else the first in the order of the text by the grammar.
unfoldable pub ScriptFault : List ℕ → TextFault → Type 0
ScriptFault text fault = (read text ≡ Err fault) ⊎ ((s : Sexp) × SexpSpells text s × (script_in s ≡ Err fault))
