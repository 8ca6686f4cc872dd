-- The lines of outlines and of bounds. They are this project's own.
use Rattle.std.specs.Prelude.{ℕ, ◌+◌, List, [], ◌∷◌, ◌++◌, Option, Some, None, codes}
use Rattle.std.specs.Fmt.{decimal}
use Rattle.outline_check.specs.declared.answer.Reason.{Reason}
use Rattle.outline_check.specs.declared.answer.Reason.TheVariants as reason
use Rattle.wasm_values.specs.Places.{place_text}
use Rattle.step_bound.specs.declared.bound.Bound.{Bound}
use Rattle.step_bound.specs.declared.bound.Bound.TheVariants as bound
use Rattle.report_lines.specs.Lines.{line}

-- The words of reasons; that of a derivation has the number of its bad step.
abbrev pub reason_text : Reason → List ℕ
reason_text reason.Notes = codes "notes"
reason_text reason.Stable = codes "stable"
reason_text reason.Scope = codes "scope"
reason_text reason.Exposed = codes "exposed"
reason_text reason.Use = codes "use"
reason_text reason.Fact = codes "fact"
reason_text reason.Chunk = codes "chunk"
reason_text (reason.Derivation k) = codes "derivation " ++ decimal k
reason_text reason.Target = codes "target"
reason_text reason.Initial = codes "initial"

-- The function, where one is meant.
abbrev pub function_text : Option ℕ → List ℕ
function_text None = []
function_text (Some f) = codes " in function " ++ decimal f

-- `failed: REASON at PLACE in function F`
abbrev pub failed_line : ℕ → Option ℕ → Reason → List ℕ
failed_line at function reason = line (codes "failed: " ++ (reason_text reason ++ (codes " at " ++ (place_text at ++ function_text function))))

-- The words of a bound.
abbrev pub bound_text : Bound → List ℕ
bound_text (bound.Steps n) = decimal n
bound_text bound.Over = codes "over"
bound_text bound.Unbounded = codes "none"

-- `function K: B`, `function K: over` or `function K: none`
abbrev pub bound_line : ℕ → Bound → List ℕ
bound_line number b = line (codes "function " ++ (decimal number ++ (codes ": " ++ bound_text b)))

-- A line for each of these functions, which have the numbers from the first one on.
abbrev pub bound_lines : (first : ℕ) → List Bound → List ℕ
bound_lines first [] = []
bound_lines first (b ∷ bs) = bound_line first b ++ bound_lines (first + 1) bs
