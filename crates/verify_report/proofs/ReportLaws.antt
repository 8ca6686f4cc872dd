-- What each stage reports, put together from what the layers below answer.
use Rattle.std.proofs.Common.{◌≡◌, ℕ, ◌<◌, ◌≤◌, List, length, Option, Some, None, Result, Ok, Err, refl, sym, subst, arith, ◌⊎◌, inl, inr}
use Rattle.std.specs.Prelude.{IfSome, IsSome, IsSomeAnd, IfOk}
use Rattle.wasm_syntax.specs.declared.module.Module.{Module}
use Rattle.wasm_syntax.specs.declared.module.Marks.{Marks}
use Rattle.binary_grammar.specs.declared.fault.DecodeFault.{DecodeFault}
use Rattle.binary_grammar.specs.declared.fault.DecodeFault.TheVariants as decode
use Rattle.binary_grammar.specs.Bounds.{the_bounds}
use Rattle.binary_grammar.specs.ModuleGrammar.{Spells, InLimits}
use Rattle.binary_grammar.specs.Plans.{Refused}
use Rattle.wasm_typing.specs.declared.fault.ValidWord.{ValidWord}
use Rattle.wasm_typing.specs.declared.fault.ValidFault.{ValidFault}
use Rattle.wasm_typing.specs.declared.fault.ValidFault.TheVariants as fault
use Rattle.body_check.specs.words.Answers.{Answers}
use Rattle.wasm_typing.specs.Valid.{Valid}
use Rattle.wasm_typing.specs.faults.Faults.{InvalidAt}
use Rattle.outline_check.specs.First.{IsFirst}
use Rattle.first_reader.specs.ReadingNotes.{first_notes}
use Rattle.rw_edge.specs.Files.{contents_of, Lacks, IfContents, IsLonger}
use Rattle.rw_edge.specs.Count.{Faulted}
use Rattle.rw_edge.specs.declared.error.ReadFault.{ReadFault}
use Rattle.rw_edge.specs.declared.error.ReadFault.TheVariants as read
use Rattle.report_lines.specs.declared.report.Report as reports
use Rattle.report_lines.specs.Reports.{Report, seen, Files, nothing_read, IsFaultReport, invalid_report, OfFile}
use Rattle.verify_report.specs.Reports.{OfBytes, OfModule, OfFirst, noted, unbuilt_module}

-- ---- bytes

pub spelled : (Next : Module → Marks → Report → Type 0) (bytes : List ℕ) (m : Module) (k : Marks) (r : Report) → Spells bytes m k → InLimits the_bounds m → Next m k r → OfBytes Next bytes r
unfolding OfBytes
spelled Next bytes m k r s within next = inl (m, k, s, within, next)

pub faulted : (Next : Module → Marks → Report → Type 0) (bytes : List ℕ) (fault : DecodeFault) (r : Report) → Refused the_bounds bytes fault → IsFaultReport fault r → OfBytes Next bytes r
unfolding OfBytes
faulted Next bytes (decode.Malformed at w) r f e = inr (decode.Malformed at w, f, e)
faulted Next bytes (decode.Limit at w) r f e = inr (decode.Limit at w, f, e)
faulted Next bytes decode.OutOfMemory r f e = absurd e

-- ---- modules

pub valid : (Next : Module → Marks → Report → Type 0) (m : Module) (k : Marks) (r : Report) → Valid m → Next m k r → OfModule Next m k r
unfolding OfModule
valid Next m k r v next = inl (v, next)

pub invalid : (Next : Module → Marks → Report → Type 0) (m : Module) (k : Marks) (r : Report) (at : ℕ) (w : ValidWord) → InvalidAt m k at w → r ≡ invalid_report at w → OfModule Next m k r
unfolding OfModule
invalid Next m k r at w i e = inr (at, w, i, e)

-- ---- the form First

pub first : (text : List ℕ) (m : Module) (k : Marks) (r : Report) → IsFirst m → r ≡ noted m k (first_notes text) → OfFirst text m k r
unfolding OfFirst
first text m k r is e = inl (is, e)

pub not_first : (text : List ℕ) (m : Module) (k : Marks) (r : Report) → (IsFirst m → ⊥) → r ≡ unbuilt_module → OfFirst text m k r
unfolding OfFirst
not_first text m k r is e = inr (is, e)

-- ---- what the code made of each

-- a module that was decoded
pub spelled_made : {E : Type 0} (Next : Module → Marks → Report → Type 0) (made : Result reports.Report E) (bytes : List ℕ) (m : Module) (k : Marks) → Spells bytes m k × InLimits the_bounds m →
    IfOk made (λ r. Next m k (seen r)) → IfOk made (λ r. OfBytes Next bytes (seen r))
spelled_made Next (Ok r) bytes m k found next = spelled Next bytes m k (seen r) found.0 found.1 next
spelled_made Next (Err e) bytes m k found next = tt

-- bytes that were refused
pub faulted_made : {E : Type 0} (Next : Module → Marks → Report → Type 0) (made : Result reports.Report E) (bytes : List ℕ) (fault : DecodeFault) → Refused the_bounds bytes fault →
    IfOk made (λ r. IsFaultReport fault (seen r)) → IfOk made (λ r. OfBytes Next bytes (seen r))
faulted_made Next (Ok r) bytes fault refused e = faulted Next bytes fault (seen r) refused e
faulted_made Next (Err e) bytes fault refused h = tt

-- a module that is valid
pub valid_made : {E : Type 0} (Next : Module → Marks → Report → Type 0) (made : Result reports.Report E) (v m : Module) (k : Marks) → (v ≡ m) × Valid m →
    IfOk made (λ r. Next v k (seen r)) → IfOk made (λ r. OfModule Next m k (seen r))
valid_made Next (Ok r) v m k h next = let N : Module → Type 0 = λ n. Next n k (seen r) in valid Next m k (seen r) h.1 (subst N h.0 next)
valid_made Next (Err e) v m k h next = tt

-- a module that isn't valid
pub invalid_made : {A : Type 0} (holds : A → Type 0) (Next : Module → Marks → Report → Type 0) (m : Module) (k : Marks) (r : Report) (e : ValidFault) (at : ℕ) (w : ValidWord) → e ≡ fault.Invalid at w →
    Answers holds (λ at w. InvalidAt m k at w × (Valid m → ⊥)) (Err e) → r ≡ invalid_report at w → OfModule Next m k r
invalid_made holds Next m k r e at w is answer said =
    let F : ValidFault → Type 0 = λ f. Answers holds (λ at w. InvalidAt m k at w × (Valid m → ⊥)) (Err f) in
    let i : InvalidAt m k at w × (Valid m → ⊥) = subst F is answer in
    invalid Next m k r at w i.0 said

-- a valid module of which one thing is said
pub valid_said : {E : Type 0} (Next : Module → Marks → Report → Type 0) (made : Result reports.Report E) (m : Module) (k : Marks) (said : Report) → Valid m → Next m k said →
    IfOk made (λ r. seen r ≡ said) → IfOk made (λ r. OfModule Next m k (seen r))
valid_said Next (Ok r) m k said v next e = let N : Report → Type 0 = λ q. Next m k q in valid Next m k (seen r) v (subst N (sym e) next)
valid_said Next (Err f) m k said v next h = tt

-- a module that isn't valid, of which that is said
pub invalid_said : {A E : Type 0} (holds : A → Type 0) (Next : Module → Marks → Report → Type 0) (made : Result reports.Report E) (m : Module) (k : Marks) (e : ValidFault) (at : ℕ) (w : ValidWord) → e ≡ fault.Invalid at w →
    Answers holds (λ at w. InvalidAt m k at w × (Valid m → ⊥)) (Err e) → IfOk made (λ r. seen r ≡ invalid_report at w) → IfOk made (λ r. OfModule Next m k (seen r))
invalid_said holds Next (Ok r) m k e at w is answer said = invalid_made holds Next m k (seen r) e at w is answer said
invalid_said holds Next (Err f) m k e at w is answer h = tt

-- a module that isn't of the form First, of which that is said
pub not_first_said : {E : Type 0} (made : Result reports.Report E) (text : List ℕ) (m : Module) (k : Marks) → (IsFirst m → ⊥) →
    IfOk made (λ r. seen r ≡ unbuilt_module) → IfOk made (λ r. OfFirst text m k (seen r))
not_first_said (Ok r) text m k is said = not_first text m k (seen r) is said
not_first_said (Err f) text m k is h = tt

-- a module of the form First
pub first_made : {E : Type 0} (made : Result reports.Report E) (text : List ℕ) (m : Module) (k : Marks) → IsFirst m →
    IfOk made (λ r. seen r ≡ noted m k (first_notes text)) → IfOk made (λ r. OfFirst text m k (seen r))
first_made (Ok r) text m k is e = first text m k (seen r) is e
first_made (Err e) text m k is h = tt
