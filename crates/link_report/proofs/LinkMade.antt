-- What `link` reports, put together from what the layers below answer.
use Rattle.std.proofs.Common.{◌≡◌, ℕ, List, Option, Some, None, Result, Ok, Err, refl, subst, ◌⊎◌, inl, inr}
use Rattle.std.specs.Prelude.{IfSome, IsSomeAnd, IfOk}
use Rattle.sexp_text.specs.declared.fault.TextFault.{TextFault}
use Rattle.sexp_text.specs.declared.fault.TextFault.TheVariants as text
use Rattle.script_text.specs.declared.script.Script.{Script}
use Rattle.script_text.specs.Spelling.{ScriptSpells, ScriptFault}
use Rattle.wasm_link.specs.declared.fault.LinkFault.{LinkFault}
use Rattle.wasm_link.specs.declared.fault.LinkFault.TheVariants as fault
use Rattle.wasm_link.specs.declared.log.Log.{Log}
use Rattle.wasm_link.specs.Loading.{IsFirstRefused}
use Rattle.wasm_link.specs.Answers.{RunAnswers}
use Rattle.report_lines.specs.declared.report.Report as reports
use Rattle.report_lines.specs.Reports.{Report, Files, seen, nothing_read, IsSpoken}
use Rattle.link_report.specs.Links.{log_report, IsTextReport, IsEndReport, OfRun, OfScript}

-- ---- a script

-- it was run to its end
pub logged : (told : Option Files) (x : Script) (log : Log) (r : reports.Report) → IfSome told (λ files. RunAnswers files x (Ok log)) → seen r ≡ log_report log.text → IfSome told (λ files. OfRun files x (seen r))
unfolding OfRun
logged None x log r h e = tt
logged (Some files) x log r h e = (Ok log, h, e)

-- it was not
refused_so : (files : Files) (x : Script) (f : LinkFault) (r : reports.Report) → RunAnswers files x (Err f) → IsEndReport (Err f) (seen r) → IsSpoken r.status → OfRun files x (seen r)
unfolding OfRun
refused_so files x fault.Shelf r h e spoken = absurd (subst (λ (q : Report). IsSpoken q.status) e spoken)
refused_so files x (fault.TooLong name) r h e spoken = (Err (fault.TooLong name), h, e)
refused_so files x (fault.Decode name f) r h e spoken = (Err (fault.Decode name f), h, e)
refused_so files x (fault.Invalid name f) r h e spoken = (Err (fault.Invalid name f), h, e)
refused_so files x (fault.UnknownName at) r h e spoken = (Err (fault.UnknownName at), h, e)
refused_so files x fault.OutOfMemory r h e spoken = absurd e

pub refused : {E : Type 0} (made : Result reports.Report E) (told : Option Files) (x : Script) (f : LinkFault) → IfSome told (λ files. RunAnswers files x (Err f)) → IfOk made (λ r. IsEndReport (Err f) (seen r)) →
    IfOk made (λ r. IsSpoken r.status) → IfOk made (λ r. IfSome told (λ files. OfRun files x (seen r)))
refused (Err e) told x f h said spoken = tt
refused (Ok r) None x f h said spoken = tt
refused (Ok r) (Some files) x f h said spoken = refused_so files x f r h said spoken

-- the shelf failed, or lacks the file of the first load that is refused
pub not_loaded : (F : Type 0) (told : Option Files) (x : Script) → F ⊎ IsSomeAnd told (λ files. IsFirstRefused files x.loads fault.Shelf) → F ⊎ IsSomeAnd told (λ files. OfRun files x nothing_read)
unfolding OfRun
not_loaded F told x (inl h) = inl h
not_loaded F None x (inr h) = absurd h
not_loaded F (Some files) x (inr h) = inr (Err fault.Shelf, h, refl)

-- ---- a text

pub scripted : {E : Type 0} (made : Result reports.Report E) (told : Option Files) (t : List ℕ) (x : Script) → ScriptSpells t x → IfOk made (λ r. IfSome told (λ files. OfRun files x (seen r))) →
    IfOk made (λ r. IfSome told (λ files. OfScript files t (seen r)))
unfolding OfScript
scripted (Err e) told t x spelled h = tt
scripted (Ok r) None t x spelled h = tt
scripted (Ok r) (Some files) t x spelled h = inl (x, spelled, h)

pub scripted_unread : (F : Type 0) (told : Option Files) (t : List ℕ) (x : Script) → ScriptSpells t x → F ⊎ IsSomeAnd told (λ files. OfRun files x nothing_read) → F ⊎ IsSomeAnd told (λ files. OfScript files t nothing_read)
unfolding OfScript
scripted_unread F told t x spelled (inl h) = inl h
scripted_unread F None t x spelled (inr h) = absurd h
scripted_unread F (Some files) t x spelled (inr h) = inr (inl (x, spelled, h))

pub faulted : {E : Type 0} (made : Result reports.Report E) (told : Option Files) (t : List ℕ) (f : TextFault) → (f ≡ text.OutOfMemory) ⊎ ScriptFault t f → IfOk made (λ r. IsTextReport f (seen r)) →
    IfOk made (λ r. IfSome told (λ files. OfScript files t (seen r)))
unfolding OfScript
faulted (Err e) told t f h said = tt
faulted (Ok r) None t f h said = tt
faulted (Ok r) (Some files) t (text.Refused at w) (inl e) said = absurd cc
faulted (Ok r) (Some files) t (text.Limit at w) (inl e) said = absurd cc
faulted (Ok r) (Some files) t text.OutOfMemory h said = absurd said
faulted (Ok r) (Some files) t (text.Refused at w) (inr h) said = inr (text.Refused at w, h, said)
faulted (Ok r) (Some files) t (text.Limit at w) (inr h) said = inr (text.Limit at w, h, said)
