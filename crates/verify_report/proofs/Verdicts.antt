-- What a good report of a verdict on notes says.
use Rattle.std.proofs.Common.{◌≡◌, ℕ, List, Option, Some, None, Result, Ok, Err, refl, sym, ap, ◌∙◌, subst, inl, inr}
use Rattle.std.specs.Prelude.{IfOk}
use Rattle.wasm_syntax.specs.declared.module.Module.{Module}
use Rattle.wasm_syntax.specs.declared.module.Marks.{Marks}
use Rattle.binary_grammar.specs.declared.fault.DecodeFault.{DecodeFault}
use Rattle.binary_grammar.specs.declared.fault.DecodeFault.TheVariants as decode
use Rattle.outline_check.specs.declared.notes.Notes.{Notes}
use Rattle.outline_check.specs.Refusals.{Outline}
use Rattle.outline_check.specs.Refusals as outlines
use Rattle.outline_check.specs.Outlines.{outline}
use Rattle.first_reader.specs.ReadingNotes.{first_notes}
use Rattle.report_lines.specs.declared.report.Report as reports
use Rattle.report_lines.specs.declared.status.Status.TheVariants as status
use Rattle.report_lines.specs.Reports.{Report, seen, IsFaultReport, IsSpoken}
use Rattle.verify_report.specs.Reports.{outlined, noted, OfBytes, OfModule, OfFirst, OfJudged}
use Rattle.verify_report.specs.Outcomes.{verified_text}

-- a good report of what notes come to is `verified`
good_outline : (o : Outline) → (outlined o).status ≡ status.Good → (outlined o).text ≡ verified_text
good_outline outlines.Verified e = refl
good_outline (outlines.Failed at function reason) e = absurd cc
good_outline (outlines.Limit at word) e = absurd cc

good_noted : (m : Module) (k : Marks) (o : Option Notes) → (noted m k o).status ≡ status.Good → (noted m k o).text ≡ verified_text
good_noted m k None e = absurd cc
good_noted m k (Some notes) e = good_outline (outline m k notes) e

-- what is said where a report is good
abbrev SaysVerified : Report → Type 0
SaysVerified r = r.status ≡ status.Good → r.text ≡ verified_text

not_good : (r s : Report) → r ≡ s → (s.status ≡ status.Good → ⊥) → SaysVerified r
not_good r s e bad good = absurd (bad (sym (ap (λ (q : Report). q.status) e) ∙ good))

first_verdict : (text : List ℕ) (m : Module) (k : Marks) (r : Report) → OfFirst text m k r → SaysVerified r
unfolding OfFirst
first_verdict text m k r (inl h) = subst SaysVerified (sym h.1) (good_noted m k (first_notes text))
first_verdict text m k r (inr h) = not_good r _ h.1 (λ e. absurd cc)

module_verdict : (text : List ℕ) (m : Module) (k : Marks) (r : Report) → OfModule (OfFirst text) m k r → SaysVerified r
unfolding OfModule
module_verdict text m k r (inl h) = first_verdict text m k r h.1
module_verdict text m k r (inr h) = not_good r _ h.3 (λ e. absurd cc)

fault_verdict : (fault : DecodeFault) (r : Report) → IsFaultReport fault r → SaysVerified r
fault_verdict (decode.Malformed at w) r h = not_good r _ h (λ e. absurd cc)
fault_verdict (decode.Limit at w) r h = not_good r _ h (λ e. absurd cc)
fault_verdict decode.OutOfMemory r h = absurd h

pub verdict : (bytes text : List ℕ) (r : Report) → OfJudged bytes text r → SaysVerified r
unfolding OfBytes
verdict bytes text r (inl h) = module_verdict text h.0 h.1 r h.4
verdict bytes text r (inr h) = fault_verdict h.0 r h.2

pub unread_verdict : {E : Type 0} (F : Type 0) (made : Result reports.Report E) (long : Report) → (long.status ≡ status.Good → ⊥) → IfOk made (λ r. F × (seen r ≡ long)) → IfOk made (λ r. SaysVerified (seen r))
unread_verdict F (Ok r) long bad h = not_good (seen r) long h.1 bad
unread_verdict F (Err e) long bad h = tt
