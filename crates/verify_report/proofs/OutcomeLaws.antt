-- What a run comes to and writes, by the report of its words.
use Rattle.std.proofs.Common.{◌≡◌, ℕ, List, Option, Some, None, refl, sym, ap, subst, ◌∙◌, ◌⊎◌, inl, inr}
use Rattle.std.specs.Prelude.{IfSome}
use Rattle.report_lines.specs.declared.status.Status.{Status}
use Rattle.report_lines.specs.declared.status.Status.TheVariants as status
use Rattle.report_lines.specs.Reports.{Report, Files, IsSpoken}
use Rattle.verify_report.specs.Reports.{IsReport, OfCommand, command_of, words_refused}
use Rattle.verify_report.specs.Outcomes.{Comes, Wrote, Told}
use Rattle.verify_report.specs.Accepted.{IsAccepted}
use Rattle.verify_report.proofs.OnceLaws.{one_report}
use Rattle.verify_report.proofs.AcceptLaws.{accepted_reported, reported_accepted}

-- ---- what an action tells

told_report : (files : Option Files) (Is : Files → Report → Type 0) (r : Report) (came : Status) (rf wf : Type 0) (old new : Option (List ℕ)) →
    IfSome files (λ f. Is f r) → (came ≡ r.status) ⊎ ((came ≡ status.WriteFault) × wf) → Wrote came r.text old new → IfSome files (λ f. Told came (Is f) rf wf old new)
told_report None Is r came rf wf old new is comes wrote = tt
told_report (Some f) Is r came rf wf old new is comes wrote = inl (r, is, comes, wrote)

refused_report : (files : Option Files) (words : List (List ℕ)) → command_of words ≡ None → IfSome files (λ f. IsReport words f words_refused)
refused_report None words e = tt
refused_report (Some f) words e = subst (λ c. OfCommand f c words_refused) (sym e) refl

pub told_refused : (files : Option Files) (words : List (List ℕ)) (came : Status) (rf wf : Type 0) (old new : Option (List ℕ)) → command_of words ≡ None →
    (came ≡ status.Words) ⊎ ((came ≡ status.WriteFault) × wf) → Wrote came words_refused.text old new → IfSome files (λ f. Told came (IsReport words f) rf wf old new)
told_refused files words came rf wf old new e comes wrote = told_report files (λ f. IsReport words f) words_refused came rf wf old new (refused_report files words e) comes wrote

-- ---- by the one report

came_to : (words : List (List ℕ)) (files : Files) (came : Status) (rf wf : Type 0) (old new : Option (List ℕ)) → Told came (IsReport words files) rf wf old new →
    (r : Report) → IsReport words files r → Comes came r.status rf wf
came_to words files came rf wf old new (inl h) r is = by h.0 h.2 (one_report words files h.0 r h.1 is)
  where
    by : (s : Report) → (came ≡ s.status) ⊎ ((came ≡ status.WriteFault) × wf) → s ≡ r → Comes came r.status rf wf
    by s (inl e) one = inl (e ∙ ap (λ (q : Report). q.status) one)
    by s (inr e) one = inr (inr (inr e))
came_to words files came rf wf old new (inr h) r is = by h.0
  where
    by : (came ≡ status.OutOfMemory) ⊎ ((came ≡ status.ReadFault) × rf) → Comes came r.status rf wf
    by (inl e) = inr (inl e)
    by (inr e) = inr (inr (inl e))

wrote_to : (words : List (List ℕ)) (files : Files) (came : Status) (rf wf : Type 0) (old new : Option (List ℕ)) → Told came (IsReport words files) rf wf old new →
    (r : Report) → IsReport words files r → Wrote came r.text old new
wrote_to words files came rf wf old new (inl h) r is =
    let W : Report → Type 0 = λ q. Wrote came q.text old new in
    subst W (one_report words files h.0 r h.1 is) h.3
wrote_to words files came rf wf old new (inr h) r is = by h.0
  where
    by : (came ≡ status.OutOfMemory) ⊎ ((came ≡ status.ReadFault) × rf) → Wrote came r.text old new
    by (inl e) = let W : Status → Type 0 = λ c. Wrote c r.text old new in subst W (sym e) h.1
    by (inr e) = let W : Status → Type 0 = λ c. Wrote c r.text old new in subst W (sym e.0) h.1

there_is : (words : List (List ℕ)) (files : Files) (came : Status) (rf wf : Type 0) (old new : Option (List ℕ)) → Told came (IsReport words files) rf wf old new →
    IsSpoken came → (r : Report) × IsReport words files r × (r.status ≡ came)
there_is words files came rf wf old new (inl h) spoken = by h.2
  where
    by : (came ≡ h.0.status) ⊎ ((came ≡ status.WriteFault) × wf) → (r : Report) × IsReport words files r × (r.status ≡ came)
    by (inl e) = (h.0, h.1, sym e)
    by (inr e) = absurd (subst IsSpoken e.0 spoken)
there_is words files came rf wf old new (inr h) spoken = by h.0
  where
    by : (came ≡ status.OutOfMemory) ⊎ ((came ≡ status.ReadFault) × rf) → (r : Report) × IsReport words files r × (r.status ≡ came)
    by (inl e) = absurd (subst IsSpoken e spoken)
    by (inr e) = absurd (subst IsSpoken e.0 spoken)

-- ---- as clauses of a run

pub comes : (words : List (List ℕ)) (files : Option Files) (came : Status) (rf wf : Type 0) (old new : Option (List ℕ)) → IfSome files (λ f. Told came (IsReport words f) rf wf old new) →
    IfSome files (λ f. (r : Report) → IsReport words f r → Comes came r.status rf wf)
comes words None came rf wf old new h = tt
comes words (Some f) came rf wf old new h = came_to words f came rf wf old new h

pub wrote : (words : List (List ℕ)) (files : Option Files) (came : Status) (rf wf : Type 0) (old new : Option (List ℕ)) → IfSome files (λ f. Told came (IsReport words f) rf wf old new) →
    IfSome files (λ f. (r : Report) → IsReport words f r → Wrote came r.text old new)
wrote words None came rf wf old new h = tt
wrote words (Some f) came rf wf old new h = wrote_to words f came rf wf old new h

pub good : (words : List (List ℕ)) (files : Option Files) (came : Status) (rf wf : Type 0) (old new : Option (List ℕ)) → IfSome files (λ f. Told came (IsReport words f) rf wf old new) →
    came ≡ status.Good → IfSome files (λ f. IsAccepted words f)
good words None came rf wf old new h e = tt
good words (Some f) came rf wf old new h e =
    let there = there_is words f came rf wf old new h (subst IsSpoken (sym e) tt) in
    reported_accepted words f there.0 there.1 (there.2 ∙ e)

pub complete : (words : List (List ℕ)) (files : Option Files) (came : Status) (rf wf : Type 0) (old new : Option (List ℕ)) → IfSome files (λ f. Told came (IsReport words f) rf wf old new) →
    IfSome files (λ f. IsAccepted words f → Comes came status.Good rf wf)
complete words None came rf wf old new h = tt
complete words (Some f) came rf wf old new h = λ a.
    let there = accepted_reported words f a in
    let C : Status → Type 0 = λ s. Comes came s rf wf in
    subst C there.2 (came_to words f came rf wf old new h there.0 there.1)
