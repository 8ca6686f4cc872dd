-- What is said of a module and notes in one file.
use Rattle.std.proofs.Common.{◌≡◌, ℕ, ◌<◌, ◌≤◌, Bool, true, false, if◌then◌else◌, List, length, Option, Some, None, Result, Ok, Err, refl, sym, ap, subst, ◌∙◌, arith, inl, inr}
use Rattle.std.specs.Prelude.{IfOk, ◌↔◌}
use Rattle.rw_edge.specs.Files.{contents_of}
use Rattle.wasm_seal.specs.Sealed.{sealed_file, Split}
use Rattle.wasm_seal.proofs.NotesLaws.{one_split}
use Rattle.report_lines.specs.declared.report.Report as reports
use Rattle.report_lines.specs.declared.status.Status.TheVariants as status
use Rattle.report_lines.specs.Reports.{Report, seen, Files, module_limit, module_too_long, OfFile}
use Rattle.verify_report.specs.Reports.{notes_limit, notes_too_long, sealed_limit, sealed_too_long, not_sealed, is_good, OfJudged, OfNotes, OfVerify, sealing, OfSealing, OfParts, OfSplit, OfSealed}
use Rattle.verify_report.specs.Outcomes.{verified_text}
use Rattle.verify_report.proofs.AcceptLaws.{good_status}
use Rattle.verify_report.proofs.Verdicts.{verdict}

-- ---- sealing

pub sealed_in_place : (bytes text file : List ℕ) (said : Report) → said.status ≡ status.Good → file ≡ sealed_file bytes text → record { text = file; status = status.Good } ≡ sealing bytes text said
sealed_in_place bytes text file said e f =
    let g : is_good said.status ≡ true = ap is_good e in
    rw g (ap (λ t. record { text = t; status = status.Good }) f)

pub kept_in_place : (bytes text : List ℕ) (said : Report) → (said.status ≡ status.Good → ⊥) → said ≡ sealing bytes text said
kept_in_place bytes text said other = by (is_good said.status) refl
  where
    by : (b : Bool) → is_good said.status ≡ b → said ≡ (if b then record { text = sealed_file bytes text; status = status.Good } else said)
    by true e = absurd (other (good_status said.status e))
    by false e = refl

pub sealing_made : {E : Type 0} (made : Result reports.Report E) (bytes text : List ℕ) (said : Report) → OfJudged bytes text said → IfOk made (λ r. seen r ≡ sealing bytes text said) → IfOk made (λ r. OfSealing bytes text (seen r))
sealing_made (Ok r) bytes text said judged e = (said, judged, e)
sealing_made (Err f) bytes text said judged h = tt

-- ---- parts of a file

pub module_long : {E : Type 0} (made : Result reports.Report E) (bytes text : List ℕ) → module_limit < length bytes → IfOk made (λ r. seen r ≡ module_too_long) → IfOk made (λ r. OfParts bytes text (seen r))
unfolding OfFile
module_long (Ok r) bytes text lt e = inl (lt, e)
module_long (Err f) bytes text lt h = tt

pub notes_long : {E : Type 0} (made : Result reports.Report E) (bytes text : List ℕ) → length bytes ≤ module_limit → notes_limit < length text → IfOk made (λ r. seen r ≡ notes_too_long) → IfOk made (λ r. OfParts bytes text (seen r))
unfolding OfFile
notes_long (Ok r) bytes text few lt e = inr (few, inl (lt, e))
notes_long (Err f) bytes text few lt h = tt

pub parts_judged : {E : Type 0} (made : Result reports.Report E) (bytes text : List ℕ) → length bytes ≤ module_limit → length text ≤ notes_limit → IfOk made (λ r. OfJudged bytes text (seen r)) → IfOk made (λ r. OfParts bytes text (seen r))
unfolding OfFile
parts_judged (Ok r) bytes text few short h = inr (few, inr (short, h))
parts_judged (Err f) bytes text few short h = tt

pub split_made : {E : Type 0} (made : Result reports.Report E) (file a b bytes text : List ℕ) → a ≡ bytes → b ≡ text → Split file bytes text → IfOk made (λ r. OfParts a b (seen r)) → IfOk made (λ r. OfSplit file (seen r))
unfolding OfSplit
split_made (Ok r) file a b bytes text e f s h = inl (a, b, subst (λ x. Split file x b) (sym e) (subst (λ x. Split file bytes x) (sym f) s), h)
split_made (Err g) file a b bytes text e f s h = tt

pub unsplit_made : {E : Type 0} (made : Result reports.Report E) (file : List ℕ) → ((bytes text : List ℕ) → Split file bytes text → ⊥) → IfOk made (λ r. seen r ≡ not_sealed) → IfOk made (λ r. OfSplit file (seen r))
unfolding OfSplit
unsplit_made (Ok r) file none e = inr (none, e)
unsplit_made (Err f) file none h = tt

-- ---- verdicts

pub judged_verdict : {E : Type 0} (made : Result reports.Report E) (bytes text : List ℕ) → IfOk made (λ r. OfJudged bytes text (seen r)) → IfOk made (λ r. r.status ≡ status.Good → r.text.items ≡ verified_text)
judged_verdict (Ok r) bytes text h = verdict bytes text (seen r) h
judged_verdict (Err f) bytes text h = tt

pub bad_verdict : {E : Type 0} (made : Result reports.Report E) (said : Report) → (said.status ≡ status.Good → ⊥) → IfOk made (λ r. seen r ≡ said) → IfOk made (λ r. r.status ≡ status.Good → r.text.items ≡ verified_text)
bad_verdict (Ok r) said bad e = λ good. absurd (bad (sym (ap (λ (q : Report). q.status) e) ∙ good))
bad_verdict (Err f) said bad h = tt

-- ---- the same as `verify`

file_there : (limit : ℕ) (long : Report) (Next : List ℕ → Report → Type 0) (o : Option (List ℕ)) (c : List ℕ) (r : Report) → o ≡ Some c → length c ≤ limit → OfFile limit long Next o r ↔ Next c r
unfolding OfFile
file_there limit long Next o c r e le =
    let F : Option (List ℕ) → Type 0 = λ p. OfFile limit long Next p r in
    (λ h. by (subst F e h), λ h. subst F (sym e) (inr (le, h)))
  where
    by : OfFile limit long Next (Some c) r → Next c r
    by (inl h) = absurd (let lt = h.0 in omega arith)
    by (inr h) = h.1

parts_of_split : (file bytes text : List ℕ) (r : Report) → Split file bytes text → OfSplit file r ↔ OfParts bytes text r
unfolding OfSplit
parts_of_split file bytes text r s = (by, λ h. inl (bytes, text, s, h))
  where
    by : OfSplit file r → OfParts bytes text r
    by (inl h) =
        let one = one_split file h.0 bytes h.1 text h.2 s in
        let B : List ℕ → Type 0 = λ x. OfParts x h.1 r in
        let T : List ℕ → Type 0 = λ x. OfParts bytes x r in
        subst T one.1 (subst B one.0 h.3)
    by (inr h) = absurd (h.0 bytes text s)

verify_of_parts : (files : Files) («module» notes bytes text : List ℕ) (r : Report) → contents_of files «module» ≡ Some bytes → contents_of files notes ≡ Some text → OfParts bytes text r ↔ OfVerify files «module» notes r
verify_of_parts files «module» notes bytes text r m n =
    let M : Option (List ℕ) → Type 0 = λ o. OfFile module_limit module_too_long (λ b. OfNotes b (Some text)) o r in
    let N : Option (List ℕ) → Type 0 = λ o. OfFile module_limit module_too_long (λ b. OfNotes b o) (contents_of files «module») r in
    (λ h. subst N (sym n) (subst M (sym m) h), λ h. subst M m (subst N n h))

pub sealed_as_verify : (files others : Files) (name «module» notes file bytes text : List ℕ) (r : Report) →
    contents_of files name ≡ Some file → length file ≤ sealed_limit → Split file bytes text → contents_of others «module» ≡ Some bytes → contents_of others notes ≡ Some text → OfSealed files name r ↔ OfVerify others «module» notes r
sealed_as_verify files others name «module» notes file bytes text r e few s m n =
    let a = file_there sealed_limit sealed_too_long OfSplit (contents_of files name) file r e few in
    let b = parts_of_split file bytes text r s in
    let c = verify_of_parts others «module» notes bytes text r m n in
    (λ h. c.0 (b.0 (a.0 h)), λ h. a.1 (b.1 (c.1 h)))
