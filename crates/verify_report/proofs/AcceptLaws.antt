-- A report is good exactly where the words and files are accepted.
use Rattle.std.proofs.Common.{◌≡◌, ℕ, ◌+◌, ◌≤◌, arith, Bool, true, false, if◌then◌else◌, List, length, Option, Some, None, refl, sym, ap, subst, ◌∙◌, inl, inr}
use Rattle.std.specs.Prelude.{IsSomeAnd}
use Rattle.wasm_syntax.specs.declared.module.Module.{Module}
use Rattle.wasm_syntax.specs.declared.module.Marks.{Marks}
use Rattle.binary_grammar.specs.declared.fault.DecodeFault.{DecodeFault}
use Rattle.binary_grammar.specs.declared.fault.DecodeFault.TheVariants as decode
use Rattle.binary_grammar.specs.Bounds.{the_bounds}
use Rattle.binary_grammar.specs.ModuleGrammar.{Spells, InLimits}
use Rattle.wasm_typing.specs.Valid.{Valid}
use Rattle.outline_check.specs.declared.notes.Notes.{Notes}
use Rattle.outline_check.specs.First.{IsFirst}
use Rattle.outline_check.specs.Refusals.{Outline, Verified, Failed, Limit}
use Rattle.outline_check.specs.Outlines.{outline}
use Rattle.first_reader.specs.ReadingNotes.{first_notes}
use Rattle.first_reader.specs.FirstNotes.{IsFirstText}
use Rattle.first_reader.proofs.NoteLaws as notes_laws
use Rattle.step_bound.proofs.Existing.{bounds_exist}
use Rattle.rw_edge.specs.Files.{contents_of}
use Rattle.wasm_seal.specs.Sealed.{sealed_file, Split}
use Rattle.report_lines.specs.declared.status.Status.{Status}
use Rattle.report_lines.specs.declared.status.Status.TheVariants as status
use Rattle.report_lines.specs.Reports.{Report, Files, module_limit, module_too_long, IsFaultReport, OfFile}
use Rattle.verify_report.specs.Reports.{Command, Check, Show, Verify, Seal, Sealed, Link, notes_limit, notes_too_long, sealed_limit, sealed_too_long, module_valid, module_listed, outlined, noted, OfBytes, OfModule, OfFirst, OfChecked, OfShown, OfJudged, OfNotes, is_good, sealing, OfSealing, OfSealedNotes, OfParts, OfSplit, OfCommand, command_of, IsReport, Steps, bounds_listed, OfBounds, OfBounded}
use Rattle.link_report.proofs.LinkGood.{link_only, link_there}
use Rattle.report_lines.proofs.FileGood.{IsGood, not_good, good_file, file_good, not_fault, there_is, at_some}
use Rattle.verify_report.proofs.ReportLaws as stages
use Rattle.verify_report.proofs.OnceLaws.{command_once}
use Rattle.verify_report.specs.Accepted.{IsModule, IsValidModule, Accepts, AcceptsSealed, Accepted, IsAccepted}

-- ---- bytes and modules

good_bytes : (Next : Module → Marks → Report → Type 0) (bytes : List ℕ) (r : Report) → OfBytes Next bytes r → IsGood r → (m : Module) × (k : Marks) × Spells bytes m k × InLimits the_bounds m × Next m k r
unfolding OfBytes
good_bytes Next bytes r (inl h) good = h
good_bytes Next bytes r (inr h) good = absurd (not_fault h.0 r h.2 good)

good_module : (Next : Module → Marks → Report → Type 0) (m : Module) (k : Marks) (r : Report) → OfModule Next m k r → IsGood r → Valid m × Next m k r
unfolding OfModule
good_module Next m k r (inl h) good = h
good_module Next m k r (inr h) good = absurd (not_good r _ h.3 (λ e. absurd cc) good)

-- ---- notes and the outline

good_outline : (o : Outline) → IsGood (outlined o) → o ≡ Verified
good_outline Verified e = refl
good_outline (Failed at function reason) e = absurd cc
good_outline (Limit at word) e = absurd cc

-- what a good verdict on a valid module and a text rests on
record IsJudged (text : List ℕ) (m : Module) (k : Marks) : Type 0 where
  notes : Notes
  first : IsFirst m
  said : IsFirstText text notes
  verified : outline m k notes ≡ Verified

good_notes : (text : List ℕ) (m : Module) (k : Marks) (o : Option Notes) → first_notes text ≡ o → IsFirst m → IsGood (noted m k o) → IsJudged text m k
good_notes text m k None e first good = absurd cc
good_notes text m k (Some a) e first good = record { notes = a; first = first; said = notes_laws.found text a e; verified = good_outline (outline m k a) good }

good_first : (text : List ℕ) (m : Module) (k : Marks) (r : Report) → OfFirst text m k r → IsGood r → IsJudged text m k
unfolding OfFirst
good_first text m k r (inl h) good = good_notes text m k (first_notes text) refl h.0 (subst IsGood h.1 good)
good_first text m k r (inr h) good = absurd (not_good r _ h.1 (λ e. absurd cc) good)

first_good : (text : List ℕ) (m : Module) (k : Marks) → IsJudged text m k → OfFirst text m k (outlined Verified)
unfolding OfFirst
first_good text m k h =
    let read : first_notes text ≡ Some h.notes = notes_laws.found_again text h.notes h.said in
    inl (h.first, sym (ap (noted m k) read ∙ ap outlined h.verified))

-- ---- commands

good_checked : (bytes : List ℕ) (r : Report) → length bytes ≤ module_limit → OfChecked bytes r → IsGood r → IsValidModule bytes
good_checked bytes r le h good =
    let Next : Module → Marks → Report → Type 0 = λ m k r. r ≡ module_valid in
    let b = good_bytes (OfModule Next) bytes r h good in
    let v = good_module Next b.0 b.1 r b.4 good in
    record { «module» = b.0; marks = b.1; few_bytes = le; spelled = b.2; within = b.3; valid = v.0 }

checked_good : (bytes : List ℕ) → IsValidModule bytes → OfChecked bytes module_valid
checked_good bytes v =
    let Next : Module → Marks → Report → Type 0 = λ m k r. r ≡ module_valid in
    stages.spelled (OfModule Next) bytes v.module v.marks module_valid v.spelled v.within (stages.valid Next v.module v.marks module_valid v.valid refl)

good_shown : (bytes : List ℕ) (r : Report) → length bytes ≤ module_limit → OfShown bytes r → IsGood r → IsModule bytes
good_shown bytes r le h good =
    let b = good_bytes (λ m k r. r ≡ module_listed m k) bytes r h good in
    record { «module» = b.0; marks = b.1; few_bytes = le; spelled = b.2; within = b.3 }

shown_good : (bytes : List ℕ) → (v : IsModule bytes) → OfShown bytes (module_listed v.module v.marks)
shown_good bytes v = stages.spelled (λ m k r. r ≡ module_listed m k) bytes v.module v.marks (module_listed v.module v.marks) v.spelled v.within refl

good_bounded : (bytes : List ℕ) (r : Report) → length bytes ≤ module_limit → OfBounded bytes r → IsGood r → IsValidModule bytes
good_bounded bytes r le h good =
    let b = good_bytes (OfModule (λ m k. OfBounds m)) bytes r h good in
    let v = good_module (λ m k. OfBounds m) b.0 b.1 r b.4 good in
    record { «module» = b.0; marks = b.1; few_bytes = le; spelled = b.2; within = b.3; valid = v.0 }

bounded_good : (bytes : List ℕ) → IsValidModule bytes → (r : Report) × OfBounded bytes r × IsGood r
bounded_good bytes v =
    let x = bounds_exist v.module in
    let r : Report = bounds_listed v.module x.0 in
    (r, stages.spelled (OfModule (λ m k. OfBounds m)) bytes v.module v.marks r v.spelled v.within (stages.valid (λ m k. OfBounds m) v.module v.marks r v.valid (x.0, x.1, refl)), refl)

good_judged : (bytes text : List ℕ) (r : Report) → length bytes ≤ module_limit → length text ≤ notes_limit → OfJudged bytes text r → IsGood r → Accepts bytes text
good_judged bytes text r few short h good =
    let b = good_bytes (OfModule (OfFirst text)) bytes r h good in
    let v = good_module (OfFirst text) b.0 b.1 r b.4 good in
    let j = good_first text b.0 b.1 r v.1 good in
    record {
      «module» = b.0;
      marks = b.1;
      notes = j.notes;
      few_bytes = few;
      short = short;
      spelled = b.2;
      within = b.3;
      valid = v.0;
      first = j.first;
      noted = j.said;
      verified = j.verified;
    }

judged_good : (bytes text : List ℕ) → Accepts bytes text → OfJudged bytes text (outlined Verified)
judged_good bytes text a =
    let j : IsJudged text a.module a.marks = record { notes = a.notes; first = a.first; said = a.noted; verified = a.verified } in
    stages.spelled (OfModule (OfFirst text)) bytes a.module a.marks (outlined Verified) a.spelled a.within
    (stages.valid (OfFirst text) a.module a.marks (outlined Verified) a.valid (first_good text a.module a.marks j))

good_files : (bytes : List ℕ) (o : Option (List ℕ)) (r : Report) → length bytes ≤ module_limit → OfNotes bytes o r → IsGood r → IsSomeAnd o (Accepts bytes)
good_files bytes o r few h good =
    at_some {P = λ text. (length text ≤ notes_limit) × OfJudged bytes text r} {Q = Accepts bytes} o (λ text x. good_judged bytes text r few x.0 x.1 good)
    (good_file notes_limit notes_too_long (OfJudged bytes) o r (λ e. absurd cc) h good)

-- ---- sealed files

pub good_status : (s : Status) → is_good s ≡ true → s ≡ status.Good
good_status status.Good e = refl
good_status status.Negative e = absurd cc
good_status status.Words e = absurd cc
good_status status.ReadFault e = absurd cc
good_status status.WriteFault e = absurd cc
good_status status.OutOfMemory e = absurd cc
good_status status.Limit e = absurd cc

sealing_is_good : (bytes text : List ℕ) (said : Report) → IsGood (sealing bytes text said) → IsGood said
sealing_is_good bytes text said = by (is_good said.status) refl
  where
    by : (b : Bool) → is_good said.status ≡ b → IsGood (if b then record { text = sealed_file bytes text; status = status.Good } else said) → IsGood said
    by true e h = good_status said.status e
    by false e h = h

good_sealing : (bytes text : List ℕ) (r : Report) → length bytes ≤ module_limit → length text ≤ notes_limit → OfSealing bytes text r → IsGood r → Accepts bytes text
good_sealing bytes text r few short h good = good_judged bytes text h.0 few short h.1 (sealing_is_good bytes text h.0 (subst IsGood h.2 good))

good_sealed_notes : (bytes : List ℕ) (o : Option (List ℕ)) (r : Report) → length bytes ≤ module_limit → OfSealedNotes bytes o r → IsGood r → IsSomeAnd o (Accepts bytes)
good_sealed_notes bytes o r few h good =
    at_some {P = λ text. (length text ≤ notes_limit) × OfSealing bytes text r} {Q = Accepts bytes} o (λ text x. good_sealing bytes text r few x.0 x.1 good)
    (good_file notes_limit notes_too_long (OfSealing bytes) o r (λ e. absurd cc) h good)

good_parts : (bytes text : List ℕ) (r : Report) → OfParts bytes text r → IsGood r → Accepts bytes text
good_parts bytes text r h good =
    let Next : List ℕ → Report → Type 0 = λ b. OfNotes b (Some text) in
    let x : (length bytes ≤ module_limit) × Next bytes r = good_file module_limit module_too_long Next (Some bytes) r (λ e. absurd cc) h good in
    good_files bytes (Some text) r x.0 x.1 good

parts_good : (bytes text : List ℕ) → Accepts bytes text → OfParts bytes text (outlined Verified)
parts_good bytes text a =
    let Next : List ℕ → Report → Type 0 = λ b. OfNotes b (Some text) in
    let r : Report = outlined Verified in
    let notes : Next bytes r = file_good notes_limit notes_too_long (OfJudged bytes) (Some text) text r refl a.short (judged_good bytes text a) in
    file_good module_limit module_too_long Next (Some bytes) bytes r refl a.few_bytes notes

good_split : (file : List ℕ) (r : Report) → length file ≤ sealed_limit → OfSplit file r → IsGood r → AcceptsSealed file
unfolding OfSplit
good_split file r few (inl h) good = record { bytes = h.0; text = h.1; few_bytes = few; split = h.2; accepted = good_parts h.0 h.1 r h.3 good }
good_split file r few (inr h) good = absurd (not_good r _ h.1 (λ e. absurd cc) good)

split_good : (file : List ℕ) → AcceptsSealed file → OfSplit file (outlined Verified)
unfolding OfSplit
split_good file a = inl (a.bytes, a.text, a.split, parts_good a.bytes a.text a.accepted)

good_command : (files : Files) (c : Option Command) (r : Report) → OfCommand files c r → IsGood r → Accepted files c
good_command files None r h good = not_good r _ h (λ e. absurd cc) good
good_command files (Some (Check m)) r h good =
    at_some {P = λ c. (length c ≤ module_limit) × OfChecked c r} {Q = IsValidModule} (contents_of files m) (λ c x. good_checked c r x.0 x.1 good)
    (good_file module_limit module_too_long OfChecked (contents_of files m) r (λ e. absurd cc) h good)
good_command files (Some (Show m)) r h good =
    at_some {P = λ c. (length c ≤ module_limit) × OfShown c r} {Q = IsModule} (contents_of files m) (λ c x. good_shown c r x.0 x.1 good)
    (good_file module_limit module_too_long OfShown (contents_of files m) r (λ e. absurd cc) h good)
good_command files (Some (Steps m)) r h good =
    at_some {P = λ c. (length c ≤ module_limit) × OfBounded c r} {Q = IsValidModule} (contents_of files m) (λ c x. good_bounded c r x.0 x.1 good)
    (good_file module_limit module_too_long OfBounded (contents_of files m) r (λ e. absurd cc) h good)
good_command files (Some (Verify m n)) r h good =
    let Next : List ℕ → Report → Type 0 = λ c. OfNotes c (contents_of files n) in
    at_some {P = λ c. (length c ≤ module_limit) × Next c r} {Q = λ c. IsSomeAnd (contents_of files n) (Accepts c)} (contents_of files m) (λ c x. good_files c (contents_of files n) r x.0 x.1 good)
    (good_file module_limit module_too_long Next (contents_of files m) r (λ e. absurd cc) h good)
good_command files (Some (Seal m n)) r h good =
    let Next : List ℕ → Report → Type 0 = λ c. OfSealedNotes c (contents_of files n) in
    at_some {P = λ c. (length c ≤ module_limit) × Next c r} {Q = λ c. IsSomeAnd (contents_of files n) (Accepts c)} (contents_of files m) (λ c x. good_sealed_notes c (contents_of files n) r x.0 x.1 good)
    (good_file module_limit module_too_long Next (contents_of files m) r (λ e. absurd cc) h good)
good_command files (Some (Sealed f)) r h good =
    at_some {P = λ c. (length c ≤ sealed_limit) × OfSplit c r} {Q = AcceptsSealed} (contents_of files f) (λ c x. good_split c r x.0 x.1 good)
    (good_file sealed_limit sealed_too_long OfSplit (contents_of files f) r (λ e. absurd cc) h good)
good_command files (Some (Link s)) r h good = link_only files s r h good

command_good : (files : Files) (c : Option Command) → Accepted files c → (r : Report) × OfCommand files c r × IsGood r
command_good files None h = absurd h
command_good files (Some (Check m)) h =
    let there = there_is {P = IsValidModule} (contents_of files m) h in
    let v : IsValidModule there.0 = there.2 in
    (module_valid, file_good module_limit module_too_long OfChecked (contents_of files m) there.0 module_valid there.1 v.few_bytes (checked_good there.0 v), refl)
command_good files (Some (Show m)) h =
    let there = there_is {P = IsModule} (contents_of files m) h in
    let v : IsModule there.0 = there.2 in
    let r : Report = module_listed v.module v.marks in
    (r, file_good module_limit module_too_long OfShown (contents_of files m) there.0 r there.1 v.few_bytes (shown_good there.0 v), refl)
command_good files (Some (Steps m)) h =
    let there = there_is {P = IsValidModule} (contents_of files m) h in
    let v : IsValidModule there.0 = there.2 in
    let r = bounded_good there.0 v in
    (r.0, file_good module_limit module_too_long OfBounded (contents_of files m) there.0 r.0 there.1 v.few_bytes r.1, r.2)
command_good files (Some (Verify m n)) h =
    let bytes = there_is {P = λ c. IsSomeAnd (contents_of files n) (Accepts c)} (contents_of files m) h in
    let text = there_is {P = Accepts bytes.0} (contents_of files n) bytes.2 in
    let a : Accepts bytes.0 text.0 = text.2 in
    let r : Report = outlined Verified in
    let Next : List ℕ → Report → Type 0 = λ c. OfNotes c (contents_of files n) in
    let notes : OfNotes bytes.0 (contents_of files n) r = file_good notes_limit notes_too_long (OfJudged bytes.0) (contents_of files n) text.0 r text.1 a.short (judged_good bytes.0 text.0 a) in
    (r, file_good module_limit module_too_long Next (contents_of files m) bytes.0 r bytes.1 a.few_bytes notes, refl)
command_good files (Some (Seal m n)) h =
    let bytes = there_is {P = λ c. IsSomeAnd (contents_of files n) (Accepts c)} (contents_of files m) h in
    let text = there_is {P = Accepts bytes.0} (contents_of files n) bytes.2 in
    let a : Accepts bytes.0 text.0 = text.2 in
    let said : Report = outlined Verified in
    let r : Report = sealing bytes.0 text.0 said in
    let Next : List ℕ → Report → Type 0 = λ c. OfSealedNotes c (contents_of files n) in
    let notes : OfSealedNotes bytes.0 (contents_of files n) r = file_good notes_limit notes_too_long (OfSealing bytes.0) (contents_of files n) text.0 r text.1 a.short (said, judged_good bytes.0 text.0 a, refl) in
    (r, file_good module_limit module_too_long Next (contents_of files m) bytes.0 r bytes.1 a.few_bytes notes, refl)
command_good files (Some (Sealed f)) h =
    let there = there_is {P = AcceptsSealed} (contents_of files f) h in
    let a : AcceptsSealed there.0 = there.2 in
    let r : Report = outlined Verified in
    (r, file_good sealed_limit sealed_too_long OfSplit (contents_of files f) there.0 r there.1 a.few_bytes (split_good there.0 a), refl)
command_good files (Some (Link s)) h = link_there files s h

pub reported_accepted : (words : List (List ℕ)) (files : Files) (r : Report) → IsReport words files r → r.status ≡ status.Good → IsAccepted words files
reported_accepted words files = good_command files (command_of words)

pub accepted_reported : (words : List (List ℕ)) (files : Files) → IsAccepted words files → (r : Report) × IsReport words files r × (r.status ≡ status.Good)
accepted_reported words files = command_good files (command_of words)

-- ---- sealed again

-- what is known of sealed files: they are split into their parts again, and are little longer than these
pub record SealedAgain : Type 0 where
  pub split : (bytes notes : List ℕ) (m : Module) (k : Marks) → Spells bytes m k → length notes ≤ 4294967282 → Split (sealed_file bytes notes) bytes notes
  pub few : (bytes notes : List ℕ) → length notes ≤ 16777216 → length (sealed_file bytes notes) ≤ length bytes + length notes + 18

sealed_accepted : SealedAgain → (bytes text : List ℕ) → Accepts bytes text → AcceptsSealed (sealed_file bytes text)
sealed_accepted again bytes text a =
    let short = a.short in
    let few = a.few_bytes in
    record {
      bytes = bytes;
      text = text;
      few_bytes = omega (arith, again.few bytes text short);
      split = again.split bytes text a.module a.marks a.spelled (omega arith);
      accepted = a;
    }

-- what sealing writes of files is verified
pub sealed_verified : SealedAgain → (files others : Files) (m n name : List ℕ) (r : Report) → OfCommand files (Some (Seal m n)) r → IsGood r → contents_of others name ≡ Some r.text →
    OfCommand others (Some (Sealed name)) (outlined Verified)
sealed_verified again files others m n name r h good e =
    let accepted : Accepted files (Some (Seal m n)) = good_command files (Some (Seal m n)) r h good in
    let bytes = there_is {P = λ c. IsSomeAnd (contents_of files n) (Accepts c)} (contents_of files m) accepted in
    let text = there_is {P = Accepts bytes.0} (contents_of files n) bytes.2 in
    let a : Accepts bytes.0 text.0 = text.2 in
    let said : Report = outlined Verified in
    let made : Report = sealing bytes.0 text.0 said in
    let Next : List ℕ → Report → Type 0 = λ c. OfSealedNotes c (contents_of files n) in
    let notes : OfSealedNotes bytes.0 (contents_of files n) made = file_good notes_limit notes_too_long (OfSealing bytes.0) (contents_of files n) text.0 made text.1 a.short (said, judged_good bytes.0 text.0 a, refl) in
    let whole : OfCommand files (Some (Seal m n)) made = file_good module_limit module_too_long Next (contents_of files m) bytes.0 made bytes.1 a.few_bytes notes in
    let one : r ≡ made = command_once files (Some (Seal m n)) r made h whole in
    let file = sealed_file bytes.0 text.0 in
    let is : contents_of others name ≡ Some file = e ∙ ap (λ (q : Report). Some q.text) one in
    let s = sealed_accepted again bytes.0 text.0 a in
    file_good sealed_limit sealed_too_long OfSplit (contents_of others name) file said is s.few_bytes (split_good file s)
