-- There is at most one report.
use Rattle.std.proofs.Common.{◌≡◌, ℕ, List, Option, Some, None, Ok, Err, sym, ap, subst, ◌∙◌, arith, inl, inr}
use Rattle.wasm_syntax.specs.declared.module.Module.{Module}
use Rattle.wasm_syntax.specs.declared.module.Marks.{Marks}
use Rattle.binary_grammar.specs.declared.fault.DecodeFault.{DecodeFault}
use Rattle.binary_grammar.specs.declared.fault.DecodeFault.TheVariants as decode
use Rattle.binary_grammar.specs.declared.section.Decoded.{Decoded}
use Rattle.binary_grammar.specs.Bounds.{the_bounds}
use Rattle.binary_grammar.specs.words.SectionReading.{module_at}
use Rattle.binary_grammar.specs.ModuleGrammar.{Spells, InLimits}
use Rattle.binary_grammar.specs.Plans.{Fault}
use Rattle.binary_grammar.proofs.UniqueLaws.{one_module}
use Rattle.binary_grammar.proofs.ModuleLaws.{module_again}
use Rattle.binary_grammar.proofs.PlanWhole.{stops_module}
use Rattle.step_bound.proofs.Answering.{same_answers}
use Rattle.rw_edge.specs.Files.{contents_of}
use Rattle.wasm_seal.proofs.NotesLaws.{one_split}
use Rattle.report_lines.specs.Reports.{Report, Files, module_limit, module_too_long, invalid_report, IsFaultReport, OfFile}
use Rattle.verify_report.specs.Reports.{Command, Check, Show, Verify, Seal, Sealed, Link, notes_limit, notes_too_long, sealed_limit, sealed_too_long, module_valid, module_listed, OfBytes, OfModule, OfFirst, OfChecked, OfShown, OfJudged, OfNotes, sealing, OfSealing, OfSealedNotes, OfParts, OfSplit, OfCommand, command_of, IsReport, Steps, bounds_listed, OfBounds, OfBounded}
use Rattle.link_report.proofs.LinkOnce.{link_once}
use Rattle.report_lines.proofs.FileOnce.{Once, file_once, fault_once}
use Rattle.validity_laws.proofs.InvalidLaws.{invalid_once, valid_is_not_invalid}

-- what is spelled within the limits has no fault
no_fault : (bytes : List ℕ) (m : Module) (k : Marks) (fault : DecodeFault) → Spells bytes m k → InLimits the_bounds m → Fault the_bounds bytes fault → ⊥
no_fault bytes m k fault spelled within f =
    let read : module_at the_bounds bytes ≡ Ok (record { «module» = m; marks = k }) = module_again the_bounds bytes m k spelled within in
    let stops : module_at the_bounds bytes ≡ Err fault = (stops_module the_bounds bytes fault).1 f in
    never (record { «module» = m; marks = k }) fault (sym read ∙ stops)
  where
    never : (x : Decoded) (e : DecodeFault) → Ok x ≡ Err e → ⊥
    never x e h = cc

one_fault : (bytes : List ℕ) (fault other : DecodeFault) → Fault the_bounds bytes fault → Fault the_bounds bytes other → fault ≡ other
one_fault bytes fault other f g =
    let one : module_at the_bounds bytes ≡ Err fault = (stops_module the_bounds bytes fault).1 f in
    let two : module_at the_bounds bytes ≡ Err other = (stops_module the_bounds bytes other).1 g in
    cc

bytes_once : (Next : Module → Marks → Report → Type 0) → ((m : Module) (k : Marks) → Once (Next m k)) → (bytes : List ℕ) → Once (OfBytes Next bytes)
unfolding OfBytes
bytes_once Next next bytes r s (inl a) (inl b) =
    let one = one_module bytes a.0 b.0 a.1 b.1 a.2 b.2 in
    let M : Module → Type 0 = λ m. Next m a.1 r in
    let K : Marks → Type 0 = λ k. Next b.0 k r in
    next b.0 b.1 r s (subst K one.1 (subst M one.0 a.4)) b.4
bytes_once Next next bytes r s (inl a) (inr b) = absurd (no_fault bytes a.0 a.1 b.0 a.2 a.3 b.1)
bytes_once Next next bytes r s (inr a) (inl b) = absurd (no_fault bytes b.0 b.1 a.0 b.2 b.3 a.1)
bytes_once Next next bytes r s (inr a) (inr b) =
    let F : DecodeFault → Type 0 = λ f. IsFaultReport f r in
    fault_once b.0 r s (subst F (one_fault bytes a.0 b.0 a.1 b.1) a.2) b.2

module_once : (Next : Module → Marks → Report → Type 0) → ((m : Module) (k : Marks) → Once (Next m k)) → (m : Module) (k : Marks) → Once (OfModule Next m k)
unfolding OfModule
module_once Next next m k r s (inl a) (inl b) = next m k r s a.1 b.1
module_once Next next m k r s (inl a) (inr b) = absurd (valid_is_not_invalid m k b.0 b.1 a.0 b.2)
module_once Next next m k r s (inr a) (inl b) = absurd (valid_is_not_invalid m k a.0 a.1 b.0 a.2)
module_once Next next m k r s (inr a) (inr b) =
    let one = invalid_once m k a.0 b.0 a.1 b.1 a.2 b.2 in
    a.3 ∙ (ap (λ at. invalid_report at a.1) one.0 ∙ (ap (invalid_report b.0) one.1 ∙ sym b.3))

first_once : (text : List ℕ) (m : Module) (k : Marks) → Once (OfFirst text m k)
unfolding OfFirst
first_once text m k r s (inl a) (inl b) = a.1 ∙ sym b.1
first_once text m k r s (inl a) (inr b) = absurd (b.0 a.0)
first_once text m k r s (inr a) (inl b) = absurd (a.0 b.0)
first_once text m k r s (inr a) (inr b) = a.1 ∙ sym b.1

checked_once : (bytes : List ℕ) → Once (OfChecked bytes)
checked_once bytes =
    let Next : Module → Marks → Report → Type 0 = λ m k r. r ≡ module_valid in
    let next : (m : Module) (k : Marks) → Once (Next m k) = λ m k r s a b. a ∙ sym b in
    bytes_once (OfModule Next) (module_once Next next) bytes

shown_once : (bytes : List ℕ) → Once (OfShown bytes)
shown_once bytes =
    let Next : Module → Marks → Report → Type 0 = λ m k r. r ≡ module_listed m k in
    let next : (m : Module) (k : Marks) → Once (Next m k) = λ m k r s a b. a ∙ sym b in
    bytes_once Next next bytes

bounds_once : (m : Module) → Once (OfBounds m)
bounds_once m r s a b = a.2 ∙ ap (bounds_listed m) (same_answers m a.0 b.0 a.1 b.1) ∙ sym b.2

bounded_once : (bytes : List ℕ) → Once (OfBounded bytes)
bounded_once bytes = bytes_once (OfModule (λ m k. OfBounds m)) (module_once (λ m k. OfBounds m) (λ m k. bounds_once m)) bytes

judged_once : (bytes text : List ℕ) → Once (OfJudged bytes text)
judged_once bytes text = bytes_once (OfModule (OfFirst text)) (module_once (OfFirst text) (first_once text)) bytes

notes_once : (bytes : List ℕ) (o : Option (List ℕ)) → Once (OfNotes bytes o)
notes_once bytes = file_once notes_limit notes_too_long (OfJudged bytes) (judged_once bytes)

sealing_once : (bytes text : List ℕ) → Once (OfSealing bytes text)
sealing_once bytes text r s a b = a.2 ∙ (ap (sealing bytes text) (judged_once bytes text a.0 b.0 a.1 b.1) ∙ sym b.2)

sealed_notes_once : (bytes : List ℕ) (o : Option (List ℕ)) → Once (OfSealedNotes bytes o)
sealed_notes_once bytes = file_once notes_limit notes_too_long (OfSealing bytes) (sealing_once bytes)

parts_once : (bytes text : List ℕ) → Once (OfParts bytes text)
parts_once bytes text = file_once module_limit module_too_long (λ b. OfNotes b (Some text)) (λ b. notes_once b (Some text)) (Some bytes)

split_once : (file : List ℕ) → Once (OfSplit file)
unfolding OfSplit
split_once file r s (inl a) (inl b) =
    let one = one_split file a.0 b.0 a.1 b.1 a.2 b.2 in
    let B : List ℕ → Type 0 = λ x. OfParts x a.1 r in
    let T : List ℕ → Type 0 = λ x. OfParts b.0 x r in
    parts_once b.0 b.1 r s (subst T one.1 (subst B one.0 a.3)) b.3
split_once file r s (inl a) (inr b) = absurd (b.0 a.0 a.1 a.2)
split_once file r s (inr a) (inl b) = absurd (a.0 b.0 b.1 b.2)
split_once file r s (inr a) (inr b) = a.1 ∙ sym b.1

pub command_once : (files : Files) (c : Option Command) → Once (OfCommand files c)
command_once files None r s a b = a ∙ sym b
command_once files (Some (Check m)) r s a b = file_once module_limit module_too_long OfChecked checked_once (contents_of files m) r s a b
command_once files (Some (Show m)) r s a b = file_once module_limit module_too_long OfShown shown_once (contents_of files m) r s a b
command_once files (Some (Steps m)) r s a b = file_once module_limit module_too_long OfBounded bounded_once (contents_of files m) r s a b
command_once files (Some (Verify m n)) r s a b =
    file_once module_limit module_too_long (λ bytes. OfNotes bytes (contents_of files n)) (λ bytes. notes_once bytes (contents_of files n)) (contents_of files m) r s a b
command_once files (Some (Seal m n)) r s a b =
    file_once module_limit module_too_long (λ bytes. OfSealedNotes bytes (contents_of files n)) (λ bytes. sealed_notes_once bytes (contents_of files n)) (contents_of files m) r s a b
command_once files (Some (Link f)) r s a b = link_once files f r s a b
command_once files (Some (Sealed f)) r s a b = file_once sealed_limit sealed_too_long OfSplit split_once (contents_of files f) r s a b

pub one_report : (words : List (List ℕ)) (files : Files) (r s : Report) → IsReport words files r → IsReport words files s → r ≡ s
one_report words files = command_once files (command_of words)
