-- Words have a report over any files.
use Rattle.std.proofs.Common.{◌≡◌, ℕ, ◌<◌, Bool, true, false, if◌then◌else◌, List, [], ◌∷◌, length, take, Option, Some, None, IfSome, arith, ◌⊎◌, inl, inr, refl, sym, ap, subst, ◌∙◌}
use Rattle.std.specs.List.{AllByRecursion}
use Rattle.std.specs.Str.{bytes_eq}
use Rattle.std.proofs.lemmas.Bool.{cases_order, false≢true}
use Rattle.std.proofs.lemmas.List.{take_at}
use Rattle.std.proofs.lemmas.List.Elements.{recursion_from_All, All-take}
use Rattle.wasm_syntax.specs.declared.module.Module.{Module}
use Rattle.wasm_syntax.specs.declared.module.Marks.{Marks}
use Rattle.binary_grammar.specs.declared.fault.DecodeFault.{DecodeFault}
use Rattle.binary_grammar.specs.declared.fault.DecodeFault.TheVariants as decode
use Rattle.binary_grammar.specs.Bounds.{the_bounds}
use Rattle.binary_grammar.specs.ModuleGrammar.{Spells}
use Rattle.binary_grammar.specs.Plans.{Fault}
use Rattle.binary_grammar.proofs.FaultLaws.{some_answer, of_bytes}
use Rattle.binary_grammar.proofs.ModuleLaws.{module_takes}
use Rattle.binary_grammar.proofs.PlanWhole.{reads_module}
use Rattle.wasm_typing.specs.declared.fault.ValidWord.{ValidWord}
use Rattle.wasm_typing.specs.Valid.{BytesInRange, Valid}
use Rattle.wasm_typing.specs.faults.Faults.{InvalidAt}
use Rattle.validity_laws.proofs.Modules.{valid_or_fault}
use Rattle.validity_laws.proofs.Spelled.{spelled_in_range}
use Rattle.first_reader.specs.FirstTests.{is_first}
use Rattle.first_reader.specs.ReadingNotes.{first_notes}
use Rattle.first_reader.proofs.FirstLaws.{tests_are_exact}
use Rattle.step_bound.proofs.Existing.{bounds_exist}
use Rattle.rw_edge.specs.Files.{contents_of}
use Rattle.wasm_seal.specs.Sealed.{Split}
use Rattle.wasm_seal.proofs.DecideLaws.{split_decided}
use Rattle.report_lines.specs.Lines.{limit_line, malformed_line}
use Rattle.report_lines.specs.declared.status.Status.TheVariants as status
use Rattle.report_lines.specs.Reports.{Report, ReportsOf, Files, HoldBytes, IsFaultReport, OfFile, nothing_read, module_limit, module_too_long, invalid_report}
use Rattle.verify_report.specs.Reports.{Command, Check, Show, Verify, Seal, Sealed, Link, command_of, OfBytes, OfModule, OfFirst, OfChecked, OfShown, OfJudged, OfNotes, sealing, OfSealing, OfSealedNotes, OfParts, OfSplit, OfShow, OfCommand, IsReport, words_refused, notes_limit, notes_too_long, sealed_limit, sealed_too_long, not_sealed, module_valid, module_listed, unbuilt_module, noted, Steps, OfBounds, OfBounded, bounds_listed}
use Rattle.link_report.proofs.LinkSome.{link_some}
use Rattle.report_lines.proofs.FileSome.{file_some, anything, fault_some, held_are_bytes}
use Rattle.validity_laws.proofs.MarkLaws.{spelled_marked}

-- ---- bytes

bytes_some : (Next : Module → Marks → Report → Type 0) (bytes : List ℕ) → ((m : Module) (k : Marks) → Spells bytes m k → (r : Report) × Next m k r) → (r : Report) × OfBytes Next bytes r
unfolding OfBytes
bytes_some Next bytes next =
    elim (some_answer the_bounds bytes) [
      | inl h ↦
          let spelled = module_takes the_bounds bytes h.0 ((reads_module the_bounds bytes h.0).1 h.1) in
          let n = next h.0.«module» h.0.marks spelled.0 in
          (n.0, inl (h.0.«module», h.0.marks, spelled.0, spelled.1, n.1))
      | inr h ↦ let r = fault_some bytes h.0 h.1 in (r.0, inr (h.0, h.1, r.1))
    ]

-- ---- modules

module_some : (Next : Module → Marks → Report → Type 0) → ((m : Module) (k : Marks) → Valid m → (r : Report) × Next m k r) → (bytes : List ℕ) → BytesInRange bytes →
    (m : Module) (k : Marks) → Spells bytes m k → (r : Report) × OfModule Next m k r
unfolding OfModule
module_some Next next bytes b m k spells = by_faults (valid_or_fault m k (spelled_marked bytes m k spells) (spelled_in_range bytes m k b spells))
  where
    by_faults : Valid m ⊎ ((at : ℕ) × (w : ValidWord) × InvalidAt m k at w) → (r : Report) × OfModule Next m k r
    by_faults (inl valid) = let n = next m k valid in (n.0, inl (valid, n.1))
    by_faults (inr f) = (invalid_report f.0 f.1, inr (f.0, f.1, f.2, refl))

first_some : (text : List ℕ) (m : Module) (k : Marks) → Valid m → (r : Report) × OfFirst text m k r
unfolding OfFirst
first_some text m k valid = by_test (is_first m) refl
  where
    by_test : (b : Bool) → is_first m ≡ b → (r : Report) × OfFirst text m k r
    by_test true e = (noted m k (first_notes text), inl ((tests_are_exact m valid).0 e, refl))
    by_test false e = (unbuilt_module, inr (λ first. false≢true (sym e ∙ (tests_are_exact m valid).1 first), refl))

-- ---- commands

checked_some : (bytes : List ℕ) → BytesInRange bytes → (r : Report) × OfChecked bytes r
checked_some bytes b = bytes_some (OfModule (λ m k r. r ≡ module_valid)) bytes (module_some (λ m k r. r ≡ module_valid) (λ m k valid. (module_valid, refl)) bytes b)

shown_some : (bytes : List ℕ) → Unit {0} → (r : Report) × OfShown bytes r
shown_some bytes t = bytes_some (λ m k r. r ≡ module_listed m k) bytes (λ m k spells. (module_listed m k, refl))

bounded_some : (bytes : List ℕ) → BytesInRange bytes → (r : Report) × OfBounded bytes r
bounded_some bytes b = bytes_some (OfModule (λ m k. OfBounds m)) bytes (module_some (λ m k. OfBounds m) (λ m k valid. let x = bounds_exist m in (bounds_listed m x.0, (x.0, x.1, refl))) bytes b)

judged_some : (bytes : List ℕ) → BytesInRange bytes → (text : List ℕ) → Unit {0} → (r : Report) × OfJudged bytes text r
judged_some bytes b text t = bytes_some (OfModule (OfFirst text)) bytes (module_some (OfFirst text) (first_some text) bytes b)

notes_some : (notes : Option (List ℕ)) (bytes : List ℕ) → BytesInRange bytes → (r : Report) × OfNotes bytes notes r
notes_some notes bytes b = file_some notes_limit notes_too_long (OfJudged bytes) (λ text. Unit {0}) (judged_some bytes b) notes (anything notes)

sealing_some : (bytes : List ℕ) → BytesInRange bytes → (text : List ℕ) → Unit {0} → (r : Report) × OfSealing bytes text r
sealing_some bytes b text t = let said = judged_some bytes b text t in (sealing bytes text said.0, (said.0, said.1, refl))

sealed_notes_some : (notes : Option (List ℕ)) (bytes : List ℕ) → BytesInRange bytes → (r : Report) × OfSealedNotes bytes notes r
sealed_notes_some notes bytes b = file_some notes_limit notes_too_long (OfSealing bytes) (λ text. Unit {0}) (sealing_some bytes b) notes (anything notes)

-- what a file that holds bytes begins with
front_in_range : (file bytes text : List ℕ) → Split file bytes text → BytesInRange file → BytesInRange bytes
front_in_range file bytes text s h =
    let e : take (length bytes) file ≡ bytes = ap (take (length bytes)) s.parts ∙ take_at bytes s.last (length bytes) refl in
    subst BytesInRange e (All-take (λ b. b < 256) (length bytes) file h)

split_some : (file : List ℕ) → BytesInRange file → (r : Report) × OfSplit file r
unfolding OfSplit
split_some file b =
    elim (split_decided file) [
      | inl h ↦
          let Next : ReportsOf (List ℕ) = λ b. OfNotes b (Some h.0.1) in
          let p : (r : Report) × OfParts h.0.0 h.0.1 r = file_some module_limit module_too_long Next BytesInRange (notes_some (Some h.0.1)) (Some h.0.0) (front_in_range file h.0.0 h.0.1 h.1 b) in
          (p.0, inl (h.0.0, h.0.1, h.1, p.1))
      | inr none ↦ (not_sealed, inr (λ x y s. none (x, y) s, refl))
    ]

pub show_some : (files : Files) (name : List ℕ) → (r : Report) × OfShow files name r
show_some files name = file_some module_limit module_too_long OfShown (λ bytes. Unit {0}) shown_some (contents_of files name) (anything (contents_of files name))

command_some : (files : Files) → HoldBytes files → ((name : List ℕ) → IfSome (contents_of files name) BytesInRange) → (c : Option Command) → (r : Report) × OfCommand files c r
command_some files hold b None = (words_refused, refl)
command_some files hold b (Some (Check name)) = file_some module_limit module_too_long OfChecked BytesInRange checked_some (contents_of files name) (b name)
command_some files hold b (Some (Show name)) = show_some files name
command_some files hold b (Some (Steps name)) = file_some module_limit module_too_long OfBounded BytesInRange bounded_some (contents_of files name) (b name)
command_some files hold b (Some (Verify name notes)) =
    file_some module_limit module_too_long (λ bytes. OfNotes bytes (contents_of files notes)) BytesInRange (notes_some (contents_of files notes)) (contents_of files name) (b name)
command_some files hold b (Some (Seal name notes)) =
    file_some module_limit module_too_long (λ bytes. OfSealedNotes bytes (contents_of files notes)) BytesInRange (sealed_notes_some (contents_of files notes)) (contents_of files name) (b name)
command_some files hold b (Some (Sealed name)) = file_some sealed_limit sealed_too_long OfSplit BytesInRange split_some (contents_of files name) (b name)
command_some files hold b (Some (Link name)) = link_some files hold name

pub report_some : (words : List (List ℕ)) (files : Files) → HoldBytes files → (r : Report) × IsReport words files r
report_some words files h =
    command_some files h (held_are_bytes files h) (command_of words)
