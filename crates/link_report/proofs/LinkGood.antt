-- `link` is good exactly where its script has a log.
use Rattle.std.proofs.Common.{◌≡◌, ℕ, ◌≤◌, List, length, Result, Ok, Err, refl, sym, ap, subst, ◌∙◌, inl, inr}
use Rattle.std.specs.Prelude.{IsSomeAnd}
use Rattle.rw_edge.specs.Files.{contents_of}
use Rattle.wasm_typing.specs.declared.fault.ValidFault.TheVariants as valid
use Rattle.sexp_text.specs.declared.fault.TextFault.{TextFault}
use Rattle.sexp_text.specs.declared.fault.TextFault.TheVariants as text
use Rattle.wasm_link.specs.declared.fault.LinkFault.{LinkFault}
use Rattle.wasm_link.specs.declared.fault.LinkFault.TheVariants as fault
use Rattle.wasm_link.specs.declared.log.Log.{Log}
use Rattle.wasm_link.specs.Answers.{ScriptAnswers}
use Rattle.report_lines.specs.Reports.{Report, Files}
use Rattle.report_lines.proofs.FileGood.{IsGood, not_good, good_file, file_good, not_fault, there_is, at_some}
use Rattle.link_report.specs.Links.{script_limit, script_too_long, log_report, of_module, IsTextReport, IsEndReport, OfRun, OfScript, OfLink, AcceptsScript}

not_text : (f : TextFault) (r : Report) → IsTextReport f r → IsGood r → ⊥
not_text (text.Refused at w) r h good = not_good r _ h (λ e. absurd cc) good
not_text (text.Limit at w) r h good = not_good r _ h (λ e. absurd cc) good
not_text text.OutOfMemory r h good = h

-- what is told of a module is good where it is good of the module alone
good_of_module : (name : List ℕ) (r said : Report) → r ≡ of_module name said → IsGood r → IsGood said
good_of_module name r said e good = sym (ap (λ (q : Report). q.status) e) ∙ good

good_end : (end : Result Log LinkFault) (r : Report) → IsEndReport end r → IsGood r → (log : Log) × (end ≡ Ok log)
good_end (Ok log) r h good = (log, refl)
good_end (Err (fault.UnknownName at)) r h good = absurd (not_good r _ h (λ e. absurd cc) good)
good_end (Err fault.Shelf) r h good = absurd (not_good r _ h (λ e. absurd cc) good)
good_end (Err (fault.TooLong name)) r h good = absurd (not_good r _ h (λ e. absurd cc) good)
good_end (Err (fault.Decode name f)) r h good = absurd (not_fault f h.0 h.1 (good_of_module name r h.0 h.2 good))
good_end (Err (fault.Invalid name (valid.Invalid at w))) r h good = absurd (not_good h.0 _ h.1 (λ e. absurd cc) (good_of_module name r h.0 h.2 good))
good_end (Err (fault.Invalid name valid.OutOfMemory)) r h good = absurd h.1
good_end (Err fault.OutOfMemory) r h good = absurd h

good_script : (files : Files) (t : List ℕ) (r : Report) → length t ≤ script_limit → OfScript files t r → IsGood r → AcceptsScript files t
unfolding OfScript OfRun
good_script files t r short (inl h) good =
    let run : (end : Result Log LinkFault) × ScriptAnswers files h.0 end × IsEndReport end r = h.2 in
    let g = good_end run.0 r run.2 good in
    let A : Result Log LinkFault → Type 0 = λ end. ScriptAnswers files h.0 end in
    record { script = h.0; log = g.0.text; short = short; spelled = h.1; logged = subst A g.1 run.1 }
good_script files t r short (inr h) good = absurd (not_text h.0 r h.2 good)

script_good : (files : Files) (t : List ℕ) (a : AcceptsScript files t) → OfScript files t (log_report a.log)
unfolding OfScript OfRun
script_good files t a = let log : Log = record { text = a.log } in inl (a.script, a.spelled, (Ok log, a.logged, refl))

pub link_only : (files : Files) (name : List ℕ) (r : Report) → OfLink files name r → IsGood r → IsSomeAnd (contents_of files name) (AcceptsScript files)
link_only files name r h good =
    at_some {P = λ t. (length t ≤ script_limit) × OfScript files t r} {Q = AcceptsScript files} (contents_of files name) (λ t x. good_script files t r x.0 x.1 good)
    (good_file script_limit script_too_long (OfScript files) (contents_of files name) r (λ e. absurd cc) h good)

pub link_there : (files : Files) (name : List ℕ) → IsSomeAnd (contents_of files name) (AcceptsScript files) → (r : Report) × OfLink files name r × IsGood r
link_there files name h =
    let there = there_is {P = AcceptsScript files} (contents_of files name) h in
    let a : AcceptsScript files there.0 = there.2 in
    let r = log_report a.log in
    (r, file_good script_limit script_too_long (OfScript files) (contents_of files name) there.0 r there.1 a.short (script_good files there.0 a), refl)
