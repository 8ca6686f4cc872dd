-- `link` has a report over any files that hold bytes.
use Rattle.std.proofs.Common.{ℕ, List, [], ◌∷◌, Result, Ok, Err, ◌⊎◌, inl, inr, refl}
use Rattle.rw_edge.specs.Files.{contents_of}
use Rattle.wasm_typing.specs.declared.fault.ValidFault.TheVariants as valid
use Rattle.sexp_text.specs.declared.fault.TextFault.{TextFault}
use Rattle.sexp_text.specs.declared.fault.TextFault.TheVariants as text
use Rattle.script_text.specs.declared.script.Load.{Load}
use Rattle.script_text.specs.declared.script.Script.{Script}
use Rattle.script_text.specs.Spelling.{ScriptSpells, ScriptFault}
use Rattle.script_text.proofs.TextLaws.{spelled_or_faulty}
use Rattle.wasm_link.specs.declared.fault.LinkFault.{LinkFault}
use Rattle.wasm_link.specs.declared.fault.LinkFault.TheVariants as fault
use Rattle.wasm_link.specs.declared.log.Log.{Log}
use Rattle.wasm_link.specs.Loading.{IsRefusedLoad, IsFirstRefused}
use Rattle.wasm_link.specs.Answers.{IsSpelled, ScriptAnswers}
use Rattle.wasm_link.proofs.SomeAnswer.{some_answer_there}
use Rattle.report_lines.specs.declared.status.Status.TheVariants as status
use Rattle.report_lines.specs.Lines.{limit_line}
use Rattle.report_lines.specs.Reports.{Report, Files, HoldBytes, invalid_report, module_too_long, nothing_read}
use Rattle.report_lines.proofs.FileSome.{file_some, anything, fault_some}
use Rattle.link_report.specs.Lines.{script_line}
use Rattle.link_report.specs.Links.{script_limit, script_too_long, log_report, name_report, of_module, IsTextReport, IsEndReport, OfRun, OfScript, OfLink}
use Rattle.link_report.proofs.NoMemory.{no_memory}

load_some : (files : Files) (l : Load) (f : LinkFault) → IsRefusedLoad files l f → (r : Report) × IsEndReport (Err f) r
load_some files l fault.Shelf h = (nothing_read, refl)
load_some files l (fault.TooLong name) h = (of_module name module_too_long, refl)
load_some files l (fault.Decode name f) h = let said = fault_some h.1.0 f h.1.2 in (of_module name said.0, (said.0, said.1, refl))
load_some files l (fault.Invalid name (valid.Invalid at w)) h = (of_module name (invalid_report at w), (invalid_report at w, refl, refl))
load_some files l (fault.Invalid name valid.OutOfMemory) h = absurd h
load_some files l (fault.UnknownName at) h = absurd h
load_some files l fault.OutOfMemory h = absurd h

first_some : (files : Files) (ls : List Load) (f : LinkFault) → IsFirstRefused files ls f → (r : Report) × IsEndReport (Err f) r
first_some files [] f h = absurd h
first_some files (l ∷ ls) f (inl h) = load_some files l f h
first_some files (l ∷ ls) f (inr h) = first_some files ls f h.2

end_some : (files : Files) (x : Script) (end : Result Log LinkFault) → ScriptAnswers files x end → (r : Report) × IsEndReport end r
end_some files x (Ok log) h = (log_report log.text, refl)
end_some files x (Err (fault.UnknownName at)) h = (name_report at, refl)
end_some files x (Err fault.OutOfMemory) h = absurd h
end_some files x (Err fault.Shelf) h = first_some files x.loads fault.Shelf h
end_some files x (Err (fault.TooLong name)) h = first_some files x.loads (fault.TooLong name) h
end_some files x (Err (fault.Decode name f)) h = first_some files x.loads (fault.Decode name f) h
end_some files x (Err (fault.Invalid name f)) h = first_some files x.loads (fault.Invalid name f) h

run_some : (files : Files) → HoldBytes files → (x : Script) → IsSpelled x → (r : Report) × OfRun files x r
unfolding OfRun
run_some files hold x spelled =
    let end = some_answer_there files x hold spelled in
    let r = end_some files x end.0 end.1 in
    (r.0, (end.0, end.1, r.1))

text_some : (t : List ℕ) (f : TextFault) → ScriptFault t f → (r : Report) × IsTextReport f r
text_some t (text.Refused at w) h = (record { text = script_line w at; status = status.Negative }, refl)
text_some t (text.Limit at w) h = (record { text = limit_line w at; status = status.Limit }, refl)
text_some t text.OutOfMemory h = absurd (no_memory t h)

script_some : (files : Files) → HoldBytes files → (t : List ℕ) → (r : Report) × OfScript files t r
unfolding OfScript
script_some files hold t = by (spelled_or_faulty t)
  where
    by : ((x : Script) × ScriptSpells t x) ⊎ ((f : TextFault) × ScriptFault t f) → (r : Report) × OfScript files t r
    by (inl h) = let r = run_some files hold h.0 (t, h.1) in (r.0, inl (h.0, h.1, r.1))
    by (inr h) = let r = text_some t h.0 h.1 in (r.0, inr (h.0, h.1, r.1))

pub link_some : (files : Files) → HoldBytes files → (name : List ℕ) → (r : Report) × OfLink files name r
link_some files hold name =
    file_some script_limit script_too_long (OfScript files) (λ t. Unit {0}) (λ t u. script_some files hold t) (contents_of files name) (anything (contents_of files name))
