-- `link` has at most one report.
use Rattle.std.proofs.Common.{◌≡◌, ℕ, List, Result, Ok, Err, sym, ap, subst, ◌∙◌, inl, inr}
use Rattle.rw_edge.specs.Files.{contents_of}
use Rattle.wasm_typing.specs.declared.fault.ValidFault.{ValidFault}
use Rattle.wasm_typing.specs.declared.fault.ValidFault.TheVariants as valid
use Rattle.sexp_text.specs.declared.fault.TextFault.{TextFault}
use Rattle.sexp_text.specs.declared.fault.TextFault.TheVariants as text
use Rattle.script_text.specs.declared.script.Script.{Script}
use Rattle.script_text.proofs.TextLaws.{one_script, not_both, one_fault}
use Rattle.wasm_link.specs.declared.fault.LinkFault.{LinkFault}
use Rattle.wasm_link.specs.declared.fault.LinkFault.TheVariants as fault
use Rattle.wasm_link.specs.declared.log.Log.{Log}
use Rattle.wasm_link.proofs.OneAnswer.{one_answer}
use Rattle.report_lines.specs.Reports.{Report, Files}
use Rattle.report_lines.proofs.FileOnce.{Once, file_once, fault_once}
use Rattle.link_report.specs.Links.{script_limit, script_too_long, of_module, IsTextReport, IsInvalidReport, IsEndReport, OfRun, OfScript, OfLink}

text_once : (f : TextFault) → Once (IsTextReport f)
text_once (text.Refused at w) r s a b = a ∙ sym b
text_once (text.Limit at w) r s a b = a ∙ sym b
text_once text.OutOfMemory r s a b = absurd a

invalid_once : (f : ValidFault) → Once (IsInvalidReport f)
invalid_once (valid.Invalid at w) r s a b = a ∙ sym b
invalid_once valid.OutOfMemory r s a b = absurd a

end_once : (end : Result Log LinkFault) → Once (IsEndReport end)
end_once (Ok log) r s a b = a ∙ sym b
end_once (Err (fault.UnknownName at)) r s a b = a ∙ sym b
end_once (Err fault.Shelf) r s a b = a ∙ sym b
end_once (Err (fault.TooLong name)) r s a b = a ∙ sym b
end_once (Err (fault.Decode name f)) r s a b = a.2 ∙ (ap (of_module name) (fault_once f a.0 b.0 a.1 b.1) ∙ sym b.2)
end_once (Err (fault.Invalid name f)) r s a b = a.2 ∙ (ap (of_module name) (invalid_once f a.0 b.0 a.1 b.1) ∙ sym b.2)
end_once (Err fault.OutOfMemory) r s a b = absurd a

run_once : (files : Files) (x : Script) → Once (OfRun files x)
unfolding OfRun
run_once files x r s a b =
    let one : a.0 ≡ b.0 = one_answer files x a.0 b.0 a.1 b.1 in
    let E : Result Log LinkFault → Type 0 = λ end. IsEndReport end r in
    end_once b.0 r s (subst E one a.2) b.2

script_once : (files : Files) (text : List ℕ) → Once (OfScript files text)
unfolding OfScript
script_once files text r s (inl a) (inl b) =
    let X : Script → Type 0 = λ x. OfRun files x r in
    run_once files b.0 r s (subst X (one_script text a.0 b.0 a.1 b.1) a.2) b.2
script_once files text r s (inl a) (inr b) = absurd (not_both text a.0 b.0 a.1 b.1)
script_once files text r s (inr a) (inl b) = absurd (not_both text b.0 a.0 b.1 a.1)
script_once files text r s (inr a) (inr b) =
    let F : TextFault → Type 0 = λ f. IsTextReport f r in
    text_once b.0 r s (subst F (one_fault text a.0 b.0 a.1 b.1) a.2) b.2

pub link_once : (files : Files) (name : List ℕ) → Once (OfLink files name)
link_once files name = file_once script_limit script_too_long (OfScript files) (script_once files) (contents_of files name)
