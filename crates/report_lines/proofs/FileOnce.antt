-- At most one thing is said of a file, and of a fault of bytes.
use Rattle.std.proofs.Common.{◌≡◌, ℕ, List, Option, Some, None, sym, ◌∙◌, arith, inl, inr}
use Rattle.binary_grammar.specs.declared.fault.DecodeFault.{DecodeFault}
use Rattle.binary_grammar.specs.declared.fault.DecodeFault.TheVariants as decode
use Rattle.report_lines.specs.Reports.{Report, IsFaultReport, OfFile}

-- at most one
abbrev pub Once : (Report → Type 0) → Type 0
Once Is = (r s : Report) → Is r → Is s → r ≡ s

pub file_once : (limit : ℕ) (long : Report) (Next : List ℕ → Report → Type 0) → ((c : List ℕ) → Once (Next c)) → (o : Option (List ℕ)) → Once (OfFile limit long Next o)
unfolding OfFile
file_once limit long Next next None r s a b = a ∙ sym b
file_once limit long Next next (Some c) r s (inl a) (inl b) = a.1 ∙ sym b.1
file_once limit long Next next (Some c) r s (inl a) (inr b) = absurd (let x = a.0 in let y = b.0 in omega arith)
file_once limit long Next next (Some c) r s (inr a) (inl b) = absurd (let x = a.0 in let y = b.0 in omega arith)
file_once limit long Next next (Some c) r s (inr a) (inr b) = next c r s a.1 b.1

pub fault_once : (fault : DecodeFault) → Once (IsFaultReport fault)
fault_once (decode.Malformed at w) r s a b = a ∙ sym b
fault_once (decode.Limit at w) r s a b = a ∙ sym b
fault_once decode.OutOfMemory r s a b = absurd a
