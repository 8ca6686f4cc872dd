-- Something is said of a file of whose contents something is said, and of a fault of bytes.
use Rattle.std.proofs.Common.{◌≡◌, ℕ, Bool, true, false, if◌then◌else◌, List, [], ◌∷◌, length, Option, Some, None, IfSome, arith, inl, inr, refl}
use Rattle.std.specs.List.{AllByRecursion}
use Rattle.std.specs.Str.{bytes_eq}
use Rattle.std.proofs.lemmas.Bool.{cases_order}
use Rattle.std.proofs.lemmas.List.Elements.{recursion_from_All}
use Rattle.binary_grammar.specs.declared.fault.DecodeFault.{DecodeFault}
use Rattle.binary_grammar.specs.declared.fault.DecodeFault.TheVariants as decode
use Rattle.binary_grammar.specs.Bounds.{the_bounds}
use Rattle.binary_grammar.specs.Plans.{Fault}
use Rattle.binary_grammar.proofs.FaultLaws.{of_bytes}
use Rattle.wasm_typing.specs.Valid.{BytesInRange}
use Rattle.rw_edge.specs.Files.{contents_of}
use Rattle.report_lines.specs.Lines.{limit_line, malformed_line}
use Rattle.report_lines.specs.declared.status.Status.TheVariants as status
use Rattle.report_lines.specs.Reports.{Report, ReportsOf, Files, HoldBytes, IsFaultReport, OfFile, nothing_read}

pub file_some : (limit : ℕ) (long : Report) (Next : ReportsOf (List ℕ)) (P : List ℕ → Type 0) → ((c : List ℕ) → P c → (r : Report) × Next c r) → (o : Option (List ℕ)) → IfSome o P →
    (r : Report) × OfFile limit long Next o r
unfolding OfFile
file_some limit long Next P next None p = (nothing_read, refl)
file_some limit long Next P next (Some c) p =
    elim (cases_order limit (length c)) [
      | inl e ↦ ((next c p).0, inr (omega (arith, e), (next c p).1))
      | inr more ↦
          elim more [
            | inl less ↦ (long, inl (less, refl))
            | inr less ↦ ((next c p).0, inr (omega (arith, less), (next c p).1))
          ]
    ]

pub anything : (o : Option (List ℕ)) → IfSome o (λ c. Unit {0})
anything None = tt
anything (Some c) = tt

-- a file that is found holds bytes
pub contents_are_bytes : (files : Files) → AllByRecursion (λ (file : List ℕ × List ℕ). BytesInRange file.1) files → (name : List ℕ) → IfSome (contents_of files name) BytesInRange
contents_are_bytes [] h name = tt
contents_are_bytes (file ∷ files) h name = by_name (bytes_eq file.0 name) (contents_are_bytes files h.1 name)
  where
    by_name : (b : Bool) → IfSome (contents_of files name) BytesInRange → IfSome (if b then Some file.1 else contents_of files name) BytesInRange
    by_name true rest = h.0
    by_name false rest = rest

pub held_are_bytes : (files : Files) → HoldBytes files → (name : List ℕ) → IfSome (contents_of files name) BytesInRange
held_are_bytes files h = contents_are_bytes files (recursion_from_All (λ (file : List ℕ × List ℕ). BytesInRange file.1) files h)

pub fault_some : (bytes : List ℕ) (f : DecodeFault) → Fault the_bounds bytes f → (r : Report) × IsFaultReport f r
fault_some bytes (decode.Malformed at w) h = (record { text = malformed_line w at; status = status.Negative }, refl)
fault_some bytes (decode.Limit at w) h = (record { text = limit_line w at; status = status.Limit }, refl)
fault_some bytes decode.OutOfMemory h = absurd (of_bytes the_bounds bytes h)
