-- Reports that are good, and those that aren't.
use Rattle.std.proofs.Common.{◌≡◌, ℕ, ◌≤◌, List, length, Option, Some, None, refl, sym, ap, subst, ◌∙◌, inl, inr}
use Rattle.std.specs.Prelude.{IsSomeAnd}
use Rattle.binary_grammar.specs.declared.fault.DecodeFault.{DecodeFault}
use Rattle.binary_grammar.specs.declared.fault.DecodeFault.TheVariants as decode
use Rattle.report_lines.specs.declared.status.Status.TheVariants as status
use Rattle.report_lines.specs.Reports.{Report, IsFaultReport, OfFile}

-- reports that are not good
abbrev pub IsGood : Report → Type 0
IsGood r = r.status ≡ status.Good

pub not_good : (r s : Report) → r ≡ s → (s.status ≡ status.Good → ⊥) → IsGood r → ⊥
not_good r s e bad good = bad (sym (ap (λ (q : Report). q.status) e) ∙ good)

pub good_file : (limit : ℕ) (long : Report) (Next : List ℕ → Report → Type 0) (o : Option (List ℕ)) (r : Report) → (long.status ≡ status.Good → ⊥) → OfFile limit long Next o r → IsGood r →
    IsSomeAnd o (λ c. (length c ≤ limit) × Next c r)
unfolding OfFile
good_file limit long Next None r bad h good = not_good r _ h (λ e. absurd cc) good
good_file limit long Next (Some c) r bad (inl h) good = absurd (not_good r long h.1 bad good)
good_file limit long Next (Some c) r bad (inr h) good = h

pub file_good : (limit : ℕ) (long : Report) (Next : List ℕ → Report → Type 0) (o : Option (List ℕ)) (c : List ℕ) (r : Report) → o ≡ Some c → length c ≤ limit → Next c r → OfFile limit long Next o r
unfolding OfFile
file_good limit long Next o c r e le next = let F : Option (List ℕ) → Type 0 = λ p. OfFile limit long Next p r in subst F (sym e) (inr (le, next))

pub not_fault : (fault : DecodeFault) (r : Report) → IsFaultReport fault r → IsGood r → ⊥
not_fault (decode.Malformed at w) r h good = not_good r _ h (λ e. absurd cc) good
not_fault (decode.Limit at w) r h good = not_good r _ h (λ e. absurd cc) good
not_fault decode.OutOfMemory r h good = h

pub there_is : {P : List ℕ → Type 0} (o : Option (List ℕ)) → IsSomeAnd o P → (c : List ℕ) × (o ≡ Some c) × P c
there_is None h = absurd h
there_is (Some c) h = (c, refl, h)

pub at_some : {P Q : List ℕ → Type 0} (o : Option (List ℕ)) → ((c : List ℕ) → P c → Q c) → IsSomeAnd o P → IsSomeAnd o Q
at_some None f h = h
at_some (Some c) f h = f c h
