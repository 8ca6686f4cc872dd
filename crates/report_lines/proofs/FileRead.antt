-- What is said of files that are read, put together from what the shelf answers.
use Rattle.std.proofs.Common.{◌≡◌, ℕ, ◌<◌, ◌≤◌, List, length, Option, Some, None, Result, Ok, Err, refl, sym, subst, arith, ◌⊎◌, inl, inr}
use Rattle.std.specs.Prelude.{IfSome, IsSome, IsSomeAnd, IfOk}
use Rattle.rw_edge.specs.Files.{contents_of, Lacks, IfContents, IsLonger}
use Rattle.rw_edge.specs.Count.{Faulted}
use Rattle.rw_edge.specs.declared.error.ReadFault.{ReadFault}
use Rattle.rw_edge.specs.declared.error.ReadFault.TheVariants as read
use Rattle.report_lines.specs.declared.report.Report as reports
use Rattle.report_lines.specs.Reports.{Report, seen, Files, nothing_read, OfFile, IsSpoken}

pub file_read : (files : Option Files) (name : List ℕ) (limit : ℕ) (long : Report) (Next : Files → List ℕ → Report → Type 0) (bytes : List ℕ) (r : Report) →
    IfContents files name (λ contents. bytes ≡ contents) → length bytes ≤ limit → IfSome files (λ f. Next f bytes r) →
    IfSome files (λ f. OfFile limit long (Next f) (contents_of f name) r)
unfolding OfFile
file_read None name limit long Next bytes r whole le next = tt
file_read (Some f) name limit long Next bytes r whole le next = by (contents_of f name) whole
  where
    by : (o : Option (List ℕ)) → IsSomeAnd o (λ contents. bytes ≡ contents) → OfFile limit long (Next f) o r
    by None h = absurd h
    by (Some c) h =
        let L : List ℕ → Type 0 = λ d. length d ≤ limit in
        let N : List ℕ → Type 0 = λ d. Next f d r in
        inr (subst L h le, subst N h next)

pub file_long : (files : Option Files) (name : List ℕ) (limit : ℕ) (long : Report) (Next : Files → List ℕ → Report → Type 0) (r : Report) →
    (IsSome files → IsLonger files name limit) → r ≡ long → IfSome files (λ f. OfFile limit long (Next f) (contents_of f name) r)
unfolding OfFile
file_long None name limit long Next r longer e = tt
file_long (Some f) name limit long Next r longer e = by (contents_of f name) (longer refl)
  where
    by : (o : Option (List ℕ)) → IsSomeAnd o (λ contents. limit < length contents) → OfFile limit long (Next f) o r
    by None h = absurd h
    by (Some c) h = inl (h, e)

-- a file that the told files lack
pub file_lacking : (files : Option Files) (name : List ℕ) (limit : ℕ) (long : Report) (Next : Files → List ℕ → Report → Type 0) →
    Lacks files name → IsSomeAnd files (λ f. OfFile limit long (Next f) (contents_of f name) nothing_read)
unfolding OfFile
file_lacking None name limit long Next lacks = absurd lacks
file_lacking (Some f) name limit long Next lacks = by (contents_of f name) lacks
  where
    by : (o : Option (List ℕ)) → o ≡ None → OfFile limit long (Next f) o nothing_read
    by None e = refl
    by (Some c) e = absurd cc

-- a file that was read
pub read_made : {E : Type 0} (made : Result reports.Report E) (files after : Option Files) (name : List ℕ) (limit : ℕ) (long : Report) (Next : Files → List ℕ → Report → Type 0) (bytes slice : List ℕ) →
    after ≡ files → slice ≡ bytes → IfContents files name (λ contents. bytes ≡ contents) → length bytes ≤ limit → IfOk made (λ r. IfSome after (λ f. Next f slice (seen r))) →
    IfOk made (λ r. IfSome files (λ f. OfFile limit long (Next f) (contents_of f name) (seen r)))
read_made (Err e) files after name limit long Next bytes slice same lent whole le next = tt
read_made (Ok r) files after name limit long Next bytes slice same lent whole le next =
    let F : Option Files → Type 0 = λ o. IfSome o (λ f. Next f slice (seen r)) in
    let S : List ℕ → Type 0 = λ c. IfSome files (λ f. Next f c (seen r)) in
    file_read files name limit long Next bytes (seen r) whole le (subst S lent (subst F same next))

-- the same, where what follows doesn't depend on other files
pub read_alone : {E : Type 0} (made : Result reports.Report E) (files : Option Files) (name : List ℕ) (limit : ℕ) (long : Report) (Next : List ℕ → Report → Type 0) (bytes slice : List ℕ) →
    slice ≡ bytes → IfContents files name (λ contents. bytes ≡ contents) → length bytes ≤ limit → IfOk made (λ r. Next slice (seen r)) →
    IfOk made (λ r. IfSome files (λ f. OfFile limit long Next (contents_of f name) (seen r)))
read_alone (Err e) files name limit long Next bytes slice lent whole le next = tt
read_alone (Ok r) None name limit long Next bytes slice lent whole le next = tt
read_alone (Ok r) (Some f) name limit long Next bytes slice lent whole le next =
    let S : List ℕ → Type 0 = λ c. Next c (seen r) in
    file_read (Some f) name limit long (λ f. Next) bytes (seen r) whole le (subst S lent next)

-- a file that could not be read
pub not_read : (F : Type 0) (files : Option Files) (name : List ℕ) (limit : ℕ) (long : Report) (Next : Files → List ℕ → Report → Type 0) →
    F ⊎ Lacks files name → F ⊎ IsSomeAnd files (λ f. OfFile limit long (Next f) (contents_of f name) nothing_read)
not_read F files name limit long Next (inl fault) = inl fault
not_read F files name limit long Next (inr lacks) = inr (file_lacking files name limit long Next lacks)

-- a file that was read, and a second one that could not be
pub second_not_read : (old mid new : ℕ) (files after : Option Files) (name : List ℕ) (limit : ℕ) (long : Report) (Next : Files → List ℕ → Report → Type 0) (bytes slice : List ℕ) →
    old ≤ mid → after ≡ files → slice ≡ bytes → IfContents files name (λ contents. bytes ≡ contents) → length bytes ≤ limit →
    Faulted mid new ⊎ IsSomeAnd after (λ f. Next f slice nothing_read) → Faulted old new ⊎ IsSomeAnd files (λ f. OfFile limit long (Next f) (contents_of f name) nothing_read)
second_not_read old mid new files after name limit long Next bytes slice less same lent whole le (inl (inl rose)) = inl (inl (omega arith))
second_not_read old mid new files after name limit long Next bytes slice less same lent whole le (inl (inr last)) = inl (inr last)
second_not_read old mid new files after name limit long Next bytes slice less same lent whole le (inr h) =
    let F : Option Files → Type 0 = λ o. IsSomeAnd o (λ f. Next f slice nothing_read) in
    inr (by files whole (subst F same h))
  where
    by : (o : Option Files) → IfContents o name (λ contents. bytes ≡ contents) → IsSomeAnd o (λ f. Next f slice nothing_read) → IsSomeAnd o (λ f. OfFile limit long (Next f) (contents_of f name) nothing_read)
    by None whole h = absurd h
    by (Some f) whole h =
        let S : List ℕ → Type 0 = λ c. Next f c nothing_read in
        file_read (Some f) name limit long Next bytes nothing_read whole le (subst S lent h)

-- a file that was too long, or not read for another cause
pub file_unread : {E : Type 0} (made : Result reports.Report E) (files : Option Files) (name : List ℕ) (limit : ℕ) (long : Report) (Next : Files → List ℕ → Report → Type 0) (fault : ReadFault) →
    (fault ≡ read.TooLong → IsSome files → IsLonger files name limit) → IfOk made (λ r. (fault ≡ read.TooLong) × (seen r ≡ long)) →
    IfOk made (λ r. IfSome files (λ f. OfFile limit long (Next f) (contents_of f name) (seen r)))
file_unread (Ok r) files name limit long Next fault longer h = file_long files name limit long Next (seen r) (longer h.0) h.1
file_unread (Err e) files name limit long Next fault longer h = tt

-- a limit is a status with a line
pub unread_spoken : {E : Type 0} (F : Type 0) (made : Result reports.Report E) (long : Report) → IsSpoken long.status → IfOk made (λ r. F × (seen r ≡ long)) → IfOk made (λ r. IsSpoken r.status)
unread_spoken F (Ok r) long spoken h = subst (λ (q : Report). IsSpoken q.status) (sym h.1) spoken
unread_spoken F (Err e) long spoken h = tt
