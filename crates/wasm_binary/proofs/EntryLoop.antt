-- Reading entries one after another, as a loop does.
use Rattle.std.proofs.Common.{◌≡◌, ℕ, suc, ◌-◌, ◌+◌, ◌≤◌, ◌<◌, List, [], ◌∷◌, ◌++◌, Result, Ok, Err, refl, sym, ◌∙◌, append_assoc, arith}
use Rattle.std.proofs.lemmas.List.{append-nil}
use Rattle.binary_grammar.specs.declared.fault.DecodeFault.{DecodeFault}
use Rattle.binary_grammar.specs.declared.fault.DecodeFault.TheVariants.{Malformed, Limit, OutOfMemory}
use Rattle.binary_grammar.specs.words.Reading.{◌>>=◌, Fails, Reader, place, entries_at}

-- what was read before, and what is still read
abbrev pub with_front : {A : Type 0} → List A → List ℕ → Result ((List A × List ℕ) × List ℕ) DecodeFault → Result ((List A × List ℕ) × List ℕ) DecodeFault
with_front es ps read = read >>= λ x. Ok ((es ++ x.0.0, ps ++ x.0.1), x.1)

regroup : {A : Type 0} (es : List A) (ps : List ℕ) (e : A) (p : ℕ) (read : Result ((List A × List ℕ) × List ℕ) DecodeFault) →
    with_front es ps (read >>= λ xs. Ok ((e ∷ xs.0.0, p ∷ xs.0.1), xs.1)) ≡ with_front (es ++ e ∷ []) (ps ++ p ∷ []) read
regroup {A} es ps e p (Ok x) = simp append_assoc
regroup es ps e p (Err f) = refl

pub goes_on : {A : Type 0} (r : Reader A) (es : List A) (ps : List ℕ) (count i end : ℕ) (bytes : List ℕ) (e : A) (after : List ℕ) (total : Result ((List A × List ℕ) × List ℕ) DecodeFault) →
    i < count → r end bytes ≡ Ok (e, after) → with_front es ps (entries_at r (count - i) end bytes) ≡ total →
    with_front (es ++ e ∷ []) (ps ++ place end bytes ∷ []) (entries_at r (count - (i + 1)) end after) ≡ total
unfolding entries_at
goes_on {A} r es ps count i end bytes e after total lt h so_far =
    let k : count - i ≡ suc (count - (i + 1)) = omega arith in
    let one : with_front es ps (entries_at r (count - i) end bytes) ≡ with_front (es ++ e ∷ []) (ps ++ place end bytes ∷ []) (entries_at r (count - (i + 1)) end after) =
    rw (k, h) (regroup es ps e (place end bytes) (entries_at r (count - (i + 1)) end after)) in
    sym one ∙ so_far

pub ends : {A : Type 0} (r : Reader A) (f : DecodeFault) (es : List A) (ps : List ℕ) (count i end : ℕ) (bytes : List ℕ) (total : Result ((List A × List ℕ) × List ℕ) DecodeFault) →
    i < count → Fails f (r end bytes) → with_front es ps (entries_at r (count - i) end bytes) ≡ total → Fails f total
unfolding entries_at
ends r OutOfMemory es ps count i end bytes total lt h so_far = tt
ends r (Malformed at word) es ps count i end bytes total lt h so_far =
    let k : count - i ≡ suc (count - (i + 1)) = omega arith in
    let one : with_front es ps (entries_at r (count - i) end bytes) ≡ Err (Malformed at word) = rw (k, h) refl in
    sym so_far ∙ one
ends r (Limit at word) es ps count i end bytes total lt h so_far =
    let k : count - i ≡ suc (count - (i + 1)) = omega arith in
    let one : with_front es ps (entries_at r (count - i) end bytes) ≡ Err (Limit at word) = rw (k, h) refl in
    sym so_far ∙ one

pub is_done : {A : Type 0} (r : Reader A) (es : List A) (ps : List ℕ) (count i end : ℕ) (bytes : List ℕ) (total : Result ((List A × List ℕ) × List ℕ) DecodeFault) →
    count ≤ i → with_front es ps (entries_at r (count - i) end bytes) ≡ total → total ≡ Ok ((es, ps), bytes)
unfolding entries_at
is_done r es ps count i end bytes total le so_far =
    let k : count - i ≡ 0 = omega arith in
    let one : with_front es ps (entries_at r (count - i) end bytes) ≡ Ok ((es, ps), bytes) = rw (k, append-nil es, append-nil ps) refl in
    sym so_far ∙ one
