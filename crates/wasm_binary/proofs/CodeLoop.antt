-- Reading the items of an expression and runs of locals, as loops do.
use Rattle.std.proofs.Common.{◌≡◌, ℕ, zero, suc, ◌+◌, ◌≤◌, true, false, nat_lt, List, [], ◌∷◌, ◌++◌, length, Result, Ok, Err, refl, sym, ap, ◌∙◌, append_assoc, add-one, arith}
use Rattle.std.proofs.lemmas.List.{append-nil, length-append}
use Rattle.wasm_values.specs.declared.number.ValType.{ValType}
use Rattle.wasm_syntax.specs.declared.instr.Instr.{Instr}
use Rattle.wasm_syntax.specs.declared.flat.Flat.{Flat}
use Rattle.wasm_syntax.specs.Parts.{Part, own, may_turn, then_item, flat_parts}
use Rattle.binary_grammar.specs.declared.fault.DecodeFault.{DecodeFault}
use Rattle.binary_grammar.specs.declared.fault.DecodeFault.TheVariants.{Malformed, Limit, OutOfMemory}
use Rattle.binary_grammar.specs.declared.fault.DecodeWord.TheVariants.{End}
use Rattle.binary_grammar.specs.Bounds.{copies}
use Rattle.binary_grammar.specs.words.Reading.{◌>>=◌, Fails, place}
use Rattle.binary_grammar.specs.words.CodeReading.{item_at, is_last, own_instrs, rest_at, expression_at, run_of_locals_at, runs_at}

abbrev pub Found : Type 0
Found = Result ((List Instr × List ℕ) × List ℕ) DecodeFault

-- the places of what was read before, and what is still read
abbrev pub with_places : List ℕ → Found → Found
with_places ps read = read >>= λ x. Ok ((x.0.0, ps ++ x.0.1), x.1)

abbrev next : ℕ → List Part → ℕ → List ℕ → Result (Flat × List ℕ) DecodeFault
next most parts end bytes = item_at (may_turn parts) (nat_lt most (length parts)) end bytes

regroup : (ps : List ℕ) (p : ℕ) (read : Found) → with_places ps (read >>= λ x. Ok ((x.0.0, p ∷ x.0.1), x.1)) ≡ with_places (ps ++ p ∷ []) read
regroup ps p (Ok x) = simp append_assoc
regroup ps p (Err f) = refl

pub goes_on : (most k m end : ℕ) (parts : List Part) (ps bytes : List ℕ) (i : Flat) (after : List ℕ) (total : Found) →
    k ≡ suc m → next most parts end bytes ≡ Ok (i, after) → is_last (length parts) i ≡ false → with_places ps (rest_at most k parts end bytes) ≡ total →
    with_places (ps ++ place end bytes ∷ []) (rest_at most m (then_item parts i) end after) ≡ total
unfolding rest_at
goes_on most k m end parts ps bytes i after total e h l so_far =
    let one : with_places ps (rest_at most k parts end bytes) ≡ with_places (ps ++ place end bytes ∷ []) (rest_at most m (then_item parts i) end after) =
    rw (e, h, l) (regroup ps (place end bytes) (rest_at most m (then_item parts i) end after)) in
    sym one ∙ so_far

pub stops : (most k m end : ℕ) (parts : List Part) (ps bytes : List ℕ) (i : Flat) (after : List ℕ) (total : Found) →
    k ≡ suc m → next most parts end bytes ≡ Ok (i, after) → is_last (length parts) i ≡ true → with_places ps (rest_at most k parts end bytes) ≡ total →
    total ≡ Ok ((own_instrs parts, ps ++ place end bytes ∷ []), after)
unfolding rest_at
stops most k m end parts ps bytes i after total e h l so_far =
    let one : with_places ps (rest_at most k parts end bytes) ≡ Ok ((own_instrs parts, ps ++ place end bytes ∷ []), after) = rw (e, h, l) refl in
    sym so_far ∙ one

pub fails : (f : DecodeFault) (most k m end : ℕ) (parts : List Part) (ps bytes : List ℕ) (total : Found) →
    k ≡ suc m → Fails f (next most parts end bytes) → with_places ps (rest_at most k parts end bytes) ≡ total → Fails f total
unfolding rest_at
fails OutOfMemory most k m end parts ps bytes total e h so_far = tt
fails (Malformed at word) most k m end parts ps bytes total e h so_far =
    let one : with_places ps (rest_at most k parts end bytes) ≡ Err (Malformed at word) = rw (e, h) refl in sym so_far ∙ one
fails (Limit at word) most k m end parts ps bytes total e h so_far =
    let one : with_places ps (rest_at most k parts end bytes) ≡ Err (Limit at word) = rw (e, h) refl in sym so_far ∙ one

pub runs_out : (most k end : ℕ) (parts : List Part) (ps bytes : List ℕ) (total : Found) →
    k ≡ 0 → with_places ps (rest_at most k parts end bytes) ≡ total → total ≡ Err (Malformed end End)
unfolding rest_at
runs_out most k end parts ps bytes total e so_far =
    let one : with_places ps (rest_at most k parts end bytes) ≡ Err (Malformed end End) = rw e refl in sym so_far ∙ one

-- ---- runs of locals

abbrev pub Locals : Type 0
Locals = Result (List ValType × List ℕ) DecodeFault

abbrev pub with_locals : List ValType → Locals → Locals
with_locals ls read = read >>= λ x. Ok (ls ++ x.0, x.1)

regroup_locals : (ls ms : List ValType) (read : Locals) → with_locals ls (read >>= λ x. Ok (ms ++ x.0, x.1)) ≡ with_locals (ls ++ ms) read
regroup_locals ls ms (Ok x) = simp append_assoc
regroup_locals ls ms (Err f) = refl

pub length-copies : (n : ℕ) (t : ValType) → length (copies n t) ≡ n
length-copies zero t = refl
length-copies (suc n) t = ap suc (length-copies n t)

more_copies : (n : ℕ) (t : ValType) → copies (suc n) t ≡ copies n t ++ t ∷ []
more_copies zero t = refl
more_copies (suc n) t = ap (λ ts. t ∷ ts) (more_copies n t)

pub copies-push : (ls : List ValType) (n : ℕ) (t : ValType) → (ls ++ copies n t) ++ t ∷ [] ≡ ls ++ copies (n + 1) t
copies-push ls n t = append_assoc ls (copies n t) (t ∷ []) ∙ ap (λ ts. ls ++ ts) (sym (ap (λ k. copies k t) (add-one n) ∙ more_copies n t))

pub goes_on_runs : (most k m end : ℕ) (ls : List ValType) (bytes : List ℕ) (n : ℕ) (t : ValType) (after : List ℕ) (total : Locals) →
    k ≡ suc m → run_of_locals_at most (length ls) end bytes ≡ Ok ((n, t), after) → with_locals ls (runs_at most (length ls) k end bytes) ≡ total →
    with_locals (ls ++ copies n t) (runs_at most (length (ls ++ copies n t)) m end after) ≡ total
unfolding runs_at
goes_on_runs most k m end ls bytes n t after total e h so_far =
    let len : length (ls ++ copies n t) ≡ length ls + n = omega (arith, length-append ls (copies n t), length-copies n t) in
    let one : with_locals ls (runs_at most (length ls) k end bytes) ≡ with_locals (ls ++ copies n t) (runs_at most (length (ls ++ copies n t)) m end after) =
    rw (e, h, len) (regroup_locals ls (copies n t) (runs_at most (length ls + n) m end after)) in
    sym one ∙ so_far

pub fails_runs : (f : DecodeFault) (most k m end : ℕ) (ls : List ValType) (bytes : List ℕ) (total : Locals) →
    k ≡ suc m → Fails f (run_of_locals_at most (length ls) end bytes) → with_locals ls (runs_at most (length ls) k end bytes) ≡ total → Fails f total
unfolding runs_at
fails_runs OutOfMemory most k m end ls bytes total e h so_far = tt
fails_runs (Malformed at word) most k m end ls bytes total e h so_far =
    let one : with_locals ls (runs_at most (length ls) k end bytes) ≡ Err (Malformed at word) = rw (e, h) refl in sym so_far ∙ one
fails_runs (Limit at word) most k m end ls bytes total e h so_far =
    let one : with_locals ls (runs_at most (length ls) k end bytes) ≡ Err (Limit at word) = rw (e, h) refl in sym so_far ∙ one

pub runs_done : (most k end : ℕ) (ls : List ValType) (bytes : List ℕ) (total : Locals) →
    k ≡ 0 → with_locals ls (runs_at most (length ls) k end bytes) ≡ total → total ≡ Ok (ls, bytes)
unfolding runs_at
runs_done most k end ls bytes total e so_far =
    let one : with_locals ls (runs_at most (length ls) k end bytes) ≡ Ok (ls, bytes) = rw (e, append-nil ls) refl in sym so_far ∙ one

no_places : (read : Found) → with_places [] read ≡ read
no_places (Ok x) = refl
no_places (Err f) = refl

pub starts : (most end k : ℕ) (parts : List Part) (ps bytes : List ℕ) → k ≡ length bytes → parts ≡ own [] ∷ [] → ps ≡ [] → with_places ps (rest_at most k parts end bytes) ≡ expression_at most end bytes
unfolding expression_at
starts most end k parts ps bytes d e f = rw (d, e, f) (no_places (rest_at most (length bytes) (own [] ∷ []) end bytes))

-- no items are read at first
pub no_items : (parts : List Part) → parts ≡ own [] ∷ [] → length (flat_parts parts) ≤ 0
no_items parts e = rw e (omega arith)
