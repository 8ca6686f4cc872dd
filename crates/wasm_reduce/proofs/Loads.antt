-- Widths of loads, and bytes that are written one after another.
use Rattle.std.proofs.Common.{◌≡◌, ℕ, ◌+◌, ◌*◌, ◌^◌, ◌<◌, ◌≤◌, if◌then◌else◌, Bool, true, false, List, [], ◌∷◌, ◌++◌, length, take, drop, get_or, set, lit<, lit≤, refl, sym, ap, ◌∙◌, arith, append_assoc, length-append}
use Rattle.std.proofs.lemmas.List.{drop_more, take_more, set_at, length-take-le}
use Rattle.wasm_syntax.specs.declared.instr.LoadOp.{LoadOp}
use Rattle.wasm_syntax.specs.declared.instr.LoadOp.TheVariants as load
use Rattle.wasm_values.specs.Operators.{width_of, number_of_bytes}
use Rattle.wasm_values.proofs.ByteLaws.{number_of_bytes-lt}
use Rattle.wasm_syntax.specs.Accesses.{bytes_loaded, loaded_type}

-- What the widths of a load have to do with one another.
pub record Widths (op : LoadOp) : Type 0 where
  pub some : 0 < 8 * bytes_loaded op
  pub within : 8 * bytes_loaded op ≤ width_of (loaded_type op)
  pub power : 256 ^ bytes_loaded op ≡ 2 ^ (8 * bytes_loaded op)
  pub fits : 2 ^ (8 * bytes_loaded op) ≤ 2 ^ width_of (loaded_type op)

pub widths : (op : LoadOp) → Widths op
widths load.I32Load = record { some = lit< tt; within = lit≤ tt; power = refl; fits = lit≤ tt }
widths load.I64Load = record { some = lit< tt; within = lit≤ tt; power = refl; fits = lit≤ tt }
widths load.I32Load8S = record { some = lit< tt; within = lit≤ tt; power = refl; fits = lit≤ tt }
widths load.I32Load8U = record { some = lit< tt; within = lit≤ tt; power = refl; fits = lit≤ tt }
widths load.I32Load16S = record { some = lit< tt; within = lit≤ tt; power = refl; fits = lit≤ tt }
widths load.I32Load16U = record { some = lit< tt; within = lit≤ tt; power = refl; fits = lit≤ tt }
widths load.I64Load8S = record { some = lit< tt; within = lit≤ tt; power = refl; fits = lit≤ tt }
widths load.I64Load8U = record { some = lit< tt; within = lit≤ tt; power = refl; fits = lit≤ tt }
widths load.I64Load16S = record { some = lit< tt; within = lit≤ tt; power = refl; fits = lit≤ tt }
widths load.I64Load16U = record { some = lit< tt; within = lit≤ tt; power = refl; fits = lit≤ tt }
widths load.I64Load32S = record { some = lit< tt; within = lit≤ tt; power = refl; fits = lit≤ tt }
widths load.I64Load32U = record { some = lit< tt; within = lit≤ tt; power = refl; fits = lit≤ tt }

pub number_fits : (op : LoadOp) (bytes : List ℕ) → length bytes ≡ bytes_loaded op → ((i : ℕ) → get_or bytes i 0 < 256) → number_of_bytes bytes < 2 ^ (8 * bytes_loaded op)
number_fits op bytes long small =
    let below : number_of_bytes bytes < 256 ^ length bytes = number_of_bytes-lt bytes small in
    let power : 256 ^ length bytes ≡ 2 ^ (8 * bytes_loaded op) = ap (λ n. 256 ^ n) long ∙ (widths op).power in
    omega (arith, below, power)

-- The choice of the first of two values.
pub when_true : {A : Type 0} → (b : Bool) (x y z : A) → b ≡ true → z ≡ x → z ≡ (if b then x else y)
when_true true x y z h e = e
when_true false x y z h e = cc

-- One more byte that is written.
pub overwrite_step : (now old ys : List ℕ) (at i d : ℕ) → at + i < length old → i < length ys → now ≡ take at old ++ take i ys ++ drop (at + i) old → set now (at + i) (get_or ys i d) ≡ take at old ++ take (i + 1) ys ++ drop (at + (i + 1)) old
overwrite_step now old ys at i d within more is =
    let v = get_or ys i d in
    let front = take at old ++ take i ys in
    let long : length front ≡ at + i =
    omega (arith, length-append (take at old) (take i ys), length-take-le at old (omega arith), length-take-le i ys (omega arith))
    in
    let sum : at + i + 1 ≡ at + (i + 1) = omega arith in
    let back : drop (at + i) old ≡ get_or old (at + i) v ∷ drop (at + i + 1) old = drop_more old (at + i) v within in
    ap (λ l. set l (at + i) v) (is ∙ ap (λ l. front ++ l) back)
    ∙ set_at front (get_or old (at + i) v) (drop (at + i + 1) old) v (at + i) long
    ∙ ap (λ n. front ++ (v ∷ drop n old)) sum
    ∙ sym (append_assoc front (v ∷ []) (drop (at + (i + 1)) old))
    ∙ ap (λ l. l ++ drop (at + (i + 1)) old) (
    append_assoc (take at old) (take i ys) (v ∷ []) ∙ ap (λ l. take at old ++ l) (sym (take_more ys i d more))
    )
