-- What a walk over a body rests on.
use Rattle.std.proofs.Common.{◌≡◌, ℕ, zero, suc, ◌+◌, ◌<◌, ◌≤◌, true, List, [], ◌∷◌, length, map, drop, Option, Some, None, Result, Ok, Err, refl, ap, sym, ◌∙◌, add-one, arith, rules}
use Rattle.std.specs.Prelude.{slice_get, option_map}
use Rattle.std.specs.List.{list_all}
use Rattle.std.proofs.lemmas.Grind.{common_steps}
use Rattle.wasm_syntax.specs.declared.instr.Instr.{Instr}
use Rattle.wasm_syntax.specs.declared.flat.Flat.{Flat}
use Rattle.wasm_syntax.specs.declared.flat.Flat.TheVariants.{One}
use Rattle.wasm_syntax.specs.FlatForm.{is_simple, flat, flat_body}
use Rattle.wasm_syntax.proofs.FlatLemmas.{flat_of-simple}
use Rattle.wasm_values.specs.declared.error.OrMemory.{OrMemory}
use Rattle.wasm_values.specs.declared.error.OrMemory.TheVariants as stop
use Rattle.outline_check.specs.declared.stop.Refusal.{Refusal}
use Rattle.outline_check.specs.declared.stop.Why.{Why}
use Rattle.outline_check.specs.Refusals.{and_then, placed, stops_at, IsSaid}
use Rattle.std.specs.Prelude.{slice_index}
use Rattle.outline_check.specs.declared.notes.Formula.{Formula}
use Rattle.outline_check.specs.declared.notes.Note.{Note}
use Rattle.outline_check.specs.declared.state.State.{State}
use Rattle.outline_check.specs.Outlines.{rise_within, note_at, ended, run_from}
use Rattle.outline_check.specs.Cursors.{numbered, IsCursor}

-- a place on both sides
pub placed-said : {A : Type 0} (at : ℕ) (function : Option ℕ) (r : Result A (OrMemory Why)) (said : Result A Why) → IsSaid r said →
    IsSaid (stops_at at function r) (placed at function said)
placed-said at function (Ok a) said h = ap (placed at function) h
placed-said at function (Err (stop.Fault reason)) said h = ap (placed at function) h
placed-said at function (Err stop.OutOfMemory) said h = tt

-- a refusal is that of all that follows
pub refused-first : {A B : Type 0} (why : OrMemory Refusal) (first : Result A Refusal) (next : A → Result B Refusal) →
    IsSaid {A = A} {W = Refusal} (Err why) first → IsSaid {A = B} {W = Refusal} (Err why) (and_then first next)
refused-first (stop.Fault refusal) first next h = ap (λ r. and_then r next) h
refused-first stop.OutOfMemory first next h = tt

-- simple instructions are one item each
flat-simple : (is : List Instr) → list_all is_simple is ≡ true → flat is ≡ map One is
flat-simple [] h = refl
flat-simple (i ∷ is) h =
    let here : is_simple i ≡ true = grind arith in
    let there : list_all is_simple is ≡ true = grind arith in
    rw (flat_of-simple i here, flat-simple is there)

pub length-simple : (is : List Instr) → list_all is_simple is ≡ true → length (flat_body is) ≡ length is + 1
length-simple is h = rw flat-simple (search (rules, common_steps))

-- the item of an instruction, where the body's instructions are simple
pub item-simple : (is : List Instr) (i : ℕ) → list_all is_simple is ≡ true → i < length is →
    slice_get (flat_body is) i ≡ option_map One (slice_get is i)
item-simple [] i h within = absurd (omega arith)
item-simple (instr ∷ is) zero h within =
    let here : is_simple instr ≡ true = grind arith in
    rw (flat_of-simple instr here) refl
item-simple (instr ∷ is) (suc i) h within =
    let here : is_simple instr ≡ true = grind arith in
    let there : list_all is_simple is ≡ true = grind arith in
    rw (flat_of-simple instr here) (item-simple is i there (omega arith))

-- what is left of a list at a place
pub drop-get : {A : Type 0} (xs : List A) (i : ℕ) (x : A) → slice_get xs i ≡ Some x → drop i xs ≡ x ∷ drop (i + 1) xs
drop-get [] i x e = cc
drop-get (y ∷ xs) zero x e = cc
drop-get (y ∷ xs) (suc i) x e = rw add-one (drop-get xs i x e ∙ rw add-one refl)

pub drop-end : {A : Type 0} (xs : List A) (i : ℕ) → length xs ≤ i → drop i xs ≡ []
drop-end [] zero h = refl
drop-end [] (suc i) h = refl
drop-end (x ∷ xs) zero h = absurd (omega arith)
drop-end (x ∷ xs) (suc i) h = drop-end xs i (omega arith)

-- an instruction that was read, and what is left after it
pub instr-read : (is : List Instr) (i : ℕ) (instr : Instr) → list_all is_simple is ≡ true → i < length is →
    slice_get (flat_body is) i ≡ Some (One instr) → drop i is ≡ instr ∷ drop (i + 1) is
instr-read is i instr h within e = drop-get is i instr (one_of (slice_get is i) instr (sym (item-simple is i h within) ∙ e))
  where
    one_of : (o : Option Instr) (instr : Instr) → option_map One o ≡ Some (One instr) → o ≡ Some instr
    one_of None instr e = cc
    one_of (Some other) instr e = cc

pub get-within : {A : Type 0} (xs : List A) (i : ℕ) → i < length xs → (x : A) × (slice_get xs i ≡ Some x)
get-within [] i h = absurd (omega arith)
get-within (x ∷ xs) zero h = (x, refl)
get-within (x ∷ xs) (suc i) h = get-within xs i (omega arith)

pub no_other_item : (is : List Instr) (i : ℕ) (item : Flat) → list_all is_simple is ≡ true → i < length is →
    slice_get (flat_body is) i ≡ Some item → ((instr : Instr) → item ≡ One instr → ⊥) → ⊥
no_other_item is i item h within e other =
    let got = get-within is i within in
    let whole : slice_get (flat_body is) i ≡ option_map One (slice_get is i) = item-simple is i h within in
    let one : option_map One (slice_get is i) ≡ Some (One got.0) = ap (option_map One) got.1 in
    other got.0 (cc (whole, one, e))

-- the end of a body
pub run-end : (invariant : List Formula) (function : ℕ) (notes : List Note) (places : List ℕ) (body : List Instr) (s : State) (i last : ℕ)
    (given : Option Note) (r : Result (Unit {0}) (OrMemory Why)) (placed_r : Result (Unit {0}) (OrMemory Refusal)) (whole : Result (Unit {0}) Refusal) →
    i ≡ last → length body ≤ i → given ≡ note_at notes last → IsSaid r (ended invariant given s) →
    placed_r ≡ stops_at (slice_index places last) (Some function) r →
    run_from invariant function notes places i (drop i body) s ≡ whole → IsSaid placed_r whole
run-end invariant function notes places body s i last given r placed_r whole e past en said ep so_far =
    let here : IsSaid r (ended invariant (note_at notes i) s) = rw (e, ← en) said in
    let there = placed-said (slice_index places i) (Some function) r (ended invariant (note_at notes i) s) here in
    rw (ep, ← so_far, drop-end body i past, ← e) there

module _ {A : Type 0} (key : A → ℕ) where
  -- no number below the first is found
  pub none-below : (low high : ℕ) (xs : List A) (j : ℕ) → rise_within low high (map key xs) ≡ true → j < low → numbered key xs j ≡ None
  none-below low high [] j h below = refl
  none-below low high (x ∷ xs) j h below =
      let after : rise_within (key x + 1) high (map key xs) ≡ true = grind arith in
      let least : low ≤ key x = grind arith in
      let deeper : numbered key xs j ≡ None = none-below (key x + 1) high xs j after (omega arith) in
      grind (arith, common_steps)

  -- what the first entry says, once it has the number that is looked for
  found-here : (x : A) (xs : List A) (i : ℕ) → key x ≡ i → numbered key (x ∷ xs) i ≡ Some x
  found-here x xs i e = grind (arith, common_steps)

  not-here : (x : A) (xs : List A) (i : ℕ) → (key x ≡ i → ⊥) → numbered key (x ∷ xs) i ≡ numbered key xs i
  not-here x xs i e = grind (arith, common_steps)

  rises-after : (low high : ℕ) (x : A) (xs : List A) → rise_within low high (map key (x ∷ xs)) ≡ true →
      (low ≤ key x) × (key x < high) × (rise_within (key x + 1) high (map key xs) ≡ true)
  rises-after low high x xs h = (grind arith, grind arith, grind arith)

  rises-later : (low high : ℕ) (x : A) (xs : List A) → rise_within low high (map key (x ∷ xs)) ≡ true → (key x ≡ low → ⊥) →
      rise_within (low + 1) high (map key (x ∷ xs)) ≡ true
  rises-later low high x xs h other =
      let p = rises-after low high x xs h in
      let least : low + 1 ≤ key x = omega (arith, p.0) in
      let below : key x < high = p.1 in
      let rest : rise_within (key x + 1) high (map key xs) ≡ true = p.2 in
      grind (arith, common_steps)

  -- the entry at the cursor has the number
  pub cursor-found : (entries : List A) (cursor i : ℕ) (x : A) → IsCursor key entries cursor i → slice_get entries cursor ≡ Some x → key x ≡ i →
      (Some x ≡ numbered key entries i) × IsCursor key entries (cursor + 1) (i + 1)
  cursor-found entries cursor i x c get e =
      let left : drop cursor entries ≡ x ∷ drop (cursor + 1) entries = drop-get entries cursor x get in
      let rises = rises-after i c.high x (drop (cursor + 1) entries) (rw left at c.rises) in (
        sym (found-here x (drop (cursor + 1) entries) i e) ∙ sym (ap (λ xs. numbered key xs i) left) ∙ sym (c.same i (omega arith)),
        record {
          high = c.high;
          rises = rw e at rises.2;
          same = λ j h. c.same j (omega arith) ∙ ap (λ xs. numbered key xs j) left ∙ not-here x (drop (cursor + 1) entries) j (λ f. omega arith);
        },
      )

  -- the entry at the cursor has another number
  pub cursor-other : (entries : List A) (cursor i : ℕ) (x : A) → IsCursor key entries cursor i → slice_get entries cursor ≡ Some x → (key x ≡ i → ⊥) →
      (None ≡ numbered key entries i) × IsCursor key entries cursor (i + 1)
  cursor-other entries cursor i x c get e =
      let left : drop cursor entries ≡ x ∷ drop (cursor + 1) entries = drop-get entries cursor x get in
      let later : rise_within (i + 1) c.high (map key (drop cursor entries)) ≡ true =
      rw left (rises-later i c.high x (drop (cursor + 1) entries) (rw left at c.rises) e) in (
        sym (none-below (i + 1) c.high (drop cursor entries) i later (omega arith)) ∙ sym (c.same i (omega arith)),
        record { high = c.high; rises = later; same = λ j h. c.same j (omega arith) },
      )

  -- no entry is left
  pub cursor-end : (entries : List A) (cursor i : ℕ) → IsCursor key entries cursor i → length entries ≤ cursor →
      (None ≡ numbered key entries i) × IsCursor key entries cursor (i + 1)
  cursor-end entries cursor i c past =
      let left : drop cursor entries ≡ [] = drop-end entries cursor past in (
        sym (ap (λ xs. numbered key xs i) left) ∙ sym (c.same i (omega arith)),
        record { high = c.high; rises = rw left refl; same = λ j h. c.same j (omega arith) },
      )

  -- at the start
  pub cursor-start : (entries : List A) (high : ℕ) → rise_within 0 high (map key entries) ≡ true → IsCursor key entries 0 0
  cursor-start entries high h = record { high = high; rises = h; same = λ j _. refl }
