-- What comes to be known of bounds is right, and what doesn't has none.
use Rattle.std.proofs.Common.{◌≡◌, ℕ, zero, suc, ◌+◌, ◌-◌, ◌<◌, ◌≤◌, min, max, Bool, true, false, cond, List, [], ◌∷◌, Option, Some, None, ◌⊎◌, inl, inr, length, get_or, map, slice_get, refl, sym, ap, subst, ◌∙◌, arith, leb-true, leb-false, le-leb}
use Rattle.std.specs.Prelude.{◌||◌, nat_le, if◌then◌else◌, is_none, option_map, option_and_then, MatchOption, slice_set, replicate, IsTrue}
use Rattle.std.proofs.lemmas.Option.{slice_get-map, slice_get_within, same_Some}
use Rattle.std.proofs.lemmas.List.{length-map, length-replicate}
use Rattle.std.proofs.lemmas.Bool.{cases_lt}
use Rattle.std.proofs.Math.ListN.{length-set}
use Rattle.std.proofs.lemmas.List.Sums.{sum_by-set}
use Rattle.wasm_syntax.specs.declared.module.Func.{Func}
use Rattle.wasm_syntax.specs.declared.module.Module.{Module}
use Rattle.wasm_syntax.specs.Trees as tree
use Rattle.wasm_syntax.specs.Trees.{Instruction, Sequence, Empty, Then, IfElse, sequence_of}
use Rattle.step_bound.specs.declared.bound.Bound.{Bound}
use Rattle.step_bound.specs.declared.bound.Bound.TheVariants.{Steps, Over}
use Rattle.step_bound.specs.declared.bound.TheConstants.{MAX_STEPS}
use Rattle.step_bound.specs.Bounds.{imported_funcs, is_single, InstructionBound, single, call, block, one_side, two_sides, SequenceBound, nothing, more, FunctionBound, function}
use Rattle.step_bound.specs.Told.{IsBoundOf, AreBoundsOf}
use Rattle.step_bound.specs.words.Sums.{capped, added, joined, known_at, called, sum_with, sum_over, body_bound}
use Rattle.step_bound.specs.words.Tables.{IsRight, IsSettled, missing, Settles, Rounds, told_of}

-- ---- options

mapped : {A B : Type 0} → (f : A → B) (o : Option A) (y : B) → option_map f o ≡ Some y → (x : A) × (o ≡ Some x) × (y ≡ f x)
mapped f None y e = cc
mapped f (Some x) y e = (x, refl, cc)

chained : {A B : Type 0} → (f : A → Option B) (o : Option A) (y : B) → option_and_then f o ≡ Some y → (x : A) × (o ≡ Some x) × (f x ≡ Some y)
chained f None y e = cc
chained f (Some x) y e = (x, refl, e)

-- ---- sums

capped_one : (a n : ℕ) → n ≡ 1 → added (capped a) 1 ≡ capped (a + n)
unfolding added
capped_one a n e = omega (arith, e)

least_part : (l a n : ℕ) → min (min (min a l + 2) l + max 0 (min n l)) l ≡ min (a + (2 + max n 0)) l
least_part l a n = omega arith

least_parts : (l a n p : ℕ) → min (min (min a l + 2) l + max (min n l) (min p l)) l ≡ min (a + (2 + max n p)) l
least_parts l a n p = omega arith

least_block : (l a n : ℕ) → min (min (min a l + 2) l + max 0 (min n l)) l ≡ min (a + (2 + n)) l
least_block l a n = omega arith

least_call : (l a n : ℕ) → min (min (min a l + 1) l + min n l) l ≡ min (a + (1 + n)) l
least_call l a n = omega arith

capped_block : (a n z : ℕ) → z ≡ capped (0 + n) → joined (capped a) 0 z ≡ capped (a + (2 + n))
unfolding added
capped_block a n z e = ap (joined (capped a) 0) (e ∙ ap capped (omega arith)) ∙ least_block (MAX_STEPS + 1) a n

capped_side : (a n z : ℕ) → z ≡ capped (0 + n) → joined (capped a) 0 z ≡ capped (a + (2 + max n 0))
unfolding added
capped_side a n z e = ap (joined (capped a) 0) (e ∙ ap capped (omega arith)) ∙ least_part (MAX_STEPS + 1) a n

capped_sides : (a n p y z : ℕ) → y ≡ capped (0 + n) → z ≡ capped (0 + p) → joined (capped a) y z ≡ capped (a + (2 + max n p))
unfolding added
capped_sides a n p y z e h =
    ap (λ w. joined (capped a) w z) (e ∙ ap capped (omega arith)) ∙ ap (joined (capped a) (capped n)) (h ∙ ap capped (omega arith)) ∙ least_parts (MAX_STEPS + 1) a n p

capped_call : (a n z : ℕ) → z ≡ capped n → added (added (capped a) 1) z ≡ capped (a + (1 + n))
unfolding added
capped_call a n z e = ap (added (added (capped a) 1)) e ∙ least_call (MAX_STEPS + 1) a n

capped_end : (n : ℕ) → added (capped (0 + n)) 1 ≡ capped (n + 1)
unfolding added
capped_end n = omega arith

capped_sum : (a n p : ℕ) → capped ((a + n) + p) ≡ capped (a + (n + p))
capped_sum a n p = ap capped (omega arith)

-- ---- what is known of a number

module _ (imported : ℕ) (bounds : List (Option ℕ)) where
  called_by : (x : ℕ) (b : Bool) (n : ℕ) → nat_le imported x ≡ b → cond b (known_at bounds (x - imported)) None ≡ Some n → (x ≡ imported + (x - imported)) × (known_at bounds (x - imported) ≡ Some n)
  called_by x false n e h = cc
  called_by x true n e h = (let l = leb-true imported x e in omega (arith, l), h)

  called_is : (k n : ℕ) → known_at bounds k ≡ Some n → called imported bounds (imported + k) ≡ Some n
  called_is k n e =
      ap (λ b. cond b (known_at bounds ((imported + k) - imported)) None) (le-leb imported (imported + k) (omega arith))
      ∙ ap (known_at bounds) (omega arith) ∙ e

-- ---- what is summed is a bound

module _ (m : Module) (bounds : List (Option ℕ)) (right : IsRight m bounds) where
  abbrev known : ℕ → Option ℕ
  known = called (imported_funcs m) bounds

  record InstructionSum (i : Instruction) (a r : ℕ) : Type 0 where
    bound : ℕ
    bounded : InstructionBound m i bound
    is : r ≡ capped (a + bound)

  record SequenceSum (s : Sequence) (a r : ℕ) : Type 0 where
    bound : ℕ
    bounded : SequenceBound m s bound
    is : r ≡ capped (a + bound)

  single_right : (i : Instruction) (a r : ℕ) → IsTrue (is_single i) → Some (added (capped a) 1) ≡ Some r → InstructionSum i a r
  single_right i a r h e = record { bound = 1; bounded = single i h; is = sym (ap (λ o. elim o [ None ↦ r | Some x ↦ x ]) e) ∙ capped_one a 1 refl }

  call_right : (x a r : ℕ) → option_map (added (added (capped a) 1)) (known x) ≡ Some r → InstructionSum (tree.Call x) a r
  call_right x a r e =
      let p = mapped (added (added (capped a) 1)) (known x) r e in
      let k = x - imported_funcs m in
      let q = called_by (imported_funcs m) bounds x (nat_le (imported_funcs m) x) p.0 refl p.1 in
      let f = right.each k p.0 q.1 in
      record { bound = 1 + f.0; bounded = call x k f.0 q.0 f.1; is = p.2 ∙ capped_call a f.0 p.0 f.2 }

mutual
  instruction_right : (m : Module) (bounds : List (Option ℕ)) (right : IsRight m bounds) (i : Instruction) (a r : ℕ) → sum_with (known m bounds right) i (capped a) ≡ Some r → InstructionSum m bounds right i a r
  instruction_right m bounds right (tree.Plain op) a r e = single_right m bounds right (tree.Plain op) a r refl e
  instruction_right m bounds right (tree.Num op) a r e = single_right m bounds right (tree.Num op) a r refl e
  instruction_right m bounds right (tree.Const value) a r e = single_right m bounds right (tree.Const value) a r refl e
  instruction_right m bounds right (tree.LocalGet x) a r e = single_right m bounds right (tree.LocalGet x) a r refl e
  instruction_right m bounds right (tree.LocalSet x) a r e = single_right m bounds right (tree.LocalSet x) a r refl e
  instruction_right m bounds right (tree.LocalTee x) a r e = single_right m bounds right (tree.LocalTee x) a r refl e
  instruction_right m bounds right (tree.GlobalGet x) a r e = single_right m bounds right (tree.GlobalGet x) a r refl e
  instruction_right m bounds right (tree.GlobalSet x) a r e = single_right m bounds right (tree.GlobalSet x) a r refl e
  instruction_right m bounds right (tree.Load op align offset) a r e = single_right m bounds right (tree.Load op align offset) a r refl e
  instruction_right m bounds right (tree.Store op align offset) a r e = single_right m bounds right (tree.Store op align offset) a r refl e
  instruction_right m bounds right (tree.Block ty body) a r e =
      let p = mapped (joined (capped a) 0) (sum_over (known m bounds right) body 0) r e in
      let q = sequence_right m bounds right body 0 p.0 p.1 in
      record { bound = 2 + q.bound; bounded = block ty body q.bound q.bounded; is = p.2 ∙ capped_block a q.bound p.0 q.is }
  instruction_right m bounds right (tree.Loop ty body) a r e = cc
  instruction_right m bounds right (tree.If ty first) a r e =
      let p = mapped (joined (capped a) 0) (sum_over (known m bounds right) first 0) r e in
      let q = sequence_right m bounds right first 0 p.0 p.1 in
      record { bound = 2 + max q.bound 0; bounded = one_side ty first q.bound q.bounded; is = p.2 ∙ capped_side a q.bound p.0 q.is }
  instruction_right m bounds right (IfElse ty first second) a r e =
      let o = chained (λ n. option_map (joined (capped a) n) (sum_over (known m bounds right) second 0)) (sum_over (known m bounds right) first 0) r e in
      let p = mapped (joined (capped a) o.0) (sum_over (known m bounds right) second 0) r o.2 in
      let q = sequence_right m bounds right first 0 o.0 o.1 in
      let s = sequence_right m bounds right second 0 p.0 p.1 in
      record {
        bound = 2 + max q.bound s.bound;
        bounded = two_sides ty first second q.bound s.bound q.bounded s.bounded;
        is = p.2 ∙ capped_sides a q.bound s.bound o.0 p.0 q.is s.is;
      }
  instruction_right m bounds right (tree.Br l) a r e = single_right m bounds right (tree.Br l) a r refl e
  instruction_right m bounds right (tree.BrIf l) a r e = single_right m bounds right (tree.BrIf l) a r refl e
  instruction_right m bounds right (tree.BrTable ls l) a r e = single_right m bounds right (tree.BrTable ls l) a r refl e
  instruction_right m bounds right (tree.Call x) a r e = call_right m bounds right x a r e
  instruction_right m bounds right (tree.CallIndirect x) a r e = cc

  sequence_right : (m : Module) (bounds : List (Option ℕ)) (right : IsRight m bounds) (s : Sequence) (a r : ℕ) → sum_over (known m bounds right) s (capped a) ≡ Some r → SequenceSum m bounds right s a r
  sequence_right m bounds right Empty a r e =
      record { bound = 0; bounded = nothing; is = sym (ap (λ o. elim o [ None ↦ r | Some x ↦ x ]) e) ∙ ap capped (omega arith) }
  sequence_right m bounds right (Then i rest) a r e =
      let p = chained (λ n. sum_over (known m bounds right) rest n) (sum_with (known m bounds right) i (capped a)) r e in
      let q = instruction_right m bounds right i a p.0 p.1 in
      let s = sequence_right m bounds right rest (a + q.bound) r (ap (sum_over (known m bounds right) rest) (sym q.is) ∙ p.2) in
      record { bound = q.bound + s.bound; bounded = more i rest q.bound s.bound q.bounded s.bounded; is = s.is ∙ capped_sum a q.bound s.bound }

-- What the walk over a body gives is the function's bound.
pub body_right : (m : Module) (bounds : List (Option ℕ)) → IsRight m bounds → (k n : ℕ) (f : Func) → slice_get m.funcs k ≡ Some f → body_bound (called (imported_funcs m) bounds) f.body ≡ Some n → (b : ℕ) × FunctionBound m k b × (n ≡ capped b)
body_right m bounds right k n f at e =
    let p = mapped (λ x. added x 1) (sum_over (called (imported_funcs m) bounds) (sequence_of f.body) 0) n e in
    let q = sequence_right m bounds right (sequence_of f.body) 0 p.0 p.1 in
    (q.bound + 1, function k q.bound f at q.bounded, p.2 ∙ ap (λ x. added x 1) q.is ∙ capped_end q.bound)

-- ---- what has a bound is summed, where all functions are settled

single_sum : (known : ℕ → Option ℕ) (i : Instruction) (a : ℕ) → IsTrue (is_single i) → sum_with known i a ≡ Some (added a 1)
single_sum known (tree.Block ty body) a h = cc
single_sum known (tree.Loop ty body) a h = cc
single_sum known (tree.If ty first) a h = cc
single_sum known (IfElse ty first second) a h = cc
single_sum known (tree.Call x) a h = cc
single_sum known (tree.CallIndirect x) a h = cc
single_sum known _ a h = refl

settled_there : (m : Module) (bounds : List (Option ℕ)) (k : ℕ) (f : Func) (r : ℕ) (o : Option ℕ) → known_at bounds k ≡ o → slice_get m.funcs k ≡ Some f → IsSettled m bounds k → sum_over (called (imported_funcs m) bounds) (sequence_of f.body) 0 ≡ Some r → (n : ℕ) × (known_at bounds k ≡ Some n)
settled_there m bounds k f r (Some n) e at h s = (n, e)
settled_there m bounds k f r None e at h s =
    absurd (no (sym (h f at e) ∙ ap (option_map (λ x. added x 1)) s))
  where
    no : None ≡ Some (added r 1) → ⊥
    no q = cc

mutual
  instruction_there : {m : Module} {i : Instruction} {n : ℕ} → InstructionBound m i n → (bounds : List (Option ℕ)) → ((k : ℕ) → IsSettled m bounds k) → (a : ℕ) → (r : ℕ) × (sum_with (called (imported_funcs m) bounds) i a ≡ Some r)
  instruction_there {m = m} (single i h) bounds all a = (added a 1, single_sum (called (imported_funcs m) bounds) i a h)
  instruction_there {m = m} (call x k n e f) bounds all a =
      let p = function_there f bounds all in
      (added (added a 1) p.0, ap (option_map (added (added a 1))) (ap (called (imported_funcs m) bounds) e ∙ called_is (imported_funcs m) bounds k p.0 p.1))
  instruction_there (block ty body n x) bounds all a =
      let p = sequence_there x bounds all 0 in (joined a 0 p.0, ap (option_map (joined a 0)) p.1)
  instruction_there (one_side ty first n x) bounds all a =
      let p = sequence_there x bounds all 0 in (joined a 0 p.0, ap (option_map (joined a 0)) p.1)
  instruction_there {m = m} (two_sides ty first second n p x y) bounds all a =
      let q = sequence_there x bounds all 0 in
      let s = sequence_there y bounds all 0 in
      let known = called (imported_funcs m) bounds in
      (joined a q.0 s.0, ap (option_and_then (λ z. option_map (joined a z) (sum_over known second 0))) q.1 ∙ ap (option_map (joined a q.0)) s.1)

  sequence_there : {m : Module} {s : Sequence} {n : ℕ} → SequenceBound m s n → (bounds : List (Option ℕ)) → ((k : ℕ) → IsSettled m bounds k) → (a : ℕ) → (r : ℕ) × (sum_over (called (imported_funcs m) bounds) s a ≡ Some r)
  sequence_there nothing bounds all a = (a, refl)
  sequence_there {m = m} (more i rest n p x y) bounds all a =
      let q = instruction_there x bounds all a in
      let s = sequence_there y bounds all q.0 in
      (s.0, ap (option_and_then (λ z. sum_over (called (imported_funcs m) bounds) rest z)) q.1 ∙ s.1)

  function_there : {m : Module} {k n : ℕ} → FunctionBound m k n → (bounds : List (Option ℕ)) → ((j : ℕ) → IsSettled m bounds j) → (r : ℕ) × (known_at bounds k ≡ Some r)
  function_there {m = m} (function k n f at x) bounds all =
      let p = sequence_there x bounds all 0 in
      settled_there m bounds k f p.0 (known_at bounds k) refl at (all k) p.1

-- ---- what is told

told_by : (m : Module) (bounds : List (Option ℕ)) → IsRight m bounds → ((k : ℕ) → IsSettled m bounds k) → (k : ℕ) (o : Option ℕ) → known_at bounds k ≡ o → IsBoundOf m k (told_of o)
told_by m bounds right all k None e = λ n f. let p = function_there f bounds all in absurd (no p.0 (sym e ∙ p.1))
  where
    no : (n : ℕ) → None ≡ Some n → ⊥
    no n q = cc
told_by m bounds right all k (Some n) e = let p = right.each k n e in by_size p.0 p.1 p.2 (nat_le n MAX_STEPS) refl
  where
    by_size : (b : ℕ) → FunctionBound m k b → n ≡ capped b → (small : Bool) → nat_le n MAX_STEPS ≡ small → IsBoundOf m k (if small then Steps n else Over)
    by_size b f is true h =
        let l = leb-true n MAX_STEPS h in
        let same : b ≡ n = omega (arith, l, is) in
        (subst (FunctionBound m k) same f, l)
    by_size b f is false h = let l = leb-false n MAX_STEPS h in (b, f, omega (arith, l, is))

told_each : (m : Module) (bounds : List (Option ℕ)) → IsRight m bounds → ((k : ℕ) → IsSettled m bounds k) → (k : ℕ) (b : Bound) (o : Option (Option ℕ)) → slice_get bounds k ≡ o → option_map told_of o ≡ Some b → IsBoundOf m k b
told_each m bounds right all k b None e h = cc
told_each m bounds right all k b (Some o) e h =
    subst (IsBoundOf m k) (same_Some (told_of o) b h) (told_by m bounds right all k o (ap (option_and_then (λ bound. bound)) e))

pub told_right : (m : Module) (bounds : List (Option ℕ)) (told : List Bound) → IsRight m bounds → ((k : ℕ) → IsSettled m bounds k) → told ≡ map told_of bounds → AreBoundsOf m told
told_right m bounds told right all is =
    record {
      count = ap length is ∙ length-map bounds told_of ∙ right.count;
      each = λ k b at. told_each m bounds right all k b (slice_get bounds k) refl (sym (ap (λ l. slice_get l k) is ∙ slice_get-map told_of bounds k) ∙ at);
    }

-- ---- steps of the search

nothing_at : (count k n : ℕ) → known_at (replicate count None) k ≡ Some n → ⊥
nothing_at zero k n e = cc
nothing_at (suc count) zero n e = cc
nothing_at (suc count) (suc k) n e = nothing_at count k n e

pub nothing_known : (m : Module) (bounds : List (Option ℕ)) → bounds ≡ replicate (length m.funcs) None → IsRight m bounds
nothing_known m bounds is =
    record {
      count = ap length is ∙ length-replicate (length m.funcs) None;
      each = λ k n e. absurd (nothing_at (length m.funcs) k n (sym (ap (λ l. known_at l k) is) ∙ e));
    }

known_set : (bounds : List (Option ℕ)) (k j n z : ℕ) → known_at (slice_set bounds k (Some n)) j ≡ Some z → ((j ≡ k) × (z ≡ n)) ⊎ (known_at bounds j ≡ Some z)
known_set [] k j n z e = cc
known_set (x ∷ xs) zero zero n z e = inl (refl, cc)
known_set (x ∷ xs) zero (suc j) n z e = inr e
known_set (x ∷ xs) (suc k) zero n z e = inr e
known_set (x ∷ xs) (suc k) (suc j) n z e = next (known_set xs k j n z e)
  where
    next : ((j ≡ k) × (z ≡ n)) ⊎ (known_at xs j ≡ Some z) → ((suc j ≡ suc k) × (z ≡ n)) ⊎ (known_at xs j ≡ Some z)
    next (inl p) = inl (ap suc p.0, p.1)
    next (inr h) = inr h

pub set_right : (m : Module) (bounds : List (Option ℕ)) (k n b : ℕ) → IsRight m bounds → FunctionBound m k b → n ≡ capped b → IsRight m (slice_set bounds k (Some n))
set_right m bounds k n b right f is =
    record {
      count = length-set bounds k (Some n) ∙ right.count;
      each = λ j z e. by_place j z (known_set bounds k j n z e);
    }
  where
    by_place : (j z : ℕ) → ((j ≡ k) × (z ≡ n)) ⊎ (known_at bounds j ≡ Some z) → (c : ℕ) × FunctionBound m j c × (z ≡ capped c)
    by_place j z (inl p) = (b, subst (λ i. FunctionBound m i b) (sym p.0) f, p.1 ∙ is)
    by_place j z (inr h) = right.each j z h

none_at : (bounds : List (Option ℕ)) (k : ℕ) → known_at bounds k ≡ None → get_or bounds k None ≡ None
none_at [] k e = refl
none_at (x ∷ xs) zero e = e
none_at (x ∷ xs) (suc k) e = none_at xs k e

pub set_fewer : (bounds : List (Option ℕ)) (k n : ℕ) → k < length bounds → known_at bounds k ≡ None → missing (slice_set bounds k (Some n)) < missing bounds
set_fewer bounds k n there none =
    let count : Option ℕ → ℕ = λ o. cond (is_none o) 1 0 in
    let one : count (get_or bounds k None) ≡ 1 = ap count (none_at bounds k none) in
    let e = sum_by-set count bounds k (Some n) None there in
    omega (arith, one, e)

-- ---- tries

-- A function that is known is settled.
pub known_settled : (m : Module) (bounds : List (Option ℕ)) (k n : ℕ) → known_at bounds k ≡ Some n → IsSettled m bounds k
known_settled m bounds k n e f at none = absurd (no (sym none ∙ e))
  where
    no : None ≡ Some n → ⊥
    no q = cc

pub some_at : (bounds : List (Option ℕ)) (k : ℕ) (o : Option ℕ) → k < length bounds → o ≡ get_or bounds k o → known_at bounds k ≡ o
some_at [] k o less e = absurd (omega arith)
some_at (x ∷ xs) zero o less e = sym e
some_at (x ∷ xs) (suc k) o less e = some_at xs k o (omega arith) e

pub rounds_step : (found went : Bool) (m : Module) (first old new : List (Option ℕ)) (k : ℕ) → Rounds found m first old k → Settles went m old new k → Rounds (found || went) m first new (k + 1)
rounds_step true true m first old new k h s = omega (arith, h, s)
rounds_step true false m first old new k h s = subst (λ l. missing l < missing first) (sym s.0) h
rounds_step false true m first old new k h s = subst (λ l. missing new < missing l) h.0 s
rounds_step false false m first old new k h s =
    (s.0 ∙ h.0, λ j less. by_last j less (cases_lt j k))
  where
    by_last : (j : ℕ) → j < k + 1 → (j < k) ⊎ (k ≤ j) → IsSettled m first j
    by_last j less (inl l) = h.1 j l
    by_last j less (inr g) = let e : j ≡ k = omega arith in subst (IsSettled m first) (sym e) (subst (λ l. IsSettled m l k) h.0 s.1)

pub all_settled : (m : Module) (bounds : List (Option ℕ)) → IsRight m bounds → ((k : ℕ) → k < length bounds → IsSettled m bounds k) → (k : ℕ) → IsSettled m bounds k
all_settled m bounds right h k f at none = h k (let l = slice_get_within m.funcs k f at in omega (arith, l, right.count)) f at none

pub try_gives : (m : Module) (bounds : List (Option ℕ)) (imported k : ℕ) (f : Func) → imported ≡ imported_funcs m → IsRight m bounds → slice_get m.funcs k ≡ Some f → known_at bounds k ≡ None → (r : Option ℕ) → r ≡ body_bound (called imported bounds) f.body → MatchOption r (IsSettled m bounds k) (λ n. (known_at bounds k ≡ None) × ((b : ℕ) × FunctionBound m k b × (n ≡ capped b)))
try_gives m bounds imported k f same right at none None e =
    λ g there nothing. ap (λ (x : Func). body_bound (called (imported_funcs m) bounds) x.body) (same_Some g f (sym there ∙ at)) ∙ sym (e ∙ ap (λ i. body_bound (called i bounds) f.body) same)
try_gives m bounds imported k f same right at none (Some n) e =
    (none, body_right m bounds right k n f at (sym (e ∙ ap (λ i. body_bound (called i bounds) f.body) same)))

pub none_read : (bounds : List (Option ℕ)) (k : ℕ) → k < length bounds → get_or bounds k None ≡ None → known_at bounds k ≡ None
none_read bounds k less e = some_at bounds k None less (sym e)

pub try_right : (m : Module) (old at new : List (Option ℕ)) (k n : ℕ) (o : Option ℕ) → at ≡ old → o ≡ Some n → new ≡ slice_set old k (Some n) → IsRight m old → MatchOption o (IsSettled m at k) (λ n. (known_at at k ≡ None) × ((b : ℕ) × FunctionBound m k b × (n ≡ capped b))) → IsRight m new
try_right m old at new k n None same is set right h = cc
try_right m old at new k n (Some p) same is set right h =
    subst (IsRight m) (sym set) (set_right m old k n h.1.0 right h.1.1 (sym (same_Some p n is) ∙ h.1.2))

pub try_fewer : (m : Module) (old at new : List (Option ℕ)) (k n : ℕ) (o : Option ℕ) → at ≡ old → o ≡ Some n → new ≡ slice_set old k (Some n) → k < length old → MatchOption o (IsSettled m at k) (λ n. (known_at at k ≡ None) × ((b : ℕ) × FunctionBound m k b × (n ≡ capped b))) → missing new < missing old
try_fewer m old at new k n None same is set less h = cc
try_fewer m old at new k n (Some p) same is set less h =
    subst (λ l. missing l < missing old) (sym set) (set_fewer old k n less (ap (λ l. known_at l k) (sym same) ∙ h.0))
