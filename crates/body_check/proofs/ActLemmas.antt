-- What instructions do to operands.
use Rattle.std.proofs.Common.{◌≡◌, ℕ, ◌+◌, ◌-◌, ◌<◌, ◌≤◌, ◌^◌, zero, suc, Bool, true, false, nat_lt, nat_le, List, [], ◌∷◌, ◌++◌, length, slice_get, get_or, Option, Some, None, Result, Ok, Err, refl, sym, ap, ◌∙◌, subst, arith, ◌&&◌, IfOk}
use Rattle.std.proofs.lemmas.Grind.{pow_more}
use Rattle.std.specs.List.{All}
use Rattle.std.specs.Option.{is_some, unwrap_or}
use Rattle.std.proofs.lemmas.List.Sums.{AllPass-from_list_all, list_all-from_AllPass}
use Rattle.wasm_values.specs.declared.error.OutOfMemory.{OutOfMemory}
use Rattle.wasm_values.specs.declared.number.ValType.{ValType}
use Rattle.wasm_values.specs.declared.number.ValType.TheVariants.{I32, I64}
use Rattle.wasm_syntax.specs.declared.instr.Plain.{Plain}
use Rattle.wasm_syntax.specs.declared.instr.Plain.TheVariants as plain
use Rattle.wasm_syntax.specs.declared.instr.LoadOp.{LoadOp}
use Rattle.wasm_syntax.specs.declared.instr.StoreOp.{StoreOp}
use Rattle.wasm_syntax.specs.declared.instr.Instr as source
use Rattle.wasm_syntax.specs.declared.instr.Instr.{Instr}
use Rattle.wasm_syntax.specs.declared.module.GlobalType.{GlobalType}
use Rattle.wasm_syntax.specs.FlatForm.{is_simple}
use Rattle.wasm_syntax.specs.Trees.{instruction_of}
use Rattle.wasm_typing.specs.declared.fault.ValidWord.{ValidWord}
use Rattle.wasm_typing.specs.declared.fault.ValidWord.TheVariants as word
use Rattle.wasm_syntax.specs.Accesses.{bytes_loaded, bytes_stored, loaded_type, stored_type}
use Rattle.wasm_typing.specs.Typing.{Types, Context, Turns, PlainTyped, InstructionTyped}
use Rattle.wasm_typing.specs.faults.Faults.{Condition, condition, first_failing, conditions, plain_conditions, is_mutable, is_label_of, are_targets}
use Rattle.wasm_values.specs.Types.{is_same_type, are_same_types}
use Rattle.body_check.specs.words.Operands.{IsStuck, Goes, Took}
use Rattle.body_check.specs.words.Steps.{IsReady, Acts, word_of}

pub aligned_far : (a w : ℕ) → 3 < a → w ≤ 8 → nat_le a 3 ≡ nat_le (2 ^ a) w
aligned_far a w h small = let big = sixteen a h in grind (arith, h, small, big)
  where
    sixteen_more : (k : ℕ) → 16 ≤ 2 ^ (k + 4)
    sixteen_more zero = omega arith
    sixteen_more (suc k) =
        let more = sixteen_more k in
        let e : 2 ^ (suc k + 4) ≡ 2 ^ ((k + 4) + 1) = ap (λ n. 2 ^ n) (omega arith) in
        let d = pow_more 2 (k + 4) in
        omega (arith, more, e, d)

    sixteen : (a : ℕ) → 3 < a → 16 ≤ 2 ^ a
    sixteen a h = let P : ℕ → Type 0 = λ n. 16 ≤ 2 ^ n in subst P (omega (arith, h)) (sixteen_more (a - 4))

-- two relations are the same
abbrev pub Same : (R S : Types → Types → Type 0) → Type 0
Same R S = ((ins outs : Types) → R ins outs → S ins outs) × ((ins outs : Types) → S ins outs → R ins outs)

pub same_self : (R : Types → Types → Type 0) → Same R R
same_self R = (λ ins outs r. r, λ ins outs r. r)

pub goes_as : (w : Bool) (P Q : Types → Type 0) (R S : Types → Types → Type 0) → Same R S → Goes w P Q R → Goes w P Q S
goes_as true P Q R S same a =
    (λ outs q. let e = a.0 outs q in (e.0, e.1, same.0 e.0 outs e.2), λ ins outs p s. a.1 ins outs p (same.1 ins outs s))
goes_as false P Q R S same a = λ ins outs p s. a ins outs p (same.1 ins outs s)

acts_typed : (r : Result Bool OutOfMemory) (P Q : Types → Type 0) (R S : Types → Types → Type 0) → Same R S →
    IfOk r (λ w. Goes w P Q R) → IfOk r (λ w. Goes w P Q S)
acts_typed (Ok w) P Q R S same a = goes_as w P Q R S same a
acts_typed (Err e) P Q R S same a = tt

pub acts_as : (r : Result Bool OutOfMemory) (P Q : Types → Type 0) (R : Types → Types → Type 0) (c : Context) (labels : List Types) (i j : Instr) → i ≡ j →
    Same R (InstructionTyped c labels (instruction_of j)) → IfOk r (λ w. Goes w P Q R) → Acts r P Q c labels i
acts_as r P Q R c labels i j e same a =
    let M : Instr → Type 0 = λ k. Acts r P Q c labels k in
    subst M (sym e) (acts_typed r P Q R (InstructionTyped c labels (instruction_of j)) same a)

pub acts_never : (P Q : Types → Type 0) (c : Context) (labels : List Types) (i j : Instr) → i ≡ j →
    ((ins outs : Types) → InstructionTyped c labels (instruction_of j) ins outs → ⊥) → Acts (Ok false) P Q c labels i
acts_never P Q c labels i j e never =
    let M : Instr → Type 0 = λ k. Acts (Ok false) P Q c labels k in
    subst M (sym e) (λ ins outs p t. never ins outs t)

pub ready_along : (c : Context) (labels : List Types) (i j : Instr) → i ≡ j → IsReady c labels i → IsReady c labels j
ready_along c labels i j e h = let M : Instr → Type 0 = λ k. IsReady c labels k in subst M e h

some_is : {X : Type 0} (x y : X) → Some x ≡ Some y → x ≡ y
some_is x y e = cc

pub looked_up : {X : Type 0} (o : Option X) (x : X) (F : X → Types → Types → Type 0) → o ≡ Some x →
    Same (F x) (λ ins outs. (y : X) × (o ≡ Some y) × F y ins outs)
looked_up {X} o x F e = (
  λ ins outs r. (x, e, r),
  λ ins outs s. let M : X → Type 0 = λ y. F y ins outs in subst M (some_is s.0 x (sym s.1 ∙ e)) s.2,
)

pub looked_up_with : {X : Type 0} (o : Option X) (x : X) (G : X → Type 0) (F : X → Types → Types → Type 0) → o ≡ Some x → G x →
    Same (F x) (λ ins outs. (y : X) × (o ≡ Some y) × G y × F y ins outs)
looked_up_with {X} o x G F e g = (
  λ ins outs r. (x, e, g, r),
  λ ins outs s. let M : X → Type 0 = λ y. F y ins outs in subst M (some_is s.0 x (sym s.1 ∙ e)) s.3,
)

pub not_found : {X : Type 0} (o : Option X) → o ≡ None → (F : X → Type 0) → ((y : X) × (o ≡ Some y) × F y) → ⊥
not_found o e F h = absurd_none h.0 (sym e ∙ h.1)
  where
    absurd_none : {X : Type 0} (x : X) → None ≡ Some x → ⊥
    absurd_none x e = cc

pub guarded : (A : Type 0) (R : Types → Types → Type 0) → A → Same R (λ ins outs. A × R ins outs)
guarded A R a = (λ ins outs r. (a, r), λ ins outs s. s.1)

-- ---- what is ready

pub first_holds : (b : Bool) (w : ValidWord) (cs : List Condition) → first_failing (condition b w ∷ cs) ≡ None → b ≡ true
first_holds true w cs e = refl
first_holds false w cs e = cc

pub rest_holds : (b : Bool) (w : ValidWord) (cs : List Condition) → first_failing (condition b w ∷ cs) ≡ None → first_failing cs ≡ None
rest_holds true w cs e = e
rest_holds false w cs e = cc

pub both_hold : (b : Bool) (w : ValidWord) (cs : List Condition) → b ≡ true → first_failing cs ≡ None → first_failing (condition b w ∷ cs) ≡ None
both_hold true w cs e f = f
both_hold false w cs e f = cc

pub lt_from : (m n : ℕ) → nat_lt m n ≡ true → m < n
lt_from m n e = grind arith

pub lt_to : (m n : ℕ) → m < n → nat_lt m n ≡ true
lt_to m n h = grind arith

pub le_from : (m n : ℕ) → nat_le m n ≡ true → m ≤ n
le_from m n e = grind arith

pub le_to : (m n : ℕ) → m ≤ n → nat_le m n ≡ true
le_to m n h = grind arith

-- ---- ready exactly where typed

some_there : {X : Type 0} (o : Option X) (x : X) (w : ValidWord) → o ≡ Some x → first_failing (condition (is_some o) w ∷ []) ≡ None
some_there o x w e = ap (λ p. first_failing (condition (is_some p) w ∷ [])) e

pub same_type_to : (s t : ValType) → is_same_type s t ≡ true → s ≡ t
same_type_to I32 I32 e = refl
same_type_to I32 I64 e = cc
same_type_to I64 I32 e = cc
same_type_to I64 I64 e = refl

pub same_type_self : (t : ValType) → is_same_type t t ≡ true
same_type_self I32 = refl
same_type_self I64 = refl

and_first : (a b : Bool) → (a && b) ≡ true → a ≡ true
and_first true b e = refl
and_first false b e = cc

and_second : (a b : Bool) → (a && b) ≡ true → b ≡ true
and_second true b e = e
and_second false b e = cc

and_both : (a b : Bool) → a ≡ true → b ≡ true → (a && b) ≡ true
and_both true b e f = f
and_both false b e f = cc

same_types_to : (ss ts : Types) → are_same_types ss ts ≡ true → ss ≡ ts
same_types_to [] [] e = refl
same_types_to [] (t ∷ ts) e = cc
same_types_to (s ∷ ss) [] e = cc
same_types_to (s ∷ ss) (t ∷ ts) e =
    let a = same_type_to s t (and_first (is_same_type s t) (are_same_types ss ts) e) in
    let b = same_types_to ss ts (and_second (is_same_type s t) (are_same_types ss ts) e) in
    ap (λ x. x ∷ ss) a ∙ ap (λ xs. t ∷ xs) b

same_types_self : (ts : Types) → are_same_types ts ts ≡ true
same_types_self [] = refl
same_types_self (t ∷ ts) = and_both (is_same_type t t) (are_same_types ts ts) (same_type_self t) (same_types_self ts)

label_to : (o : Option Types) (ts : Types) → is_label_of o ts ≡ true → o ≡ Some ts
label_to None ts e = cc
label_to (Some us) ts e = ap Some (same_types_to us ts e)

label_from : (o : Option Types) (ts : Types) → o ≡ Some ts → is_label_of o ts ≡ true
label_from o ts e = ap (λ p. is_label_of p ts) e ∙ same_types_self ts

targets_to : (labels : List Types) (ls : List ℕ) (o : Option Types) (ts : Types) → o ≡ Some ts → are_targets labels ls o ≡ true →
    All (λ k. slice_get labels k ≡ Some ts) ls
targets_to labels ls o ts e h =
    let pass = AllPass-from_list_all (λ l. is_label_of (slice_get labels l) ts) ls (sym (ap (are_targets labels ls) e) ∙ h) in
    λ k d within. label_to (slice_get labels (get_or ls k d)) ts (pass k d within)

targets_from : (labels : List Types) (ls : List ℕ) (o : Option Types) (ts : Types) → o ≡ Some ts → All (λ k. slice_get labels k ≡ Some ts) ls →
    are_targets labels ls o ≡ true
targets_from labels ls o ts e h =
    ap (are_targets labels ls) e ∙
    list_all-from_AllPass (λ l. is_label_of (slice_get labels l) ts) ls (λ k d within. label_from (slice_get labels (get_or ls k d)) ts (h k d within))

plain_ready : (c : Context) (op : Plain) (ins outs : Types) → PlainTyped c op ins outs → first_failing (plain_conditions c op) ≡ None
plain_ready c plain.Unreachable ins outs t = refl
plain_ready c plain.Nop ins outs t = refl
plain_ready c plain.Return ins outs t = refl
plain_ready c plain.Drop ins outs t = refl
plain_ready c plain.Select ins outs t = refl
plain_ready c plain.MemorySize ins outs t = both_hold _ word.Index [] (lt_to 0 (length c.memories) t.0) refl
plain_ready c plain.MemoryGrow ins outs t = both_hold _ word.Index [] (lt_to 0 (length c.memories) t.0) refl

pub typed_ready : (c : Context) (labels : List Types) (i : Instr) (ins outs : Types) → is_simple i ≡ true →
    InstructionTyped c labels (instruction_of i) ins outs → IsReady c labels i
typed_ready c labels (source.Plain op) ins outs s t = plain_ready c op ins outs t
typed_ready c labels (source.Num op) ins outs s t = refl
typed_ready c labels (source.Const value) ins outs s t = refl
typed_ready c labels (source.LocalGet x) ins outs s t = some_there _ t.0 word.Index t.1
typed_ready c labels (source.LocalSet x) ins outs s t = some_there _ t.0 word.Index t.1
typed_ready c labels (source.LocalTee x) ins outs s t = some_there _ t.0 word.Index t.1
typed_ready c labels (source.GlobalGet x) ins outs s t = some_there _ t.0 word.Index t.1
typed_ready c labels (source.GlobalSet x) ins outs s t =
    both_hold (is_some (slice_get c.globals x)) word.Index (condition (is_mutable (slice_get c.globals x)) word.WrongType ∷ []) (ap is_some t.1) (both_hold _ word.WrongType [] (ap is_mutable t.1 ∙ t.2) refl)
typed_ready c labels (source.Load op align offset) ins outs s t =
    both_hold (nat_lt 0 (length c.memories)) word.Index (condition (nat_le (2 ^ align) (bytes_loaded op)) word.Align ∷ []) (lt_to 0 (length c.memories) t.0) (both_hold _ word.Align [] (le_to _ _ t.1) refl)
typed_ready c labels (source.Store op align offset) ins outs s t =
    both_hold (nat_lt 0 (length c.memories)) word.Index (condition (nat_le (2 ^ align) (bytes_stored op)) word.Align ∷ []) (lt_to 0 (length c.memories) t.0) (both_hold _ word.Align [] (le_to _ _ t.1) refl)
typed_ready c labels (source.Block' ty n body) ins outs s t = cc
typed_ready c labels (source.Loop' ty n body) ins outs s t = cc
typed_ready c labels (source.If' ty n first other) ins outs s t = cc
typed_ready c labels (source.Br l) ins outs s t = some_there _ t.0 word.Label t.1
typed_ready c labels (source.BrIf l) ins outs s t = some_there _ t.0 word.Label t.1
typed_ready c labels (source.BrTable ls l) ins outs s t = both_hold _ word.Label [] (targets_from labels ls (slice_get labels l) t.0 t.1 t.2) refl
typed_ready c labels (source.Call f) ins outs s t = some_there _ t.0 word.Index t.1
typed_ready c labels (source.CallIndirect n) ins outs s t =
    both_hold _ word.Index [] (and_both _ _ (lt_to 0 (length c.tables) t.0) (ap is_some t.1.1)) refl

pub set_mutable : (c : Context) (labels : List Types) (x : ℕ) (g : GlobalType) → IsReady c labels (source.GlobalSet x) → slice_get c.globals x ≡ Some g → g.mutable ≡ true
set_mutable c labels x g h e = sym (ap is_mutable e) ∙ first_holds _ word.WrongType [] (rest_holds (is_some (slice_get c.globals x)) word.Index (condition (is_mutable (slice_get c.globals x)) word.WrongType ∷ []) h)

pub same_then : (R S T : Types → Types → Type 0) → Same R S → Same S T → Same R T
same_then R S T f g = (λ ins outs r. g.0 ins outs (f.0 ins outs r), λ ins outs t. f.1 ins outs (g.1 ins outs t))

pub same_turns : (us us' vs vs' : Types) → us ≡ us' → vs ≡ vs' → Same (Turns us vs) (Turns us' vs')
same_turns us us' vs vs' e f =
    let M : Types → Type 0 = λ xs. Same (Turns us vs) (Turns xs vs) in
    let N : Types → Type 0 = λ ys. Same (Turns us vs) (Turns us' ys) in
    subst N f (subst M e (same_self (Turns us vs)))

goes_over : (w : Bool) (P Q N : Types → Type 0) (us vs : Types) → Took true P Q (I32 ∷ []) → Goes w Q N (Turns us vs) → Goes w P N (Turns (I32 ∷ us) vs)
goes_over true P Q N us vs took a = (
  λ outs n. let e = a.0 outs n in (I32 ∷ e.0, (took e.0).1 e.1, (e.2.0, ap (λ xs. I32 ∷ xs) e.2.1, e.2.2)),
  λ ins outs p t. a.1 (us ++ t.0) outs ((took (us ++ t.0)).0 (subst P t.1 p)) (t.0, refl, t.2),
)
goes_over false P Q N us vs took a = λ ins outs p t. a (us ++ t.0) outs ((took (us ++ t.0)).0 (subst P t.1 p)) (t.0, refl, t.2)

pub turned_over : (r : Result Bool OutOfMemory) (P Q N : Types → Type 0) (us vs : Types) → Took true P Q (I32 ∷ []) →
    IfOk r (λ w. Goes w Q N (Turns us vs)) → IfOk r (λ w. Goes w P N (Turns (I32 ∷ us) vs))
turned_over (Ok w) P Q N us vs took a = goes_over w P Q N us vs took a
turned_over (Err e) P Q N us vs took a = tt

pub targets_there : (c : Context) (labels : List Types) (ls : List ℕ) (l : ℕ) (ts : Types) → IsReady c labels (source.BrTable ls l) → slice_get labels l ≡ Some ts →
    All (λ k. slice_get labels k ≡ Some ts) ls
targets_there c labels ls l ts h e = targets_to labels ls (slice_get labels l) ts e (first_holds _ word.Label [] h)

pub table_there : (c : Context) (labels : List Types) (t : ℕ) → IsReady c labels (source.CallIndirect t) → 0 < length c.tables
table_there c labels t h = lt_from 0 (length c.tables) (and_first (nat_lt 0 (length c.tables)) (is_some (slice_get c.types t)) (first_holds _ word.Index [] h))

pub access_there : (b a : Bool) (w v : ValidWord) → first_failing (condition b w ∷ condition a v ∷ []) ≡ None → (b ≡ true) × (a ≡ true)
access_there b a w v h = (first_holds b w (condition a v ∷ []) h, first_holds a v [] (rest_holds b w (condition a v ∷ []) h))

pub same_load : (c : Context) (labels : List Types) (op : LoadOp) (align offset : ℕ) (t : ValType) → t ≡ loaded_type op → IsReady c labels (source.Load op align offset) →
    Same (Turns (I32 ∷ []) (t ∷ [])) (InstructionTyped c labels (instruction_of (source.Load op align offset)))
same_load c labels op align offset t e h =
    let (a, b) = access_there (nat_lt 0 (length c.memories)) (nat_le (2 ^ align) (bytes_loaded op)) word.Index word.Align h in (
      λ ins outs r. (lt_from 0 (length c.memories) a, le_from (2 ^ align) (bytes_loaded op) b, (same_turns (I32 ∷ []) (I32 ∷ []) (t ∷ []) (loaded_type op ∷ []) refl (ap (λ u. u ∷ []) e)).0 ins outs r),
      λ ins outs s. (same_turns (I32 ∷ []) (I32 ∷ []) (t ∷ []) (loaded_type op ∷ []) refl (ap (λ u. u ∷ []) e)).1 ins outs s.2,
    )

pub same_store : (c : Context) (labels : List Types) (op : StoreOp) (align offset : ℕ) (t : ValType) → t ≡ stored_type op → IsReady c labels (source.Store op align offset) →
    Same (Turns (t ∷ I32 ∷ []) []) (InstructionTyped c labels (instruction_of (source.Store op align offset)))
same_store c labels op align offset t e h =
    let (a, b) = access_there (nat_lt 0 (length c.memories)) (nat_le (2 ^ align) (bytes_stored op)) word.Index word.Align h in (
      λ ins outs r. (lt_from 0 (length c.memories) a, le_from (2 ^ align) (bytes_stored op) b, (same_turns (t ∷ I32 ∷ []) (stored_type op ∷ I32 ∷ []) [] [] (ap (λ u. u ∷ I32 ∷ []) e) refl).0 ins outs r),
      λ ins outs s. (same_turns (t ∷ I32 ∷ []) (stored_type op ∷ I32 ∷ []) [] [] (ap (λ u. u ∷ I32 ∷ []) e) refl).1 ins outs s.2,
    )

pub need_stuck : (P : Types → Type 0) (c : Context) (labels : List Types) (i : Instr) (w : ValidWord) → is_simple i ≡ true → first_failing (conditions c labels i) ≡ Some w →
    IsStuck P (InstructionTyped c labels (instruction_of i)) × (w ≡ word_of (conditions c labels i))
need_stuck P c labels i w s e = (
  λ ins outs p t. never w (sym (typed_ready c labels i ins outs s t) ∙ e),
  ap (λ o. unwrap_or o word.Stack) (sym e),
)
  where
    never : (w : ValidWord) → None ≡ Some w → ⊥
    never w e = cc
