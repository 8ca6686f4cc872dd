-- What an instruction did, by pieces of its definition.
use Rattle.std.proofs.Common.{◌≡◌, ◌≢◌, ℕ, ◌+◌, Bool, true, MatchOption, List, [], ◌∷◌, Some, map, reverse, drop, slice_get, unwrap_or, refl, sym, ap, ◌∙◌, subst, arith}
use Rattle.wasm_values.specs.declared.number.Val.{Val}
use Rattle.wasm_values.specs.declared.number.Val.TheVariants.{I32}
use Rattle.wasm_syntax.specs.declared.module.FuncType.{FuncType}
use Rattle.wasm_syntax.specs.declared.instr.Instr.{Instr}
use Rattle.wasm_syntax.specs.Trees.{Sequence, instruction_of}
use Rattle.wasm_syntax.specs.Places.{rest_at, OneAt}
use Rattle.wasm_store.specs.declared.store.FuncInst.{FuncInst}
use Rattle.wasm_store.specs.declared.store.TableInst.{TableInst}
use Rattle.wasm_store.specs.declared.store.Instance.{Instance}
use Rattle.wasm_store.specs.declared.config.CodeFrame.{CodeFrame}
use Rattle.wasm_store.specs.declared.config.Label.{Label}
use Rattle.wasm_store.specs.declared.store.Store.{Store}
use Rattle.wasm_store.specs.Configuration.{Activation, Layer, Configuration, with_operands, instance_of, going}
use Rattle.wasm_store.specs.Control.{Closes, Branches, BrIfStep, BrTableStep, CallIndirectStep, CallsEntry, CallsInst, entry_at, type_of_inst, is_same_func_type, EntersInst, Enters}
use Rattle.wasm_store.specs.Seen.{body_of, seen_code, seen_label}
use Rattle.wasm_store.specs.Step.{Moves}
use Rattle.wasm_reduce.specs.declared.effect.Effect.{Effect}
use Rattle.wasm_reduce.specs.declared.effect.Effect.TheVariants.{Went, Trap, Leave, Enter}
use Rattle.wasm_reduce.specs.declared.policy.Policy.{Policy}
use Rattle.wasm_reduce.specs.words.Effects.{Outcomes, Can, CameOf, Does, body_in, seen_in, under, moved_to, grows_in, moves_of}
use Rattle.wasm_reduce.proofs.Jumps.{take_it, taken_by, to_any_rest, of_any_rest}

-- What came of one thing came of another that it makes possible.
pub acts_map : (R Q : Outcomes) (s : Store) (f : CodeFrame) (s' : Store) (f' : CodeFrame) (e : Effect) → ((below : List Layer) (d : Configuration) → R below d → Q below d) → CameOf R s f s' f' e → CameOf Q s f s' f' e
acts_map R Q s f s' f' Went m h = λ below. m below _ (h below)
acts_map R Q s f s' f' Trap m h = (h.0, λ below. m below _ (h.1 below))
acts_map R Q s f s' f' (Leave above) m h = (h.0, h.1, h.2, h.3, λ below d x. m below d (h.4 below d x))
acts_map R Q s f s' f' (Enter func above on) m h = (h.0, h.1, h.2, h.3, λ below d x. m below d (h.4 below d x))

-- What came of the instruction that stands at a frame's position came of what comes next there.
pub by_one : (P : Outcomes → Type 0) (policy : Policy) (s : Store) (f : CodeFrame) (i : Instr) → OneAt (body_in s f) f.position i → P (Does (grows_in policy s (seen_in s f)) (instruction_of i) s f (f.position + 1)) → P (moves_of policy s f)
by_one P policy s f i one h =
    subst (λ (rest : Sequence). P (λ below d. Moves (grows_in policy s (seen_in s f)) s (seen_in s f) below d rest)) (sym one.rest) h

seen_same : (s : Store) (f g : CodeFrame) → g.func ≡ f.func → seen_in s g ≡ seen_code (body_in s f) g
seen_same s f g e = ap (λ n. seen_code (body_of s.funcs s.instances n) g) e

-- What the end of code did, by the frame's open blocks.
pub closes : (s : Store) (f g : CodeFrame) (result : Effect) (xs : List Label) → Can (λ below d. Closes s (seen_in s f) below d (map (seen_label (body_in s f)) xs)) → reverse f.labels ≡ xs → MatchOption (slice_get xs 0) ((result ≡ Leave 0) × (g ≡ f)) (λ l. (result ≡ Went) × (g.func ≡ f.func) × ((code : List Instr) → seen_code code g ≡ record (seen_code code f) { labels = drop 1 (seen_code code f).labels; rest = rest_at code l.after })) → CameOf (λ below d. Closes s (seen_in s f) below d (map (seen_label (body_in s f)) xs)) s f s g result
closes s f g result [] can e h =
    subst (λ (r : Effect). CameOf (λ below d. Closes s (seen_in s f) below d []) s f s g r) (sym h.0) (refl, h.1, omega arith, can, λ below d x. x)
closes s f g result (l ∷ ls) can e h =
    let code = body_in s f in
    subst (λ (r : Effect). CameOf (λ below d. Closes s (seen_in s f) below d (map (seen_label (body_in s f)) (l ∷ ls))) s f s g r) (sym h.0) (λ below.
    ap (λ a. going s a below) (
    seen_same s f g h.1
    ∙ h.2 code
    ∙ ap (λ (bs : List Label). record (seen_code code f) { labels = drop 1 (map (seen_label code) bs); rest = rest_at code l.after }) e
    ))

-- ---- branches over operands

module _ (s : Store) (f : CodeFrame) (on k n : ℕ) (rest : List Val) (below : List Layer) (d : Configuration) where
  pub of_br : Branches s (moved_to s f on) below d (moved_to s f on).labels k → Branches s (under (seen_in s f) 0) below d (seen_in s f).labels k
  of_br h = of_any_rest s (seen_in s f) (moved_to s f on).rest below d (seen_in s f).labels k h

  pub to_br : Branches s (under (seen_in s f) 0) below d (seen_in s f).labels k → Branches s (moved_to s f on) below d (moved_to s f on).labels k
  to_br h = to_any_rest s (seen_in s f) (moved_to s f on).rest below d (seen_in s f).labels k h

  -- A branch at the operands below the topmost, at any rest.
  of_popped : (j : ℕ) → (seen_in s f).operands ≡ I32 n ∷ rest → Branches s (with_operands (moved_to s f on) rest) below d (seen_in s f).labels j → Branches s (under (seen_in s f) 1) below d (seen_in s f).labels j
  of_popped j top h =
      let here : Branches s (with_operands (seen_in s f) rest) below d (seen_in s f).labels j =
      of_any_rest s (with_operands (seen_in s f) rest) (moved_to s f on).rest below d (seen_in s f).labels j h
      in
      subst (λ (ops : List Val). Branches s (with_operands (seen_in s f) (drop 1 ops)) below d (seen_in s f).labels j) (sym top) here

  to_popped : (j : ℕ) → (seen_in s f).operands ≡ I32 n ∷ rest → Branches s (under (seen_in s f) 1) below d (seen_in s f).labels j → Branches s (with_operands (moved_to s f on) rest) below d (seen_in s f).labels j
  to_popped j top h =
      let here : Branches s (with_operands (seen_in s f) rest) below d (seen_in s f).labels j =
      subst (λ (ops : List Val). Branches s (with_operands (seen_in s f) (drop 1 ops)) below d (seen_in s f).labels j) top h
      in
      to_any_rest s (with_operands (seen_in s f) rest) (moved_to s f on).rest below d (seen_in s f).labels j here

  pub of_br_if : n ≢ 0 → (seen_in s f).operands ≡ I32 n ∷ rest → BrIfStep s (moved_to s f on) below d k → Branches s (under (seen_in s f) 1) below d (seen_in s f).labels k
  of_br_if ne top h =
      of_popped k top (taken_by s (moved_to s f on) below d k (seen_in s f).operands rest n ne top h.0 h.1 h.2 h.3)

  pub to_br_if : n ≢ 0 → (seen_in s f).operands ≡ I32 n ∷ rest → Branches s (under (seen_in s f) 1) below d (seen_in s f).labels k → BrIfStep s (moved_to s f on) below d k
  to_br_if ne top h =
      (n, rest, top, take_it s (with_operands (moved_to s f on) rest) below d k n ne (to_popped k top h))

  pub of_br_table : (ks : List ℕ) (last : ℕ) → k ≡ unwrap_or (slice_get ks n) last → (seen_in s f).operands ≡ I32 n ∷ rest → BrTableStep s (moved_to s f on) below d ks last → Branches s (under (seen_in s f) 1) below d (seen_in s f).labels k
  of_br_table ks last is top h =
      let c : h.0 ≡ n = cc (h.2, top) in
      let ops : h.1 ≡ rest = cc (h.2, top) in
      let goes : Branches s (with_operands (moved_to s f on) rest) below d (seen_in s f).labels (unwrap_or (slice_get ks n) last) =
      subst (λ (x : ℕ). Branches s (with_operands (moved_to s f on) rest) below d (seen_in s f).labels (unwrap_or (slice_get ks x) last)) c (
      subst (λ (o : List Val). Branches s (with_operands (moved_to s f on) o) below d (seen_in s f).labels (unwrap_or (slice_get ks h.0) last)) ops h.3
      )
      in
      of_popped k top (subst (λ (j : ℕ). Branches s (with_operands (moved_to s f on) rest) below d (seen_in s f).labels j) (sym is) goes)

  pub to_br_table : (ks : List ℕ) (last : ℕ) → k ≡ unwrap_or (slice_get ks n) last → (seen_in s f).operands ≡ I32 n ∷ rest → Branches s (under (seen_in s f) 1) below d (seen_in s f).labels k → BrTableStep s (moved_to s f on) below d ks last
  to_br_table ks last is top h =
      (n, rest, top, subst (λ (j : ℕ). Branches s (with_operands (moved_to s f on) rest) below d (seen_in s f).labels j) is (to_popped k top h))

-- ---- indirect calls

module _ (s : Store) (f : Activation) (x : ℕ) (i : Instance) (wanted : FuncType) (j : Instance) (a : ℕ) (table : TableInst) (c : ℕ) (rest : List Val) (i_is : instance_of s f ≡ Some i) (wanted_is : slice_get i.types x ≡ Some wanted) (j_is : instance_of s f ≡ Some j) (a_is : slice_get j.tables 0 ≡ Some a) (table_is : slice_get s.tables a ≡ Some table) (top : f.operands ≡ I32 c ∷ rest) (below : List Layer) (d : Configuration) where
  pub of_indirect : CallIndirectStep s f below d x → CallsEntry s (with_operands f rest) below d wanted (entry_at table c)
  of_indirect h =
      let same_i : h.0 ≡ i = cc (h.6, i_is) in
      let same_j : h.0 ≡ j = cc (h.6, j_is) in
      let same_wanted : h.1 ≡ wanted = cc (ap (λ (k : Instance). slice_get k.types x) same_i, h.7, wanted_is) in
      let same_a : h.2 ≡ a = cc (ap (λ (k : Instance). slice_get k.tables 0) same_j, h.8, a_is) in
      let same_table : h.3 ≡ table = cc (ap (slice_get s.tables) same_a, h.9, table_is) in
      let same_c : h.4 ≡ c = cc (h.10, top) in
      let same_rest : h.5 ≡ rest = cc (h.10, top) in
      subst (λ (o : List Val). CallsEntry s (with_operands f o) below d wanted (entry_at table c)) same_rest (
      subst (λ (n : ℕ). CallsEntry s (with_operands f h.5) below d wanted (entry_at table n)) same_c (
      subst (λ (t : TableInst). CallsEntry s (with_operands f h.5) below d wanted (entry_at t h.4)) same_table (
      subst (λ (w : FuncType). CallsEntry s (with_operands f h.5) below d w (entry_at h.3 h.4)) same_wanted h.11
      )
      )
      )

  pub to_indirect : CallsEntry s (with_operands f rest) below d wanted (entry_at table c) → CallIndirectStep s f below d x
  to_indirect h =
      let same : j ≡ i = cc (i_is, j_is) in
      let a_there : slice_get i.tables 0 ≡ Some a = subst (λ (k : Instance). slice_get k.tables 0 ≡ Some a) same a_is in
      (i, wanted, a, table, c, rest, i_is, wanted_is, a_there, table_is, top, h)

pub enters_found : (s : Store) (f : Activation) (below : List Layer) (d : Configuration) (a : ℕ) (inst found : FuncInst) (wanted : FuncType) → slice_get s.funcs a ≡ Some inst → is_same_func_type (type_of_inst inst) wanted ≡ true → slice_get s.funcs a ≡ Some found → CallsInst s f below d a found (is_same_func_type (type_of_inst found) wanted) → Enters s f below d a
enters_found s f below d a inst found wanted there same found_there h =
    let is : found ≡ inst = cc (there, found_there) in
    let goes : CallsInst s f below d a inst (is_same_func_type (type_of_inst inst) wanted) =
    subst (λ (x : FuncInst). CallsInst s f below d a x (is_same_func_type (type_of_inst x) wanted)) is h
    in
    (inst, there, subst (λ (b : Bool). CallsInst s f below d a inst b) same goes)

pub calls_by_type : (s : Store) (f : Activation) (below : List Layer) (d : Configuration) (a : ℕ) (inst : FuncInst) (wanted : FuncType) → slice_get s.funcs a ≡ Some inst → is_same_func_type (type_of_inst inst) wanted ≡ true → Enters s f below d a → CallsEntry s f below d wanted (Some a)
calls_by_type s f below d a inst wanted there same h =
    let is : h.0 ≡ inst = cc (there, h.1) in
    let goes : EntersInst s f below d a inst = subst (λ (x : FuncInst). EntersInst s f below d a x) is h.2 in
    (inst, there, subst (λ (b : Bool). CallsInst s f below d a inst b) (sym same) goes)
