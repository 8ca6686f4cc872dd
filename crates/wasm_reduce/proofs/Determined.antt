-- A step at a given choice is determined.
use Rattle.std.proofs.Common.{◌≡◌, ℕ, zero, suc, ◌+◌, ◌==◌, if◌then◌else◌, Bool, true, false, MatchBool, List, [], ◌∷◌, Option, Some, None, option_map, unwrap_or, slice_get, take, length, sym, ap, ◌∙◌, subst}
use Rattle.wasm_values.specs.declared.number.NumOp.{NumOp}
use Rattle.wasm_values.specs.declared.number.Val.{Val}
use Rattle.wasm_values.specs.declared.number.Val.TheVariants.{I32}
use Rattle.wasm_values.specs.declared.number.ValType.{ValType}
use Rattle.wasm_values.specs.Operators.{number_of, value_of, num_operands, num_unary, num_binary, operand_type, result_type}
use Rattle.wasm_syntax.specs.declared.instr.LoadOp.{LoadOp}
use Rattle.wasm_syntax.specs.declared.instr.StoreOp.{StoreOp}
use Rattle.wasm_syntax.specs.declared.instr.Plain.{Plain}
use Rattle.wasm_syntax.specs.declared.instr.Plain.TheVariants.{Unreachable, Nop, Return, Drop, Select, MemorySize, MemoryGrow}
use Rattle.wasm_syntax.specs.declared.module.Func.{Func}
use Rattle.wasm_syntax.specs.declared.module.FuncType.{FuncType}
use Rattle.wasm_syntax.specs.Trees as tree
use Rattle.wasm_syntax.specs.Trees.{Instruction, Sequence, Empty, Then, IfElse}
use Rattle.wasm_store.specs.declared.store.FuncInst.{FuncInst}
use Rattle.wasm_store.specs.declared.store.FuncInst.TheVariants.{Code, Host}
use Rattle.wasm_store.specs.declared.store.GlobalInst.{GlobalInst}
use Rattle.wasm_store.specs.declared.store.Instance.{Instance}
use Rattle.wasm_store.specs.declared.store.TableInst.{TableInst}
use Rattle.wasm_store.specs.declared.store.Store.{Store}
use Rattle.wasm_store.specs.Configuration.{OpenBlock, Activation, Layer, OfCode, OfHost, Configuration, going, with_operands, pushed}
use Rattle.wasm_store.specs.Numeric.{computed, NumOneStep, NumTwoStep, DropStep, SelectStep, LocalGetStep, LocalSetStep, LocalTeeStep, GlobalGetStep, GlobalSetStep, with_local, with_global}
use Rattle.wasm_syntax.specs.Accesses.{stored_type}
use Rattle.wasm_store.specs.Memory.{pages_of, loaded, stored, grown, LoadStep, StoreStep, SizeStep, GrowStep}
use Rattle.wasm_store.specs.Control.{type_of_inst, given_to, Leaves, count_of, opened, chosen, IfStep, Closes, Branches, BranchesIf, BrIfStep, BrTableStep, entered, arguments, without_arguments, EntersInst, Enters, CallStep, CallsInst, CallsEntry, entry_at, is_same_func_type, CallIndirectStep}
use Rattle.wasm_store.specs.Step.{PlainStep, InstructionStep, Moves, TopMoves, StepBy}
use Rattle.wasm_reduce.proofs.Numbers.{number_of-value_of}

same_number : (t : ValType) (a b : ℕ) → value_of t a ≡ value_of t b → a ≡ b
same_number t a b h = sym (number_of-value_of t a) ∙ ap number_of h ∙ number_of-value_of t b

module _ (s : Store) (below : List Layer) (d e : Configuration) where
  module _ (f : Activation) where
    num_one : (op : NumOp) → NumOneStep s f below d op → NumOneStep s f below e op → d ≡ e
    num_one op h k =
        let top : value_of (operand_type op) h.0 ≡ value_of (operand_type op) k.0 = cc (h.2, k.2) in
        let a : h.0 ≡ k.0 = same_number (operand_type op) h.0 k.0 top in
        let r : h.1 ≡ k.1 = cc (h.2, k.2) in
        h.3
        ∙ ap (λ n. going s (with_operands f (value_of (result_type op) (num_unary op n) ∷ h.1)) below) a
        ∙ ap (λ l. going s (with_operands f (value_of (result_type op) (num_unary op k.0) ∷ l)) below) r ∙ sym k.3

    num_two : (op : NumOp) → NumTwoStep s f below d op → NumTwoStep s f below e op → d ≡ e
    num_two op h k =
        let t = operand_type op in
        let second : value_of t h.1 ≡ value_of t k.1 = cc (h.3, k.3) in
        let first : value_of t h.0 ≡ value_of t k.0 = cc (h.3, k.3) in
        let a : h.0 ≡ k.0 = same_number t h.0 k.0 first in
        let b : h.1 ≡ k.1 = same_number t h.1 k.1 second in
        let r : h.2 ≡ k.2 = cc (h.3, k.3) in
        h.4
        ∙ ap (λ n. computed s f below h.2 (option_map (value_of (result_type op)) (num_binary op n h.1))) a
        ∙ ap (λ n. computed s f below h.2 (option_map (value_of (result_type op)) (num_binary op k.0 n))) b
        ∙ ap (λ l. computed s f below l (option_map (value_of (result_type op)) (num_binary op k.0 k.1))) r ∙ sym k.4

    nums : (op : NumOp) (b : Bool) → MatchBool b (NumOneStep s f below d op) (NumTwoStep s f below d op) → MatchBool b (NumOneStep s f below e op) (NumTwoStep s f below e op) → d ≡ e
    nums op true h k = num_one op h k
    nums op false h k = num_two op h k

    drops : DropStep s f below d → DropStep s f below e → d ≡ e
    drops h k =
        let r : h.1 ≡ k.1 = cc (h.2, k.2) in
        h.3 ∙ ap (λ l. going s (with_operands f l) below) r ∙ sym k.3

    selects : SelectStep s f below d → SelectStep s f below e → d ≡ e
    selects h k =
        let c : h.0 ≡ k.0 = cc (h.4, k.4) in
        let first : h.1 ≡ k.1 = cc (h.4, k.4) in
        let second : h.2 ≡ k.2 = cc (h.4, k.4) in
        let r : h.3 ≡ k.3 = cc (h.4, k.4) in
        h.5
        ∙ ap (λ n. going s (with_operands f ((if n == 0 then h.2 else h.1) ∷ h.3)) below) c
        ∙ ap (λ v. going s (with_operands f ((if k.0 == 0 then h.2 else v) ∷ h.3)) below) first
        ∙ ap (λ v. going s (with_operands f ((if k.0 == 0 then v else k.1) ∷ h.3)) below) second
        ∙ ap (λ l. going s (with_operands f ((if k.0 == 0 then k.2 else k.1) ∷ l)) below) r ∙ sym k.5

    local_gets : (x : ℕ) → LocalGetStep s f below d x → LocalGetStep s f below e x → d ≡ e
    local_gets x h k =
        let v : h.0 ≡ k.0 = cc (h.1, k.1) in
        h.2 ∙ ap (λ v. going s (pushed f v) below) v ∙ sym k.2

    local_sets : (x : ℕ) → LocalSetStep s f below d x → LocalSetStep s f below e x → d ≡ e
    local_sets x h k =
        let v : h.0 ≡ k.0 = cc (h.2, k.2) in
        let r : h.1 ≡ k.1 = cc (h.2, k.2) in
        h.4 ∙ ap (λ v. going s (with_operands (with_local f x v) h.1) below) v ∙ ap (λ l. going s (with_operands (with_local f x k.0) l) below) r ∙ sym k.4

    local_tees : (x : ℕ) → LocalTeeStep s f below d x → LocalTeeStep s f below e x → d ≡ e
    local_tees x h k =
        let v : h.0 ≡ k.0 = cc (h.2, k.2) in
        h.4 ∙ ap (λ v. going s (with_local f x v) below) v ∙ sym k.4

    same_at : {A : Type 0} → (items : List A) (o : Option ℕ) (a b : ℕ) (x y : A) → o ≡ Some a → o ≡ Some b → slice_get items a ≡ Some x → slice_get items b ≡ Some y → x ≡ y
    same_at items o a b x y p q u v =
        let same : a ≡ b = cc (p, q) in
        let there : slice_get items b ≡ Some x = subst (λ n. slice_get items n ≡ Some x) same u in
        cc (there, v)

    global_gets : (x : ℕ) → GlobalGetStep s f below d x → GlobalGetStep s f below e x → d ≡ e
    global_gets x h k =
        let g : h.1 ≡ k.1 = same_at s.globals _ h.0 k.0 h.1 k.1 h.2 k.2 h.3 k.3 in
        h.4 ∙ ap (λ (g : GlobalInst). going s (pushed f g.value) below) g ∙ sym k.4

    global_sets : (x : ℕ) → GlobalSetStep s f below d x → GlobalSetStep s f below e x → d ≡ e
    global_sets x h k =
        let a : h.0 ≡ k.0 = cc (h.4, k.4) in
        let g : h.1 ≡ k.1 = same_at s.globals _ h.0 k.0 h.1 k.1 h.4 k.4 h.5 k.5 in
        let v : h.2 ≡ k.2 = cc (h.6, k.6) in
        let r : h.3 ≡ k.3 = cc (h.6, k.6) in
        h.7
        ∙ ap (λ a. going (with_global s a h.1 h.2) (with_operands f h.3) below) a
        ∙ ap (λ g. going (with_global s k.0 g h.2) (with_operands f h.3) below) g
        ∙ ap (λ v. going (with_global s k.0 k.1 v) (with_operands f h.3) below) v
        ∙ ap (λ l. going (with_global s k.0 k.1 k.2) (with_operands f l) below) r ∙ sym k.7

    loads : (op : LoadOp) (offset : ℕ) → LoadStep s f below d op offset → LoadStep s f below e op offset → d ≡ e
    loads op offset h k =
        let m : h.1 ≡ k.1 = same_at s.memories _ h.0 k.0 h.1 k.1 h.4 k.4 h.5 k.5 in
        let b : h.2 ≡ k.2 = cc (h.6, k.6) in
        let r : h.3 ≡ k.3 = cc (h.6, k.6) in
        h.7
        ∙ ap (λ m. loaded s f below h.3 m op (h.2 + offset)) m
        ∙ ap (λ b. loaded s f below h.3 k.1 op (b + offset)) b
        ∙ ap (λ l. loaded s f below l k.1 op (k.2 + offset)) r ∙ sym k.7

    stores : (op : StoreOp) (offset : ℕ) → StoreStep s f below d op offset → StoreStep s f below e op offset → d ≡ e
    stores op offset h k =
        let a : h.0 ≡ k.0 = cc (h.5, k.5) in
        let m : h.1 ≡ k.1 = same_at s.memories _ h.0 k.0 h.1 k.1 h.5 k.5 h.6 k.6 in
        let b : h.2 ≡ k.2 = cc (h.7, k.7) in
        let top : value_of (stored_type op) h.3 ≡ value_of (stored_type op) k.3 = cc (h.7, k.7) in
        let v : h.3 ≡ k.3 = same_number (stored_type op) h.3 k.3 top in
        let r : h.4 ≡ k.4 = cc (h.7, k.7) in
        h.8
        ∙ ap (λ a. stored s f below h.4 a h.1 op (h.2 + offset) h.3) a
        ∙ ap (λ m. stored s f below h.4 k.0 m op (h.2 + offset) h.3) m
        ∙ ap (λ b. stored s f below h.4 k.0 k.1 op (b + offset) h.3) b
        ∙ ap (λ v. stored s f below h.4 k.0 k.1 op (k.2 + offset) v) v
        ∙ ap (λ l. stored s f below l k.0 k.1 op (k.2 + offset) k.3) r ∙ sym k.8

    sizes : SizeStep s f below d → SizeStep s f below e → d ≡ e
    sizes h k =
        let m : h.1 ≡ k.1 = same_at s.memories _ h.0 k.0 h.1 k.1 h.2 k.2 h.3 k.3 in
        h.4 ∙ ap (λ m. going s (pushed f (I32 (pages_of m))) below) m ∙ sym k.4

    grows : (g : Bool) → GrowStep g s f below d → GrowStep g s f below e → d ≡ e
    grows g h k =
        let a : h.0 ≡ k.0 = cc (h.4, k.4) in
        let m : h.1 ≡ k.1 = same_at s.memories _ h.0 k.0 h.1 k.1 h.4 k.4 h.5 k.5 in
        let n : h.2 ≡ k.2 = cc (h.6, k.6) in
        let r : h.3 ≡ k.3 = cc (h.6, k.6) in
        h.8
        ∙ ap (λ a. grown g s f below h.3 a h.1 h.2) a
        ∙ ap (λ m. grown g s f below h.3 k.0 m h.2) m
        ∙ ap (λ n. grown g s f below h.3 k.0 k.1 n) n
        ∙ ap (λ l. grown g s f below l k.0 k.1 k.2) r ∙ sym k.8

    chooses : (ty : Option ValType) (first second : Sequence) → IfStep s f below d ty first second → IfStep s f below e ty first second → d ≡ e
    chooses ty first second h k =
        let c : h.0 ≡ k.0 = cc (h.2, k.2) in
        let r : h.1 ≡ k.1 = cc (h.2, k.2) in
        h.3
        ∙ ap (λ n. going s (opened (with_operands f h.1) (count_of ty) None (chosen n first second) f.rest) below) c
        ∙ ap (λ l. going s (opened (with_operands f l) (count_of ty) None (chosen k.0 first second) f.rest) below) r ∙ sym k.3

    leaves : Leaves s f below d → Leaves s f below e → d ≡ e
    leaves h k =
        let i : h.0 ≡ k.0 = cc (h.1, k.1) in
        h.3 ∙ ap (λ (i : FuncInst). given_to s (take (length (type_of_inst i).results) f.operands) below) i ∙ sym k.3

    closes : (ls : List OpenBlock) → Closes s f below d ls → Closes s f below e ls → d ≡ e
    closes [] h k = leaves h k
    closes (l ∷ ls) h k = h ∙ sym k

    branches : (ls : List OpenBlock) (n : ℕ) → Branches s f below d ls n → Branches s f below e ls n → d ≡ e
    branches [] zero h k = leaves h k
    branches [] (suc n) h k = elim h [ ]
    branches (l ∷ ls) zero h k = h.1 ∙ sym k.1
    branches (l ∷ ls) (suc n) h k = branches ls n h k

    branches_if : (n c : ℕ) → BranchesIf s f below d n c → BranchesIf s f below e n c → d ≡ e
    branches_if n zero h k = h ∙ sym k
    branches_if n (suc c) h k = branches f.labels n h k

    enters_inst : (a : ℕ) (inst : FuncInst) → EntersInst s f below d a inst → EntersInst s f below e a inst → d ≡ e
    enters_inst a (Code ty instance code) h k =
        let fn : h.0 ≡ k.0 = cc (h.1, k.1) in
        h.3 ∙ ap (λ (fn : Func). going s (entered instance a (arguments ty f) fn) (OfCode (without_arguments ty f) ∷ below)) fn ∙ sym k.3
    enters_inst a (Host ty) h k = h.1 ∙ sym k.1

    enters : (a : ℕ) → Enters s f below d a → Enters s f below e a → d ≡ e
    enters a h k =
        let i : h.0 ≡ k.0 = cc (h.1, k.1) in
        enters_inst a k.0 (subst (λ (i : FuncInst). EntersInst s f below d a i) i h.2) k.2

    calls : (x : ℕ) → CallStep s f below d x → CallStep s f below e x → d ≡ e
    calls x h k =
        let a : h.0 ≡ k.0 = cc (h.1, k.1) in
        enters k.0 (subst (λ n. Enters s f below d n) a h.2) k.2

    calls_inst : (a : ℕ) (inst : FuncInst) (b : Bool) → CallsInst s f below d a inst b → CallsInst s f below e a inst b → d ≡ e
    calls_inst a inst true h k = enters_inst a inst h k
    calls_inst a inst false h k = h ∙ sym k

    calls_entry : (wanted : FuncType) (o : Option ℕ) → CallsEntry s f below d wanted o → CallsEntry s f below e wanted o → d ≡ e
    calls_entry wanted None h k = h ∙ sym k
    calls_entry wanted (Some a) h k =
        let i : h.0 ≡ k.0 = cc (h.1, k.1) in
        calls_inst a k.0 (is_same_func_type (type_of_inst k.0) wanted) (
        subst (λ (i : FuncInst). CallsInst s f below d a i (is_same_func_type (type_of_inst i) wanted)) i h.2
        ) k.2

  module _ (f : Activation) where
    branch_ifs : (n : ℕ) → BrIfStep s f below d n → BrIfStep s f below e n → d ≡ e
    branch_ifs n h k =
        let c : h.0 ≡ k.0 = cc (h.2, k.2) in
        let r : h.1 ≡ k.1 = cc (h.2, k.2) in
        let goes : BranchesIf s (with_operands f k.1) below d n k.0 =
        subst (λ (l : List Val). BranchesIf s (with_operands f l) below d n k.0) r (
        subst (λ (c : ℕ). BranchesIf s (with_operands f h.1) below d n c) c h.3
        )
        in
        branches_if (with_operands f k.1) n k.0 goes k.3

    branch_tables : (ns : List ℕ) (n : ℕ) → BrTableStep s f below d ns n → BrTableStep s f below e ns n → d ≡ e
    branch_tables ns n h k =
        let c : h.0 ≡ k.0 = cc (h.2, k.2) in
        let r : h.1 ≡ k.1 = cc (h.2, k.2) in
        let goes : Branches s (with_operands f k.1) below d f.labels (unwrap_or (slice_get ns k.0) n) =
        subst (λ (l : List Val). Branches s (with_operands f l) below d f.labels (unwrap_or (slice_get ns k.0) n)) r (
        subst (λ (c : ℕ). Branches s (with_operands f h.1) below d f.labels (unwrap_or (slice_get ns c) n)) c h.3
        )
        in
        branches (with_operands f k.1) f.labels (unwrap_or (slice_get ns k.0) n) goes k.3

    calls_indirect : (x : ℕ) → CallIndirectStep s f below d x → CallIndirectStep s f below e x → d ≡ e
    calls_indirect x h k =
        let i : h.0 ≡ k.0 = cc (h.6, k.6) in
        let w : h.1 ≡ k.1 = cc (ap (λ (j : Instance). slice_get j.types x) i, h.7, k.7) in
        let a : h.2 ≡ k.2 = cc (ap (λ (j : Instance). slice_get j.tables 0) i, h.8, k.8) in
        let t : h.3 ≡ k.3 = cc (ap (slice_get s.tables) a, h.9, k.9) in
        let c : h.4 ≡ k.4 = cc (h.10, k.10) in
        let r : h.5 ≡ k.5 = cc (h.10, k.10) in
        let goes : CallsEntry s (with_operands f k.5) below d k.1 (entry_at k.3 k.4) =
        subst (λ (o : List Val). CallsEntry s (with_operands f o) below d k.1 (entry_at k.3 k.4)) r (
        subst (λ (n : ℕ). CallsEntry s (with_operands f h.5) below d k.1 (entry_at k.3 n)) c (
        subst (λ (t : TableInst). CallsEntry s (with_operands f h.5) below d k.1 (entry_at t h.4)) t (
        subst (λ (w : FuncType). CallsEntry s (with_operands f h.5) below d w (entry_at h.3 h.4)) w h.11
        )
        )
        )
        in
        calls_entry (with_operands f k.5) k.1 (entry_at k.3 k.4) goes k.11

    plains : (g : Bool) (op : Plain) → PlainStep g s f below d op → PlainStep g s f below e op → d ≡ e
    plains g Unreachable h k = h ∙ sym k
    plains g Nop h k = h ∙ sym k
    plains g Return h k = leaves f h k
    plains g Drop h k = drops f h k
    plains g Select h k = selects f h k
    plains g MemorySize h k = sizes f h k
    plains g MemoryGrow h k = grows f g h k

    instructions : (g : Bool) (i : Instruction) → InstructionStep g s f below d i → InstructionStep g s f below e i → d ≡ e
    instructions g (tree.Plain op) h k = plains g op h k
    instructions g (tree.Num op) h k = nums f op (num_operands op == 1) h k
    instructions g (tree.Const value) h k = h ∙ sym k
    instructions g (tree.LocalGet x) h k = local_gets f x h k
    instructions g (tree.LocalSet x) h k = local_sets f x h k
    instructions g (tree.LocalTee x) h k = local_tees f x h k
    instructions g (tree.GlobalGet x) h k = global_gets f x h k
    instructions g (tree.GlobalSet x) h k = global_sets f x h k
    instructions g (tree.Load op align offset) h k = loads f op offset h k
    instructions g (tree.Store op align offset) h k = stores f op offset h k
    instructions g (tree.Block ty body) h k = h ∙ sym k
    instructions g (tree.Loop ty body) h k = h ∙ sym k
    instructions g (tree.If ty first) h k = chooses f ty first Empty h k
    instructions g (IfElse ty first second) h k = chooses f ty first second h k
    instructions g (tree.Br n) h k = branches f f.labels n h k
    instructions g (tree.BrIf n) h k = branch_ifs n h k
    instructions g (tree.BrTable ns n) h k = branch_tables ns n h k
    instructions g (tree.Call x) h k = calls f x h k
    instructions g (tree.CallIndirect x) h k = calls_indirect x h k

  moves : (g : Bool) (f : Activation) (code : Sequence) → Moves g s f below d code → Moves g s f below e code → d ≡ e
  moves g f Empty h k = closes f f.labels h k
  moves g f (Then i rest) h k = instructions (record f { rest = rest }) g i h k

top_moves : (g : Bool) (s : Store) (frames : List Layer) (d e : Configuration) → TopMoves g s frames d → TopMoves g s frames e → d ≡ e
top_moves g s [] d e h k = elim h [ ]
top_moves g s (OfCode f ∷ below) d e h k = moves s below d e g f f.rest h k
top_moves g s (OfHost func args given ∷ below) d e h k = elim h [ ]

pub determined : (g : Bool) (c d e : Configuration) → StepBy g c d → StepBy g c e → d ≡ e
determined g c d e h k = top_moves g c.store c.frames d e h.1 k.1
