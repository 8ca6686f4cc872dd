-- How many frames there are after a step.
use Rattle.std.proofs.Common.{◌≡◌, ℕ, zero, suc, ◌+◌, ◌≤◌, ◌==◌, if◌then◌else◌, Bool, true, false, MatchBool, List, [], ◌∷◌, Option, Some, None, option_map, unwrap_or, slice_get, take, length, refl, ap, arith}
use Rattle.wasm_values.specs.declared.number.NumOp.{NumOp}
use Rattle.wasm_values.specs.declared.number.Val.{Val}
use Rattle.wasm_values.specs.Operators.{value_of, num_operands, num_binary, result_type}
use Rattle.wasm_syntax.specs.declared.instr.Plain.{Plain}
use Rattle.wasm_syntax.specs.declared.instr.Plain.TheVariants.{Unreachable, Nop, Return, Drop, Select, MemorySize, MemoryGrow}
use Rattle.wasm_syntax.specs.Trees as tree
use Rattle.wasm_syntax.specs.Trees.{Instruction, Sequence, Empty, Then, IfElse}
use Rattle.wasm_store.specs.declared.store.FuncInst.{FuncInst}
use Rattle.wasm_store.specs.declared.store.FuncInst.TheVariants.{Code, Host}
use Rattle.wasm_store.specs.declared.store.MemInst.{MemInst}
use Rattle.wasm_store.specs.declared.store.Store.{Store}
use Rattle.wasm_store.specs.Configuration.{OpenBlock, Activation, Layer, OfCode, OfHost, Configuration, with_operands}
use Rattle.wasm_store.specs.Numeric.{computed, NumOneStep, NumTwoStep}
use Rattle.wasm_syntax.specs.Accesses.{bytes_loaded, bytes_stored}
use Rattle.wasm_store.specs.Memory.{loaded, stored, is_within, grown}
use Rattle.wasm_store.specs.Control.{type_of_inst, given_to, Leaves, Closes, Branches, BranchesIf, EntersInst, Enters}
use Rattle.wasm_store.specs.Step.{PlainStep, InstructionStep, Moves}
use Rattle.wasm_reduce.specs.declared.policy.Policy.{Policy}
use Rattle.wasm_reduce.specs.Policies.{grows_next, PolicyStep, PassesFrames}
use Rattle.wasm_reduce.specs.words.Layers.{EntersNone, BeginsInside}
use Rattle.wasm_reduce.proofs.Determined.{determined}

-- Frames that are left.
given_fewer : (s : Store) (results : List Val) (below : List Layer) → length (given_to s results below).frames ≤ length below
given_fewer s results [] = omega arith
given_fewer s results (OfCode g ∷ below) = omega arith
given_fewer s results (OfHost func args given ∷ below) = omega arith

pub leaves_fewer : (s : Store) (f : Activation) (below : List Layer) (d : Configuration) → Leaves s f below d → length d.frames ≤ length below
leaves_fewer s f below d h =
    let results = take (length (type_of_inst h.0).results) f.operands in
    let same : length d.frames ≡ length (given_to s results below).frames = ap (λ (c : Configuration). length c.frames) h.3 in
    omega (arith, same, given_fewer s results below)

pub leaves_any : (s : Store) (f : Activation) (b : List Layer) (d : Configuration) (below : List Layer) → Leaves s f b d → (e : Configuration) × Leaves s f below e
leaves_any s f b d below h = (_, (h.0, h.1, h.2, refl))

-- Frames that are entered.
enters_inst_longer : (s : Store) (f : Activation) (below : List Layer) (d : Configuration) (a : ℕ) (inst : FuncInst) → EntersInst s f below d a inst → length d.frames ≡ length below + 2
enters_inst_longer s f below d a (Code ty instance code) h =
    let same = ap (λ (c : Configuration). length c.frames) h.3 in omega (arith, same)
enters_inst_longer s f below d a (Host ty) h =
    let same = ap (λ (c : Configuration). length c.frames) h.1 in omega (arith, same)

pub enters_longer : (s : Store) (f : Activation) (below : List Layer) (d : Configuration) (a : ℕ) → Enters s f below d a → length d.frames ≡ length below + 2
enters_longer s f below d a h = enters_inst_longer s f below d a h.0 h.2

enters_inst_any : (s : Store) (f : Activation) (b : List Layer) (d : Configuration) (below : List Layer) (a : ℕ) (inst : FuncInst) → EntersInst s f b d a inst → (e : Configuration) × EntersInst s f below e a inst
enters_inst_any s f b d below a (Code ty instance code) h = (_, (h.0, h.1, h.2, refl))
enters_inst_any s f b d below a (Host ty) h = (_, (h.0, refl))

pub enters_any : (s : Store) (f : Activation) (b : List Layer) (d : Configuration) (below : List Layer) (a : ℕ) → Enters s f b d a → (e : Configuration) × Enters s f below e a
enters_any s f b d below a h = let e = enters_inst_any s f b d below a h.0 h.2 in (e.0, (h.0, h.1, e.1))

-- ---- instructions that enter no frame

few_by : (n : ℕ) (d e : Configuration) → d ≡ e → length e.frames ≤ n → length d.frames ≤ n
few_by n d e is h = let same : length d.frames ≡ length e.frames = ap (λ (c : Configuration). length c.frames) is in omega (arith, same, h)

few_either : (n : ℕ) (b : Bool) (x y : Configuration) → length x.frames ≤ n → length y.frames ≤ n → length (if b then x else y).frames ≤ n
few_either n true x y h k = h
few_either n false x y h k = k

module _ (s : Store) (below : List Layer) (d : Configuration) where
  leaves : (f : Activation) → Leaves s f below d → length d.frames ≤ suc (length below)
  leaves f h = omega (arith, leaves_fewer s f below d h)

  few_computed : (f : Activation) (operands : List Val) (o : Option Val) → length (computed s f below operands o).frames ≤ suc (length below)
  few_computed f operands None = omega arith
  few_computed f operands (Some v) = omega arith

  nums : (f : Activation) (op : NumOp) (b : Bool) → MatchBool b (NumOneStep s f below d op) (NumTwoStep s f below d op) → length d.frames ≤ suc (length below)
  nums f op true h = few_by (suc (length below)) d _ h.3 (omega arith)
  nums f op false h =
      few_by (suc (length below)) d _ h.4 (few_computed f h.2 (option_map (value_of (result_type op)) (num_binary op h.0 h.1)))

  few_grown : (g : Bool) (f : Activation) (operands : List Val) (m : ℕ) (mem : MemInst) (pages : ℕ) → length (grown g s f below operands m mem pages).frames ≤ suc (length below)
  few_grown true f operands m mem pages = omega arith
  few_grown false f operands m mem pages = omega arith

  closes : (f : Activation) (ls : List OpenBlock) → Closes s f below d ls → length d.frames ≤ suc (length below)
  closes f [] h = leaves f h
  closes f (l ∷ ls) h = few_by (suc (length below)) d _ h (omega arith)

  branches : (f : Activation) (ls : List OpenBlock) (n : ℕ) → Branches s f below d ls n → length d.frames ≤ suc (length below)
  branches f [] zero h = leaves f h
  branches f [] (suc n) h = elim h [ ]
  branches f (l ∷ ls) zero h = few_by (suc (length below)) d _ h.1 (omega arith)
  branches f (l ∷ ls) (suc n) h = branches f ls n h

  branches_if : (f : Activation) (n c : ℕ) → BranchesIf s f below d n c → length d.frames ≤ suc (length below)
  branches_if f n zero h = few_by (suc (length below)) d _ h (omega arith)
  branches_if f n (suc c) h = branches f f.labels n h

  plains : (g : Bool) (f : Activation) (op : Plain) → PlainStep g s f below d op → length d.frames ≤ suc (length below)
  plains g f Unreachable h = few_by (suc (length below)) d _ h (omega arith)
  plains g f Nop h = few_by (suc (length below)) d _ h (omega arith)
  plains g f Return h = leaves f h
  plains g f Drop h = few_by (suc (length below)) d _ h.3 (omega arith)
  plains g f Select h = few_by (suc (length below)) d _ h.5 (omega arith)
  plains g f MemorySize h = few_by (suc (length below)) d _ h.4 (omega arith)
  plains g f MemoryGrow h = few_by (suc (length below)) d _ h.8 (few_grown g f h.3 h.0 h.1 h.2)

  instructions : (g : Bool) (f : Activation) (i : Instruction) → EntersNone i → InstructionStep g s f below d i → length d.frames ≤ suc (length below)
  instructions g f (tree.Plain op) k h = plains g f op h
  instructions g f (tree.Num op) k h = nums f op (num_operands op == 1) h
  instructions g f (tree.Const value) k h = few_by (suc (length below)) d _ h (omega arith)
  instructions g f (tree.LocalGet x) k h = few_by (suc (length below)) d _ h.2 (omega arith)
  instructions g f (tree.LocalSet x) k h = few_by (suc (length below)) d _ h.4 (omega arith)
  instructions g f (tree.LocalTee x) k h = few_by (suc (length below)) d _ h.4 (omega arith)
  instructions g f (tree.GlobalGet x) k h = few_by (suc (length below)) d _ h.4 (omega arith)
  instructions g f (tree.GlobalSet x) k h = few_by (suc (length below)) d _ h.7 (omega arith)
  instructions g f (tree.Load op align offset) k h =
      few_by (suc (length below)) d (loaded s f below h.3 h.1 op (h.2 + offset)) h.7 (
      few_either (suc (length below)) (is_within h.1.bytes (h.2 + offset) (bytes_loaded op)) _ _ (omega arith) (omega arith)
      )
  instructions g f (tree.Store op align offset) k h =
      few_by (suc (length below)) d (stored s f below h.4 h.0 h.1 op (h.2 + offset) h.3) h.8 (
      few_either (suc (length below)) (is_within h.1.bytes (h.2 + offset) (bytes_stored op)) _ _ (omega arith) (omega arith)
      )
  instructions g f (tree.Block ty body) k h = few_by (suc (length below)) d _ h (omega arith)
  instructions g f (tree.Loop ty body) k h = few_by (suc (length below)) d _ h (omega arith)
  instructions g f (tree.If ty first) k h = few_by (suc (length below)) d _ h.3 (omega arith)
  instructions g f (IfElse ty first second) k h = few_by (suc (length below)) d _ h.3 (omega arith)
  instructions g f (tree.Br n) k h = branches f f.labels n h
  instructions g f (tree.BrIf n) k h = branches_if (with_operands f h.1) n h.0 h.3
  instructions g f (tree.BrTable ns n) k h = branches (with_operands f h.1) f.labels (unwrap_or (slice_get ns h.0) n) h.3
  instructions g f (tree.Call x) k h = elim k [ ]
  instructions g f (tree.CallIndirect x) k h = elim k [ ]

  pub stays : (g : Bool) (f : Activation) (code : Sequence) → BeginsInside code → Moves g s f below d code → length d.frames ≤ suc (length below)
  stays g f Empty k h = closes f f.labels h
  stays g f (Then i rest) k h = instructions g (record f { rest = rest }) i k h

-- ---- the policy's number of frames

pub passes_not : (policy : Policy) (c d : Configuration) → PolicyStep policy c d → length d.frames ≤ length c.frames → PassesFrames policy c → ⊥
passes_not policy c d step fewer h =
    let same : length h.0.frames ≡ length d.frames =
    ap (λ (x : Configuration). length x.frames) (determined (grows_next policy c.store c.frames) c h.0 d h.1 step)
    in
    omega (arith, same, fewer, h.2)

pub passes_not_within : (policy : Policy) (c d : Configuration) → PolicyStep policy c d → length d.frames ≤ policy.frames → PassesFrames policy c → ⊥
passes_not_within policy c d step fewer h =
    let same : length h.0.frames ≡ length d.frames =
    ap (λ (x : Configuration). length x.frames) (determined (grows_next policy c.store c.frames) c h.0 d h.1 step)
    in
    omega (arith, same, fewer, h.3)
