-- What no step changes.
use Rattle.std.proofs.Common.{◌≡◌, ℕ, zero, suc, ◌+◌, ◌==◌, Bool, true, false, if◌then◌else◌, List, [], ◌∷◌, Option, Some, None, option_map, refl, sym, subst, MatchBool, unwrap_or, slice_get, take, length}
use Rattle.wasm_values.specs.declared.number.NumOp.{NumOp}
use Rattle.wasm_values.specs.declared.number.Val.{Val}
use Rattle.wasm_values.specs.Operators.{num_operands, num_binary, value_of, result_type}
use Rattle.wasm_syntax.specs.declared.instr.Plain.{Plain}
use Rattle.wasm_syntax.specs.declared.instr.Plain.TheVariants.{Unreachable, Nop, Return, Drop, Select, MemorySize, MemoryGrow}
use Rattle.wasm_syntax.specs.declared.module.FuncType.{FuncType}
use Rattle.wasm_syntax.specs.Trees as tree
use Rattle.wasm_syntax.specs.Trees.{Instruction, Sequence, Empty, Then, IfElse}
use Rattle.wasm_store.specs.declared.store.FuncInst.{FuncInst}
use Rattle.wasm_store.specs.declared.store.FuncInst.TheVariants.{Code, Host}
use Rattle.wasm_store.specs.declared.store.MemInst.{MemInst}
use Rattle.wasm_store.specs.declared.store.Store.{Store}
use Rattle.wasm_store.specs.Configuration.{OpenBlock, Activation, Layer, OfCode, OfHost, Configuration, with_operands}
use Rattle.wasm_store.specs.Numeric.{computed, NumOneStep, NumTwoStep}
use Rattle.wasm_syntax.specs.Accesses.{bytes_loaded, bytes_stored}
use Rattle.wasm_store.specs.Memory.{is_within, grown}
use Rattle.wasm_store.specs.Control.{type_of_inst, given_to, Leaves, Closes, Branches, BranchesIf, EntersInst, CallsInst, CallsEntry, is_same_func_type}
use Rattle.wasm_store.specs.Step.{PlainStep, InstructionStep, Moves, TopMoves, Step}

-- The code, the tables and the instances of both stores are the same.
pub record SameCode (s t : Store) : Type 0 where
  pub funcs : t.funcs ≡ s.funcs
  pub tables : t.tables ≡ s.tables
  pub instances : t.instances ≡ s.instances

abbrev pub same : (s : Store) → SameCode s s
same s = record { funcs = refl; tables = refl; instances = refl }

along : (s : Store) (d e : Configuration) → d ≡ e → SameCode s e.store → SameCode s d.store
along s d e eq h =
    record {
      funcs = subst (λ (c : Configuration). c.store.funcs ≡ s.funcs) (sym eq) h.funcs;
      tables = subst (λ (c : Configuration). c.store.tables ≡ s.tables) (sym eq) h.tables;
      instances = subst (λ (c : Configuration). c.store.instances ≡ s.instances) (sym eq) h.instances;
    }

same-if : (s : Store) (b : Bool) (x y : Configuration) → SameCode s x.store → SameCode s y.store → SameCode s (if b then x else y).store
same-if s true x y h k = h
same-if s false x y h k = k

same-given : (s : Store) (results : List Val) (below : List Layer) → SameCode s (given_to s results below).store
same-given s results [] = same s
same-given s results (OfCode g ∷ below) = same s
same-given s results (OfHost func args given ∷ below) = same s

same-computed : (s : Store) (f : Activation) (below : List Layer) (operands : List Val) (v : Option Val) → SameCode s (computed s f below operands v).store
same-computed s f below operands None = same s
same-computed s f below operands (Some v) = same s

same-grown : (grows : Bool) (s : Store) (f : Activation) (below : List Layer) (operands : List Val) (m : ℕ) (mem : MemInst) (pages : ℕ) → SameCode s (grown grows s f below operands m mem pages).store
same-grown true s f below operands m mem pages = record { funcs = refl; tables = refl; instances = refl }
same-grown false s f below operands m mem pages = same s

by_leaving : (s : Store) (f : Activation) (below : List Layer) (d : Configuration) → Leaves s f below d → SameCode s d.store
by_leaving s f below d h = along s d _ h.3 (same-given s (take (length (type_of_inst h.0).results) f.operands) below)

by_branch : (s : Store) (f : Activation) (below : List Layer) (d : Configuration) (ls : List OpenBlock) (k : ℕ) → Branches s f below d ls k → SameCode s d.store
by_branch s f below d [] zero h = by_leaving s f below d h
by_branch s f below d [] (suc k) h = absurd h
by_branch s f below d (l ∷ ls) zero h = along s d _ h.1 (same s)
by_branch s f below d (l ∷ ls) (suc k) h = by_branch s f below d ls k h

by_branch_if : (s : Store) (f : Activation) (below : List Layer) (d : Configuration) (k c : ℕ) → BranchesIf s f below d k c → SameCode s d.store
by_branch_if s f below d k zero h = along s d _ h (same s)
by_branch_if s f below d k (suc c) h = by_branch s f below d f.labels k h

by_entering : (s : Store) (f : Activation) (below : List Layer) (d : Configuration) (a : ℕ) (inst : FuncInst) → EntersInst s f below d a inst → SameCode s d.store
by_entering s f below d a (Code ty instance code) h = along s d _ h.3 (same s)
by_entering s f below d a (Host ty) h = along s d _ h.1 (same s)

by_calling : (s : Store) (f : Activation) (below : List Layer) (d : Configuration) (a : ℕ) (inst : FuncInst) (b : Bool) → CallsInst s f below d a inst b → SameCode s d.store
by_calling s f below d a inst true h = by_entering s f below d a inst h
by_calling s f below d a inst false h = along s d _ h (same s)

by_entry : (s : Store) (f : Activation) (below : List Layer) (d : Configuration) (wanted : FuncType) (entry : Option ℕ) → CallsEntry s f below d wanted entry → SameCode s d.store
by_entry s f below d wanted None h = along s d _ h (same s)
by_entry s f below d wanted (Some a) h = by_calling s f below d a h.0 (is_same_func_type (type_of_inst h.0) wanted) h.2

by_num : (s : Store) (f : Activation) (below : List Layer) (d : Configuration) (op : NumOp) (b : Bool) → MatchBool b (NumOneStep s f below d op) (NumTwoStep s f below d op) → SameCode s d.store
by_num s f below d op true h = along s d _ h.3 (same s)
by_num s f below d op false h = along s d _ h.4 (same-computed s f below h.2 (option_map (value_of (result_type op)) (num_binary op h.0 h.1)))

by_plain : (grows : Bool) (s : Store) (f : Activation) (below : List Layer) (d : Configuration) (op : Plain) → PlainStep grows s f below d op → SameCode s d.store
by_plain grows s f below d Unreachable h = along s d _ h (same s)
by_plain grows s f below d Nop h = along s d _ h (same s)
by_plain grows s f below d Return h = by_leaving s f below d h
by_plain grows s f below d Drop h = along s d _ h.3 (same s)
by_plain grows s f below d Select h = along s d _ h.5 (same s)
by_plain grows s f below d MemorySize h = along s d _ h.4 (same s)
by_plain grows s f below d MemoryGrow h = along s d _ h.8 (same-grown grows s f below h.3 h.0 h.1 h.2)

by_instruction : (grows : Bool) (s : Store) (f : Activation) (below : List Layer) (d : Configuration) (i : Instruction) → InstructionStep grows s f below d i → SameCode s d.store
by_instruction grows s f below d (tree.Plain op) h = by_plain grows s f below d op h
by_instruction grows s f below d (tree.Num op) h = by_num s f below d op (num_operands op == 1) h
by_instruction grows s f below d (tree.Const value) h = along s d _ h (same s)
by_instruction grows s f below d (tree.LocalGet x) h = along s d _ h.2 (same s)
by_instruction grows s f below d (tree.LocalSet x) h = along s d _ h.4 (same s)
by_instruction grows s f below d (tree.LocalTee x) h = along s d _ h.4 (same s)
by_instruction grows s f below d (tree.GlobalGet x) h = along s d _ h.4 (same s)
by_instruction grows s f below d (tree.GlobalSet x) h = along s d _ h.7 (record { funcs = refl; tables = refl; instances = refl })
by_instruction grows s f below d (tree.Load op align offset) h =
    along s d _ h.7 (same-if s (is_within h.1.bytes (h.2 + offset) (bytes_loaded op)) _ _ (same s) (same s))
by_instruction grows s f below d (tree.Store op align offset) h =
    along s d _ h.8 (same-if s (is_within h.1.bytes (h.2 + offset) (bytes_stored op)) _ _ (record { funcs = refl; tables = refl; instances = refl }) (same s))
by_instruction grows s f below d (tree.Block ty body) h = along s d _ h (same s)
by_instruction grows s f below d (tree.Loop ty body) h = along s d _ h (same s)
by_instruction grows s f below d (tree.If ty first) h = along s d _ h.3 (same s)
by_instruction grows s f below d (IfElse ty first second) h = along s d _ h.3 (same s)
by_instruction grows s f below d (tree.Br k) h = by_branch s f below d f.labels k h
by_instruction grows s f below d (tree.BrIf k) h = by_branch_if s (with_operands f h.1) below d k h.0 h.3
by_instruction grows s f below d (tree.BrTable ks k) h = by_branch s (with_operands f h.1) below d f.labels (unwrap_or (slice_get ks h.0) k) h.3
by_instruction grows s f below d (tree.Call x) h = by_entering s f below d h.0 h.2.0 h.2.2
by_instruction grows s f below d (tree.CallIndirect x) h = by_entry s (with_operands f h.5) below d h.1 _ h.11

by_close : (s : Store) (f : Activation) (below : List Layer) (d : Configuration) (ls : List OpenBlock) → Closes s f below d ls → SameCode s d.store
by_close s f below d [] h = by_leaving s f below d h
by_close s f below d (l ∷ ls) h = along s d _ h (same s)

by_move : (grows : Bool) (s : Store) (f : Activation) (below : List Layer) (d : Configuration) (code : Sequence) → Moves grows s f below d code → SameCode s d.store
by_move grows s f below d Empty h = by_close s f below d f.labels h
by_move grows s f below d (Then i rest) h = by_instruction grows s (record f { rest = rest }) below d i h

by_top : (grows : Bool) (s : Store) (frames : List Layer) (d : Configuration) → TopMoves grows s frames d → SameCode s d.store
by_top grows s [] d h = absurd h
by_top grows s (OfCode f ∷ below) d h = by_move grows s f below d f.rest h
by_top grows s (OfHost func args given ∷ below) d h = absurd h

-- No step changes the code, the tables or the instances of the store.
pub step_keeps : (c d : Configuration) → Step c d → SameCode c.store d.store
step_keeps c d h = by_top h.0 c.store c.frames d h.1.1
