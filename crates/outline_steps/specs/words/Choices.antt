-- Steps of the machine at an `if` and at a `br_if`: the state on each way is met.
use Rattle.std.specs.Prelude.{◌≡◌, ℕ, Bool, ℤ, List, Option, Ok, ◌⊎◌}
use Rattle.wasm_values.specs.declared.number.Val.{Val}
use Rattle.wasm_values.specs.declared.number.ValType.{ValType}
use Rattle.wasm_syntax.specs.Trees as tree
use Rattle.wasm_syntax.specs.Trees.{Sequence, Empty, IfElse}
use Rattle.wasm_store.specs.declared.store.Store.{Store}
use Rattle.wasm_store.specs.Configuration as config
use Rattle.wasm_store.specs.Configuration.{Activation, Layer, Configuration, going}
use Rattle.wasm_store.specs.Control.{Branches}
use Rattle.wasm_store.specs.Step.{InstructionStep}
use Rattle.term_trees.specs.declared.term.Term.{Term}
use Rattle.term_trees.specs.declared.term.Formula.{Formula}
use Rattle.notes.specs.declared.uses.Take.{Take}
use Rattle.notes.specs.declared.uses.Use.{Use}
use Rattle.outline_rules.specs.Settings.{Setting}
use Rattle.outline_rules.specs.States.{State, fact_added, operand, popped}
use Rattle.outline_rules.specs.Branches.{Label, takes_branch, is_zero, is_not_zero, br_if, br_table}
use Rattle.outline_rules.specs.Blocks.{Begun, if_entered, if_else_entered}
use Rattle.outline_rules.specs.Meets.{held_by}
use Rattle.outline_meaning.specs.Pieces.{Piece}
use Rattle.outline_meaning.specs.Beside.{MeetsBeside}

-- A side of an `if` opens: its code is next, the state at the block's entry is that without the condition, and it meets what
-- is held; so does the state at the start of the side.
pub record SideOpens (c : Setting) (side : Sequence) (entry start : State) (store : Store) (below : List Layer) (d : Configuration) (n : List ℤ) (others : List Piece) : Type 0 where
  pub frame : Activation
  pub is : d ≡ going store frame below
  pub rest : frame.rest ≡ side
  pub entered : MeetsBeside c entry (held_by store frame) n others
  pub started : MeetsBeside c start (held_by store frame) n others

-- A step at an `if` with `else` opens either side: the second from the state with the fact that the condition is 0.
abbrev pub IfElseOpens : Type 0
IfElseOpens =
    (c : Setting) (func number : ℕ) (ty : Option ValType) (first second : Sequence) (s : State) (b : Begun × Term) (turned : State)
    (grows : Bool) (store : Store) (f : Activation) (below : List Layer) (d : Configuration) (n : List ℤ) (others : List Piece)
    → MeetsBeside c s (held_by store f) n others → if_else_entered c func number ty s ≡ Ok b → fact_added (is_zero b.1) b.0.entry ≡ Ok turned
    → InstructionStep grows store f below d (IfElse ty first second)
    → SideOpens c first b.0.entry b.0.start store below d n others ⊎ SideOpens c second b.0.entry turned store below d n others

-- A step at an `if` without `else` opens its side or an empty one.
abbrev pub IfOpens : Type 0
IfOpens =
    (c : Setting) (func : ℕ) (ls : List Label) (number : ℕ) (ty : Option ValType) (first : Sequence) (s : State) (b : Begun × Term) (passed : State)
    (grows : Bool) (store : Store) (f : Activation) (below : List Layer) (d : Configuration) (n : List ℤ) (others : List Piece)
    → MeetsBeside c s (held_by store f) n others → if_entered c func ls number ty s ≡ Ok b → fact_added (is_zero b.1) b.0.entry ≡ Ok passed
    → InstructionStep grows store f below d (tree.If ty first)
    → SideOpens c first b.0.entry b.0.start store below d n others ⊎ SideOpens c Empty b.0.entry passed store below d n others

-- The branch of a `br_if` is taken: the state without the condition, with the fact that it isn't 0, meets what is held
-- where the branch begins.
pub record BranchIsTaken (c : Setting) (s : State) (store : Store) (f : Activation) (below : List Layer) (d : Configuration) (k : ℕ) (n : List ℤ) (others : List Piece) : Type 0 where
  pub operands : List Val
  pub branches : Branches store (config.with_operands f operands) below d f.labels k
  pub meets : (t : State) → fact_added (is_not_zero (operand s 0)) (popped 1 s) ≡ Ok t → MeetsBeside c t (held_by store (config.with_operands f operands)) n others

-- It isn't taken: the run goes on, and the state after the `br_if` meets what is held.
pub record BranchIsPassed (c : Setting) (t : State) (store : Store) (f : Activation) (below : List Layer) (d : Configuration) (n : List ℤ) (others : List Piece) : Type 0 where
  pub operands : List Val
  pub is : d ≡ going store (config.with_operands f operands) below
  pub meets : MeetsBeside c t (held_by store (config.with_operands f operands)) n others

-- A step at a `br_if`.
abbrev pub BrIfKeeps : Type 0
BrIfKeeps =
    (c : Setting) (func : ℕ) (ls : List Label) (k : ℕ) (u : Use) (s t : State)
    (grows : Bool) (store : Store) (f : Activation) (below : List Layer) (d : Configuration) (n : List ℤ) (others : List Piece)
    → MeetsBeside c s (held_by store f) n others → br_if c func ls k u s ≡ Ok t → InstructionStep grows store f below d (tree.BrIf k)
    → BranchIsTaken c s store f below d k n others ⊎ BranchIsPassed c t store f below d n others

-- The branch of a `br_table` that is taken: its take is one of the outline's, and the state without the index, with the fact
-- of that take, meets what is held where the branch begins.
pub record TableBranch (c : Setting) (func : ℕ) (ls : List Label) (s : State) (store : Store) (f : Activation) (below : List Layer) (d : Configuration) (n : List ℤ) (others : List Piece) : Type 0 where
  pub operands : List Val
  pub label : ℕ
  pub fact : Formula
  pub take : Take
  pub branches : Branches store (config.with_operands f operands) below d f.labels label
  pub taken : takes_branch c func ls label fact take (popped 1 s) ≡ Ok tt
  pub meets : (t : State) → fact_added fact (popped 1 s) ≡ Ok t → MeetsBeside c t (held_by store (config.with_operands f operands)) n others

-- A step at a `br_table`.
abbrev pub BrTableKeeps : Type 0
BrTableKeeps =
    (c : Setting) (func : ℕ) (ls : List Label) (ks : List ℕ) (last : ℕ) (u : Use) (s : State)
    (grows : Bool) (store : Store) (f : Activation) (below : List Layer) (d : Configuration) (n : List ℤ) (others : List Piece)
    → MeetsBeside c s (held_by store f) n others → br_table c func ls ks last u s ≡ Ok tt → InstructionStep grows store f below d (tree.BrTable ks last)
    → TableBranch c func ls s store f below d n others
