-- The state of trees that a state over a table stands for.
use Rattle.std.specs.Prelude.{ℕ, ◌<◌, ◌≤◌, List, length, map, reverse, option_map, IfSome}
use Rattle.std.specs.List.{All}
use Rattle.wasm_values.specs.declared.number.ValType.{ValType}
use Rattle.term_trees.specs.declared.term.Term.{Term}
use Rattle.term_logic.specs.Table.{tree_at}
use Rattle.term_logic.specs.Formulas.{formula_of}
use Rattle.outline_rules.specs.States.{State, nodes_of}
use Rattle.heap_logic.specs.Heaps.{chunk_of, HeapWithin}
use Rattle.symbolic_state.specs.declared.state.SymState.{SymState}

-- an entry with a type, its term in place of the position
abbrev pub entry_at : List Term → ValType × ℕ → ValType × Term
entry_at ts e = (e.0, tree_at ts e.1)

-- The state that one over a table stands for. Operands stand with the top first.
abbrev pub state_of : List Term → SymState → State
state_of ts s = record {
  vars = s.heap.vars;
  facts = map (formula_of ts) s.heap.facts;
  chunks = map (chunk_of ts) s.heap.chunks;
  locals = map (entry_at ts) s.locals;
  operands = map (entry_at ts) (reverse s.stack);
  globals = map (option_map (tree_at ts)) s.globals;
  pages = option_map (tree_at ts) s.pages;
  args = map (tree_at ts) s.args;
  given = map (tree_at ts) s.given;
}

-- All positions of a state are below n.
pub record StateWithin (n : ℕ) (s : SymState) : Type 0 where
  pub heap : HeapWithin n s.heap
  pub locals : All (λ e. e.1 < n) s.locals
  pub stack : All (λ e. e.1 < n) s.stack
  pub globals : All (λ o. IfSome o (λ id. id < n)) s.globals
  pub pages : IfSome s.pages (λ id. id < n)
  pub args : All (λ id. id < n) s.args
  pub given : All (λ id. id < n) s.given

-- A state is within the limits.
pub record WithinLimits (s : State) : Type 0 where
  pub variables : s.vars ≤ 1000000
  pub facts : length s.facts ≤ 4096
  pub chunks : length s.chunks ≤ 1024
  pub nodes : nodes_of s ≤ 1000000

-- The terms of a table, and a state over them.
pub record Tracked : Type 0 where
  pub terms : List Term
  pub state : State
