-- Entries that aren't there are zeros.
use Rattle.std.proofs.Common.{◌≡◌, ℕ, List, sym, ap, ◌∙◌}
use Rattle.std.specs.Prelude.{slice_get, slice_index_or, None, Option, option_map, unwrap_or}
use Rattle.std.proofs.lemmas.Option.{unwrap_or-slice_get}
use Rattle.wasm_values.specs.declared.number.ValType.{ValType}
use Rattle.wasm_values.specs.declared.number.ValType.TheVariants.{I32}
use Rattle.term_trees.specs.declared.term.Term.{Term}
use Rattle.term_logic.specs.Table.{tree_at}
use Rattle.outline_rules.specs.States.{State, number, entry_of}
use Rattle.outline_rules.specs.Instructions.{local_of}
use Rattle.symbolic_state.specs.States.{entry_at}

missing : {A B : Type 0} (f : A → B) (o : Option A) (xs : List B) (k : ℕ) (d : B) → option_map f o ≡ slice_get xs k → o ≡ None → d ≡ slice_index_or xs k d
missing f o xs k d is none = sym (sym (unwrap_or-slice_get xs k d) ∙ ap (λ p. unwrap_or p d) (sym is ∙ ap (option_map f) none))

module _ (s : State) (k : ℕ) (o : Option (ValType × ℕ)) (ts us : List Term) (id : ℕ) (zero : tree_at us id ≡ number 0) where
  pub absent-operand : option_map (entry_at ts) o ≡ slice_get s.operands k → o ≡ None → entry_at us (I32, id) ≡ entry_of s k
  absent-operand is none = ap (λ t. (I32, t)) zero ∙ missing (entry_at ts) o s.operands k (I32, number 0) is none

  pub absent-local : option_map (entry_at ts) o ≡ slice_get s.locals k → o ≡ None → entry_at us (I32, id) ≡ local_of s k
  absent-local is none = ap (λ t. (I32, t)) zero ∙ missing (entry_at ts) o s.locals k (I32, number 0) is none

pub ruleset absent = (absent-operand, absent-local)
