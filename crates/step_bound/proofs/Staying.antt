-- An instruction that holds no others, calls nothing and doesn't branch: the run traps, or goes on in the same frame after it.
use Rattle.std.proofs.Common.{◌≡◌, ℕ, Bool, true, false, List, ◌∷◌, Option, Some, None, ◌⊎◌, inl, inr, cond, ap}
use Rattle.std.specs.Prelude.{MatchBool, option_map, slice_set}
use Rattle.wasm_values.specs.declared.number.NumOp.{NumOp}
use Rattle.wasm_values.specs.declared.number.Val.{Val}
use Rattle.wasm_values.specs.declared.number.Val.TheVariants as val
use Rattle.wasm_values.specs.Operators.{num_unary, num_binary, value_of, result_type}
use Rattle.wasm_syntax.specs.declared.instr.LoadOp.{LoadOp}
use Rattle.wasm_syntax.specs.declared.instr.StoreOp.{StoreOp}
use Rattle.wasm_syntax.specs.Accesses.{bytes_loaded, bytes_stored}
use Rattle.wasm_store.specs.declared.store.MemInst.{MemInst}
use Rattle.wasm_store.specs.declared.store.Store.{Store}
use Rattle.wasm_store.specs.declared.config.Outcome.TheVariants.{Trapped}
use Rattle.wasm_store.specs.Configuration.{Activation, Layer, Configuration, going, trapped}
use Rattle.wasm_store.specs.Numeric.{NumOneStep, NumTwoStep, computed, DropStep, SelectStep, LocalGetStep, LocalSetStep, LocalTeeStep, GlobalGetStep, GlobalSetStep, with_global}
use Rattle.wasm_store.specs.Memory.{is_within, pages_of, with_bytes, grown_bytes, grown, LoadStep, StoreStep, SizeStep, GrowStep}

-- The run traps, or goes on in the same frame, with other locals and operands.
pub data Stays (f : Activation) (below : List Layer) (d : Configuration) : Type 0 where
  traps : d.outcome ≡ Trapped → Stays f below d
  stays : (t : Store) (locals operands : List Val) → d ≡ going t (record f { locals = locals; operands = operands }) below → Stays f below d

chosen_of : (b : Bool) (d x y : Configuration) → d ≡ cond b x y → (d ≡ x) ⊎ (d ≡ y)
chosen_of true d x y e = inl e
chosen_of false d x y e = inr e

module _ (s : Store) (f : Activation) (below : List Layer) (d : Configuration) where
  pub at_trap : d ≡ trapped s → Stays f below d
  at_trap e = traps (ap (λ (c : Configuration). c.outcome) e)

  pub at_going : (operands : List Val) → d ≡ going s (record f { operands = operands }) below → Stays f below d
  at_going operands e = stays s f.locals operands e

  one_or_trap : (t : Store) (operands : List Val) → (d ≡ going t (record f { operands = operands }) below) ⊎ (d ≡ trapped s) → Stays f below d
  one_or_trap t operands (inl e) = stays t f.locals operands e
  one_or_trap t operands (inr e) = at_trap e

  pub at_drop : DropStep s f below d → Stays f below d
  at_drop h = at_going h.1 h.3

  pub at_select : SelectStep s f below d → Stays f below d
  at_select h = stays s f.locals _ h.5

  at_computed : (operands : List Val) (o : Option Val) → d ≡ computed s f below operands o → Stays f below d
  at_computed operands None e = at_trap e
  at_computed operands (Some v) e = at_going (v ∷ operands) e

  pub at_num : (op : NumOp) (one : Bool) → MatchBool one (NumOneStep s f below d op) (NumTwoStep s f below d op) → Stays f below d
  at_num op true h = at_going (value_of (result_type op) (num_unary op h.0) ∷ h.1) h.3
  at_num op false h = at_computed h.2 (option_map (value_of (result_type op)) (num_binary op h.0 h.1)) h.4

  pub at_local_get : (x : ℕ) → LocalGetStep s f below d x → Stays f below d
  at_local_get x h = at_going (h.0 ∷ f.operands) h.2

  pub at_local_set : (x : ℕ) → LocalSetStep s f below d x → Stays f below d
  at_local_set x h = stays s (slice_set f.locals x h.0) h.1 h.4

  pub at_local_tee : (x : ℕ) → LocalTeeStep s f below d x → Stays f below d
  at_local_tee x h = stays s (slice_set f.locals x h.0) f.operands h.4

  pub at_global_get : (x : ℕ) → GlobalGetStep s f below d x → Stays f below d
  at_global_get x h = at_going _ h.4

  pub at_global_set : (x : ℕ) → GlobalSetStep s f below d x → Stays f below d
  at_global_set x h = stays (with_global s h.0 h.1 h.2) f.locals h.3 h.7

  pub at_load : (op : LoadOp) (offset : ℕ) → LoadStep s f below d op offset → Stays f below d
  at_load op offset h = one_or_trap s _ (chosen_of (is_within h.1.bytes _ (bytes_loaded op)) d _ _ h.7)

  pub at_store : (op : StoreOp) (offset : ℕ) → StoreStep s f below d op offset → Stays f below d
  at_store op offset h = one_or_trap _ h.4 (chosen_of (is_within h.1.bytes _ (bytes_stored op)) d _ _ h.8)

  pub at_size : SizeStep s f below d → Stays f below d
  at_size h = at_going _ h.4

  at_grown : (grows : Bool) (operands : List Val) (m : ℕ) (mem : MemInst) (pages : ℕ) → d ≡ grown grows s f below operands m mem pages → Stays f below d
  at_grown true operands m mem pages e = stays (with_bytes s m mem (grown_bytes mem pages)) f.locals (val.I32 (pages_of mem) ∷ operands) e
  at_grown false operands m mem pages e = at_going (val.I32 4294967295 ∷ operands) e

  pub at_grow : (grows : Bool) → GrowStep grows s f below d → Stays f below d
  at_grow grows h = at_grown grows h.3 h.0 h.1 h.2 h.8
