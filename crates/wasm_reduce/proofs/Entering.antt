-- A function that is entered, by its frame.
use Rattle.std.proofs.Common.{◌≡◌, ℕ, ◌≤◌, List, ◌∷◌, length, take, reverse, ap, ◌∙◌}
use Rattle.std.proofs.lemmas.List.{reverse-reverse}
use Rattle.wasm_store.specs.declared.config.Outcome.TheVariants.{Running}
use Rattle.wasm_store.specs.declared.store.FuncInst.{FuncInst}
use Rattle.wasm_store.specs.declared.store.FuncInst.TheVariants.{Code, Host}
use Rattle.wasm_store.specs.declared.store.Store.{Store}
use Rattle.wasm_store.specs.Configuration.{Activation, Layer, OfCode, Configuration}
use Rattle.wasm_store.specs.Control.{EntersInst, type_of_inst, entered, without_arguments, IsEnterable, IsFrameOf}

module _ (s : Store) (f : Activation) (below : List Layer) (d : Configuration) (a : ℕ) where
  pub args_within : (inst : FuncInst) → EntersInst s f below d a inst → length (type_of_inst inst).params ≤ length f.operands
  args_within (Code ty instance code) h = h.2
  args_within (Host ty) h = h.0

  pub enterable : (inst : FuncInst) → EntersInst s f below d a inst → IsEnterable s.instances inst
  enterable (Code ty instance code) h = (h.0, h.1)
  enterable (Host ty) h = tt

  pub enters_by : (inst : FuncInst) (layer : Layer) → length (type_of_inst inst).params ≤ length f.operands → IsFrameOf s.instances a (reverse (take (length (type_of_inst inst).params) f.operands)) inst layer → d ≡ record { store = s; frames = layer ∷ OfCode (without_arguments (type_of_inst inst) f) ∷ below; outcome = Running } → EntersInst s f below d a inst
  enters_by (Code ty instance code) layer within h e =
      let layer_is = h.2 ∙ ap (λ vs. OfCode (entered instance a vs h.0)) (reverse-reverse (take (length ty.params) f.operands)) in
      (h.0, h.1, within, e ∙ ap (λ (l : Layer). record { store = s; frames = l ∷ OfCode (without_arguments ty f) ∷ below; outcome = Running }) layer_is)
  enters_by (Host ty) layer within h e =
      (within, e ∙ ap (λ (l : Layer). record { store = s; frames = l ∷ OfCode (without_arguments ty f) ∷ below; outcome = Running }) h)
