use Rattle.std.proofs.Common.{◌≡◌, List, [], Option, false, refl, sym, subst}
use Rattle.wasm_values.specs.declared.number.ValType.{ValType}
use Rattle.body_check.specs.declared.walk.Walk.{Walk}
use Rattle.wasm_typing.specs.Typing.{Types}
use Rattle.body_check.specs.words.Operands.{Are}
use Rattle.body_check.proofs.WalkSteps.{turns, turns_not}
use Rattle.body_check.proofs.walk.Walk.turn.Goals as goal

pub returns-then-not-finish : goal.returns-then-not-finish
returns-then-not-finish c =
    λ c2 ps e h t. let A : Types → Type 0 = λ ts. Are c.args.self.now.operands ts in turns_not c2 c.args.self.now c.in-Some.open c.pop.new.self.items ps c.in-Some.ensures.items (λ a. c.if-not-finish.ensures.no refl (subst A (sym (c.results_of.ensures c2)) a)) h t

pub returns-in_ok-push_open-in-Some : goal.returns-in_ok-push_open-in-Some
returns-in_ok-push_open-in-Some c =
    λ c2 ps e h.
    let after : Walk = record { operands = c.turn_side.new.self; opens = c.push_open.new.opens } in
    let A : Types → Type 0 = λ ts. Are c.args.self.now.operands ts in
    let T : List (Option ValType) → Type 0 = λ b. c.turn_side.new.self ≡ record { below = b; here = []; dead = false } in
    turns c2 c.args.self.now after c.in-Some.open c.pop.new.self.items ps c.in-Some.ensures.items c.in_ok-push_open-in-Some.ensures
    (subst A (c.results_of.ensures c2) (c.if-not-finish.ensures.yes refl)) (subst T c.if-not-finish.ensures.below c.turn_side.ensures) h
