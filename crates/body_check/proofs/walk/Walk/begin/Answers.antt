use Rattle.std.proofs.Common.{◌≡◌, [], ◌∷◌, ◌++◌, false, refl, subst}
use Rattle.body_check.specs.declared.open.Floor.{Floor}
use Rattle.body_check.proofs.WalkLemmas.{opened}
use Rattle.body_check.specs.declared.walk.Walk.{Walk}
use Rattle.body_check.proofs.WalkSteps.{begins, begins_not}
use Rattle.body_check.proofs.walk.Walk.begin.Goals as goal

pub returns-then-not-take_choice : goal.returns-then-not-take_choice
returns-then-not-take_choice c =
    λ c2 ps h t. begins_not c2 c.args.self.now c.args.head ps (c.if-not-take_choice.ensures.no refl) h t

pub returns : goal.returns
returns c =
    λ c2 ps h.
    let after : Walk = record { operands = c.begin-floor.new.self; opens = c.push_open.new.opens } in
    begins c2 c.args.self.now after c.take_choice.new.operands c.args.head ps
    c.take_choice.ensures.below (c.if-not-take_choice.ensures.yes refl) c.begin-floor.ensures.now
    (subst (λ (f : Floor). c.push_open.new.opens.items ≡ c.args.self.now.opens.items ++ opened c.args.head false f ∷ []) c.begin-floor.ensures.floor c.in_ok-push_open.ensures) h
