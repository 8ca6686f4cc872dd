use Rattle.std.proofs.Common.{refl, sym, subst}
use Rattle.body_check.specs.declared.walk.Walk.{Walk}
use Rattle.wasm_typing.specs.Typing.{Types}
use Rattle.body_check.specs.words.Operands.{Are, Gave}
use Rattle.body_check.proofs.WalkSteps.{ends, ends_not}
use Rattle.body_check.proofs.walk.Walk.end.Goals as goal

pub returns-then-not-may_end : goal.returns-then-not-may_end
returns-then-not-may_end c =
    λ c2 ps h t. ends_not c2 c.args.self.now c.in-Some.open c.pop.new.self.items ps c.in-Some.ensures.items (λ a m. c.if-not-may_end.ensures.no refl m) h t

pub returns-then-not-finish : goal.returns-then-not-finish
returns-then-not-finish c =
    λ c2 ps h t. let A : Types → Type 0 = λ ts. Are c.args.self.now.operands ts in ends_not c2 c.args.self.now c.in-Some.open c.pop.new.self.items ps c.in-Some.ensures.items (λ a m. c.if-not-finish.ensures.no refl (subst A (sym (c.results_of.ensures c2)) a)) h t

pub returns-in_ok-give_with-in-Some : goal.returns-in_ok-give_with-in-Some
returns-in_ok-give_with-in-Some c =
    λ c2 ps h.
    let after : Walk = record { operands = c.give_with.new.self; opens = c.pop.new.self } in
    let A : Types → Type 0 = λ ts. Are c.args.self.now.operands ts in
    let G : Types → Type 0 = λ ts. Gave (Are c.end.new.self) (Are c.give_with.new.self) ts in
    ends c2 c.args.self.now after c.finish.new.self c.end.new.self c.in-Some.open c.pop.new.self.items ps c.in-Some.ensures.items refl
    (subst A (c.results_of.ensures c2) (c.if-not-finish.ensures.yes refl)) (c.if-not-may_end.ensures.yes refl)
    c.if-not-finish.ensures.below c.end.ensures c.in_ok-give_with-in-Some.ensures.below (subst G (c.results_of-in-Some.ensures c2) c.in_ok-give_with-in-Some.ensures.gave) h
