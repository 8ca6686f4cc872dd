use Rattle.std.proofs.Common.{ℕ, ◌+◌, List, Option, IsSomeAnd, IsTrue, MatchOption, refl, sym, ap, subst, ◌∙◌}
use Rattle.wasm_syntax.specs.declared.flat.Flat.{Flat}
use Rattle.wasm_syntax.specs.FlatForm.{flat_body}
use Rattle.wasm_syntax.specs.Sides.{is_if, EndsAt, TurnsAt, HasNoElse}
use Rattle.wasm_syntax.specs.Places.{ChoiceAt}
use Rattle.wasm_syntax.proofs.RestLaws.{live_inside_if}
use Rattle.wasm_syntax.proofs.NextLaws.{ChoiceAt-If, ChoiceAt-IfElse}
use Rattle.wasm_syntax.proofs.code.Code.sides.Goals as goal
use Rattle.wasm_syntax.proofs.code.Code.sides.Goals.{in-Some, in-None}

pub sides_at-turn-requires : goal.sides_at-turn-requires
sides_at-turn-requires c =
    let Is : Option Flat → Type 0 = λ o. IsSomeAnd o (λ x. IsTrue (is_if x)) in
    live_inside_if _ c.args.self.now c.args.position (c.as_slice.ensures ∙ c.self.invariant.form ∙ ap flat_body c.self.view_is) (subst Is (sym c.requires) refl)

pub returns-clause-next : goal.returns-clause-next
returns-clause-next c =
    let body = c.args.self.now in
    let p = c.args.position in
    let h = c.sides_at-turn.ensures in
    let e = c.sides_at-turn.result.1 in
    let same = c.as_slice.ensures ∙ c.self.invariant.form ∙ ap flat_body c.self.view_is in
    let Ends : List Flat → Type 0 = λ xs. EndsAt xs (p + 1) e in
    let ends = subst Ends same h.end in
    let At : ℕ → Type 0 = λ second. ChoiceAt body p c.args.ty (p + 1) second (e + 1) in
    let Turns : Option ℕ → Type 0 = λ o. MatchOption o (HasNoElse (flat_body body) (p + 1)) (TurnsAt (flat_body body) (p + 1)) in
    let Turn : List Flat → Type 0 = λ xs. MatchOption c.sides_at-turn.result.0 (HasNoElse xs (p + 1)) (TurnsAt xs (p + 1)) in
    let turns : Turns c.sides_at-turn.result.0 = subst Turn same h.turn in
    elim c.match-turn.branch [
      | in-Some w ↦ subst At (sym w.result-is) (ChoiceAt-IfElse _ _ _ _ _ c.requires ends (subst Turns w.in-Some.is turns))
      | in-None w ↦ subst At (sym w.result-is) (ChoiceAt-If _ _ _ _ c.requires ends (subst Turns w.in-None.is turns))
    ]
