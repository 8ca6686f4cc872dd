use Rattle.std.proofs.Common.{◌≡◌, List, Ok, Err, map, IfSome, ℕ, subst}
use Rattle.std.proofs.lemmas.Result.{err_from_is_err_and}
use Rattle.term_logic.specs.Table.{tree_at}
use Rattle.symbolic_state.specs.Refused.{refusal_of}
use Rattle.symbolic_assertions.specs.Wanting.{wanted_of}
use Rattle.symbolic_assertions.specs.words.Stages.{parts_of}
use Rattle.symbolic_assertions.proofs.InStages.{entails-all, entails-not}
use Rattle.symbolic_assertions.proofs.entailing.entail.Goals as goal

pub returns-in_err-parts_of-clause-done : goal.returns-in_err-parts_of-clause-done
returns-in_err-parts_of-clause-done c =
    let p = err_from_is_err_and c.from_residual-in_err-parts_of.result c.from_residual-in_err-parts_of.ensures.1 in
    let new = c.terms_wanted.new.state in
    rw (p.1, p.2)
    (entails-not c.args.state.now new c.args.wanted.now c.args.with.now c.in_ok-terms.terms c.requires.within c.in_ok-terms.ensures.taken c.in_ok-terms.ensures.state c.in_ok-terms.ensures.kept
    (refusal_of c.in_err-parts_of.field-0.0)
    (subst (λ (ids : List ℕ). IfSome (refusal_of c.in_err-parts_of.field-0.0) (λ e. parts_of new.state (wanted_of new.terms c.args.wanted.now) c.args.with.now (map (tree_at new.terms) ids) ≡ Err e)) c.as_slice.ensures c.in_err-parts_of.ensures))

pub returns-clause-done : goal.returns-clause-done
returns-clause-done c =
    let new = c.terms_wanted.new.state in
    entails-all c.args.state.now new c.args.wanted.now c.args.with.now c.in_ok-terms.terms c.requires.within c.in_ok-terms.ensures.taken c.in_ok-terms.ensures.state c.in_ok-terms.ensures.kept
    (subst (λ (ids : List ℕ). parts_of new.state (wanted_of new.terms c.args.wanted.now) c.args.with.now (map (tree_at new.terms) ids) ≡ Ok tt) c.as_slice.ensures c.in_ok-parts_of.ensures)
