use Rattle.std.proofs.Common.{◌≡◌, ◌-◌, suc, ap, sym, subst, ◌∙◌, nat_eq, ◌==◌, Some, if◌then◌else◌, arith}
use Rattle.std.specs.HashMap.{get}
use Rattle.notes.specs.declared.outline.Note.{Note}
use Rattle.function_notes.proofs.Walks.{noted_step, NotedFrom}
use Rattle.function_notes.proofs.noted.places_of.Goals as goal

pub loop-place-preserved : goal.loop-place-preserved
loop-place-preserved c =
    let back : c.loop-place.place ≡ suc (c.loop-place.place - 1) = omega arith in
    noted_step c.args.notes.now (c.loop-place.place - 1) c.index-notes-place.result (get nat_eq c.loop-place.places) (get nat_eq c.insert.new.self)
    (omega arith) c.index-notes-place.is
    (λ f. c.in_ok-insert.ensures.updates.0 f ∙ ap (λ (x : Note). if x.at == f then Some (c.loop-place.place - 1) else get nat_eq c.loop-place.places f) (sym c.index-notes-place.is))
    (subst (λ j. NotedFrom c.args.notes.now j (get nat_eq c.loop-place.places)) back c.loop-place.invariant)
