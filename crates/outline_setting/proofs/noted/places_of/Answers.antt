use Rattle.std.proofs.Common.{◌≡◌, ◌-◌, suc, ap, sym, subst, ◌∙◌, nat_eq, ◌==◌, Some, if◌then◌else◌, arith}
use Rattle.std.specs.HashMap.{get}
use Rattle.notes.specs.declared.outline.FuncNotes.{FuncNotes}
use Rattle.outline_setting.proofs.Walks.{noted_step, NotedFrom}
use Rattle.outline_setting.proofs.noted.places_of.Goals as goal

pub loop-place-preserved : goal.loop-place-preserved
loop-place-preserved c =
    let back : c.loop-place.place ≡ suc (c.loop-place.place - 1) = omega arith in
    noted_step c.args.funcs.now (c.loop-place.place - 1) c.index-funcs-place.result (get nat_eq c.loop-place.places) (get nat_eq c.insert.new.self)
    (omega arith) c.index-funcs-place.is
    (λ f. c.in_ok-insert.ensures.updates.0 f ∙ ap (λ (x : FuncNotes). if x.func == f then Some (c.loop-place.place - 1) else get nat_eq c.loop-place.places f) (sym c.index-funcs-place.is))
    (subst (λ j. NotedFrom c.args.funcs.now j (get nat_eq c.loop-place.places)) back c.loop-place.invariant)
