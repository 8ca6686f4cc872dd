use Rattle.std.proofs.Common.{◌≡◌, ◌<◌, length, refl, ap, sym, ◌∙◌, [], arith}
use Rattle.std.specs.Prelude.{slice_get, Some}
use Rattle.std.proofs.lemmas.Option.{slice_get_read, get_or_from_slice_get}
use Rattle.std.proofs.lemmas.Result.{err_from_is_err_and}
use Rattle.outline_check.specs.First.{HasPlaceEach}
use Rattle.outline_check.specs.Outlines.{notes_of}
use Rattle.outline_check.proofs.ModuleLemmas.{IsNext, length-zip, zip-at, simple-at, fits-at, functions-on, functions-refused}
use Rattle.outline_check.proofs.check.check_functions.Goals as goal
use Rattle.outline_check.proofs.check.check_functions.Goals.{After-as_slice-places}

pub bounds-code-f : goal.bounds-code-f
bounds-code-f c = omega (arith, length-zip HasPlaceEach c.args.funcs.now c.args.code.now c.requires.marked)

pub check_function-requires-clause-simple : goal.check_function-requires-clause-simple
check_function-requires-clause-simple c =
    simple-at c.args.funcs.now c.loop-f.f c.index-funcs-f.result c.requires.first
    (slice_get_read c.args.funcs.now (length c.args.funcs.now) c.loop-f.f c.index-funcs-f.result refl c.loop-f-test.true c.index-funcs-f.is)

code_read : (c : After-as_slice-places) → slice_get c.args.code.now c.loop-f.f ≡ Some c.index-code-f.result
code_read c =
    let within : c.loop-f.f < length c.args.code.now =
    omega (arith, c.loop-f-test.true, length-zip HasPlaceEach c.args.funcs.now c.args.code.now c.requires.marked) in
    slice_get_read c.args.code.now (length c.args.code.now) c.loop-f.f c.index-code-f.result refl within c.index-code-f.is

next : (c : After-as_slice-places) →
    IsNext c.args.notes.now c.args.code.now c.args.funcs.now c.loop-f.f c.index-funcs-f.result c.as_slice-invariant.result.now
    c.notes_here-next.result.0.now c.as_slice-places.result.now
next c = record {
  get = slice_get_read c.args.funcs.now (length c.args.funcs.now) c.loop-f.f c.index-funcs-f.result refl c.loop-f-test.true c.index-funcs-f.is;
  own_notes = c.notes_here-next.ensures.notes ∙ ap (λ notes. notes_of notes c.loop-f.f) c.as_slice.ensures;
  own_places = c.as_slice-places.ensures ∙ sym (get_or_from_slice_get c.args.code.now c.loop-f.f c.index-code-f.result [] (code_read c));
  invariant = c.as_slice-invariant.ensures;
}

pub check_function-requires-clause-notes : goal.check_function-requires-clause-notes
check_function-requires-clause-notes c =
    rw (next c).own_notes
    (fits-at c.args.funcs.now c.args.notes.now.funcs c.loop-f.f c.index-funcs-f.result c.requires.fit (next c).get)

pub check_function-requires-clause-places : goal.check_function-requires-clause-places
check_function-requires-clause-places c =
    rw c.as_slice-places.ensures
    (zip-at HasPlaceEach c.args.funcs.now c.args.code.now c.loop-f.f c.index-funcs-f.result c.index-code-f.result c.requires.marked
    (next c).get (code_read c))

pub returns-in_err-check_function : goal.returns-in_err-check_function
returns-in_err-check_function c =
    let p = err_from_is_err_and c.from_residual.result c.from_residual.ensures.1 in
    rw (p.1, p.2)
    (functions-refused c.args.globals c.args.notes.now c.args.code.now c.args.funcs.now c.loop-f.f c.index-funcs-f.result
    c.as_slice-invariant.result.now c.notes_here-next.result.0.now c.as_slice-places.result.now
    (next (goal.at.returns-in_err-check_function c).After-as_slice-places) c.in_err-check_function.field-0.0 _
    c.loop-f.invariant.so_far c.in_err-check_function.ensures)

pub loop-f-preserved : goal.loop-f-preserved
loop-f-preserved c = record {
  cursor = rw c.as_slice.ensures at c.notes_here-next.ensures.cursor;
  so_far =
      functions-on c.args.globals c.args.notes.now c.args.code.now c.args.funcs.now c.loop-f.f c.index-funcs-f.result
      c.as_slice-invariant.result.now c.notes_here-next.result.0.now c.as_slice-places.result.now
      (next (goal.at.loop-f-preserved c).After-as_slice-places) _ _ c.loop-f.invariant.so_far c.in_ok-check_function.ensures;
}
