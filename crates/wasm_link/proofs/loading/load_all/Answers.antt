use Rattle.std.proofs.Common.{◌∙◌, Option, List, drop, subst, arith, Ok, Err, ◌+◌}
use Rattle.rw_edge.specs.Count.{Faulted}
use Rattle.script_text.specs.declared.script.Load.{Load}
use Rattle.wasm_link.specs.Loading.{Files}
use Rattle.wasm_link.specs.words.Loads.{LoadOf, MoreOf, Continues}
use Rattle.wasm_link.proofs.Loads.{at_item, goes_on, all_loaded, stops, nothing_left}
use Rattle.wasm_link.proofs.loading.load_all.Goals as goal

pub returns-in-Err-clause-answers : goal.returns-in-Err-clause-answers
returns-in-Err-clause-answers g c =
    let told = g.S.Shelf.files c.args.shelf.now in
    let mid = g.S.Shelf.faults c.loop-load.shelf in
    let after = g.S.Shelf.faults c.load_more.new.shelf in
    let loads = c.args.loads.now in
    let load = c.load-item.result in
    let rest = drop (c.loop-load.load-index + 1) loads in
    let C : List Load → Type 0 = λ l. Continues told loads c.loop-load.loaded.names c.loop-load.loaded.modules l in
    let T : Option Files → Type 0 = λ o. LoadOf o (Faulted mid after) load (Err c.in-Err.fault) in
    stops told (g.S.Shelf.faults c.args.shelf.now) mid after loads c.loop-load.loaded load rest c.in-Err.fault
    (subst C (at_item loads c.loop-load.load-index load c.loop-load-test.true c.load-item.is) c.loop-load.invariant.goes)
    c.loop-load.invariant.no_lower (subst T c.loop-load.invariant.files c.in-Err.ensures.answers)

pub loop-load-preserved : goal.loop-load-preserved
loop-load-preserved g c =
    let told = g.S.Shelf.files c.args.shelf.now in
    let mid = g.S.Shelf.faults c.loop-load.shelf in
    let after = g.S.Shelf.faults c.load_more.new.shelf in
    let loads = c.args.loads.now in
    let load = c.load-item.result in
    let rest = drop (c.loop-load.load-index + 1) loads in
    let C : List Load → Type 0 = λ l. Continues told loads c.loop-load.loaded.names c.loop-load.loaded.modules l in
    let T : Option Files → Type 0 = λ o. MoreOf o (Faulted mid after) load c.loop-load.loaded c.load_more.new.loaded (Ok tt) in
    record {
      files = c.load_more.ensures.files ∙ c.loop-load.invariant.files;
      no_lower = omega (arith, c.load_more.ensures.count.no_lower, c.loop-load.invariant.no_lower);
      goes = goes_on told (Faulted mid after) loads c.loop-load.loaded c.load_more.new.loaded load rest
          (subst C (at_item loads c.loop-load.load-index load c.loop-load-test.true c.load-item.is) c.loop-load.invariant.goes)
          (subst T c.loop-load.invariant.files c.in-Ok.ensures.answers);
    }

pub returns-clause-answers : goal.returns-clause-answers
returns-clause-answers g c =
    let told = g.S.Shelf.files c.args.shelf.now in
    let loads = c.args.loads.now in
    let C : List Load → Type 0 = λ l. Continues told loads c.loop-load.loaded.names c.loop-load.loaded.modules l in
    all_loaded told (Faulted (g.S.Shelf.faults c.args.shelf.now) (g.S.Shelf.faults c.loop-load.shelf)) loads c.loop-load.loaded
    (subst C (nothing_left loads c.loop-load.load-index c.loop-load-test.false) c.loop-load.invariant.goes)
