use Rattle.std.proofs.Common.{map, take}
use Rattle.wasm_syntax.specs.declared.module.Export.{Export}
use Rattle.wasm_typing.specs.faults.Faults.{export_fault}
use Rattle.body_check.proofs.SectionLemmas.{none_more_read, none_at_end, first_fault_read}
use Rattle.wasm_validate.proofs.NameLemmas.{names_more}
use Rattle.wasm_validate.proofs.sections.check_exports.Goals as goal

pub loop-n-preserved : goal.loop-n-preserved
loop-n-preserved c =
    let m = c.args.module.now in
    let ys = c.as_slice-export-items.result.now in
    let seen = map (λ (e : Export). e.name) (take c.loop-n.n m.exports) in
    let made = c.in_ok-word.ensures seen c.loop-n.invariant.1 in (
      none_more_read (export_fault m) m.exports ys c.loop-n.n c.export-item.result c.in_ok-word.field-0
          c.loop-n.invariant.0 c.as_slice-export-items.ensures c.loop-n-test.true c.export-item.is made.0 c.in_default.is,
      names_more (λ (e : Export). e.name) m.exports ys c.loop-n.n c.export-item.result c.fault_of_export.new.names
          c.as_slice-export-items.ensures c.loop-n-test.true c.export-item.is (made.1 c.in_default.is),
    )

pub returns : goal.returns
returns c = none_at_end (export_fault c.args.module.now) c.args.module.now.exports c.as_slice-export-items.result.now c.loop-n.n c.as_slice-export-items.ensures c.loop-n-test.false c.loop-n.invariant.0

pub returns-in-Some : goal.returns-in-Some
returns-in-Some c =
    let m = c.args.module.now in
    let seen = map (λ (e : Export). e.name) (take c.loop-n.n m.exports) in
    first_fault_read (export_fault m) m.exports c.as_slice-export-items.result.now c.args.places.now c.loop-n.n c.export-item.result c.in_ok-word.field-0 c.in-Some.word
    c.loop-n.invariant.0 c.as_slice-export-items.ensures c.loop-n-test.true c.export-item.is
    (c.in_ok-word.ensures seen c.loop-n.invariant.1).0 c.in-Some.is c.requires.places
