use Rattle.std.proofs.Common.{length, take, nat_eq, ap, ◌∙◌}
use Rattle.std.specs.List.{filter_map}
use Rattle.wasm_syntax.specs.declared.module.Import.{Import}
use Rattle.wasm_typing.specs.Valid.{table_import, memory_import}
use Rattle.wasm_typing.specs.faults.Faults.{import_fault, import_row}
use Rattle.body_check.proofs.SectionLemmas.{none_more_read, none_at_end, first_fault_read, counted_read, grown}
use Rattle.wasm_validate.proofs.sections.check_imports.Goals as goal

pub loop-n-preserved : goal.loop-n-preserved
loop-n-preserved c =
    let m = c.args.module.now in
    let ys = c.as_slice-import-items.result.now in
    let tables = counted_read (λ (i : Import). table_import i.kind) m.imports ys c.loop-n.n c.import-item.result c.loop-n.tables c.table_count-tables.result
    c.as_slice-import-items.ensures c.loop-n-test.true c.import-item.is c.loop-n.invariant.1 c.table_count-tables.ensures in
    let memories = counted_read (λ (i : Import). memory_import i.kind) m.imports ys c.loop-n.n c.import-item.result c.loop-n.memories c.memory_count-memories.result
    c.as_slice-import-items.ensures c.loop-n-test.true c.import-item.is c.loop-n.invariant.2 c.memory_count-memories.ensures in (
      none_more_read (import_fault m) m.imports ys c.loop-n.n c.import-item.result c.fault_of_import.result
          c.loop-n.invariant.0 c.as_slice-import-items.ensures c.loop-n-test.true c.import-item.is
          (c.fault_of_import.ensures ∙ ap (λ t. import_row (length m.types) (nat_eq t 0) (nat_eq c.loop-n.memories 0) c.import-item.result.kind) c.loop-n.invariant.1 ∙
          ap (λ k. import_row (length m.types) (nat_eq (length (filter_map (λ (i : Import). table_import i.kind) (take c.loop-n.n m.imports))) 0) (nat_eq k 0) c.import-item.result.kind) c.loop-n.invariant.2)
          c.in_default.is,
      tables,
      memories,
      grown _ _ _ _ c.loop-n.invariant.3 c.table_count-tables.ensures,
      grown _ _ _ _ c.loop-n.invariant.4 c.memory_count-memories.ensures,
    )

pub returns : goal.returns
returns c = none_at_end (import_fault c.args.module.now) c.args.module.now.imports c.as_slice-import-items.result.now c.loop-n.n c.as_slice-import-items.ensures c.loop-n-test.false c.loop-n.invariant.0

pub returns-in-Some : goal.returns-in-Some
returns-in-Some c =
    let m = c.args.module.now in
    first_fault_read (import_fault m) m.imports c.as_slice-import-items.result.now c.args.places.now c.loop-n.n c.import-item.result c.fault_of_import.result c.in-Some.word
    c.loop-n.invariant.0 c.as_slice-import-items.ensures c.loop-n-test.true c.import-item.is
    (c.fault_of_import.ensures ∙ ap (λ t. import_row (length m.types) (nat_eq t 0) (nat_eq c.loop-n.memories 0) c.import-item.result.kind) c.loop-n.invariant.1 ∙
    ap (λ k. import_row (length m.types) (nat_eq (length (filter_map (λ (i : Import). table_import i.kind) (take c.loop-n.n m.imports))) 0) (nat_eq k 0) c.import-item.result.kind) c.loop-n.invariant.2)
    c.in-Some.is c.requires
