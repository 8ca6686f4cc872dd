use Rattle.std.proofs.Common.{sym, ap, ◌∙◌}
use Rattle.wasm_store.specs.declared.store.TableInst.{TableInst}
use Rattle.wasm_store.proofs.FrameLaws.{same_inst}
use Rattle.wasm_instantiate.specs.HostAnswers.{lets_grow_table}
use Rattle.wasm_instantiate.proofs.WriteLemmas.{table_there, table_grown}
use Rattle.wasm_instantiate.proofs.writing.grow_table.Goals as goal

pub returns-in-Ok : goal.returns-in-Ok
returns-in-Ok c = λ policy.
    let s = c.args.store.now in
    let pool = c.is_in_pool.ensures.0 c.if-not-is_in_pool.false in
    let f = table_there s c.args.table c.requires pool in
    let read = c.index-as_slice-table in
    let same = same_inst s.tables c.as_slice.result.now c.args.table read.result f.0 read.is c.as_slice.ensures f.1 in
    table_grown policy s c.args.table c.args.entries c.add_entries.new.tables f.0 c.lets_grow_table.result pool f.1 (
    c.lets_grow_table.ensures ∙ ap (λ (x : TableInst). lets_grow_table s x c.args.entries) (sym same)
    ) c.if-not-lets_grow_table.false (c.in-Ok.ensures.ok f.0 f.1)
