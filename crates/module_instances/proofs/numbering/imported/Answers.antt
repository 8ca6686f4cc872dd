use Rattle.wasm_sessions.specs.Instantiation.{func_in_extern, table_in_extern, memory_in_extern, global_in_extern}
use Rattle.module_instances.proofs.BuildingLemmas.{gathered_more}
use Rattle.module_instances.proofs.numbering.imported.Goals as goal

pub loop-given-preserved : goal.loop-given-preserved
loop-given-preserved c =
    let xs = c.args.externs.now in
    let n = c.loop-given.given-index in
    let i = c.loop-given.invariant in
    let within = c.loop-given-test.true in
    record {
      funcs = gathered_more func_in_extern xs n _ c.loop-given.funcs c.push_func.new.funcs within i.funcs c.in_ok-push_func.ensures;
      tables = gathered_more table_in_extern xs n _ c.loop-given.tables c.push_table.new.tables within i.tables c.in_ok-push_table.ensures;
      memories = gathered_more memory_in_extern xs n _ c.loop-given.memories c.push_memory.new.memories within i.memories c.in_ok-push_memory.ensures;
      globals = gathered_more global_in_extern xs n _ c.loop-given.globals c.push_global.new.globals within i.globals c.in_ok-push_global.ensures;
    }
