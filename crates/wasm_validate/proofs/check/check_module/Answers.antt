use Rattle.std.proofs.Common.{List, subst}
use Rattle.wasm_syntax.specs.declared.module.FuncType.{FuncType}
use Rattle.wasm_typing.specs.faults.Faults.{NoFault, type_fault}
use Rattle.wasm_validate.proofs.ValidLemmas.{one_table, one_memory, has_types}
use Rattle.wasm_validate.proofs.check.check_module.Goals as goal

pub scope_of-requires-clause-table : goal.scope_of-requires-clause-table
scope_of-requires-clause-table c = one_table c.args.module.now c.in_ok-check_imports.ensures c.in_ok-check_tables.ensures

pub scope_of-requires-clause-memory : goal.scope_of-requires-clause-memory
scope_of-requires-clause-memory c = one_memory c.args.module.now c.in_ok-check_imports.ensures c.in_ok-check_memories.ensures

pub check_bodies-requires-clause-types : goal.check_bodies-requires-clause-types
check_bodies-requires-clause-types c = has_types c.args.module.now (let N : List FuncType → Type 0 = λ ts. NoFault (λ n. type_fault) ts in subst N c.as_slice.ensures c.in_ok-check_types.ensures) c.in_ok-check_imports.ensures c.in_ok-check_funcs.ensures
