use Rattle.std.proofs.Common.{◌≡◌, ◌≤◌, length, take}
use Rattle.std.specs.List.{filter_map}
use Rattle.wasm_syntax.specs.declared.module.Import.{Import}
use Rattle.wasm_typing.specs.Valid.{table_import, memory_import}
use Rattle.wasm_typing.specs.faults.Faults.{import_fault}
use Rattle.body_check.proofs.SectionLemmas.{NoneBefore}
use Rattle.wasm_validate.proofs.sections.check_imports.Given as goal

abbrev pub invariant-loop-n : goal.invariant-loop-n
invariant-loop-n l = NoneBefore (import_fault l.«module») l.«module».imports l.n
    × (l.tables ≡ length (filter_map (λ (i : Import). table_import i.kind) (take l.n l.«module».imports)))
    × (l.memories ≡ length (filter_map (λ (i : Import). memory_import i.kind) (take l.n l.«module».imports)))
    × (l.tables ≤ l.n) × (l.memories ≤ l.n)
