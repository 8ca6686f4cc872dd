use Rattle.std.proofs.Common.{◌≡◌, drop}
use Rattle.wasm_typing.specs.Valid.{globals_of}
use Rattle.outline_rules.specs.Entry.{globals_begun}
use Rattle.outline_entry.proofs.globals.begin_globals.Given as goal

abbrev pub invariant-loop-k : goal.invariant-loop-k
invariant-loop-k l =
    globals_begun l.setting l.at_entry 0 (globals_of l.setting.code) l.fn.state.state
    ≡ globals_begun l.setting l.at_entry l.k (drop l.k (globals_of l.setting.code)) l.state.state
