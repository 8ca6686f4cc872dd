use Rattle.std.proofs.Common.{◌≡◌, ◌++◌}
use Rattle.binary_grammar.specs.Bounds.{copies}
use Rattle.wasm_binary.proofs.code.push_copies.Given as goal

abbrev pub invariant-loop : goal.invariant-loop
invariant-loop l = l.locals ≡ l.fn.locals ++ copies l.counter l.ty
