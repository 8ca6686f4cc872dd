use Rattle.std.proofs.Common.{◌≡◌, length, take}
use Rattle.binary_grammar.specs.words.SectionReading.{funcs_of, places_of}
use Rattle.wasm_binary.proofs.decoder.join_funcs.Given as goal

abbrev pub invariant-loop-body : goal.invariant-loop-body
invariant-loop-body l =
    (l.funcs ≡ funcs_of (take (length l.yielded) l.declared) l.yielded) × (l.code ≡ places_of l.yielded) × (length l.funcs ≡ length l.yielded)
