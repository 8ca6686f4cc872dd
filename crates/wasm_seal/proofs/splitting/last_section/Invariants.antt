use Rattle.std.proofs.Common.{ℕ, List, length}
use Rattle.wasm_seal.specs.words.Parts.{EndsWith}
use Rattle.wasm_seal.proofs.splitting.last_section.Given as goal

-- what is left ends with what the whole ends with
abbrev pub invariant-loop-after : goal.invariant-loop-after
invariant-loop-after l = record {
  there : (last : List ℕ) → EndsWith l.sections last → EndsWith l.rest last;
  back : (last : List ℕ) → EndsWith l.rest last → EndsWith l.sections last;
}

abbrev pub decreases-loop-after : goal.decreases-loop-after
decreases-loop-after l = length l.rest
