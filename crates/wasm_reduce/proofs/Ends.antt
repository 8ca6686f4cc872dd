-- Past the end of code nothing is left.
use Rattle.std.proofs.Common.{◌≡◌, ℕ, zero, suc, ◌≤◌, List, [], length, refl, ap, ◌∙◌, arith}
use Rattle.std.proofs.lemmas.List.{drop_all}
use Rattle.wasm_syntax.specs.declared.instr.Instr.{Instr}
use Rattle.wasm_syntax.specs.FlatForm.{flat_body}
use Rattle.wasm_syntax.specs.Sides.{sides_in, sides_from, first_instrs, read}
use Rattle.wasm_syntax.specs.Trees.{Empty, sequence_of}
use Rattle.wasm_syntax.specs.Places.{rest_at}
use Rattle.wasm_syntax.proofs.NextLaws.{rest_at-zero}
use Rattle.wasm_syntax.proofs.NumberLaws.{length-flat_body}

read_nothing : sequence_of (first_instrs (sides_in (read []))) ≡ Empty
unfolding read
read_nothing = refl

pub past_the_end : (body : List Instr) (p : ℕ) → length (flat_body body) ≤ p → rest_at body p ≡ Empty
unfolding rest_at sides_from
past_the_end body p h = ap (λ items. sequence_of (first_instrs (sides_in (read items)))) (drop_all p (flat_body body) h) ∙ read_nothing

-- No code has nothing left anywhere, and is short.
pub none_short : length (flat_body []) ≡ 1
none_short = length-flat_body []

pub none_left : (p : ℕ) → rest_at [] p ≡ Empty
none_left zero = rest_at-zero []
none_left (suc p) = past_the_end [] (suc p) (omega (arith, none_short))
