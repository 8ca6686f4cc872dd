-- How long a sealed file is.
use Rattle.std.proofs.Common.{◌≡◌, ℕ, ◌+◌, ◌/◌, ◌%◌, ◌^◌, ◌<◌, ◌≤◌, List, [], ◌∷◌, ◌++◌, length, arith}
use Rattle.std.proofs.lemmas.List.{length-append}
use Rattle.binary_grammar.specs.Numbers.{SpellsU32, base_128}
use Rattle.wasm_write.specs.Shortest.{number_text}
use Rattle.wasm_seal.specs.Sealed.{notes_name, sealed_file}

-- no spelling of a number is shorter than its text
abbrev pub AreShortest : Type 0
AreShortest = (text : List ℕ) (n : ℕ) → SpellsU32 text n → length (number_text n) ≤ length text

-- a number in four bytes
abbrev four : ℕ → List ℕ
four n = (128 + n % 128) ∷ (128 + n / 128 % 128) ∷ (128 + n / 128 / 128 % 128) ∷ n / 128 / 128 / 128 ∷ []

four_spells : (n : ℕ) → n < 2 ^ 28 → SpellsU32 (four n) n
four_spells n lt =
    let value : base_128 (four n) ≡ n = omega arith in
    ((omega arith, (omega arith, (omega arith, omega arith))), omega arith, value, omega arith)

pub few_bytes : AreShortest → (bytes notes : List ℕ) → length notes ≤ 16777216 → length (sealed_file bytes notes) ≤ length bytes + length notes + 18
unfolding sealed_file
few_bytes shortest bytes notes few =
    let n = 13 + length notes in
    let contents = 12 ∷ (notes_name ++ notes) in
    let size : length (number_text n) ≤ 4 = shortest (four n) n (four_spells n (omega arith)) in
    omega (arith, length-append bytes (0 ∷ (number_text n ++ contents)), length-append (number_text n) contents, length-append notes_name notes)
