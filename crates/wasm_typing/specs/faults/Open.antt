-- Bodies that are read up to one of their items, with the blocks that are open there left open.
use Rattle.std.specs.Prelude.{◌≡◌, ℕ, ◌+◌, ◌<◌, List, [], ◌∷◌, length, take, reverse, Option, Some, None}
use Rattle.wasm_values.specs.declared.number.ValType.TheVariants.{I32}
use Rattle.wasm_syntax.specs.declared.instr.Instr.{Instr}
use Rattle.wasm_syntax.specs.declared.flat.Head.{Head}
use Rattle.wasm_syntax.specs.declared.flat.Head.TheVariants.{Block, Loop, If}
use Rattle.wasm_syntax.specs.Trees.{sequence_of}
use Rattle.wasm_syntax.specs.Parts.{Part, parts_of}
use Rattle.wasm_syntax.specs.FlatForm.{flat_body}
use Rattle.wasm_typing.specs.Typing.{Types, Context, types_of, SequenceTyped, BodyTyped}

-- The results that a part leaves at its `end`: those of its block, or of the function (section 3.3.5).
abbrev pub part_results : Context → Option Head → Types
part_results c None = c.results
part_results c (Some (Block ty)) = types_of ty
part_results c (Some (Loop ty)) = types_of ty
part_results c (Some (If ty)) = types_of ty

-- What a branch to a part's label takes: nothing for a loop, and else its results (section 3.3.5).
abbrev pub label_of : Context → Option Head → Types
label_of c (Some (Loop ty)) = []
label_of c head = part_results c head

-- The labels of open parts, the innermost first.
abbrev pub labels_of : Context → List Part → List Types
labels_of c [] = []
labels_of c (p ∷ around) = label_of c p.head ∷ labels_of c around

-- The operands before a part was begun, by those below it: an `if` took an i32.
abbrev pub before_part : Option Head → Types → Types
before_part (Some (If ty)) below = I32 ∷ below
before_part head below = below

-- The first side of an `if` whose `else` was read leaves the results.
abbrev pub FirstSideTyped : Context → List Types → Option Head → Option (List Instr) → Type 0
FirstSideTyped c labels head None = Unit {0}
FirstSideTyped c labels head (Some first) = SequenceTyped c labels (sequence_of first) [] (part_results c head)

-- Open parts, the innermost first, have a typing: in each the instructions so far have one, and leave some operands, and
-- over these the next part was begun (section 3.3.6).
abbrev pub PartsTyped : Context → (inner : Option Head) → List Part → Type 0
PartsTyped c inner [] = Unit {0}
PartsTyped c inner (p ∷ around) =
    ((below : Types) × SequenceTyped c (labels_of c (p ∷ around)) (sequence_of p.instrs) [] (before_part inner below))
    × FirstSideTyped c (labels_of c (p ∷ around)) p.head p.first
    × PartsTyped c p.head around

-- The parts that are open before the item at a place, the innermost first.
abbrev pub parts_before : List Instr → ℕ → List Part
parts_before body place = reverse (parts_of (take place (flat_body body)))

-- A body has a typing through the item at a place: at its last `end` as a whole, and before that with its open blocks
-- left open.
abbrev pub TypedThrough : Context → List Instr → ℕ → Type 0
TypedThrough c body place =
    (place + 1 < length (flat_body body) → PartsTyped c None (parts_before body (place + 1)))
    × (place + 1 ≡ length (flat_body body) → BodyTyped c (sequence_of body))
