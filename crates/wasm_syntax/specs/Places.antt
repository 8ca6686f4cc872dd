-- The numbers of instructions: an instruction's number is its place among the items of its function's body.
use Rattle.std.specs.Prelude.{◌≡◌, ℕ, ◌+◌, ◌<◌, ◌≤◌, ◌⊎◌, length, slice_get, List, Option, Some, IsTrue}
use Rattle.wasm_values.specs.declared.number.ValType.{ValType}
use Rattle.wasm_syntax.specs.declared.instr.Instr.{Instr}
use Rattle.wasm_syntax.specs.declared.next.Next.{Next}
use Rattle.wasm_syntax.specs.declared.next.Next.TheVariants as next
use Rattle.wasm_syntax.specs.declared.flat.Flat.{Flat}
use Rattle.wasm_syntax.specs.declared.flat.Flat.TheVariants.{One, Block, Loop, If, Else, End}
use Rattle.wasm_syntax.specs.FlatForm.{is_simple, flat_body}
use Rattle.wasm_syntax.specs.Items.{instr_seen}
use Rattle.wasm_syntax.specs.Sides.{rest_from}
use Rattle.wasm_syntax.specs.Trees as tree
use Rattle.wasm_syntax.specs.Trees.{Instruction, Sequence, Empty, Then, IfElse, sequence_of, instruction_of, instr_from}

abbrev mutual
  -- How many places an instruction takes: its own, those of the instructions in it, and one for each `else` and `end`
  -- of it (Core Specification, section 5.4).
  pub size_of : Instruction → ℕ
  size_of (tree.Block ty body) = 1 + size_of_all body + 1
  size_of (tree.Loop ty body) = 1 + size_of_all body + 1
  size_of (tree.If ty first) = 1 + size_of_all first + 1
  size_of (tree.IfElse ty first second) = 1 + size_of_all first + 1 + size_of_all second + 1
  size_of _ = 1

  -- How many places the instructions of a sequence take.
  pub size_of_all : Sequence → ℕ
  size_of_all Empty = 0
  size_of_all (Then i s) = size_of i + size_of_all s

-- The sequence that is left of a body's innermost open part from a place on, up to the part's next `else` or `end`.
unfoldable pub rest_at : List Instr → ℕ → Sequence
rest_at body p = sequence_of (rest_from body p)

-- The item at an instruction's own place.
abbrev pub item_of : Instruction → Flat
item_of (tree.Block ty body) = Block ty
item_of (tree.Loop ty body) = Loop ty
item_of (tree.If ty first) = If ty
item_of (IfElse ty first second) = If ty
item_of i = One (instr_from i)

-- A place of a body is that of an `else` or an `end`, where nothing is left of the innermost part.
pub record StopsAt (body : List Instr) (p : ℕ) : Type 0 where
  pub item : (slice_get (flat_body body) p ≡ Some Else) ⊎ (slice_get (flat_body body) p ≡ Some End)
  pub rest : rest_at body p ≡ Empty

-- The sequences in an instruction that stands at a place begin after that place, and the second side of an `if` after
-- its `else`.
abbrev pub HasPartsAt : List Instr → ℕ → Instruction → Type 0
HasPartsAt body p (tree.Block ty inside) = rest_at body (p + 1) ≡ inside
HasPartsAt body p (tree.Loop ty inside) = rest_at body (p + 1) ≡ inside
HasPartsAt body p (tree.If ty first) = rest_at body (p + 1) ≡ first
HasPartsAt body p (IfElse ty first second) =
    (rest_at body (p + 1) ≡ first) × (slice_get (flat_body body) (p + 1 + size_of_all first) ≡ Some Else) × (rest_at body (p + 1 + size_of_all first + 1) ≡ second)
HasPartsAt body p _ = Unit {0}

-- An instruction stands at a place, its parts at theirs, and a sequence at the place after it.
pub record InstructionAt (body : List Instr) (p : ℕ) (i : Instruction) (s : Sequence) : Type 0 where
  pub item : slice_get (flat_body body) p ≡ Some (item_of i)
  pub within : p + size_of i < length (flat_body body)
  pub rest : rest_at body (p + size_of i) ≡ s
  pub parts : HasPartsAt body p i

-- What stands at a place, as the item there.
abbrev pub next_item : Next → Flat
next_item (next.One i) = One (instr_seen i)
next_item (next.Block ty body after) = Block ty
next_item (next.Loop ty body after) = Loop ty
next_item (next.If ty first second after) = If ty
next_item next.Else = Else
next_item next.End = End

-- At a place stands an instruction without instructions in it, and the code goes on at the next place.
pub record OneAt (body : List Instr) (p : ℕ) (i : Instr) : Type 0 where
  pub simple : IsTrue (is_simple i)
  pub within : p + 1 < length (flat_body body)
  pub rest : rest_at body p ≡ Then (instruction_of i) (rest_at body (p + 1))

-- At a place stands a block or loop, whose inside and what comes after it begin at these places.
pub record PartAt (body : List Instr) (p : ℕ) (part : Sequence → Instruction) (inside after : ℕ) : Type 0 where
  pub begins : inside ≡ p + 1
  pub ends : after ≡ p + size_of (part (rest_at body inside))
  pub inner : inside < after
  pub within : after < length (flat_body body)
  pub rest : rest_at body p ≡ Then (part (rest_at body inside)) (rest_at body after)

-- At a place stands an `if` without `else`: its second side is its `end`, where nothing is left.
pub record IfAt (body : List Instr) (p : ℕ) (ty : Option ValType) (first second after : ℕ) : Type 0 where
  pub begins : first ≡ p + 1
  pub turns : second ≡ first + size_of_all (rest_at body first)
  pub ends : after ≡ second + 1
  pub empty : rest_at body second ≡ Empty
  pub rest : rest_at body p ≡ Then (tree.If ty (rest_at body first)) (rest_at body after)

-- At a place stands an `if` with `else`: its second side begins after the `else`.
pub record IfElseAt (body : List Instr) (p : ℕ) (ty : Option ValType) (first second after : ℕ) : Type 0 where
  pub begins : first ≡ p + 1
  pub turns : second ≡ first + size_of_all (rest_at body first) + 1
  pub ends : after ≡ second + size_of_all (rest_at body second) + 1
  pub rest : rest_at body p ≡ Then (IfElse ty (rest_at body first) (rest_at body second)) (rest_at body after)

-- At a place stands an `if` with or without `else`, whose sides and what comes after it begin at these places.
pub record ChoiceAt (body : List Instr) (p : ℕ) (ty : Option ValType) (first second after : ℕ) : Type 0 where
  pub begins : first ≡ p + 1
  pub inner : first ≤ second
  pub outer : second < after
  pub within : after < length (flat_body body)
  pub sides : IfAt body p ty first second after ⊎ IfElseAt body p ty first second after

-- At a place of a body stands this; what is left from there is told by what is left at the places that it names.
abbrev pub IsNext : List Instr → ℕ → Next → Type 0
IsNext body p (next.One i) = OneAt body p (instr_seen i)
IsNext body p (next.Block ty inside after) = PartAt body p (tree.Block ty) inside after
IsNext body p (next.Loop ty inside after) = PartAt body p (tree.Loop ty) inside after
IsNext body p (next.If ty first second after) = ChoiceAt body p ty first second after
IsNext body p next.Else = (rest_at body p ≡ Empty) × (p + 1 < length (flat_body body))
IsNext body p next.End = rest_at body p ≡ Empty
