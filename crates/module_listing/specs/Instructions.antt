-- The lines of instructions. The form of the lines is this project's own.
use Rattle.std.specs.Prelude.{ℕ, List, [], ◌∷◌, ◌++◌, Option, Some, None, codes}
use Rattle.std.specs.Fmt.{decimal}
use Rattle.std.specs.List.{flat_map, zip}
use Rattle.wasm_values.specs.declared.number.ValType.{ValType}
use Rattle.wasm_values.specs.declared.number.ValType.TheVariants.{I32, I64}
use Rattle.wasm_values.specs.declared.number.Val.{Val}
use Rattle.wasm_values.specs.declared.number.Val.TheVariants as val
use Rattle.wasm_values.specs.Places.{place_text}
use Rattle.wasm_syntax.specs.declared.instr.Instr.{Instr, Plain, Num, Const, LocalGet, LocalSet, LocalTee, GlobalGet, GlobalSet, Load, Store, Block', Loop', If', Br, BrIf, BrTable, Call, CallIndirect}
use Rattle.wasm_syntax.specs.declared.flat.Flat.{Flat}
use Rattle.wasm_syntax.specs.declared.flat.Flat.TheVariants as item
use Rattle.module_listing.specs.Names.{instr_name}

-- A value type (section 6.4.1).
abbrev pub value_type_text : ValType → List ℕ
value_type_text I32 = codes "i32"
value_type_text I64 = codes "i64"

-- A block type behind a space, or nothing where there is no result.
abbrev pub block_type_text : Option ValType → List ℕ
block_type_text None = []
block_type_text (Some t) = 32 ∷ value_type_text t

-- The number that a constant is, between 0 and the greatest of its width.
abbrev pub const_number : Val → ℕ
const_number (val.I32 n) = n
const_number (val.I64 n) = n

-- The immediates of an instruction that is no block, loop or if, in the order of its bytes (section 5.4), without counts
-- and fixed bytes.
abbrev pub immediates : Instr → List ℕ
immediates (Plain op) = []
immediates (Num op) = []
immediates (Const value) = const_number value ∷ []
immediates (LocalGet x) = x ∷ []
immediates (LocalSet x) = x ∷ []
immediates (LocalTee x) = x ∷ []
immediates (GlobalGet x) = x ∷ []
immediates (GlobalSet x) = x ∷ []
immediates (Load op align offset) = align ∷ offset ∷ []
immediates (Store op align offset) = align ∷ offset ∷ []
immediates (Block' ty n body) = []
immediates (Loop' ty n body) = []
immediates (If' ty n first other) = []
immediates (Br l) = l ∷ []
immediates (BrIf l) = l ∷ []
immediates (BrTable ls l) = ls ++ l ∷ []
immediates (Call f) = f ∷ []
immediates (CallIndirect t) = t ∷ []

-- Numbers, each behind a space.
abbrev pub numbers_text : List ℕ → List ℕ
numbers_text = flat_map (λ n. 32 ∷ decimal n)

-- What an item of a body is: its name and its immediates.
unfoldable pub item_text : Flat → List ℕ
item_text (item.One i) = instr_name i ++ numbers_text (immediates i)
item_text (item.Block t) = codes "block" ++ block_type_text t
item_text (item.Loop t) = codes "loop" ++ block_type_text t
item_text (item.If t) = codes "if" ++ block_type_text t
item_text item.Else = codes "else"
item_text item.End = codes "end"

-- The line of an item at a place: two spaces, the place, a space, and what the item is.
unfoldable pub item_line : ℕ → Flat → List ℕ
item_line at x = codes "  " ++ (place_text at ++ 32 ∷ (item_text x ++ 10 ∷ []))

-- The lines of a body's items, each at its place.
unfoldable pub items_text : List ℕ → List Flat → List ℕ
items_text places items = flat_map (λ e. item_line e.0 e.1) (zip places items)
