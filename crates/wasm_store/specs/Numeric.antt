-- Numeric and parametric instructions and those of variables (Core Specification, sections 4.4.1 to 4.4.3).
use Rattle.std.specs.Prelude.{◌≡◌, ℕ, ◌<◌, ◌==◌, if◌then◌else◌, List, ◌∷◌, Option, Some, None, option_map, length, slice_get, slice_set, MatchBool}
use Rattle.wasm_values.specs.declared.number.NumOp.{NumOp}
use Rattle.wasm_values.specs.declared.number.Val.{Val}
use Rattle.wasm_values.specs.declared.number.Val.TheVariants.{I32}
use Rattle.wasm_values.specs.Operators.{num_operands, num_unary, num_binary, value_of, operand_type, result_type}
use Rattle.wasm_store.specs.declared.store.GlobalInst.{GlobalInst}
use Rattle.wasm_store.specs.declared.store.Store.{Store}
use Rattle.wasm_store.specs.Configuration.{Activation, Layer, Configuration, going, trapped, with_operands, pushed, instance_of, address_in}

-- What a numeric instruction over two operands leaves: its value, or a trap where it is undefined (section 4.4.1).
abbrev pub computed : Store → Activation → List Layer → List Val → Option Val → Configuration
computed s f below operands None = trapped s
computed s f below operands (Some v) = going s (with_operands f (v ∷ operands)) below

-- A numeric instruction of one operand (section 4.4.1).
abbrev pub NumOneStep : Store → Activation → List Layer → Configuration → NumOp → Type 0
NumOneStep s f below d op =
    (a : ℕ) × (operands : List Val) × (f.operands ≡ value_of (operand_type op) a ∷ operands)
    × (d ≡ going s (with_operands f (value_of (result_type op) (num_unary op a) ∷ operands)) below)

-- A numeric instruction of two operands, the second on top (section 4.4.1).
abbrev pub NumTwoStep : Store → Activation → List Layer → Configuration → NumOp → Type 0
NumTwoStep s f below d op =
    (a b : ℕ) × (operands : List Val) × (f.operands ≡ value_of (operand_type op) b ∷ value_of (operand_type op) a ∷ operands)
    × (d ≡ computed s f below operands (option_map (value_of (result_type op)) (num_binary op a b)))

-- A numeric instruction (section 4.4.1).
abbrev pub NumStep : Store → Activation → List Layer → Configuration → NumOp → Type 0
NumStep s f below d op = MatchBool (num_operands op == 1) (NumOneStep s f below d op) (NumTwoStep s f below d op)

-- `drop` (section 4.4.2).
abbrev pub DropStep : Store → Activation → List Layer → Configuration → Type 0
DropStep s f below d =
    (v : Val) × (operands : List Val) × (f.operands ≡ v ∷ operands) × (d ≡ going s (with_operands f operands) below)

-- `select`: the second operand stays where the third, the topmost, is 0, and else the first (section 4.4.2).
abbrev pub SelectStep : Store → Activation → List Layer → Configuration → Type 0
SelectStep s f below d =
    (c : ℕ) × (first second : Val) × (operands : List Val) × (f.operands ≡ I32 c ∷ second ∷ first ∷ operands)
    × (d ≡ going s (with_operands f ((if c == 0 then second else first) ∷ operands)) below)

-- `local.get` (section 4.4.3).
abbrev pub LocalGetStep : Store → Activation → List Layer → Configuration → ℕ → Type 0
LocalGetStep s f below d x = (v : Val) × (slice_get f.locals x ≡ Some v) × (d ≡ going s (pushed f v) below)

-- The frame with another value in a local.
abbrev pub with_local : Activation → ℕ → Val → Activation
with_local f x v = record f { locals = slice_set f.locals x v }

-- `local.set` (section 4.4.3).
abbrev pub LocalSetStep : Store → Activation → List Layer → Configuration → ℕ → Type 0
LocalSetStep s f below d x =
    (v : Val) × (operands : List Val) × (f.operands ≡ v ∷ operands) × (x < length f.locals)
    × (d ≡ going s (with_operands (with_local f x v) operands) below)

-- `local.tee` keeps its operand. The standard takes it in two reductions, which are joined here (section 4.4.3).
abbrev pub LocalTeeStep : Store → Activation → List Layer → Configuration → ℕ → Type 0
LocalTeeStep s f below d x =
    (v : Val) × (operands : List Val) × (f.operands ≡ v ∷ operands) × (x < length f.locals)
    × (d ≡ going s (with_local f x v) below)

-- The address of a global of the frame's instance.
abbrev pub global_address : Store → Activation → ℕ → Option ℕ
global_address s f x = address_in (λ i. i.globals) (instance_of s f) x

-- `global.get` (section 4.4.3).
abbrev pub GlobalGetStep : Store → Activation → List Layer → Configuration → ℕ → Type 0
GlobalGetStep s f below d x =
    (a : ℕ) × (g : GlobalInst) × (global_address s f x ≡ Some a) × (slice_get s.globals a ≡ Some g)
    × (d ≡ going s (pushed f g.value) below)

-- The store with another value in a global.
abbrev pub with_global : Store → ℕ → GlobalInst → Val → Store
with_global s a g v = record s { globals = slice_set s.globals a (record g { value = v }) }

-- `global.set` (section 4.4.3).
abbrev pub GlobalSetStep : Store → Activation → List Layer → Configuration → ℕ → Type 0
GlobalSetStep s f below d x =
    (a : ℕ) × (g : GlobalInst) × (v : Val) × (operands : List Val) × (global_address s f x ≡ Some a) × (slice_get s.globals a ≡ Some g)
    × (f.operands ≡ v ∷ operands) × (d ≡ going (with_global s a g v) (with_operands f operands) below)
