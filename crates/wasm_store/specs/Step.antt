-- One step of a configuration (Core Specification, section 4.4). The count of steps is the project's own: where the
-- standard takes several reductions for what stands here as one step they are joined, a constant moves to the operands by
-- a step, and a trap drops all frames in one. The configurations in between change no store.
use Rattle.std.specs.Prelude.{◌≡◌, Bool, List, [], ◌∷◌, Some, None}
use Rattle.wasm_syntax.specs.declared.instr.Plain.{Plain}
use Rattle.wasm_syntax.specs.declared.instr.Plain.TheVariants.{Unreachable, Nop, Return, Drop, Select, MemorySize, MemoryGrow}
use Rattle.wasm_syntax.specs.Trees as tree
use Rattle.wasm_syntax.specs.Trees.{Instruction, Sequence, Empty, Then, IfElse}
use Rattle.wasm_store.specs.declared.store.Store.{Store}
use Rattle.wasm_store.specs.declared.config.Outcome.TheVariants.{Running}
use Rattle.wasm_store.specs.Configuration.{Activation, Layer, OfCode, OfHost, Configuration, going, trapped, pushed}
use Rattle.wasm_store.specs.Numeric.{NumStep, DropStep, SelectStep, LocalGetStep, LocalSetStep, LocalTeeStep, GlobalGetStep, GlobalSetStep}
use Rattle.wasm_store.specs.Memory.{LoadStep, StoreStep, SizeStep, GrowStep}
use Rattle.wasm_store.specs.Control.{count_of, opened, IfStep, Leaves, Closes, Branches, BrIfStep, BrTableStep, CallStep, CallIndirectStep}

-- An instruction without immediates that is no numeric operator. The frame's rest is the code after it.
abbrev pub PlainStep : (grows : Bool) → Store → Activation → List Layer → Configuration → Plain → Type 0
PlainStep grows s f below d Unreachable = d ≡ trapped s
PlainStep grows s f below d Nop = d ≡ going s f below
PlainStep grows s f below d Return = Leaves s f below d
PlainStep grows s f below d Drop = DropStep s f below d
PlainStep grows s f below d Select = SelectStep s f below d
PlainStep grows s f below d MemorySize = SizeStep s f below d
PlainStep grows s f below d MemoryGrow = GrowStep grows s f below d

-- An instruction. The frame's rest is the code after it.
abbrev pub InstructionStep : (grows : Bool) → Store → Activation → List Layer → Configuration → Instruction → Type 0
InstructionStep grows s f below d (tree.Plain op) = PlainStep grows s f below d op
InstructionStep grows s f below d (tree.Num op) = NumStep s f below d op
InstructionStep grows s f below d (tree.Const value) = d ≡ going s (pushed f value) below
InstructionStep grows s f below d (tree.LocalGet x) = LocalGetStep s f below d x
InstructionStep grows s f below d (tree.LocalSet x) = LocalSetStep s f below d x
InstructionStep grows s f below d (tree.LocalTee x) = LocalTeeStep s f below d x
InstructionStep grows s f below d (tree.GlobalGet x) = GlobalGetStep s f below d x
InstructionStep grows s f below d (tree.GlobalSet x) = GlobalSetStep s f below d x
InstructionStep grows s f below d (tree.Load op align offset) = LoadStep s f below d op offset
InstructionStep grows s f below d (tree.Store op align offset) = StoreStep s f below d op offset
InstructionStep grows s f below d (tree.Block ty body) = d ≡ going s (opened f (count_of ty) None body f.rest) below
InstructionStep grows s f below d (tree.Loop ty body) = d ≡ going s (opened f 0 (Some body) body f.rest) below
InstructionStep grows s f below d (tree.If ty first) = IfStep s f below d ty first Empty
InstructionStep grows s f below d (IfElse ty first second) = IfStep s f below d ty first second
InstructionStep grows s f below d (tree.Br k) = Branches s f below d f.labels k
InstructionStep grows s f below d (tree.BrIf k) = BrIfStep s f below d k
InstructionStep grows s f below d (tree.BrTable ks k) = BrTableStep s f below d ks k
InstructionStep grows s f below d (tree.Call x) = CallStep s f below d x
InstructionStep grows s f below d (tree.CallIndirect x) = CallIndirectStep s f below d x

-- One step of the top frame with this code left: its first instruction, or the end of the innermost code.
abbrev pub Moves : (grows : Bool) → Store → Activation → List Layer → Configuration → Sequence → Type 0
Moves grows s f below d Empty = Closes s f below d f.labels
Moves grows s f below d (Then i rest) = InstructionStep grows s (record f { rest = rest }) below d i

-- One step of the top frame, which is of code.
abbrev pub TopMoves : (grows : Bool) → Store → List Layer → Configuration → Type 0
TopMoves grows s [] d = ⊥
TopMoves grows s (OfCode f ∷ below) d = Moves grows s f below d f.rest
TopMoves grows s (OfHost func args given ∷ below) d = ⊥

-- One step of a running configuration whose top frame is of code, in which a `memory.grow`, if there is one, succeeds or
-- fails as `grows` says.
abbrev pub StepBy : (grows : Bool) → Configuration → Configuration → Type 0
StepBy grows c d = (c.outcome ≡ Running) × TopMoves grows c.store c.frames d

-- One step of a running configuration whose top frame is of code (section 4.4). Whether a `memory.grow` that may succeed
-- does so is a free choice.
abbrev pub Step : Configuration → Configuration → Type 0
Step c d = (grows : Bool) × StepBy grows c d

-- The configuration has a step.
abbrev pub CanStep : Configuration → Type 0
CanStep c = (d : Configuration) × Step c d
