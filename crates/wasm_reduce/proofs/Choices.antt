-- Where there is a step there is one under each policy, and one in which no memory grows.
use Rattle.std.proofs.Common.{◌≡◌, ℕ, ◌+◌, Bool, true, false, ◌&&◌, nat_le, IsTrue, List, [], ◌∷◌, Some, slice_get, refl, ap, ◌∙◌, subst}
use Rattle.std.specs.Prelude.{option_and_then}
use Rattle.wasm_values.specs.declared.number.Val.{Val}
use Rattle.wasm_values.specs.declared.number.Val.TheVariants.{I32}
use Rattle.wasm_syntax.specs.declared.instr.Plain.{Plain}
use Rattle.wasm_syntax.specs.declared.instr.Plain.TheVariants.{MemoryGrow}
use Rattle.wasm_syntax.specs.Trees as tree
use Rattle.wasm_syntax.specs.Trees.{Instruction, Sequence, Empty, Then}
use Rattle.wasm_store.specs.declared.store.MemInst.{MemInst}
use Rattle.wasm_store.specs.declared.store.Store.{Store}
use Rattle.wasm_store.specs.Configuration.{Activation, Layer, OfCode, OfHost, Configuration}
use Rattle.wasm_store.specs.Memory.{GrowStep, can_grow, memory_address}
use Rattle.wasm_store.specs.Step.{PlainStep, InstructionStep, Moves, TopMoves, StepBy, Step}
use Rattle.wasm_reduce.specs.declared.policy.Policy.{Policy}
use Rattle.wasm_reduce.specs.Policies.{lets_grow, pages_in, memory_of, top_number, grows_next, PolicyStep}

-- A choice is allowed in a frame: where it lets a memory grow, the memory can.
abbrev Allowed : Bool → Store → Activation → Type 0
Allowed g s f = (m : ℕ) (mem : MemInst) (pages : ℕ) (operands : List Val) → memory_address s f ≡ Some m → slice_get s.memories m ≡ Some mem → f.operands ≡ I32 pages ∷ operands → IsTrue g → IsTrue (can_grow mem pages)

module _ (old new : Bool) (s : Store) (f : Activation) (below : List Layer) (d : Configuration) where
  grow : Allowed new s f → GrowStep old s f below d → (e : Configuration) × GrowStep new s f below e
  grow ok h = (_, (h.0, h.1, h.2, h.3, h.4, h.5, h.6, ok h.0 h.1 h.2 h.3 h.4 h.5 h.6, refl))

  plain : (op : Plain) → Allowed new s f → PlainStep old s f below d op → (e : Configuration) × PlainStep new s f below e op
  plain MemoryGrow ok h = grow ok h
  plain _ ok h = (d, h)

  instruction : (i : Instruction) → Allowed new s f → InstructionStep old s f below d i → (e : Configuration) × InstructionStep new s f below e i
  instruction (tree.Plain op) ok h = plain op ok h
  instruction _ ok h = (d, h)

moves : (old new : Bool) (s : Store) (f : Activation) (below : List Layer) (d : Configuration) (code : Sequence) → Allowed new s f → Moves old s f below d code → (e : Configuration) × Moves new s f below e code
moves old new s f below d Empty ok h = (d, h)
moves old new s f below d (Then i rest) ok h = instruction old new s (record f { rest = rest }) below d i ok h

both : (a b : Bool) → IsTrue (a && b) → IsTrue a
both true b h = refl
both false b h = cc h

allowed : (policy : Policy) (s : Store) (f : Activation) → Allowed (lets_grow policy s (memory_of s f) (top_number f.operands)) s f
allowed policy s f m mem pages operands at there top grows =
    let mem_is : memory_of s f ≡ Some mem = ap (λ o. option_and_then (λ m. slice_get s.memories m) o) at ∙ there in
    let is : lets_grow policy s (memory_of s f) (top_number f.operands) ≡ (can_grow mem pages && nat_le (pages_in s + pages) policy.pages) =
    ap (λ o. lets_grow policy s o (top_number f.operands)) mem_is ∙ ap (λ l. lets_grow policy s (Some mem) (top_number l)) top
    in
    both (can_grow mem pages) (nat_le (pages_in s + pages) policy.pages) (subst (λ (b : Bool). IsTrue b) is grows)

never : (s : Store) (f : Activation) → Allowed false s f
never s f m mem pages operands at there top grows = cc grows

top_moves : (policy : Policy) (old : Bool) (s : Store) (frames : List Layer) (d : Configuration) → TopMoves old s frames d → (e : Configuration) × TopMoves (grows_next policy s frames) s frames e
top_moves policy old s [] d h = elim h [ ]
top_moves policy old s (OfCode f ∷ below) d h =
    moves old (lets_grow policy s (memory_of s f) (top_number f.operands)) s f below d f.rest (allowed policy s f) h
top_moves policy old s (OfHost func args given ∷ below) d h = elim h [ ]

top_fails : (old : Bool) (s : Store) (frames : List Layer) (d : Configuration) → TopMoves old s frames d → (e : Configuration) × TopMoves false s frames e
top_fails old s [] d h = elim h [ ]
top_fails old s (OfCode f ∷ below) d h = moves old false s f below d f.rest (never s f) h
top_fails old s (OfHost func args given ∷ below) d h = elim h [ ]

pub policy_has_step : (policy : Policy) (c d : Configuration) → Step c d → (e : Configuration) × PolicyStep policy c e
policy_has_step policy c d h =
    let m = top_moves policy h.0 c.store c.frames d h.1.1 in (m.0, (h.1.0, m.1))

pub failing_has_step : (c d : Configuration) → Step c d → (e : Configuration) × StepBy false c e
failing_has_step c d h = let m = top_fails h.0 c.store c.frames d h.1.1 in (m.0, (h.1.0, m.1))
