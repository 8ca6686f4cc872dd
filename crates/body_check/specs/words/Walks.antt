-- The walk of the validator over a body: what it keeps says exactly which operands the open parts may leave.
use Rattle.std.specs.Prelude.{◌≡◌, ◌≤◌, List, [], ◌∷◌, reverse, length, is_some, Option, Some, None, Bool, true, false, IsTrue}
use Rattle.wasm_syntax.specs.declared.flat.Flat.{Flat}
use Rattle.wasm_syntax.specs.declared.flat.Flat.TheVariants as flat
use Rattle.wasm_syntax.specs.declared.flat.Head.{Head}
use Rattle.wasm_syntax.specs.declared.flat.Head.TheVariants as head
use Rattle.wasm_syntax.specs.FlatForm.{is_simple}
use Rattle.wasm_syntax.specs.Trees.{sequence_of, instruction_of}
use Rattle.wasm_syntax.specs.Parts.{Part, begun, with_instr, turned, closed_part}
use Rattle.wasm_typing.specs.declared.fault.ValidWord.{ValidWord}
use Rattle.wasm_values.specs.declared.number.ValType.{ValType}
use Rattle.body_check.specs.declared.open.Open.{Open}
use Rattle.body_check.specs.declared.open.Floor.{Floor}
use Rattle.body_check.specs.declared.walk.Walk.{Walk}
use Rattle.wasm_typing.specs.Typing.{Context, types_of, SequenceTyped}
use Rattle.wasm_typing.specs.faults.Open.{labels_of, before_part, FirstSideTyped, PartsTyped}
use Rattle.wasm_typing.specs.Valid.{InstructionInRange}
use Rattle.wasm_typing.specs.faults.Faults.{item_word}
use Rattle.body_check.specs.words.Known.{Known}
use Rattle.body_check.specs.words.Operands.{Are, Exactly, lower}

-- Open parts, the innermost first, after one more item.
abbrev pub then_inner : List Part → Flat → List Part
then_inner ps (flat.Block ty) = begun (head.Block ty) ∷ ps
then_inner ps (flat.Loop ty) = begun (head.Loop ty) ∷ ps
then_inner ps (flat.If ty) = begun (head.If ty) ∷ ps
then_inner [] (flat.One i) = []
then_inner (p ∷ ps) (flat.One i) = with_instr i p ∷ ps
then_inner [] flat.Else = []
then_inner (p ∷ ps) flat.Else = turned p ∷ ps
then_inner [] flat.End = []
then_inner (p ∷ []) flat.End = p ∷ []
then_inner (p ∷ q ∷ ps) flat.End = with_instr (closed_part p) q ∷ ps

-- Operands are exactly those that a part's instructions so far leave below the next part.
abbrev pub IsHere : Context → (inner : Option Head) → Known → Part → List Part → Type 0
IsHere c inner s p around =
    Exactly (Are s) (λ below. SequenceTyped c (labels_of c (p ∷ around)) (sequence_of p.instrs) [] (before_part inner below))
    × FirstSideTyped c (labels_of c (p ∷ around)) p.head p.first

-- Where the operands of the block around an open one begin.
abbrev pub floor_under : Open → Floor
floor_under o = record { base = o.base; dead = o.dead }

-- The blocks that are open around a part, over the operands below it, by the rest of them.
abbrev pub IsAround : Part → List (Option ValType) → List Open → List Part → (Open → List Open → Type 0) → Type 0
IsAround p below [] around rest = (p.head ≡ None) × (around ≡ [])
IsAround p below (o ∷ os) around rest = (p.head ≡ Some o.head) × (o.turned ≡ is_some p.first) × (o.base ≤ length below) × rest o os

-- Operands and open blocks, the innermost first, stand for open parts.
abbrev pub IsOpen : Context → (inner : Option Head) → Known → List Open → List Part → Type 0
IsOpen c inner s os [] = ⊥
IsOpen c inner s os (p ∷ around) =
    IsHere c inner s p around × IsAround p s.below os around (λ o os'. IsOpen c p.head (lower (floor_under o) s.below) os' around)

-- A walk stands at these open parts.
pub record IsAt (c : Context) (w : Walk) (ps : List Part) : Type 0 where
  pub open_ : IsOpen c None w.operands (reverse w.opens.items) ps

-- An item is no fault, and the walk goes on behind it; or the parts have no typing through it, with its word.
abbrev pub Walked : Option ValidWord → Context → Walk → List Part → Flat → Type 0
Walked None c w ps x = IsAt c w (then_inner ps x)
Walked (Some word) c w ps x = (PartsTyped c None (then_inner ps x) → ⊥) × (word ≡ item_word c (labels_of c ps) x)

-- An `if` without `else` has no result.
abbrev pub MayEnd : Head → Bool → Type 0
MayEnd (head.If ty) false = [] ≡ types_of ty
MayEnd _ _ = Unit {0}

-- A block begins at these open parts; or it has no typing there.
abbrev pub Begins : Bool → Context → Walk → List Part → Head → Type 0
Begins true c w ps h = IsAt c w (begun h ∷ ps)
Begins false c w ps h = PartsTyped c None (begun h ∷ ps) → ⊥

-- An `else` or an `end` at these open parts leads on; or they have no typing through it.
abbrev pub Leads : Bool → Context → Walk → List Part → Flat → Type 0
Leads true c w ps x = IsAt c w (then_inner ps x)
Leads false c w ps x = PartsTyped c None (then_inner ps x) → ⊥

-- Where an item is one instruction, it holds no others.
abbrev pub IsOneSimple : Flat → Type 0
IsOneSimple (flat.One i) = IsTrue (is_simple i)
IsOneSimple _ = Unit {0}

-- The numbers of an item lie in their ranges.
abbrev pub ItemInRange : Flat → Type 0
ItemInRange (flat.One i) = InstructionInRange (instruction_of i)
ItemInRange _ = Unit {0}
