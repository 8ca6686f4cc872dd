-- Ranges of the numbers of bodies.
use Rattle.std.proofs.Common.{◌≡◌, ℕ, ◌+◌, List, [], ◌∷◌, ◌++◌, length, slice_get, Option, Some, None, sym, subst}
use Rattle.wasm_syntax.specs.declared.instr.Instr.{Instr}
use Rattle.wasm_syntax.specs.declared.flat.Flat.{Flat}
use Rattle.wasm_syntax.specs.declared.flat.Flat.TheVariants as flat
use Rattle.wasm_syntax.specs.declared.flat.Head.{Head}
use Rattle.wasm_syntax.specs.declared.flat.Head.TheVariants as head
use Rattle.wasm_syntax.specs.FlatForm.{flat_body}
use Rattle.wasm_syntax.specs.Trees.{instruction_of, sequence_of}
use Rattle.wasm_syntax.specs.Parts.{Part, closed_part, instr_of}
use Rattle.wasm_syntax.proofs.TreeLaws.{instruction_of-Block, instruction_of-Loop, instruction_of-If, instruction_of-IfElse}
use Rattle.wasm_typing.specs.Valid.{InstructionInRange, SequenceInRange}
use Rattle.wasm_typing.specs.faults.Open.{parts_before}
use Rattle.body_check.specs.words.Walks.{then_inner, ItemInRange}
use Rattle.body_check.proofs.BodyLemmas.{first_parts, next_parts, whole_parts}

abbrev pub FirstInRange : Option (List Instr) → Type 0
FirstInRange None = Unit {0}
FirstInRange (Some first) = SequenceInRange (sequence_of first)

abbrev pub AreInRange : List Part → Type 0
AreInRange [] = Unit {0}
AreInRange (p ∷ ps) = SequenceInRange (sequence_of p.instrs) × FirstInRange p.first × AreInRange ps

one_more : (is : List Instr) (i : Instr) → SequenceInRange (sequence_of is) → InstructionInRange (instruction_of i) → SequenceInRange (sequence_of (is ++ i ∷ []))
one_more [] i s h = (h, tt)
one_more (j ∷ is) i s h = (s.0, one_more is i s.1 h)

whole : (h : Option Head) (first : Option (List Instr)) (is : List Instr) → SequenceInRange (sequence_of is) → FirstInRange first → InstructionInRange (instruction_of (instr_of h first is))
whole None first is s f = tt
whole (Some (head.Block ty)) first is s f = subst InstructionInRange (sym (instruction_of-Block ty is)) s
whole (Some (head.Loop ty)) first is s f = subst InstructionInRange (sym (instruction_of-Loop ty is)) s
whole (Some (head.If ty)) None is s f = subst InstructionInRange (sym (instruction_of-If ty is)) s
whole (Some (head.If ty)) (Some first) is s f = subst InstructionInRange (sym (instruction_of-IfElse ty first is)) (f, s)

step : (ps : List Part) (x : Flat) → AreInRange ps → ItemInRange x → AreInRange (then_inner ps x)
step ps (flat.Block ty) h i = (tt, tt, h)
step ps (flat.Loop ty) h i = (tt, tt, h)
step ps (flat.If ty) h i = (tt, tt, h)
step [] (flat.One j) h i = h
step (p ∷ ps) (flat.One j) h i = (one_more p.instrs j h.0 i, h.1, h.2)
step [] flat.Else h i = h
step (p ∷ ps) flat.Else h i = (tt, h.0, h.2)
step [] flat.End h i = h
step (p ∷ []) flat.End h i = h
step (p ∷ q ∷ ps) flat.End h i = (one_more q.instrs (closed_part p) h.2.0 (whole p.head p.first p.instrs h.0 h.1), h.2.1, h.2.2)

pub in_range_first : (body : List Instr) → AreInRange (parts_before body 0)
in_range_first body = let M : List Part → Type 0 = λ ps. AreInRange ps in subst M (sym (first_parts body)) (tt, tt, tt)

pub in_range_next : (body : List Instr) (n : ℕ) (x : Flat) → slice_get (flat_body body) n ≡ Some x → ItemInRange x → AreInRange (parts_before body n) → AreInRange (parts_before body (n + 1))
in_range_next body n x there i h = let M : List Part → Type 0 = λ ps. AreInRange ps in subst M (sym (next_parts body n x there)) (step (parts_before body n) x h i)

pub in_range_whole : (body : List Instr) (n : ℕ) → n + 1 ≡ length (flat_body body) → AreInRange (parts_before body n) → SequenceInRange (sequence_of body)
in_range_whole body n e h = let M : List Part → Type 0 = λ ps. AreInRange ps in (subst M (whole_parts body n e) h).0
