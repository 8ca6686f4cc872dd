-- The texts of globals and segments spell them.
use Rattle.std.proofs.Common.{◌+◌, ◌++◌, length}
use Rattle.binary_grammar.specs.Grammar.{SpellsNumber}
use Rattle.binary_grammar.specs.ModuleGrammar.{SpellsGlobal, SpellsElem, SpellsSegment}
use Rattle.wasm_write.specs.Shortest.{number_text}
use Rattle.wasm_write.specs.Encoding.{vector_text, sized_text, global_type_text, expression_text, global_text, elem_text, segment_text}
use Rattle.wasm_write.specs.Writable.{IsU32, GlobalWritable, ElemWritable, SegmentWritable}
use Rattle.wasm_write.proofs.TypeTexts.{then, then_done, number, Spelled, list, bytes, global_type}
use Rattle.wasm_write.proofs.CodeTexts.{instrs}

pub global_ : Spelled SpellsGlobal global_text GlobalWritable
unfolding SpellsGlobal
global_ g w at =
    let a = global_type_text g.ty in
    let b = expression_text g.init in
    then _ _ at a b g.ty g (global_type at g.ty)
    (then_done _ (λ is. record { ty = g.ty; init = is }) (at + length a) b g.init (instrs g.init w (at + length a)))

pub elem_ : Spelled SpellsElem elem_text ElemWritable
unfolding SpellsElem
elem_ e w at =
    let a = number_text e.table in
    let b = expression_text e.offset in
    let c = vector_text number_text e.funcs in
    then _ _ at a (b ++ c) e.table e (number at e.table w.0)
    (then _ _ (at + length a) b c e.offset e (instrs e.offset w.1 (at + length a))
    (then_done _ (λ fs. record { table = e.table; offset = e.offset; funcs = fs }) (at + length a + length b) c e.funcs
    (list SpellsNumber number_text IsU32 (λ x h p. number p x h) e.funcs w.2 w.3 (at + length a + length b))))

pub segment_ : Spelled SpellsSegment segment_text SegmentWritable
unfolding SpellsSegment
segment_ s w at =
    let a = number_text s.memory in
    let b = expression_text s.offset in
    let c = sized_text s.bytes in
    then _ _ at a (b ++ c) s.memory s (number at s.memory w.0)
    (then _ _ (at + length a) b c s.offset s (instrs s.offset w.1 (at + length a))
    (then_done _ (λ bs. record { memory = s.memory; offset = s.offset; bytes = bs }) (at + length a + length b) c s.bytes (bytes (at + length a + length b) s.bytes w.2)))
