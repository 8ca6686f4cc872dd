use Rattle.std.proofs.Common.{ap, ◌∙◌}
use Rattle.wasm_values.specs.declared.number.ValType.TheVariants.{I32}
use Rattle.wasm_syntax.specs.Trees.{sequence_of}
use Rattle.wasm_typing.specs.Valid.{const_type}
use Rattle.wasm_sessions.specs.Instantiation.{value_of_code}
use Rattle.module_instances.proofs.WritingLemmas.{segment_is}
use Rattle.module_instances.proofs.writes.write_segment.Goals as goal

pub returns : goal.returns
returns c =
    let i = c.args.instance.now in
    let e = c.args.segment.now in
    let gs = c.args.globals.now in
    let constant = ap (const_type c.requires.constant.0) c.as_slice-2.ensures ∙ c.requires.constant.1 in
    let value = c.value_of-offset.ensures c.requires.constant.0 I32 constant ∙ ap (λ l. value_of_code gs l (sequence_of c.as_slice-2.result.now)) c.as_slice.ensures ∙ ap (λ l. value_of_code gs i.globals (sequence_of l)) c.as_slice-2.ensures in
    segment_is i gs c.args.memories.now c.into_vec-all.result.items c.from_vec.result e c.index_mut-memory.result.now c.address_of-address.result c.number.result c.write_bytes.new.bytes c.as_slice-3.result.now c.value_of-offset.result
    (c.into_vec-all.ensures ∙ c.replace.ensures.value) c.address_of-address.ensures c.index_mut-memory.ensures.value c.number.ensures value c.write_bytes.ensures c.as_slice-3.ensures c.from_vec.ensures c.requires.fits
