use Rattle.std.proofs.Common.{sym, ap, ◌∙◌, get_or}
use Rattle.wasm_values.specs.Types.{is_same_type}
use Rattle.wasm_values.specs.declared.number.Val.TheVariants.{I32}
use Rattle.wasm_values.specs.declared.number.ValType.TheVariants as ty
use Rattle.wasm_instantiate.proofs.ValueTypes.{have_more}
use Rattle.wasm_instantiate.proofs.typing.have_types.Goals as goal

pub loop-k-preserved : goal.loop-k-preserved
loop-k-preserved c =
    let i = c.loop-k.invariant in
    have_more c.args.values.now c.args.wanted.now c.loop-k.k (I32 0) ty.I32 c.loop-k-test.true c.if-values-wanted.false (
    ap (λ t. is_same_type t (get_or c.args.wanted.now c.loop-k.k ty.I32)) (sym c.read_type.ensures.value) ∙ sym c.is_same_type.ensures.value ∙ c.if-not-is_same_type.false
    ) c.read_type.ensures.range i.0 i.1
