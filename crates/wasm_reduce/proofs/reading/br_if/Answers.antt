use Rattle.std.proofs.Common.{◌≡◌, ◌∷◌, length, reverse, ap, sym, ◌∙◌, arith}
use Rattle.std.proofs.lemmas.List.{length-reverse}
use Rattle.wasm_values.specs.declared.number.Val.TheVariants.{I32}
use Rattle.wasm_store.specs.Control.{Branches, BrIfStep}
use Rattle.wasm_reduce.specs.words.Effects.{seen_in, moved_to, under}
use Rattle.wasm_reduce.proofs.Acting.{acts_map, of_br_if, to_br_if}
use Rattle.wasm_reduce.proofs.reading.br_if.Goals as goal

pub branch-store-requires-clause-within : goal.branch-store-requires-clause-within
branch-store-requires-clause-within c =
    let t : reverse c.args.frame.now.operands ≡ I32 c.top_number-condition.result ∷ c.top_number-condition.ensures.0 = ap reverse (sym c.as_slice.ensures) ∙ c.top_number-condition.ensures.1 in
    omega (arith, ap length t, length-reverse c.args.frame.now.operands)

pub branch-store-requires-clause-can : goal.branch-store-requires-clause-can
branch-store-requires-clause-can c =
    let s = c.args.store.now in
    let f = c.args.frame.now in
    let r = c.requires in
    let t : reverse c.args.frame.now.operands ≡ I32 c.top_number-condition.result ∷ c.top_number-condition.ensures.0 = ap reverse (sym c.as_slice.ensures) ∙ c.top_number-condition.ensures.1 in
    (r.0, r.1, of_br_if s f c.args.on c.args.k c.top_number-condition.result c.top_number-condition.ensures.0 r.0 r.1 c.if-condition-eq0.false t r.2)

pub returns : goal.returns
returns c =
    let s = c.args.store.now in
    let f = c.args.frame.now in
    let k = c.args.k in
    let t : reverse c.args.frame.now.operands ≡ I32 c.top_number-condition.result ∷ c.top_number-condition.ensures.0 = ap reverse (sym c.as_slice.ensures) ∙ c.top_number-condition.ensures.1 in
    acts_map (λ below d. Branches s (under (seen_in s f) 1) below d (seen_in s f).labels k)
    (λ below d. BrIfStep s (moved_to s f c.args.on) below d k)
    s f s c.branch-store.new.frame c.branch-store.result
    (λ below d h. to_br_if s f c.args.on k c.top_number-condition.result c.top_number-condition.ensures.0 below d c.if-condition-eq0.false t h)
    c.branch-store.ensures.ok
