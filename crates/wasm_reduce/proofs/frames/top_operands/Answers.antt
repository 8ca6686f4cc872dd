use Rattle.std.proofs.Common.{◌≡◌, ℕ, ◌+◌, ◌-◌, ◌≤◌, List, length, take, drop, reverse, ap, ◌∙◌}
use Rattle.std.proofs.lemmas.Result.{IfOk-weaker}
use Rattle.wasm_values.specs.declared.number.Val.{Val}
use Rattle.wasm_store.specs.declared.config.CodeFrame.{CodeFrame}
use Rattle.wasm_store.specs.declared.config.Frame.{Frame}
use Rattle.wasm_store.specs.declared.config.Frame.TheVariants.{Code}
use Rattle.wasm_reduce.specs.words.Layers.{HasTop}
use Rattle.wasm_reduce.proofs.Stacks.{last_is, reverse-part}
use Rattle.wasm_reduce.proofs.frames.top_operands.Goals as goal
use Rattle.wasm_reduce.proofs.frames.top_operands.Goals.{In-Code}

part_is : (values ops slice : List Val) (l above count : ℕ) → l ≡ length ops → slice ≡ ops → above + count ≤ length ops → values ≡ take (l - above - (l - above - count)) (drop (l - above - count) slice) → reverse values ≡ take count (drop above (reverse ops))
part_is values ops slice l above count el es within h =
    ap reverse h ∙ rw (el, es) (reverse-part ops above count within)

top_is : (c : In-Code) (f : CodeFrame) (below : List Frame) → HasTop c.args.frames.now f below → c.in-Code.frame ≡ f
top_is c f below h =
    let here = c.index-frames-frames.is ∙ last_is c.args.frames.now below (Code f) c.index-frames-frames.result h in
    cc c.in-Code.is

pub returns : goal.returns
returns c =
    let before = (goal.at.returns c).In-Code in
    let ops = c.in-Code.frame.operands in
    let x = c.len.result in
    IfOk-weaker c.list_of.result (λ (v : List Val). v ≡ take (x - c.args.above - (x - c.args.above - c.args.count)) (drop (x - c.args.above - c.args.count) c.as_slice.result.now))
    (λ v. (f : CodeFrame) (below : List Frame) → HasTop c.args.frames.now f below → reverse v ≡ take c.args.count (drop c.args.above (reverse f.operands)))
    (λ v h f below top.
    let same = top_is before f below top in
    let wide = rw (← top_is before c.requires.0 c.requires.1 c.requires.2) at c.requires.3 in
    rw (← same) (
    part_is v ops c.as_slice.result.now x c.args.above c.args.count c.len.ensures c.as_slice.ensures wide h
    )) c.list_of.ensures
