use Rattle.std.proofs.Common.{◌≡◌, length, map, option_map, reverse, refl, ap, ◌∙◌, arith}
use Rattle.std.proofs.lemmas.List.{length-reverse}
use Rattle.wasm_syntax.specs.Places.{rest_at}
use Rattle.wasm_store.specs.Configuration.{with_operands}
use Rattle.wasm_store.specs.Control.{jumped}
use Rattle.wasm_store.specs.Seen.{body_of, seen_code, seen_label}
use Rattle.wasm_reduce.specs.words.Effects.{body_in, seen_in, under}
use Rattle.wasm_reduce.proofs.Jumps.{found, labels_leave, labels_out, labels_within, labels_wide, labels_go}
use Rattle.wasm_reduce.proofs.control.branch.Goals as goal

pub returns-then-k-len-clause-ok : goal.returns-then-k-len-clause-ok
returns-then-k-len-clause-ok c =
    let s = c.args.store.now in
    let f = c.args.frame.now in
    let g = under (seen_in s f) c.args.above in
    let r = c.requires.can in
    let all : c.args.k ≡ length f.labels = c.if-k-len.true ∙ c.len.ensures in (
      refl,
      refl,
      c.requires.within,
      (r.0, r.1, labels_leave s g r.0 (body_in s f) f.labels c.args.k r.1 all r.2),
      λ below d h. labels_out s g below (body_in s f) f.labels c.args.k d all h,
    )

pub jump-requires-clause-within : goal.jump-requires-clause-within
jump-requires-clause-within c =
    let s = c.args.store.now in
    let f = c.args.frame.now in
    let r = c.requires.can in
    omega (arith, labels_within s (under (seen_in s f) c.args.above) r.0 (body_in s f) f.labels c.args.k r.1 r.2)

pub jump-requires-clause-wide : goal.jump-requires-clause-wide
jump-requires-clause-wide c = λ l outer h.
    let s = c.args.store.now in
    let f = c.args.frame.now in
    let r = c.requires.can in
    omega (arith, labels_wide s (under (seen_in s f) c.args.above) r.0 (body_in s f) f.labels c.args.k l outer h r.1 r.2, ap length c.drop_top.ensures, length-reverse c.drop_top.new.operands)

pub returns-clause-ok : goal.returns-clause-ok
returns-clause-ok c = λ below.
    let s = c.args.store.now in
    let f = c.args.frame.now in
    let g = c.jump.new.frame in
    let r = c.requires.can in
    let code = body_in s f in
    let left = under (seen_in s f) c.args.above in
    let within = labels_within s left r.0 code f.labels c.args.k r.1 r.2 in
    let block = found (reverse f.labels) c.args.k (omega (arith, length-reverse f.labels, within)) in
    let wide = labels_wide s left r.0 code f.labels c.args.k block.0 block.1 block.2 r.1 r.2 in
    labels_go s left below code f.labels c.args.k block.0 block.1 block.2 (seen_in s g) wide (
    ap (λ n. seen_code (body_of s.funcs s.instances n) g) c.jump.ensures.func
    ∙ c.jump.ensures.jumped block.0 block.1 block.2 code
    ∙ ap (λ ops. jumped (with_operands (seen_in s f) ops) (seen_label code block.0) (map (seen_label code) block.1) (option_map (rest_at code) block.0.again)) c.drop_top.ensures
    )
