use Rattle.std.proofs.Common.{◌≡◌, ◌≤◌, length, sym, ap, ◌∙◌, arith}
use Rattle.std.specs.Option.{option_copied}
use Rattle.wasm_syntax.specs.FlatForm.{flat_body}
use Rattle.wasm_syntax.specs.Places.{rest_at}
use Rattle.wasm_store.specs.Seen.{body_or_nothing}
use Rattle.wasm_reduce.specs.words.Effects.{body_in}
use Rattle.wasm_reduce.proofs.Ends.{past_the_end, none_left}
use Rattle.wasm_reduce.proofs.find.next_in.Goals as goal

pub returns-else-position-len-clause-next : goal.returns-else-position-len-clause-next
returns-else-position-len-clause-next c =
    let s = c.args.store.now in
    let f = c.args.frame.now in
    let fn = c.in-Some.func.now in
    let body : body_in s f ≡ fn.body = ap body_or_nothing (sym c.func_at.ensures ∙ ap option_copied c.in-Some.is) in
    let long : length (flat_body fn.body) ≤ f.position = omega arith in
    ap (λ b. rest_at b f.position) body ∙ past_the_end fn.body f.position long

pub returns-in-None-clause-next : goal.returns-in-None-clause-next
returns-in-None-clause-next c =
    let s = c.args.store.now in
    let f = c.args.frame.now in
    ap (λ o. rest_at (body_or_nothing o) f.position) (sym c.func_at.ensures ∙ ap option_copied c.in-None.is) ∙ none_left f.position
