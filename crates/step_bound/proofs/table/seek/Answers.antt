use Rattle.std.proofs.Common.{◌≡◌, ℕ, ◌<◌, Some, None, length, get_or, slice_get, refl, MatchOption, sym, ap, ◌∙◌, arith}
use Rattle.std.proofs.lemmas.Option.{slice_get_read}
use Rattle.std.proofs.lemmas.Result.{IfOk-weaker}
use Rattle.wasm_syntax.specs.declared.module.Func.{Func}
use Rattle.step_bound.specs.Bounds.{FunctionBound}
use Rattle.step_bound.specs.words.Tables.{IsSettled}
use Rattle.step_bound.specs.words.Sums.{capped, known_at, called, body_bound}
use Rattle.step_bound.proofs.Tables.{try_gives, none_read}
use Rattle.step_bound.proofs.table.seek.Goals as goal

pub returns-in-None : goal.returns-in-None
returns-in-None c =
    let m = c.args.sought.now.module.now in
    let known = c.args.known.now in
    let f : Func = c.index-as_slice-k.result in
    let less : c.args.k < length m.funcs = omega (arith, c.requires.there, c.requires.right.count) in
    let read = c.index-as_slice-k.is ∙ ap (λ l. get_or l c.args.k f) c.as_slice.ensures in
    let at : slice_get m.funcs c.args.k ≡ Some f = slice_get_read m.funcs (length m.funcs) c.args.k f refl less read in
    let none : known_at known c.args.k ≡ None = none_read known c.args.k c.requires.there c.in-None.is in
    IfOk-weaker c.bound_of.result (λ r. r ≡ body_bound (called c.args.sought.now.imported known) (get_or c.as_slice.result.now c.args.k f).body)
    (λ r. MatchOption r (IsSettled m known c.args.k) (λ n. (known_at known c.args.k ≡ None) × ((b : ℕ) × FunctionBound m c.args.k b × (n ≡ capped b))))
    (λ r e. try_gives m known c.args.sought.now.imported c.args.k f c.requires.imported c.requires.right at none r
    (e ∙ ap (λ (x : Func). body_bound (called c.args.sought.now.imported known) x.body) (sym c.index-as_slice-k.is)))
    c.bound_of.ensures
