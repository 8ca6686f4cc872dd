use Rattle.std.proofs.Common.{sym, subst}
use Rattle.symbolic_calls.specs.words.Topmost.{Gathered}
use Rattle.symbolic_calls.proofs.Gathering.{gathered-one}
use Rattle.symbolic_calls.proofs.Stages.{on-ok}
use Rattle.symbolic_calls.proofs.arguments.push_operand.Goals as goal

pub returns-in-Some : goal.returns-in-Some
returns-in-Some c =
    on-ok c.push.result
    (λ is n m next before. subst (Gathered c.args.state.now n c.args.k) (sym is)
    (gathered-one c.args.state.now n m c.args.k c.args.terms.now next before c.in-Some.entry c.in-Some.ensures.operand c.in-Some.ensures.within))
    c.push.ensures.ok
