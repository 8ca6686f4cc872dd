use Rattle.sexp_text.proofs.FrontLemmas.{close-last, close-inside, close-before, close-after}
use Rattle.sexp_text.proofs.reader.Progress.close.Goals as goal

pub returns-in-None : goal.returns-in-None
returns-in-None c = close-last c.args.at c.args.self c.in-Inside.outer c.in-Inside.inner c.in-Inside.is c.in-None.ensures.0

pub returns-in-Inside : goal.returns-in-Inside
returns-in-Inside c =
    close-inside c.args.at c.args.self c.in-Inside.outer _ c.in-Inside.inner c.in-Some.around _ c.in-Inside.is c.in-Some.ensures
    c.in_ok-push-in-Some.ensures.ok

pub returns-in-Before : goal.returns-in-Before
returns-in-Before c = close-before c.args.at c.args.self c.in-Before.is

pub returns : goal.returns
returns c = close-after c.args.at c.args.self _ c.in-After.is
