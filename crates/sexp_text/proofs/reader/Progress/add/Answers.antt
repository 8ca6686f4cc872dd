use Rattle.std.proofs.Common.{Ok, ap}
use Rattle.sexp_text.specs.Items.{items_of}
use Rattle.sexp_text.proofs.FrontLemmas.{add-inside, add-before, add-after}
use Rattle.sexp_text.proofs.reader.Progress.add.Goals as goal

pub returns-in_ok-push-in-Inside : goal.returns-in_ok-push-in-Inside
returns-in_ok-push-in-Inside c =
    ap Ok (add-inside c.args.self c.args.part c.in-Inside.outer c.in-Inside.inner _ c.in-Inside.is c.in_ok-push-in-Inside.ensures.ok)

pub returns-in-Before : goal.returns-in-Before
returns-in-Before c = ap Ok (add-before c.args.self (items_of c.args.part) c.in-Before.is)

pub returns-in-After : goal.returns-in-After
returns-in-After c = ap Ok (add-after c.args.self (items_of c.args.part) c.in-After.whole c.in-After.is)
