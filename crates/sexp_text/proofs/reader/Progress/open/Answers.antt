use Rattle.std.proofs.Common.{ap, length, arith}
use Rattle.sexp_text.proofs.FrontLemmas.{open-before, open-full, open-inside, open-after}
use Rattle.sexp_text.proofs.reader.Progress.open.Goals as goal

pub returns-in-Before : goal.returns-in-Before
returns-in-Before c = open-before c.args.at c.args.self _ _ c.in-Before.is c.new-in-Before.ensures c.new.ensures

pub returns-then-as_slice-ge-MAX_NESTING : goal.returns-then-as_slice-ge-MAX_NESTING
returns-then-as_slice-ge-MAX_NESTING c =
    open-full c.args.at (length c.as_slice.result.now) c.args.self _ _ c.in-Inside.is (ap length c.as_slice.ensures) (omega arith)

pub returns-in-Inside : goal.returns-in-Inside
returns-in-Inside c =
    open-inside c.args.at (length c.as_slice.result.now) c.args.self _ _ _ _ c.in-Inside.is (ap length c.as_slice.ensures) (omega arith)
    c.in_ok-push-in-Inside.ensures.ok c.new.ensures

pub returns : goal.returns
returns c = open-after c.args.at c.args.self _ c.in-After.is
