use Rattle.std.proofs.Common.{◌+◌}
use Rattle.std.proofs.lemmas.Result.{IfOk-weaker}
use Rattle.sexp_text.proofs.step.step.Goals as goal

pub returns-in-Quoted-clause-stands : goal.returns-in-Quoted-clause-stands
returns-in-Quoted-clause-stands c =
    IfOk-weaker c.step_in_string.result _ _ (λ r h. h (c.args.at + 1)) c.step_in_string.ensures.stands

pub returns-in-Escape-clause-stands : goal.returns-in-Escape-clause-stands
returns-in-Escape-clause-stands c =
    IfOk-weaker c.step_first_digit.result _ _ (λ r h. h (c.args.at + 1)) c.step_first_digit.ensures.stands

pub returns-in-Digit-clause-stands : goal.returns-in-Digit-clause-stands
returns-in-Digit-clause-stands c =
    IfOk-weaker c.step_second_digit.result _ _ (λ r h. h (c.args.at + 1)) c.step_second_digit.ensures.stands
