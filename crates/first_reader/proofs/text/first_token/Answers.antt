use Rattle.std.proofs.Common.{arith}
use Rattle.first_reader.proofs.LexemeLaws.{no_lexeme, open_lexeme, close_lexeme, run_lexeme}
use Rattle.first_reader.proofs.text.first_token.Goals as goal

pub returns-in-empty : goal.returns-in-empty
returns-in-empty c = no_lexeme c.args.text.now c.after_white-text.result.now c.after_white-text.ensures (omega arith)

pub returns-then-first-eq40 : goal.returns-then-first-eq40
returns-then-first-eq40 c = open_lexeme c.args.text.now c.after_white-text.result.now c.after_white-text.ensures (omega arith) c.if-first-eq40.true

pub returns-then-first-eq41 : goal.returns-then-first-eq41
returns-then-first-eq41 c = close_lexeme c.args.text.now c.after_white-text.result.now c.after_white-text.ensures (omega arith) c.if-first-eq41.true

pub returns-else-first-eq41 : goal.returns-else-first-eq41
returns-else-first-eq41 c =
    let e = run_lexeme c.args.text.now c.after_white-text.result.now c.after_white-text.ensures (omega arith) c.if-first-eq40.false c.if-first-eq41.false in
    cc
