use Rattle.sexp_text.proofs.TextLaws.{found, only, again}
use Rattle.sexp_text.proofs.read.read_sexp.Goals as goal

pub returns-clause-found : goal.returns-clause-found
returns-clause-found c = found c.read_items.result c.args.text.now c.read_items.ensures

pub returns-clause-only : goal.returns-clause-only
returns-clause-only c s h = only c.read_items.result c.args.text.now s c.read_items.ensures h

pub returns-clause-again : goal.returns-clause-again
returns-clause-again c s other h e = again c.read_items.result c.args.text.now s other c.read_items.ensures h e
