use Rattle.sexp_text.proofs.ByteLemmas.{word_utf8}
use Rattle.sexp_text.proofs.run.word_text.Goals as goal

pub unreachable-requires : goal.unreachable-requires
unreachable-requires c = c.in-Err.ensures.cases.0 (word_utf8 c.args.run.now c.requires)
