use Rattle.std.proofs.lemmas.Bool.Decides.{Decides-eqb}
use Rattle.std.proofs.lemmas.Slice.Eq.{strip_prefix_is}
use Rattle.binary_grammar.specs.words.SectionReading.{header}
use Rattle.wasm_seal.proofs.splitting.behind_header.Goals as goal

pub returns : goal.returns
returns c = strip_prefix_is Decides-eqb c.args.file.now header c.strip_prefix.result c.strip_prefix.ensures.cases
