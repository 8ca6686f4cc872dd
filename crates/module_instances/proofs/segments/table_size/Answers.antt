use Rattle.module_instances.proofs.WritingLemmas.{made_entries}
use Rattle.module_instances.proofs.segments.table_size.Goals as goal

pub returns : goal.returns
returns c = λ count. made_entries c.args.tables.now c.args.made.now c.args.imported.now c.args.index _ count c.if-index-imported.false c.requires.within
