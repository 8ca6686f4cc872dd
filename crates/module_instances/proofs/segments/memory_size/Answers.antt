use Rattle.module_instances.proofs.WritingLemmas.{made_bytes}
use Rattle.module_instances.proofs.segments.memory_size.Goals as goal

pub returns : goal.returns
returns c = λ count. made_bytes c.args.memories.now c.args.made.now c.args.imported.now c.args.index _ count c.if-index-imported.false c.requires.within
