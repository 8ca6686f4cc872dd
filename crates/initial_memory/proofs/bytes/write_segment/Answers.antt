use Rattle.std.proofs.Common.{sym, ap, ◌∙◌, ℕ, Option}
use Rattle.outline_rules.specs.Initial.{offset_of}
use Rattle.initial_memory.specs.words.Windows.{window_over}
use Rattle.initial_memory.proofs.Writes.{over_none}
use Rattle.initial_memory.proofs.bytes.write_segment.Goals as goal

pub returns-in-None : goal.returns-in-None
returns-in-None c =
    sym (over_none c.args.at c.args.segment.now.bytes c.args.window.now)
    ∙ ap (λ (o : Option ℕ). window_over o c.args.segment.now.bytes c.args.at c.args.window.now) (c.in-None.ensures ∙ ap offset_of c.as_slice.ensures)
