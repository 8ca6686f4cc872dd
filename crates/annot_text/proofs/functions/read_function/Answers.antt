use Rattle.notes_grammar.specs.Parts.{part_of}
use Rattle.annot_text.proofs.Same.{function_is}
use Rattle.annot_text.proofs.functions.read_function.Goals as goal

pub returns : goal.returns
returns c = rw (function_is c.args.context.now (part_of c.args.part.now)) c.function_of_parts.ensures
