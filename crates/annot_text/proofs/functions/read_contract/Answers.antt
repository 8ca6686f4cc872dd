use Rattle.notes_grammar.specs.Parts.{part_of}
use Rattle.annot_text.proofs.Same.{contract_is}
use Rattle.annot_text.proofs.functions.read_contract.Goals as goal

pub returns : goal.returns
returns c = rw (contract_is c.args.context.now.later (part_of c.args.part.now)) c.contract_of_parts.ensures
