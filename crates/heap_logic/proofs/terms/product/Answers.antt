use Rattle.std.proofs.Common.{subst}
use Rattle.wasm_values.specs.Answers.{Gives}
use Rattle.term_logic.specs.Table.{tree_at}
use Rattle.term_logic.proofs.Trees.{tree_here_mul}
use Rattle.heap_logic.specs.Faults.{refusal_of}
use Rattle.heap_logic.specs.words.Making.{made}
use Rattle.heap_logic.proofs.terms.product.Goals as goal

pub returns-clause-made : goal.returns-clause-made
returns-clause-made c =
    subst (λ t. Gives refusal_of (tree_at c.interned.new.table) c.interned.result (made t)) (tree_here_mul c.args.table.now c.args.a c.args.b) c.interned.ensures.made
