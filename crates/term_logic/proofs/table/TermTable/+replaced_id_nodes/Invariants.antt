use Rattle.term_logic.proofs.table.TermTable.+replaced_id_nodes.Given as goal

abbrev pub decreases-replaced_id_nodes : goal.decreases-replaced_id_nodes
decreases-replaced_id_nodes l = l.id
