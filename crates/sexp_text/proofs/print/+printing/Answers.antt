use Rattle.std.proofs.lemmas.Result.{on_ok_weaker}
use Rattle.sexp_text.proofs.PrintLemmas.{printed_list}
use Rattle.sexp_text.proofs.print.+printing.Goals as goal

pub print_node-returns-in_ok-print_parts-in-List : goal.print_node-returns-in_ok-print_parts-in-List
print_node-returns-in_ok-print_parts-in-List t c =
    on_ok_weaker c.push-in-List.result
    (printed_list _ _ _ _ _ _ c.in-List.parts _ c.in-List.is c.as_slice.ensures c.in_ok-push-in-List.ensures.ok c.in_ok-print_parts-in-List.ensures)
    c.push-in-List.ensures.ok
