use Rattle.std.proofs.Common.{◌++◌, ap, ◌∙◌}
use Rattle.sexp_text.specs.Printing.{printed, printed_node}
use Rattle.sexp_text.proofs.print.print_sexp.Goals as goal

pub returns : goal.returns
unfolding printed
returns c = c.in_ok-print_node.ensures ∙ ap (λ xs. xs ++ printed_node c.args.s.now.node) c.new-out.ensures
