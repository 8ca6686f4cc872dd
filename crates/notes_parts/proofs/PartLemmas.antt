-- The parts of a list as a list of values.
use mathlib.Core.Former.{Count}
use Rattle.std.proofs.Common.{◌≡◌, ℕ, List, refl, sym, ap, ◌∙◌}
use Rattle.sexp_text.specs.declared.sexp.Node.{Node, Num, Word, Str, List', Row_of-Sexp, end_of-Sexp, more_of-Sexp, items-the_row-Sexp, items_hidden-the_row-Sexp-0}
use Rattle.sexp_text.specs.declared.sexp.Node.TheBlock.{hidden-the_row-Sexp-0}
use Rattle.sexp_text.specs.declared.sexp.Node.TheVariants as node
use Rattle.sexp_text.specs.declared.sexp.Sexp.{Sexp}
use Rattle.notes_grammar.specs.Parts.{Cons, Branch, place, part_at, parts_in, part_of, parts_of}

parts_in-listed : {n : Count} (row : Row_of-Sexp n) → parts_in row ≡ parts_of (items-the_row-Sexp n row)
unfolding part_of
parts_in-listed end_of-Sexp = refl
parts_in-listed (more_of-Sexp at node rest) = ap (λ ps. Cons (part_at at node) ps) (parts_in-listed rest)

pub part_at-List : (at close : ℕ) (parts : List Sexp) → part_at at (node.List parts close) ≡ Branch at (parts_of parts) close
part_at-List at close parts = ap (λ ps. Branch at ps close) (parts_in-listed (hidden-the_row-Sexp-0 parts) ∙ ap parts_of (items_hidden-the_row-Sexp-0 parts))

pub list_seen : (s : Sexp) (parts given : List Sexp) (close : ℕ) → s.node ≡ node.List parts close → given ≡ parts → part_of s ≡ Branch s.at (parts_of given) close
unfolding part_of
list_seen s parts given close e g = ap (part_at s.at) e ∙ part_at-List s.at close parts ∙ ap (λ ps. Branch s.at (parts_of ps) close) (sym g)

pub place_of_part : (s : Sexp) → s.at ≡ place (part_of s)
unfolding part_of
place_of_part s = by_node s.node
  where
    by_node : (n : Node) → s.at ≡ place (part_at s.at n)
    by_node (Num z) = refl
    by_node (Word w) = refl
    by_node (Str w) = refl
    by_node (List' shape row close) = refl
