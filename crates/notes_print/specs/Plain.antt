-- The shapes of parts of notes of version 2 without the names of lemmas, on which no tree depends.
use Rattle.std.specs.Prelude.{ℕ, true, List, [], ◌∷◌, codes}
use Rattle.notes.specs.declared.assertion.Contract.{Contract}
use Rattle.notes_grammar.specs.Shapes.{Shape, Setting, word, listed, assertion}
use Rattle.notes_grammar.specs.Printed.{printed_tree}

-- notes of version 2 without lemmas
abbrev pub plain : Setting
plain = record { later = true; names = [] }

-- a contract
abbrev pub plain_contract : Contract → Shape
plain_contract k =
    listed (word (codes "contract") ∷ listed (word (codes "pre") ∷ assertion true k.pre ∷ []) ∷ listed (word (codes "post") ∷ assertion true k.post ∷ []) ∷ [])

-- the text of the first of these, if there is one
abbrev pub first_text : List Shape → List ℕ
first_text [] = []
first_text (x ∷ xs) = printed_tree x.tree
