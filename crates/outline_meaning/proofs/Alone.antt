-- What a state entails alone, as beside nothing.
use Rattle.std.proofs.Common.{◌≡◌, ℤ, List, [], ◌++◌, Ok, sym, ap, ◌∙◌, subst, append_assoc}
use Rattle.std.specs.Prelude.{map}
use Rattle.std.proofs.lemmas.List.{map-append}
use Rattle.term_trees.specs.Leaves.{Leaves}
use Rattle.term_trees.specs.Meaning.{Numbers}
use Rattle.notes.specs.declared.chunk.Chunk.{Chunk}
use Rattle.notes.specs.declared.uses.With.{With}
use Rattle.outline_rules.specs.Chunks.{replaced_chunk}
use Rattle.outline_rules.specs.Settings.{Setting}
use Rattle.outline_rules.specs.States.{State}
use Rattle.outline_rules.specs.Entailment.{Wanted, Entailed, assertion_leaves, entailed}
use Rattle.outline_rules.specs.Meets.{numbers_of, Held, Meets}
use Rattle.outline_meaning.specs.Pieces.{Piece, piece_of, pieces_of}
use Rattle.outline_meaning.specs.Beside.{PagesFit}
use Rattle.outline_meaning.specs.words.Laws.{AssertedAlone}
use Rattle.outline_meaning.proofs.Besides.{beside_nothing, fit_alone}
use Rattle.outline_meaning.proofs.Entailing.{entailment_keeps}

-- the pieces of two lists of chunks, with none beside them
pieces_joint : (n : Numbers) (cs ds : List Chunk) → pieces_of n cs ++ (pieces_of n ds ++ []) ≡ pieces_of n (cs ++ ds) ++ []
pieces_joint n cs ds =
    let none : List Piece = [] in
    sym (append_assoc (pieces_of n cs) (pieces_of n ds) none) ∙ ap (λ ps. ps ++ none) (sym (map-append (piece_of n) cs ds))

pub entailment_keeps_alone : (c : Setting) (s : State) (h : Held) (want : Wanted) (w : With) (e : Entailed) (n : List ℤ)
    → Meets c s h n → entailed s want w ≡ Ok e → AssertedAlone s want e h.memory n
entailment_keeps_alone c s h want w e n m is =
    let l : Leaves = assertion_leaves s (want.fixed ++ e.terms) want.args want.result in
    let cs : List Chunk = map (replaced_chunk l) want.assertion.chunks in
    let none : List Piece = [] in
    let beside = entailment_keeps c s h want w e n none (beside_nothing c s h n m) is in
    record {
      formulas = beside.formulas;
      chunks =
          fit_alone (numbers_of n) s.pages (cs ++ e.left) none h.memory
          (subst (λ ps. PagesFit (numbers_of n) s.pages ps h.memory) (pieces_joint (numbers_of n) cs e.left) beside.chunks);
    }
