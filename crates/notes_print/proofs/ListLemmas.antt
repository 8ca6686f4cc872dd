-- What is added part by part.
use Rattle.std.proofs.Common.{◌≡◌, ℕ, ◌+◌, ◌<◌, ◌≤◌, List, [], ◌∷◌, ◌++◌, length, get_or, drop, map, refl, sym, ap, ◌∙◌, append_assoc, append-nil}
use Rattle.std.proofs.lemmas.List.{drop_more, drop_all}
use Rattle.notes_grammar.specs.Printed.{printed_tree, printed_more}
use Rattle.notes_grammar.specs.Shapes.{Shape, word, listed, trees_in}

pub more_apart : (xs ys : List Shape) → printed_more (trees_in (xs ++ ys)) ≡ printed_more (trees_in xs) ++ printed_more (trees_in ys)
more_apart [] ys = refl
more_apart (x ∷ xs) ys =
    ap (λ t. 32 ∷ (printed_tree x.tree ++ t)) (more_apart xs ys) ∙ sym (append_assoc (32 ∷ printed_tree x.tree) (printed_more (trees_in xs)) (printed_more (trees_in ys)))

-- parts, and then more
pub more_then : (old mid new : List ℕ) (xs ys : List Shape) → mid ≡ old ++ printed_more (trees_in xs) → new ≡ mid ++ printed_more (trees_in ys) → new ≡ old ++ printed_more (trees_in (xs ++ ys))
more_then old mid new xs ys e f =
    f ∙ ap (λ t. t ++ printed_more (trees_in ys)) e ∙ append_assoc old (printed_more (trees_in xs)) (printed_more (trees_in ys)) ∙ ap (λ t. old ++ t) (sym (more_apart xs ys))

-- a space, and then a part
pub one_more : (old mid new : List ℕ) (x : Shape) → mid ≡ old ++ 32 ∷ [] → new ≡ mid ++ printed_tree x.tree → new ≡ old ++ printed_more (trees_in (x ∷ []))
one_more old mid new x e f =
    f ∙ ap (λ t. t ++ printed_tree x.tree) e ∙ append_assoc old (32 ∷ []) (printed_tree x.tree) ∙ ap (λ t. old ++ 32 ∷ t) (sym (append-nil (printed_tree x.tree)))

-- a list that begins with a word
pub closed : (old opened inside new w : List ℕ) (xs : List Shape) → opened ≡ old ++ 40 ∷ w → inside ≡ opened ++ printed_more (trees_in xs) → new ≡ inside ++ 41 ∷ [] →
    new ≡ old ++ printed_tree (listed (word w ∷ xs)).tree
closed old opened inside new w xs eo ei en =
    en ∙ ap (λ t. t ++ 41 ∷ []) (ei ∙ ap (λ t. t ++ printed_more (trees_in xs)) eo ∙ append_assoc old (40 ∷ w) (printed_more (trees_in xs)))
    ∙ append_assoc old (40 ∷ (w ++ printed_more (trees_in xs))) (41 ∷ [])

-- ---- the loop over parts that are printed alike

pub items_step : {X : Type 0} (shape : X → Shape) (items : List X) (i : ℕ) (x : X) (old new all : List ℕ) → i < length items → x ≡ get_or items i x →
    new ≡ old ++ printed_more (trees_in (shape x ∷ [])) → old ++ printed_more (trees_in (map shape (drop i items))) ≡ all → new ++ printed_more (trees_in (map shape (drop (i + 1) items))) ≡ all
items_step shape items i x old new all h is e before =
    ap (λ t. t ++ printed_more (trees_in (map shape (drop (i + 1) items)))) e
    ∙ append_assoc old (printed_more (trees_in (shape x ∷ []))) (printed_more (trees_in (map shape (drop (i + 1) items))))
    ∙ ap (λ t. old ++ t) (sym (more_apart (shape x ∷ []) (map shape (drop (i + 1) items))))
    ∙ ap (λ y. old ++ printed_more (trees_in (shape y ∷ map shape (drop (i + 1) items)))) is
    ∙ ap (λ ys. old ++ printed_more (trees_in (map shape ys))) (sym (drop_more items i x h)) ∙ before

pub items_end : {X : Type 0} (shape : X → Shape) (items : List X) (i : ℕ) (old all : List ℕ) → length items ≤ i → old ++ printed_more (trees_in (map shape (drop i items))) ≡ all → old ≡ all
items_end shape items i old all h before = sym (append-nil old) ∙ ap (λ ys. old ++ printed_more (trees_in (map shape ys))) (sym (drop_all i items h)) ∙ before
