-- What instructions are given, with a space before it.
use Rattle.std.proofs.Common.{◌≡◌, ℕ, List, [], ◌∷◌, ◌++◌, refl, sym, ap, ◌∙◌, append_assoc, append-nil}
use Rattle.notes.specs.declared.uses.Use.{Use}
use Rattle.notes.specs.declared.uses.Use.TheVariants as used
use Rattle.notes_grammar.specs.Printed.{printed_more}
use Rattle.notes_grammar.specs.Shapes.{trees_in, use_of}
use Rattle.notes_print.specs.Plain.{plain, first_text}

spaced : (u : Use) → (u ≡ used.Nothing → ⊥) → printed_more (trees_in (use_of plain u)) ≡ 32 ∷ first_text (use_of plain u)
unfolding use_of
spaced used.Nothing n = absurd (n refl)
spaced (used.With w) n = ap (λ t. 32 ∷ t) (append-nil _)
spaced (used.Cell k) n = ap (λ t. 32 ∷ t) (append-nil _)
spaced (used.Safe ks) n = ap (λ t. 32 ∷ t) (append-nil _)
spaced (used.Trap w) n = ap (λ t. 32 ∷ t) (append-nil _)
spaced (used.Take t) n = ap (λ t. 32 ∷ t) (append-nil _)
spaced (used.Table ts) n = ap (λ t. 32 ∷ t) (append-nil _)
spaced (used.Both v w) n = ap (λ t. 32 ∷ t) (append-nil _)
spaced (used.Label a) n = ap (λ t. 32 ∷ t) (append-nil _)
spaced (used.Loop a w) n = ap (λ t. 32 ∷ t) (append-nil _)
spaced (used.Skip a t) n = ap (λ t. 32 ∷ t) (append-nil _)

pub given_more : (u : Use) (old mid new : List ℕ) → (u ≡ used.Nothing → ⊥) → mid ≡ old ++ 32 ∷ [] → new ≡ mid ++ first_text (use_of plain u) → new ≡ old ++ printed_more (trees_in (use_of plain u))
given_more u old mid new n e f =
    f ∙ ap (λ t. t ++ first_text (use_of plain u)) e ∙ append_assoc old (32 ∷ []) (first_text (use_of plain u)) ∙ ap (λ t. old ++ t) (sym (spaced u n))

pub nothing_more : (u : Use) (out : List ℕ) → u ≡ used.Nothing → out ≡ out ++ printed_more (trees_in (use_of plain u))
unfolding use_of
nothing_more u out e = sym (append-nil out) ∙ ap (λ v. out ++ printed_more (trees_in (use_of plain v))) (sym e)
