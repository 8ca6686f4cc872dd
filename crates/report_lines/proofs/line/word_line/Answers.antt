use Rattle.std.proofs.Common.{◌≡◌, List, ℕ, ◌++◌, ap, ◌∙◌, append_assoc}
use Rattle.report_lines.proofs.line.word_line.Goals as goal

-- parts that were appended one by one
joined : (t u v w x y cause colon word at printed place end : List ℕ) → t ≡ cause → u ≡ t ++ colon → v ≡ u ++ word → w ≡ v ++ at → x ≡ w ++ printed → printed ≡ place → y ≡ x ++ end →
    y ≡ (cause ++ (colon ++ (word ++ (at ++ place)))) ++ end
joined t u v w x y cause colon word at printed place end a b c d e p f =
    let grouped : (((cause ++ colon) ++ word) ++ at) ++ place ≡ cause ++ (colon ++ (word ++ (at ++ place))) = simp append_assoc in
    f ∙ ap (λ z. z ++ end) ((e ∙ ap (λ z. w ++ z) p) ∙ (ap (λ z. z ++ place) (d ∙ ap (λ z. z ++ at) (c ∙ ap (λ z. z ++ word) (b ∙ ap (λ z. z ++ colon) a))) ∙ grouped))

pub returns : goal.returns
returns c =
    joined _ _ _ _ _ _ _ _ _ _ _ _ _ c.in_ok-text.ensures.items c.in_ok-extend_from_slice.ensures.items c.in_ok-extend_from_slice-2.ensures.items c.in_ok-extend_from_slice-3.ensures.items
    c.in_ok-extend_from_slice-4.ensures.items c.place_text.ensures c.in_ok-push.ensures.items
