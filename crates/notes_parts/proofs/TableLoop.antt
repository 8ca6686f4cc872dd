-- Looking a word up in a table.
use Rattle.std.proofs.Common.{◌≡◌, ℕ, ◌+◌, ◌<◌, ◌≤◌, Bool, true, false, cond, List, map, length, get_or, drop, Option, Some, None, sym, ap, ◌∙◌}
use Rattle.std.proofs.lemmas.List.{drop_more, drop_all}
use Rattle.notes_grammar.specs.Words.{same_word, pick}

abbrev Names : {E T : Type 0} → (E → List ℕ × T) → List E → List ℕ → Option T
Names f table w = pick (map f table) w

here : {E T : Type 0} (f : E → List ℕ × T) (table : List E) (i : ℕ) (e : E) (w : List ℕ) (b : Bool) → i < length table → e ≡ get_or table i e → same_word w (f e).0 ≡ b →
    Names f (drop i table) w ≡ cond b (Some (f e).1) (Names f (drop (i + 1) table) w)
here f table i e w b h is t =
    ap (λ es. Names f es w) (drop_more table i e h) ∙ ap (λ x. cond (same_word w (f x).0) (Some (f x).1) (Names f (drop (i + 1) table) w)) (sym is) ∙
    ap (λ v. cond v (Some (f e).1) (Names f (drop (i + 1) table) w)) t

pub found : {E T : Type 0} (f : E → List ℕ × T) (table : List E) (i : ℕ) (e : E) (w : List ℕ) (whole : Option T) → i < length table → e ≡ get_or table i e → same_word w (f e).0 ≡ true →
    Names f (drop i table) w ≡ whole → Some (f e).1 ≡ whole
found f table i e w whole h is t r = sym (here f table i e w true h is t) ∙ r

pub missed : {E T : Type 0} (f : E → List ℕ × T) (table : List E) (i : ℕ) (e : E) (w : List ℕ) (whole : Option T) → i < length table → e ≡ get_or table i e → same_word w (f e).0 ≡ false →
    Names f (drop i table) w ≡ whole → Names f (drop (i + 1) table) w ≡ whole
missed f table i e w whole h is t r = sym (here f table i e w false h is t) ∙ r

pub ends : {E T : Type 0} (f : E → List ℕ × T) (table : List E) (i : ℕ) (w : List ℕ) (whole : Option T) → length table ≤ i → Names f (drop i table) w ≡ whole → None ≡ whole
ends f table i w whole h r = sym (ap (λ es. Names f es w) (drop_all i table h)) ∙ r
