-- Lists of parts that are checked one after another.
use Rattle.std.proofs.Common.{◌≡◌, ℕ, suc, ℤ, pos, ◌+◌, ◌<◌, ◌≤◌, Bool, true, false, not, ◌||◌, List, [], ◌∷◌, ◌++◌, map, drop, length, get_or, Option, Some, None, refl, sym, ap, subst, ◌∙◌, append_assoc, add-one, drop-cons}
use Rattle.std.specs.Prelude.{filter, option_map, option_and_then, if◌then◌else◌}
use Rattle.std.proofs.lemmas.List.{map-append, drop_all, append-nil}
use Rattle.std.proofs.lemmas.List.Elements.{All-append, All-nil, All-cons}
use Rattle.std.proofs.lemmas.Iterator.Adapters.{option_map_id}
use Rattle.term_trees.specs.declared.term.Term.{Term}
use Rattle.term_trees.specs.Same.{same}
use Rattle.term_trees.specs.Normal.{is_low}
use Rattle.term_trees.specs.declared.linear.Way.{Way}
use Rattle.term_trees.specs.Linear.{Parts, shown, PartsWithin, coefficient_in, occurs_in, applied, limited, limited_parts, kept_parts, fresh_parts, joined}

-- parts one after another are checked one after another
pub limited_parts-append : (ps qs : List (Term × ℤ)) → limited_parts (ps ++ qs) ≡ option_and_then (λ xs. option_map (λ ys. xs ++ ys) (limited_parts qs)) (limited_parts ps)
limited_parts-append [] qs = sym (option_map_id (limited_parts qs))
limited_parts-append (p ∷ ps) qs =
    ap (λ o. if is_low p.1 then option_map (λ xs. p ∷ xs) o else None) (limited_parts-append ps qs)
    ∙ step (is_low p.1) (limited_parts ps) (limited_parts qs)
  where
    inner : (xs : List (Term × ℤ)) (o : Option (List (Term × ℤ))) → option_map (λ zs. p ∷ zs) (option_map (λ ys. xs ++ ys) o) ≡ option_map (λ ys. (p ∷ xs) ++ ys) o
    inner xs None = refl
    inner xs (Some ys) = refl

    step : (low : Bool) (o q : Option (List (Term × ℤ))) → (if low then option_map (λ xs. p ∷ xs) (option_and_then (λ xs. option_map (λ ys. xs ++ ys) q) o) else None)
        ≡ option_and_then (λ xs. option_map (λ ys. xs ++ ys) q) (if low then option_map (λ xs. p ∷ xs) o else None)
    step false o q = refl
    step true None q = refl
    step true (Some xs) q = inner xs q

-- ---- a list of parts that grows

-- the parts that are there, and then the rest, where that is low
abbrev pub gathered : List (Term × ℤ) → List (Term × ℤ) → Option (List (Term × ℤ))
gathered ps qs = option_map (λ rs. ps ++ rs) (limited_parts qs)

-- a low part goes over from the rest
gathered_low : (ps qs : List (Term × ℤ)) (t : Term) (z c : ℤ) → Some c ≡ limited z → gathered (ps ++ ((t, c) ∷ [])) qs ≡ gathered ps ((t, z) ∷ qs)
gathered_low ps qs t z c e = at (is_low z) (limited_parts qs) e
  where
    at : (b : Bool) (o : Option (List (Term × ℤ))) → Some c ≡ (if b then Some z else None)
        → option_map (λ rs. (ps ++ ((t, c) ∷ [])) ++ rs) o ≡ option_map (λ rs. ps ++ rs) (if b then option_map (λ rs. (t, z) ∷ rs) o else None)
    at false o e = cc
    at true None e = refl
    at true (Some rs) e = let is : c ≡ z = cc in ap Some (append_assoc ps ((t, c) ∷ []) rs ∙ ap (λ w. ps ++ ((t, w) ∷ rs)) is)

-- a number that isn't low ends it
gathered_high : (ps qs : List (Term × ℤ)) (t : Term) (z : ℤ) → None ≡ limited z → None ≡ gathered ps ((t, z) ∷ qs)
gathered_high ps qs t z e = at (is_low z) (limited_parts qs) e
  where
    at : (b : Bool) (o : Option (List (Term × ℤ))) → None ≡ (if b then Some z else None) → None ≡ option_map (λ rs. ps ++ rs) (if b then option_map (λ rs. (t, z) ∷ rs) o else None)
    at true o e = cc
    at false o e = refl

fresh_at : (w : Way) (ps : List (Term × ℤ)) (t : Term) (z : ℤ) (qs : List (Term × ℤ)) → occurs_in ps t ≡ false
    → fresh_parts w ps ((t, z) ∷ qs) ≡ (t, applied w (pos 0) z) ∷ fresh_parts w ps qs
fresh_at w ps t z qs e =
    ap (λ b. map (λ q. (q.0, applied w (pos 0) q.1)) (if not b then (t, z) ∷ filter (λ q. not (occurs_in ps q.0)) qs else filter (λ q. not (occurs_in ps q.0)) qs)) e

fresh_past : (w : Way) (ps : List (Term × ℤ)) (t : Term) (z : ℤ) (qs : List (Term × ℤ)) → occurs_in ps t ≡ true → fresh_parts w ps ((t, z) ∷ qs) ≡ fresh_parts w ps qs
fresh_past w ps t z qs e =
    ap (λ b. map (λ q. (q.0, applied w (pos 0) q.1)) (if not b then (t, z) ∷ filter (λ q. not (occurs_in ps q.0)) qs else filter (λ q. not (occurs_in ps q.0)) qs)) e

-- a part of known ones is known
pub within_step : {X : Type 0} (Known : X → Type 0) (parts all : List (X × ℤ)) (i : ℕ) (p : X × ℤ) (c : ℤ) → i < length all → p ≡ get_or all i p
    → PartsWithin Known all → PartsWithin Known parts → PartsWithin Known (parts ++ ((p.0, c) ∷ []))
within_step {X} Known parts all i p c h is whole there =
    All-append (λ (q : X × ℤ). Known q.0) parts ((p.0, c) ∷ []) there
    (All-cons (λ (q : X × ℤ). Known q.0) (p.0, c) [] (subst (λ (q : X × ℤ). Known q.0) (sym is) (whole i p h)) (All-nil (λ (q : X × ℤ). Known q.0)))

pub within_append : {X : Type 0} (Known : X → Type 0) (ps qs : List (X × ℤ)) → PartsWithin Known ps → PartsWithin Known qs → PartsWithin Known (ps ++ qs)
within_append {X} Known ps qs left right = All-append (λ (q : X × ℤ). Known q.0) ps qs left right

pub shown-append : {X : Type 0} (tree : X → Term) (ps qs : List (X × ℤ)) → shown tree (ps ++ qs) ≡ shown tree ps ++ shown tree qs
shown-append {X} tree ps qs = map-append (λ (p : X × ℤ). (tree p.0, p.1)) ps qs

dropped : {X : Type 0} (xs : List (X × ℤ)) (i : ℕ) (p : X × ℤ) → i < length xs → p ≡ get_or xs i p → drop i xs ≡ p ∷ drop (i + 1) xs
dropped xs i p h is = rw (add-one, drop-cons xs i p) (ap (λ q. q ∷ drop (suc i) xs) (sym is))

-- ---- the search for a term among the parts, from a part on

module _ {X : Type 0} (tree : X → Term) (t : Term) where
  at_part : (parts : List (X × ℤ)) (i : ℕ) (p : X × ℤ) (is_same : Bool) → i < length parts → p ≡ get_or parts i p → same (tree p.0) t ≡ is_same
      → coefficient_in (shown tree (drop i parts)) t ≡ (if is_same then p.1 else coefficient_in (shown tree (drop (i + 1) parts)) t)
  at_part parts i p is_same h is tested =
      ap (λ xs. coefficient_in (shown tree xs) t) (dropped parts i p h is)
      ∙ ap (λ b. if b then p.1 else coefficient_in (shown tree (drop (i + 1) parts)) t) tested

  pub coefficient_found : (parts : List (X × ℤ)) (i : ℕ) (p : X × ℤ) (whole : ℤ) → i < length parts → p ≡ get_or parts i p → same (tree p.0) t ≡ true
      → coefficient_in (shown tree (drop i parts)) t ≡ whole → p.1 ≡ whole
  coefficient_found parts i p whole h is found before = sym (at_part parts i p true h is found) ∙ before

  pub coefficient_step : (parts : List (X × ℤ)) (i : ℕ) (p : X × ℤ) (whole : ℤ) → i < length parts → p ≡ get_or parts i p → same (tree p.0) t ≡ false
      → coefficient_in (shown tree (drop i parts)) t ≡ whole → coefficient_in (shown tree (drop (i + 1) parts)) t ≡ whole
  coefficient_step parts i p whole h is other before = sym (at_part parts i p false h is other) ∙ before

  pub coefficient_end : (parts : List (X × ℤ)) (i : ℕ) (whole : ℤ) → length parts ≤ i → coefficient_in (shown tree (drop i parts)) t ≡ whole → pos 0 ≡ whole
  coefficient_end parts i whole h before = ap (λ xs. coefficient_in (shown tree xs) t) (sym (drop_all i parts h)) ∙ before

  occurs_at : (parts : List (X × ℤ)) (i : ℕ) (p : X × ℤ) (is_same : Bool) → i < length parts → p ≡ get_or parts i p → same (tree p.0) t ≡ is_same
      → occurs_in (shown tree (drop i parts)) t ≡ (is_same || occurs_in (shown tree (drop (i + 1) parts)) t)
  occurs_at parts i p is_same h is tested =
      ap (λ xs. occurs_in (shown tree xs) t) (dropped parts i p h is) ∙ ap (λ b. b || occurs_in (shown tree (drop (i + 1) parts)) t) tested

  pub occurs_found : (parts : List (X × ℤ)) (i : ℕ) (p : X × ℤ) (whole : Bool) → i < length parts → p ≡ get_or parts i p → same (tree p.0) t ≡ true
      → occurs_in (shown tree (drop i parts)) t ≡ whole → true ≡ whole
  occurs_found parts i p whole h is found before = sym (occurs_at parts i p true h is found) ∙ before

  pub occurs_step : (parts : List (X × ℤ)) (i : ℕ) (p : X × ℤ) (whole : Bool) → i < length parts → p ≡ get_or parts i p → same (tree p.0) t ≡ false
      → occurs_in (shown tree (drop i parts)) t ≡ whole → occurs_in (shown tree (drop (i + 1) parts)) t ≡ whole
  occurs_step parts i p whole h is other before = sym (occurs_at parts i p false h is other) ∙ before

  pub occurs_end : (parts : List (X × ℤ)) (i : ℕ) (whole : Bool) → length parts ≤ i → occurs_in (shown tree (drop i parts)) t ≡ whole → false ≡ whole
  occurs_end parts i whole h before = ap (λ xs. occurs_in (shown tree xs) t) (sym (drop_all i parts h)) ∙ before

module _ {X : Type 0} (tree : X → Term) (w : Way) where
  shown-push : (parts : List (X × ℤ)) (x : X) (c : ℤ) → shown tree (parts ++ ((x, c) ∷ [])) ≡ shown tree parts ++ ((tree x, c) ∷ [])
  shown-push parts x c = map-append (λ p. (tree p.0, p.1)) parts ((x, c) ∷ [])

  -- one of the first parts more
  pub kept_step : (parts more first second : List (X × ℤ)) (i : ℕ) (p : X × ℤ) (c : ℤ) (whole : Option (List (Term × ℤ))) → i < length first → p ≡ get_or first i p
      → Some c ≡ limited (applied w p.1 (coefficient_in (shown tree second) (tree p.0))) → more ≡ parts ++ ((p.0, c) ∷ [])
      → gathered (shown tree parts) (kept_parts w (shown tree (drop i first)) (shown tree second)) ≡ whole
      → gathered (shown tree more) (kept_parts w (shown tree (drop (i + 1) first)) (shown tree second)) ≡ whole
  kept_step parts more first second i p c whole h is low pushed before =
      let rest = kept_parts w (shown tree (drop (i + 1) first)) (shown tree second) in
      ap (λ ps. gathered (shown tree ps) rest) pushed
      ∙ ap (λ ps. gathered ps rest) (shown-push parts p.0 c)
      ∙ gathered_low (shown tree parts) rest (tree p.0) (applied w p.1 (coefficient_in (shown tree second) (tree p.0))) c low
      ∙ ap (λ xs. gathered (shown tree parts) (kept_parts w (shown tree xs) (shown tree second))) (sym (dropped first i p h is))
      ∙ before

  -- no first part is left
  pub kept_end : (parts first second : List (X × ℤ)) (i : ℕ) (whole : Option (List (Term × ℤ))) → length first ≤ i
      → gathered (shown tree parts) (kept_parts w (shown tree (drop i first)) (shown tree second)) ≡ whole → Some (shown tree parts) ≡ whole
  kept_end parts first second i whole h before =
      ap Some (sym (append-nil (shown tree parts)))
      ∙ ap (λ xs. gathered (shown tree parts) (kept_parts w (shown tree xs) (shown tree second))) (sym (drop_all i first h))
      ∙ before

  -- one of the first parts isn't low
  pub kept_stop : (parts first second : List (X × ℤ)) (i : ℕ) (p : X × ℤ) (whole : Option (List (Term × ℤ))) → i < length first → p ≡ get_or first i p
      → None ≡ limited (applied w p.1 (coefficient_in (shown tree second) (tree p.0)))
      → gathered (shown tree parts) (kept_parts w (shown tree (drop i first)) (shown tree second)) ≡ whole → None ≡ whole
  kept_stop parts first second i p whole h is high before =
      let rest = kept_parts w (shown tree (drop (i + 1) first)) (shown tree second) in
      gathered_high (shown tree parts) rest (tree p.0) (applied w p.1 (coefficient_in (shown tree second) (tree p.0))) high
      ∙ ap (λ xs. gathered (shown tree parts) (kept_parts w (shown tree xs) (shown tree second))) (sym (dropped first i p h is))
      ∙ before

  -- one of the second parts more, whose term is none of the first
  pub fresh_step : (parts more first second : List (X × ℤ)) (i : ℕ) (p : X × ℤ) (c : ℤ) (whole : Option (List (Term × ℤ))) → i < length second → p ≡ get_or second i p
      → occurs_in (shown tree first) (tree p.0) ≡ false → Some c ≡ limited (applied w (pos 0) p.1) → more ≡ parts ++ ((p.0, c) ∷ [])
      → gathered (shown tree parts) (fresh_parts w (shown tree first) (shown tree (drop i second))) ≡ whole
      → gathered (shown tree more) (fresh_parts w (shown tree first) (shown tree (drop (i + 1) second))) ≡ whole
  fresh_step parts more first second i p c whole h is out low pushed before =
      let rest = shown tree (drop (i + 1) second) in
      ap (λ ps. gathered (shown tree ps) (fresh_parts w (shown tree first) rest)) pushed
      ∙ ap (λ ps. gathered ps (fresh_parts w (shown tree first) rest)) (shown-push parts p.0 c)
      ∙ gathered_low (shown tree parts) (fresh_parts w (shown tree first) rest) (tree p.0) (applied w (pos 0) p.1) c low
      ∙ sym (ap (gathered (shown tree parts)) (fresh_at w (shown tree first) (tree p.0) p.1 rest out))
      ∙ ap (λ xs. gathered (shown tree parts) (fresh_parts w (shown tree first) (shown tree xs))) (sym (dropped second i p h is))
      ∙ before

  -- one of the second parts, whose term is one of the first
  pub fresh_skip : (parts first second : List (X × ℤ)) (i : ℕ) (p : X × ℤ) (whole : Option (List (Term × ℤ))) → i < length second → p ≡ get_or second i p
      → occurs_in (shown tree first) (tree p.0) ≡ true
      → gathered (shown tree parts) (fresh_parts w (shown tree first) (shown tree (drop i second))) ≡ whole
      → gathered (shown tree parts) (fresh_parts w (shown tree first) (shown tree (drop (i + 1) second))) ≡ whole
  fresh_skip parts first second i p whole h is known before =
      sym (ap (gathered (shown tree parts)) (fresh_past w (shown tree first) (tree p.0) p.1 (shown tree (drop (i + 1) second)) known))
      ∙ ap (λ xs. gathered (shown tree parts) (fresh_parts w (shown tree first) (shown tree xs))) (sym (dropped second i p h is))
      ∙ before

  -- no second part is left
  pub fresh_end : (parts first second : List (X × ℤ)) (i : ℕ) (whole : Option (List (Term × ℤ))) → length second ≤ i
      → gathered (shown tree parts) (fresh_parts w (shown tree first) (shown tree (drop i second))) ≡ whole → Some (shown tree parts) ≡ whole
  fresh_end parts first second i whole h before =
      ap Some (sym (append-nil (shown tree parts)))
      ∙ ap (λ xs. gathered (shown tree parts) (fresh_parts w (shown tree first) (shown tree xs))) (sym (drop_all i second h))
      ∙ before

  -- one of the second parts isn't low
  pub fresh_stop : (parts first second : List (X × ℤ)) (i : ℕ) (p : X × ℤ) (whole : Option (List (Term × ℤ))) → i < length second → p ≡ get_or second i p
      → occurs_in (shown tree first) (tree p.0) ≡ false → None ≡ limited (applied w (pos 0) p.1)
      → gathered (shown tree parts) (fresh_parts w (shown tree first) (shown tree (drop i second))) ≡ whole → None ≡ whole
  fresh_stop parts first second i p whole h is out high before =
      let rest = shown tree (drop (i + 1) second) in
      gathered_high (shown tree parts) (fresh_parts w (shown tree first) rest) (tree p.0) (applied w (pos 0) p.1) high
      ∙ sym (ap (gathered (shown tree parts)) (fresh_at w (shown tree first) (tree p.0) p.1 rest out))
      ∙ ap (λ xs. gathered (shown tree parts) (fresh_parts w (shown tree first) (shown tree xs))) (sym (dropped second i p h is))
      ∙ before

-- what the code shows of two forms that are taken together
module _ (w : Way) (f g : Parts) where
  pub joined-some : (c : ℤ) (ps qs rs : List (Term × ℤ)) → Some c ≡ limited (applied w f.0 g.0) → Some ps ≡ limited_parts (kept_parts w f.1 g.1)
      → Some qs ≡ limited_parts (fresh_parts w f.1 g.1) → rs ≡ ps ++ qs → Some (c, rs) ≡ joined w f g
  joined-some c ps qs rs at kept fresh is =
      ap (λ rs. Some (c, rs)) is
      ∙ (λ j. option_and_then (λ c. option_and_then (λ ps. option_map (λ qs. (c, ps ++ qs)) (fresh j)) (kept j)) (at j))

  pub joined-high : None ≡ limited (applied w f.0 g.0) → None ≡ joined w f g
  joined-high at =
      ap (option_and_then (λ c. option_and_then (λ ps. option_map (λ qs. (c, ps ++ qs)) (limited_parts (fresh_parts w f.1 g.1))) (limited_parts (kept_parts w f.1 g.1)))) at

  pub joined-kept_high : (c : ℤ) → Some c ≡ limited (applied w f.0 g.0) → None ≡ limited_parts (kept_parts w f.1 g.1) → None ≡ joined w f g
  joined-kept_high c at kept =
      λ j. option_and_then (λ c. option_and_then (λ ps. option_map (λ qs. (c, ps ++ qs)) (limited_parts (fresh_parts w f.1 g.1))) (kept j)) (at j)

  pub joined-fresh_high : (c : ℤ) (ps : List (Term × ℤ)) → Some c ≡ limited (applied w f.0 g.0) → Some ps ≡ limited_parts (kept_parts w f.1 g.1)
      → None ≡ limited_parts (fresh_parts w f.1 g.1) → None ≡ joined w f g
  joined-fresh_high c ps at kept fresh = λ j. option_and_then (λ c. option_and_then (λ ps. option_map (λ qs. (c, ps ++ qs)) (fresh j)) (kept j)) (at j)
