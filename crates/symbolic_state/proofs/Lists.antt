-- Lists turned round, and entries with another term.
use Rattle.std.proofs.Common.{◌≡◌, ℕ, zero, suc, ◌-◌, ◌<◌, ◌≤◌, List, [], ◌∷◌, ◌++◌, All, map, get_or, set, reverse, length, refl, sym, ap, ◌∙◌, subst, arith}
use Rattle.std.specs.Prelude.{None, slice_get, slice_index_or, unwrap_or}
use Rattle.std.proofs.lemmas.Option.{unwrap_or-slice_get}
use Rattle.std.proofs.lemmas.Grind.{elements}
use Rattle.std.proofs.lemmas.List.{reverse-append, map-append, map-set, set_past, same_lists, reverse-reverse, get_or-reverse, length-reverse, length-set}
use Rattle.wasm_values.specs.declared.number.ValType.{ValType}
use Rattle.term_trees.specs.declared.term.Term.{Term}
use Rattle.term_logic.specs.Table.{tree_at}
use Rattle.outline_rules.specs.States.{with_term}
use Rattle.symbolic_state.specs.States.{entry_at}
use Rattle.symbolic_state.specs.words.Entries.{with_id}
use Rattle.std.proofs.lemmas.List.Elements.{All-nil, All-cons, All-append, All-head, All-tail, All-set}

pub reverse-cons : {A : Type 0} → (x : A) (xs : List A) → reverse (x ∷ xs) ≡ reverse xs ++ x ∷ []
reverse-cons x xs = reverse-append (x ∷ []) xs

pub reverse-push : {A : Type 0} → (xs : List A) (x : A) → reverse (xs ++ x ∷ []) ≡ x ∷ reverse xs
reverse-push xs x = reverse-append xs (x ∷ [])

pub map-reverse : {A B : Type 0} → (f : A → B) (xs : List A) → map f (reverse xs) ≡ reverse (map f xs)
map-reverse f [] = refl
map-reverse f (x ∷ xs) =
    ap (map f) (reverse-cons x xs) ∙ map-append f (reverse xs) (x ∷ []) ∙ ap (λ l. l ++ f x ∷ []) (map-reverse f xs) ∙ sym (reverse-cons (f x) (map f xs))

pub All-reverse : {A : Type 0} → (P : A → Type 0) (xs : List A) → All P xs → All P (reverse xs)
All-reverse P [] h = All-nil P
All-reverse P (x ∷ xs) h =
    subst (All P) (sym (reverse-cons x xs))
    (All-append P (reverse xs) (x ∷ []) (All-reverse P xs (All-tail P x xs h)) (All-cons P x [] (All-head P x xs h) (All-nil P)))

-- an item set from the end
pub reverse-set : {A : Type 0} → (xs : List A) (i k : ℕ) (y : A) → k < length xs → i ≡ length xs - 1 - k → reverse (set xs i y) ≡ set (reverse xs) k y
reverse-set xs i k y low at =
    same_lists (reverse (set xs i y)) (set (reverse xs) k y)
    (length-reverse (set xs i y) ∙ length-set xs i y ∙ sym (length-reverse xs) ∙ sym (length-set (reverse xs) k y))
    (λ n d h. grind (elements, arith, h, at, low))

module _ (ts : List Term) where
  pub with_id-trees : (es : List (ValType × ℕ)) (k id : ℕ) → map (entry_at ts) (with_id es k id) ≡ with_term (map (entry_at ts) es) k (tree_at ts id)
  with_id-trees [] k id = refl
  with_id-trees (e ∷ es) zero id = refl
  with_id-trees (e ∷ es) (suc k) id = ap (λ r. entry_at ts e ∷ r) (with_id-trees es k id)

pub with_id-within : (n : ℕ) (es : List (ValType × ℕ)) (k id : ℕ) → id < n → All (λ e. e.1 < n) es → All (λ e. e.1 < n) (with_id es k id)
with_id-within n [] k id low h = h
with_id-within n (e ∷ es) zero id low h = All-cons (λ e. e.1 < n) (e.0, id) es low (All-tail (λ e. e.1 < n) e es h)
with_id-within n (e ∷ es) (suc k) id low h =
    All-cons (λ e. e.1 < n) e (with_id es k id) (All-head (λ e. e.1 < n) e es h) (with_id-within n es k id low (All-tail (λ e. e.1 < n) e es h))

pub with_id-set : (es : List (ValType × ℕ)) (k id : ℕ) (e : ValType × ℕ) → k < length es → get_or es k e ≡ e → with_id es k id ≡ set es k (e.0, id)
with_id-set [] k id e low is = absurd (omega arith)
with_id-set (d ∷ es) zero id e low is = ap (λ f. (f.0, id) ∷ es) is
with_id-set (d ∷ es) (suc k) id e low is = ap (λ r. d ∷ r) (with_id-set es k id e (omega arith) is)

pub with_id-past : (es : List (ValType × ℕ)) (k id : ℕ) → length es ≤ k → with_id es k id ≡ es
with_id-past [] k id h = refl
with_id-past (e ∷ es) zero id h = absurd (omega arith)
with_id-past (e ∷ es) (suc k) id h = ap (λ r. e ∷ r) (with_id-past es k id (omega arith))

pub last-set : (es : List (ValType × ℕ)) (i k id : ℕ) (e : ValType × ℕ) → k < length es → i ≡ length es - 1 - k → e ≡ get_or es i e → reverse (set es i (e.0, id)) ≡ with_id (reverse es) k id
last-set es i k id e low at is =
    reverse-set es i k (e.0, id) low at
    ∙ sym (with_id-set (reverse es) k id e (omega (arith, length-reverse es)) (get_or-reverse es k e low ∙ ap (λ n. get_or es n e) (sym at) ∙ sym is))

pub last-past : (es : List (ValType × ℕ)) (k id : ℕ) → length es ≤ k → with_id (reverse es) k id ≡ reverse es
last-past es k id h = with_id-past (reverse es) k id (omega (arith, length-reverse es))

pub ruleset entry_sets = (with_id-set, with_id-past)

pub ruleset last_sets = (last-set, last-past)

-- entries that are the others with another position, counted from the end
pub last-within : (n : ℕ) (es fs : List (ValType × ℕ)) (k id : ℕ) → reverse fs ≡ with_id (reverse es) k id → id < n → All (λ e. e.1 < n) es → All (λ e. e.1 < n) fs
last-within n es fs k id is low h =
    let turned : All (λ e. e.1 < n) (reverse fs) = subst (All (λ e. e.1 < n)) (sym is) (with_id-within n (reverse es) k id low (All-reverse (λ e. e.1 < n) es h)) in
    subst (All (λ e. e.1 < n)) (reverse-reverse fs) (All-reverse (λ e. e.1 < n) (reverse fs) turned)

pub ruleset entry_trees = (with_id-trees, with_id-within)

pub ruleset last_trees = (with_id-trees, last-within)

pub ruleset global_sets = (set_past, map-set, All-set)

pub ruleset turned = (reverse-push)

-- an item that there isn't
pub absent : {A : Type 0} (xs : List A) (k : ℕ) (d : A) → None ≡ slice_get xs k → d ≡ slice_index_or xs k d
absent xs k d is = ap (λ o. unwrap_or o d) is ∙ unwrap_or-slice_get xs k d
