-- Chunks that are left where those with some numbers go.
use Rattle.std.proofs.Common.{◌≡◌, ℕ, suc, ◌+◌, ◌≤◌, Bool, true, false, List, [], ◌∷◌, ◌++◌, length, map, All, sum_by, refl, sym, ap, subst, ◌∙◌, arith}
use Rattle.std.specs.Prelude.{if◌then◌else◌}
use Rattle.std.proofs.lemmas.List.{append-nil, length-append, length-map}
use Rattle.std.proofs.lemmas.List.Elements.{All-nil, All-cons, All-head, All-tail}
use Rattle.std.proofs.lemmas.List.Sums.{sum_by-cons}
use Rattle.notes.specs.declared.chunk.Chunk.{Chunk}
use Rattle.outline_rules.specs.Chunks.{chunk_nodes}
use Rattle.heap_logic.specs.declared.heap.IdChunk.{IdChunk}
use Rattle.heap_logic.specs.Heaps.{chunk_of, ChunkWithin, HasWidth}
use Rattle.outline_rules.specs.Entailment.{is_among, chunks_besides}
use Rattle.outline_rules.specs.States.{State, nodes_of, with_chunks}
use Rattle.symbolic_state.specs.States.{Tracked, WithinLimits}
use Rattle.symbolic_state.specs.words.Kept.{items_besides}
use Rattle.symbolic_state.proofs.Counting.{nodes-parts}

-- ---- one item more

-- the item at the end, if its number isn't among these
abbrev last_besides : {A : Type 0} → Bool → A → List A
last_besides b x = if b then [] else x ∷ []

besides-more : {A : Type 0} (b : Bool) (x y : A) (rest more rest_of_all : List A) → rest_of_all ≡ rest ++ more → (if b then rest_of_all else x ∷ rest_of_all) ≡ (if b then rest else x ∷ rest) ++ more
besides-more true x y rest more rest_of_all is = is
besides-more false x y rest more rest_of_all is = ap (λ r. x ∷ r) is

besides-append : {A : Type 0} (ks : List ℕ) (n : ℕ) (xs : List A) (y : A) (m : ℕ) → m ≡ length xs + n → items_besides ks n (xs ++ y ∷ []) ≡ items_besides ks n xs ++ last_besides (is_among ks m) y
besides-append ks n [] y m at = ap (λ k. last_besides (is_among ks k) y) (let e : n ≡ m = omega (arith, at) in e)
besides-append ks n (x ∷ xs) y m at =
    besides-more (is_among ks n) x y (items_besides ks (suc n) xs) (last_besides (is_among ks m) y) (items_besides ks (suc n) (xs ++ y ∷ []))
    (besides-append ks (suc n) xs y m (omega (arith, at)))

-- what is kept of the first items
pub record KeptSoFar {A : Type 0} (ks : List ℕ) (xs kept : List A) (n : ℕ) : Type 0 where
  pub items : kept ≡ items_besides ks 0 xs
  pub count : n ≡ length xs

pub kept-start : {A : Type 0} (ks : List ℕ) → KeptSoFar {A = A} ks [] [] 0
kept-start ks = record { items = refl; count = refl }

module _ {A : Type 0} (ks : List ℕ) (xs kept : List A) (n : ℕ) (so_far : KeptSoFar ks xs kept n) (x : A) where
  one_more : (b : Bool) → is_among ks n ≡ b → items_besides ks 0 (xs ++ x ∷ []) ≡ kept ++ last_besides b x
  one_more b is =
      besides-append ks 0 xs x n (omega (arith, so_far.count))
      ∙ (λ j. sym so_far.items j ++ last_besides (is j) x)

  counted : n + 1 ≡ length (xs ++ x ∷ [])
  counted = omega (arith, so_far.count, length-append xs (x ∷ []))

  pub kept-more : false ≡ is_among ks n → KeptSoFar ks (xs ++ x ∷ []) (kept ++ x ∷ []) (n + 1)
  kept-more is = record { items = sym (one_more false (sym is)); count = counted }

  pub kept-less : true ≡ is_among ks n → KeptSoFar ks (xs ++ x ∷ []) kept (n + 1)
  kept-less is = record { items = sym (one_more true (sym is) ∙ append-nil kept); count = counted }

pub ruleset keeping = (kept-start, kept-more, kept-less)

-- ---- what is left

module _ {A : Type 0} (ks : List ℕ) where
  all-if : (P : A → Type 0) (b : Bool) (x : A) (xs : List A) → P x → All P xs → All P (if b then xs else x ∷ xs)
  all-if P true x xs first rest = rest
  all-if P false x xs first rest = All-cons P x xs first rest

  pub besides-all : (P : A → Type 0) (n : ℕ) (xs : List A) → All P xs → All P (items_besides ks n xs)
  besides-all P n [] all = All-nil P
  besides-all P n (x ∷ xs) all = all-if P (is_among ks n) x (items_besides ks (suc n) xs) (All-head P x xs all) (besides-all P (suc n) xs (All-tail P x xs all))

  length-if : (b : Bool) (x : A) (xs : List A) (n : ℕ) → length xs ≤ n → length (if b then xs else x ∷ xs) ≤ n + 1
  length-if true x xs n low = omega arith
  length-if false x xs n low = omega arith

  pub besides-length : (n : ℕ) (xs : List A) → length (items_besides ks n xs) ≤ length xs
  besides-length n [] = omega arith
  besides-length n (x ∷ xs) = omega (arith, length-if (is_among ks n) x (items_besides ks (suc n) xs) (length xs) (besides-length (suc n) xs))

module _ {A : Type 0} (ks : List ℕ) (tree : A → Chunk) where
  map-if : (b : Bool) (x : A) (xs : List A) (cs : List Chunk) → map tree xs ≡ cs → map tree (if b then xs else x ∷ xs) ≡ (if b then cs else tree x ∷ cs)
  map-if true x xs cs is = is
  map-if false x xs cs is = ap (λ r. tree x ∷ r) is

  pub besides-trees : (n : ℕ) (xs : List A) → map tree (items_besides ks n xs) ≡ chunks_besides ks n (map tree xs)
  besides-trees n [] = refl
  besides-trees n (x ∷ xs) = map-if (is_among ks n) x (items_besides ks (suc n) xs) (chunks_besides ks (suc n) (map tree xs)) (besides-trees (suc n) xs)

-- ---- the state with the chunks that are left

-- a state that had no chunks
pub nodes-of-chunks : (cs : List Chunk) (s : State) → s.chunks ≡ [] → nodes_of (with_chunks cs s) ≡ nodes_of s + sum_by chunk_nodes cs
nodes-of-chunks cs s none =
    let nothing : sum_by chunk_nodes s.chunks ≡ 0 = ap (sum_by chunk_nodes) none in
    omega (arith, nothing, nodes-parts s, nodes-parts (with_chunks cs s))

pub nodes-fewer : (ks : List ℕ) (s : State) → nodes_of (with_chunks (chunks_besides ks 0 s.chunks) s) ≤ nodes_of s
nodes-fewer ks s = omega (arith, nodes-parts s, nodes-parts (with_chunks (chunks_besides ks 0 s.chunks) s), fewer ks 0 s.chunks)
  where
    fewer-if : (b : Bool) (c : Chunk) (cs : List Chunk) (n : ℕ) → sum_by chunk_nodes cs ≤ n → sum_by chunk_nodes (if b then cs else c ∷ cs) ≤ chunk_nodes c + n
    fewer-if true c cs n low = omega arith
    fewer-if false c cs n low = omega (arith, sum_by-cons chunk_nodes c cs)

    fewer : (ks : List ℕ) (n : ℕ) (cs : List Chunk) → sum_by chunk_nodes (chunks_besides ks n cs) ≤ sum_by chunk_nodes cs
    fewer ks n [] = omega arith
    fewer ks n (c ∷ cs) = omega (arith, fewer-if (is_among ks n) c (chunks_besides ks (suc n) cs) (sum_by chunk_nodes cs) (fewer ks (suc n) cs), sum_by-cons chunk_nodes c cs)

-- the chunks that are left, of a state that has lost all
module _ (ks : List ℕ) (old new : Tracked) (all left : List IdChunk) (lost : new ≡ record old { state = with_chunks [] old.state }) (trees : map (chunk_of old.terms) all ≡ old.state.chunks) (is : left ≡ items_besides ks 0 all) where
  pub left-trees : map (chunk_of new.terms) left ≡ chunks_besides ks 0 old.state.chunks
  left-trees =
      ap (λ (t : Tracked). map (chunk_of t.terms) left) lost ∙ ap (map (chunk_of old.terms)) is
      ∙ besides-trees ks (chunk_of old.terms) 0 all ∙ ap (chunks_besides ks 0) trees

  pub left-state : with_chunks (map (chunk_of new.terms) left) new.state ≡ with_chunks (chunks_besides ks 0 old.state.chunks) old.state
  left-state = λ j. with_chunks (left-trees j) (lost j).state

  pub left-nodes : WithinLimits old.state → nodes_of (with_chunks (map (chunk_of new.terms) left) new.state) ≤ 1000000
  left-nodes limits = let same = ap nodes_of left-state in let nodes = limits.nodes in omega (arith, same, nodes-fewer ks old.state, nodes)

  pub left-length : WithinLimits old.state → length left ≤ 1024
  left-length limits =
      let kept = ap length is in
      let count = ap length trees in
      let chunks = limits.chunks in
      omega (arith, kept, count, besides-length ks 0 all, length-map all (chunk_of old.terms), chunks)

  pub left-within : All (λ c. ChunkWithin (length old.terms) c) all → All (λ c. ChunkWithin (length new.terms) c) left
  left-within low =
      subst (All (λ c. ChunkWithin (length new.terms) c)) (sym is)
      (subst (λ (t : Tracked). All (λ c. ChunkWithin (length t.terms) c) (items_besides ks 0 all)) (sym lost) (besides-all ks (λ c. ChunkWithin (length old.terms) c) 0 all low))

  pub left-widths : All HasWidth all → All HasWidth left
  left-widths wide = subst (All HasWidth) (sym is) (besides-all ks HasWidth 0 all wide)

  pub left-again : (t : Tracked) → t ≡ record new { state = with_chunks (map (chunk_of new.terms) left) new.state } → t ≡ record old { state = with_chunks (chunks_besides ks 0 old.state.chunks) old.state }
  left-again t put = put ∙ (λ j. record { terms = ap (λ (x : Tracked). x.terms) lost j; state = left-state j })

pub ruleset no_more_chunks = (nodes-of-chunks)
