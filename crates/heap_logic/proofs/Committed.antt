-- What a change comes to: the chunks, how many there are, and the nodes.
use Rattle.std.proofs.Common.{◌≡◌, ℕ, ◌+◌, ◌-◌, ◌<◌, ◌≤◌, zero, suc, List, [], ◌∷◌, ◌++◌, length, map, get_or, take, drop, Option, Some, None, refl, sym, ap, ◌∙◌, arith, length-append, sum_by, IfSome, ⊎_elim, min}
use Rattle.std.specs.Prelude.{slice_set, remove, nat_le, ◌⊎◌}
use Rattle.std.specs.List.{All}
use Rattle.std.specs.Option.{option_map_or}
use Rattle.std.proofs.lemmas.Bool.{cases_order}
use Rattle.std.proofs.lemmas.List.{map-append, length-map, take-map, drop-map, length-set, get_or_append_left, get_or-set_other}
use Rattle.std.proofs.lemmas.List.Edits.{length-remove, get_or-remove_below, get_or-remove_above}
use Rattle.std.proofs.lemmas.List.Elements.{All-append, All-set, All-take, All-drop}
use Rattle.std.proofs.lemmas.List.Sums.{sum_by-append, sum_by-set, sum_by-remove, get_or-le-sum_by}
use Rattle.wasm_values.specs.declared.limit.LimitWord.TheVariants as limit
use Rattle.term_trees.specs.declared.term.Term.{Term}
use Rattle.term_trees.specs.Formulas.{formula_nodes}
use Rattle.term_logic.specs.Formulas.{formula_of}
use Rattle.notes.specs.declared.chunk.Chunk.{Chunk}
use Rattle.outline_rules.specs.Refusals.{limited, ◌>>◌}
use Rattle.outline_rules.specs.Chunks.{chunk_nodes}
use Rattle.outline_rules.specs.States.{State, nodes_of}
use Rattle.heap_logic.specs.declared.heap.IdChunk.{IdChunk}
use Rattle.heap_logic.specs.declared.heap.SymHeap.{SymHeap}
use Rattle.heap_logic.specs.declared.change.Change.{Change}
use Rattle.term_logic.specs.declared.leaves.LeafIds.{LeafIds}
use Rattle.heap_logic.specs.Heaps.{chunk_of, seen}
use Rattle.heap_logic.specs.words.Effects.{Effect, after, effect_of, without, without_id, nodes_at, rest_nodes, new_nodes, ChangeWithin}
use Rattle.heap_logic.specs.words.Commits.{changed, state_limits}
use Rattle.heap_logic.specs.words.Limits.{limits}
use Rattle.heap_logic.proofs.Takings.{capped-test}

-- ---- the chunks

module _ {X Y : Type 0} (f : X → Y) where
  map-set : (xs : List X) (i : ℕ) (x : X) → map f (slice_set xs i x) ≡ slice_set (map f xs) i (f x)
  map-set [] i x = refl
  map-set (y ∷ ys) zero x = refl
  map-set (y ∷ ys) (suc i) x = ap (λ zs. f y ∷ zs) (map-set ys i x)

  map-remove : (xs : List X) (i : ℕ) → map f (remove xs i) ≡ remove (map f xs) i
  map-remove xs i = map-append f (take i xs) (drop (suc i) xs) ∙ (λ j. sym (take-map f i xs) j ++ sym (drop-map f (suc i) xs) j)

set-append : {X : Type 0} (xs ys : List X) (i : ℕ) (x : X) → i < length xs → slice_set (xs ++ ys) i x ≡ slice_set xs i x ++ ys
set-append [] ys i x h = absurd (omega arith)
set-append (y ∷ xs) ys zero x h = refl
set-append (y ∷ xs) ys (suc i) x h = ap (λ zs. y ∷ zs) (set-append xs ys i x (omega arith))

map-without : (ts : List Term) (gone : Option ℕ) (cs : List IdChunk) → map (chunk_of ts) (without_id gone cs) ≡ without gone (map (chunk_of ts) cs)
map-without ts None cs = refl
map-without ts (Some d) cs = map-remove (chunk_of ts) cs d

-- the chunks over a table, and the trees
pub chunks-after : (ts : List Term) (cs more : List IdChunk) (k : ℕ) (b : IdChunk) (gone : Option ℕ) → k < length cs
    → map (chunk_of ts) (without_id gone (slice_set (cs ++ more) k b)) ≡ without gone (slice_set (map (chunk_of ts) cs) k (chunk_of ts b) ++ map (chunk_of ts) more)
chunks-after ts cs more k b gone h =
    map-without ts gone (slice_set (cs ++ more) k b)
    ∙ ap (without gone) (ap (map (chunk_of ts)) (set-append cs more k b h) ∙ map-append (chunk_of ts) (slice_set cs k b) more
    ∙ (λ j. map-set (chunk_of ts) cs k b j ++ map (chunk_of ts) more))

-- what holds of all chunks and of the new ones holds of all after
pub all-after : (P : IdChunk → Type 0) (cs more : List IdChunk) (k : ℕ) (b : IdChunk) (gone : Option ℕ) → All P cs → P b → All P more
    → All P (without_id gone (slice_set (cs ++ more) k b))
all-after P cs more k b None all here new = All-set P (cs ++ more) k b here (All-append P cs more all new)
all-after P cs more k b (Some d) all here new =
    let whole = All-set P (cs ++ more) k b here (All-append P cs more all new) in
    All-append P (take d (slice_set (cs ++ more) k b)) (drop (suc d) (slice_set (cs ++ more) k b)) (All-take P d _ whole) (All-drop P (suc d) _ whole)

-- ---- how many there are

-- how many chunks there are after a change
pub count-after : (cs more : List Chunk) (k : ℕ) (b : Chunk) (gone : Option ℕ) → IfSome gone (λ d. (d < length cs) × (d ≡ k → ⊥))
    → option_map_or (λ _. length cs - 1) gone (length cs) + length more ≡ length (without gone (slice_set cs k b ++ more))
count-after cs more k b None h = sym (length-append (slice_set cs k b) more ∙ ap (λ n. n + length more) (length-set cs k b))
count-after cs more k b (Some d) h =
    let whole = length-append (slice_set cs k b) more ∙ ap (λ n. n + length more) (length-set cs k b) in
    let less = length-remove (slice_set cs k b ++ more) d (omega (arith, whole, h.0)) in
    omega (arith, whole, less, h.0)

-- ---- their nodes

pub nodes-at : (cs : List Chunk) (k : ℕ) (x : Chunk) → k < length cs → nodes_at cs k ≡ chunk_nodes (get_or cs k x)
nodes-at [] k x h = absurd (omega arith)
nodes-at (c ∷ cs) zero x h = refl
nodes-at (c ∷ cs) (suc k) x h = nodes-at cs k x (omega arith)

the-next : (d k : ℕ) → k < d → d - 1 + 1 ≡ d
the-next d k h = omega (arith, h)

-- a chunk and another are no more than all
two-at : (cs : List Chunk) (k d : ℕ) (x : Chunk) → k < length cs → d < length cs → (d ≡ k → ⊥) → chunk_nodes (get_or cs k x) + chunk_nodes (get_or cs d x) ≤ sum_by chunk_nodes cs
two-at cs k d x hk hd apart = by_order (cases_order d k)
  where
    less : sum_by chunk_nodes (remove cs k) + chunk_nodes (get_or cs k x) ≡ sum_by chunk_nodes cs
    less = sum_by-remove chunk_nodes cs k x hk

    short : length (remove cs k) + 1 ≡ length cs
    short = length-remove cs k hk

    by_order : (d ≡ k) ⊎ ((d < k) ⊎ (k < d)) → chunk_nodes (get_or cs k x) + chunk_nodes (get_or cs d x) ≤ sum_by chunk_nodes cs
    by_order = ⊎_elim (λ e. absurd (apart e)) (⊎_elim
        (λ low. omega (arith, less, ap chunk_nodes (get_or-remove_below cs k x d low hk), get_or-le-sum_by chunk_nodes (remove cs k) d x (omega (arith, low, hk, short))))
        (λ high. omega (
          arith,
          less,
          ap chunk_nodes (get_or-remove_above cs k x (d - 1) (omega (arith, high)) hk),
          ap (λ n. chunk_nodes (get_or cs n x)) (the-next d k high),
          get_or-le-sum_by chunk_nodes (remove cs k) (d - 1) x (omega (arith, high, hd, short)),
        )))

module _ (cs more : List Chunk) (k : ℕ) (b : Chunk) (h : k < length cs) where
  pub sum-after : (gone : Option ℕ) → IfSome gone (λ d. (d < length cs) × (d ≡ k → ⊥))
      → (nodes_at cs k + option_map_or (nodes_at cs) gone 0 ≤ sum_by chunk_nodes cs)
      × (sum_by chunk_nodes (without gone (slice_set cs k b ++ more)) + (nodes_at cs k + option_map_or (nodes_at cs) gone 0) ≡ sum_by chunk_nodes cs + chunk_nodes b + sum_by chunk_nodes more)
  sum-after None g =
      let at = nodes-at cs k b h in
      let put = sum_by-set chunk_nodes cs k b b h in
      let all = sum_by-append chunk_nodes (slice_set cs k b) more in
      (omega (arith, at, get_or-le-sum_by chunk_nodes cs k b h), omega (arith, at, put, all))
  sum-after (Some d) g =
      let at = nodes-at cs k b h in
      let other = nodes-at cs d b g.0 in
      let put = sum_by-set chunk_nodes cs k b b h in
      let all = sum_by-append chunk_nodes (slice_set cs k b) more in
      let long = length-set cs k b in
      let whole = length-append (slice_set cs k b) more in
      let less = sum_by-remove chunk_nodes (slice_set cs k b ++ more) d b (omega (arith, long, whole, g.0)) in
      let same = get_or_append_left (slice_set cs k b) more b d (omega (arith, long, g.0)) ∙ get_or-set_other cs k d b b g.1 in
      (omega (arith, at, other, two-at cs k d b h g.0 g.1), omega (arith, at, other, put, all, less, ap chunk_nodes same))

-- the nodes of a state after a change
pub nodes-after : (s : State) (e : Effect) → e.chunk < length s.chunks → IfSome e.gone (λ d. (d < length s.chunks) × (d ≡ e.chunk → ⊥))
    → nodes_of (after e s) ≡ rest_nodes e.chunk e.gone s + new_nodes e
nodes-after s e h g =
    let sums = sum-after s.chunks e.more e.chunk e.becomes h e.gone g in
    let facts = sum_by-append formula_nodes s.facts e.facts in
    omega (arith, facts, sums.0, sums.1)

-- ---- the heap and its state

module _ (ts : List Term) (h : SymHeap) (l : LeafIds) (c : Change) (n : ℕ) (w : ChangeWithin n h c) where
  long : length (map (chunk_of ts) h.chunks) ≡ length h.chunks
  long = length-map h.chunks (chunk_of ts)

  place : c.chunk < length (map (chunk_of ts) h.chunks)
  place = omega (arith, w.place, long)

  gone-by : (o : Option ℕ) → IfSome o (λ d. (d < length h.chunks) × (d ≡ c.chunk → ⊥)) → IfSome o (λ d. (d < length (map (chunk_of ts) h.chunks)) × (d ≡ c.chunk → ⊥))
  gone-by None g = tt
  gone-by (Some d) g = (omega (arith, g.0, long), g.1)

  -- the state of the heap after a change
  pub seen-after : seen ts (changed c h) l ≡ after (effect_of ts c) (seen ts h l)
  seen-after = λ j. record (seen ts h l) {
    vars = h.vars + c.variables;
    facts = map-append (formula_of ts) h.facts c.facts j;
    chunks = chunks-after ts h.chunks c.more c.chunk c.becomes c.gone w.place j;
  }

  -- its nodes, where each part ends at a greatest number
  pub total-after : (rest new total : ℕ) → rest ≡ min (rest_nodes c.chunk c.gone (seen ts h l)) 18446744073709551615 → new ≡ min (new_nodes (effect_of ts c)) 18446744073709551615
      → total ≡ min (rest + new) 18446744073709551615 → total ≡ min (nodes_of (after (effect_of ts c) (seen ts h l))) 18446744073709551615
  total-after rest new total r m t = omega (arith, r, m, t, nodes-after (seen ts h l) (effect_of ts c) place (gone-by c.gone w.gone))

  -- its limits
  pub limits-after : (f g stay k total : ℕ) → f ≡ length h.facts → g ≡ length c.facts → stay ≡ option_map_or (λ _. length h.chunks - 1) c.gone (length h.chunks) → k ≡ length c.more
      → total ≡ min (nodes_of (after (effect_of ts c) (seen ts h l))) 18446744073709551615
      → limits (h.vars + c.variables) (f + g) (stay + k) total ≡ state_limits (after (effect_of ts c) (seen ts h l))
  limits-after f g stay k total fs gs is ks t = λ j.
      limited limit.Variables (nat_le (h.vars + c.variables) 1000000)
      >> limited limit.Facts (nat_le (facts-long j) 4096)
      >> limited limit.Chunks (nat_le (chunks-long j) 1024)
      >> limited limit.State (small j)
    where
      facts-long : f + g ≡ length (map (formula_of ts) h.facts ++ map (formula_of ts) c.facts)
      facts-long = omega (arith, fs, gs, length-append (map (formula_of ts) h.facts) (map (formula_of ts) c.facts), length-map h.facts (formula_of ts), length-map c.facts (formula_of ts))

      chunks-long : stay + k ≡ length (without c.gone (slice_set (map (chunk_of ts) h.chunks) c.chunk (chunk_of ts c.becomes) ++ map (chunk_of ts) c.more))
      chunks-long =
          (λ j. is j + ks j) ∙ (λ j. option_map_or (λ _. sym long j - 1) c.gone (sym long j) + sym (length-map c.more (chunk_of ts)) j)
          ∙ count-after (map (chunk_of ts) h.chunks) (map (chunk_of ts) c.more) c.chunk (chunk_of ts c.becomes) c.gone (gone-by c.gone w.gone)

      small : nat_le total 1000000 ≡ nat_le (nodes_of (after (effect_of ts c) (seen ts h l))) 1000000
      small = ap (λ n. nat_le n 1000000) t ∙ capped-test _ 18446744073709551615 1000000 (omega arith)
