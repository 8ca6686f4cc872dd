-- The nodes of a state, counted part by part.
use Rattle.std.proofs.Common.{◌≡◌, ℕ, ◌+◌, ◌≤◌, Bool, true, false, List, [], ◌∷◌, length, map, min, sum_by, filter_map, reverse, refl, sym, ap, ◌∙◌, arith}
use Rattle.std.specs.Prelude.{nat_le, Ok, Option, Some, None, option_map}
use Rattle.std.proofs.lemmas.List.Sums.{sum_by-cons}
use Rattle.std.proofs.lemmas.List.Sorted.{IsPermutation-reverse, sum_by-IsPermutation}
use Rattle.wasm_values.specs.declared.limit.LimitWord.TheVariants as limit
use Rattle.wasm_values.specs.declared.number.ValType.{ValType}
use Rattle.term_trees.specs.declared.term.Term.{Term}
use Rattle.term_trees.specs.Terms.{node_count}
use Rattle.term_logic.specs.Table.{tree_at}
use Rattle.std.proofs.lemmas.Bool.{leb-true}
use Rattle.heap_logic.proofs.Sums.{capped}
use Rattle.outline_rules.specs.Refusals.{limited, within, ◌>>◌}
use Rattle.outline_rules.specs.States.{State, nodes_of, settled}
use Rattle.symbolic_state.specs.States.{entry_at}
use Rattle.symbolic_state.specs.words.Limits.{limits}
use Rattle.symbolic_state.proofs.Counting.{entries_nodes, globals_nodes, option_nodes}
use Rattle.symbolic_state.proofs.Lists.{map-reverse}
use Rattle.symbolic_state.proofs.Settling.{settled-is, same-test}

module _ (ts : List Term) where
  entries-terms : (es : List (ValType × ℕ)) → map (λ e. tree_at ts e.1) es ≡ map (λ e. e.1) (map (entry_at ts) es)
  entries-terms [] = refl
  entries-terms (e ∷ es) = ap (λ r. tree_at ts e.1 ∷ r) (entries-terms es)

  pub entries-sum : (es : List (ValType × ℕ)) → sum_by node_count (map (λ e. tree_at ts e.1) es) ≡ entries_nodes (map (entry_at ts) es)
  entries-sum es = ap (sum_by node_count) (entries-terms es)

  pub stack-sum : (es : List (ValType × ℕ)) → sum_by node_count (map (λ e. tree_at ts e.1) es) ≡ entries_nodes (map (entry_at ts) (reverse es))
  stack-sum es =
      let terms : List Term = map (λ e. tree_at ts e.1) es in
      sym (sum_by-IsPermutation node_count terms (reverse terms) (IsPermutation-reverse terms))
      ∙ ap (sum_by node_count) (sym (map-reverse (λ (e : ValType × ℕ). tree_at ts e.1) es)) ∙ entries-sum (reverse es)

  pub globals-sum : (gs : List (Option ℕ)) → sum_by (λ o. option_nodes (option_map (tree_at ts) o)) gs ≡ globals_nodes (map (option_map (tree_at ts)) gs)
  globals-sum [] = refl
  globals-sum (None ∷ gs) = let more = globals-sum gs in omega (arith, more, sum_by-cons (λ (o : Option ℕ). option_nodes (option_map (tree_at ts) o)) None gs)
  globals-sum (Some id ∷ gs) =
      sum_by-cons (λ (o : Option ℕ). option_nodes (option_map (tree_at ts) o)) (Some id) gs
      ∙ (let more = globals-sum gs in omega (arith, more, sum_by-cons node_count (tree_at ts id) (filter_map (λ o. o) (map (option_map (tree_at ts)) gs))))

-- the state that is settled is within the limits
pub within-settled : (v f c n : ℕ) → limits true v f c n ≡ Ok tt → (v ≤ 1000000) × (f ≤ 4096) × (c ≤ 1024) × (n ≤ 1000000)
within-settled v f c n is = by_tests (nat_le v 1000000) (nat_le f 4096) (nat_le c 1024) (nat_le n 1000000) refl refl refl refl is
  where
    by_tests : (p q r s : Bool) → nat_le v 1000000 ≡ p → nat_le f 4096 ≡ q → nat_le c 1024 ≡ r → nat_le n 1000000 ≡ s
        → (limited limit.Variables p >> limited limit.Facts q >> limited limit.Chunks r >> limited limit.State s) ≡ Ok tt
        → (v ≤ 1000000) × (f ≤ 4096) × (c ≤ 1024) × (n ≤ 1000000)
    by_tests true true true true hp hq hr hs e = (leb-true v 1000000 hp, leb-true f 4096 hq, leb-true c 1024 hr, leb-true n 1000000 hs)
    by_tests true true true false hp hq hr hs e = absurd cc
    by_tests true true false s hp hq hr hs e = absurd cc
    by_tests true false r s hp hq hr hs e = absurd cc
    by_tests false q r s hp hq hr hs e = absurd cc

-- the limits of a state over a table, its nodes counted as far as a greatest number
pub counted-is : (s : State) (facts chunks n : ℕ) → facts ≡ length s.facts → chunks ≡ length s.chunks → n ≡ min (nodes_of s) 18446744073709551615
    → settled [] s ≡ (limits true s.vars facts chunks n >> Ok s)
counted-is s facts chunks n f c e =
    settled-is [] s true s.vars facts chunks (nodes_of s) refl refl (sym f) (sym c) refl
    ∙ (let low : nat_le (nodes_of s) 1000000 ≡ nat_le n 1000000 = same-test (nodes_of s) n 1000000 (λ h. omega arith) (λ h. omega arith) in
    λ j. within limit.Variables 1000000 s.vars >> within limit.Facts 4096 facts >> within limit.Chunks 1024 chunks >> limited limit.State (low j) >> Ok s)

-- parts that are counted as far as a greatest number, one after another
pub summed : (M f c l o g p a b d e n : ℕ) (F C L O G P : ℕ) → f ≡ min F M → c ≡ min C M → l ≡ min L M → o ≡ min O M → g ≡ min G M → p ≡ P
    → a ≡ min (f + c) M → b ≡ min (a + l) M → d ≡ min (b + o) M → e ≡ min (d + g) M → n ≡ min (e + p) M → n ≡ min (F + C + (L + O + G + P)) M
summed M f c l o g p a b d e n F C L O G P hf hc hl ho hg hp ha hb hd he hn =
    let first : a ≡ min (F + C) M = capped M F C f c a hf hc ha in
    let second : b ≡ min (F + C + L) M = capped M (F + C) L a l b first hl hb in
    let third : d ≡ min (F + C + L + O) M = capped M (F + C + L) O b o d second ho hd in
    let fourth : e ≡ min (F + C + L + O + G) M = capped M (F + C + L + O) G d g e third hg he in
    let last : n ≡ min (F + C + L + O + G + P) M = omega (arith, fourth, hp, hn) in
    omega (arith, last)

pub ruleset settled_states = (counted-is, within-settled)
