-- Facts and chunks that are used one by one.
use Rattle.std.proofs.Common.{◌≡◌, ℕ, ◌+◌, ◌<◌, ◌≤◌, ◌==◌, Bool, true, false, not, ◌&&◌, ◌||◌, List, [], ◌∷◌, length, map, take, drop, get_or, refl, sym, ap, ◌∙◌, arith}
use Rattle.std.proofs.lemmas.List.{drop_more, drop_all}
use Rattle.std.proofs.lemmas.List.Folds.{list_any_more}
use Rattle.term_trees.specs.declared.term.Formula.{Formula}
use Rattle.notes.specs.declared.chunk.Chunk.{Chunk}
use Rattle.outline_rules.specs.States.{State}
use Rattle.outline_rules.specs.Moves.{are_facts}
use Rattle.outline_rules.specs.Entailment.{is_among, is_chunk, are_chunks}

-- ---- facts

-- more facts than formulas
pub no-formula-left : (s : State) (facts : List ℕ) (i : ℕ) (instance : Formula → Formula) (fs : List Formula) → i < length facts → length fs ≡ 0 → are_facts s (drop i facts) (map instance fs) ≡ false
no-formula-left s facts i instance [] low is = ap (λ ks. are_facts s ks []) (drop_more facts i 0 low)
no-formula-left s facts i instance (f ∷ fs) low is = absurd (omega (arith, is))

-- ---- chunks

-- what is left to test: the numbers that were used are those of the first ones
pub record UsingSoFar (s : State) (numbers : List ℕ) (whole : Bool) (i : ℕ) (rest : List Chunk) : Type 0 where
  pub used : List ℕ
  pub same : (k : ℕ) → is_among used k ≡ is_among (take i numbers) k
  pub left : whole ≡ are_chunks s used (drop i numbers) rest

pub using-start : (s : State) (numbers : List ℕ) (cs : List Chunk) → UsingSoFar s numbers (are_chunks s [] numbers cs) 0 cs
using-start s numbers cs = record { used = []; same = λ k. refl; left = refl }

or-turned : (a b : Bool) → (a || b) ≡ (b || a)
or-turned true true = refl
or-turned true false = refl
or-turned false true = refl
or-turned false false = refl

module _ (s : State) (numbers : List ℕ) (whole : Bool) (i : ℕ) (rest : List Chunk) (so_far : UsingSoFar s numbers whole i rest) where
  pub using-end : length numbers ≤ i → (b : Bool) → ((rest ≡ []) → b ≡ true) → ((c : Chunk) (cs : List Chunk) → rest ≡ c ∷ cs → b ≡ false) → whole ≡ b
  using-end high b empty more = so_far.left ∙ ap (λ ks. are_chunks s so_far.used ks rest) (drop_all i numbers high) ∙ by_rest rest empty more
    where
      by_rest : (cs : List Chunk) → (cs ≡ [] → b ≡ true) → ((d : Chunk) (ds : List Chunk) → cs ≡ d ∷ ds → b ≡ false) → are_chunks s so_far.used [] cs ≡ b
      by_rest [] empty more = sym (empty refl)
      by_rest (d ∷ ds) empty more = sym (more d ds refl)

  module _ (k : ℕ) (low : i < length numbers) (at : k ≡ get_or numbers i k) where
    numbered : are_chunks s so_far.used (drop i numbers) rest ≡ are_chunks s so_far.used (k ∷ drop (i + 1) numbers) rest
    numbered = ap (λ ks. are_chunks s so_far.used ks rest) (drop_more numbers i k low) ∙ ap (λ j. are_chunks s so_far.used (j ∷ drop (i + 1) numbers) rest) (sym at)

    pub using-none : rest ≡ [] → whole ≡ false
    using-none is = so_far.left ∙ numbered ∙ ap (λ cs. are_chunks s so_far.used (k ∷ drop (i + 1) numbers) cs) is

    module _ (c : Chunk) (cs : List Chunk) (is : rest ≡ c ∷ cs) where
      here : (a b : Bool) → is_among (take i numbers) k ≡ a → is_chunk s k c ≡ b → whole ≡ ((not a && b) && are_chunks s (k ∷ so_far.used) (drop (i + 1) numbers) cs)
      here a b among fits =
          so_far.left ∙ numbered ∙ ap (λ ds. are_chunks s so_far.used (k ∷ drop (i + 1) numbers) ds) is
          ∙ λ j. (not ((so_far.same k ∙ among) j) && fits j) && are_chunks s (k ∷ so_far.used) (drop (i + 1) numbers) cs

      pub using-twice : is_among (take i numbers) k ≡ true → whole ≡ false
      using-twice among = here true (is_chunk s k c) among refl

      pub using-other : is_among (take i numbers) k ≡ false → is_chunk s k c ≡ false → whole ≡ false
      using-other among fits = here false false among fits

      pub using-next : is_among (take i numbers) k ≡ false → is_chunk s k c ≡ true → UsingSoFar s numbers whole (i + 1) cs
      using-next among fits = record {
        used = k ∷ so_far.used;
        same = λ m.
            ap (λ b. (k == m) || b) (so_far.same m) ∙ or-turned (k == m) (is_among (take i numbers) m)
            ∙ ap (λ n. is_among (take i numbers) m || (n == m)) at ∙ sym (list_any_more (λ n. n == m) numbers i k low);
        left = here false true among fits;
      }

pub ruleset using_chunks = (using-start)
