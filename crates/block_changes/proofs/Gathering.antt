-- What items may change, gathered item by item.
use Rattle.std.proofs.Common.{◌≡◌, ℕ, suc, ◌+◌, ◌-◌, ◌≤◌, nat_eq, Bool, true, false, ◌||◌, List, slice_get, Some, refl, sym, ap, ◌∙◌, arith}
use Rattle.std.specs.HashSet.{contains}
use Rattle.wasm_syntax.specs.declared.flat.Flat.{Flat}
use Rattle.wasm_syntax.specs.declared.instr.Instr.{Instr}
use Rattle.wasm_syntax.specs.FlatForm.{flat_body}
use Rattle.wasm_syntax.specs.Trees.{Instruction}
use Rattle.wasm_syntax.specs.Places.{size_of_all, rest_at}
use Rattle.outline_rules.specs.Blocks.{sets_local, sets_global, is_call, is_growth, changes_of, joined, has_some}
use Rattle.block_changes.specs.declared.changes.ChangeSet.{ChangeSet}
use Rattle.block_changes.specs.Seen.{changes_seen}
use Rattle.block_changes.specs.declared.effect.Effect.TheVariants.{Nothing}
use Rattle.block_changes.specs.words.Effects.{passes, HasEffect}
use Rattle.block_changes.specs.words.Gathered.{Sees, passes_at, any_in, Gathers}
use Rattle.block_changes.proofs.Places.{any-side}

pub or_none : (b : Bool) → (b || false) ≡ b
or_none true = refl
or_none false = refl

or_apart : (a b c : Bool) → ((a || b) || c) ≡ (a || (b || c))
or_apart true b c = refl
or_apart false b c = refl

-- one place further
module _ (test : Instruction → Bool) (body : List Instr) (p q : ℕ) (x : Flat) (order : p ≤ q) (here : slice_get (flat_body body) q ≡ Some x) where
  further : any_in test body p ((q + 1) - p) ≡ (any_in test body p (q - p) || passes test x)
  unfolding any_in
  further =
      let more : (q + 1) - p ≡ suc (q - p) = omega arith in
      let back : p + (q - p) ≡ q = omega arith in
      ap (any_in test body p) more ∙ ap (λ o. any_in test body p (q - p) || passes_at test o) (ap (slice_get (flat_body body)) back ∙ here)

  -- a truth that is gathered
  one_more : (old mid new : Bool) → mid ≡ (old || any_in test body p (q - p)) → new ≡ (mid || passes test x) → new ≡ (old || any_in test body p ((q + 1) - p))
  one_more old mid new e f =
      f ∙ ap (λ b. b || passes test x) e ∙ or_apart old (any_in test body p (q - p)) (passes test x) ∙ ap (λ b. old || b) (sym further)

-- an item that changes nothing
pub sees_nothing : (s : ChangeSet) (x : Flat) → HasEffect x Nothing → Sees s s x
sees_nothing s x e =
    let same = λ (a b : Bool) (none : b ≡ false). sym (ap (λ c. a || c) none ∙ or_none a) in
    record {
      locals = λ k. same (contains nat_eq s.locals k) _ (e.locals k);
      globals = λ k. same (contains nat_eq s.globals k) _ (e.globals k);
      calls = same s.calls _ e.calls;
      growth = same s.growth _ e.growth;
    }

pub gathers_none : (s : ChangeSet) (body : List Instr) (p q : ℕ) → q ≡ p → Gathers s s body p q
unfolding any_in
gathers_none s body p q e =
    let none : q - p ≡ 0 = omega arith in
    let same = λ (test : Instruction → Bool) (b : Bool). sym (ap (λ n. b || any_in test body p n) none ∙ or_none b) in
    record {
      locals = λ k. same (sets_local k) (contains nat_eq s.locals k);
      globals = λ k. same (sets_global k) (contains nat_eq s.globals k);
      calls = same is_call s.calls;
      growth = same is_growth s.growth;
    }

pub gathers_more : (old mid new : ChangeSet) (body : List Instr) (p q : ℕ) (x : Flat) → p ≤ q → slice_get (flat_body body) q ≡ Some x → Gathers old mid body p q → Sees mid new x → Gathers old new body p (q + 1)
gathers_more old mid new body p q x order here g s = record {
  locals = λ k. one_more (sets_local k) body p q x order here _ _ _ (g.locals k) (s.locals k);
  globals = λ k. one_more (sets_global k) body p q x order here _ _ _ (g.globals k) (s.globals k);
  calls = one_more is_call body p q x order here _ _ _ g.calls s.calls;
  growth = one_more is_growth body p q x order here _ _ _ g.growth s.growth;
}

or_pairs : (a b c d : Bool) → ((a || b) || (c || d)) ≡ ((a || c) || (b || d))
or_pairs true b c d = refl
or_pairs false true true d = refl
or_pairs false true false d = refl
or_pairs false false c d = refl

-- all items of a side
module _ (old new : ChangeSet) (body : List Instr) (p q : ℕ) (far : q ≡ p + size_of_all (rest_at body p)) (g : Gathers old new body p q) where
  all : (test : Instruction → Bool) → any_in test body p (q - p) ≡ has_some test (rest_at body p)
  all test = let n : q - p ≡ size_of_all (rest_at body p) = omega arith in ap (any_in test body p) n ∙ any-side test body p

  along : (test : Instruction → Bool) (a b : Bool) → b ≡ (a || any_in test body p (q - p)) → b ≡ (a || has_some test (rest_at body p))
  along test a b e = e ∙ ap (λ c. a || c) (all test)

  pair : (test : Instruction → Bool) (a b : Bool) → b ≡ (a || any_in test body p (q - p))
      → (new.calls || b) ≡ ((old.calls || a) || (has_some is_call (rest_at body p) || has_some test (rest_at body p)))
  pair test a b e =
      ap (λ c. c || b) (along is_call old.calls new.calls g.calls)
      ∙ ap (λ c. (old.calls || has_some is_call (rest_at body p)) || c) (along test a b e)
      ∙ or_pairs old.calls (has_some is_call (rest_at body p)) a (has_some test (rest_at body p))

  pub gathers_side : changes_seen new ≡ joined (changes_seen old) (changes_of (rest_at body p))
  gathers_side = λ j. record {
    locals = λ k. along (sets_local k) (contains nat_eq old.locals k) (contains nat_eq new.locals k) (g.locals k) j;
    globals = λ k. pair (sets_global k) (contains nat_eq old.globals k) (contains nat_eq new.globals k) (g.globals k) j;
    pages = pair is_growth old.growth new.growth g.growth j;
  }

pub ruleset gathering = (sees_nothing, gathers_none, gathers_more, gathers_side)
