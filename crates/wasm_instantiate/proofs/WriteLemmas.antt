-- Growths that a host or the embedder makes in a store.
use Rattle.std.proofs.Common.{◌≡◌, ℕ, zero, suc, ◌+◌, ◌≤◌, Bool, true, false, ◌&&◌, nat_le, IsTrue, List, [], ◌∷◌, ◌++◌, Option, Some, None, length, replicate, slice_get, refl, sym, ap, subst, ◌∙◌, arith}
use Rattle.std.specs.Prelude.{sum_by, slice_set}
use Rattle.std.proofs.lemmas.List.Sums.{sum_by-cons}
use Rattle.wasm_values.specs.Types.{is_at_most}
use Rattle.wasm_store.specs.declared.store.TableInst.{TableInst}
use Rattle.wasm_store.specs.declared.store.MemInst.{MemInst}
use Rattle.wasm_store.specs.declared.store.Extern.TheVariants.{Table, Memory}
use Rattle.wasm_store.specs.declared.store.Store.{Store}
use Rattle.wasm_store.specs.Memory.{pages_of, can_grow, grown_bytes}
use Rattle.type_safety.specs.Stores.{StoreTyped}
use Rattle.type_safety.proofs.Lists.{there}
use Rattle.wasm_reduce.specs.declared.policy.Policy.{Policy}
use Rattle.wasm_reduce.specs.Policies.{lets_grow}
use Rattle.wasm_sessions.specs.Pool.{InPool}
use Rattle.wasm_sessions.specs.Hosts.{can_grow_table}
use Rattle.wasm_sessions.proofs.HostLaws.{pool_exists}
use Rattle.module_instances.specs.Refusals.{entries_in}
use Rattle.wasm_instantiate.specs.declared.acts.HostAct.TheVariants.{Grow, GrowTable}
use Rattle.wasm_instantiate.specs.HostAnswers.{lets_grow_table, IsActAllowed}
use Rattle.wasm_instantiate.specs.words.Writing.{ActWrites}

-- The memory, or the table, that is in the pool.
pub memory_there : (s : Store) (m : ℕ) (slice : List MemInst) → StoreTyped s → slice ≡ s.memories → InPool s (Memory m) → (mem : MemInst) × (slice_get slice m ≡ Some mem)
memory_there s m slice typed same pool =
    let f = there s.memories m (pool_exists s typed (Memory m) pool) in
    (f.0, ap (λ l. slice_get l m) same ∙ f.1)

pub table_there : (s : Store) (a : ℕ) → StoreTyped s → InPool s (Table a) → (t : TableInst) × (slice_get s.tables a ≡ Some t)
table_there s a typed pool = there s.tables a (pool_exists s typed (Table a) pool)

not_both : (b : Bool) → IsTrue b → b ≡ false → ⊥
not_both true t f = cc
not_both false t f = cc

first_of_both : (a b : Bool) → IsTrue (a && b) → IsTrue a
first_of_both true b h = refl
first_of_both false b h = cc

second_of_both : (a b : Bool) → IsTrue (a && b) → IsTrue b
second_of_both true b h = h
second_of_both false b h = cc

both_hold : (a b : Bool) → IsTrue a → IsTrue b → IsTrue (a && b)
both_hold true b h k = k
both_hold false b h k = cc

module _ (policy : Policy) (s : Store) where
  pub memory_grown : (m pages : ℕ) (slice new : List MemInst) (mem : MemInst) (r : Bool) → InPool s (Memory m) → slice ≡ s.memories → slice_get s.memories m ≡ Some mem → r ≡ (can_grow mem pages && nat_le (sum_by pages_of slice + pages) policy.pages) → IsTrue r → new ≡ slice_set s.memories m (record mem { bytes = grown_bytes mem pages }) → IsActAllowed policy s [] (Grow m pages) × ActWrites s (Grow m pages) (record s { memories = new })
  memory_grown m pages slice new mem r pool same found is holds grown =
      let lets : IsTrue (lets_grow policy s (Some mem) pages) =
      subst (λ l. IsTrue (can_grow mem pages && nat_le (sum_by pages_of l + pages) policy.pages)) same (subst IsTrue is holds) in
      let at : lets_grow policy s (slice_get s.memories m) pages ≡ lets_grow policy s (Some mem) pages = ap (λ o. lets_grow policy s o pages) found in (
        record {
          exported = λ no. no pool;
          mutable = λ no. no;
          typed = λ no. no;
          in_bounds = λ no. no;
          within = λ h. not_both (lets_grow policy s (Some mem) pages) lets (sym at ∙ h);
        },
        (mem, pool, found, first_of_both (can_grow mem pages) (nat_le (sum_by pages_of s.memories + pages) policy.pages) lets, ap (λ l. record s { memories = l }) grown),
      )

-- An item counts no more than all together.
sum_at : {A : Type 0} → (f : A → ℕ) (xs : List A) (k : ℕ) (x : A) → slice_get xs k ≡ Some x → f x ≤ sum_by f xs
sum_at f [] k x h = cc
sum_at f (y ∷ ys) zero x h =
    let same : y ≡ x = cc in
    let c = sum_by-cons f y ys in
    let e : f y ≡ f x = ap f same in
    omega (arith, c, e)
sum_at f (y ∷ ys) (suc k) x h =
    let c = sum_by-cons f y ys in
    let less = sum_at f ys k x h in
    omega (arith, c, less)

few_entries : (n more all : ℕ) → n ≤ all → IsTrue (nat_le (all + more) 1000000) → IsTrue (nat_le (n + more) 4294967295)
few_entries n more all less h = grind (arith, less, h)

module _ (policy : Policy) (s : Store) where
  pub table_grown : (a more : ℕ) (new : List TableInst) (t : TableInst) (r : Bool) → InPool s (Table a) → slice_get s.tables a ≡ Some t → r ≡ lets_grow_table s t more → IsTrue r → new ≡ slice_set s.tables a (record t { entries = t.entries ++ replicate more None }) → IsActAllowed policy s [] (GrowTable a more) × ActWrites s (GrowTable a more) (record s { tables = new })
  table_grown a more new t r pool found is holds grown =
      let lets : IsTrue (lets_grow_table s t more) = subst IsTrue is holds in
      let max = first_of_both (is_at_most (length t.entries + more) t.max) (nat_le (entries_in s + more) 1000000) lets in
      let total = second_of_both (is_at_most (length t.entries + more) t.max) (nat_le (entries_in s + more) 1000000) lets in
      let few = few_entries (length t.entries) more (entries_in s) (sum_at (λ (x : TableInst). length x.entries) s.tables a t found) total in
      let can : IsTrue (can_grow_table t more) = both_hold (nat_le (length t.entries + more) 4294967295) (is_at_most (length t.entries + more) t.max) few max in (
        record {
          exported = λ no. no pool;
          mutable = λ no. no;
          typed = λ no. no;
          in_bounds = λ no. no;
          within = λ x. not_both (lets_grow_table s t more) lets (subst (λ (y : TableInst). lets_grow_table s y more ≡ false) (sym (same_table t x.0 (slice_get s.tables a) found x.1)) x.2);
        },
        (t, pool, found, can, ap (λ l. record s { tables = l }) grown),
      )
    where
      same_table : (x y : TableInst) (o : Option TableInst) → o ≡ Some x → o ≡ Some y → x ≡ y
      same_table x y o h k = let e : Some x ≡ Some y = sym h ∙ k in cc e
