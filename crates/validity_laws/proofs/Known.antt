-- What is known of operands goes on, or is stuck: the walk over them as mathematics.
use Rattle.std.proofs.Common.{◌≡◌, ℕ, ◌<◌, ◌≤◌, Bool, true, false, List, [], ◌∷◌, ◌++◌, map, Option, Some, None, refl, subst, ◌⊎◌, inl, inr, arith}
use Rattle.std.proofs.lemmas.Bool.{cases_order}
use Rattle.wasm_values.specs.declared.number.ValType.{ValType}
use Rattle.wasm_values.specs.declared.number.ValType.TheVariants.{I32, I64}
use Rattle.wasm_typing.specs.Typing.{Types, Turns, Takes}
use Rattle.body_check.specs.words.Operands.{IsOfType, IsCommon, StandsFor, Advances, IsStuck, Took, TookAny, Pushed, Gave}
use Rattle.body_check.proofs.OperandLemmas.{dropped, none_to_drop, left, not_left, turned_into, not_turned, selected}
use Rattle.body_check.proofs.ActLemmas.{Same, goes_as}

-- it holds, or not
abbrev pub Decided : Type 0 → Type 0
Decided A = A ⊎ (A → ⊥)

-- what is known after R
pub record Goes (P : Types → Type 0) (R : Types → Types → Type 0) : Type 0 where
  pub known : List (Option ValType)
  pub dead : Bool
  pub leads : Advances P (StandsFor known dead) R

-- R leads to operands of which something is known, or nowhere
abbrev pub Moves : (Types → Type 0) → (Types → Types → Type 0) → Type 0
Moves P R = Goes P R ⊎ IsStuck P R

pub moves_as : (P : Types → Type 0) (R S : Types → Types → Type 0) → Same R S → Moves P R → Moves P S
moves_as P R S same (inl g) = inl (record { known = g.known; dead = g.dead; leads = goes_as true P (StandsFor g.known g.dead) R S same g.leads })
moves_as P R S same (inr stuck) = inr (goes_as false P P R S same stuck)

-- ---- tests

pub same_type : (s t : ValType) → Decided (s ≡ t)
same_type I32 I32 = inl refl
same_type I32 I64 = inr (λ e. cc)
same_type I64 I32 = inr (λ e. cc)
same_type I64 I64 = inl refl

of_type : (k : Option ValType) (t : ValType) → Decided (IsOfType k t)
of_type None t = inl tt
of_type (Some s) t = same_type t s

pub less : (a b : ℕ) → Decided (a < b)
less a b = elim (cases_order a b) [
  | inl e ↦ inr (λ h. absurd (omega (arith, e, h)))
  | inr more ↦ elim more [ inl h ↦ inl h | inr g ↦ inr (λ h. absurd (omega (arith, g, h))) ]
]

pub at_most : (a b : ℕ) → Decided (a ≤ b)
at_most a b = elim (cases_order a b) [
  | inl e ↦ inl (omega (arith, e))
  | inr more ↦ elim more [ inl h ↦ inl (omega (arith, h)) | inr g ↦ inr (λ h. absurd (omega (arith, g, h))) ]
]

-- whether operands may be of these types
pub stands : (ks : List (Option ValType)) (dead : Bool) (ts : Types) → Decided (StandsFor ks dead ts)
stands [] true ts = inl tt
stands [] false [] = inl refl
stands [] false (t ∷ ts) = inr (λ e. cc)
stands (k ∷ ks) dead [] = inr (λ h. h)
stands (k ∷ ks) dead (t ∷ ts) = both (of_type k t) (stands ks dead ts)
  where
    both : Decided (IsOfType k t) → Decided (StandsFor ks dead ts) → Decided (IsOfType k t × StandsFor ks dead ts)
    both (inl a) (inl b) = inl (a, b)
    both (inl a) (inr n) = inr (λ h. n h.1)
    both (inr n) d = inr (λ h. n h.0)

-- ---- operands are taken and given

-- operands of these types are taken, or were not there
abbrev pub Taking : (Types → Type 0) → Bool → Types → Type 0
Taking P dead us = ((ks : List (Option ValType)) × Took true P (StandsFor ks dead) us) ⊎ Took false P P us

pub taking : (us : Types) (ks : List (Option ValType)) (dead : Bool) → Taking (StandsFor ks dead) dead us
taking [] ks dead = inl (ks, λ ts. (λ p. p, λ q. q))
taking (u ∷ us) [] true = inl ([], λ ts. (λ p. tt, λ q. tt))
taking (u ∷ us) [] false = inr (λ ts e. no_cons u (us ++ ts) e)
  where
    no_cons : (t : ValType) (ts : Types) → t ∷ ts ≡ [] → ⊥
    no_cons t ts e = cc
taking (u ∷ us) (k ∷ ks) dead = both (of_type k u) (taking us ks dead)
  where
    both : Decided (IsOfType k u) → Taking (StandsFor ks dead) dead us → Taking (StandsFor (k ∷ ks) dead) dead (u ∷ us)
    both (inl a) (inl took) = inl (took.0, λ ts. (λ p. (took.1 ts).0 p.1, λ q. (a, (took.1 ts).1 q)))
    both (inl a) (inr none) = inr (λ ts p. none ts p.1)
    both (inr n) rest = inr (λ ts p. n p.0)

pub giving : (us : Types) (ks : List (Option ValType)) (dead : Bool) → Gave (StandsFor ks dead) (StandsFor (map Some us ++ ks) dead) us
giving [] ks dead = (λ outs q. (outs, q, refl), λ ts p. p)
giving (u ∷ us) ks dead = (given (giving us ks dead), λ ts p. (refl, (giving us ks dead).1 ts p))
  where
    more : Gave (StandsFor ks dead) (StandsFor (map Some us ++ ks) dead) us → (t : ValType) (ts : Types) → t ≡ u → StandsFor (map Some us ++ ks) dead ts →
        (below : Types) × StandsFor ks dead below × (t ∷ ts ≡ u ∷ (us ++ below))
    more gave t ts e q = let r = gave.0 ts q in (r.0, r.1, (let f = r.2 in cc))

    given : Gave (StandsFor ks dead) (StandsFor (map Some us ++ ks) dead) us → (outs : Types) → StandsFor (map Some (u ∷ us) ++ ks) dead outs → (below : Types) × StandsFor ks dead below × (outs ≡ (u ∷ us) ++ below)
    given gave [] q = absurd q
    given gave (t ∷ ts) q = more gave t ts q.0 q.1

-- types that operands stand for
some_types : (ks : List (Option ValType)) (dead : Bool) → (ts : Types) × StandsFor ks dead ts
some_types [] true = ([], tt)
some_types [] false = ([], refl)
some_types (k ∷ ks) dead =
    let one = some_type k in
    let more = some_types ks dead in
    (one.0 ∷ more.0, (one.1, more.1))
  where
    some_type : (k : Option ValType) → (t : ValType) × IsOfType k t
    some_type None = (I32, tt)
    some_type (Some t) = (t, refl)

-- ---- what instructions do

-- these become those
pub turning : (us vs : Types) (ks : List (Option ValType)) (dead : Bool) → Moves (StandsFor ks dead) (Turns us vs)
turning us vs ks dead = by_taking (taking us ks dead)
  where
    by_taking : Taking (StandsFor ks dead) dead us → Moves (StandsFor ks dead) (Turns us vs)
    by_taking (inl took) = inl (record {
      known = map Some vs ++ took.0;
      dead = dead;
      leads = turned_into (StandsFor ks dead) (StandsFor took.0 dead) (StandsFor (map Some vs ++ took.0) dead) us vs took.1 (giving vs took.0 dead);
    })
    by_taking (inr none) = inr (not_turned (StandsFor ks dead) (StandsFor ks dead) us vs none)

-- these are on top, and any may follow
pub leaving : (us : Types) (ks : List (Option ValType)) (dead : Bool) → Moves (StandsFor ks dead) (λ ins outs. Takes us ins)
leaving us ks dead = by_taking (taking us ks dead)
  where
    by_taking : Taking (StandsFor ks dead) dead us → Moves (StandsFor ks dead) (λ ins outs. Takes us ins)
    by_taking (inl took) = inl (record {
      known = [];
      dead = true;
      leads = left (StandsFor ks dead) (StandsFor took.0 dead) (StandsFor [] true) us took.1 (some_types took.0 dead) (λ ts. tt);
    })
    by_taking (inr none) = inr (not_left (StandsFor ks dead) (StandsFor ks dead) us none)

pub stopping : (ks : List (Option ValType)) (dead : Bool) → Moves (StandsFor ks dead) (λ ins outs. Unit {0})
stopping ks dead = inl (record {
  known = [];
  dead = true;
  leads = (λ outs q. let some = some_types ks dead in (some.0, some.1, tt), λ ins outs p r. tt);
})

-- one operand, whatever its type
abbrev TakingAny : List (Option ValType) → Bool → Type 0
TakingAny ks dead = ((k : Option ValType) × (rest : List (Option ValType)) × TookAny (Some k) (StandsFor ks dead) (StandsFor rest dead)) ⊎ TookAny None (StandsFor ks dead) (StandsFor ks dead)

taking_any : (ks : List (Option ValType)) (dead : Bool) → TakingAny ks dead
taking_any [] true = inl (None, [], (λ t ts p. (tt, tt), λ t ts i q. tt))
taking_any [] false = inr (λ t ts e. cc)
taking_any (k ∷ ks) dead = inl (k, ks, (λ t ts p. p, λ t ts i q. (i, q)))

pub dropping : (ks : List (Option ValType)) (dead : Bool) → Moves (StandsFor ks dead) (λ ins outs. (t : ValType) × Turns (t ∷ []) [] ins outs)
dropping ks dead = by_taking (taking_any ks dead)
  where
    by_taking : TakingAny ks dead → Moves (StandsFor ks dead) (λ ins outs. (t : ValType) × Turns (t ∷ []) [] ins outs)
    by_taking (inl took) = inl (record { known = took.1; dead = dead; leads = dropped (StandsFor ks dead) (StandsFor took.1 dead) took.0 took.2 })
    by_taking (inr none) = inr (none_to_drop (StandsFor ks dead) (StandsFor ks dead) none)

-- ---- `select`

pushing : (k : Option ValType) (ks : List (Option ValType)) (dead : Bool) → Pushed k (StandsFor ks dead) (StandsFor (k ∷ ks) dead)
pushing k ks dead = (top, λ t ts i p. (i, p))
  where
    top : (outs : Types) → StandsFor (k ∷ ks) dead outs → (t : ValType) × (ts : Types) × IsOfType k t × StandsFor ks dead ts × (outs ≡ t ∷ ts)
    top [] q = absurd q
    top (t ∷ ts) q = (t, ts, q.0, q.1, refl)

-- what is known of an operand of which two things are known
abbrev Common : (first second : Option ValType) → Type 0
Common first second = ((k : Option ValType) × IsCommon (Some k) first second) ⊎ IsCommon None first second

common : (first second : Option ValType) → Common first second
common None second = inl (second, (λ t i. (tt, i), λ t i j. j))
common (Some s) None = inl (Some s, (λ t i. (i, tt), λ t i j. i))
common (Some I32) (Some I32) = inl (Some I32, (λ t i. (i, i), λ t i j. i))
common (Some I64) (Some I64) = inl (Some I64, (λ t i. (i, i), λ t i j. i))
common (Some I32) (Some I64) = inr (λ t i j. cc)
common (Some I64) (Some I32) = inr (λ t i j. cc)

-- `select` takes an i32 and two operands of one type, and leaves one
abbrev Selects : Types → Types → Type 0
Selects ins outs = (t : ValType) × Turns (I32 ∷ t ∷ t ∷ []) (t ∷ []) ins outs

pub selecting : (ks : List (Option ValType)) (dead : Bool) → Moves (StandsFor ks dead) Selects
selecting ks dead = by_choice (taking (I32 ∷ []) ks dead)
  where
    by_common : (a b c : List (Option ValType)) (first second : Option ValType) → Took true (StandsFor ks dead) (StandsFor a dead) (I32 ∷ []) → TookAny (Some first) (StandsFor a dead) (StandsFor b dead) →
        TookAny (Some second) (StandsFor b dead) (StandsFor c dead) → Common first second → Moves (StandsFor ks dead) Selects
    by_common a b c first second took one two (inl k) = inl (record {
      known = k.0 ∷ c;
      dead = dead;
      leads = selected (StandsFor ks dead) (StandsFor a dead) (StandsFor b dead) (StandsFor c dead) (StandsFor (k.0 ∷ c) dead) first second k.0 took one two k.1 (pushing k.0 c dead);
    })
    by_common a b c first second took one two (inr never) = inr (λ ins outs p r.
        let t = r.0 in
        let below = r.1.0 in
        let x = one.0 t (t ∷ below) ((took (t ∷ t ∷ below)).0 (subst (StandsFor ks dead) r.1.1 p)) in
        let y = two.0 t below x.1 in
        never t x.0 y.0)

    by_second : (a b : List (Option ValType)) (first : Option ValType) → Took true (StandsFor ks dead) (StandsFor a dead) (I32 ∷ []) → TookAny (Some first) (StandsFor a dead) (StandsFor b dead) →
        TakingAny b dead → Moves (StandsFor ks dead) Selects
    by_second a b first took one (inl two) = by_common a b two.1 first two.0 took one two.2 (common first two.0)
    by_second a b first took one (inr never) = inr (λ ins outs p r.
        let t = r.0 in
        let below = r.1.0 in
        never t below (one.0 t (t ∷ below) ((took (t ∷ t ∷ below)).0 (subst (StandsFor ks dead) r.1.1 p))).1)

    by_first : (a : List (Option ValType)) → Took true (StandsFor ks dead) (StandsFor a dead) (I32 ∷ []) → TakingAny a dead → Moves (StandsFor ks dead) Selects
    by_first a took (inl one) = by_second a one.1 one.0 took one.2 (taking_any one.1 dead)
    by_first a took (inr never) = inr (λ ins outs p r. never r.0 (r.0 ∷ r.1.0) ((took (r.0 ∷ r.0 ∷ r.1.0)).0 (subst (StandsFor ks dead) r.1.1 p)))

    by_choice : Taking (StandsFor ks dead) dead (I32 ∷ []) → Moves (StandsFor ks dead) Selects
    by_choice (inl took) = by_first took.0 took.1 (taking_any took.0 dead)
    by_choice (inr none) = inr (λ ins outs p r. none (r.0 ∷ r.0 ∷ r.1.0) (subst (StandsFor ks dead) r.1.1 p))
