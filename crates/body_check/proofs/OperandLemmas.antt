-- Operands and the types that they stand for.
use Rattle.std.proofs.Common.{◌≡◌, ℕ, ◌+◌, ◌-◌, ◌<◌, ◌≤◌, nat_eq, Bool, true, false, List, [], ◌∷◌, ◌++◌, length, reverse, take, drop, get_or, take-append-drop, Option, Some, None, refl, sym, ap, ◌∙◌, subst, arith, append_assoc}
use Rattle.std.proofs.lemmas.List.{reverse-append, length-reverse, drop_more, length-drop, take_all, drop-append-le}
use Rattle.wasm_values.specs.declared.number.ValType.{ValType}
use Rattle.wasm_values.specs.declared.number.ValType.TheVariants.{I32}
use Rattle.body_check.specs.words.Known.{Known}
use Rattle.wasm_typing.specs.Typing.{Types, Turns, Takes}
use Rattle.body_check.specs.declared.open.Floor.{Floor}
use Rattle.body_check.specs.words.Operands.{IsOfType, StandsFor, Are, lower, Advances, IsStuck, Took, TookAny, Pushed, IsCommon, Gave}

-- a type that an operand may have
some_type : (k : Option ValType) → (t : ValType) × IsOfType k t
some_type None = (I32, tt)
some_type (Some t) = (t, refl)

some_types : (ks : List (Option ValType)) (dead : Bool) → (ts : Types) × StandsFor ks dead ts
some_types [] true = ([], tt)
some_types [] false = ([], refl)
some_types (k ∷ ks) dead =
    let one = some_type k in
    let more = some_types ks dead in
    (one.0 ∷ more.0, (one.1, more.1))

-- there are types that operands stand for
pub are_some : (s : Known) → (ts : Types) × Are s ts
are_some s = some_types (reverse s.here) s.dead

-- dead code without operands stands for all types
pub all_are : (s n : Known) → n ≡ record { below = s.below; here = []; dead = true } → (ts : Types) → Are n ts
all_are s n e ts = let A : Known → Type 0 = λ k. Are k ts in subst A (sym e) tt

-- a block without operands stands for none
pub none_are : (n : Known) (below : List (Option ValType)) → n ≡ record { below = below; here = []; dead = false } →
    ((ts : Types) → Are n ts → ts ≡ []) × ((ts : Types) → ts ≡ [] → Are n ts)
none_are n below e =
    let A : Known → Type 0 = λ k. ((ts : Types) → Are k ts → ts ≡ []) × ((ts : Types) → ts ≡ [] → Are k ts) in
    subst A (sym e) (λ ts h. h, λ ts h. h)

pub dropped : (P Q : Types → Type 0) (k : Option ValType) → TookAny (Some k) P Q →
    Advances P Q (λ ins outs. (t : ValType) × Turns (t ∷ []) [] ins outs)
dropped P Q k h =
    let one = some_type k in (
      λ outs q. (one.0 ∷ outs, h.1 one.0 outs one.1 q, (one.0, (outs, refl, refl))),
      λ ins outs p r. subst Q (sym r.1.2) (h.0 r.0 r.1.0 (subst P r.1.1 p)).1,
    )

pub none_to_drop : (P Q : Types → Type 0) → TookAny None P Q →
    IsStuck P (λ ins outs. (t : ValType) × Turns (t ∷ []) [] ins outs)
none_to_drop P Q h ins outs p r = h r.0 r.1.0 (subst P r.1.1 p)

pub left : (P Q N : Types → Type 0) (us : Types) → Took true P Q us → ((ts : Types) × Q ts) → ((ts : Types) → N ts) →
    Advances P N (λ ins outs. Takes us ins)
left P Q N us h some all =
    (λ outs n. (us ++ some.0, (h some.0).1 some.1, (some.0, refl)), λ ins outs p r. all outs)

pub not_left : (P Q : Types → Type 0) (us : Types) → Took false P Q us → IsStuck P (λ ins outs. Takes us ins)
not_left P Q us h ins outs p r = h r.0 (subst P r.1 p)

pub turned_into : (P Q N : Types → Type 0) (us vs : Types) → Took true P Q us → Gave Q N vs → Advances P N (Turns us vs)
turned_into P Q N us vs h g = (
  λ outs n. let below = g.0 outs n in (us ++ below.0, (h below.0).1 below.1, (below.0, refl, below.2)),
  λ ins outs p r. subst N (sym r.2) (g.1 r.0 ((h r.0).0 (subst P r.1 p))),
)

pub not_turned : (P Q : Types → Type 0) (us vs : Types) → Took false P Q us → IsStuck P (Turns us vs)
not_turned P Q us vs h ins outs p r = h r.0 (subst P r.1 p)

-- the last of some types before the first that were taken
parts_at : (types : Types) (n : ℕ) (d : ValType) → n < length types → types ≡ take n types ++ get_or types n d ∷ drop (n + 1) types
parts_at types n d h = sym (take-append-drop n types) ∙ ap (λ xs. take n types ++ xs) (drop_more types n d h)

split_at : (types : Types) (n : ℕ) (d : ValType) (ts : Types) → n < length types →
    reverse types ++ ts ≡ reverse (drop (n + 1) types) ++ (get_or types n d ∷ (reverse (take n types) ++ ts))
split_at types n d ts h =
    let x = get_or types n d in
    let a = take n types in
    let b = drop (n + 1) types in
    ap (λ xs. reverse xs ++ ts) (parts_at types n d h) ∙
    ap (λ xs. xs ++ ts) (reverse-append a (x ∷ b) ∙ ap (λ xs. xs ++ reverse a) (reverse-append (x ∷ []) b)) ∙
    append_assoc (reverse b ++ x ∷ []) (reverse a) ts ∙
    append_assoc (reverse b) (x ∷ []) (reverse a ++ ts)

pub missing : (P Q N : Types → Type 0) (types : Types) (n m : ℕ) (d : ValType) → n + 1 ≡ m → n < length types →
    Took true P Q (reverse (drop m types)) → Took false Q N (get_or types n d ∷ []) → Took false P N (reverse types)
missing P Q N types n m d e h some none ts p =
    none (reverse (take n types) ++ ts)
    ((some (get_or types n d ∷ (reverse (take n types) ++ ts))).0
    (subst P (split_at types n d ts h ∙ ap (λ k. reverse (drop k types) ++ (get_or types n d ∷ (reverse (take n types) ++ ts))) e) p))

nothing_left : (ks : List (Option ValType)) (dead : Bool) → ks ≡ [] → StandsFor ks dead []
nothing_left [] true e = tt
nothing_left [] false e = refl
nothing_left (k ∷ ks) dead e = cc

something_left : (ks : List (Option ValType)) (dead : Bool) → 0 < length ks → StandsFor ks dead [] → ⊥
something_left [] dead h s = absurd (omega (arith, h))
something_left (k ∷ ks) dead h s = s

pub is_clear_then : (s : Known) → s.here ≡ [] → Are s []
is_clear_then s e = nothing_left (reverse s.here) s.dead (ap reverse e)

pub not_clear : (s : Known) → 0 < length s.here → Are s [] → ⊥
not_clear s h a = something_left (reverse s.here) s.dead (let e = length-reverse s.here in omega (arith, h, e)) a

pushed_on : (k : Option ValType) (ks : List (Option ValType)) (dead : Bool) → Pushed k (StandsFor ks dead) (StandsFor (k ∷ ks) dead)
pushed_on k ks dead = (λ outs q. top outs q, λ t ts i p. (i, p))
  where
    top : (outs : Types) → StandsFor (k ∷ ks) dead outs → (t : ValType) × (ts : Types) × IsOfType k t × StandsFor ks dead ts × (outs ≡ t ∷ ts)
    top [] q = absurd q
    top (t ∷ ts) q = (t, ts, q.0, q.1, refl)

pub pushed : (k : Option ValType) (s n : Known) → n.here ≡ s.here ++ k ∷ [] → n.dead ≡ s.dead → Pushed k (Are s) (Are n)
pushed k s n e d =
    let same : reverse n.here ≡ k ∷ reverse s.here = ap reverse e ∙ reverse-append s.here (k ∷ []) in
    let P : List (Option ValType) → Type 0 = λ ks. Pushed k (Are s) (StandsFor ks n.dead) in
    let Q : Bool → Type 0 = λ b. Pushed k (Are s) (StandsFor (k ∷ reverse s.here) b) in
    subst P (sym same) (subst Q (sym d) (pushed_on k (reverse s.here) s.dead))

pub selected : (P Q R S N : Types → Type 0) (first second known : Option ValType) → Took true P Q (I32 ∷ []) → TookAny (Some first) Q R → TookAny (Some second) R S →
    IsCommon (Some known) first second → Pushed known S N →
    Advances P N (λ ins outs. (t : ValType) × Turns (I32 ∷ t ∷ t ∷ []) (t ∷ []) ins outs)
selected P Q R S N first second known took one two both push = (
  λ outs n.
      let (t, ts, of, s, e) = push.0 outs n in
      let each = both.0 t of in
      (I32 ∷ t ∷ t ∷ ts, (took (t ∷ t ∷ ts)).1 (one.1 t (t ∷ ts) each.0 (two.1 t ts each.1 s)), (t, (ts, refl, e))),
  λ ins outs p r.
      let t = r.0 in
      let below = r.1.0 in
      let a = one.0 t (t ∷ below) ((took (t ∷ t ∷ below)).0 (subst P r.1.1 p)) in
      let b = two.0 t below a.1 in
      subst N (sym r.1.2) (push.1 t below (both.1 t a.0 b.0) b.1),
)

-- ---- one list, cut where the innermost block's operands begin

-- what is known of one list of operands, cut at a number
abbrev pub cut : List (Option ValType) → ℕ → Bool → Known
cut xs b dead = record { below = take b xs; here = drop b xs; dead = dead }

pub not_clear_test : (s : Known) (xs : List (Option ValType)) (b n : ℕ) (dead : Bool) → cut xs b dead ≡ s → n ≡ length xs → b ≤ length xs → nat_eq n b ≡ false → Are s [] → ⊥
not_clear_test s xs b n dead view len fits e a =
    let more : length (drop b xs) ≡ length xs - b = length-drop b xs in
    let A : Known → Type 0 = λ k. Are k [] in
    not_clear (cut xs b dead) (let differ = unequal n b e in omega (arith, differ, more, len, fits)) (subst A (sym view) a)
  where
    unequal : (n b : ℕ) → nat_eq n b ≡ false → n ≡ b → ⊥
    unequal n b e same = grind (arith, e, same)

pub pushed_cut : (k : Option ValType) (s : Known) (xs ys : List (Option ValType)) (b : ℕ) (dead : Bool) → cut xs b dead ≡ s → b ≤ length xs → ys ≡ xs ++ k ∷ [] → Pushed k (Are s) (Are (cut ys b dead))
pushed_cut k s xs ys b dead view fits e =
    pushed k s (cut ys b dead) (ap (drop b) e ∙ drop-append-le b xs (k ∷ []) fits ∙ ap (λ (z : Known). z.here ++ k ∷ []) view) (ap (λ (z : Known). z.dead) view)

all_before : (xs : List (Option ValType)) (b : ℕ) → drop b xs ≡ [] → take b xs ≡ xs
all_before xs b e = take_all b xs (let l = length-drop b xs in let z = ap length e in omega (arith, l, z))

-- the innermost block ends, whose own operands are gone
pub put_down : (s : Known) (xs : List (Option ValType)) (b : ℕ) (dead : Bool) (f : Floor) → cut xs b dead ≡ s → s.here ≡ [] → cut xs f.base f.dead ≡ lower f s.below
put_down s xs b dead f view none =
    let all : xs ≡ s.below = sym (all_before xs b (ap (λ (z : Known). z.here) view ∙ none)) ∙ ap (λ (z : Known). z.below) view in
    ap (λ ys. cut ys f.base f.dead) all
