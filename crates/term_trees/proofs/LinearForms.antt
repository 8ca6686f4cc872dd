-- The linear form of a term as parts, by its outermost form.
use Rattle.std.proofs.Common.{◌≡◌, ℕ, ℤ, pos, ◌+ℤ◌, ◌-ℤ◌, ◌*ℤ◌, Bool, true, false, not, ◌&&◌, ◌||◌, List, [], ◌∷◌, ◌++◌, map, Option, Some, None, refl, sym, ap, subst, ◌∙◌}
use Rattle.std.specs.Prelude.{filter, if◌then◌else◌, option_map, option_and_then}
use Rattle.std.specs.List.{list_all}
use Rattle.std.specs.Ordering.{int_eq}
use Rattle.std.proofs.lemmas.List.{map-append}
use Rattle.std.proofs.Math.IntN.{*ℤ-zero, zero-*ℤ}
use Rattle.wasm_values.specs.declared.number.NumOp.{NumOp}
use Rattle.term_trees.specs.declared.term.Place.{Place}
use Rattle.term_trees.specs.declared.term.Term.{Term, roll-Term, map-Term}
use Rattle.term_trees.specs.declared.term.Term.TheOpen.{Term-F, Num, Var, Own, At, Add, Sub, Mul, One, Two, Low, Sext, Sgn}
use Rattle.term_trees.specs.declared.term.Term.TheVariants as term
use Rattle.term_trees.specs.declared.term.Term.TheVariants.{rolls-Num, rolls-Var, rolls-Own, rolls-At, rolls-Add, rolls-Sub, rolls-Mul, rolls-One, rolls-Two, rolls-Low, rolls-Sext, rolls-Sgn}
use Rattle.term_trees.specs.declared.linear.Way.{Way}
use Rattle.term_trees.specs.declared.linear.Way.TheVariants.{Sum, Difference, Times, By}
use Rattle.term_trees.specs.Same.{same}
use Rattle.term_trees.specs.Ground.{both}
use Rattle.term_trees.specs.Normal.{Form, number, single, combined, is_constant, product, layer_form, form, layer_way, on_the_way, is_low, fits, distinct, parts_of}
use Rattle.term_trees.specs.Linear.{Parts, coefficient_in, occurs_in, applied, limited, limited_parts, kept_parts, fresh_parts, joined, is_constant_parts, joined_product, linear_parts}
use Rattle.term_trees.proofs.Sameness.{induct, map_map, same-refl}
use Rattle.term_trees.proofs.Subterms.{with-roll}
use Rattle.term_trees.proofs.Grounded.{list_all-append}
use Rattle.term_trees.proofs.LinearLists.{limited_parts-append}
use Rattle.term_trees.proofs.AtomLists.{among, among-append, among-distinct, distinct-append, list_all-distinct, coefficient_in-with, occurs_in-with, list_all-with, limited_parts-all}

pub form-roll : (l : Term-F Term) → form (roll-Term l) ≡ layer_form (roll-Term l) (map-Term Term Form form l)
unfolding form
form-roll l = with-roll layer_form l

pub way-roll : (l : Term-F Term) → on_the_way (roll-Term l) ≡ layer_way (roll-Term l) (map-Term Term (List Term) on_the_way l)
unfolding on_the_way
way-roll l = with-roll layer_way l

-- ---- a form has no coefficients but those of its atoms

abbrev pub Covers : Form → Type 0
Covers f = (x : Term) → among f.atoms x ≡ false → f.coefficient x ≡ pos 0

neither : (a b : Bool) → (a || b) ≡ false → (a ≡ false) × (b ≡ false)
neither false b e = (refl, e)
neither true b e = (e, cc)

Covers-number : (n : ℤ) → Covers (number n)
Covers-number n x e = refl

Covers-single : (t : Term) → Covers (single t)
Covers-single t x e = ap (λ b. if b then pos 1 else pos 0) (neither (same t x) false e).0

zero_times : (c : ℤ) → c *ℤ pos 0 ≡ pos 0
zero_times c = *ℤ-zero c

times_zero : (c : ℤ) → pos 0 *ℤ c ≡ pos 0
times_zero c = zero-*ℤ c

applied-zero : (w : Way) → applied w (pos 0) (pos 0) ≡ pos 0
applied-zero Sum = refl
applied-zero Difference = refl
applied-zero (Times c) = zero_times c
applied-zero (By c) = times_zero c

Covers-combined : (w : Way) (f g : Form) → Covers f → Covers g → Covers (combined (applied w) f g)
Covers-combined w f g cf cg x e =
    let p = neither (among f.atoms x) (among g.atoms x) (sym (among-append f.atoms g.atoms x) ∙ e) in
    (λ j. applied w (cf x p.0 j) (cg x p.1 j)) ∙ applied-zero w

Covers-if : (b : Bool) (f g : Form) → Covers f → Covers g → Covers (if b then f else g)
Covers-if true f g cf cg = cf
Covers-if false f g cf cg = cg

Covers-product : (t : Term) (f g : Form) → Covers f → Covers g → Covers (product t f g)
Covers-product t f g cf cg =
    Covers-if (is_constant f) _ _ (Covers-combined (Times f.constant) f g cf cg)
    (Covers-if (is_constant g) _ _ (Covers-combined (By g.constant) f g cf cg) (Covers-single t))

abbrev Covered : Term → Type 0
Covered t = Covers (form t)

covers_layer : (t : Term) (l : Term-F ((u : Term) × Covered u)) → Covers (layer_form t (map-Term ((u : Term) × Covered u) Form (λ e. form e.0) l))
covers_layer t (Num n) = Covers-number n
covers_layer t (Var k) = Covers-single t
covers_layer t (Own k) = Covers-single t
covers_layer t (At p) = Covers-single t
covers_layer t (Add a b) = Covers-combined Sum (form a.0) (form b.0) a.1 b.1
covers_layer t (Sub a b) = Covers-combined Difference (form a.0) (form b.0) a.1 b.1
covers_layer t (Mul a b) = Covers-product t (form a.0) (form b.0) a.1 b.1
covers_layer t (One op a) = Covers-single t
covers_layer t (Two op a b) = Covers-single t
covers_layer t (Low k a) = Covers-single t
covers_layer t (Sext k n a) = Covers-single t
covers_layer t (Sgn n a) = Covers-single t

pub form-covers : (t : Term) → Covers (form t)
form-covers = induct Covered (λ l.
    let part = λ (e : (u : Term) × Covered u). e.0 in
    subst Covers (sym (form-roll (map-Term _ _ part l) ∙ ap (layer_form (roll-Term (map-Term _ _ part l))) (map_map part form l))) (covers_layer (roll-Term (map-Term _ _ part l)) l))

-- ---- parts of forms taken together

coefficient_in-parts : (g : Form) → Covers g → (x : Term) → coefficient_in (parts_of g) x ≡ g.coefficient x
coefficient_in-parts g cg x =
    coefficient_in-with g.coefficient (distinct g.atoms) x
    ∙ ap (λ b. if b then g.coefficient x else pos 0) (among-distinct g.atoms x)
    ∙ at (among g.atoms x) (cg x)
  where
    at : (b : Bool) → (b ≡ false → g.coefficient x ≡ pos 0) → (if b then g.coefficient x else pos 0) ≡ g.coefficient x
    at true h = refl
    at false h = sym (h refl)

occurs_in-parts : (f : Form) (x : Term) → occurs_in (parts_of f) x ≡ among f.atoms x
occurs_in-parts f x = occurs_in-with f.coefficient (distinct f.atoms) x ∙ among-distinct f.atoms x

map_same : {X Y : Type 0} (g h : X → Y) → ((x : X) → g x ≡ h x) → (xs : List X) → map g xs ≡ map h xs
map_same g h same [] = refl
map_same g h same (x ∷ xs) = λ j. same x j ∷ map_same g h same xs j

map_filter_step : {X Y : Type 0} (m n : X → Y) (x : X) (b : Bool) (us : List X) → (b ≡ true → m x ≡ n x) → map m us ≡ map n us → map m (if b then x ∷ us else us) ≡ map n (if b then x ∷ us else us)
map_filter_step m n x true us same ih = λ j. same refl j ∷ ih j
map_filter_step m n x false us same ih = ih

map_filter_same : {X Y : Type 0} (p : X → Bool) (m n : X → Y) → ((x : X) → p x ≡ true → m x ≡ n x) → (xs : List X) → map m (filter p xs) ≡ map n (filter p xs)
map_filter_same p m n same [] = refl
map_filter_same p m n same (x ∷ xs) = map_filter_step m n x (p x) (filter p xs) (same x) (map_filter_same p m n same xs)

filter_map_step : {X Y : Type 0} (m : X → Y) (x : X) (b : Bool) (us : List X) (vs : List Y) → vs ≡ map m us → (if b then m x ∷ vs else vs) ≡ map m (if b then x ∷ us else us)
filter_map_step m x true us vs ih = λ j. m x ∷ ih j
filter_map_step m x false us vs ih = ih

filter_map : {X Y : Type 0} (m : X → Y) (p : Y → Bool) (xs : List X) → filter p (map m xs) ≡ map m (filter (λ x. p (m x)) xs)
filter_map m p [] = refl
filter_map m p (x ∷ xs) = filter_map_step m x (p (m x)) _ _ (filter_map m p xs)

map_twice : {X Y Z : Type 0} (g : X → Y) (h : Y → Z) (xs : List X) → map h (map g xs) ≡ map (λ x. h (g x)) xs
map_twice g h [] = refl
map_twice g h (x ∷ xs) = λ j. h (g x) ∷ map_twice g h xs j

filter_same : {X : Type 0} (p q : X → Bool) → ((x : X) → p x ≡ q x) → (xs : List X) → filter p xs ≡ filter q xs
filter_same p q same xs = λ j. filter (λ x. same x j) xs

not-true : (b : Bool) → not b ≡ true → b ≡ false
not-true false e = refl
not-true true e = sym e

module _ (w : Way) (f g : Form) (cf : Covers f) (cg : Covers g) where
  together : Form
  together = combined (applied w) f g

  kept-is : map (λ x. (x, applied w (f.coefficient x) (g.coefficient x))) (distinct f.atoms) ≡ kept_parts w (parts_of f) (parts_of g)
  kept-is =
      map_same _ _ (λ x. sym (ap (λ c. (x, applied w (f.coefficient x) c)) (coefficient_in-parts g cg x))) (distinct f.atoms)
      ∙ sym (map_twice (λ x. (x, f.coefficient x)) (λ p. (p.0, applied w p.1 (coefficient_in (parts_of g) p.0))) (distinct f.atoms))

  fresh-is : map (λ x. (x, applied w (f.coefficient x) (g.coefficient x))) (filter (λ x. not (among f.atoms x)) (distinct g.atoms)) ≡ fresh_parts w (parts_of f) (parts_of g)
  fresh-is =
      map_filter_same (λ x. not (among f.atoms x)) _ (λ x. (x, applied w (pos 0) (g.coefficient x)))
      (λ x e j. (x, applied w (cf x (not-true (among f.atoms x) e) j) (g.coefficient x))) (distinct g.atoms)
      ∙ ap (map (λ x. (x, applied w (pos 0) (g.coefficient x)))) (filter_same _ _ (λ x. ap not (sym (occurs_in-parts f x))) (distinct g.atoms))
      ∙ sym (map_twice (λ x. (x, g.coefficient x)) (λ q. (q.0, applied w (pos 0) q.1)) (filter (λ x. not (occurs_in (parts_of f) x)) (distinct g.atoms)))
      ∙ ap (map (λ q. (q.0, applied w (pos 0) q.1))) (sym (filter_map (λ x. (x, g.coefficient x)) (λ q. not (occurs_in (parts_of f) q.0)) (distinct g.atoms)))

  parts-combined : parts_of (combined (applied w) f g) ≡ kept_parts w (parts_of f) (parts_of g) ++ fresh_parts w (parts_of f) (parts_of g)
  parts-combined =
      ap (map (λ x. (x, applied w (f.coefficient x) (g.coefficient x)))) (distinct-append f.atoms g.atoms)
      ∙ map-append (λ x. (x, applied w (f.coefficient x) (g.coefficient x))) (distinct f.atoms) (filter (λ x. not (among f.atoms x)) (distinct g.atoms))
      ∙ (λ j. kept-is j ++ fresh-is j)

and-assoc : (a b c : Bool) → (a && (b && c)) ≡ ((a && b) && c)
and-assoc true b c = refl
and-assoc false b c = refl

limited_parts-of : (f : Form) → limited_parts (parts_of f) ≡ (if list_all (λ x. is_low (f.coefficient x)) f.atoms then Some (parts_of f) else None)
limited_parts-of f =
    limited_parts-all (parts_of f)
    ∙ ap (λ b. if b then Some (parts_of f) else None)
    (list_all-with f.coefficient is_low (distinct f.atoms) ∙ list_all-distinct (λ x. is_low (f.coefficient x)) f.atoms)

is_constant-parts : (f : Form) → is_constant_parts (parts_of f) ≡ is_constant f
is_constant-parts f = list_all-with f.coefficient (λ c. int_eq c (pos 0)) (distinct f.atoms) ∙ list_all-distinct (λ x. int_eq (f.coefficient x) (pos 0)) f.atoms

-- a constant and parts, where all is low
abbrev checked : ℤ → List (Term × ℤ) → Option Parts
checked c ps = option_and_then (λ c. option_map (λ qs. (c, qs)) (limited_parts ps)) (limited c)

abbrev tabled : Form → Parts
tabled f = (f.constant, parts_of f)

checked-is : (f : Form) → checked f.constant (parts_of f) ≡ (if fits f then Some (tabled f) else None)
checked-is f = ap (λ o. option_and_then (λ c. option_map (λ qs. (c, qs)) o) (limited f.constant)) (limited_parts-of f) ∙ at (is_low f.constant) (list_all (λ x. is_low (f.coefficient x)) f.atoms)
  where
    at : (a b : Bool) → option_and_then (λ c. option_map (λ qs. (c, qs)) (if b then Some (parts_of f) else None)) (if a then Some f.constant else None) ≡ (if a && b then Some (tabled f) else None)
    at true true = refl
    at true false = refl
    at false b = refl

joined-checked : (c : ℤ) (ps qs : List (Term × ℤ)) → option_and_then {U = Parts} (λ c. option_and_then {U = Parts} (λ xs. option_map (λ ys. (c, xs ++ ys)) (limited_parts qs)) (limited_parts ps)) (limited c) ≡ checked c (ps ++ qs)
joined-checked c ps qs =
    ap (λ f. option_and_then f (limited c)) (λ j c. after c (limited_parts ps) (limited_parts qs) j)
    ∙ ap (λ o. option_and_then (λ c. option_map (λ rs. (c, rs)) o) (limited c)) (sym (limited_parts-append ps qs))
  where
    after : (c : ℤ) (o q : Option (List (Term × ℤ))) → option_and_then {U = Parts} (λ xs. option_map (λ ys. (c, xs ++ ys)) q) o ≡ option_map (λ rs. (c, rs)) (option_and_then (λ xs. option_map (λ ys. xs ++ ys) q) o)
    after c None q = refl
    after c (Some xs) None = refl
    after c (Some xs) (Some ys) = refl

-- forms taken together, as parts
joined-is : (w : Way) (f g : Form) → Covers f → Covers g → joined w (tabled f) (tabled g) ≡ (if fits (combined (applied w) f g) then Some (tabled (combined (applied w) f g)) else None)
joined-is w f g cf cg =
    joined-checked (applied w f.constant g.constant) (kept_parts w (parts_of f) (parts_of g)) (fresh_parts w (parts_of f) (parts_of g))
    ∙ ap (checked (applied w f.constant g.constant)) (sym (parts-combined w f g cf cg))
    ∙ checked-is (combined (applied w) f g)

single-tabled : (t : Term) → tabled (single t) ≡ (pos 0, (t, pos 1) ∷ [])
single-tabled t = ap (λ b. (pos 0, (t, if b then pos 1 else pos 0) ∷ [])) (same-refl t)

single-fits : (t : Term) → fits (single t) ≡ true
single-fits t = ap (λ b. is_low (if b then pos 1 else pos 0) && true) (same-refl t)

single-is : (t : Term) → Some (pos 0, (t, pos 1) ∷ []) ≡ (if fits (single t) then Some (tabled (single t)) else None)
single-is t = sym (ap (λ b. if b then Some (tabled (single t)) else None) (single-fits t) ∙ ap Some (single-tabled t))

product-is : (t : Term) (f g : Form) → Covers f → Covers g → joined_product t (tabled f) (tabled g) ≡ (if fits (product t f g) then Some (tabled (product t f g)) else None)
product-is t f g cf cg =
    (λ j. if is_constant-parts f j then joined (Times f.constant) (tabled f) (tabled g) else if is_constant-parts g j then joined (By g.constant) (tabled f) (tabled g) else Some (pos 0, (t, pos 1) ∷ []))
    ∙ at (is_constant f) (is_constant g)
  where
    at : (a b : Bool) → (if a then joined (Times f.constant) (tabled f) (tabled g) else if b then joined (By g.constant) (tabled f) (tabled g) else Some (pos 0, (t, pos 1) ∷ []))
        ≡ (if fits (if a then combined (λ x y. f.constant *ℤ y) f g else if b then combined (λ x y. x *ℤ g.constant) f g else single t)
        then Some (tabled (if a then combined (λ x y. f.constant *ℤ y) f g else if b then combined (λ x y. x *ℤ g.constant) f g else single t)) else None)
    at true b = joined-is (Times f.constant) f g cf cg
    at false true = joined-is (By g.constant) f g cf cg
    at false false = single-is t

-- ---- each form of term

abbrev fit_along : List Term → Bool
fit_along ts = list_all (λ u. fits (form u)) ts

two_ways : (t : Term) (F : Form) (a b : Term) (J : Parts → Parts → Option Parts)
    → form t ≡ F → on_the_way t ≡ t ∷ on_the_way a ++ on_the_way b → J (tabled (form a)) (tabled (form b)) ≡ (if fits F then Some (tabled F) else None)
    → linear_parts t ≡ option_and_then (λ p. J p.0 p.1) (both (linear_parts a) (linear_parts b))
unfolding linear_parts
two_ways t F a b J formed way taken =
    (λ j. if fit_along (way j) then Some (tabled (formed j)) else None)
    ∙ (λ j. if fits (formed j) && list_all-append (λ u. fits (form u)) (on_the_way a) (on_the_way b) j then Some (tabled F) else None)
    ∙ at (fits F) (fit_along (on_the_way a)) (fit_along (on_the_way b)) taken
  where
    at : (s g h : Bool) → J (tabled (form a)) (tabled (form b)) ≡ (if s then Some (tabled F) else None)
        → (if s && (g && h) then Some (tabled F) else None) ≡ option_and_then (λ p. J p.0 p.1) (both (if g then Some (tabled (form a)) else None) (if h then Some (tabled (form b)) else None))
    at true true true e = sym e
    at false true true e = sym e
    at true true false e = refl
    at false true false e = refl
    at true false h e = refl
    at false false h e = refl

atom_way : (t : Term) → form t ≡ single t → on_the_way t ≡ t ∷ [] → linear_parts t ≡ Some (pos 0, (t, pos 1) ∷ [])
unfolding linear_parts
atom_way t formed way =
    (λ j. if fit_along (way j) then Some (tabled (formed j)) else None)
    ∙ (λ j. if fits (formed j) && true then Some (tabled (single t)) else None)
    ∙ (λ j. if single-fits t j && true then Some (tabled (single t)) else None)
    ∙ ap Some (single-tabled t)

pub linear-num : (n : ℤ) → linear_parts (term.Num n) ≡ option_map (λ c. (c, [])) (limited n)
unfolding linear_parts
linear-num n =
    ap linear_parts (sym (rolls-Num n))
    ∙ (λ j. if fit_along (way-roll (Num n) j) then Some (tabled (form-roll (Num n) j)) else None)
    ∙ (λ j. if fits (form-roll (Num n) j) && true then Some (tabled (number n)) else None)
    ∙ at (is_low n)
  where
    at : (b : Bool) → (if (b && true) && true then Some (tabled (number n)) else None) ≡ option_map (λ c. (c, [])) (if b then Some n else None)
    at true = refl
    at false = refl

pub linear-add : (a b : Term) → linear_parts (term.Add a b) ≡ option_and_then (λ p. joined Sum p.0 p.1) (both (linear_parts a) (linear_parts b))
linear-add a b =
    ap linear_parts (sym (rolls-Add a b))
    ∙ two_ways (roll-Term (Add a b)) (combined (λ x y. x +ℤ y) (form a) (form b)) a b (joined Sum) (form-roll (Add a b)) (way-roll (Add a b))
    (joined-is Sum (form a) (form b) (form-covers a) (form-covers b))

pub linear-sub : (a b : Term) → linear_parts (term.Sub a b) ≡ option_and_then (λ p. joined Difference p.0 p.1) (both (linear_parts a) (linear_parts b))
linear-sub a b =
    ap linear_parts (sym (rolls-Sub a b))
    ∙ two_ways (roll-Term (Sub a b)) (combined (λ x y. x -ℤ y) (form a) (form b)) a b (joined Difference) (form-roll (Sub a b)) (way-roll (Sub a b))
    (joined-is Difference (form a) (form b) (form-covers a) (form-covers b))

pub linear-mul : (a b : Term) → linear_parts (term.Mul a b) ≡ option_and_then (λ p. joined_product (term.Mul a b) p.0 p.1) (both (linear_parts a) (linear_parts b))
linear-mul a b =
    ap linear_parts (sym (rolls-Mul a b))
    ∙ two_ways (roll-Term (Mul a b)) (product (roll-Term (Mul a b)) (form a) (form b)) a b (joined_product (roll-Term (Mul a b))) (form-roll (Mul a b)) (way-roll (Mul a b))
    (product-is (roll-Term (Mul a b)) (form a) (form b) (form-covers a) (form-covers b))
    ∙ (λ j. option_and_then (λ p. joined_product (rolls-Mul a b j) p.0 p.1) (both (linear_parts a) (linear_parts b)))

atom_at : (l : Term-F Term) (t : Term) → roll-Term l ≡ t → form (roll-Term l) ≡ single (roll-Term l) → on_the_way (roll-Term l) ≡ roll-Term l ∷ [] → linear_parts t ≡ Some (pos 0, (t, pos 1) ∷ [])
atom_at l t is formed way = subst (λ u. linear_parts u ≡ Some (pos 0, (u, pos 1) ∷ [])) is (atom_way (roll-Term l) formed way)

pub linear-var : (k : ℕ) → linear_parts (term.Var k) ≡ Some (pos 0, (term.Var k, pos 1) ∷ [])
linear-var k = atom_at (Var k) _ (rolls-Var k) (form-roll (Var k)) (way-roll (Var k))

pub linear-own : (k : ℕ) → linear_parts (term.Own k) ≡ Some (pos 0, (term.Own k, pos 1) ∷ [])
linear-own k = atom_at (Own k) _ (rolls-Own k) (form-roll (Own k)) (way-roll (Own k))

pub linear-at : (p : Place) → linear_parts (term.At p) ≡ Some (pos 0, (term.At p, pos 1) ∷ [])
linear-at p = atom_at (At p) _ (rolls-At p) (form-roll (At p)) (way-roll (At p))

pub linear-one : (op : NumOp) (a : Term) → linear_parts (term.One op a) ≡ Some (pos 0, (term.One op a, pos 1) ∷ [])
linear-one op a = atom_at (One op a) _ (rolls-One op a) (form-roll (One op a)) (way-roll (One op a))

pub linear-two : (op : NumOp) (a b : Term) → linear_parts (term.Two op a b) ≡ Some (pos 0, (term.Two op a b, pos 1) ∷ [])
linear-two op a b = atom_at (Two op a b) _ (rolls-Two op a b) (form-roll (Two op a b)) (way-roll (Two op a b))

pub linear-low : (k : ℕ) (a : Term) → linear_parts (term.Low k a) ≡ Some (pos 0, (term.Low k a, pos 1) ∷ [])
linear-low k a = atom_at (Low k a) _ (rolls-Low k a) (form-roll (Low k a)) (way-roll (Low k a))

pub linear-sext : (k n : ℕ) (a : Term) → linear_parts (term.Sext k n a) ≡ Some (pos 0, (term.Sext k n a, pos 1) ∷ [])
linear-sext k n a = atom_at (Sext k n a) _ (rolls-Sext k n a) (form-roll (Sext k n a)) (way-roll (Sext k n a))

pub linear-sgn : (n : ℕ) (a : Term) → linear_parts (term.Sgn n a) ≡ Some (pos 0, (term.Sgn n a, pos 1) ∷ [])
linear-sgn n a = atom_at (Sgn n a) _ (rolls-Sgn n a) (form-roll (Sgn n a)) (way-roll (Sgn n a))

pub ruleset linear_forms = (linear-num, linear-add, linear-sub, linear-mul, linear-var, linear-own, linear-at, linear-one, linear-two, linear-low, linear-sext, linear-sgn)
