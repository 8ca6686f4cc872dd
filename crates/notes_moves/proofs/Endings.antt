-- A list of a few parts, and what is made of them.
use Rattle.std.proofs.Common.{◌≡◌, ℕ, Result, Ok, Err, refl}
use Rattle.sexp_text.specs.declared.fault.TextFault.{TextFault}
use Rattle.sexp_text.specs.Reading.{◌>>=◌}
use Rattle.notes_grammar.specs.Parts.{Part, Parts, Nil, Cons}
use Rattle.notes_grammar.specs.Reading.{field, ended}
use Rattle.notes_terms.specs.Fields.{whole_one, whole_two, whole_three}

ended_made : {A X : Type 0} (f : A → X) (x : A) (ps : Parts) → ended (f x) ps ≡ (ended x ps >>= λ y. Ok (f y))
ended_made f x Nil = refl
ended_made f x (Cons p ps) = refl

pub one_made : {A X : Type 0} (f : A → X) (a : Part → Result A TextFault) (close : ℕ) (ps : Parts) →
    (field a close ps >>= λ x. ended (f x.0) x.1) ≡ (whole_one a close ps >>= λ x. Ok (f x))
one_made {A} {X} f a close ps = by (field a close ps)
  where
    by : (r : Result (A × Parts) TextFault) → (r >>= λ x. ended (f x.0) x.1) ≡ ((r >>= λ x. ended x.0 x.1) >>= λ x. Ok (f x))
    by (Ok x) = ended_made f x.0 x.1
    by (Err e) = refl

pub two_made : {A B X : Type 0} (f : A → B → X) (a : Part → Result A TextFault) (b : Part → Result B TextFault) (close : ℕ) (ps : Parts) →
    (field a close ps >>= λ x. field b close x.1 >>= λ y. ended (f x.0 y.0) y.1) ≡ (whole_two a b close ps >>= λ x. Ok (f x.0 x.1))
two_made {A} {B} {X} f a b close ps = by_first (field a close ps)
  where
    pair : A → B → A × B
    pair x y = (x, y)

    made : A × B → X
    made z = f z.0 z.1

    by_second : (x : A) (r : Result (B × Parts) TextFault) → (r >>= λ y. ended (f x y.0) y.1) ≡ ((r >>= λ y. ended (pair x y.0) y.1) >>= λ z. Ok (made z))
    by_second x (Ok y) = ended_made made (pair x y.0) y.1
    by_second x (Err e) = refl

    by_first : (r : Result (A × Parts) TextFault) →
        (r >>= λ x. field b close x.1 >>= λ y. ended (f x.0 y.0) y.1) ≡ ((r >>= λ x. field b close x.1 >>= λ y. ended (pair x.0 y.0) y.1) >>= λ z. Ok (made z))
    by_first (Ok x) = by_second x.0 (field b close x.1)
    by_first (Err e) = refl

pub three_made : {A B C X : Type 0} (f : A → B → C → X) (a : Part → Result A TextFault) (b : Part → Result B TextFault) (c : Part → Result C TextFault) (close : ℕ) (ps : Parts) →
    (field a close ps >>= λ x. field b close x.1 >>= λ y. field c close y.1 >>= λ z. ended (f x.0 y.0 z.0) z.1)
    ≡ (whole_three a b c close ps >>= λ x. Ok (f x.0 x.1 x.2))
three_made {A} {B} {C} {X} f a b c close ps = by_first (field a close ps)
  where
    triple : A → B → C → A × B × C
    triple x y z = (x, y, z)

    made : A × B × C → X
    made t = f t.0 t.1 t.2

    by_third : (x : A) (y : B) (r : Result (C × Parts) TextFault) → (r >>= λ z. ended (f x y z.0) z.1) ≡ ((r >>= λ z. ended (triple x y z.0) z.1) >>= λ t. Ok (made t))
    by_third x y (Ok z) = ended_made made (triple x y z.0) z.1
    by_third x y (Err e) = refl

    by_second : (x : A) (r : Result (B × Parts) TextFault) →
        (r >>= λ y. field c close y.1 >>= λ z. ended (f x y.0 z.0) z.1) ≡ ((r >>= λ y. field c close y.1 >>= λ z. ended (triple x y.0 z.0) z.1) >>= λ t. Ok (made t))
    by_second x (Ok y) = by_third x y.0 (field c close y.1)
    by_second x (Err e) = refl

    by_first : (r : Result (A × Parts) TextFault) →
        (r >>= λ x. field b close x.1 >>= λ y. field c close y.1 >>= λ z. ended (f x.0 y.0 z.0) z.1)
        ≡ ((r >>= λ x. field b close x.1 >>= λ y. field c close y.1 >>= λ z. ended (triple x.0 y.0 z.0) z.1) >>= λ t. Ok (made t))
    by_first (Ok x) = by_second x.0 (field b close x.1)
    by_first (Err e) = refl
