-- Things one after another, as many as begin.
use Rattle.std.proofs.Common.{◌≡◌, ℕ, zero, suc, ◌≤◌, ◌<◌, Bool, true, false, cond, ltb, List, [], ◌∷◌, ◌++◌, length, Option, Some, None, refl, sym, ap, ◌∙◌, arith}
use Rattle.std.proofs.lemmas.List.{append-nil}
use Rattle.std.proofs.lemmas.Bool.{lt-ltb, ltb-true}
use Rattle.first_reader.specs.declared.error.ReadError.{ReadError}
use Rattle.first_reader.specs.declared.error.ReadError.TheVariants as errors
use Rattle.first_reader.specs.Lexemes.{Lexeme}
use Rattle.first_reader.specs.Reading.{◌>>=◌, Fails}
use Rattle.first_reader.specs.ReadingLexemes.{many_from, many_at}
use Rattle.first_reader.proofs.Loop.{with_front, regroup}

module _ {A : Type 0} (begins : List Lexeme → Bool) (read : List Lexeme → Option (A × List Lexeme)) where
  abbrev Others : Type 0
  Others = List Lexeme → Option (List A × List Lexeme)

  abbrev consed : A → Option (List A × List Lexeme) → Option (List A × List Lexeme)
  consed x read = read >>= λ xs. Some (x ∷ xs.0, xs.1)

  -- what is read behind a thing that took a part
  abbrev behind : Others → ℕ → Option (A × List Lexeme) → Option (List A × List Lexeme)
  behind others len r = r >>= λ first. cond (ltb (length first.1) len) (others first.1 >>= λ xs. Some (first.0 ∷ xs.0, xs.1)) None

  one_more : (n : ℕ) (parts : List Lexeme) → many_from begins read (suc n) parts ≡ cond (begins parts) (behind (many_from begins read n) (length parts) (read parts)) (Some ([], parts))
  unfolding many_from
  one_more n parts = refl

  none_more : (parts : List Lexeme) → many_from begins read 0 parts ≡ cond (begins parts) None (Some ([], parts))
  unfolding many_from
  none_more parts = refl

  behind_same : (f g : Others) (len : ℕ) (r : Option (A × List Lexeme)) → ((rest : List Lexeme) → length rest < len → f rest ≡ g rest) → behind f len r ≡ behind g len r
  behind_same f g len None h = refl
  behind_same f g len (Some x) h = by (ltb (length x.1) len) (ltb-true (length x.1) len) where
    by : (t : Bool) → (t ≡ true → length x.1 < len) → cond t (consed x.0 (f x.1)) None ≡ cond t (consed x.0 (g x.1)) None
    by true lt = ap (consed x.0) (h x.1 (lt refl))
    by false lt = refl

  behind_none : (f : Others) (r : Option (A × List Lexeme)) → behind f 0 r ≡ None
  behind_none f None = refl
  behind_none f (Some x) = by (ltb (length x.1) 0) (ltb-true (length x.1) 0) where
    by : (t : Bool) → (t ≡ true → length x.1 < 0) → cond t (consed x.0 (f x.1)) None ≡ None
    by true lt = absurd (omega (arith, lt refl))
    by false lt = refl

  at_nothing : (m : ℕ) (parts : List Lexeme) → length parts ≤ 0 → many_from begins read (suc m) parts ≡ many_from begins read 0 parts
  at_nothing m parts le =
      let none : length parts ≡ 0 = omega arith in
      one_more m parts ∙ ap (λ r. cond (begins parts) r (Some ([], parts))) (ap (λ len. behind (many_from begins read m) len (read parts)) none ∙ behind_none (many_from begins read m) (read parts)) ∙ sym (none_more parts)

  -- a number of things that is great enough makes no difference
  same_many : (n m : ℕ) (parts : List Lexeme) → length parts ≤ n → length parts ≤ m → many_from begins read n parts ≡ many_from begins read m parts
  same_many zero zero parts p q = refl
  same_many zero (suc m) parts p q = sym (at_nothing m parts p)
  same_many (suc n) zero parts p q = at_nothing n parts q
  same_many (suc n) (suc m) parts p q =
      one_more n parts ∙ ap (λ r. cond (begins parts) r (Some ([], parts))) (behind_same (many_from begins read n) (many_from begins read m) (length parts) (read parts) (λ rest lt. same_many n m rest (omega arith) (omega arith))) ∙ sym (one_more m parts)

  -- where one begins, it is read, and the others behind it
  pub many_next : (parts : List Lexeme) (x : A) (rest : List Lexeme) → begins parts ≡ true → read parts ≡ Some (x, rest) → length rest < length parts → many_at begins read parts ≡ (many_at begins read rest >>= λ xs. Some (x ∷ xs.0, xs.1))
  unfolding many_at
  many_next parts x rest b e lt =
      same_many (length parts) (suc (length parts)) parts (omega arith) (omega arith) ∙ one_more (length parts) parts
      ∙ rw (b, e, lt-ltb (length rest) (length parts) lt) (ap (consed x) (same_many (length parts) (length rest) rest (omega arith) (omega arith)))

  pub many_fails : (parts : List Lexeme) → begins parts ≡ true → read parts ≡ None → many_at begins read parts ≡ None
  unfolding many_at
  many_fails parts b e = same_many (length parts) (suc (length parts)) parts (omega arith) (omega arith) ∙ one_more (length parts) parts ∙ rw (b, e) refl

  pub many_ends : (parts : List Lexeme) → begins parts ≡ false → many_at begins read parts ≡ Some ([], parts)
  unfolding many_at
  many_ends parts b = same_many (length parts) (suc (length parts)) parts (omega arith) (omega arith) ∙ one_more (length parts) parts ∙ rw b refl

  -- ---- as a loop does

  pub many_go_on : (front : List A) (parts : List Lexeme) (total : Option (List A × List Lexeme)) (x : A) (rest : List Lexeme) → with_front front (many_at begins read parts) ≡ total →
      begins parts ≡ true → read parts ≡ Some (x, rest) → length rest < length parts → with_front (front ++ x ∷ []) (many_at begins read rest) ≡ total
  many_go_on front parts total x rest so_far b e lt =
      sym (ap (with_front front) (many_next parts x rest b e lt) ∙ regroup front x (many_at begins read rest)) ∙ so_far

  pub many_stop : (front : List A) (parts : List Lexeme) (total : Option (List A × List Lexeme)) (e : ReadError) → with_front front (many_at begins read parts) ≡ total →
      begins parts ≡ true → Fails e (read parts) → Fails e total
  many_stop front parts total errors.Memory so_far b h = tt
  many_stop front parts total errors.OtherForm so_far b h = sym so_far ∙ ap (with_front front) (many_fails parts b h)

  pub many_done : (front : List A) (parts : List Lexeme) (total : Option (List A × List Lexeme)) → with_front front (many_at begins read parts) ≡ total →
      begins parts ≡ false → total ≡ Some (front, parts)
  many_done front parts total so_far b = sym so_far ∙ ap (with_front front) (many_ends parts b) ∙ ap (λ xs. Some (xs, parts)) (append-nil front)
