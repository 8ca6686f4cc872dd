-- What a reader of notes takes is what was spelled, and what was spelled is read again.
use Rattle.std.proofs.Common.{◌≡◌, ℕ, zero, suc, ◌≤◌, ◌<◌, ℤ, pos, negsuc, Bool, true, false, cond, ltb, List, [], ◌∷◌, ◌++◌, length, Option, Some, None, refl, sym, ap, subst, ◌∙◌, append_assoc, arith, length-append}
use Rattle.std.proofs.lemmas.List.Concat.{flat_map-cons}
use Rattle.std.proofs.lemmas.Bool.{lt-ltb, ltb-true}
use Rattle.std.proofs.lemmas.Slice.Eq.{bytes_eq-Decides}
use Rattle.std.specs.Str.{bytes_eq}
use Rattle.std.specs.List.{flat_map, AllByRecursion}
use Rattle.first_reader.specs.Lexemes.{Lexeme, Open, Close, Number, Word}
use Rattle.first_reader.specs.FirstNotes.{IsNatural}
use Rattle.first_reader.specs.Reading.{◌>>=◌}
use Rattle.first_reader.specs.ReadingLexemes.{open_at, close_at, word_at, number_at, u32_of, u32_at, head_at, empty_at, many_from, many_at, list_at}
use Rattle.first_reader.proofs.PartLaws.{some_is, bind_some, passed, passed_then}
use Rattle.first_reader.proofs.ManyLaws.{many_next, many_ends}

-- ---- one part

pub open_takes : (parts rest : List Lexeme) → open_at parts ≡ Some rest → parts ≡ Open ∷ rest
open_takes [] rest e = absurd cc
open_takes (Open ∷ parts) rest e = ap (λ r. Open ∷ r) (some_is parts rest e)
open_takes (Close ∷ parts) rest e = absurd cc
open_takes (Number z ∷ parts) rest e = absurd cc
open_takes (Word w ∷ parts) rest e = absurd cc

pub close_takes : (parts rest : List Lexeme) → close_at parts ≡ Some rest → parts ≡ Close ∷ rest
close_takes [] rest e = absurd cc
close_takes (Open ∷ parts) rest e = absurd cc
close_takes (Close ∷ parts) rest e = ap (λ r. Close ∷ r) (some_is parts rest e)
close_takes (Number z ∷ parts) rest e = absurd cc
close_takes (Word w ∷ parts) rest e = absurd cc

pub word_takes : (w : List ℕ) (parts rest : List Lexeme) → word_at w parts ≡ Some rest → parts ≡ Word w ∷ rest
word_takes w [] rest e = absurd cc
word_takes w (Open ∷ parts) rest e = absurd cc
word_takes w (Close ∷ parts) rest e = absurd cc
word_takes w (Number z ∷ parts) rest e = absurd cc
word_takes w (Word v ∷ parts) rest e =
    let p = passed (bytes_eq v w) parts rest e in
    let same : v ≡ w = (bytes_eq-Decides v w).0 p.0 in
    rw (same, p.1) refl

pub word_again : (w : List ℕ) (rest : List Lexeme) → word_at w (Word w ∷ rest) ≡ Some rest
word_again w rest = let same : bytes_eq w w ≡ true = (bytes_eq-Decides w w).1 refl in rw same refl

pub number_takes : (parts : List Lexeme) (x : ℤ × List Lexeme) → number_at parts ≡ Some x → parts ≡ Number x.0 ∷ x.1
number_takes [] x e = absurd cc
number_takes (Open ∷ parts) x e = absurd cc
number_takes (Close ∷ parts) x e = absurd cc
number_takes (Number z ∷ parts) x e = subst (λ (y : ℤ × List Lexeme). Number z ∷ parts ≡ Number y.0 ∷ y.1) (some_is (z, parts) x e) refl
number_takes (Word w ∷ parts) x e = absurd cc

u32_is : (z : ℤ) (n : ℕ) → u32_of z ≡ Some n → (z ≡ pos n) × IsNatural n
u32_is (pos m) n e =
    let p = passed (ltb m 4294967296) m n e in
    (ap pos p.1, subst IsNatural p.1 (ltb-true _ _ p.0))
u32_is (negsuc m) n e = absurd cc

pub u32_takes : (parts : List Lexeme) (x : ℕ × List Lexeme) → u32_at parts ≡ Some x → (parts ≡ Number (pos x.0) ∷ x.1) × IsNatural x.0
unfolding u32_at
u32_takes parts x e =
    let a = bind_some (number_at parts) (λ z. u32_of z.0 >>= λ n. Some (n, z.1)) x e in
    let b = bind_some (u32_of a.0.0) (λ n. Some (n, a.0.1)) x a.2 in
    let n = u32_is a.0.0 b.0 b.1 in
    subst (λ (y : ℕ × List Lexeme). (parts ≡ Number (pos y.0) ∷ y.1) × IsNatural y.0) (some_is (b.0, a.0.1) x b.2)
    (number_takes parts a.0 a.1 ∙ ap (λ z. Number z ∷ a.0.1) n.0, n.1)

pub u32_again : (n : ℕ) (rest : List Lexeme) → IsNatural n → u32_at (Number (pos n) ∷ rest) ≡ Some (n, rest)
unfolding u32_at
u32_again n rest lt = let small : ltb n 4294967296 ≡ true = lt-ltb n 4294967296 lt in rw small refl

pub head_takes : (w : List ℕ) (parts rest : List Lexeme) → head_at w parts ≡ Some rest → parts ≡ Open ∷ Word w ∷ rest
unfolding head_at
head_takes w parts rest e =
    let a = bind_some (open_at parts) (λ r. word_at w r) rest e in
    open_takes parts a.0 a.1 ∙ ap (λ r. Open ∷ r) (word_takes w a.0 rest a.2)

pub head_again : (w : List ℕ) (rest : List Lexeme) → head_at w (Open ∷ Word w ∷ rest) ≡ Some rest
unfolding head_at
head_again w rest = word_again w rest

pub empty_takes : (parts rest : List Lexeme) → empty_at parts ≡ Some rest → parts ≡ Open ∷ Close ∷ rest
unfolding empty_at
empty_takes parts rest e =
    let a = bind_some (open_at parts) (λ r. close_at r) rest e in
    open_takes parts a.0 a.1 ∙ ap (λ r. Open ∷ r) (close_takes a.0 rest a.2)

pub empty_again : (rest : List Lexeme) → empty_at (Open ∷ Close ∷ rest) ≡ Some rest
unfolding empty_at
empty_again rest = refl

-- ---- things one after another

-- a reader of what is spelled so
pub record ReadsParts {A : Type 0} (begins : List Lexeme → Bool) (read : List Lexeme → Option (A × List Lexeme)) (spell : A → List Lexeme) (IsGood : A → Type 0) : Type 0 where
  pub takes : (parts : List Lexeme) (x : A × List Lexeme) → read parts ≡ Some x → (parts ≡ spell x.0 ++ x.1) × IsGood x.0
  pub again : (x : A) (rest : List Lexeme) → IsGood x → read (spell x ++ rest) ≡ Some (x, rest)
  pub begun : (x : A) (rest : List Lexeme) → begins (spell x ++ rest) ≡ true
  pub some : (x : A) → 1 ≤ length (spell x)

module _ {A : Type 0} (begins : List Lexeme → Bool) (read : List Lexeme → Option (A × List Lexeme)) (spell : A → List Lexeme) (IsGood : A → Type 0) (reads : ReadsParts begins read spell IsGood) where
  abbrev Took : List Lexeme → List A × List Lexeme → Type 0
  Took parts x = (parts ≡ flat_map spell x.0 ++ x.1) × AllByRecursion IsGood x.0

  nothing_took : (parts : List Lexeme) (x : List A × List Lexeme) → Some ([], parts) ≡ Some x → Took parts x
  nothing_took parts x e = subst (Took parts) (some_is ([], parts) x e) (refl, tt)

  at_zero : (t : Bool) (parts : List Lexeme) (x : List A × List Lexeme) → cond t None (Some ([], parts)) ≡ Some x → Took parts x
  at_zero true parts x e = absurd cc
  at_zero false parts x e = nothing_took parts x e

  at_more : (t : Bool) (parts : List Lexeme) (r : Option (List A × List Lexeme)) (x : List A × List Lexeme) → (r ≡ Some x → Took parts x) → cond t r (Some ([], parts)) ≡ Some x → Took parts x
  at_more true parts r x h e = h e
  at_more false parts r x h e = nothing_took parts x e

  many_from_takes : (n : ℕ) (parts : List Lexeme) (x : List A × List Lexeme) → many_from begins read n parts ≡ Some x → Took parts x
  unfolding many_from
  many_from_takes zero parts x e = at_zero (begins parts) parts x e
  many_from_takes (suc n) parts x e =
      at_more (begins parts) parts (read parts >>= λ first. cond (ltb (length first.1) (length parts)) (many_from begins read n first.1 >>= λ others. Some (first.0 ∷ others.0, others.1)) None) x
      (λ f.
      let a = bind_some (read parts) (λ first. cond (ltb (length first.1) (length parts)) (many_from begins read n first.1 >>= λ others. Some (first.0 ∷ others.0, others.1)) None) x f in
      let p = passed_then (ltb (length a.0.1) (length parts)) (many_from begins read n a.0.1 >>= λ others. Some (a.0.0 ∷ others.0, others.1)) x a.2 in
      let b = bind_some (many_from begins read n a.0.1) (λ others. Some (a.0.0 ∷ others.0, others.1)) x p.1 in
      let first = reads.takes parts a.0 a.1 in
      let others = many_from_takes n a.0.1 b.0 b.1 in
      let whole : parts ≡ flat_map spell (a.0.0 ∷ b.0.0) ++ b.0.1 =
      first.0 ∙ ap (λ (r : List Lexeme). spell a.0.0 ++ r) others.0 ∙ sym (append_assoc (spell a.0.0) (flat_map spell b.0.0) b.0.1) ∙ ap (λ (r : List Lexeme). r ++ b.0.1) (sym (flat_map-cons spell a.0.0 b.0.0)) in
      subst (Took parts) (some_is (a.0.0 ∷ b.0.0, b.0.1) x b.2) (whole, (first.1, others.1)))
      e

  pub many_takes : (parts : List Lexeme) (x : List A × List Lexeme) → many_at begins read parts ≡ Some x → (parts ≡ flat_map spell x.0 ++ x.1) × AllByRecursion IsGood x.0
  unfolding many_at
  many_takes parts x e = many_from_takes (length parts) parts x e

  pub many_again : (xs : List A) (rest : List Lexeme) → AllByRecursion IsGood xs → begins rest ≡ false → many_at begins read (flat_map spell xs ++ rest) ≡ Some (xs, rest)
  many_again [] rest good ends = many_ends begins read rest ends
  many_again (x ∷ xs) rest good ends =
      let others = flat_map spell xs ++ rest in
      let regrouped : flat_map spell (x ∷ xs) ++ rest ≡ spell x ++ others = ap (λ (r : List Lexeme). r ++ rest) (flat_map-cons spell x xs) ∙ append_assoc (spell x) (flat_map spell xs) rest in
      let shorter : length others < length (spell x ++ others) = omega (arith, length-append (spell x) others, reads.some x) in
      ap (many_at begins read) regrouped ∙ many_next begins read (spell x ++ others) x others (reads.begun x others) (reads.again x others good.0) shorter ∙ rw (many_again xs rest good.1 ends) refl

  pub list_takes : (parts : List Lexeme) (x : List A × List Lexeme) → list_at begins read parts ≡ Some x → (parts ≡ Open ∷ (flat_map spell x.0 ++ (Close ∷ x.1))) × AllByRecursion IsGood x.0
  unfolding list_at
  list_takes parts x e =
      let a = bind_some (open_at parts) (λ rest. many_at begins read rest >>= λ xs. close_at xs.1 >>= λ others. Some (xs.0, others)) x e in
      let b = bind_some (many_at begins read a.0) (λ xs. close_at xs.1 >>= λ others. Some (xs.0, others)) x a.2 in
      let c = bind_some (close_at b.0.1) (λ others. Some (b.0.0, others)) x b.2 in
      let m = many_takes a.0 b.0 b.1 in
      let whole : parts ≡ Open ∷ (flat_map spell b.0.0 ++ (Close ∷ c.0)) =
      open_takes parts a.0 a.1 ∙ ap (λ (r : List Lexeme). Open ∷ r) (m.0 ∙ ap (λ (r : List Lexeme). flat_map spell b.0.0 ++ r) (close_takes b.0.1 c.0 c.1)) in
      subst (λ (y : List A × List Lexeme). (parts ≡ Open ∷ (flat_map spell y.0 ++ (Close ∷ y.1))) × AllByRecursion IsGood y.0) (some_is (b.0.0, c.0) x c.2) (whole, m.1)

  pub list_again : (xs : List A) (rest : List Lexeme) → AllByRecursion IsGood xs → begins (Close ∷ rest) ≡ false → list_at begins read (Open ∷ (flat_map spell xs ++ (Close ∷ rest))) ≡ Some (xs, rest)
  unfolding list_at
  list_again xs rest good ends = rw (many_again xs (Close ∷ rest) good ends) refl
