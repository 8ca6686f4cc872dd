-- What is read as a number is spelled so, and what is spelled so is read.
use Rattle.std.proofs.Common.{◌≡◌, ℕ, zero, suc, ◌+◌, ◌*◌, ◌%◌, ◌^◌, ◌-◌, ◌<◌, ◌≤◌, Bool, true, false, cond, ltb, List, [], ◌∷◌, ◌++◌, length, Result, Ok, Err, ◌⊎◌, inl, inr, refl, sym, ap, subst, ◌∙◌, arith, ℤ, pos, negsuc}
use Rattle.std.specs.Prelude.{FitsSigned}
use Rattle.std.specs.Int.{Width, w32, w64}
use mir.Val.{hbits}
use Rattle.std.proofs.lemmas.Bool.{ltb-true, ltb-false, lt-ltb, le-ltb}
use Rattle.std.proofs.lemmas.List.{length-append}
use Rattle.binary_grammar.specs.declared.fault.LebFault.{LebFault}
use Rattle.binary_grammar.specs.declared.fault.LebFault.TheVariants.{End, Number}
use Rattle.binary_grammar.specs.Numbers.{AreDigits, AreOpen, EndsInside, IsFound, ReadsNumber, base_128, twos_complement, SpellsU32, SpellsSigned, SpellsS32, SpellsS64}
use Rattle.binary_grammar.specs.words.NumberReading.{further, digits_at, then_small, u32_at, is_within, then_signed, s32_at, s64_at, placed}

pub chosen : {A : Type 0} (b : Bool) (x y z : A) → cond b x y ≡ z → ((b ≡ true) × (x ≡ z)) ⊎ ((b ≡ false) × (y ≡ z))
chosen true x y z e = inl (refl, e)
chosen false x y z e = inr (refl, e)

-- digits that were taken from a front
pub record Takes (most : ℕ) (bytes : List ℕ) (x : ℕ × ℕ × List ℕ) : Type 0 where
  pub text : List ℕ
  pub parts : bytes ≡ text ++ x.2
  pub are : AreDigits text
  pub few : length text ≤ most
  pub value : x.0 ≡ base_128 text
  pub len : x.1 ≡ length text

abbrev Taken : Type 0
Taken = ℕ × ℕ × List ℕ

abbrev ok : {A : Type 0} → A → Result A LebFault
ok x = Ok x

pub ok_is : {A : Type 0} (x y : A) → ok x ≡ ok y → x ≡ y
ok_is x y e = cc

takes-last : (most b : ℕ) (bs : List ℕ) (x : Taken) → b < 128 → ok (b, 1, bs) ≡ ok x → Takes (suc most) (b ∷ bs) x
takes-last most b bs x lt e =
    subst (Takes (suc most) (b ∷ bs)) (ok_is (b, 1, bs) x e) (record { text = b ∷ []; parts = refl; are = lt; few = omega arith; value = omega arith; len = refl })

digits-cons : (b : ℕ) (text : List ℕ) → 128 ≤ b → AreDigits text → AreDigits (b ∷ text)
digits-cons b [] le h = absurd h
digits-cons b (c ∷ cs) le h = (le, h)

takes-more : (most b : ℕ) (bs : List ℕ) (r : Result Taken LebFault) (x : Taken) → 128 ≤ b → further b r ≡ Ok x → ((y : Taken) → r ≡ Ok y → Takes most bs y) → Takes (suc most) (b ∷ bs) x
takes-more most b bs (Err f) x le e ih = absurd cc
takes-more most b bs (Ok y) x le e ih =
    let t = ih y refl in
    subst (Takes (suc most) (b ∷ bs)) (ok_is (b % 128 + 128 * y.0, y.1 + 1, y.2) x e)
    (record { text = b ∷ t.text; parts = ap (λ cs. b ∷ cs) t.parts; are = digits-cons b t.text le t.are; few = omega (arith, t.few); value = ap (λ n. b % 128 + 128 * n) t.value; len = omega (arith, t.len) })

pub digits_takes : (most : ℕ) (bytes : List ℕ) (x : Taken) → digits_at most bytes ≡ Ok x → Takes most bytes x
unfolding digits_at
digits_takes zero bytes x e = absurd cc
digits_takes (suc most) [] x e = absurd cc
digits_takes (suc most) (b ∷ bs) x e =
    elim (chosen (ltb b 128) (Ok (b, 1, bs)) (further b (digits_at most bs)) (Ok x) e) [
      | inl h ↦ takes-last most b bs x (ltb-true b 128 h.0) h.1
      | inr h ↦ takes-more most b bs (digits_at most bs) x (ltb-false b 128 h.0) h.1 (digits_takes most bs)
    ]

pub digits_again : (most : ℕ) (text rest : List ℕ) → AreDigits text → length text ≤ most → digits_at most (text ++ rest) ≡ Ok (base_128 text, length text, rest)
unfolding digits_at
digits_again most [] rest h le = absurd h
digits_again zero (b ∷ bs) rest h le = absurd (omega arith)
digits_again (suc most) (b ∷ []) rest h le =
    let e : b ≡ b % 128 + 128 * 0 = omega arith in
    rw (lt-ltb b 128 h) (ap (λ n. Ok (n, 1, rest)) e)
digits_again (suc most) (b ∷ c ∷ bs) rest h le =
    let ih = digits_again most (c ∷ bs) rest h.1 (omega arith) in
    let n : length (c ∷ bs) + 1 ≡ length (b ∷ c ∷ bs) = omega arith in
    rw (le-ltb b 128 h.0, ih) (ap (λ k. Ok (base_128 (b ∷ c ∷ bs), k, rest)) n)

ends-more : (most b : ℕ) (bs : List ℕ) (r : Result Taken LebFault) → 128 ≤ b → further b r ≡ Err End → (r ≡ Err End → EndsInside most bs) → EndsInside (suc most) (b ∷ bs)
ends-more most b bs (Ok y) le e ih = absurd cc
ends-more most b bs (Err f) le e ih = let t = ih e in ((le, t.0), omega (arith, t.1))

pub digits_end : (most : ℕ) (bytes : List ℕ) → digits_at most bytes ≡ Err End → EndsInside most bytes
unfolding digits_at
digits_end zero bytes e = absurd cc
digits_end (suc most) [] e = (tt, omega arith)
digits_end (suc most) (b ∷ bs) e =
    elim (chosen (ltb b 128) (Ok (b, 1, bs)) (further b (digits_at most bs)) (Err End) e) [
      | inl h ↦ absurd (let k = h.1 in cc)
      | inr h ↦ ends-more most b bs (digits_at most bs) (ltb-false b 128 h.0) h.1 (digits_end most bs)
    ]

pub end_again : (most : ℕ) (bytes : List ℕ) → EndsInside most bytes → digits_at most bytes ≡ Err End
unfolding digits_at
end_again zero bytes h = absurd (omega (arith, h.1))
end_again (suc most) [] h = refl
end_again (suc most) (b ∷ bs) h = let ih = end_again most bs (h.0.1, omega (arith, h.1)) in rw (le-ltb b 128 h.0.0, ih) refl

-- so many bytes of a front do not end a number
pub record IsTooLong (most : ℕ) (bytes : List ℕ) : Type 0 where
  pub front : List ℕ
  pub rest : List ℕ
  pub parts : bytes ≡ front ++ rest
  pub are : AreOpen front
  pub many : length front ≡ most

number-more : (most b : ℕ) (bs : List ℕ) (r : Result Taken LebFault) → 128 ≤ b → further b r ≡ Err Number → (r ≡ Err Number → IsTooLong most bs) → IsTooLong (suc most) (b ∷ bs)
number-more most b bs (Ok y) le e ih = absurd cc
number-more most b bs (Err f) le e ih =
    let t = ih e in record { front = b ∷ t.front; rest = t.rest; parts = ap (λ cs. b ∷ cs) t.parts; are = (le, t.are); many = ap suc t.many }

pub digits_number : (most : ℕ) (bytes : List ℕ) → digits_at most bytes ≡ Err Number → IsTooLong most bytes
unfolding digits_at
digits_number zero bytes e = record { front = []; rest = bytes; parts = refl; are = tt; many = refl }
digits_number (suc most) [] e = absurd cc
digits_number (suc most) (b ∷ bs) e =
    elim (chosen (ltb b 128) (Ok (b, 1, bs)) (further b (digits_at most bs)) (Err Number) e) [
      | inl h ↦ absurd (let k = h.1 in cc)
      | inr h ↦ number-more most b bs (digits_at most bs) (ltb-false b 128 h.0) h.1 (digits_number most bs)
    ]

pub number_again : (most : ℕ) (front rest : List ℕ) → AreOpen front → length front ≡ most → digits_at most (front ++ rest) ≡ Err Number
unfolding digits_at
number_again zero [] rest h e = refl
number_again zero (b ∷ bs) rest h e = absurd (omega arith)
number_again (suc most) [] rest h e = absurd (omega arith)
number_again (suc most) (b ∷ bs) rest h e = let ih = number_again most bs rest h.1 (omega arith) in rw (le-ltb b 128 h.0, ih) refl

-- ---- u32

pub record TakesU32 (bytes : List ℕ) (x : ℕ × List ℕ) : Type 0 where
  pub text : List ℕ
  pub parts : bytes ≡ text ++ x.1
  pub spells : SpellsU32 text x.0

small-takes : (bytes : List ℕ) (r : Result Taken LebFault) (x : ℕ × List ℕ) → digits_at 5 bytes ≡ r → then_small r ≡ ok x → TakesU32 bytes x
small-takes bytes (Err f) x d e = absurd cc
small-takes bytes (Ok y) x d e =
    let t = digits_takes 5 bytes y d in
    elim (chosen (ltb y.0 (2 ^ 32)) (ok (y.0, y.2)) (Err Number) (Ok x) e) [
      | inl h ↦ subst (TakesU32 bytes) (ok_is (y.0, y.2) x h.1) (record { text = t.text; parts = t.parts; spells = (t.are, t.few, sym t.value, ltb-true y.0 (2 ^ 32) h.0) })
      | inr h ↦ absurd (let k = h.1 in cc)
    ]

pub u32_takes : (bytes : List ℕ) (x : ℕ × List ℕ) → u32_at bytes ≡ Ok x → TakesU32 bytes x
unfolding u32_at
u32_takes bytes x e = small-takes bytes (digits_at 5 bytes) x refl e

pub u32_again : (text rest : List ℕ) (n : ℕ) → SpellsU32 text n → u32_at (text ++ rest) ≡ Ok (n, rest)
unfolding u32_at
u32_again text rest n h =
    let lt : base_128 text < 2 ^ 32 = rw h.2 h.3 in
    rw (digits_again 5 text rest h.0 h.1, lt-ltb (base_128 text) (2 ^ 32) lt) (ap (λ k. Ok (k, rest)) h.2)

-- ---- signed numbers

pub within-fits : (w : Width) (z : ℤ) → is_within (hbits w) z ≡ true → FitsSigned w z
within-fits w (pos n) e = record { sfits = ltb-true n (2 ^ hbits w) e }
within-fits w (negsuc n) e = record { sfits = ltb-true n (2 ^ hbits w) e }

pub fits-within : (w : Width) (z : ℤ) → FitsSigned w z → is_within (hbits w) z ≡ true
fits-within w (pos n) h = lt-ltb n (2 ^ hbits w) h.sfits
fits-within w (negsuc n) h = lt-ltb n (2 ^ hbits w) h.sfits

pub record TakesSigned (w : Width) (most : ℕ) (bytes : List ℕ) (x : ℤ × List ℕ) : Type 0 where
  pub text : List ℕ
  pub parts : bytes ≡ text ++ x.1
  pub spells : SpellsSigned w most text x.0

same_twos : (a b c d : ℕ) → a ≡ c → b ≡ d → twos_complement (7 * c) d ≡ twos_complement (7 * a) b
same_twos a b c d e f = rw (e, f) refl

signed-takes : (w : Width) (most : ℕ) (bytes : List ℕ) (r : Result Taken LebFault) (x : ℤ × List ℕ) → digits_at most bytes ≡ r → then_signed (hbits w) r ≡ ok x → TakesSigned w most bytes x
signed-takes w most bytes (Err f) x d e = absurd cc
signed-takes w most bytes (Ok y) x d e =
    let t = digits_takes most bytes y d in
    let z = twos_complement (7 * y.1) y.0 in
    let same : twos_complement (7 * length t.text) (base_128 t.text) ≡ z = same_twos y.1 y.0 (length t.text) (base_128 t.text) t.len t.value in
    elim (chosen (is_within (hbits w) z) (ok (z, y.2)) (Err Number) (Ok x) e) [
      | inl h ↦ subst (TakesSigned w most bytes) (ok_is (z, y.2) x h.1) (record { text = t.text; parts = t.parts; spells = (t.are, t.few, same, within-fits w z h.0) })
      | inr h ↦ absurd (let k = h.1 in cc)
    ]

signed-again : (w : Width) (most : ℕ) (text rest : List ℕ) (z : ℤ) → SpellsSigned w most text z → then_signed (hbits w) (digits_at most (text ++ rest)) ≡ ok (z, rest)
signed-again w most text rest z h =
    let v = twos_complement (7 * length text) (base_128 text) in
    let f : is_within (hbits w) v ≡ true = rw h.2 (fits-within w z h.3) in
    rw (digits_again most text rest h.0 h.1, f) (ap (λ k. Ok (k, rest)) h.2)

pub s32_takes : (bytes : List ℕ) (x : ℤ × List ℕ) → s32_at bytes ≡ Ok x → TakesSigned w32 5 bytes x
unfolding s32_at
s32_takes bytes x e = signed-takes w32 5 bytes (digits_at 5 bytes) x refl e

pub s32_again : (text rest : List ℕ) (z : ℤ) → SpellsS32 text z → s32_at (text ++ rest) ≡ Ok (z, rest)
unfolding s32_at
s32_again text rest z h = signed-again w32 5 text rest z h

pub s64_takes : (bytes : List ℕ) (x : ℤ × List ℕ) → s64_at bytes ≡ Ok x → TakesSigned w64 10 bytes x
unfolding s64_at
s64_takes bytes x e = signed-takes w64 10 bytes (digits_at 10 bytes) x refl e

pub s64_again : (text rest : List ℕ) (z : ℤ) → SpellsS64 text z → s64_at (text ++ rest) ≡ Ok (z, rest)
unfolding s64_at
s64_again text rest z h = signed-again w64 10 text rest z h

-- ---- faults

abbrev pub no_end : {A : Type 0} → Result A LebFault
no_end = Err End

small-end : (bytes : List ℕ) (r : Result Taken LebFault) → digits_at 5 bytes ≡ r → then_small r ≡ Err End → EndsInside 5 bytes
small-end bytes (Err f) d e = digits_end 5 bytes (let k : Err f ≡ no_end {A = Taken} = cc in d ∙ k)
small-end bytes (Ok y) d e =
    elim (chosen (ltb y.0 (2 ^ 32)) (ok (y.0, y.2)) (Err Number) (Err End) e) [
      | inl h ↦ absurd (let k = h.1 in cc)
      | inr h ↦ absurd (let k = h.1 in cc)
    ]

pub u32_end : (bytes : List ℕ) → u32_at bytes ≡ Err End → EndsInside 5 bytes
unfolding u32_at
u32_end bytes e = small-end bytes (digits_at 5 bytes) refl e

pub u32_ends : (bytes : List ℕ) → EndsInside 5 bytes → u32_at bytes ≡ Err End
unfolding u32_at
u32_ends bytes h = rw (end_again 5 bytes h) refl

signed-end : (h most : ℕ) (bytes : List ℕ) (r : Result Taken LebFault) → digits_at most bytes ≡ r → then_signed h r ≡ Err End → EndsInside most bytes
signed-end h most bytes (Err f) d e = digits_end most bytes (let k : Err f ≡ no_end {A = Taken} = cc in d ∙ k)
signed-end h most bytes (Ok y) d e =
    let z = twos_complement (7 * y.1) y.0 in
    elim (chosen (is_within h z) (ok (z, y.2)) (Err Number) (Err End) e) [
      | inl g ↦ absurd (let k = g.1 in cc)
      | inr g ↦ absurd (let k = g.1 in cc)
    ]

pub s32_end : (bytes : List ℕ) → s32_at bytes ≡ Err End → EndsInside 5 bytes
unfolding s32_at
s32_end bytes e = signed-end 31 5 bytes (digits_at 5 bytes) refl e

pub s32_ends : (bytes : List ℕ) → EndsInside 5 bytes → s32_at bytes ≡ Err End
unfolding s32_at
s32_ends bytes h = rw (end_again 5 bytes h) refl

pub s64_end : (bytes : List ℕ) → s64_at bytes ≡ Err End → EndsInside 10 bytes
unfolding s64_at
s64_end bytes e = signed-end 63 10 bytes (digits_at 10 bytes) refl e

pub s64_ends : (bytes : List ℕ) → EndsInside 10 bytes → s64_at bytes ≡ Err End
unfolding s64_at
s64_ends bytes h = rw (end_again 10 bytes h) refl

-- ---- whole answers

-- a reader of numbers that takes from a front exactly what is spelled so
pub record IsReader {A : Type 0} (r : List ℕ → Result (A × List ℕ) LebFault) (Spells : List ℕ → A → Type 0) (most : ℕ) : Type 0 where
  pub takes : (bytes : List ℕ) (x : A × List ℕ) → r bytes ≡ Ok x → (text : List ℕ) × (bytes ≡ text ++ x.1) × Spells text x.0
  pub again : (text rest : List ℕ) (x : A) → Spells text x → r (text ++ rest) ≡ Ok (x, rest)
  pub end : (bytes : List ℕ) → r bytes ≡ Err End → EndsInside most bytes
  pub ends : (bytes : List ℕ) → EndsInside most bytes → r bytes ≡ Err End

pub reads_u32 : IsReader u32_at SpellsU32 5
reads_u32 = record {
  takes = λ bytes x e. let t = u32_takes bytes x e in (t.text, t.parts, t.spells);
  again = u32_again;
  end = u32_end;
  ends = u32_ends;
}

pub reads_s32 : IsReader s32_at SpellsS32 5
reads_s32 = record {
  takes = λ bytes x e. let t = s32_takes bytes x e in (t.text, t.parts, t.spells);
  again = s32_again;
  end = s32_end;
  ends = s32_ends;
}

pub reads_s64 : IsReader s64_at SpellsS64 10
reads_s64 = record {
  takes = λ bytes x e. let t = s64_takes bytes x e in (t.text, t.parts, t.spells);
  again = s64_again;
  end = s64_end;
  ends = s64_ends;
}

-- the place behind what was taken of a text between two places
behind : (front rest : List ℕ) (from to n : ℕ) → n ≡ to - from → from ≤ to → n ≡ length (front ++ rest) → to - length rest ≡ from + length front
behind front rest from to n e le l = omega (arith, length-append front rest)

pub found : {A : Type 0} (r : List ℕ → Result (A × List ℕ) LebFault) (Spells : List ℕ → A → Type 0) (most : ℕ) → IsReader r Spells most →
    (text : List ℕ) (from to : ℕ) (x : A) (rest : List ℕ) → from ≤ to → length text ≡ to - from → r text ≡ Ok (x, rest) → IsFound Spells text from (x, to - length rest)
found r Spells most reads text from to x rest le len e =
    let t = reads.takes text (x, rest) e in
    (t.0, rest, t.1, t.2, behind t.0 rest from to (length text) len le (ap length t.1))

pub missed : {A : Type 0} (r : List ℕ → Result (A × List ℕ) LebFault) (Spells : List ℕ → A → Type 0) (most : ℕ) → IsReader r Spells most →
    (text : List ℕ) (from : ℕ) (f : LebFault) → r text ≡ Err f → ReadsNumber Spells most text from (Err f)
missed r Spells most reads text from End e = reads.end text e
missed {A} r Spells most reads text from Number e = (
  λ front rest x p s. let k : r text ≡ Ok (x, rest) = ap r p ∙ reads.again front rest x s in absurd cc,
  λ h. let k = reads.ends text h in absurd cc,
)

-- what a front spells is read
pub spelled : {A : Type 0} (r : List ℕ → Result (A × List ℕ) LebFault) (Spells : List ℕ → A → Type 0) (most : ℕ) → IsReader r Spells most →
    (text front rest : List ℕ) (x : A) → text ≡ front ++ rest → Spells front x → r text ≡ Ok (x, rest)
spelled r Spells most reads text front rest x p s = ap r p ∙ reads.again front rest x s

-- ---- answers with places

by_case : {A : Type 0} (r : List ℕ → Result (A × List ℕ) LebFault) (Spells : List ℕ → A → Type 0) (most : ℕ) → IsReader r Spells most →
    (text : List ℕ) (from to : ℕ) (v : Result (A × List ℕ) LebFault) → from ≤ to → length text ≡ to - from → r text ≡ v → ReadsNumber Spells most text from (placed to v)
by_case r Spells most reads text from to (Ok x) le len e = found r Spells most reads text from to x.0 x.1 le len e
by_case r Spells most reads text from to (Err f) le len e = missed r Spells most reads text from f e

pub reads_placed : {A : Type 0} (r : List ℕ → Result (A × List ℕ) LebFault) (Spells : List ℕ → A → Type 0) (most : ℕ) → IsReader r Spells most →
    (text : List ℕ) (from to : ℕ) → from ≤ to → length text ≡ to - from → ReadsNumber Spells most text from (placed to (r text))
reads_placed r Spells most reads text from to le len = by_case r Spells most reads text from to (r text) le len refl

pub spelled_placed : {A : Type 0} (r : List ℕ → Result (A × List ℕ) LebFault) (Spells : List ℕ → A → Type 0) (most : ℕ) → IsReader r Spells most →
    (text : List ℕ) (from to : ℕ) → from ≤ to → length text ≡ to - from → (front rest : List ℕ) (x : A) → text ≡ front ++ rest → Spells front x → placed to (r text) ≡ Ok (x, from + length front)
spelled_placed r Spells most reads text from to le len front rest x p s =
    ap (placed to) (spelled r Spells most reads text front rest x p s) ∙ ap (λ n. Ok (x, n)) (behind front rest from to (length text) len le (ap length p))

pub ends_placed : {A : Type 0} (r : List ℕ → Result (A × List ℕ) LebFault) (Spells : List ℕ → A → Type 0) (most : ℕ) → IsReader r Spells most →
    (text : List ℕ) (to : ℕ) → EndsInside most text → placed to (r text) ≡ Err End
ends_placed r Spells most reads text to h = ap (placed to) (reads.ends text h)
