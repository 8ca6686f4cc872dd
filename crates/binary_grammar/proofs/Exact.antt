-- A reader takes from the front exactly what a spelling has, within limits.
use Rattle.std.proofs.Common.{◌≡◌, ℕ, zero, suc, ◌+◌, ◌≤◌, List, [], ◌∷◌, ◌++◌, length, Result, Ok, Err, refl, sym, ap, subst, ◌∙◌, append_assoc, arith}
use Rattle.std.specs.List.{AllByRecursion}
use Rattle.std.proofs.lemmas.List.{length-append, append-nil}
use Rattle.binary_grammar.specs.declared.fault.DecodeFault.{DecodeFault}
use Rattle.binary_grammar.specs.declared.fault.LebFault.{LebFault}
use Rattle.binary_grammar.specs.words.NumberReading.{u32_at}
use Rattle.binary_grammar.specs.words.Reading.{◌>>=◌, Reader, place, then_at, done_at, of_number, number_at, byte_at, of_byte, tagged_at, entries_at, vector_at, list_at}
use Rattle.binary_grammar.specs.Grammar.{Spelling, Then, Done, Tagged, SpellsNumber, Each, Many, SpellsVector, SpellsList}
use Rattle.binary_grammar.proofs.NumberLaws.{u32_takes, u32_again}

abbrev pub Limited : Type 0 → Type 1
Limited A = A → Type 0

abbrev pub Free : {A : Type 0} → A → Type 0
Free x = Unit {0}

pub record Taken {A : Type 0} (P : Spelling A) (W : Limited A) (end : ℕ) (bytes rest : List ℕ) (x : A) : Type 0 where
  pub text : List ℕ
  pub parts : bytes ≡ text ++ rest
  pub spells : P (place end bytes) text x
  pub within : W x

pub record Exact {A : Type 0} (r : Reader A) (P : Spelling A) (W : Limited A) : Type 0 where
  pub takes : (end : ℕ) (bytes rest : List ℕ) (x : A) → length bytes ≤ end → r end bytes ≡ Ok (x, rest) → Taken P W end bytes rest x
  pub again : (end : ℕ) (text rest : List ℕ) (x : A) → length (text ++ rest) ≤ end → P (place end (text ++ rest)) text x → W x → r end (text ++ rest) ≡ Ok (x, rest)

abbrev pub ok : {A : Type 0} → A → Result A DecodeFault
ok x = Ok x

pub ok_is : {A : Type 0} (x y : A) → ok x ≡ ok y → x ≡ y
ok_is x y e = cc

pub bind_ok : {A B : Type 0} (r : Result A DecodeFault) (f : A → Result B DecodeFault) (y : B) → (r >>= f) ≡ Ok y → (x : A) × (r ≡ Ok x) × (f x ≡ Ok y)
bind_ok (Ok x) f y e = (x, refl, e)
bind_ok (Err d) f y e = absurd cc

-- a step that took a front
pub place_after : (end : ℕ) (bytes text rest : List ℕ) → length bytes ≤ end → bytes ≡ text ++ rest → place end bytes + length text ≡ place end rest
place_after end bytes text rest le e = omega (arith, ap length e, length-append text rest)

pub shorter : (end : ℕ) (bytes text rest : List ℕ) → length bytes ≤ end → bytes ≡ text ++ rest → length rest ≤ end
shorter end bytes text rest le e = omega (arith, ap length e, length-append text rest)

-- what the parts say of the limits, of the whole
pub record Splits {A B : Type 0} (W : Limited A) (Q : A → Spelling B) (V : A → Limited B) (U : Limited B) : Type 0 where
  pub split : (x : A) (at : ℕ) (text : List ℕ) (y : B) → Q x at text y → U y → W x × V x y
  pub join : (x : A) (at : ℕ) (text : List ℕ) (y : B) → Q x at text y → W x → V x y → U y

pub exact_then : {A B : Type 0} {r : Reader A} {P : Spelling A} {W : Limited A} {s : A → Reader B} {Q : A → Spelling B} {V : A → Limited B} {U : Limited B} →
    Exact r P W → ((x : A) → Exact (s x) (Q x) (V x)) → Splits W Q V U → Exact (then_at r s) (Then P Q) U
unfolding then_at Then
exact_then {A} {B} {r} {P} {W} {s} {Q} {V} {U} er es sp = record {
  takes = λ end bytes rest y le e.
      let b = bind_ok (r end bytes) (λ x. s x.0 end x.1) (y, rest) e in
      let x = b.0.0 in
      let mid = b.0.1 in
      let t = er.takes end bytes mid x le b.1 in
      let u = (es x).takes end mid rest y (shorter end bytes t.text mid le t.parts) b.2 in
      let q : Q x (place end bytes + length t.text) u.text y = subst (λ at. Q x at u.text y) (sym (place_after end bytes t.text mid le t.parts)) u.spells in
      record {
        text = t.text ++ u.text;
        parts = t.parts ∙ ap (λ more. t.text ++ more) u.parts ∙ sym (append_assoc t.text u.text rest);
        spells = (x, t.text, u.text, refl, t.spells, q);
        within = sp.join x (place end bytes + length t.text) u.text y q t.within u.within;
      };
  again = λ end text rest y le h w.
      let x = h.0 in
      let a = h.1 in
      let b = h.2 in
      let whole : text ++ rest ≡ a ++ (b ++ rest) = ap (λ t. t ++ rest) h.3 ∙ append_assoc a b rest in
      let ws = sp.split x (place end (text ++ rest) + length a) b y h.5 w in
      let le2 : length (a ++ (b ++ rest)) ≤ end = subst (λ t. length t ≤ end) whole le in
      let pa : P (place end (a ++ (b ++ rest))) a x = subst (λ t. P (place end t) a x) whole h.4 in
      let first : r end (text ++ rest) ≡ Ok (x, b ++ rest) = ap (r end) whole ∙ er.again end a (b ++ rest) x le2 pa ws.0 in
      let le3 : length (b ++ rest) ≤ end = shorter end (text ++ rest) a (b ++ rest) le whole in
      let qb : Q x (place end (b ++ rest)) b y = subst (λ at. Q x at b y) (place_after end (text ++ rest) a (b ++ rest) le whole) h.5 in
      ap (λ v. v >>= λ z. s z.0 end z.1) first ∙ (es x).again end b rest y le3 qb ws.1;
}

pub exact_done : {A : Type 0} (x : A) → Exact (done_at x) (Done x) Free
unfolding done_at Done
exact_done {A} x = record {
  takes = λ end bytes rest y le e.
      let p = ok_is (x, bytes) (y, rest) e in
      record { text = []; parts = ap (λ (z : A × List ℕ). z.1) p; spells = (refl, sym (ap (λ (z : A × List ℕ). z.0) p)); within = tt };
  again = λ end text rest y le h w. rw (h.0, h.1) refl;
}

pub free : {A B : Type 0} {Q : A → Spelling B} → Splits Free Q (λ x. Free) Free
free = record { split = λ x at text y q u. (tt, tt); join = λ x at text y q w v. tt }

-- ---- bytes and numbers

pub number_ok : {A : Type 0} (end at : ℕ) (r : Result (A × List ℕ) LebFault) (x : A × List ℕ) → of_number end at r ≡ Ok x → r ≡ Ok x
number_ok end at (Ok y) x e = let p = ok_is y x e in ap Ok p
number_ok end at (Err f) x e = absurd cc

pub exact_number : Exact number_at SpellsNumber Free
unfolding number_at SpellsNumber
exact_number = record {
  takes = λ end bytes rest n le e.
      let k = number_ok end (place end bytes) (u32_at bytes) (n, rest) e in
      let t = u32_takes bytes (n, rest) k in
      record { text = t.text; parts = t.parts; spells = t.spells; within = tt };
  again = λ end text rest n le h w. ap (of_number end (place end (text ++ rest))) (u32_again text rest n h);
}

-- a byte was taken
pub record FirstByte (bytes : List ℕ) (b : ℕ) (rest : List ℕ) : Type 0 where
  pub is : bytes ≡ b ∷ rest

pub byte_taken : (end : ℕ) (bytes : List ℕ) (x : ℕ × List ℕ) → byte_at end bytes ≡ Ok x → FirstByte bytes x.0 x.1
unfolding byte_at
byte_taken end [] x e = absurd cc
byte_taken end (b ∷ bs) x e = subst (λ (y : ℕ × List ℕ). FirstByte (b ∷ bs) y.0 y.1) (ok_is (b, bs) x e) (record { is = refl })

pub byte_again : (end b : ℕ) (rest : List ℕ) → byte_at end (b ∷ rest) ≡ Ok (b, rest)
unfolding byte_at
byte_again end b rest = refl

-- a reader of one byte
pub exact_byte : {A : Type 0} (f : ℕ → ℕ → Result A DecodeFault) (R : ℕ → A → Type 0) →
    ((at b : ℕ) (x : A) → f at b ≡ Ok x → R b x) → ((at b : ℕ) (x : A) → R b x → f at b ≡ Ok x) →
    Exact (of_byte f) (λ at text x. (b : ℕ) × (text ≡ b ∷ []) × R b x) Free
unfolding of_byte
exact_byte {A} f R there back = record {
  takes = λ end bytes rest x le e.
      let p = bind_ok (byte_at end bytes) (λ b. f (place end bytes) b.0 >>= λ t. Ok (t, b.1)) (x, rest) e in
      let q = bind_ok (f (place end bytes) p.0.0) (λ t. Ok (t, p.0.1)) (x, rest) p.2 in
      let s = ok_is (q.0, p.0.1) (x, rest) q.2 in
      let is = (byte_taken end bytes p.0 p.1).is in
      record { text = p.0.0 ∷ []; parts = is ∙ ap (λ (z : A × List ℕ). p.0.0 ∷ z.1) s; spells = (p.0.0, refl, subst (R p.0.0) (ap (λ (z : A × List ℕ). z.0) s) (there (place end bytes) p.0.0 q.0 q.1)); within = tt };
  again = λ end text rest x le h w.
      let b = h.0 in
      rw h.1 (rw (byte_again end b rest) (rw (back (place end (b ∷ rest)) b x h.2) refl));
}

pub exact_as : {A : Type 0} {r : Reader A} {P Q : Spelling A} {W : Limited A} → Exact r P W →
    ((at : ℕ) (text : List ℕ) (x : A) → P at text x → Q at text x) → ((at : ℕ) (text : List ℕ) (x : A) → Q at text x → P at text x) → Exact r Q W
exact_as er there back = record {
  takes = λ end bytes rest x le e. let t = er.takes end bytes rest x le e in record { text = t.text; parts = t.parts; spells = there (place end bytes) t.text x t.spells; within = t.within };
  again = λ end text rest x le h w. er.again end text rest x le (back (place end (text ++ rest)) text x h) w;
}

-- a reader of what a byte lets follow
pub exact_tagged : {A : Type 0} {f : ℕ → ℕ → Reader A} {K : ℕ → Spelling A} {W : Limited A} → ((at b : ℕ) → Exact (f at b) (K b) W) → Exact (tagged_at f) (Tagged K) W
unfolding tagged_at Tagged
exact_tagged {A} {f} {K} {W} ef = record {
  takes = λ end bytes rest x le e.
      let p = bind_ok (byte_at end bytes) (λ b. f (place end bytes) b.0 end b.1) (x, rest) e in
      let b = p.0.0 in
      let bs = p.0.1 in
      let is : bytes ≡ (b ∷ []) ++ bs = (byte_taken end bytes p.0 p.1).is in
      let t = (ef (place end bytes) b).takes end bs rest x (shorter end bytes (b ∷ []) bs le is) p.2 in
      record {
        text = b ∷ t.text;
        parts = is ∙ ap (λ more. b ∷ more) t.parts;
        spells = (b, t.text, refl, subst (λ at. K b at t.text x) (sym (place_after end bytes (b ∷ []) bs le is)) t.spells);
        within = t.within;
      };
  again = λ end text rest x le h w.
      let b = h.0 in
      let u = h.1 in
      let whole : text ++ rest ≡ (b ∷ []) ++ (u ++ rest) = ap (λ t. t ++ rest) h.2 in
      let k : K b (place end (u ++ rest)) u x = subst (λ at. K b at u x) (place_after end (text ++ rest) (b ∷ []) (u ++ rest) le whole) h.3 in
      let le2 : length (u ++ rest) ≤ end = shorter end (text ++ rest) (b ∷ []) (u ++ rest) le whole in
      let first : byte_at end (text ++ rest) ≡ Ok (b, u ++ rest) = ap (byte_at end) whole ∙ byte_again end b (u ++ rest) in
      ap (λ v. v >>= λ z. f (place end (text ++ rest)) z.0 end z.1) first ∙ (ef (place end (text ++ rest)) b).again end u rest x le2 k w;
}

-- a value put into another
pub exact_map : {A B : Type 0} {r : Reader A} {P : Spelling A} (f : A → B) → Exact r P Free → Exact (then_at r (λ x. done_at (f x))) (λ at text y. (x : A) × P at text x × (y ≡ f x)) Free
unfolding Then Done
exact_map {A} {B} {r} {P} f er =
    exact_as (exact_then er (λ x. exact_done (f x)) free)
    (λ at text y h. (h.0, subst (λ t. P at t h.0) (sym (h.3 ∙ ap (λ t. h.1 ++ t) h.5.0 ∙ append-nil h.1)) h.4, h.5.1))
    (λ at text y h. (h.0, text, [], sym (append-nil text), h.1, (refl, h.2)))

-- ---- entries

abbrev pub AllIn : {A : Type 0} → Limited A → Limited (List A × List ℕ)
AllIn W x = AllByRecursion W x.0

abbrev none : {A : Type 0} → List A
none = []

abbrev nothing : {A : Type 0} → List ℕ → (List A × List ℕ) × List ℕ
nothing bytes = ((none, none), bytes)

none_taken : {A : Type 0} (P : Spelling A) (W : Limited A) (end : ℕ) (bytes rest : List ℕ) (y : List A × List ℕ) → ok (nothing {A = A} bytes) ≡ ok (y, rest) → Taken (Many P 0) (AllIn W) end bytes rest y
unfolding Many
none_taken {A} P W end bytes rest y e =
    let p = ok_is (nothing {A = A} bytes) (y, rest) e in
    subst (λ (z : (List A × List ℕ) × List ℕ). Taken (Many P 0) (AllIn W) end bytes z.1 z.0) p (record { text = []; parts = refl; spells = (refl, refl); within = tt })

entries_take : {A : Type 0} (r : Reader A) (P : Spelling A) (W : Limited A) → Exact r P W → (n end : ℕ) (bytes rest : List ℕ) (y : List A × List ℕ) → length bytes ≤ end →
    entries_at r n end bytes ≡ Ok (y, rest) → Taken (Many P n) (AllIn W) end bytes rest y
unfolding entries_at Many
entries_take r P W er zero end bytes rest y le e = none_taken P W end bytes rest y e
entries_take {A} r P W er (suc n) end bytes rest y le e =
    let b = bind_ok (r end bytes) (λ x. entries_at r n end x.1 >>= λ xs. Ok ((x.0 ∷ xs.0.0, place end bytes ∷ xs.0.1), xs.1)) (y, rest) e in
    let c = bind_ok (entries_at r n end b.0.1) (λ xs. Ok ((b.0.0 ∷ xs.0.0, place end bytes ∷ xs.0.1), xs.1)) (y, rest) b.2 in
    let t = er.takes end bytes b.0.1 b.0.0 le b.1 in
    let u = entries_take r P W er n end b.0.1 c.0.1 c.0.0 (shorter end bytes t.text b.0.1 le t.parts) c.1 in
    let p = ok_is ((b.0.0 ∷ c.0.0.0, place end bytes ∷ c.0.0.1), c.0.1) (y, rest) c.2 in
    let each : Each P (place end bytes + length t.text) u.text c.0.0 = subst (λ at. Each P at u.text c.0.0) (sym (place_after end bytes t.text b.0.1 le t.parts)) u.spells.1 in
    subst (λ (z : (List A × List ℕ) × List ℕ). Taken (Many P (suc n)) (AllIn W) end bytes z.1 z.0) p (record {
      text = t.text ++ u.text;
      parts = t.parts ∙ ap (λ more. t.text ++ more) u.parts ∙ sym (append_assoc t.text u.text c.0.1);
      spells = (ap suc u.spells.0, (refl, t.text, u.text, refl, t.spells, each));
      within = (t.within, u.within);
    })

entries_again : {A : Type 0} (r : Reader A) (P : Spelling A) (W : Limited A) → Exact r P W → (n end : ℕ) (text rest : List ℕ) (y : List A × List ℕ) → length (text ++ rest) ≤ end →
    Many P n (place end (text ++ rest)) text y → AllIn W y → entries_at r n end (text ++ rest) ≡ Ok (y, rest)
unfolding entries_at Many
entries_again r P W er zero end text rest ([], []) le h w = rw h.1 refl
entries_again r P W er zero end text rest (x ∷ xs, ps) le h w = absurd (omega (arith, h.0))
entries_again r P W er zero end text rest ([], p ∷ ps) le h w = absurd h.1
entries_again r P W er (suc n) end text rest ([], ps) le h w = absurd (omega (arith, h.0))
entries_again r P W er (suc n) end text rest (x ∷ xs, []) le h w = absurd h.1
entries_again r P W er (suc n) end text rest (x ∷ xs, p ∷ ps) le h w =
    let a = h.1.1 in
    let b = h.1.2 in
    let whole : text ++ rest ≡ a ++ (b ++ rest) = ap (λ t. t ++ rest) h.1.3 ∙ append_assoc a b rest in
    let pa : P (place end (a ++ (b ++ rest))) a x = subst (λ t. P (place end t) a x) whole h.1.4 in
    let first : r end (text ++ rest) ≡ Ok (x, b ++ rest) = ap (r end) whole ∙ er.again end a (b ++ rest) x (subst (λ t. length t ≤ end) whole le) pa w.0 in
    let each : Each P (place end (b ++ rest)) b (xs, ps) = subst (λ at. Each P at b (xs, ps)) (place_after end (text ++ rest) a (b ++ rest) le whole) h.1.5 in
    let others = entries_again r P W er n end b rest (xs, ps) (shorter end (text ++ rest) a (b ++ rest) le whole) (omega (arith, h.0), each) w.1 in
    rw (first, others) (ap (λ q. Ok ((x ∷ xs, q ∷ ps), rest)) (sym h.1.0))

pub exact_entries : {A : Type 0} {r : Reader A} {P : Spelling A} {W : Limited A} → Exact r P W → (n : ℕ) → Exact (entries_at r n) (Many P n) (AllIn W)
exact_entries {A} {r} {P} {W} er n = record { takes = entries_take r P W er n; again = entries_again r P W er n }

pub exact_vector : {A : Type 0} {r : Reader A} {P : Spelling A} {W : Limited A} → Exact r P W → Exact (vector_at r) (SpellsVector P) (AllIn W)
unfolding vector_at SpellsVector
exact_vector er = exact_then exact_number (exact_entries er) (record { split = λ x at text y q u. (tt, u); join = λ x at text y q w v. v })

pub exact_list : {A : Type 0} {r : Reader A} {P : Spelling A} {W : Limited A} → Exact r P W → Exact (list_at r) (SpellsList P) (AllByRecursion W)
unfolding list_at SpellsList Done
exact_list {A} {r} {P} {W} er = exact_then (exact_vector er) (λ x. exact_done x.0) (record {
  split = λ x at text y q u. (subst (AllByRecursion W) q.1 u, tt);
  join = λ x at text y q w v. subst (AllByRecursion W) (sym q.1) w;
})
