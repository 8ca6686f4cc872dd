-- What is read is spelled so: from what reading gives, backwards over each byte.
use Rattle.std.proofs.Common.{◌≡◌, ℕ, zero, suc, ◌+◌, ◌*◌, ◌/◌, ◌%◌, ◌<◌, Bool, true, false, cond, eqb, ltb, ◌⊎◌, inl, inr, ⊎_elim, List, [], ◌∷◌, ◌++◌, length, Result, Ok, Err, refl, sym, ap, ◌∙◌, subst, append_assoc, length-append, arith}
use Rattle.std.proofs.lemmas.Bool.{eqb-true, eqb-false}
use Rattle.std.proofs.lemmas.Bool.Decides.{nat_tests}
use Rattle.std.proofs.lemmas.List.{append-nil}
use Rattle.std.proofs.lemmas.Str.{IsUtf8-from_is_utf8}
use Rattle.std.specs.Char.{digit_char}
use Rattle.std.specs.List.{flat_map}
use Rattle.std.specs.Str.{is_utf8, IsUtf8}
use Rattle.sexp_text.specs.declared.fault.TextFault.{TextFault}
use Rattle.sexp_text.specs.declared.fault.TextFault.TheVariants.{Limit}
use Rattle.sexp_text.specs.declared.fault.TextWord.TheVariants as word
use Rattle.wasm_values.specs.declared.limit.LimitWord.TheVariants.{Nesting}
use Rattle.sexp_text.specs.declared.reader.Mode.{Mode}
use Rattle.sexp_text.specs.declared.reader.Mode.TheVariants.{Between, Comment, Run, Quoted, Escape, Digit}
use Rattle.sexp_text.specs.Bytes.{is_white, is_run, is_plain, is_hex, hex_value}
use Rattle.sexp_text.specs.declared.sexp.Sexp.{Sexp}
use Rattle.sexp_text.specs.Items.{Item, Open, Close, Number, Name, Quote, items_of}
use Rattle.sexp_text.specs.Reading.{◌>>=◌, refused, Front, Before, Inside, After, opened, closed, begun, added, with_mode, with_items, between, in_string, begins_escape, first_digit, second_digit, run_items, string_items, step, finish, read_from, read}
use Rattle.sexp_text.specs.Spelling.{Gap, nothing, white, comment, IsLine, string_byte, quoted, Marks, StandsAt, StandsApart, Spelled, SexpSpells}
use Rattle.sexp_text.proofs.ByteLemmas.{begins_escape-hex}
use Rattle.sexp_text.proofs.NumberLemmas.{run_writes}
use Rattle.sexp_text.proofs.PutLemmas.{put, puts, bound, whole_fits}

-- the item begins at this place, and is a number or a word
abbrev BeginsAt : ℕ → Item → Type 0
BeginsAt from (Number at z) = at ≡ from
BeginsAt from (Name at w) = at ≡ from
BeginsAt from (Open at) = ⊥
BeginsAt from (Close at) = ⊥
BeginsAt from (Quote at s) = ⊥

-- what is left of a text spells these items, where it begins in the middle of something
abbrev SpelledIn : ℕ → Mode → List ℕ → List Item → Type 0
SpelledIn n Between text xs = Spelled n text xs
SpelledIn n Comment text xs =
    ((line rest : List ℕ) × (text ≡ line ++ 10 ∷ rest) × IsLine line × Spelled n rest xs) ⊎ (IsLine text × (xs ≡ []))
SpelledIn n (Run from run) text xs =
    (more rest : List ℕ) × (x : Item) × (others : List Item) × (xs ≡ x ∷ others) × (text ≡ more ++ rest) × BeginsAt from x × Marks x (run ++ more) × StandsApart x rest × Spelled n rest others
SpelledIn n (Quoted from bytes) text xs =
    (more rest : List ℕ) × (others : List Item) × (xs ≡ Quote from (bytes ++ more) ∷ others) × (text ≡ flat_map string_byte more ++ 34 ∷ rest) × IsUtf8 (bytes ++ more) × Spelled n rest others
SpelledIn n (Escape from bytes) text xs =
    (b : ℕ) × (more rest : List ℕ) × (others : List Item) × (xs ≡ Quote from (bytes ++ b ∷ more) ∷ others) ×
    (text ≡ digit_char (b / 16) ∷ digit_char (b % 16) ∷ (flat_map string_byte more ++ 34 ∷ rest)) × (is_plain b ≡ false) × IsUtf8 (bytes ++ b ∷ more) × Spelled n rest others
SpelledIn n (Digit from bytes high) text xs =
    (b : ℕ) × (more rest : List ℕ) × (others : List Item) × (xs ≡ Quote from (bytes ++ b ∷ more) ∷ others) ×
    (text ≡ digit_char (b % 16) ∷ (flat_map string_byte more ++ 34 ∷ rest)) × (b / 16 ≡ high) × (is_plain b ≡ false) × IsUtf8 (bytes ++ b ∷ more) × Spelled n rest others

-- what is left spells items that make the whole of what was read
abbrev Goes : ℕ → List ℕ → Front → Mode → List Item → Type 0
Goes n text front mode all = (xs : List Item) × (puts xs front ≡ Ok (After all)) × SpelledIn n mode text xs

abbrev pub IsInside : Front → Type 0
IsInside front = (items : List Item) × (k : ℕ) × (front ≡ Inside items k)

-- runs and strings stand in lists, and a run that is begun has a byte
abbrev HoldsIn : Mode → Front → Type 0
HoldsIn Between front = Unit {0}
HoldsIn Comment front = Unit {0}
HoldsIn (Run from run) front = IsInside front × (0 < length run)
HoldsIn (Quoted from bytes) front = IsInside front
HoldsIn (Escape from bytes) front = IsInside front
HoldsIn (Digit from bytes high) front = IsInside front

-- what holds after a byte, from what holds before it, and backwards
abbrev Back : ℕ → ℕ → List ℕ → Front → Mode → List Item → Front × Mode → Type 0
Back n b bs front mode all next = HoldsIn next.1 next.0 × (Goes n bs next.0 next.1 all → Goes n (b ∷ bs) front mode all)

-- gaps that grow at their front

pub white_more : (n b : ℕ) (bs : List ℕ) (xs : List Item) → is_white b ≡ true → Spelled n bs xs → Spelled n (b ∷ bs) xs
white_more n b bs [] h s =
    ⊎_elim (λ g. inl (white h g)) (λ g. inr (b ∷ g.0, g.1, ap (λ cs. b ∷ cs) g.2, white h g.3, g.4)) s
white_more n b bs (x ∷ xs) h s = (b ∷ s.0, s.1, s.2, ap (λ cs. b ∷ cs) s.3, white h s.4, s.5, s.6, s.7, s.8)

comment_more : (n : ℕ) (line rest bs : List ℕ) (xs : List Item) → bs ≡ line ++ 10 ∷ rest → IsLine line → Spelled n rest xs → Spelled n (59 ∷ bs) xs
comment_more n line rest bs [] e h s =
    ⊎_elim
    (λ g. inl (subst (λ cs. Gap (59 ∷ cs)) (sym e) (comment line h g)))
    (λ g. inr (
      59 ∷ (line ++ 10 ∷ g.0),
      g.1,
      ap (λ cs. 59 ∷ cs) (e ∙ ap (λ cs. line ++ 10 ∷ cs) g.2 ∙ sym (append_assoc line (10 ∷ g.0) (59 ∷ g.1))),
      comment line h g.3,
      g.4,
    ))
    s
comment_more n line rest bs (x ∷ xs) e h s = (
  59 ∷ (line ++ 10 ∷ s.0),
  s.1,
  s.2,
  ap (λ cs. 59 ∷ cs) (e ∙ ap (λ cs. line ++ 10 ∷ cs) s.3 ∙ sym (append_assoc line (10 ∷ s.0) (s.1 ++ s.2))),
  comment line h s.4,
  s.5,
  s.6,
  s.7,
  s.8,
)

last_comment : (n : ℕ) (bs : List ℕ) (xs : List Item) → IsLine bs → xs ≡ [] → Spelled n (59 ∷ bs) xs
last_comment n bs xs h e = subst (Spelled n (59 ∷ bs)) (sym e) (inr ([], bs, refl, nothing, h))

semicolon_back : (n : ℕ) (bs : List ℕ) (front : Front) (all : List Item) → Goes n bs front Comment all → Goes n (59 ∷ bs) front Between all
semicolon_back n bs front all g =
    (g.0, g.1, ⊎_elim (λ c. comment_more n c.0 c.1 bs g.0 c.2 c.3 c.4) (λ c. last_comment n bs g.0 c.0 c.1) g.2)

-- parentheses

open_back : (n p : ℕ) (bs : List ℕ) (front f : Front) (all : List Item) → p + length (40 ∷ bs) ≡ n → opened p front ≡ Ok f →
    Goes n bs f Between all → Goes n (40 ∷ bs) front Between all
open_back n p bs front f all l e g =
    (Open p ∷ g.0, ap (λ r. r >>= puts g.0) e ∙ g.1, ([], 40 ∷ [], bs, refl, nothing, refl, l, tt, g.2))

close_back : (n p : ℕ) (bs : List ℕ) (front f : Front) (all : List Item) → p + length (41 ∷ bs) ≡ n → closed p front ≡ Ok f →
    Goes n bs f Between all → Goes n (41 ∷ bs) front Between all
close_back n p bs front f all l e g =
    (Close p ∷ g.0, ap (λ r. r >>= puts g.0) e ∙ g.1, ([], 41 ∷ [], bs, refl, nothing, refl, l, tt, g.2))

-- the first bytes of strings and runs

quote_back : (n p : ℕ) (bs : List ℕ) (front : Front) (all : List Item) → p + length (34 ∷ bs) ≡ n →
    Goes n bs front (Quoted p []) all → Goes n (34 ∷ bs) front Between all
quote_back n p bs front all l g =
    let s = g.2 in
    let more = s.0 in
    let rest = s.1 in
    let whole : 34 ∷ bs ≡ quoted more ++ rest = ap (λ cs. 34 ∷ cs) (s.4 ∙ sym (append_assoc (flat_map string_byte more) (34 ∷ []) rest)) in
    let here : p + length (quoted more ++ rest) ≡ n = subst (λ cs. p + length cs ≡ n) whole l in
    (g.0, g.1, subst (Spelled n (34 ∷ bs)) (sym s.3) ([], quoted more, rest, whole, nothing, (refl, s.5), here, tt, s.6))

stands : (n p : ℕ) (x : Item) (tail : List ℕ) → BeginsAt p x → p + length tail ≡ n → StandsAt n x tail
stands n p (Number at z) tail e l = subst (λ q. q + length tail ≡ n) (sym e) l
stands n p (Name at w) tail e l = subst (λ q. q + length tail ≡ n) (sym e) l
stands n p (Open at) tail e l = absurd e
stands n p (Close at) tail e l = absurd e
stands n p (Quote at s) tail e l = absurd e

run_back : (n p b : ℕ) (bs : List ℕ) (front : Front) (all : List Item) → p + length (b ∷ bs) ≡ n →
    Goes n bs front (Run p (b ∷ [])) all → Goes n (b ∷ bs) front Between all
run_back n p b bs front all l g =
    let s = g.2 in
    let whole : b ∷ bs ≡ (b ∷ s.0) ++ s.1 = ap (λ cs. b ∷ cs) s.5 in
    let here : p + length ((b ∷ s.0) ++ s.1) ≡ n = subst (λ cs. p + length cs ≡ n) whole l in (
      g.0,
      g.1,
      subst (Spelled n (b ∷ bs)) (sym s.4)
          ([], b ∷ s.0, s.1, whole, nothing, s.7, stands n p s.2 ((b ∷ s.0) ++ s.1) s.6 here, s.8, s.9),
    )

-- all bytes between parts

pub begun_next : (p : ℕ) (mode : Mode) (front : Front) (next : Front × Mode) → begun p mode front ≡ Ok next → IsInside front × ((front, mode) ≡ next)
unfolding begun
begun_next p mode Before next e = cc
begun_next p mode (Inside items k) next e = ((items, k, refl), cc)
begun_next p mode (After items) next e = cc

pub with_mode_next : (mode : Mode) (r : Result Front TextFault) (next : Front × Mode) → with_mode mode r ≡ Ok next → (f : Front) × (r ≡ Ok f) × ((f, mode) ≡ next)
with_mode_next mode (Ok f) next e = (f, refl, cc)
with_mode_next mode (Err d) next e = cc

between_back : (n p b : ℕ) (bs : List ℕ) (front : Front) (all : List Item) (next : Front × Mode) → p + length (b ∷ bs) ≡ n →
    between p b front ≡ Ok next → Back n b bs front Between all next
unfolding between
between_back n p b bs front all next l e = by_white (is_white b) refl e
  where
    by_run : (v : Bool) → is_run b ≡ v → cond v (begun p (Run p (b ∷ [])) front) (refused p word.Byte) ≡ Ok next → Back n b bs front Between all next
    by_run true t e =
        let i = begun_next p (Run p (b ∷ [])) front next e in
        subst (Back n b bs front Between all) i.1 ((i.0, omega arith), run_back n p b bs front all l)
    by_run false t e = cc

    by_quote : (v : Bool) → eqb b 34 ≡ v → cond v (begun p (Quoted p []) front) (cond (is_run b) (begun p (Run p (b ∷ [])) front) (refused p word.Byte)) ≡ Ok next →
        Back n b bs front Between all next
    by_quote true t e =
        let i = begun_next p (Quoted p []) front next e in
        let same : 34 ≡ b = sym (eqb-true b 34 t) in
        subst (Back n b bs front Between all) i.1 (i.0, subst (λ c. Goes n bs front (Quoted p []) all → Goes n (c ∷ bs) front Between all) same (quote_back n p bs front all l))
    by_quote false t e = by_run (is_run b) refl e

    by_close : (v : Bool) → eqb b 41 ≡ v →
        cond v (with_mode Between (closed p front)) (cond (eqb b 34) (begun p (Quoted p []) front) (cond (is_run b) (begun p (Run p (b ∷ [])) front) (refused p word.Byte))) ≡ Ok next →
        Back n b bs front Between all next
    by_close true t e =
        let i = with_mode_next Between (closed p front) next e in
        let same : 41 ≡ b = sym (eqb-true b 41 t) in
        subst (Back n b bs front Between all) i.2 (tt, subst (λ c. Goes n bs i.0 Between all → Goes n (c ∷ bs) front Between all) same (close_back n p bs front i.0 all l i.1))
    by_close false t e = by_quote (eqb b 34) refl e

    by_open : (v : Bool) → eqb b 40 ≡ v →
        cond v (with_mode Between (opened p front)) (cond (eqb b 41) (with_mode Between (closed p front)) (cond (eqb b 34) (begun p (Quoted p []) front) (cond (is_run b) (begun p (Run p (b ∷ [])) front) (refused p word.Byte)))) ≡ Ok next →
        Back n b bs front Between all next
    by_open true t e =
        let i = with_mode_next Between (opened p front) next e in
        let same : 40 ≡ b = sym (eqb-true b 40 t) in
        subst (Back n b bs front Between all) i.2 (tt, subst (λ c. Goes n bs i.0 Between all → Goes n (c ∷ bs) front Between all) same (open_back n p bs front i.0 all l i.1))
    by_open false t e = by_close (eqb b 41) refl e

    by_semicolon : (v : Bool) → eqb b 59 ≡ v →
        cond v (Ok (front, Comment)) (cond (eqb b 40) (with_mode Between (opened p front)) (cond (eqb b 41) (with_mode Between (closed p front)) (cond (eqb b 34) (begun p (Quoted p []) front) (cond (is_run b) (begun p (Run p (b ∷ [])) front) (refused p word.Byte))))) ≡ Ok next →
        Back n b bs front Between all next
    by_semicolon true t e =
        let i : (front, Comment) ≡ next = cc in
        let same : 59 ≡ b = sym (eqb-true b 59 t) in
        subst (Back n b bs front Between all) i (tt, subst (λ c. Goes n bs front Comment all → Goes n (c ∷ bs) front Between all) same (semicolon_back n bs front all))
    by_semicolon false t e = by_open (eqb b 40) refl e

    by_white : (v : Bool) → is_white b ≡ v →
        cond v (Ok (front, Between)) (cond (eqb b 59) (Ok (front, Comment)) (cond (eqb b 40) (with_mode Between (opened p front)) (cond (eqb b 41) (with_mode Between (closed p front)) (cond (eqb b 34) (begun p (Quoted p []) front) (cond (is_run b) (begun p (Run p (b ∷ [])) front) (refused p word.Byte)))))) ≡ Ok next →
        Back n b bs front Between all next
    by_white true t e =
        let i : (front, Between) ≡ next = cc in
        subst (Back n b bs front Between all) i (tt, λ g. (g.0, g.1, white_more n b bs g.0 t g.2))
    by_white false t e = by_semicolon (eqb b 59) refl e

-- a comment

comment_back : (n b : ℕ) (bs : List ℕ) (front : Front) (all : List Item) → (b ≡ 10 → ⊥) → Goes n bs front Comment all → Goes n (b ∷ bs) front Comment all
comment_back n b bs front all h g =
    (g.0, g.1, ⊎_elim (λ c. inl (b ∷ c.0, c.1, ap (λ cs. b ∷ cs) c.2, (h, c.3), c.4)) (λ c. inr ((h, c.0), c.1)) g.2)

line_feed_back : (n : ℕ) (bs : List ℕ) (front : Front) (all : List Item) → Goes n bs front Between all → Goes n (10 ∷ bs) front Comment all
line_feed_back n bs front all g = (g.0, g.1, inl ([], bs, refl, tt, g.2))

in_comment_back : (n p b : ℕ) (bs : List ℕ) (front : Front) (all : List Item) (next : Front × Mode) →
    step p b front Comment ≡ Ok next → Back n b bs front Comment all next
unfolding step
in_comment_back n p b bs front all next e = by_line_feed (eqb b 10) refl e
  where
    by_line_feed : (v : Bool) → eqb b 10 ≡ v → ◌≡◌ {A = Result (Front × Mode) TextFault} (cond v (Ok (front, Between)) (Ok (front, Comment))) (Ok next) → Back n b bs front Comment all next
    by_line_feed true t e =
        let i : (front, Between) ≡ next = cc in
        let same : 10 ≡ b = sym (eqb-true b 10 t) in
        subst (Back n b bs front Comment all) i (tt, subst (λ c. Goes n bs front Between all → Goes n (c ∷ bs) front Comment all) same (line_feed_back n bs front all))
    by_line_feed false t e =
        let i : (front, Comment) ≡ next = cc in
        subst (Back n b bs front Comment all) i (tt, comment_back n b bs front all (eqb-false b 10 t))

-- a run

more_run_back : (n b from : ℕ) (bs run : List ℕ) (front : Front) (all : List Item) →
    Goes n bs front (Run from (run ++ b ∷ [])) all → Goes n (b ∷ bs) front (Run from run) all
more_run_back n b from bs run front all g =
    let s = g.2 in
    (g.0, g.1, (b ∷ s.0, s.1, s.2, s.3, s.4, ap (λ cs. b ∷ cs) s.5, s.6, subst (Marks s.2) (append_assoc run (b ∷ []) s.0) s.7, s.8, s.9))

-- a number or a word of this run
abbrev IsRunItem : ℕ → List ℕ → Item → Type 0
IsRunItem from run x = BeginsAt from x × Marks x run × ((rest : List ℕ) (b : ℕ) → is_run b ≡ false → StandsApart x (b ∷ rest)) × ((items : List Item) (k : ℕ) → put x (Inside items k) ≡ Ok (Inside (items ++ x ∷ []) k))

run_item : (from : ℕ) (run : List ℕ) (xs : List Item) → 0 < length run → run_items from run ≡ Ok xs → (x : Item) × (xs ≡ x ∷ []) × IsRunItem from run x
run_item from run xs some e =
    ⊎_elim
    (λ z. (Number from z.0, z.1, (refl, z.2, (λ rest b h. h), (λ items k. refl))))
    (λ w. (Name from run, w.0, (refl, (refl, w.1), (λ rest b h. h), (λ items k. refl))))
    (run_writes from run xs some e)

end_run_back : (n b from k : ℕ) (bs run : List ℕ) (items : List Item) (x : Item) (all : List Item) → is_run b ≡ false → IsRunItem from run x →
    Goes n (b ∷ bs) (Inside (items ++ x ∷ []) k) Between all → Goes n (b ∷ bs) (Inside items k) (Run from run) all
end_run_back n b from k bs run items x all h i g = (
  x ∷ g.0,
  ap (λ r. r >>= puts g.0) (i.3 items k) ∙ g.1,
  ([], b ∷ bs, x, g.0, refl, refl, i.0, subst (Marks x) (sym (append-nil run)) i.1, i.2 bs b h, g.2),
)

in_run_back : (n p b from : ℕ) (bs run : List ℕ) (front : Front) (all : List Item) (next : Front × Mode) → p + length (b ∷ bs) ≡ n →
    HoldsIn (Run from run) front → step p b front (Run from run) ≡ Ok next → Back n b bs front (Run from run) all next
unfolding step added
in_run_back n p b from bs run front all next l h e = by_run (is_run b) refl e
  where
    items : List Item
    items = h.0.0

    k : ℕ
    k = h.0.1

    by_run : (v : Bool) → is_run b ≡ v →
        cond v (Ok (front, Run from (run ++ b ∷ []))) (with_items front (run_items from run) >>= λ f. between p b f) ≡ Ok next → Back n b bs front (Run from run) all next
    by_run true t e =
        let i : (front, Run from (run ++ b ∷ [])) ≡ next = cc in
        subst (Back n b bs front (Run from run) all) i ((h.0, omega (arith, length-append run (b ∷ []))), more_run_back n b from bs run front all)
    by_run false t e =
        let one = bound (with_items front (run_items from run)) (λ f. between p b f) next e in
        let two = bound (run_items from run) (λ more. Ok (added more front)) one.0 one.1 in
        let item = run_item from run two.0 h.1 two.1 in
        let x = item.0 in
        let there : one.0 ≡ Inside (items ++ x ∷ []) k =
        ok_same (sym two.2) ∙ ap (λ f. added two.0 f) h.0.2 ∙ ap (λ xs. Inside (items ++ xs) k) item.1 in
        let e1 : between p b (Inside (items ++ x ∷ []) k) ≡ Ok next = subst (λ f. between p b f ≡ Ok next) there one.2 in
        let back = between_back n p b bs (Inside (items ++ x ∷ []) k) all next l e1 in
        (back.0, λ g. subst (λ f. Goes n (b ∷ bs) f (Run from run) all) (sym h.0.2) (end_run_back n b from k bs run items x all t item.2 (back.1 g)))
      where
        ok_same : {f g : Front} → ◌≡◌ {A = Result Front TextFault} (Ok f) (Ok g) → f ≡ g
        ok_same e = cc

-- a string

end_string_back : (n from k : ℕ) (bs bytes : List ℕ) (items all : List Item) → IsUtf8 bytes →
    Goes n bs (Inside (items ++ Quote from bytes ∷ []) k) Between all → Goes n (34 ∷ bs) (Inside items k) (Quoted from bytes) all
end_string_back n from k bs bytes items all h g = (
  Quote from bytes ∷ g.0,
  g.1,
  ([], bs, g.0, ap (λ cs. Quote from cs ∷ g.0) (sym (append-nil bytes)), refl, subst IsUtf8 (sym (append-nil bytes)) h, g.2),
)

backslash_back : (n from : ℕ) (bs bytes : List ℕ) (front : Front) (all : List Item) →
    Goes n bs front (Escape from bytes) all → Goes n (92 ∷ bs) front (Quoted from bytes) all
backslash_back n from bs bytes front all g =
    let s = g.2 in
    let spelled : string_byte s.0 ≡ 92 ∷ digit_char (s.0 / 16) ∷ digit_char (s.0 % 16) ∷ [] =
    ap (λ v. cond v (s.0 ∷ []) (92 ∷ digit_char (s.0 / 16) ∷ digit_char (s.0 % 16) ∷ [])) s.6 in
    let tail = flat_map string_byte s.1 in (
      g.0,
      g.1,
      (
        s.0 ∷ s.1,
        s.2,
        s.3,
        s.4,
        ap (λ cs. 92 ∷ cs) s.5 ∙ ap (λ cs. cs ++ (tail ++ 34 ∷ s.2)) (sym spelled) ∙ sym (append_assoc (string_byte s.0) tail (34 ∷ s.2)),
        s.7,
        s.8,
      ),
    )

plain_back : (n b from : ℕ) (bs bytes : List ℕ) (front : Front) (all : List Item) → is_plain b ≡ true →
    Goes n bs front (Quoted from (bytes ++ b ∷ [])) all → Goes n (b ∷ bs) front (Quoted from bytes) all
plain_back n b from bs bytes front all h g =
    let s = g.2 in
    let spelled : string_byte b ≡ b ∷ [] = ap (λ v. cond v (b ∷ []) (92 ∷ digit_char (b / 16) ∷ digit_char (b % 16) ∷ [])) h in
    let tail = flat_map string_byte s.0 in (
      g.0,
      g.1,
      (
        b ∷ s.0,
        s.1,
        s.2,
        s.3 ∙ ap (λ cs. Quote from cs ∷ s.2) (append_assoc bytes (b ∷ []) s.0),
        ap (λ cs. b ∷ cs) s.4 ∙ ap (λ cs. cs ++ (tail ++ 34 ∷ s.1)) (sym spelled) ∙ sym (append_assoc (string_byte b) tail (34 ∷ s.1)),
        subst IsUtf8 (append_assoc bytes (b ∷ []) s.0) s.5,
        s.6,
      ),
    )

pub string_item : (from : ℕ) (bytes : List ℕ) (xs : List Item) → string_items from bytes ≡ Ok xs → (xs ≡ Quote from bytes ∷ []) × IsUtf8 bytes
unfolding string_items
string_item from bytes xs e = by_utf8 (is_utf8 bytes) refl e
  where
    by_utf8 : (v : Bool) → is_utf8 bytes ≡ v → cond v (Ok (Quote from bytes ∷ [])) (refused from word.Utf8) ≡ Ok xs → (xs ≡ Quote from bytes ∷ []) × IsUtf8 bytes
    by_utf8 true t e = (cc, IsUtf8-from_is_utf8 bytes t)
    by_utf8 false t e = cc

in_string_back : (n p b from : ℕ) (bs bytes : List ℕ) (front : Front) (all : List Item) (next : Front × Mode) →
    IsInside front → step p b front (Quoted from bytes) ≡ Ok next → Back n b bs front (Quoted from bytes) all next
unfolding step in_string added
in_string_back n p b from bs bytes front all next h e = by_quote (eqb b 34) refl e
  where
    items : List Item
    items = h.0

    k : ℕ
    k = h.1

    by_plain : (v : Bool) → is_plain b ≡ v → cond v (Ok (front, Quoted from (bytes ++ b ∷ []))) (refused from word.String) ≡ Ok next → Back n b bs front (Quoted from bytes) all next
    by_plain true t e =
        let i : (front, Quoted from (bytes ++ b ∷ [])) ≡ next = cc in
        subst (Back n b bs front (Quoted from bytes) all) i (h, plain_back n b from bs bytes front all t)
    by_plain false t e = cc

    by_backslash : (v : Bool) → eqb b 92 ≡ v →
        cond v (Ok (front, Escape from bytes)) (cond (is_plain b) (Ok (front, Quoted from (bytes ++ b ∷ []))) (refused from word.String)) ≡ Ok next →
        Back n b bs front (Quoted from bytes) all next
    by_backslash true t e =
        let i : (front, Escape from bytes) ≡ next = cc in
        let same : 92 ≡ b = sym (eqb-true b 92 t) in
        subst (Back n b bs front (Quoted from bytes) all) i (h, subst (λ c. Goes n bs front (Escape from bytes) all → Goes n (c ∷ bs) front (Quoted from bytes) all) same (backslash_back n from bs bytes front all))
    by_backslash false t e = by_plain (is_plain b) refl e

    by_quote : (v : Bool) → eqb b 34 ≡ v →
        cond v (with_mode Between (with_items front (string_items from bytes))) (cond (eqb b 92) (Ok (front, Escape from bytes)) (cond (is_plain b) (Ok (front, Quoted from (bytes ++ b ∷ []))) (refused from word.String))) ≡ Ok next →
        Back n b bs front (Quoted from bytes) all next
    by_quote true t e =
        let one = with_mode_next Between (with_items front (string_items from bytes)) next e in
        let two = bound (string_items from bytes) (λ more. Ok (added more front)) one.0 one.1 in
        let item = string_item from bytes two.0 two.1 in
        let there : one.0 ≡ Inside (items ++ Quote from bytes ∷ []) k =
        ok_same (sym two.2) ∙ ap (λ f. added two.0 f) h.2 ∙ ap (λ xs. Inside (items ++ xs) k) item.0 in
        let same : 34 ≡ b = sym (eqb-true b 34 t) in
        subst (Back n b bs front (Quoted from bytes) all) one.2 (
          tt,
          λ g.
              subst (λ c. Goes n (c ∷ bs) front (Quoted from bytes) all) same
              (subst (λ f. Goes n (34 ∷ bs) f (Quoted from bytes) all) (sym h.2)
              (end_string_back n from k bs bytes items all item.1 (subst (λ f. Goes n bs f Between all) there g))),
        )
      where
        ok_same : {f g : Front} → ◌≡◌ {A = Result Front TextFault} (Ok f) (Ok g) → f ≡ g
        ok_same e = cc
    by_quote false t e = by_backslash (eqb b 92) refl e

-- an escape

pub char_of_digit : (b : ℕ) → is_hex b ≡ true → (digit_char (hex_value b) ≡ b) × (hex_value b < 16)
unfolding is_hex hex_value
char_of_digit b h = (grind (arith, nat_tests), grind (arith, nat_tests))

first_back : (n b from : ℕ) (bs bytes : List ℕ) (front : Front) (all : List Item) → is_hex b ≡ true →
    Goes n bs front (Digit from bytes (hex_value b)) all → Goes n (b ∷ bs) front (Escape from bytes) all
first_back n b from bs bytes front all h g =
    let s = g.2 in
    let here : b ≡ digit_char (s.0 / 16) = sym (char_of_digit b h).0 ∙ ap digit_char (sym s.6) in (
      g.0,
      g.1,
      (
        s.0,
        s.1,
        s.2,
        s.3,
        s.4,
        ap (λ c. c ∷ bs) here ∙ ap (λ cs. digit_char (s.0 / 16) ∷ cs) s.5,
        s.7,
        s.8,
        s.9,
      ),
    )

second_back : (n b high from : ℕ) (bs bytes : List ℕ) (front : Front) (all : List Item) → is_hex b ≡ true → is_plain (16 * high + hex_value b) ≡ false →
    Goes n bs front (Quoted from (bytes ++ (16 * high + hex_value b) ∷ [])) all → Goes n (b ∷ bs) front (Digit from bytes high) all
second_back n b high from bs bytes front all h k g =
    let s = g.2 in
    let digit = char_of_digit b h in
    let c = 16 * high + hex_value b in
    let low : c % 16 ≡ hex_value b = omega (arith, digit.1) in
    let top : c / 16 ≡ high = omega (arith, digit.1) in
    let here : b ≡ digit_char (c % 16) = sym digit.0 ∙ ap digit_char (sym low) in (
      g.0,
      g.1,
      (
        c,
        s.0,
        s.1,
        s.2,
        s.3 ∙ ap (λ cs. Quote from cs ∷ s.2) (append_assoc bytes (c ∷ []) s.0),
        ap (λ d. d ∷ bs) here ∙ ap (λ cs. digit_char (c % 16) ∷ cs) s.4,
        top,
        k,
        subst IsUtf8 (append_assoc bytes (c ∷ []) s.0) s.5,
        s.6,
      ),
    )

in_escape_back : (n p b from : ℕ) (bs bytes : List ℕ) (front : Front) (all : List Item) (next : Front × Mode) →
    IsInside front → step p b front (Escape from bytes) ≡ Ok next → Back n b bs front (Escape from bytes) all next
unfolding step first_digit
in_escape_back n p b from bs bytes front all next h e = by_first (begins_escape b) refl e
  where
    by_first : (v : Bool) → begins_escape b ≡ v → cond v (Ok (front, Digit from bytes (hex_value b))) (refused from word.String) ≡ Ok next → Back n b bs front (Escape from bytes) all next
    by_first true t e =
        let i : (front, Digit from bytes (hex_value b)) ≡ next = cc in
        subst (Back n b bs front (Escape from bytes) all) i (h, first_back n b from bs bytes front all (begins_escape-hex b t))
    by_first false t e = cc

in_digit_back : (n p b from high : ℕ) (bs bytes : List ℕ) (front : Front) (all : List Item) (next : Front × Mode) →
    IsInside front → step p b front (Digit from bytes high) ≡ Ok next → Back n b bs front (Digit from bytes high) all next
unfolding step second_digit
in_digit_back n p b from high bs bytes front all next h e = by_hex (is_hex b) refl e
  where
    by_plain : (v : Bool) → is_plain (16 * high + hex_value b) ≡ v → is_hex b ≡ true →
        cond v (refused from word.String) (Ok (front, Quoted from (bytes ++ (16 * high + hex_value b) ∷ []))) ≡ Ok next → Back n b bs front (Digit from bytes high) all next
    by_plain true t k e = cc
    by_plain false t k e =
        let i : (front, Quoted from (bytes ++ (16 * high + hex_value b) ∷ [])) ≡ next = cc in
        subst (Back n b bs front (Digit from bytes high) all) i (h, second_back n b high from bs bytes front all k t)

    by_hex : (v : Bool) → is_hex b ≡ v →
        cond v (cond (is_plain (16 * high + hex_value b)) (refused from word.String) (Ok (front, Quoted from (bytes ++ (16 * high + hex_value b) ∷ [])))) (refused from word.String) ≡ Ok next →
        Back n b bs front (Digit from bytes high) all next
    by_hex true t e = by_plain (is_plain (16 * high + hex_value b)) refl t e
    by_hex false t e = cc

step_between : (p b : ℕ) (front : Front) (next : Front × Mode) → step p b front Between ≡ Ok next → between p b front ≡ Ok next
unfolding step
step_between p b front next e = e

-- one byte in any mode
step_back : (n p b : ℕ) (bs : List ℕ) (front : Front) (mode : Mode) (all : List Item) (next : Front × Mode) → p + length (b ∷ bs) ≡ n →
    HoldsIn mode front → step p b front mode ≡ Ok next → Back n b bs front mode all next
step_back n p b bs front Between all next l h e = between_back n p b bs front all next l (step_between p b front next e)
step_back n p b bs front Comment all next l h e = in_comment_back n p b bs front all next e
step_back n p b bs front (Run from run) all next l h e = in_run_back n p b from bs run front all next l h e
step_back n p b bs front (Quoted from bytes) all next l h e = in_string_back n p b from bs bytes front all next h e
step_back n p b bs front (Escape from bytes) all next l h e = in_escape_back n p b from bs bytes front all next h e
step_back n p b bs front (Digit from bytes high) all next l h e = in_digit_back n p b from high bs bytes front all next h e

run_finishes : (p from : ℕ) (front : Front) (run : List ℕ) (all : List Item) → finish p front (Run from run) ≡ Ok all → ⊥
unfolding finish
run_finishes p from front run all e = let f = bound (with_items front (run_items from run)) (λ f. refused p word.End) all e in no f.2
  where
    no : ◌≡◌ {A = Result (List Item) TextFault} (refused p word.End) (Ok all) → ⊥
    no e = cc

end_back : (n p : ℕ) (front : Front) (mode : Mode) (all : List Item) → finish p front mode ≡ Ok all → Goes n [] front mode all
unfolding finish
end_back n p Before Between all e = cc
end_back n p (Inside items k) Between all e = cc
end_back n p (After items) Between all e = ([], cc, inl nothing)
end_back n p Before Comment all e = cc
end_back n p (Inside items k) Comment all e = cc
end_back n p (After items) Comment all e = ([], cc, inr (tt, refl))
end_back n p front (Run from run) all e = absurd (run_finishes p from front run all e)
end_back n p front (Quoted from bytes) all e = cc
end_back n p front (Escape from bytes) all e = cc
end_back n p front (Digit from bytes high) all e = cc

pub read_spelled : (text : List ℕ) (n p : ℕ) (front : Front) (mode : Mode) (all : List Item) → p + length text ≡ n → HoldsIn mode front →
    read_from p text front mode ≡ Ok all → Goes n text front mode all
read_spelled [] n p front mode all l h e = end_back n p front mode all e
read_spelled (b ∷ bs) n p front mode all l h e =
    let one = bound (step p b front mode) (λ next. read_from (p + 1) bs next.0 next.1) all e in
    let back = step_back n p b bs front mode all one.0 l h one.1 in
    back.1 (read_spelled bs n (p + 1) one.0.0 one.0.1 all (omega arith) back.0 one.2)

abbrev items_read : Front → List Item
items_read Before = []
items_read (Inside items k) = items
items_read (After items) = items

put_items : (x : Item) (front g : Front) → put x front ≡ Ok g → items_read g ≡ items_read front ++ x ∷ []
unfolding opened closed
put_items (Open at) Before g e = let same : Inside (Open at ∷ []) 0 ≡ g = cc in ap items_read (sym same)
put_items (Open at) (Inside items k) g e = by_room (ltb (k + 1) 500) e
  where
    by_room : (v : Bool) → cond v (Ok (Inside (items ++ Open at ∷ []) (k + 1))) (Err (Limit at Nesting)) ≡ Ok g → items_read g ≡ items ++ Open at ∷ []
    by_room true e = let same : Inside (items ++ Open at ∷ []) (k + 1) ≡ g = cc in ap items_read (sym same)
    by_room false e = cc
put_items (Open at) (After items) g e = cc
put_items (Close at) Before g e = cc
put_items (Close at) (Inside items zero) g e = let same : After (items ++ Close at ∷ []) ≡ g = cc in ap items_read (sym same)
put_items (Close at) (Inside items (suc k)) g e = let same : Inside (items ++ Close at ∷ []) k ≡ g = cc in ap items_read (sym same)
put_items (Close at) (After items) g e = cc
put_items (Number at z) Before g e = cc
put_items (Number at z) (Inside items k) g e = let same : Inside (items ++ Number at z ∷ []) k ≡ g = cc in ap items_read (sym same)
put_items (Number at z) (After items) g e = cc
put_items (Name at w) Before g e = cc
put_items (Name at w) (Inside items k) g e = let same : Inside (items ++ Name at w ∷ []) k ≡ g = cc in ap items_read (sym same)
put_items (Name at w) (After items) g e = cc
put_items (Quote at s) Before g e = cc
put_items (Quote at s) (Inside items k) g e = let same : Inside (items ++ Quote at s ∷ []) k ≡ g = cc in ap items_read (sym same)
put_items (Quote at s) (After items) g e = cc

puts_items : (xs : List Item) (front g : Front) → puts xs front ≡ Ok g → items_read g ≡ items_read front ++ xs
puts_items [] front g e = let same : front ≡ g = cc in ap items_read (sym same) ∙ sym (append-nil (items_read front))
puts_items (x ∷ xs) front g e =
    let one = bound (put x front) (puts xs) g e in
    puts_items xs one.0 g one.2 ∙ ap (λ ys. ys ++ xs) (put_items x front one.0 one.1) ∙ append_assoc (items_read front) (x ∷ []) xs

-- what is read is a value that the text spells
pub spelled-read : (text : List ℕ) (s : Sexp) → read text ≡ Ok (items_of s) → SexpSpells text s
unfolding SexpSpells read
spelled-read text s e =
    let g = read_spelled text (length text) 0 Before Between (items_of s) (omega arith) tt e in
    let same : items_of s ≡ g.0 = puts_items g.0 Before (After (items_of s)) g.1 in
    let whole = whole_fits s (After (items_of s)) (subst (λ xs. puts xs Before ≡ Ok (After (items_of s))) (sym same) g.1) in
    (whole.0, whole.1, subst (Spelled (length text) text) (sym same) g.2)
