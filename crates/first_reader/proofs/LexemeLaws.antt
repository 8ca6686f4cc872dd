-- The parts of a text, one after another from its front.
use Rattle.std.proofs.Common.{◌≡◌, ◌≢◌, ℕ, suc, ◌-◌, ◌≤◌, ◌<◌, Bool, true, false, ◌||◌, cond, eqb, List, [], ◌∷◌, ◌++◌, length, get_or, take, drop, refl, sym, ap, subst, ◌∙◌, append_assoc, arith, eq-eqb, ne_eqb}
use Rattle.std.proofs.lemmas.Bool.{eqb-true}
use Rattle.std.proofs.lemmas.List.{append-nil, take_all}
use Rattle.first_reader.specs.Lexemes.{Lexeme, Open, Close, is_white, lexeme_of, with_run, lexemes_from, lexemes}
use Rattle.first_reader.specs.ReadingLexemes.{is_break, drop_white, run_len}

or_true : (b : Bool) → (b || true) ≡ true
or_true true = refl
or_true false = refl

-- a byte is white space, a parenthesis, or goes on with a run
data Kind (byte : ℕ) : Type 0 where
  White : is_white byte ≡ true → Kind byte
  Opens : is_white byte ≡ false → byte ≡ 40 → Kind byte
  Closes : is_white byte ≡ false → byte ≡ 41 → Kind byte
  Other : is_white byte ≡ false → eqb byte 40 ≡ false → eqb byte 41 ≡ false → Kind byte

kind_of : (byte : ℕ) → Kind byte
kind_of byte = by (is_white byte) (eqb byte 40) (eqb byte 41) refl refl refl where
  by : (w o c : Bool) → is_white byte ≡ w → eqb byte 40 ≡ o → eqb byte 41 ≡ c → Kind byte
  by true o c ew eo ec = White ew
  by false true c ew eo ec = Opens ew (eqb-true byte 40 eo)
  by false false true ew eo ec = Closes ew (eqb-true byte 41 ec)
  by false false false ew eo ec = Other ew eo ec

at_white : (run text : List ℕ) (b : ℕ) → is_white b ≡ true → lexemes_from run (b ∷ text) ≡ with_run run (lexemes_from [] text)
at_white run text b e = rw (e, lexemes_from) refl

at_open : (run text : List ℕ) (b : ℕ) → is_white b ≡ false → b ≡ 40 → lexemes_from run (b ∷ text) ≡ with_run run (Open ∷ lexemes_from [] text)
at_open run text b e same = rw (e, eq-eqb b 40 same, lexemes_from) refl

at_close : (run text : List ℕ) (b : ℕ) → is_white b ≡ false → b ≡ 41 → lexemes_from run (b ∷ text) ≡ with_run run (Close ∷ lexemes_from [] text)
at_close run text b e same = subst (λ x. is_white x ≡ false → lexemes_from run (x ∷ text) ≡ with_run run (Close ∷ lexemes_from [] text)) (sym same) (λ _. refl) e

at_other : (run text : List ℕ) (b : ℕ) → is_white b ≡ false → eqb b 40 ≡ false → eqb b 41 ≡ false → lexemes_from run (b ∷ text) ≡ lexemes_from (run ++ b ∷ []) text
at_other run text b e f g = rw (e, f, g) refl

broken : (run text : List ℕ) (b : ℕ) (parts : List Lexeme) → is_break b ≡ true → lexemes_from run (b ∷ text) ≡ with_run run parts → lexemes_from [] (b ∷ text) ≡ parts →
    lexemes_from run (b ∷ text) ≡ with_run (run ++ take (run_len (b ∷ text)) (b ∷ text)) (lexemes (drop (run_len (b ∷ text)) (b ∷ text)))
unfolding lexemes
broken run text b parts e first alone =
    let none : run_len (b ∷ text) ≡ 0 = rw e refl in
    subst (λ n. lexemes_from run (b ∷ text) ≡ with_run (run ++ take n (b ∷ text)) (lexemes (drop n (b ∷ text)))) (sym none)
    (first ∙ ap (with_run run) (sym alone) ∙ ap (λ r. with_run r (lexemes_from [] (b ∷ text))) (sym (append-nil run)))

unbroken : (run text : List ℕ) (b : ℕ) → is_break b ≡ false → lexemes_from run (b ∷ text) ≡ lexemes_from (run ++ b ∷ []) text →
    lexemes_from (run ++ b ∷ []) text ≡ with_run ((run ++ b ∷ []) ++ take (run_len text) text) (lexemes (drop (run_len text) text)) →
    lexemes_from run (b ∷ text) ≡ with_run (run ++ take (run_len (b ∷ text)) (b ∷ text)) (lexemes (drop (run_len (b ∷ text)) (b ∷ text)))
unfolding lexemes
unbroken run text b e first h =
    let more : run_len (b ∷ text) ≡ suc (run_len text) = rw e refl in
    subst (λ n. lexemes_from run (b ∷ text) ≡ with_run (run ++ take n (b ∷ text)) (lexemes (drop n (b ∷ text)))) (sym more)
    (first ∙ h ∙ ap (λ r. with_run r (lexemes (drop (run_len text) text))) (append_assoc run (b ∷ []) (take (run_len text) text)))

-- a run goes on to its end
pub run_lexemes : (run text : List ℕ) → lexemes_from run text ≡ with_run (run ++ take (run_len text) text) (lexemes (drop (run_len text) text))
unfolding lexemes
run_lexemes run [] = ap (λ r. with_run r []) (sym (append-nil run))
run_lexemes run (b ∷ bs) =
    elim (kind_of b) [
      | White e ↦ broken run bs b (lexemes_from [] bs) (rw e refl) (at_white run bs b e) (at_white [] bs b e)
      | Opens e f ↦ broken run bs b (Open ∷ lexemes_from [] bs) (rw (e, eq-eqb b 40 f) refl) (at_open run bs b e f) (at_open [] bs b e f)
      | Closes e f ↦ broken run bs b (Close ∷ lexemes_from [] bs) (rw (e, eq-eqb b 41 f) (or_true (eqb b 40))) (at_close run bs b e f) (at_close [] bs b e f)
      | Other e f g ↦ unbroken run bs b (rw (e, f, g) refl) (at_other run bs b e f g) (run_lexemes (run ++ b ∷ []) bs)
    ]

-- ---- the first part of a text

white_lexemes : (text : List ℕ) → lexemes (drop_white text) ≡ lexemes text
unfolding lexemes
white_lexemes [] = refl
white_lexemes (b ∷ bs) = by (is_white b) refl (white_lexemes bs) where
  by : (w : Bool) → is_white b ≡ w → lexemes_from [] (drop_white bs) ≡ lexemes_from [] bs → lexemes_from [] (cond (is_white b) (drop_white bs) (b ∷ bs)) ≡ lexemes_from [] (b ∷ bs)
  by true e h = ap (λ w. lexemes_from [] (cond w (drop_white bs) (b ∷ bs))) e ∙ h ∙ sym (at_white [] bs b e)
  by false e h = ap (λ w. lexemes_from [] (cond w (drop_white bs) (b ∷ bs))) e

-- a text whose white space was dropped doesn't begin with white space
black : (text t : List ℕ) (b : ℕ) → drop_white text ≡ b ∷ t → is_white b ≡ false
black [] t b e = absurd cc
black (c ∷ text) t b e = by (is_white c) refl e (black text t b) where
  by : (w : Bool) → is_white c ≡ w → cond (is_white c) (drop_white text) (c ∷ text) ≡ b ∷ t → (drop_white text ≡ b ∷ t → is_white b ≡ false) → is_white b ≡ false
  by true ew e h = h (rw ew at e)
  by false ew e h = let same : c ∷ text ≡ b ∷ t = rw ew at e in let head : c ≡ b = cc in rw (← head) ew

pub no_lexeme : (text t : List ℕ) → t ≡ drop_white text → length t < 1 → lexemes text ≡ []
unfolding lexemes
no_lexeme text [] e short = sym (white_lexemes text) ∙ ap lexemes (sym e)
no_lexeme text (b ∷ t) e short = absurd (omega arith)

pub open_lexeme : (text t : List ℕ) → t ≡ drop_white text → 1 ≤ length t → get_or t 0 0 ≡ 40 → lexemes text ≡ Open ∷ lexemes (take (length t - 1) (drop 1 t))
unfolding lexemes
open_lexeme text [] e long is = absurd (omega arith)
open_lexeme text (b ∷ t) e long is =
    let all : take (length (b ∷ t) - 1) t ≡ t = take_all _ t (omega arith) in
    sym (white_lexemes text) ∙ ap lexemes (sym e) ∙ at_open [] t b (black text t b (sym e)) is ∙ ap (λ r. Open ∷ lexemes r) (sym all)

pub close_lexeme : (text t : List ℕ) → t ≡ drop_white text → 1 ≤ length t → get_or t 0 0 ≡ 41 → lexemes text ≡ Close ∷ lexemes (take (length t - 1) (drop 1 t))
unfolding lexemes
close_lexeme text [] e long is = absurd (omega arith)
close_lexeme text (b ∷ t) e long is =
    let all : take (length (b ∷ t) - 1) t ≡ t = take_all _ t (omega arith) in
    sym (white_lexemes text) ∙ ap lexemes (sym e) ∙ at_close [] t b (black text t b (sym e)) is ∙ ap (λ r. Close ∷ lexemes r) (sym all)

pub run_lexeme : (text t : List ℕ) → t ≡ drop_white text → 1 ≤ length t → get_or t 0 0 ≢ 40 → get_or t 0 0 ≢ 41 → lexemes text ≡ lexeme_of (take (run_len t) t) ∷ lexemes (drop (run_len t) t)
unfolding lexemes
run_lexeme text [] e long o c = absurd (omega arith)
run_lexeme text (b ∷ t) e long o c =
    let unwhite = black text t b (sym e) in
    let more : run_len (b ∷ t) ≡ suc (run_len t) = rw (unwhite, ne_eqb b 40 o, ne_eqb b 41 c) refl in
    let whole : lexemes_from [] (b ∷ t) ≡ with_run (take (run_len (b ∷ t)) (b ∷ t)) (lexemes (drop (run_len (b ∷ t)) (b ∷ t))) = run_lexemes [] (b ∷ t) in
    sym (white_lexemes text) ∙ ap lexemes (sym e) ∙ subst (λ n. lexemes_from [] (b ∷ t) ≡ with_run (take n (b ∷ t)) (lexemes (drop n (b ∷ t))) → lexemes_from [] (b ∷ t) ≡ lexeme_of (take n (b ∷ t)) ∷ lexemes (drop n (b ∷ t))) (sym more) (λ h. h) whole
