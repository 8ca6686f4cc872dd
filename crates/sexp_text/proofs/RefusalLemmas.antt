-- What is refused so is the fault that reading gives.
use Rattle.std.proofs.Common.{◌≡◌, ℕ, zero, suc, ℤ, ◌+◌, ◌*◌, ◌<◌, ◌≤◌, Bool, true, false, cond, eqb, ltb, ◌⊎◌, inl, inr, ⊎_elim, List, [], ◌∷◌, ◌++◌, length, replicate, Option, Some, None, Result, Ok, Err, refl, sym, ap, ◌∙◌, subst, append_assoc, length-append, arith}
use Rattle.std.proofs.lemmas.Bool.{eqb-true, ne_eqb, le-ltb, cases_lt}
use Rattle.std.proofs.lemmas.List.{append-nil}
use Rattle.std.proofs.lemmas.Str.{IsUtf8-from_is_utf8}
use Rattle.std.specs.Char.{digit_char}
use Rattle.std.specs.Option.{option_map}
use Rattle.std.specs.Str.{is_utf8, IsUtf8}
use Rattle.std.specs.List.{AllByRecursion, flat_map}
use Rattle.sexp_text.specs.declared.fault.TextFault.{TextFault}
use Rattle.sexp_text.specs.declared.fault.TextFault.TheVariants.{Refused, Limit, OutOfMemory}
use Rattle.sexp_text.specs.declared.fault.TextWord.{TextWord}
use Rattle.sexp_text.specs.declared.fault.TextWord.TheVariants as word
use Rattle.wasm_values.specs.declared.limit.LimitWord.{LimitWord}
use Rattle.wasm_values.specs.declared.limit.LimitWord.TheVariants.{Nesting}
use Rattle.sexp_text.specs.declared.reader.Mode.{Mode}
use Rattle.sexp_text.specs.declared.reader.Mode.TheVariants.{Between, Comment, Run, Quoted, Escape, Digit}
use Rattle.sexp_text.specs.declared.reader.Progress.TheVariants as progress
use Rattle.sexp_text.specs.Bytes.{is_white, is_name_byte, is_sign, is_run, is_plain, is_hex, hex_value}
use Rattle.sexp_text.specs.Items.{Item, Open, Close, Number, Name, Quote, items_of}
use Rattle.sexp_text.specs.Reading.{refused, begins_number, number_of, word_end, ok_or_fault, run_items, string_items, Front, Before, Inside, After, opened, closed, begun, with_mode, with_items, between, in_string, begins_escape, first_digit, second_digit, step, finish, read_from, read}
use Rattle.sexp_text.specs.Spelling.{EndsRun, WritesNumber, string_byte, quoted}
use Rattle.sexp_text.specs.Faults.{place_of, IsText, IsBefore, IsInside, IsAfter, BeginsNothing, BeginsPart, IsRunIn, GoesOnNoWord, IsNoString, IsRefusedAs, IsLimitAs, IsRefused, Refusal}
use Rattle.sexp_text.proofs.ByteLemmas.{word_end-le, begins_escape-hex}
use Rattle.sexp_text.proofs.CompleteLemmas.{read-spelled}
use Rattle.sexp_text.proofs.FaultLemmas.{run_fault}
use Rattle.sexp_text.proofs.GoOnLemmas as known
use Rattle.sexp_text.proofs.GoOnLemmas.{Reach, reach_more, reach_read, read-after, InRun, Holds, step_known, step_between, step_string, step_escape, step_digit, front_before, word_front, escapes}
use Rattle.sexp_text.proofs.NumberLemmas.{number_writes, word_longest}
use Rattle.sexp_text.proofs.PutLemmas.{bound, opened_room}
use Rattle.sexp_text.proofs.ReadLemmas.{AreRun, go_on, step_open, step_close, step_quote, step_run, begun_inside, run_ends, bytes_read, digit_of}
use Rattle.sexp_text.proofs.SoundLemmas.{with_mode_next, char_of_digit}
use Rattle.sexp_text.proofs.Utf8Lemmas.{AreBytes, AreBytes-append}
use Rattle.sexp_text.proofs.WordLemmas.{read_here, read_value, run_bad, flat_map-push, plain_byte, escape_byte, plain_below}

true_false : true ≡ false → ⊥
true_false e = cc

-- ---- where some bytes are read

reached : (text more : List ℕ) (items : List Item) → read (text ++ more) ≡ Ok items → (s : Front × Mode) × Reach text s.0 s.1
unfolding read
reached text more items e =
    let s = bound (known.after 0 text Before Between) (λ s. read_from (0 + length text) more s.0 s.1) items (sym (read-after text more 0 Before Between) ∙ e) in
    (s.0, s.1)

holds_after : (rest text : List ℕ) (front : Front) (mode : Mode) → Reach text front mode → Holds text (front, mode) → (next : Front × Mode) →
    known.after (length text) rest front mode ≡ Ok next → Holds (text ++ rest) next
holds_after [] text front mode r h next e =
    let same : (front, mode) ≡ next = cc in
    subst (λ bs. Holds bs next) (sym (append-nil text)) (subst (Holds text) same h)
holds_after (b ∷ bs) text front mode r h next e =
    let s = bound (step (length text) b front mode) (λ s. known.after (length text + 1) bs s.0 s.1) next e in
    let longer : length (text ++ b ∷ []) ≡ length text + 1 = omega (arith, length-append text (b ∷ [])) in
    subst (λ xs. Holds xs next) (append_assoc text (b ∷ []) bs)
    (holds_after bs (text ++ b ∷ []) s.0.0 s.0.1 (reach_more text b front mode s.0 r s.1) (step_known text b front mode s.0 r h s.1) next (ap (λ q. known.after q bs s.0.0 s.0.1) longer ∙ s.2))

holds : (text : List ℕ) (front : Front) (mode : Mode) → Reach text front mode → Holds text (front, mode)
holds text front mode r = holds_after text [] Before Between refl ((progress.Before, front_before), tt) (front, mode) r

text_here : (text : List ℕ) (front : Front) (mode : Mode) (items : List Item) → Reach text front mode → finish (length text) front mode ≡ Ok items → IsText text
text_here text front mode items r e = let v = read_value text items (read_here text front mode r ∙ e) in (v.0, v.2)

-- ---- parentheses, which tell where the bytes before them end

abbrev AreParens : List ℕ → Type 0
AreParens = AllByRecursion (λ b. (b ≡ 40) ⊎ (b ≡ 41))

closers_parens : (n : ℕ) → AreParens (replicate n 41)
closers_parens zero = tt
closers_parens (suc n) = (inr refl, closers_parens n)

paren_run : (b : ℕ) → (b ≡ 40) ⊎ (b ≡ 41) → is_run b ≡ false
unfolding is_run is_name_byte is_sign
paren_run b h = ⊎_elim (λ e. ap is_run e) (λ e. ap is_run e) h

paren_plain : (b : ℕ) → (b ≡ 40) ⊎ (b ≡ 41) → (eqb b 34 ≡ false) × (eqb b 92 ≡ false) × (is_plain b ≡ true)
unfolding is_plain
paren_plain b h = ⊎_elim (λ e. (ap (λ c. eqb c 34) e, ap (λ c. eqb c 92) e, ap is_plain e)) (λ e. (ap (λ c. eqb c 34) e, ap (λ c. eqb c 92) e, ap is_plain e)) h

paren_hex : (b : ℕ) → (b ≡ 40) ⊎ (b ≡ 41) → is_hex b ≡ false
unfolding is_hex
paren_hex b h = ⊎_elim (λ e. ap is_hex e) (λ e. ap is_hex e) h

paren_escape : (b : ℕ) → (b ≡ 40) ⊎ (b ≡ 41) → begins_escape b ≡ false
unfolding begins_escape
paren_escape b h = ⊎_elim (λ e. ap begins_escape e) (λ e. ap begins_escape e) h

paren_line : (b : ℕ) → (b ≡ 40) ⊎ (b ≡ 41) → eqb b 10 ≡ false
paren_line b h = ⊎_elim (λ e. ap (λ c. eqb c 10) e) (λ e. ap (λ c. eqb c 10) e) h

parens_end : (tail : List ℕ) → AreParens tail → EndsRun tail
parens_end [] h = tt
parens_end (b ∷ bs) h = paren_run b h.0

comment_stays : (p b : ℕ) (front : Front) → eqb b 10 ≡ false → step p b front Comment ≡ Ok (front, Comment)
unfolding step
comment_stays p b front t = rw t refl

-- in a comment parentheses change nothing
comment_parens : (tail : List ℕ) (p : ℕ) (front : Front) (items : List Item) → AreParens tail → read_from p tail front Comment ≡ Ok items → (q : ℕ) × (finish q front Comment ≡ Ok items)
comment_parens [] p front items h e = (p, e)
comment_parens (b ∷ bs) p front items h e = comment_parens bs (p + 1) front items h.1 (sym (ap (go_on (p + 1) bs) (comment_stays p b front (paren_line b h.0))) ∙ e)

comment_end : (p q : ℕ) (front : Front) (items : List Item) → finish q front Comment ≡ Ok items → finish p front Comment ≡ Ok items
unfolding finish
comment_end p q Before items e = cc
comment_end p q (Inside xs k) items e = cc
comment_end p q (After xs) items e = e

quote_stays : (b from : ℕ) (bytes : List ℕ) (front : Front) → (eqb b 34 ≡ false) × (eqb b 92 ≡ false) × (is_plain b ≡ true) → in_string b from bytes front ≡ Ok (front, Quoted from (bytes ++ b ∷ []))
unfolding in_string
quote_stays b from bytes front t = rw (t.0, t.1, t.2) refl

escape_fails : (b from : ℕ) (bytes : List ℕ) (front : Front) → begins_escape b ≡ false → first_digit b from bytes front ≡ refused from word.String
unfolding first_digit
escape_fails b from bytes front t = rw t refl

digit_fails : (b from : ℕ) (bytes : List ℕ) (high : ℕ) (front : Front) → is_hex b ≡ false → second_digit b from bytes high front ≡ refused from word.String
unfolding second_digit
digit_fails b from bytes high front t = rw t refl

-- no string ends with them
quote_parens : (tail : List ℕ) (p from : ℕ) (bytes : List ℕ) (front : Front) (items : List Item) → AreParens tail → read_from p tail front (Quoted from bytes) ≡ Ok items → ⊥
unfolding finish
quote_parens [] p from bytes front items h e = cc
quote_parens (b ∷ bs) p from bytes front items h e =
    quote_parens bs (p + 1) from (bytes ++ b ∷ []) front items h.1 (sym (ap (go_on (p + 1) bs) (step_string p b from bytes front ∙ quote_stays b from bytes front (paren_plain b h.0))) ∙ e)

escape_parens : (tail : List ℕ) (p from : ℕ) (bytes : List ℕ) (front : Front) (items : List Item) → AreParens tail → read_from p tail front (Escape from bytes) ≡ Ok items → ⊥
unfolding finish
escape_parens [] p from bytes front items h e = cc
escape_parens (b ∷ bs) p from bytes front items h e =
    let bad = ap (go_on (p + 1) bs) (step_escape p b from bytes front ∙ escape_fails b from bytes front (paren_escape b h.0)) in cc

digit_parens : (tail : List ℕ) (p from high : ℕ) (bytes : List ℕ) (front : Front) (items : List Item) → AreParens tail → read_from p tail front (Digit from bytes high) ≡ Ok items → ⊥
unfolding finish
digit_parens [] p from high bytes front items h e = cc
digit_parens (b ∷ bs) p from high bytes front items h e =
    let bad = ap (go_on (p + 1) bs) (step_digit p b from bytes high front ∙ digit_fails b from bytes high front (paren_hex b h.0)) in cc

-- the last byte of a run
last_of_run : (run : List ℕ) → AreRun run → 0 < length run → (more : List ℕ) × (b : ℕ) × (run ≡ more ++ b ∷ []) × (is_run b ≡ true)
last_of_run [] h some = absurd (omega arith)
last_of_run (b ∷ []) h some = ([], b, refl, h.0)
last_of_run (b ∷ c ∷ cs) h some = let r = last_of_run (c ∷ cs) h.1 (omega arith) in (b ∷ r.0, r.1, ap (λ ys. b ∷ ys) r.2, r.3)

-- the bytes end inside lists: what follows and is no run is read there; and the reader stands between parts, or they end
-- in a run
abbrev AtInside : List ℕ → List Item → ℕ → Type 0
AtInside text items k =
    ((rest : List ℕ) → EndsRun rest → read (text ++ rest) ≡ read_from (length text) rest (Inside items k) Between) ×
    (Reach text (Inside items k) Between ⊎ ((more : List ℕ) × (b : ℕ) × (text ≡ more ++ b ∷ []) × (is_run b ≡ true)))

abbrev EndsInside : List ℕ → List ℕ → List Item → Type 0
EndsInside text tail xs = (items : List Item) × (k : ℕ) × AtInside text items k × (read_from (length text) tail (Inside items k) Between ≡ Ok xs)

run_state : (text tail : List ℕ) (xs : List Item) → AreParens tail → (front : Front) (from : ℕ) (run : List ℕ) → Reach text front (Run from run) → InRun text from run front → 0 < length run →
    read_from (length text) tail front (Run from run) ≡ Ok xs → EndsInside text tail xs
run_state text tail xs h front from run r k some e = by_items (run_items from run) refl
  where
    by_items : (s : Result (List Item) TextFault) → run_items from run ≡ s → EndsInside text tail xs
    by_items (Err d) i = let bad = run_fault tail (length text) from run front d i in absurd (differ bad e)
      where
        differ : read_from (length text) tail front (Run from run) ≡ Err d → read_from (length text) tail front (Run from run) ≡ Ok xs → ⊥
        differ a b = cc
    by_items (Ok more) i =
        let ends : (rest : List ℕ) → EndsRun rest → read_from (length text) rest front (Run from run) ≡ read_from (length text) rest (Inside (k.5.0 ++ more) k.5.1) Between =
        (λ rest h. ap (λ g. read_from (length text) rest g (Run from run)) k.5.2 ∙ run_ends rest (length text) from k.5.1 run k.5.0 more h i) in
        let l = last_of_run run k.4 some in (
          k.5.0 ++ more,
          k.5.1,
          (
            (λ rest h. reach_read text rest front (Run from run) r ∙ ends rest h),
            inr (k.0 ++ l.0, l.1, k.1 ∙ ap (λ ys. k.0 ++ ys) l.2 ∙ sym (append_assoc k.0 l.0 (l.1 ∷ [])), l.3),
          ),
          sym (ends tail (parens_end tail h)) ∙ e,
        )

after_ends : (p : ℕ) (items : List Item) → finish p (After items) Between ≡ Ok items
unfolding finish
after_ends p items = refl

-- where bytes end that are no text, but are one with parentheses behind them
state_of : (text tail : List ℕ) (xs : List Item) → AreParens tail → (IsText text → ⊥) → (front : Front) (mode : Mode) → Reach text front mode → read_from (length text) tail front mode ≡ Ok xs →
    (Reach text Before Between × (read_from (length text) tail Before Between ≡ Ok xs)) ⊎ EndsInside text tail xs
state_of text tail xs h n Before Between r e = inl (r, e)
state_of text tail xs h n (Inside items k) Between r e = inr (items, k, ((λ rest ends. reach_read text rest (Inside items k) Between r), inl r), e)
state_of text tail xs h n (After items) Between r e = absurd (n (text_here text (After items) Between items r (after_ends (length text) items)))
state_of text tail xs h n front Comment r e =
    let f = comment_parens tail (length text) front xs h e in
    absurd (n (text_here text front Comment xs r (comment_end (length text) f.0 front xs f.1)))
state_of text tail xs h n front (Run from run) r e = let k = (holds text front (Run from run) r).1 in inr (run_state text tail xs h front from run r k.0 k.1 e)
state_of text tail xs h n front (Quoted from bytes) r e = absurd (quote_parens tail (length text) from bytes front xs h e)
state_of text tail xs h n front (Escape from bytes) r e = absurd (escape_parens tail (length text) from bytes front xs h e)
state_of text tail xs h n front (Digit from bytes high) r e = absurd (digit_parens tail (length text) from high bytes front xs h e)

inside_open : (p k : ℕ) (items xs : List Item) → read_from p (40 ∷ 41 ∷ []) (Inside items k) Between ≡ Ok xs → ⊥
unfolding closed finish
inside_open p k items xs e =
    let s = bound (step p 40 (Inside items k) Between) (λ next. read_from (p + 1) (41 ∷ []) next.0 next.1) xs e in
    let o = with_mode_next Between (opened p (Inside items k)) s.0 (sym (step_open p (Inside items k)) ∙ s.1) in
    let room = opened_room p k items o.0 o.1 in
    let there : read_from (p + 1) (41 ∷ []) (Inside (items ++ Open p ∷ []) (suc k)) Between ≡ Ok xs =
    ap (λ f. read_from (p + 1) (41 ∷ []) f Between) (sym room.1) ∙ ap (λ (n : Front × Mode). read_from (p + 1) (41 ∷ []) n.0 n.1) o.2 ∙ s.2 in
    let bad = ap (go_on (p + 1 + 1) []) (step_close (p + 1) (Inside (items ++ Open p ∷ []) (suc k))) in
    differ (sym bad ∙ there)
  where
    differ : ◌≡◌ {A = Result (List Item) TextFault} (refused (p + 1 + 1) word.End) (Ok xs) → ⊥
    differ e = cc

before_at : (text : List ℕ) → IsBefore text → Reach text Before Between
before_at text h =
    let xs = items_of h.0.0 in
    let e = read-spelled (text ++ 40 ∷ 41 ∷ []) h.0.0 h.0.1 in
    let s = reached text (40 ∷ 41 ∷ []) xs e in
    ⊎_elim
    (λ b. b.0)
    (λ i. absurd (inside_open (length text) i.1 i.0 xs i.3))
    (state_of text (40 ∷ 41 ∷ []) xs (inl refl, (inr refl, tt)) h.1 s.0.0 s.0.1 s.1 (sym (reach_read text (40 ∷ 41 ∷ []) s.0.0 s.0.1 s.1) ∙ e))

before_closers : (d p : ℕ) (xs : List Item) → read_from p (replicate d 41) Before Between ≡ Ok xs → ⊥
unfolding step between is_white closed finish
before_closers zero p xs e = cc
before_closers (suc d) p xs e = cc

closers_depth : (d k p : ℕ) (items xs : List Item) → read_from p (replicate d 41) (Inside items k) Between ≡ Ok xs → d ≡ suc k
unfolding step between is_white closed finish
closers_depth zero k p items xs e = cc
closers_depth (suc zero) zero p items xs e = refl
closers_depth (suc (suc d)) zero p items xs e = cc
closers_depth (suc d) (suc k) p items xs e = ap suc (closers_depth d k (p + 1) (items ++ Close p ∷ []) xs e)

inside_at : (d : ℕ) (text : List ℕ) → IsInside d text → (items : List Item) × (k : ℕ) × (d ≡ suc k) × AtInside text items k
inside_at d text h =
    let xs = items_of h.0.0 in
    let tail = replicate d 41 in
    let e = read-spelled (text ++ tail) h.0.0 h.0.1 in
    let s = reached text tail xs e in
    ⊎_elim
    (λ b. absurd (before_closers d (length text) xs b.1))
    (λ i. (i.0, i.1, closers_depth d i.1 (length text) i.0 xs i.3, i.2))
    (state_of text tail xs (closers_parens d) h.1 s.0.0 s.0.1 s.1 (sym (reach_read text tail s.0.0 s.0.1 s.1) ∙ e))

comment_closes : (p : ℕ) (items : List Item) → read_from p (41 ∷ []) (After items) Comment ≡ Ok items
unfolding step finish
comment_closes p items = refl

after_at : (text : List ℕ) → IsAfter text → (items : List Item) × Reach text (After items) Between
unfolding finish
after_at text h = by_state s.0.0 s.0.1 s.1 (sym (read_here text s.0.0 s.0.1 s.1) ∙ e)
  where
    xs : List Item
    xs = items_of h.0.0

    e : read text ≡ Ok xs
    e = read-spelled text h.0.0 h.0.1

    s : (s : Front × Mode) × Reach text s.0 s.1
    s = reached text [] xs (ap read (append-nil text) ∙ e)

    by_state : (front : Front) (mode : Mode) → Reach text front mode → finish (length text) front mode ≡ Ok xs → (items : List Item) × Reach text (After items) Between
    by_state Before Between r e = cc
    by_state (Inside items k) Between r e = cc
    by_state (After items) Between r e = (items, r)
    by_state Before Comment r e = cc
    by_state (Inside items k) Comment r e = cc
    by_state (After items) Comment r e =
        let v = read_value (text ++ 41 ∷ []) items (reach_read text (41 ∷ []) (After items) Comment r ∙ comment_closes (length text) items) in
        absurd (h.1 (v.0, v.2))
    by_state front (Run from run) r e = let f = bound (with_items front (run_items from run)) (λ f. refused (length text) word.End) xs e in cc
    by_state front (Quoted from bytes) r e = cc
    by_state front (Escape from bytes) r e = cc
    by_state front (Digit from bytes high) r e = cc

-- ---- the parts that are refused

fails : (p b : ℕ) (rest : List ℕ) (front : Front) (fault : TextFault) → step p b front Between ≡ Err fault → read_from p (b ∷ rest) front Between ≡ Err fault
fails p b rest front fault e = ap (go_on (p + 1) rest) e

nothing_refused : (p b : ℕ) (front : Front) → BeginsNothing b → step p b front Between ≡ Err (Refused p word.Byte)
unfolding between
nothing_refused p b front h =
    step_between p b front ∙ (rw (h.white, ne_eqb b 59 h.comment, ne_eqb b 40 h.open_list, ne_eqb b 41 h.close_list, ne_eqb b 34 h.quote, h.run) refl)

begun_before : (p : ℕ) (mode : Mode) → begun p mode Before ≡ Err (Refused p word.Byte)
unfolding begun
begun_before p mode = refl

begun_after : (p : ℕ) (mode : Mode) (items : List Item) → begun p mode (After items) ≡ Err (Refused p word.Rest)
unfolding begun
begun_after p mode items = refl

part_before : (p b : ℕ) → BeginsPart b → step p b Before Between ≡ Err (Refused p word.Byte)
part_before p b h =
    ⊎_elim
    (λ t. step_run p b Before t ∙ begun_before p (Run p (b ∷ [])))
    (λ q. ap (λ c. step p c Before Between) q ∙ step_quote p Before ∙ begun_before p (Quoted p []))
    h

part_after : (p b : ℕ) (items : List Item) → (b ≡ 40) ⊎ BeginsPart b → step p b (After items) Between ≡ Err (Refused p word.Rest)
unfolding opened
part_after p b items h =
    ⊎_elim
    (λ q. ap (λ c. step p c (After items) Between) q ∙ step_open p (After items))
    (λ o. ⊎_elim
    (λ t. step_run p b (After items) t ∙ begun_after p (Run p (b ∷ [])) items)
    (λ q. ap (λ c. step p c (After items) Between) q ∙ step_quote p (After items) ∙ begun_after p (Quoted p []) items)
    o)
    h

close_before : (p : ℕ) → step p 41 Before Between ≡ Err (Refused p word.Close)
unfolding closed
close_before p = step_close p Before

close_after : (p : ℕ) (items : List Item) → step p 41 (After items) Between ≡ Err (Refused p word.Close)
unfolding closed
close_after p items = step_close p (After items)

open_full : (p k : ℕ) (items : List Item) → 500 ≤ suc k → step p 40 (Inside items k) Between ≡ Err (Limit p Nesting)
unfolding opened
open_full p k items h = let full : ltb (k + 1) 500 ≡ false = le-ltb (k + 1) 500 (omega arith) in step_open p (Inside items k) ∙ (rw full refl)

-- a run that is refused

run_at : (front run rest : List ℕ) (fault : TextFault) → IsRunIn front run rest → run_items (length front) run ≡ Err fault → read (front ++ (run ++ rest)) ≡ Err fault
run_at front run rest fault h e =
    let i = inside_at h.depth front h.inside in
    ⊎_elim
    (λ r. ap read (sym (append_assoc front run rest)) ∙ run_bad front run rest (Inside i.0 i.1) fault r (i.0, i.1, refl) h.bytes h.some e)
    (λ l. absurd (true_false (sym l.3 ∙ h.begins l.0 l.1 l.2)))
    i.3.1

no_number : (from : ℕ) (run : List ℕ) → begins_number run ≡ true → ((z : ℤ) → WritesNumber run z → ⊥) → run_items from run ≡ Err (Refused from word.Number)
unfolding run_items
no_number from run b n = by_number (number_of run) refl
  where
    by_number : (o : Option ℤ) → number_of run ≡ o →
        cond (begins_number run) (ok_or_fault (option_map (λ z. Number from z ∷ []) (number_of run)) (Refused from word.Number)) (cond (eqb (word_end run) (length run)) (Ok (Name from run ∷ [])) (refused (from + word_end run) word.Byte)) ≡ Err (Refused from word.Number)
    by_number None e = rw (b, e) refl
    by_number (Some z) e = absurd (n z (number_writes run z e))

no_word : (from : ℕ) (run : List ℕ) → begins_number run ≡ false → word_end run < length run → run_items from run ≡ Err (Refused (from + word_end run) word.Byte)
unfolding run_items
no_word from run b l = let differ : eqb (word_end run) (length run) ≡ false = ne_eqb (word_end run) (length run) (λ e. omega (arith, e, l)) in rw (b, differ) refl

-- the longest front that is a word ends where the refused byte stands
word_here : (front : List ℕ) (b : ℕ) (rest : List ℕ) → (h : GoesOnNoWord front b rest) → word_end (h.known ++ b ∷ h.more) ≡ length h.known
word_here front b rest h =
    let run = h.known ++ b ∷ h.more in
    let low : length h.known ≤ word_end run = ⊎_elim (λ e. none h.known (word_end run) e) (λ w. word_longest h.known (b ∷ h.more) w) h.is_word in
    let high : word_end run ≤ length h.known = ⊎_elim (λ l. absurd (no_longer l)) (λ r. r) (cases_lt (length h.known) (word_end run)) in
    omega (arith, low, high)
  where
    none : (xs : List ℕ) (n : ℕ) → xs ≡ [] → length xs ≤ n
    none [] n e = omega arith
    none (x ∷ xs) n e = cc

    no_longer : length h.known < word_end (h.known ++ b ∷ h.more) → ⊥
    no_longer l =
        ⊎_elim
        (λ z. omega (arith, z, l))
        (λ w. h.longest (word_end (h.known ++ b ∷ h.more)) l (word_end-le (h.known ++ b ∷ h.more)) w)
        (word_front (h.known ++ b ∷ h.more))

word_at : (front : List ℕ) (b : ℕ) (rest : List ℕ) → GoesOnNoWord front b rest → read (front ++ b ∷ rest) ≡ Err (Refused (length front) word.Byte)
word_at front b rest h =
    let run = h.known ++ b ∷ h.more in
    let here = word_here front b rest h in
    let len : length run ≡ length h.known + (1 + length h.more) = omega (arith, length-append h.known (b ∷ h.more)) in
    let place : length h.before + word_end run ≡ length front = omega (arith, here, length-append h.before h.known, ap length h.front_is) in
    let whole : front ++ b ∷ rest ≡ h.before ++ (run ++ h.after) =
    ap (λ xs. xs ++ b ∷ rest) h.front_is ∙ ap (λ ys. (h.before ++ h.known) ++ b ∷ ys) h.rest_is ∙ regrouped h.before h.known h.more h.after b in
    ap read whole ∙ run_at h.before run h.after (Refused (length h.before + word_end run) word.Byte) h.run (no_word (length h.before) run h.no_number (omega (arith, here, len))) ∙
    ap (λ q. Err (Refused q word.Byte)) place
  where
    regrouped : (xs ys zs ws : List ℕ) (b : ℕ) → (xs ++ ys) ++ b ∷ (zs ++ ws) ≡ xs ++ ((ys ++ b ∷ zs) ++ ws)
    regrouped xs ys zs ws b = simp append_assoc

-- a string that is refused

-- the bytes of a string so far
abbrev Seen : ℕ → Mode → List ℕ → Type 0
Seen from Between seen = ⊥
Seen from Comment seen = ⊥
Seen from (Run at run) seen = ⊥
Seen from (Quoted at bytes) seen = (at ≡ from) × (seen ≡ 34 ∷ flat_map string_byte bytes) × AreBytes bytes
Seen from (Escape at bytes) seen = (at ≡ from) × (seen ≡ 34 ∷ (flat_map string_byte bytes ++ 92 ∷ [])) × AreBytes bytes
Seen from (Digit at bytes high) seen =
    (d : ℕ) × (at ≡ from) × (begins_escape d ≡ true) × (hex_value d ≡ high) × (seen ≡ 34 ∷ (flat_map string_byte bytes ++ 92 ∷ d ∷ [])) × AreBytes bytes

zero_byte : string_byte 0 ≡ 92 ∷ 48 ∷ 48 ∷ []
unfolding is_plain
zero_byte = refl

-- they begin some string
begins_string : (from : ℕ) (mode : Mode) (seen : List ℕ) → Seen from mode seen → (bytes : List ℕ) × (more : List ℕ) × AreBytes bytes × (quoted bytes ≡ seen ++ more)
begins_string from Between seen s = absurd s
begins_string from Comment seen s = absurd s
begins_string from (Run at run) seen s = absurd s
begins_string from (Quoted at bytes) seen s = (bytes, 34 ∷ [], s.2, ap (λ xs. xs ++ 34 ∷ []) (sym s.1))
begins_string from (Escape at bytes) seen s = (
  bytes ++ 0 ∷ [],
  48 ∷ 48 ∷ 34 ∷ [],
  AreBytes-append bytes (0 ∷ []) s.2 (omega arith, tt),
  ap (λ xs. 34 ∷ (xs ++ 34 ∷ [])) (flat_map-push bytes 0 ∙ ap (λ ys. flat_map string_byte bytes ++ ys) zero_byte) ∙
      ap (λ xs. 34 ∷ xs) (append_assoc (flat_map string_byte bytes) (92 ∷ 48 ∷ 48 ∷ []) (34 ∷ []) ∙ sym (append_assoc (flat_map string_byte bytes) (92 ∷ []) (48 ∷ 48 ∷ 34 ∷ []))) ∙
      ap (λ xs. xs ++ 48 ∷ 48 ∷ 34 ∷ []) (sym s.1),
)
begins_string from (Digit at bytes high) seen s =
    let l = escapes s.0 s.2 in
    let b = digit_char l.0 in
    let d = digit_of l.0 l.1 in
    let c = 16 * hex_value s.0 + hex_value b in
    let no_plain : is_plain c ≡ false = ap (λ x. is_plain (16 * hex_value s.0 + x)) d.1 ∙ l.2 in
    let byte : string_byte c ≡ 92 ∷ s.0 ∷ b ∷ [] = escape_byte s.0 b s.2 d.0 no_plain in
    let small : c < 256 = omega (arith, (char_of_digit s.0 (begins_escape-hex s.0 s.2)).1, (char_of_digit b d.0).1) in (
      bytes ++ c ∷ [],
      b ∷ 34 ∷ [],
      AreBytes-append bytes (c ∷ []) s.5 (small, tt),
      ap (λ xs. 34 ∷ (xs ++ 34 ∷ [])) (flat_map-push bytes c ∙ ap (λ ys. flat_map string_byte bytes ++ ys) byte) ∙
          ap (λ xs. 34 ∷ xs) (append_assoc (flat_map string_byte bytes) (92 ∷ s.0 ∷ b ∷ []) (34 ∷ []) ∙ sym (append_assoc (flat_map string_byte bytes) (92 ∷ s.0 ∷ []) (b ∷ 34 ∷ []))) ∙
          ap (λ xs. xs ++ b ∷ 34 ∷ []) (sym s.4),
    )

-- where the rest of the part is refused so after each next byte
abbrev GoesOn : ℕ → ℕ → List ℕ → List ℕ → Front → Type 0
GoesOn p from cs rest front =
    (next : Mode) (seen : List ℕ) → Seen from next seen → IsNoString (seen ++ cs) → read_from (p + 1) (cs ++ rest) front next ≡ Err (Refused from word.String)

quoted_step : (p from at c : ℕ) (bytes seen cs rest : List ℕ) (front : Front) → Seen from (Quoted at bytes) seen → IsNoString (seen ++ c ∷ cs) → GoesOn p from cs rest front →
    go_on (p + 1) (cs ++ rest) (in_string c at bytes front) ≡ Err (Refused from word.String)
unfolding in_string
quoted_step p from at c bytes seen cs rest front s n more = by_quote (eqb c 34) refl
  where
    text : List ℕ
    text = flat_map string_byte bytes

    n_next : IsNoString ((seen ++ c ∷ []) ++ cs)
    n_next = subst IsNoString (sym (append_assoc seen (c ∷ []) cs)) n

    by_plain : (v : Bool) → is_plain c ≡ v →
        go_on (p + 1) (cs ++ rest) (cond v (Ok (front, Quoted at (bytes ++ c ∷ []))) (refused at word.String)) ≡ Err (Refused from word.String)
    by_plain true t =
        let same : seen ++ c ∷ [] ≡ 34 ∷ flat_map string_byte (bytes ++ c ∷ []) =
        ap (λ xs. xs ++ c ∷ []) s.1 ∙ ap (λ ys. 34 ∷ (text ++ ys)) (sym (plain_byte c t)) ∙ ap (λ xs. 34 ∷ xs) (sym (flat_map-push bytes c)) in
        more (Quoted at (bytes ++ c ∷ [])) (seen ++ c ∷ []) (s.0, same, AreBytes-append bytes (c ∷ []) s.2 (plain_below c t, tt)) n_next
    by_plain false t = ap (λ q. Err (Refused q word.String)) s.0

    by_backslash : (v : Bool) → eqb c 92 ≡ v →
        go_on (p + 1) (cs ++ rest) (cond v (Ok (front, Escape at bytes)) (cond (is_plain c) (Ok (front, Quoted at (bytes ++ c ∷ []))) (refused at word.String))) ≡ Err (Refused from word.String)
    by_backslash true t =
        let same : seen ++ c ∷ [] ≡ 34 ∷ (text ++ 92 ∷ []) = ap (λ xs. xs ++ c ∷ []) s.1 ∙ ap (λ d. 34 ∷ (text ++ d ∷ [])) (eqb-true c 92 t) in
        more (Escape at bytes) (seen ++ c ∷ []) (s.0, same, s.2) n_next
    by_backslash false t = by_plain (is_plain c) refl

    by_quote : (v : Bool) → eqb c 34 ≡ v →
        go_on (p + 1) (cs ++ rest) (cond v (with_mode Between (with_items front (string_items at bytes))) (cond (eqb c 92) (Ok (front, Escape at bytes)) (cond (is_plain c) (Ok (front, Quoted at (bytes ++ c ∷ []))) (refused at word.String)))) ≡ Err (Refused from word.String)
    by_quote true t =
        let same : seen ++ c ∷ cs ≡ quoted bytes ++ cs =
        ap (λ xs. xs ++ c ∷ cs) s.1 ∙ ap (λ d. 34 ∷ (text ++ d ∷ cs)) (eqb-true c 34 t) ∙ ap (λ xs. 34 ∷ xs) (sym (append_assoc text (34 ∷ []) cs)) in
        absurd ((n bytes cs s.2).1 same)
    by_quote false t = by_backslash (eqb c 92) refl

escape_step : (p from at c : ℕ) (bytes seen cs rest : List ℕ) (front : Front) → Seen from (Escape at bytes) seen → IsNoString (seen ++ c ∷ cs) → GoesOn p from cs rest front →
    go_on (p + 1) (cs ++ rest) (first_digit c at bytes front) ≡ Err (Refused from word.String)
unfolding first_digit
escape_step p from at c bytes seen cs rest front s n more = by_first (begins_escape c) refl
  where
    by_first : (v : Bool) → begins_escape c ≡ v →
        go_on (p + 1) (cs ++ rest) (cond v (Ok (front, Digit at bytes (hex_value c))) (refused at word.String)) ≡ Err (Refused from word.String)
    by_first true t =
        let same = ap (λ xs. xs ++ c ∷ []) s.1 ∙ ap (λ xs. 34 ∷ xs) (append_assoc (flat_map string_byte bytes) (92 ∷ []) (c ∷ [])) in
        more (Digit at bytes (hex_value c)) (seen ++ c ∷ []) (c, s.0, t, refl, same, s.2) (subst IsNoString (sym (append_assoc seen (c ∷ []) cs)) n)
    by_first false t = ap (λ q. Err (Refused q word.String)) s.0

digit_step : (p from at c high : ℕ) (bytes seen cs rest : List ℕ) (front : Front) → Seen from (Digit at bytes high) seen → IsNoString (seen ++ c ∷ cs) → GoesOn p from cs rest front →
    go_on (p + 1) (cs ++ rest) (second_digit c at bytes high front) ≡ Err (Refused from word.String)
unfolding second_digit
digit_step p from at c high bytes seen cs rest front s n more = by_hex (is_hex c) refl
  where
    x : ℕ
    x = 16 * high + hex_value c

    text : List ℕ
    text = flat_map string_byte bytes

    by_plain : (v : Bool) → is_plain (16 * high + hex_value c) ≡ v → is_hex c ≡ true →
        go_on (p + 1) (cs ++ rest) (cond v (refused at word.String) (Ok (front, Quoted at (bytes ++ (16 * high + hex_value c) ∷ [])))) ≡ Err (Refused from word.String)
    by_plain true u t = ap (λ q. Err (Refused q word.String)) s.1
    by_plain false u t =
        let no_plain : is_plain (16 * hex_value s.0 + hex_value c) ≡ false = ap (λ y. is_plain (16 * y + hex_value c)) s.3 ∙ u in
        let byte : string_byte x ≡ 92 ∷ s.0 ∷ c ∷ [] = ap (λ y. string_byte (16 * y + hex_value c)) (sym s.3) ∙ escape_byte s.0 c s.2 t no_plain in
        let first = (char_of_digit s.0 (begins_escape-hex s.0 s.2)).1 in
        let second = (char_of_digit c t).1 in
        let small : x < 256 = omega (arith, first, second, s.3) in
        let same : seen ++ c ∷ [] ≡ 34 ∷ flat_map string_byte (bytes ++ x ∷ []) =
        ap (λ xs. xs ++ c ∷ []) s.4 ∙ ap (λ xs. 34 ∷ xs) (append_assoc text (92 ∷ s.0 ∷ []) (c ∷ []) ∙ ap (λ ys. text ++ ys) (sym byte) ∙ sym (flat_map-push bytes x)) in
        more (Quoted at (bytes ++ x ∷ [])) (seen ++ c ∷ []) (s.1, same, AreBytes-append bytes (x ∷ []) s.5 (small, tt)) (subst IsNoString (sym (append_assoc seen (c ∷ []) cs)) n)

    by_hex : (v : Bool) → is_hex c ≡ v →
        go_on (p + 1) (cs ++ rest) (cond v (cond (is_plain (16 * high + hex_value c)) (refused at word.String) (Ok (front, Quoted at (bytes ++ (16 * high + hex_value c) ∷ [])))) (refused at word.String)) ≡ Err (Refused from word.String)
    by_hex true t = by_plain (is_plain (16 * high + hex_value c)) refl t
    by_hex false t = ap (λ q. Err (Refused q word.String)) s.1

string_step : (p from c : ℕ) (seen cs rest : List ℕ) (front : Front) (mode : Mode) → Seen from mode seen → IsNoString (seen ++ c ∷ cs) → GoesOn p from cs rest front →
    read_from p (c ∷ (cs ++ rest)) front mode ≡ Err (Refused from word.String)
string_step p from c seen cs rest front Between s n more = absurd s
string_step p from c seen cs rest front Comment s n more = absurd s
string_step p from c seen cs rest front (Run at run) s n more = absurd s
string_step p from c seen cs rest front (Quoted at bytes) s n more = ap (go_on (p + 1) (cs ++ rest)) (step_string p c at bytes front) ∙ quoted_step p from at c bytes seen cs rest front s n more
string_step p from c seen cs rest front (Escape at bytes) s n more = ap (go_on (p + 1) (cs ++ rest)) (step_escape p c at bytes front) ∙ escape_step p from at c bytes seen cs rest front s n more
string_step p from c seen cs rest front (Digit at bytes high) s n more = ap (go_on (p + 1) (cs ++ rest)) (step_digit p c at bytes high front) ∙ digit_step p from at c high bytes seen cs rest front s n more

string_reads : (inner rest : List ℕ) (p from : ℕ) (front : Front) (mode : Mode) (seen : List ℕ) → Seen from mode seen → IsNoString (seen ++ inner) →
    read_from p (inner ++ rest) front mode ≡ Err (Refused from word.String)
string_reads [] rest p from front mode seen s n =
    let b = begins_string from mode seen s in absurd ((n b.0 b.1 b.2).0 (b.3 ∙ ap (λ xs. xs ++ b.1) (sym (append-nil seen))))
string_reads (c ∷ cs) rest p from front mode seen s n =
    string_step p from c seen cs rest front mode s n (λ next more t m. string_reads cs rest (p + 1) from front next more t m)

quote_ends : is_run 34 ≡ false
unfolding is_run is_name_byte is_sign
quote_ends = refl

open_ends : is_run 40 ≡ false
unfolding is_run is_name_byte is_sign
open_ends = refl

-- a string begins inside a list
quote_at : (front more : List ℕ) (depth : ℕ) → IsInside depth front →
    (inside : Front) × (read (front ++ 34 ∷ more) ≡ read_from (length front + 1) more inside (Quoted (length front) []))
quote_at front more depth h =
    let i = inside_at depth front h in
    let p = length front in
    (Inside i.0 i.1, i.3.0 (34 ∷ more) quote_ends ∙ ap (go_on (p + 1) more) (step_quote p (Inside i.0 i.1) ∙ begun_inside p i.1 (Quoted p []) i.0))

string_at : (front inner rest : List ℕ) (depth : ℕ) → IsInside depth front → IsNoString (34 ∷ inner) → read (front ++ 34 ∷ (inner ++ rest)) ≡ Err (Refused (length front) word.String)
string_at front inner rest depth h n =
    let q = quote_at front (inner ++ rest) depth h in
    q.1 ∙ string_reads inner rest (length front + 1) (length front) q.0 (Quoted (length front) []) (34 ∷ []) (refl, refl, tt) n

no_utf8 : (from : ℕ) (bytes : List ℕ) (front : Front) → (IsUtf8 bytes → ⊥) → in_string 34 from bytes front ≡ Err (Refused from word.Utf8)
unfolding in_string string_items
no_utf8 from bytes front n = by_utf8 (is_utf8 bytes) refl
  where
    by_utf8 : (v : Bool) → is_utf8 bytes ≡ v → with_mode Between (with_items front (cond v (Ok (Quote from bytes ∷ [])) (refused from word.Utf8))) ≡ Err (Refused from word.Utf8)
    by_utf8 true t = absurd (n (IsUtf8-from_is_utf8 bytes t))
    by_utf8 false t = refl

utf8_at : (front bytes rest : List ℕ) (depth : ℕ) → IsInside depth front → AreBytes bytes → (IsUtf8 bytes → ⊥) → read (front ++ (quoted bytes ++ rest)) ≡ Err (Refused (length front) word.Utf8)
utf8_at front bytes rest depth h small n =
    let p = length front in
    let text = flat_map string_byte bytes in
    let q = quote_at front ((text ++ 34 ∷ []) ++ rest) depth h in
    q.1 ∙ ap (λ bs. read_from (p + 1) bs q.0 (Quoted p [])) (append_assoc text (34 ∷ []) rest) ∙
    bytes_read bytes (34 ∷ rest) p (p + 1) [] q.0 small ∙
    ap (go_on (p + 1 + length text + 1) rest) (step_string (p + 1 + length text) 34 p bytes q.0 ∙ no_utf8 p bytes q.0 n)

-- ---- each fault

byte_at : (front part rest : List ℕ) → IsRefusedAs word.Byte front part rest → read (front ++ (part ++ rest)) ≡ Err (Refused (length front) word.Byte)
byte_at front part rest h =
    let p = length front in
    let b = h.0 in
    ap (λ ps. read (front ++ (ps ++ rest))) h.1 ∙
    ⊎_elim
    (λ n. ⊎_elim
    (λ o. reach_read front (b ∷ rest) Before Between (before_at front o) ∙ fails p b rest Before (Refused p word.Byte) (nothing_refused p b Before n.0))
    (λ o. ⊎_elim
    (λ a. let s = after_at front a in reach_read front (b ∷ rest) (After s.0) Between s.1 ∙ fails p b rest (After s.0) (Refused p word.Byte) (nothing_refused p b (After s.0) n.0))
    (λ d. let i = inside_at d.0 front d.1 in i.3.0 (b ∷ rest) n.0.run ∙ fails p b rest (Inside i.0 i.1) (Refused p word.Byte) (nothing_refused p b (Inside i.0 i.1) n.0))
    o)
    n.1)
    (λ o. ⊎_elim
    (λ q. reach_read front (b ∷ rest) Before Between (before_at front q.1) ∙ fails p b rest Before (Refused p word.Byte) (part_before p b q.0))
    (λ w. word_at front b rest w)
    o)
    h.2

close_at : (front part rest : List ℕ) → IsRefusedAs word.Close front part rest → read (front ++ (part ++ rest)) ≡ Err (Refused (length front) word.Close)
close_at front part rest h =
    let p = length front in
    ap (λ ps. read (front ++ (ps ++ rest))) h.0 ∙
    ⊎_elim
    (λ o. reach_read front (41 ∷ rest) Before Between (before_at front o) ∙ fails p 41 rest Before (Refused p word.Close) (close_before p))
    (λ a. let s = after_at front a in reach_read front (41 ∷ rest) (After s.0) Between s.1 ∙ fails p 41 rest (After s.0) (Refused p word.Close) (close_after p s.0))
    h.1

rest_at : (front part rest : List ℕ) → IsRefusedAs word.Rest front part rest → read (front ++ (part ++ rest)) ≡ Err (Refused (length front) word.Rest)
rest_at front part rest h =
    let p = length front in
    let s = after_at front h.3 in
    ap (λ ps. read (front ++ (ps ++ rest))) h.1 ∙ reach_read front (h.0 ∷ rest) (After s.0) Between s.1 ∙ fails p h.0 rest (After s.0) (Refused p word.Rest) (part_after p h.0 s.0 h.2)

by_word : (w : TextWord) (front part rest : List ℕ) → IsRefusedAs w front part rest → read (front ++ (part ++ rest)) ≡ Err (Refused (length front) w)
by_word word.Byte front part rest h = byte_at front part rest h
by_word word.Close front part rest h = close_at front part rest h
by_word word.Number front part rest h = run_at front part rest (Refused (length front) word.Number) h.0 (no_number (length front) part h.1 h.2)
by_word word.String front part rest h =
    ap (λ ps. read (front ++ (ps ++ rest))) h.3 ∙ string_at front h.1 rest h.0 h.2 (subst IsNoString h.3 h.4)
by_word word.Utf8 front part rest h = ap (λ ps. read (front ++ (ps ++ rest))) h.4 ∙ utf8_at front h.1 rest h.0 h.2 h.3 h.5
by_word word.Rest front part rest h = rest_at front part rest h
by_word word.End front part rest h = absurd h
by_word word.Form front part rest h = absurd h
by_word word.Name front part rest h = absurd h

by_limit : (w : LimitWord) (front part rest : List ℕ) → IsLimitAs w front part → read (front ++ (part ++ rest)) ≡ Err (Limit (length front) w)
by_limit Nesting front part rest h =
    let p = length front in
    let i = inside_at h.1.0 front h.1.2 in
    ap (λ ps. read (front ++ (ps ++ rest))) h.0 ∙ i.3.0 (40 ∷ rest) open_ends ∙
    fails p 40 rest (Inside i.0 i.1) (Limit p Nesting) (open_full p i.1 i.0 (subst (λ n. 500 ≤ n) i.2 h.1.1))
by_limit other front part rest h = absurd h

by_fault : (fault : TextFault) (front part rest : List ℕ) → place_of fault ≡ length front → IsRefused fault front part rest → read (front ++ (part ++ rest)) ≡ Err fault
by_fault (Refused at w) front part rest p h = by_word w front part rest h ∙ ap (λ q. Err (Refused q w)) (sym p)
by_fault (Limit at w) front part rest p h = by_limit w front part rest h ∙ ap (λ q. Err (Limit q w)) (sym p)
by_fault OutOfMemory front part rest p h = absurd h

-- where a text is refused so, reading gives that fault
pub refusal_read : (text : List ℕ) (fault : TextFault) → Refusal text fault → read text ≡ Err fault
refusal_read text fault h = ap read h.whole ∙ by_fault fault h.front h.part h.rest h.place h.refused_so

-- so a text is refused so at most once
pub one_refusal : (text : List ℕ) (fault other : TextFault) → Refusal text fault → Refusal text other → fault ≡ other
one_refusal text fault other h k = same (refusal_read text fault h) (refusal_read text other k)
  where
    same : read text ≡ Err fault → read text ≡ Err other → fault ≡ other
    same e f = cc
