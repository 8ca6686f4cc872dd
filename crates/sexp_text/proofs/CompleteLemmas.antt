-- What is spelled so is read.
use Rattle.std.proofs.Common.{◌≡◌, ℕ, ◌+◌, ◌<◌, List, [], ◌∷◌, ◌++◌, length, Ok, refl, sym, ap, ◌∙◌, subst, length-append, arith}
use Rattle.sexp_text.specs.declared.reader.Mode.TheVariants.{Between}
use Rattle.sexp_text.specs.declared.sexp.Sexp.{Sexp}
use Rattle.sexp_text.specs.Items.{Item, Open, Close, Number, Name, Quote, items_of}
use Rattle.sexp_text.specs.Reading.{◌>>=◌, Front, Before, Inside, After, opened, closed, run_items, read_from, read}
use Rattle.sexp_text.specs.Spelling.{quoted, EndsRun, Marks, StandsAt, StandsApart, Spelled, SexpSpells}
use Rattle.sexp_text.proofs.NumberLemmas.{writes_number, number_items, writes_word, word_items}
use Rattle.sexp_text.proofs.PutLemmas.{put_part, put, puts, bound, whole_puts}
use Rattle.sexp_text.proofs.ReadLemmas.{AreRun, go_on, go_on-mode, step_open, step_close, place, gap_read, last_gap_read, run_read, string_read}

-- what a part does where it is put stands in a list
part_inside : (x : Item) (front g : Front) → put_part x front ≡ Ok g →
    (items : List Item) × (k : ℕ) × (front ≡ Inside items k) × (g ≡ Inside (items ++ x ∷ []) k)
part_inside x Before g e = cc
part_inside x (Inside items k) g e = (items, k, refl, cc)
part_inside x (After items) g e = cc

-- a run that is spelled is read
run_mark : (x : Item) (mark rest : List ℕ) (p : ℕ) (front g : Front) → AreRun mark → 0 < length mark → EndsRun rest →
    run_items p mark ≡ Ok (x ∷ []) → put_part x front ≡ Ok g →
    read_from p (mark ++ rest) front Between ≡ read_from (p + length mark) rest g Between
run_mark x [] rest p front g run some ends e put = absurd (omega arith)
run_mark x (b ∷ bs) rest p front g run some ends e put =
    let i = part_inside x front g put in
    ap (λ f. read_from p (b ∷ (bs ++ rest)) f Between) i.2 ∙
    run_read b bs rest p i.1 i.0 (x ∷ []) run ends e ∙
    ap (λ f. read_from (p + length (b ∷ bs)) rest f Between) (sym i.3)

mark_read : (x : Item) (mark rest : List ℕ) (n p : ℕ) (front g : Front) →
    Marks x mark → StandsAt n x (mark ++ rest) → StandsApart x rest → p + length (mark ++ rest) ≡ n → put x front ≡ Ok g →
    read_from p (mark ++ rest) front Between ≡ read_from (p + length mark) rest g Between
mark_read (Open at) mark rest n p front g m s a l e =
    let here : at ≡ p = omega arith in
    let e1 : opened p front ≡ Ok g = subst (λ q. opened q front ≡ Ok g) here e in
    ap (λ bs. read_from p (bs ++ rest) front Between) m ∙
    ap (go_on (p + 1) rest) (step_open p front) ∙ go_on-mode (p + 1) rest Between (opened p front) ∙
    ap (λ r. r >>= λ f. read_from (p + 1) rest f Between) e1 ∙
    place _ _ rest g Between (ap (λ bs. p + length bs) (sym m))
mark_read (Close at) mark rest n p front g m s a l e =
    let here : at ≡ p = omega arith in
    let e1 : closed p front ≡ Ok g = subst (λ q. closed q front ≡ Ok g) here e in
    ap (λ bs. read_from p (bs ++ rest) front Between) m ∙
    ap (go_on (p + 1) rest) (step_close p front) ∙ go_on-mode (p + 1) rest Between (closed p front) ∙
    ap (λ r. r >>= λ f. read_from (p + 1) rest f Between) e1 ∙
    place _ _ rest g Between (ap (λ bs. p + length bs) (sym m))
mark_read (Number at z) mark rest n p front g m s a l e =
    let here : p ≡ at = omega arith in
    let reads = writes_number mark z m in
    run_mark (Number at z) mark rest p front g reads.bytes reads.some a (ap (λ q. run_items q mark) here ∙ number_items at mark z reads) e
mark_read (Name at w) mark rest n p front g m s a l e =
    let here : p ≡ at = omega arith in
    let reads = writes_word w m.1 in
    ap (λ bs. read_from p (bs ++ rest) front Between) m.0 ∙
    run_mark (Name at w) w rest p front g reads.bytes reads.some a (ap (λ q. run_items q w) here ∙ word_items at w reads) e ∙
    place _ _ rest g Between (ap (λ bs. p + length bs) (sym m.0))
mark_read (Quote at bytes) mark rest n p front g m s a l e =
    let here : p ≡ at = omega arith in
    let i = part_inside (Quote at bytes) front g e in
    ap (λ bs. read_from p (bs ++ rest) front Between) m.0 ∙
    ap (λ f. read_from p (quoted bytes ++ rest) f Between) i.2 ∙
    string_read bytes rest p i.1 i.0 m.1 ∙
    ap (λ q. read_from (p + length (quoted bytes)) rest (Inside (i.0 ++ Quote q bytes ∷ []) i.1) Between) here ∙
    ap (λ f. read_from (p + length (quoted bytes)) rest f Between) (sym i.3) ∙
    place _ _ rest g Between (ap (λ bs. p + length bs) (sym m.0))

pub spelled_read : (xs : List Item) (text : List ℕ) (n p : ℕ) (front : Front) (all : List Item) →
    Spelled n text xs → p + length text ≡ n → puts xs front ≡ Ok (After all) → read_from p text front Between ≡ Ok all
spelled_read [] text n p front all s l e =
    let done : front ≡ After all = cc in
    ap (λ f. read_from p text f Between) done ∙ last_gap_read text all p s
spelled_read (x ∷ xs) text n p front all s l e =
    let first = bound (put x front) (puts xs) (After all) e in
    let g = first.0 in
    let gap = s.0 in
    let mark = s.1 in
    let rest = s.2 in
    let whole : length text ≡ length gap + length (mark ++ rest) = ap length s.3 ∙ length-append gap (mark ++ rest) in
    let after : length (mark ++ rest) ≡ length mark + length rest = length-append mark rest in
    let at_mark : (p + length gap) + length (mark ++ rest) ≡ n = omega (arith, whole, l) in
    let at_rest : ((p + length gap) + length mark) + length rest ≡ n = omega (arith, at_mark, after) in
    ap (λ bs. read_from p bs front Between) s.3 ∙ gap_read s.4 (mark ++ rest) p front ∙
    mark_read x mark rest n (p + length gap) front g s.5 s.6 s.7 at_mark first.1 ∙
    spelled_read xs rest n ((p + length gap) + length mark) g all s.8 at_rest first.2

-- a value that a text spells is what is read
pub read-spelled : (text : List ℕ) (s : Sexp) → SexpSpells text s → read text ≡ Ok (items_of s)
unfolding SexpSpells read
read-spelled text s h = spelled_read (items_of s) text (length text) 0 Before (items_of s) h.2 (omega arith) (whole_puts s h.0 h.1)
