-- Exact readers: what is read is so by the grammar, and what is so by the grammar is read.
use Rattle.std.proofs.Common.{◌≡◌, ℕ, ◌≤◌, Bool, true, false, cond, ◌&&◌, nat_le, List, [], ◌∷◌, ◌++◌, Option, Some, None, Result, Ok, Err, pos, negsuc, refl, sym, ap, ◌∙◌, subst, append_assoc, append-nil, arith}
use Rattle.std.specs.Str.{bytes_eq}
use Rattle.std.proofs.lemmas.Slice.Eq.{bytes_eq-Decides}
use Rattle.sexp_text.specs.declared.fault.TextFault.{TextFault}
use Rattle.sexp_text.specs.declared.fault.TextFault.TheVariants.{Refused}
use Rattle.sexp_text.specs.declared.fault.TextWord.TheVariants as fault
use Rattle.sexp_text.specs.declared.sexp.Node.{Node, Num, Word, Str, List'}
use Rattle.sexp_text.specs.declared.sexp.Sexp.{Sexp}
use Rattle.sexp_text.specs.Reading.{◌>>=◌}
use Rattle.script_text.specs.Names.{is_among, is_name}
use Rattle.script_text.specs.Parts.{parts_of}
use Rattle.script_text.specs.Grammar.{Row, End, Then, Each, Listed, IsList, IsWord, IsString, IsStringAt, IsNumber, IsKnown, IsNew}
use Rattle.script_text.specs.Reading.{form, next, ended, or_form, inside, word_of, word, string_of, string, number_between, number_of, number, name, known, fresh, tagged, is_same_word, begins_with, has_tag, is_tagged, all_from}

pub bound : {A B : Type 0} (r : Result A TextFault) (f : A → Result B TextFault) (y : B) → (r >>= f) ≡ Ok y → (x : A) × (r ≡ Ok x) × (f x ≡ Ok y)
bound (Ok x) f y e = (x, refl, e)
bound (Err d) f y e = absurd cc

pub goes : {A B : Type 0} (r : Result A TextFault) (f : A → Result B TextFault) (x : A) (y : B) → r ≡ Ok x → f x ≡ Ok y → (r >>= f) ≡ Ok y
goes r f x y e d = ap (λ s. s >>= f) e ∙ d

pub ok_same : {A : Type 0} (x y : A) → ◌≡◌ {A = Result A TextFault} (Ok x) (Ok y) → x ≡ y
ok_same x y e = cc

pub record Exact {A : Type 0} (read : Sexp → Result A TextFault) (Is : A → Sexp → Type 0) : Type 0 where
  pub sound : (s : Sexp) (a : A) → read s ≡ Ok a → Is a s
  pub whole : (s : Sexp) (a : A) → Is a s → read s ≡ Ok a

-- ---- words, strings and numbers

word_at : (at : ℕ) (n : Node) (w : List ℕ) → or_form at (word_of n) ≡ Ok w → n ≡ Word w
word_at at (Num z) w e = absurd cc
word_at at (Word v) w e = ap Word (ok_same v w e)
word_at at (Str s) w e = absurd cc
word_at at (List' shape parts close) w e = absurd cc

pub word_exact : Exact word IsWord
unfolding word
word_exact = record { sound = λ s w e. word_at s.at s.node w e; whole = λ s w e. ap (λ n. or_form s.at (word_of n)) e }

string_at : (at : ℕ) (n : Node) (w : List ℕ) → or_form at (string_of n) ≡ Ok w → n ≡ Str w
string_at at (Num z) w e = absurd cc
string_at at (Word v) w e = absurd cc
string_at at (Str v) w e = ap Str (ok_same v w e)
string_at at (List' shape parts close) w e = absurd cc

pub string_exact : Exact string IsString
unfolding string
string_exact = record { sound = λ s w e. string_at s.at s.node w e; whole = λ s w e. ap (λ n. or_form s.at (string_of n)) e }

pub both : (x y : Bool) → (x && y) ≡ true → (x ≡ true) × (y ≡ true)
both true y e = (refl, e)
both false y e = absurd cc

between_at : (at least greatest n m : ℕ) → or_form at (number_between least greatest (pos n)) ≡ Ok m → (n ≡ m) × (least ≤ n) × (n ≤ greatest)
between_at at least greatest n m e = by (nat_le least n && nat_le n greatest) refl e
  where
    by : (b : Bool) → (nat_le least n && nat_le n greatest) ≡ b → or_form at (cond b (Some n) None) ≡ Ok m → (n ≡ m) × (least ≤ n) × (n ≤ greatest)
    by true t e = let p = both (nat_le least n) (nat_le n greatest) t in (ok_same n m e, grind (arith, p.0), grind (arith, p.1))
    by false t e = absurd cc

number_at : (at least greatest : ℕ) (n : Node) (m : ℕ) → or_form at (number_of least greatest n) ≡ Ok m → (n ≡ Num (pos m)) × (least ≤ m) × (m ≤ greatest)
number_at at least greatest (Num (pos n)) m e =
    let t = between_at at least greatest n m e in
    (ap (λ k. Num (pos k)) t.0, subst (λ k. least ≤ k) t.0 t.1, subst (λ k. k ≤ greatest) t.0 t.2)
number_at at least greatest (Num (negsuc n)) m e = absurd cc
number_at at least greatest (Word v) m e = absurd cc
number_at at least greatest (Str v) m e = absurd cc
number_at at least greatest (List' shape parts close) m e = absurd cc

pub number_exact : (least greatest : ℕ) → Exact (number least greatest) (IsNumber least greatest)
unfolding number
number_exact least greatest = record { sound = sound; whole = whole }
  where
    sound : (s : Sexp) (m : ℕ) → or_form s.at (number_of least greatest s.node) ≡ Ok m → IsNumber least greatest m s
    sound s m e = let t = number_at s.at least greatest s.node m e in record { number = t.0; no_less = t.1; no_more = t.2 }

    inside_so : (at n : ℕ) → least ≤ n → n ≤ greatest → or_form at (number_between least greatest (pos n)) ≡ Ok n
    inside_so at n h k = grind arith

    whole : (s : Sexp) (m : ℕ) → IsNumber least greatest m s → or_form s.at (number_of least greatest s.node) ≡ Ok m
    whole s m h = ap (λ n. or_form s.at (number_of least greatest n)) h.number ∙ inside_so s.at m h.no_less h.no_more

-- ---- names

abbrev IsName : List ℕ → Sexp → Type 0
IsName n s = IsWord n s × (is_name n ≡ true)

pub name_exact : Exact name IsName
unfolding name
name_exact = record { sound = sound; whole = whole }
  where
    tested : (at : ℕ) (b : Bool) (w n : List ℕ) → is_name w ≡ b → cond b (Ok w) (form at) ≡ Ok n → (w ≡ n) × (is_name n ≡ true)
    tested at true w n t e = let same = ok_same w n e in (same, ap is_name (sym same) ∙ t)
    tested at false w n t e = absurd cc

    sound : (s : Sexp) (n : List ℕ) → (word s >>= λ w. cond (is_name w) (Ok w) (form s.at)) ≡ Ok n → IsName n s
    sound s n e =
        let t = bound (word s) (λ w. cond (is_name w) (Ok w) (form s.at)) n e in
        let u = tested s.at (is_name t.0) t.0 n refl t.2 in
        (subst (λ w. IsWord w s) u.0 (word_exact.sound s t.0 t.1), u.1)

    whole : (s : Sexp) (n : List ℕ) → IsName n s → (word s >>= λ w. cond (is_name w) (Ok w) (form s.at)) ≡ Ok n
    whole s n h = goes (word s) (λ w. cond (is_name w) (Ok w) (form s.at)) n n (word_exact.whole s n h.0) (ap (λ b. cond b (Ok n) (form s.at)) h.1)

-- a test that lets its value through, or refuses it
let_through : {A : Type 0} (b : Bool) (w n : A) (fault : TextFault) → cond b (Ok w) (Err fault) ≡ Ok n → (b ≡ true) × (w ≡ n)
let_through true w n fault e = (refl, ok_same w n e)
let_through false w n fault e = absurd cc

let_through_else : {A : Type 0} (b : Bool) (w n : A) (fault : TextFault) → cond b (Err fault) (Ok w) ≡ Ok n → (b ≡ false) × (w ≡ n)
let_through_else true w n fault e = absurd cc
let_through_else false w n fault e = (refl, ok_same w n e)

pub known_exact : (names : List (List ℕ)) → Exact (known names) (IsKnown names)
unfolding known
known_exact names = record { sound = sound; whole = whole }
  where
    sound : (s : Sexp) (n : List ℕ) → (name s >>= λ n. cond (is_among names n) (Ok n) (Err (Refused s.at fault.Name))) ≡ Ok n → IsKnown names n s
    sound s n e =
        let t = bound (name s) _ n e in
        let u = let_through (is_among names t.0) t.0 n (Refused s.at fault.Name) t.2 in
        let P : List ℕ → Type 0 = λ w. IsKnown names w s in
        let h = name_exact.sound s t.0 t.1 in
        subst P u.1 (h.0, h.1, u.0)

    whole : (s : Sexp) (n : List ℕ) → IsKnown names n s → (name s >>= λ n. cond (is_among names n) (Ok n) (Err (Refused s.at fault.Name))) ≡ Ok n
    whole s n h = goes (name s) _ n n (name_exact.whole s n (h.0, h.1)) (ap (λ b. cond b (Ok n) (Err (Refused s.at fault.Name))) h.2)

pub fresh_exact : (names : List (List ℕ)) → Exact (fresh names) (IsNew names)
unfolding fresh
fresh_exact names = record { sound = sound; whole = whole }
  where
    sound : (s : Sexp) (n : List ℕ) → (name s >>= λ n. cond (is_among names n) (Err (Refused s.at fault.Name)) (Ok n)) ≡ Ok n → IsNew names n s
    sound s n e =
        let t = bound (name s) _ n e in
        let u = let_through_else (is_among names t.0) t.0 n (Refused s.at fault.Name) t.2 in
        let P : List ℕ → Type 0 = λ w. IsNew names w s in
        let h = name_exact.sound s t.0 t.1 in
        subst P u.1 (h.0, h.1, u.0)

    whole : (s : Sexp) (n : List ℕ) → IsNew names n s → (name s >>= λ n. cond (is_among names n) (Err (Refused s.at fault.Name)) (Ok n)) ≡ Ok n
    whole s n h = goes (name s) _ n n (name_exact.whole s n (h.0, h.1)) (ap (λ b. cond b (Err (Refused s.at fault.Name)) (Ok n)) h.2)

-- ---- parts, one after another

pub then_from : (First : Sexp → Type 0) (Rest : Row) {s : Sexp} {rest ps : List Sexp} → ps ≡ s ∷ rest → First s → Rest rest → Then First Rest ps
then_from First Rest e f r = let P : List Sexp → Type 0 = Then First Rest in subst P (sym e) (f, r)

pub field_sound : {A B : Type 0} {read : Sexp → Result A TextFault} {Is : A → Sexp → Type 0} → Exact read Is →
    (close : ℕ) (ps : List Sexp) (k : Sexp × List Sexp → A → Result B TextFault) (y : B) →
    (next close ps >>= λ i. read i.0 >>= λ x. k i x) ≡ Ok y →
    (s : Sexp) × (rest : List Sexp) × (x : A) × (ps ≡ s ∷ rest) × Is x s × (k (s, rest) x ≡ Ok y)
field_sound x close [] k y e = absurd cc
field_sound {A} {B} {read} {Is} x close (s ∷ rest) k y e =
    let t = bound (read s) (λ a. k (s, rest) a) y e in
    (s, rest, t.0, refl, x.sound s t.0 t.1, t.2)

pub field_whole : {A B : Type 0} {read : Sexp → Result A TextFault} {Is : A → Sexp → Type 0} → Exact read Is →
    (close : ℕ) (ps : List Sexp) (k : Sexp × List Sexp → A → Result B TextFault) (y : B) (Rest : Row) (x : A) → Then (Is x) Rest ps →
    ((s : Sexp) (rest : List Sexp) → Is x s → Rest rest → k (s, rest) x ≡ Ok y) →
    (next close ps >>= λ i. read i.0 >>= λ x. k i x) ≡ Ok y
field_whole x close [] k y Rest a h more = absurd h
field_whole {A} {B} {read} {Is} x close (s ∷ rest) k y Rest a h more =
    goes (read s) (λ a. k (s, rest) a) a y (x.whole s a h.0) (more s rest h.0 h.1)

-- the same of a string at a place
pub string_whole : {B : Type 0} (close : ℕ) (ps : List Sexp) (k : Sexp × List Sexp → List ℕ → Result B TextFault) (y : B) (Rest : Row) (text : List ℕ) (at : ℕ) →
    Then (IsStringAt text at) Rest ps → ((s : Sexp) (rest : List Sexp) → s.at ≡ at → Rest rest → k (s, rest) text ≡ Ok y) →
    (next close ps >>= λ i. string i.0 >>= λ x. k i x) ≡ Ok y
string_whole close [] k y Rest text at h more = absurd h
string_whole {B} close (s ∷ rest) k y Rest text at h more =
    goes (string s) (λ a. k (s, rest) a) text y (string_exact.whole s text h.0.0) (more s rest h.0.1 h.1)

pub ended_sound : (ps : List Sexp) (d : Unit {0}) → ended ps ≡ Ok d → End ps
ended_sound [] d e = tt
ended_sound (s ∷ ss) d e = absurd cc

pub ended_whole : {B : Type 0} (ps : List Sexp) (k : Unit {0} → Result B TextFault) (y : B) → End ps → k tt ≡ Ok y → (ended ps >>= k) ≡ Ok y
ended_whole [] k y h e = e
ended_whole (s ∷ ss) k y h e = absurd h

pub all_sound : {A : Type 0} {read : Sexp → Result A TextFault} {Is : A → Sexp → Type 0} → Exact read Is → (before : List A) (ss : List Sexp) (ys : List A) →
    all_from read before ss ≡ Ok ys → (xs : List A) × (ys ≡ before ++ xs) × Each Is xs ss
all_sound x before [] ys e = ([], sym (ok_same before ys e) ∙ sym (append-nil before), tt)
all_sound {A} {read} {Is} x before (s ∷ ss) ys e =
    let t = bound (read s) (λ a. all_from read (before ++ a ∷ []) ss) ys e in
    let more = all_sound x (before ++ t.0 ∷ []) ss ys t.2 in
    (t.0 ∷ more.0, more.1 ∙ append_assoc before (t.0 ∷ []) more.0, (x.sound s t.0 t.1, more.2))

pub all_whole : {A : Type 0} {read : Sexp → Result A TextFault} {Is : A → Sexp → Type 0} → Exact read Is → (before : List A) (ss : List Sexp) (xs : List A) →
    Each Is xs ss → all_from read before ss ≡ Ok (before ++ xs)
all_whole x before [] [] h = ap Ok (sym (append-nil before))
all_whole x before (s ∷ ss) [] h = absurd h
all_whole x before [] (a ∷ more) h = absurd h
all_whole {A} {read} {Is} x before (s ∷ ss) (a ∷ more) h =
    goes (read s) (λ a. all_from read (before ++ a ∷ []) ss) a (before ++ a ∷ more) (x.whole s a h.0)
    (all_whole x (before ++ a ∷ []) ss more h.1 ∙ ap Ok (append_assoc before (a ∷ []) more))

-- ---- lists that begin with a word

same_of : (v w : List ℕ) → bytes_eq v w ≡ true → v ≡ w
same_of v w e = (bytes_eq-Decides v w).0 e

same_self : (w : List ℕ) → bytes_eq w w ≡ true
same_self w = (bytes_eq-Decides w w).1 refl

abbrev parts_tagged : List ℕ → List Sexp × ℕ → Result (List Sexp × ℕ) TextFault
parts_tagged tag l = next l.1 l.0 >>= λ f. word f.0 >>= λ w. cond (bytes_eq w tag) (Ok (f.1, l.1)) (form f.0.at)

pub tagged_sound : (tag : List ℕ) (s : Sexp) (l : List Sexp × ℕ) → tagged tag s ≡ Ok l → (Rest : Row) → Rest l.0 → IsList (Then (IsWord tag) Rest) s
unfolding tagged inside
tagged_sound tag s l e Rest h = by (parts_of s.node) e
  where
    by_parts : (ps : List Sexp) (close : ℕ) → parts_tagged tag (ps, close) ≡ Ok l → Then (IsWord tag) Rest ps
    by_parts ps close e =
        let t = field_sound word_exact close ps (λ f w. cond (bytes_eq w tag) (Ok (f.1, close)) (form f.0.at)) l e in
        let u = let_through (bytes_eq t.2 tag) (t.1, close) l (Refused t.0.at fault.Form) t.5 in
        let P : List ℕ → Type 0 = λ w. IsWord w t.0 in
        let Q : List Sexp × ℕ → Type 0 = λ m. Rest m.0 in
        then_from (IsWord tag) (Rest) t.3 (subst P (same_of t.2 tag u.0) t.4) (subst Q (sym u.1) h)

    by : (o : Option (List Sexp × ℕ)) → (or_form s.at o >>= λ l. parts_tagged tag l) ≡ Ok l → Listed (Then (IsWord tag) Rest) o
    by None e = absurd cc
    by (Some m) e = by_parts m.0 m.1 e

pub tagged_whole : {B : Type 0} (tag : List ℕ) (s : Sexp) (k : List Sexp × ℕ → Result B TextFault) (y : B) (Rest : Row) → IsList (Then (IsWord tag) Rest) s →
    ((l : List Sexp × ℕ) → Rest l.0 → k l ≡ Ok y) → (tagged tag s >>= k) ≡ Ok y
unfolding tagged inside
tagged_whole {B} tag s k y Rest h more =
    let t = by (parts_of s.node) h in
    goes (tagged tag s) k t.0 y t.1 (more t.0 t.2)
  where
    by : (o : Option (List Sexp × ℕ)) → Listed (Then (IsWord tag) Rest) o → (l : List Sexp × ℕ) × ((or_form s.at o >>= λ l. parts_tagged tag l) ≡ Ok l) × Rest l.0
    by None h = absurd h
    by (Some m) h = by_parts m.0 m.1 h
      where
        by_parts : (ps : List Sexp) (close : ℕ) → Then (IsWord tag) Rest ps → (l : List Sexp × ℕ) × (parts_tagged tag (ps, close) ≡ Ok l) × Rest l.0
        by_parts [] close h = absurd h
        by_parts (f ∷ ps) close h =
            ((ps, close), goes (word f) (λ w. cond (bytes_eq w tag) (Ok (ps, close)) (form f.at)) tag (ps, close) (word_exact.whole f tag h.0) (ap (λ b. cond b (Ok (ps, close)) (form f.at)) (same_self tag)), h.1)

-- a list that begins with one word begins with another exactly where the two are the same
pub tagged_is : (tag w : List ℕ) (s : Sexp) (Rest : Row) → IsList (Then (IsWord w) Rest) s → is_tagged tag s ≡ bytes_eq w tag
unfolding is_tagged
tagged_is tag w s Rest h = by (parts_of s.node) h
  where
    by : (o : Option (List Sexp × ℕ)) → Listed (Then (IsWord w) Rest) o → has_tag tag o ≡ bytes_eq w tag
    by None h = absurd h
    by (Some m) h = by_parts m.0 h
      where
        by_parts : (ps : List Sexp) → Then (IsWord w) Rest ps → begins_with tag ps ≡ bytes_eq w tag
        by_parts [] h = absurd h
        by_parts (f ∷ ps) h = ap (λ n. is_same_word tag (word_of n)) h.0
