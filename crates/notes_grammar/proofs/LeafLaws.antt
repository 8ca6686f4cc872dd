-- Numbers, words and places are read exactly.
use Rattle.std.proofs.Common.{◌≡◌, ℕ, ℤ, pos, negsuc, Bool, true, false, cond, List, [], ◌∷◌, Result, Ok, refl, sym, ap, ◌∙◌, subst}
use Rattle.sexp_text.specs.declared.fault.TextFault.{TextFault}
use Rattle.sexp_text.specs.Printing as tree
use Rattle.sexp_text.specs.Reading.{◌>>=◌}
use Rattle.term_trees.specs.declared.term.Place.{Place}
use Rattle.term_trees.specs.declared.term.Place.TheVariants as places
use Rattle.notes.specs.WellFormed.{is_width}
use Rattle.notes_grammar.specs.declared.head.Head.{Head}
use Rattle.notes_grammar.specs.declared.head.Head.TheVariants as head
use Rattle.notes_grammar.specs.Parts.{Part, Number, Name, Quote, Branch}
use Rattle.notes_grammar.specs.Parts as part
use Rattle.notes_grammar.specs.Shapes.{Shape, listed, where_so, is_small, begins_name}
use Rattle.notes_grammar.specs.Shapes as shape
use Rattle.notes_grammar.specs.Words.{head_name}
use Rattle.notes_grammar.specs.Reading.{form, ended, field, small, small_where, whole, width, Headed, headed, in_second, numbered, place_at, place_in, name_in}
use Rattle.notes_grammar.proofs.Exactness.{no_form, bound, goes, Fits, FitAll, so_fits, fits_so, Exact, field_sound, field_whole, ended_sound, ended_whole, headed_sound, headed_whole}

ok_same : {A : Type 0} (x y : A) → ◌≡◌ {A = Result A TextFault} (Ok x) (Ok y) → x ≡ y
ok_same x y e = cc

number_same : (y z : ℤ) → tree.Number y ≡ tree.Number z → y ≡ z
number_same y z e = cc

name_same : (v w : List ℕ) → tree.Name v ≡ tree.Name w → v ≡ w
name_same v w e = cc

pub small_exact : Exact small shape.small
unfolding small
small_exact = record { sound = sound; whole = whole_way }
  where
    sound : (p : Part) (n : ℕ) → small p ≡ Ok n → Fits (shape.small n) p
    sound (Number at (pos m)) n e = by_small (is_small m) refl e
      where
        by_small : (v : Bool) → is_small m ≡ v → cond v (Ok m) (form at) ≡ Ok n → Fits (shape.small n) (Number at (pos m))
        by_small true t e = let same : m ≡ n = ok_same m n e in (ap (λ k. tree.Number (pos k)) same, ap is_small (sym same) ∙ t)
        by_small false t e = absurd (no_form at n e)
    sound (Number at (negsuc m)) n e = absurd (no_form at n e)
    sound (Name at w) n e = absurd (no_form at n e)
    sound (Quote at s) n e = absurd (no_form at n e)
    sound (Branch at ps close) n e = absurd (no_form at n e)

    whole_way : (p : Part) (n : ℕ) → Fits (shape.small n) p → small p ≡ Ok n
    whole_way (Number at z) n f =
        let same : z ≡ pos n = number_same z (pos n) f.0 in
        ap (λ y. small (Number at y)) same ∙ ap (λ v. cond v (Ok n) (form at)) f.1
    whole_way (Name at w) n f = let e = f.0 in let none : ⊥ = cc in absurd none
    whole_way (Quote at s) n f = let e = f.0 in let none : ⊥ = cc in absurd none
    whole_way (Branch at ps close) n f = let e = f.0 in let none : ⊥ = cc in absurd none

pub whole_exact : Exact whole shape.whole
unfolding whole
whole_exact = record { sound = sound; whole = whole_way }
  where
    sound : (p : Part) (z : ℤ) → whole p ≡ Ok z → Fits (shape.whole z) p
    sound (Number at y) z e = (ap tree.Number (ok_same y z e), refl)
    sound (Name at w) z e = absurd (no_form at z e)
    sound (Quote at s) z e = absurd (no_form at z e)
    sound (Branch at ps close) z e = absurd (no_form at z e)

    whole_way : (p : Part) (z : ℤ) → Fits (shape.whole z) p → whole p ≡ Ok z
    whole_way (Number at y) z f = ap Ok (number_same y z f.0)
    whole_way (Name at w) z f = let e = f.0 in let none : ⊥ = cc in absurd none
    whole_way (Quote at s) z f = let e = f.0 in let none : ⊥ = cc in absurd none
    whole_way (Branch at ps close) z f = let e = f.0 in let none : ⊥ = cc in absurd none

-- a number with a property
pub small_where_exact : (holds : ℕ → Bool) → Exact (small_where holds) (λ n. where_so (holds n) (shape.small n))
small_where_exact holds = record { sound = sound; whole = whole_way }
  where
    sound : (p : Part) (n : ℕ) → small_where holds p ≡ Ok n → Fits (where_so (holds n) (shape.small n)) p
    sound p n e =
        let one = bound (small p) (λ k. cond (holds k) (Ok k) (form (part.place p))) n e in
        by_test one.0 (holds one.0) refl one.1 one.2
      where
        by_test : (k : ℕ) (v : Bool) → holds k ≡ v → small p ≡ Ok k → cond v (Ok k) (form (part.place p)) ≡ Ok n → Fits (where_so (holds n) (shape.small n)) p
        by_test k true t s e =
            let same : k ≡ n = ok_same k n e in
            subst (λ m. Fits (where_so (holds m) (shape.small m)) p) same (so_fits (holds k) (shape.small k) p t (small_exact.sound p k s))
        by_test k false t s e = absurd (no_form (part.place p) n e)

    whole_way : (p : Part) (n : ℕ) → Fits (where_so (holds n) (shape.small n)) p → small_where holds p ≡ Ok n
    whole_way p n f =
        let t = fits_so (holds n) (shape.small n) p f in
        goes (small p) (λ k. cond (holds k) (Ok k) (form (part.place p))) n n (small_exact.whole p n t.1) (ap (λ v. cond v (Ok n) (form (part.place p))) t.0)

pub width_exact : Exact width shape.width
unfolding width
width_exact = small_where_exact is_width

pub name_exact : Exact name_in shape.name
unfolding name_in
name_exact = record { sound = sound; whole = whole_way }
  where
    sound : (p : Part) (n : List ℕ) → name_in p ≡ Ok n → Fits (shape.name n) p
    sound (Number at z) n e = let none : ⊥ = cc in absurd none
    sound (Quote at s) n e = let none : ⊥ = cc in absurd none
    sound (Branch at ps close) n e = let none : ⊥ = cc in absurd none
    sound (Name at w) n e = by_letter (begins_name w) refl e
      where
        by_letter : (v : Bool) → begins_name w ≡ v → cond v (Ok w) (form at) ≡ Ok n → Fits (shape.name n) (Name at w)
        by_letter true t e = let same : w ≡ n = ok_same w n e in subst (λ m. Fits (shape.name m) (Name at w)) same (so_fits (begins_name w) (shape.word w) (Name at w) t (refl, refl))
        by_letter false t e = absurd (no_form at n e)

    whole_way : (p : Part) (n : List ℕ) → Fits (shape.name n) p → name_in p ≡ Ok n
    whole_way (Number at z) n f = let e = f.0 in let none : ⊥ = cc in absurd none
    whole_way (Quote at s) n f = let e = f.0 in let none : ⊥ = cc in absurd none
    whole_way (Branch at ps close) n f = let e = f.0 in let none : ⊥ = cc in absurd none
    whole_way (Name at w) n f =
        let t = fits_so (begins_name n) (shape.word n) (Name at w) f in
        let same : w ≡ n = name_same w n f.0 in
        ap (λ v. name_in (Name at v)) same ∙ ap (λ v. cond v (Ok n) (form at)) t.0

-- a list of a word and a number

pub numbered_sound : (h : Headed) (k : ℕ) → numbered h ≡ Ok k → FitAll (shape.small k ∷ []) h.rest
unfolding numbered
numbered_sound h a e =
    let k = bound (field small h.close h.rest) (λ k. ended k.0 k.1) a e in
    let end = ended_sound k.0.0 k.0.1 a k.2 in
    subst (λ n. FitAll (shape.small n ∷ []) h.rest) end.0 (field_sound small_exact h.close h.rest k.0 k.1 [] end.1)

pub numbered_whole : (h : Headed) (k : ℕ) → FitAll (shape.small k ∷ []) h.rest → numbered h ≡ Ok k
unfolding numbered
numbered_whole h k fits =
    let r = field_whole small_exact h.close h.rest k [] fits in
    goes (field small h.close h.rest) (λ k. ended k.0 k.1) (k, r.0) k r.1 (ended_whole k r.0 r.2)

pub second_sound : {A : Type 0} (later : Bool) (at : ℕ) (r : Result A TextFault) (a : A) → in_second later at r ≡ Ok a → (later ≡ true) × (r ≡ Ok a)
second_sound true at r a e = (refl, e)
second_sound false at r a e = absurd (no_form at a e)

pub second_whole : {A : Type 0} (later : Bool) (at : ℕ) (r : Result A TextFault) (a : A) → later ≡ true → r ≡ Ok a → in_second later at r ≡ Ok a
second_whole later at r a t e = ap (λ v. cond v r (form at)) t ∙ e

-- places

-- the part is a list of this head, whose other parts are those behind the head
abbrev pub Heads : Headed → Head → Part → Type 0
Heads h k q = (xs : List Shape) → FitAll xs h.rest → Fits (listed (shape.word (head_name k) ∷ xs)) q

pub headed_heads : (q : Part) (h : Headed) → headed q ≡ Ok h → Heads h h.head q
headed_heads q h e xs f = headed_sound q h e xs f

no_place : {A : Type 0} (P : Type 0) (at : ℕ) (x : A) → form at ≡ Ok x → P
no_place P at x e = absurd (no_form at x e)

pub place_sound : (later : Bool) (h : Headed) (k : Head) (q : Part) (p : Place) → Heads h k q → place_at later h k ≡ Ok p → Fits (shape.place later p) q
unfolding place_at
place_sound later h head.Local q p g e =
    let n = bound (numbered h) (λ k. Ok (places.Local k)) p e in
    subst (λ p. Fits (shape.place later p) q) (ok_same (places.Local n.0) p n.2) (g (shape.small n.0 ∷ []) (numbered_sound h n.0 n.1))
place_sound later h head.Stack q p g e =
    let n = bound (numbered h) (λ k. Ok (places.Stack k)) p e in
    subst (λ p. Fits (shape.place later p) q) (ok_same (places.Stack n.0) p n.2) (g (shape.small n.0 ∷ []) (numbered_sound h n.0 n.1))
place_sound later h head.Global q p g e =
    let n = bound (numbered h) (λ k. Ok (places.Global k)) p e in
    subst (λ p. Fits (shape.place later p) q) (ok_same (places.Global n.0) p n.2) (g (shape.small n.0 ∷ []) (numbered_sound h n.0 n.1))
place_sound later h head.Arg q p g e =
    let n = bound (numbered h) (λ k. Ok (places.Arg k)) p e in
    subst (λ p. Fits (shape.place later p) q) (ok_same (places.Arg n.0) p n.2) (g (shape.small n.0 ∷ []) (numbered_sound h n.0 n.1))
place_sound later h head.Pages q p g e = let n = ended_sound places.Pages h.rest p e in subst (λ p. Fits (shape.place later p) q) n.0 (g [] n.1)
place_sound later h head.Result q p g e = let n = ended_sound places.Result h.rest p e in subst (λ p. Fits (shape.place later p) q) n.0 (g [] n.1)
place_sound later h head.Index q p g e =
    let s = second_sound later h.at (ended places.Index h.rest) p e in
    let n = ended_sound places.Index h.rest p s.1 in
    subst (λ p. Fits (shape.place later p) q) n.0 (so_fits later (listed (shape.word (head_name head.Index) ∷ [])) q s.0 (g [] n.1))
place_sound later h head.Item q p g e =
    let s = second_sound later h.at (ended places.Item h.rest) p e in
    let n = ended_sound places.Item h.rest p s.1 in
    subst (λ p. Fits (shape.place later p) q) n.0 (so_fits later (listed (shape.word (head_name head.Item) ∷ [])) q s.0 (g [] n.1))
place_sound later h _ q p g e = no_place (Fits (shape.place later p) q) h.at p e

pub place_whole : (later : Bool) (q : Part) (p : Place) → Fits (shape.place later p) q → (k : Head) × (xs : List Shape) × Fits (listed (shape.word (head_name k) ∷ xs)) q ×
    ((h : Headed) → FitAll xs h.rest → place_at later h k ≡ Ok p)
unfolding place_at
place_whole later q (places.Local n) f = (head.Local, shape.small n ∷ [], f, λ h g. goes (numbered h) (λ k. Ok (places.Local k)) n (places.Local n) (numbered_whole h n g) refl)
place_whole later q (places.Stack n) f = (head.Stack, shape.small n ∷ [], f, λ h g. goes (numbered h) (λ k. Ok (places.Stack k)) n (places.Stack n) (numbered_whole h n g) refl)
place_whole later q (places.Global n) f = (head.Global, shape.small n ∷ [], f, λ h g. goes (numbered h) (λ k. Ok (places.Global k)) n (places.Global n) (numbered_whole h n g) refl)
place_whole later q (places.Arg n) f = (head.Arg, shape.small n ∷ [], f, λ h g. goes (numbered h) (λ k. Ok (places.Arg k)) n (places.Arg n) (numbered_whole h n g) refl)
place_whole later q places.Pages f = (head.Pages, [], f, λ h g. ended_whole places.Pages h.rest g)
place_whole later q places.Result f = (head.Result, [], f, λ h g. ended_whole places.Result h.rest g)
place_whole later q places.Index f =
    let s = fits_so later (listed (shape.word (head_name head.Index) ∷ [])) q f in
    (head.Index, [], s.1, λ h g. second_whole later h.at (ended places.Index h.rest) places.Index s.0 (ended_whole places.Index h.rest g))
place_whole later q places.Item f =
    let s = fits_so later (listed (shape.word (head_name head.Item) ∷ [])) q f in
    (head.Item, [], s.1, λ h g. second_whole later h.at (ended places.Item h.rest) places.Item s.0 (ended_whole places.Item h.rest g))

pub local_whole : (later : Bool) (h : Headed) (n : ℕ) → FitAll (shape.small n ∷ []) h.rest → place_at later h head.Local ≡ Ok (places.Local n)
unfolding place_at
local_whole later h n g = goes (numbered h) (λ k. Ok (places.Local k)) n (places.Local n) (numbered_whole h n g) refl

pub stack_whole : (later : Bool) (h : Headed) (n : ℕ) → FitAll (shape.small n ∷ []) h.rest → place_at later h head.Stack ≡ Ok (places.Stack n)
unfolding place_at
stack_whole later h n g = goes (numbered h) (λ k. Ok (places.Stack k)) n (places.Stack n) (numbered_whole h n g) refl

pub global_whole : (later : Bool) (h : Headed) (n : ℕ) → FitAll (shape.small n ∷ []) h.rest → place_at later h head.Global ≡ Ok (places.Global n)
unfolding place_at
global_whole later h n g = goes (numbered h) (λ k. Ok (places.Global k)) n (places.Global n) (numbered_whole h n g) refl

pub arg_whole : (later : Bool) (h : Headed) (n : ℕ) → FitAll (shape.small n ∷ []) h.rest → place_at later h head.Arg ≡ Ok (places.Arg n)
unfolding place_at
arg_whole later h n g = goes (numbered h) (λ k. Ok (places.Arg k)) n (places.Arg n) (numbered_whole h n g) refl

pub pages_whole : (later : Bool) (h : Headed) → FitAll [] h.rest → place_at later h head.Pages ≡ Ok places.Pages
unfolding place_at
pages_whole later h g = ended_whole places.Pages h.rest g

pub result_whole : (later : Bool) (h : Headed) → FitAll [] h.rest → place_at later h head.Result ≡ Ok places.Result
unfolding place_at
result_whole later h g = ended_whole places.Result h.rest g

pub index_whole : (later : Bool) (h : Headed) → later ≡ true → FitAll [] h.rest → place_at later h head.Index ≡ Ok places.Index
unfolding place_at
index_whole later h t g = second_whole later h.at (ended places.Index h.rest) places.Index t (ended_whole places.Index h.rest g)

pub item_whole : (later : Bool) (h : Headed) → later ≡ true → FitAll [] h.rest → place_at later h head.Item ≡ Ok places.Item
unfolding place_at
item_whole later h t g = second_whole later h.at (ended places.Item h.rest) places.Item t (ended_whole places.Item h.rest g)

-- a reader by heads is exact where each head's is
pub by_head_whole : {A : Type 0} (at_head : Headed → Head → Result A TextFault) (k : Head) (q : Part) (xs : List Shape) (a : A) → Fits (listed (shape.word (head_name k) ∷ xs)) q →
    ((h : Headed) → FitAll xs h.rest → at_head h k ≡ Ok a) → (headed q >>= λ h. at_head h h.head) ≡ Ok a
by_head_whole at_head k q xs a f g =
    let h = headed_whole k q xs f in
    goes (headed q) (λ h. at_head h h.head) h.0 a h.1 (ap (at_head h.0) h.2 ∙ g h.0 h.3)

pub place_exact : (later : Bool) → Exact (place_in later) (shape.place later)
unfolding place_in
place_exact later = record { sound = sound; whole = whole_way }
  where
    sound : (q : Part) (p : Place) → place_in later q ≡ Ok p → Fits (shape.place later p) q
    sound q p e =
        let h = bound (headed q) (λ h. place_at later h h.head) p e in
        place_sound later h.0 h.0.head q p (headed_heads q h.0 h.1) h.2

    whole_way : (q : Part) (p : Place) → Fits (shape.place later p) q → place_in later q ≡ Ok p
    whole_way q p f = let w = place_whole later q p f in by_head_whole (place_at later) w.0 q w.1 p w.2 w.3
