-- Terms and formulas are read exactly.
use Rattle.std.proofs.Common.{◌≡◌, ℕ, ℤ, Bool, true, false, cond, eqb, ltb, leb, ◌&&◌, List, [], ◌∷◌, drop, Option, Some, None, Result, Ok, Err, refl, sym, ap, ◌∙◌, subst, ⊎_elim, arith}
use Rattle.std.proofs.lemmas.Bool.{eqb-true, ltb-false, leb-true, le-ltb, le-leb}
use Rattle.std.proofs.lemmas.Bool.Decides.{nat_tests}
use Rattle.wasm_values.specs.declared.number.NumOp.{NumOp}
use Rattle.wasm_values.specs.declared.number.IntOp.{IntOp}
use Rattle.wasm_values.specs.declared.number.IntOp.TheVariants as int
use Rattle.wasm_values.specs.declared.number.NumOp.TheVariants as num
use Rattle.wasm_values.specs.Operators.{num_operands}
use Rattle.wasm_values.specs.Operators as operators
use Rattle.std.specs.Fmt.{decimal}
use Rattle.term_trees.specs.declared.term.Place.{Place}
use Rattle.term_trees.specs.declared.term.Place.TheVariants as places
use Rattle.term_trees.specs.declared.term.Term.{Term, out-Term, roll-Term, roll-out-Term, map-Term, fold-roll-Term}
use Rattle.term_trees.specs.declared.term.Term.TheOpen.{Term-F, Num, Var, Own, At, Add, Sub, Mul, One, Two, Low, Sext, Sgn}
use Rattle.term_trees.specs.declared.term.Term.TheVariants as terms
use Rattle.term_trees.specs.declared.term.Formula.{Formula, out-Formula, roll-Formula, roll-out-Formula, map-Formula, fold-roll-Formula}
use Rattle.term_trees.specs.declared.term.Formula.TheOpen.{Formula-F}
use Rattle.term_trees.specs.declared.term.Formula.TheOpen as layer
use Rattle.term_trees.specs.declared.term.Formula.TheVariants as formulas
use Rattle.term_trees.specs.Terms.{node_count, is_low_width, is_sext_pair, is_sgn_width}
use Rattle.term_trees.specs.Formulas.{formula_nodes}
use Rattle.sexp_text.specs.declared.fault.TextFault.{TextFault}
use Rattle.sexp_text.specs.declared.fault.TextFault.TheVariants.{Limit}
use Rattle.wasm_values.specs.declared.limit.LimitWord.TheVariants.{Nodes}
use Rattle.sexp_text.specs.Printing as tree
use Rattle.sexp_text.specs.Reading.{◌>>=◌}
use Rattle.notes_grammar.specs.declared.head.Head.{Head}
use Rattle.notes_grammar.specs.declared.head.Head.TheVariants as head
use Rattle.notes_grammar.specs.Parts.{Part, Parts, Number, Name, Quote, Branch, Nil, Cons, tree_of}
use Rattle.notes_grammar.specs.Parts as part
use Rattle.notes_grammar.specs.Shapes.{Shape, listed, where_so, term_here, formula_here, term as term_shape, formula as formula_shape}
use Rattle.notes_grammar.specs.Shapes as shape
use Rattle.notes_grammar.specs.Words.{head_name, head_named, num_name, op_named, wide_named}
use Rattle.notes_grammar.specs.Reading.{form, field, small_where, or_form, Headed, leaf_of, behind, limited, Token, no_more, one_of, two_of, operands, place_at, term_at, term_list, bare_term, term_tokens, term_in, constant, formula_at, bare_formula, formula_tokens, formula_in}
use Rattle.notes_grammar.proofs.Exactness.{no_form, bound, goes, Fits, FitAll, listed_fits, fits_listed, so_fits, fits_so, Exact, field_sound}
use Rattle.notes_grammar.proofs.LeafLaws.{small_where_exact, place_sound, place_whole, local_whole, stack_whole, global_whole, arg_whole, pages_whole, result_whole, index_whole, item_whole}
use Rattle.notes_grammar.proofs.NameLaws.{leaf_sound, var_whole, own_whole}
use Rattle.notes_grammar.proofs.WordLemmas.{named_head, head_found, named_op, op_found}

ok_same : {A : Type 0} (x y : A) → ◌≡◌ {A = Result A TextFault} (Ok x) (Ok y) → x ≡ y
ok_same x y e = cc

name_same : (v w : List ℕ) → tree.Name v ≡ tree.Name w → v ≡ w
name_same v w e = cc

-- what holds of each part
abbrev Each : (Part → Type 0) → Parts → Type 0
Each P Nil = Unit {0}
Each P (Cons p ps) = P p × Each P ps

-- a part that is read exactly
pub record ExactAt {A : Type 0} (read : Part → Result A TextFault) (shape : A → Shape) (p : Part) : Type 0 where
  pub sound : (a : A) → read p ≡ Ok a → Fits (shape a) p
  pub whole : (a : A) → Fits (shape a) p → read p ≡ Ok a

-- the tokens of parts
abbrev tokens : {A : Type 0} → (Part → Result A TextFault) → Parts → List (Token A)
tokens read Nil = []
tokens read (Cons p ps) = (p, read p) ∷ tokens read ps

behind_ok : {A : Type 0} (at nodes : ℕ) (r : Result A TextFault) (x : A) → behind at nodes r ≡ Ok x → r ≡ Ok x
behind_ok at nodes (Ok y) x e = e
behind_ok {A} at nodes (Err d) x e = by_many (ltb 4096 nodes) e
  where
    by_many : (v : Bool) → ◌≡◌ {A = Result A TextFault} (cond v (Err (Limit at Nodes)) (Err d)) (Ok x) → ◌≡◌ {A = Result A TextFault} (Err d) (Ok x)
    by_many true e = let none : ⊥ = cc in absurd none
    by_many false e = e

no_more_sound : {A B : Type 0} (read : Part → Result A TextFault) (x y : B) (ps : Parts) → no_more x (tokens read ps) ≡ Ok y → (x ≡ y) × FitAll [] ps
no_more_sound read x y Nil e = (ok_same x y e, tt)
no_more_sound read x y (Cons p ps) e = absurd (no_form (part.place p) y e)

no_more_whole : {A B : Type 0} (read : Part → Result A TextFault) (x : B) (ps : Parts) → FitAll [] ps → no_more x (tokens read ps) ≡ Ok x
no_more_whole read x Nil f = refl
no_more_whole read x (Cons p ps) f = absurd f

one_sound : {A : Type 0} (read : Part → Result A TextFault) (shape : A → Shape) (nodes : A → ℕ) (close : ℕ) (ps : Parts) (y : A) → Each (ExactAt read shape) ps →
    one_of nodes close (tokens read ps) ≡ Ok y → FitAll (shape y ∷ []) ps
one_sound read shape nodes close Nil y h e = absurd (no_form close y e)
one_sound read shape nodes close (Cons p ps) y h e =
    let a = bound (read p) (λ a. behind (part.place p) (nodes a) (no_more a (tokens read ps))) y e in
    let end = no_more_sound read a.0 y ps (behind_ok (part.place p) (nodes a.0) (no_more a.0 (tokens read ps)) y a.2) in
    subst (λ z. FitAll (shape z ∷ []) (Cons p ps)) end.0 (h.0.sound a.0 a.1, end.1)

behind_whole : {A : Type 0} (at nodes : ℕ) (r : Result A TextFault) (x : A) → r ≡ Ok x → behind at nodes r ≡ Ok x
behind_whole at nodes r x e = ap (behind at nodes) e

one_whole : {A : Type 0} (read : Part → Result A TextFault) (shape : A → Shape) (nodes : A → ℕ) (close : ℕ) (ps : Parts) (a : A) → Each (ExactAt read shape) ps →
    FitAll (shape a ∷ []) ps → one_of nodes close (tokens read ps) ≡ Ok a
one_whole read shape nodes close Nil a h g = absurd g
one_whole read shape nodes close (Cons p ps) a h g =
    goes (read p) (λ a. behind (part.place p) (nodes a) (no_more a (tokens read ps))) a a (h.0.whole a g.0)
    (behind_whole (part.place p) (nodes a) (no_more a (tokens read ps)) a (no_more_whole read a ps g.1))

two_sound : {A : Type 0} (read : Part → Result A TextFault) (shape : A → Shape) (nodes : A → ℕ) (close : ℕ) (ps : Parts) (y : A × A) → Each (ExactAt read shape) ps →
    two_of nodes close (tokens read ps) ≡ Ok y → FitAll (shape y.0 ∷ shape y.1 ∷ []) ps
two_sound read shape nodes close Nil y h e = absurd (no_form close y e)
two_sound read shape nodes close (Cons p ps) y h e =
    let a = bound (read p) (λ a. behind (part.place p) (nodes a) (one_of nodes close (tokens read ps) >>= λ b. Ok (a, b))) y e in
    let b = bound (one_of nodes close (tokens read ps)) (λ b. Ok (a.0, b)) y (behind_ok (part.place p) (nodes a.0) (one_of nodes close (tokens read ps) >>= λ b. Ok (a.0, b)) y a.2) in
    subst (λ z. FitAll (shape z.0 ∷ shape z.1 ∷ []) (Cons p ps)) (ok_same (a.0, b.0) y b.2) (h.0.sound a.0 a.1, one_sound read shape nodes close ps b.0 h.1 b.1)

two_whole : {A : Type 0} (read : Part → Result A TextFault) (shape : A → Shape) (nodes : A → ℕ) (close : ℕ) (ps : Parts) (a b : A) → Each (ExactAt read shape) ps →
    FitAll (shape a ∷ shape b ∷ []) ps → two_of nodes close (tokens read ps) ≡ Ok (a, b)
two_whole read shape nodes close Nil a b h g = absurd g
two_whole read shape nodes close (Cons p ps) a b h g =
    goes (read p) (λ a. behind (part.place p) (nodes a) (one_of nodes close (tokens read ps) >>= λ b. Ok (a, b))) a (a, b) (h.0.whole a g.0)
    (behind_whole (part.place p) (nodes a) (one_of nodes close (tokens read ps) >>= λ b. Ok (a, b)) (a, b)
    (goes (one_of nodes close (tokens read ps)) (λ b. Ok (a, b)) b (a, b) (one_whole read shape nodes close ps b h.1 g.1) refl))

-- the tokens of terms and formulas are such

term_tokens-are : (later : Bool) (ps : Parts) → term_tokens later ps ≡ tokens (bare_term later) ps
term_tokens-are later Nil = refl
term_tokens-are later (Cons p ps) = ap (λ ts. (p, bare_term later p) ∷ ts) (term_tokens-are later ps)

formula_tokens-are : (later : Bool) (ps : Parts) → formula_tokens later ps ≡ tokens (bare_formula later) ps
formula_tokens-are later Nil = refl
formula_tokens-are later (Cons p ps) = ap (λ ts. (p, bare_formula later p) ∷ ts) (formula_tokens-are later ps)

-- the shape of a term by its layer

abbrev TermAt : Bool → Part → Type 0
TermAt later p = ExactAt (bare_term later) (shape.bare_term later) p

rolled : (later : Bool) (l : Term-F Term) → shape.bare_term later (roll-Term l) ≡ term_here later (map-Term Term Shape (shape.bare_term later) l)
rolled later l = fold-roll-Term Shape (term_here later) l

-- the parts after a word, or after more
each_tail : (P : Part → Type 0) (p : Part) (ps : Parts) → Each P (Cons p ps) → Each P ps
each_tail P p ps h = h.1

-- a part of a list that was read by itself
field_parts : {A : Type 0} (read : Part → Result A TextFault) (close : ℕ) (ps : Parts) (y : A × Parts) → field read close ps ≡ Ok y → (p : Part) × (ps ≡ Cons p y.1)
field_parts read close Nil y e = let none : ⊥ = cc in absurd none
field_parts read close (Cons p ps) y e =
    let one = bound (read p) (λ a. Ok (a, ps)) y e in
    let same : (one.0, ps) ≡ y = ok_same (one.0, ps) y one.2 in
    (p, ap (λ z. Cons p z.1) same)

-- a list of this word
abbrev Listing : List ℕ → Parts → Part → Type 0
Listing w ps q = (xs : List Shape) → FitAll xs ps → Fits (listed (shape.word w ∷ xs)) q

fits_is : (later : Bool) (q : Part) (t : Term) (l : Term-F Term) → roll-Term l ≡ t → Fits (term_here later (map-Term Term Shape (shape.bare_term later) l)) q → Fits (shape.bare_term later t) q
fits_is later q t l e f = subst (λ t. Fits (shape.bare_term later t) q) e (subst (λ x. Fits x q) (sym (rolled later l)) f)

abbrev Bare : Bool → Term → Shape
Bare later t = shape.bare_term later t

-- a size, and one term
sized_sound : (later : Bool) (close : ℕ) (ps : Parts) (holds : ℕ → Bool) (f : ℕ → Term → Term) (t : Term) → Each (TermAt later) ps →
    (field (small_where holds) close ps >>= λ k. one_of node_count close (drop 1 (tokens (bare_term later) ps)) >>= λ a. Ok (f k.0 a)) ≡ Ok t →
    (k : ℕ) × (a : Term) × (f k a ≡ t) × FitAll (where_so (holds k) (shape.small k) ∷ Bare later a ∷ []) ps
sized_sound later close ps holds f t h e =
    let k = bound (field (small_where holds) close ps) (λ k. one_of node_count close (drop 1 (tokens (bare_term later) ps)) >>= λ a. Ok (f k.0 a)) t e in
    let first = field_parts (small_where holds) close ps k.0 k.1 in
    let h1 : Each (TermAt later) k.0.1 = (subst (Each (TermAt later)) first.1 h).1 in
    let e1 : (one_of node_count close (tokens (bare_term later) k.0.1) >>= λ a. Ok (f k.0.0 a)) ≡ Ok t =
    subst (λ qs. (one_of node_count close (drop 1 (tokens (bare_term later) qs)) >>= λ a. Ok (f k.0.0 a)) ≡ Ok t) first.1 k.2 in
    let a = bound (one_of node_count close (tokens (bare_term later) k.0.1)) (λ a. Ok (f k.0.0 a)) t e1 in
    let fits = one_sound (bare_term later) (Bare later) node_count close k.0.1 a.0 h1 a.1 in
    (k.0.0, a.0, ok_same (f k.0.0 a.0) t a.2, field_sound (small_where_exact holds) close ps k.0 k.1 (Bare later a.0 ∷ []) fits)

sized_whole : (later : Bool) (close : ℕ) (ps : Parts) (holds : ℕ → Bool) (f : ℕ → Term → Term) (k : ℕ) (a : Term) → Each (TermAt later) ps →
    FitAll (where_so (holds k) (shape.small k) ∷ Bare later a ∷ []) ps →
    (field (small_where holds) close ps >>= λ k. one_of node_count close (drop 1 (tokens (bare_term later) ps)) >>= λ a. Ok (f k.0 a)) ≡ Ok (f k a)
unfolding roll-Term denote.Hole.Carrier.roll
sized_whole later close Nil holds f k a h g = absurd g
sized_whole later close (Cons p ps) holds f k a h g =
    goes (field (small_where holds) close (Cons p ps)) (λ k. one_of node_count close (tokens (bare_term later) ps) >>= λ a. Ok (f k.0 a)) (k, ps) (f k a)
    (goes (small_where holds p) (λ n. Ok (n, ps)) k (k, ps) ((small_where_exact holds).whole p k g.0) refl)
    (goes (one_of node_count close (tokens (bare_term later) ps)) (λ a. Ok (f k a)) a (f k a) (one_whole (bare_term later) (Bare later) node_count close ps a h.1 g.1) refl)

from_three : (x y z : Bool) → x ≡ true → y ≡ true → z ≡ true → (x && (y && z)) ≡ true
from_three x y z e f g = rw (e, f, g) refl

-- a list of a size and more, by its parts
size_fits : (b : Bool) (w : List ℕ) (k : ℕ) (xs : List Shape) (ps : Parts) (q : Part) → Listing w ps q → FitAll (where_so b (shape.small k) ∷ xs) ps → Fits (where_so b (listed (shape.word w ∷ shape.small k ∷ xs))) q
size_fits b w k xs Nil q l f = absurd f
size_fits b w k xs (Cons p ps) q l f =
    let s = fits_so b (shape.small k) p f.0 in
    so_fits b (listed (shape.word w ∷ shape.small k ∷ xs)) q s.0 (l (shape.small k ∷ xs) (s.1, f.1))

fits_size : (b : Bool) (k : ℕ) (xs : List Shape) (ps : Parts) → b ≡ true → FitAll (shape.small k ∷ xs) ps → FitAll (where_so b (shape.small k) ∷ xs) ps
fits_size b k xs Nil t f = absurd f
fits_size b k xs (Cons p ps) t f = (so_fits b (shape.small k) p t f.0, f.1)

-- the two sizes of a sign extension
pair_low : (k n : ℕ) → is_sext_pair k n ≡ true → is_low_width k ≡ true
pair_low k n h = grind (arith, nat_tests)

abbrev sext_rest : Bool → ℕ → Parts → Result Term TextFault
sext_rest later close ps =
    field (small_where is_low_width) close ps >>= λ k. field (small_where (is_sext_pair k.0)) close k.1 >>= λ n.
    one_of node_count close (drop 2 (tokens (bare_term later) ps)) >>= λ a. Ok (terms.Sext k.0 n.0 a)

sext_sound : (later : Bool) (close : ℕ) (ps : Parts) (t : Term) → Each (TermAt later) ps → sext_rest later close ps ≡ Ok t →
    (k n : ℕ) × (a : Term) × (terms.Sext k n a ≡ t) × FitAll (where_so (is_low_width k) (shape.small k) ∷ where_so (is_sext_pair k n) (shape.small n) ∷ Bare later a ∷ []) ps
sext_sound later close ps t h e =
    let k = bound (field (small_where is_low_width) close ps) (λ k. field (small_where (is_sext_pair k.0)) close k.1 >>= λ n. one_of node_count close (drop 2 (tokens (bare_term later) ps)) >>= λ a. Ok (terms.Sext k.0 n.0 a)) t e in
    let first = field_parts (small_where is_low_width) close ps k.0 k.1 in
    let h1 : Each (TermAt later) k.0.1 = (subst (Each (TermAt later)) first.1 h).1 in
    let e1 : (field (small_where (is_sext_pair k.0.0)) close k.0.1 >>= λ n. one_of node_count close (drop 1 (tokens (bare_term later) k.0.1)) >>= λ a. Ok (terms.Sext k.0.0 n.0 a)) ≡ Ok t =
    subst (λ qs. (field (small_where (is_sext_pair k.0.0)) close k.0.1 >>= λ n. one_of node_count close (drop 2 (tokens (bare_term later) qs)) >>= λ a. Ok (terms.Sext k.0.0 n.0 a)) ≡ Ok t) first.1 k.2 in
    let s = sized_sound later close k.0.1 (is_sext_pair k.0.0) (terms.Sext k.0.0) t h1 e1 in
    (k.0.0, s.0, s.1, s.2, field_sound (small_where_exact is_low_width) close ps k.0 k.1 (where_so (is_sext_pair k.0.0 s.0) (shape.small s.0) ∷ Bare later s.1 ∷ []) s.3)

sext_whole : (later : Bool) (close : ℕ) (ps : Parts) (k n : ℕ) (a : Term) → Each (TermAt later) ps →
    FitAll (where_so (is_low_width k) (shape.small k) ∷ where_so (is_sext_pair k n) (shape.small n) ∷ Bare later a ∷ []) ps → sext_rest later close ps ≡ Ok (terms.Sext k n a)
unfolding roll-Term denote.Hole.Carrier.roll
sext_whole later close Nil k n a h g = absurd g
sext_whole later close (Cons p ps) k n a h g =
    goes (field (small_where is_low_width) close (Cons p ps)) (λ k. field (small_where (is_sext_pair k.0)) close k.1 >>= λ n. one_of node_count close (drop 1 (tokens (bare_term later) ps)) >>= λ a. Ok (terms.Sext k.0 n.0 a)) (k, ps) (terms.Sext k n a)
    (goes (small_where is_low_width p) (λ m. Ok (m, ps)) k (k, ps) ((small_where_exact is_low_width).whole p k g.0) refl)
    (sized_whole later close ps (is_sext_pair k) (terms.Sext k) n a h.1 g.1)

-- an operator has one operand or two
two_operands : (op : NumOp) → eqb (num_operands op) 1 ≡ false → eqb (num_operands op) 2 ≡ true
two_operands op h = by_op op h
  where
    by_int : (x : IntOp) → eqb (operators.operands x) 1 ≡ false → eqb (operators.operands x) 2 ≡ true
    by_int int.Eqz h = cc
    by_int int.Eq h = refl
    by_int int.Ne h = refl
    by_int int.LtS h = refl
    by_int int.LtU h = refl
    by_int int.GtS h = refl
    by_int int.GtU h = refl
    by_int int.LeS h = refl
    by_int int.LeU h = refl
    by_int int.GeS h = refl
    by_int int.GeU h = refl
    by_int int.Clz h = cc
    by_int int.Ctz h = cc
    by_int int.Popcnt h = cc
    by_int int.Add h = refl
    by_int int.Sub h = refl
    by_int int.Mul h = refl
    by_int int.DivS h = refl
    by_int int.DivU h = refl
    by_int int.RemS h = refl
    by_int int.RemU h = refl
    by_int int.And h = refl
    by_int int.Or h = refl
    by_int int.Xor h = refl
    by_int int.Shl h = refl
    by_int int.ShrS h = refl
    by_int int.ShrU h = refl
    by_int int.Rotl h = refl
    by_int int.Rotr h = refl

    by_op : (op : NumOp) → eqb (num_operands op) 1 ≡ false → eqb (num_operands op) 2 ≡ true
    by_op (num.W32 x) h = by_int x h
    by_op (num.W64 x) h = by_int x h
    by_op num.Wrap h = cc
    by_op num.ExtendS h = cc
    by_op num.ExtendU h = cc

two_not_one : (n : ℕ) → eqb n 2 ≡ true → eqb n 1 ≡ false
two_not_one n h = let e = eqb-true n 2 h in ap (λ k. eqb k 1) e

operands_sound : (later : Bool) (op : NumOp) (close : ℕ) (ps : Parts) (q : Part) (t : Term) → Each (TermAt later) ps → Listing (num_name op) ps q →
    operands op close (tokens (bare_term later) ps) ≡ Ok t → Fits (shape.bare_term later t) q
unfolding roll-Term denote.Hole.Carrier.roll
operands_sound later op close ps q t h l e = by_one (eqb (num_operands op) 1) refl e
  where
    by_one : (v : Bool) → eqb (num_operands op) 1 ≡ v →
        cond v (one_of node_count close (tokens (bare_term later) ps) >>= λ a. Ok (terms.One op a)) (two_of node_count close (tokens (bare_term later) ps) >>= λ x. Ok (terms.Two op x.0 x.1)) ≡ Ok t → Fits (shape.bare_term later t) q
    by_one true v e =
        let a = bound (one_of node_count close (tokens (bare_term later) ps)) (λ a. Ok (terms.One op a)) t e in
        fits_is later q t (One op a.0) (ok_same (terms.One op a.0) t a.2)
        (so_fits (eqb (num_operands op) 1) (listed (shape.word (num_name op) ∷ Bare later a.0 ∷ [])) q v (l (Bare later a.0 ∷ []) (one_sound (bare_term later) (Bare later) node_count close ps a.0 h a.1)))
    by_one false v e =
        let x = bound (two_of node_count close (tokens (bare_term later) ps)) (λ x. Ok (terms.Two op x.0 x.1)) t e in
        fits_is later q t (Two op x.0.0 x.0.1) (ok_same (terms.Two op x.0.0 x.0.1) t x.2)
        (so_fits (eqb (num_operands op) 2) (listed (shape.word (num_name op) ∷ Bare later x.0.0 ∷ Bare later x.0.1 ∷ [])) q (two_operands op v)
        (l (Bare later x.0.0 ∷ Bare later x.0.1 ∷ []) (two_sound (bare_term later) (Bare later) node_count close ps x.0 h x.1)))

-- a list of a head and terms
pair_sound : (later : Bool) (f : Term → Term → Term) (layer_of : Term → Term → Term-F Term) (w : List ℕ) (close : ℕ) (ps : Parts) (q : Part) (t : Term) →
    ((a b : Term) → roll-Term (layer_of a b) ≡ f a b) → ((a b : Term) → term_here later (map-Term Term Shape (Bare later) (layer_of a b)) ≡ listed (shape.word w ∷ Bare later a ∷ Bare later b ∷ [])) →
    Each (TermAt later) ps → Listing w ps q → (two_of node_count close (tokens (bare_term later) ps) >>= λ x. Ok (f x.0 x.1)) ≡ Ok t → Fits (shape.bare_term later t) q
pair_sound later f layer_of w close ps q t r s h l e =
    let x = bound (two_of node_count close (tokens (bare_term later) ps)) (λ x. Ok (f x.0 x.1)) t e in
    fits_is later q t (layer_of x.0.0 x.0.1) (r x.0.0 x.0.1 ∙ ok_same (f x.0.0 x.0.1) t x.2)
    (subst (λ y. Fits y q) (sym (s x.0.0 x.0.1)) (l (Bare later x.0.0 ∷ Bare later x.0.1 ∷ []) (two_sound (bare_term later) (Bare later) node_count close ps x.0 h x.1)))

place_is : (later : Bool) (h : Headed) (k : Head) (q : Part) (t : Term) → Listing (head_name k) h.rest q → (place_at later h k >>= λ p. Ok (terms.At p)) ≡ Ok t → Fits (shape.bare_term later t) q
unfolding roll-Term denote.Hole.Carrier.roll
place_is later h k q t l e =
    let p = bound (place_at later h k) (λ p. Ok (terms.At p)) t e in
    fits_is later q t (At p.0) (ok_same (terms.At p.0) t p.2) (place_sound later h k q p.0 l p.1)

term_at_sound : (later : Bool) (h : Headed) (k : Head) (q : Part) (t : Term) → Each (TermAt later) h.rest → Listing (head_name k) h.rest q →
    term_at later h (tokens (bare_term later) h.rest) k ≡ Ok t → Fits (shape.bare_term later t) q
unfolding term_at roll-Term denote.Hole.Carrier.roll
term_at_sound later h head.Plus q t g l e = pair_sound later terms.Add Add (head_name head.Plus) h.close h.rest q t (λ a b. refl) (λ a b. refl) g l e
term_at_sound later h head.Minus q t g l e = pair_sound later terms.Sub Sub (head_name head.Minus) h.close h.rest q t (λ a b. refl) (λ a b. refl) g l e
term_at_sound later h head.Times q t g l e = pair_sound later terms.Mul Mul (head_name head.Times) h.close h.rest q t (λ a b. refl) (λ a b. refl) g l e
term_at_sound later h head.Low q t g l e =
    let s = sized_sound later h.close h.rest is_low_width terms.Low t g e in
    fits_is later q t (Low s.0 s.1) s.2 (size_fits (is_low_width s.0) (head_name head.Low) s.0 (Bare later s.1 ∷ []) h.rest q l s.3)
term_at_sound later h head.Sgn q t g l e =
    let s = sized_sound later h.close h.rest is_sgn_width terms.Sgn t g e in
    fits_is later q t (Sgn s.0 s.1) s.2 (size_fits (is_sgn_width s.0) (head_name head.Sgn) s.0 (Bare later s.1 ∷ []) h.rest q l s.3)
term_at_sound later h head.Sext q t g l e =
    let s = sext_sound later h.close h.rest t g e in
    fits_is later q t (Sext s.0 s.1 s.2) s.3 (sext_fits s.0 s.1 s.2 h.rest q l s.4)
  where
    sext_fits : (k n : ℕ) (a : Term) (ps : Parts) (q : Part) → Listing (head_name head.Sext) ps q →
        FitAll (where_so (is_low_width k) (shape.small k) ∷ where_so (is_sext_pair k n) (shape.small n) ∷ Bare later a ∷ []) ps →
        Fits (where_so (is_sext_pair k n) (listed (shape.word (head_name head.Sext) ∷ shape.small k ∷ shape.small n ∷ Bare later a ∷ []))) q
    sext_fits k n a Nil q l f = absurd f
    sext_fits k n a (Cons p Nil) q l f = absurd f.1
    sext_fits k n a (Cons p (Cons r ps)) q l f =
        let one = fits_so (is_low_width k) (shape.small k) p f.0 in
        let two = fits_so (is_sext_pair k n) (shape.small n) r f.1.0 in
        so_fits (is_sext_pair k n) (listed (shape.word (head_name head.Sext) ∷ shape.small k ∷ shape.small n ∷ Bare later a ∷ [])) q two.0
        (l (shape.small k ∷ shape.small n ∷ Bare later a ∷ []) (one.1, (two.1, f.1.1)))
term_at_sound later h k q t g l e = place_is later h k q t l e

-- a word that is a variable
leaf_is : (later : Bool) (at : ℕ) (w : List ℕ) (t : Term) → or_form at (leaf_of w) ≡ Ok t → Fits (shape.bare_term later t) (Name at w)
unfolding roll-Term denote.Hole.Carrier.roll
leaf_is later at w t e = by_leaf (leaf_of w) refl e
  where
    by_leaf : (o : Option Term) → leaf_of w ≡ o → or_form at o ≡ Ok t → Fits (shape.bare_term later t) (Name at w)
    by_leaf None l e = absurd (no_form at t e)
    by_leaf (Some x) l e =
        ⊎_elim
        (λ v. fits_is later (Name at w) t (Var v.0) (sym v.1) (ap tree.Name v.2, v.3))
        (λ v. fits_is later (Name at w) t (Own v.0) (sym v.1) (ap tree.Name v.2, v.3))
        (leaf_sound w t (l ∙ ap Some (ok_same x t e)))

listing_here : (at from close : ℕ) (v w : List ℕ) (ps : Parts) → w ≡ v → Listing v ps (Branch at (Cons (Name from w) ps) close)
listing_here at from close v w ps e xs f = listed_fits (shape.word v ∷ xs) at close (Cons (Name from w) ps) ((ap tree.Name e, refl), f)

list_sound : (later : Bool) (at close : ℕ) (p : Part) (ps : Parts) (t : Term) → Each (TermAt later) ps → bare_term later (Branch at (Cons p ps) close) ≡ Ok t →
    Fits (shape.bare_term later t) (Branch at (Cons p ps) close)
unfolding term_list
list_sound later at close (Number from z) ps t h e = let none : ⊥ = cc in absurd none
list_sound later at close (Quote from z) ps t h e = let none : ⊥ = cc in absurd none
list_sound later at close (Branch from qs end) ps t h e = let none : ⊥ = cc in absurd none
list_sound later at close (Name from w) ps t h e = by_op (op_named w) refl (subst (λ ts. term_list later from w ps close ts (op_named w) ≡ Ok t) (term_tokens-are later ps) e)
  where
    by_head : (o : Option Head) → head_named w ≡ o → (or_form from o >>= λ k. term_at later (record { at = from; head = k; rest = ps; close = close }) (tokens (bare_term later) ps) k) ≡ Ok t →
        Fits (shape.bare_term later t) (Branch at (Cons (Name from w) ps) close)
    by_head None k e = absurd (no_form from t e)
    by_head (Some k) n e =
        term_at_sound later (record { at = from; head = k; rest = ps; close = close }) k (Branch at (Cons (Name from w) ps) close) t h
        (listing_here at from close (head_name k) w ps (named_head w k n)) e

    by_op : (o : Option NumOp) → op_named w ≡ o → term_list later from w ps close (tokens (bare_term later) ps) o ≡ Ok t → Fits (shape.bare_term later t) (Branch at (Cons (Name from w) ps) close)
    by_op None n e = by_head (head_named w) refl e
    by_op (Some op) n e =
        operands_sound later op close ps (Branch at (Cons (Name from w) ps) close) t h (listing_here at from close (num_name op) w ps (named_op w op n)) e

-- no head is an operator
no_op : (k : Head) → op_named (head_name k) ≡ None
unfolding op_named wide_named
no_op head.True = refl
no_op head.False = refl
no_op head.Eq = refl
no_op head.Le = refl
no_op head.Lt = refl
no_op head.Not = refl
no_op head.And = refl
no_op head.Or = refl
no_op head.Imp = refl
no_op head.Plus = refl
no_op head.Minus = refl
no_op head.Times = refl
no_op head.Low = refl
no_op head.Sext = refl
no_op head.Sgn = refl
no_op head.Local = refl
no_op head.Stack = refl
no_op head.Global = refl
no_op head.Pages = refl
no_op head.Arg = refl
no_op head.Result = refl
no_op head.Index = refl
no_op head.Item = refl
no_op head.Hyp = refl
no_op head.Earlier = refl
no_op head.Cell = refl
no_op head.Region = refl
no_op head.Row = refl
no_op head.With = refl
no_op head.Safe = refl
no_op head.Trap = refl
no_op head.Take = refl
no_op head.Table = refl
no_op head.Both = refl
no_op head.Label = refl
no_op head.Loop = refl
no_op head.Skip = refl
no_op head.Have = refl
no_op head.Name = refl
no_op head.Let = refl
no_op head.Put = refl
no_op head.Split = refl
no_op head.Merge = refl
no_op head.Forget = refl
no_op head.View = refl
no_op head.Halve = refl
no_op head.Unite = refl
no_op head.Readdr = refl
no_op head.Reval = refl
no_op head.Relen = refl
no_op head.Pick = refl
no_op head.Join = refl
no_op head.Enrow = refl
no_op head.Rows = refl
no_op head.Each = refl
no_op head.Use = refl

-- a term by its layer
by_layers : (later : Bool) (q : Part) (t : Term) → Fits (shape.bare_term later t) q →
    ((l : Term-F Term) → Fits (term_here later (map-Term Term Shape (Bare later) l)) q → bare_term later q ≡ Ok (roll-Term l)) → bare_term later q ≡ Ok t
by_layers later q t f g =
    let l = out-Term t in
    let same : roll-Term l ≡ t = roll-out-Term t in
    let f1 : Fits (shape.bare_term later (roll-Term l)) q = subst (λ u. Fits (shape.bare_term later u) q) (sym same) f in
    g l (subst (λ x. Fits x q) (rolled later l) f1) ∙ ap Ok same

abbrev pub IsNoList : Part → Type 0
IsNoList (Number at z) = Unit {0}
IsNoList (Name at w) = Unit {0}
IsNoList (Quote at s) = Unit {0}
IsNoList (Branch at ps close) = ⊥

number_same : (y z : ℤ) → tree.Number y ≡ tree.Number z → y ≡ z
number_same y z e = cc

-- a list is no number, word or string
pub no_list : (xs : List Shape) (q : Part) → IsNoList q → Fits (listed xs) q → ⊥
no_list xs (Number at z) n f = let e = f.0 in cc
no_list xs (Name at w) n f = let e = f.0 in cc
no_list xs (Quote at s) n f = let e = f.0 in cc
no_list xs (Branch at ps close) n f = absurd n

no_place : (later : Bool) (p : Place) (q : Part) → IsNoList q → Fits (shape.place later p) q → ⊥
no_place later p q n f = let w = place_whole later q p f in no_list (shape.word (head_name w.0) ∷ w.1) q n w.2

number_whole : (later : Bool) (at : ℕ) (z : ℤ) (t : Term) → Fits (shape.bare_term later t) (Number at z) → bare_term later (Number at z) ≡ Ok t
unfolding roll-Term denote.Hole.Carrier.roll
number_whole later at z t f = by_layers later (Number at z) t f by_layer
  where
    by_layer : (l : Term-F Term) → Fits (term_here later (map-Term Term Shape (Bare later) l)) (Number at z) → ◌≡◌ {A = Result Term TextFault} (Ok (terms.Num z)) (Ok (roll-Term l))
    by_layer (Num y) f = ap (λ y. Ok (terms.Num y)) (number_same z y f.0)
    by_layer (Var k) f = let e = f.0 in let none : ⊥ = cc in absurd none
    by_layer (Own k) f = let e = f.0 in let none : ⊥ = cc in absurd none
    by_layer (At p) f = absurd (no_place later p (Number at z) tt f)
    by_layer (Add a b) f = let e = f.0 in let none : ⊥ = cc in absurd none
    by_layer (Sub a b) f = let e = f.0 in let none : ⊥ = cc in absurd none
    by_layer (Mul a b) f = let e = f.0 in let none : ⊥ = cc in absurd none
    by_layer (One op a) f = let e = f.0 in let none : ⊥ = cc in absurd none
    by_layer (Two op a b) f = let e = f.0 in let none : ⊥ = cc in absurd none
    by_layer (Low k a) f = let e = f.0 in let none : ⊥ = cc in absurd none
    by_layer (Sext k n a) f = let e = f.0 in let none : ⊥ = cc in absurd none
    by_layer (Sgn n a) f = let e = f.0 in let none : ⊥ = cc in absurd none

name_whole : (later : Bool) (at : ℕ) (w : List ℕ) (t : Term) → Fits (shape.bare_term later t) (Name at w) → bare_term later (Name at w) ≡ Ok t
unfolding roll-Term denote.Hole.Carrier.roll
name_whole later at w t f = by_layers later (Name at w) t f by_layer
  where
    by_layer : (l : Term-F Term) → Fits (term_here later (map-Term Term Shape (Bare later) l)) (Name at w) → or_form at (leaf_of w) ≡ Ok (roll-Term l)
    by_layer (Num y) f = let e = f.0 in let none : ⊥ = cc in absurd none
    by_layer (Var k) f = ap (λ v. or_form at (leaf_of v)) (name_same w (118 ∷ decimal k) f.0) ∙ ap (or_form at) (var_whole k f.1)
    by_layer (Own k) f = ap (λ v. or_form at (leaf_of v)) (name_same w (120 ∷ decimal k) f.0) ∙ ap (or_form at) (own_whole k f.1)
    by_layer (At p) f = absurd (no_place later p (Name at w) tt f)
    by_layer (Add a b) f = let e = f.0 in let none : ⊥ = cc in absurd none
    by_layer (Sub a b) f = let e = f.0 in let none : ⊥ = cc in absurd none
    by_layer (Mul a b) f = let e = f.0 in let none : ⊥ = cc in absurd none
    by_layer (One op a) f = let e = f.0 in let none : ⊥ = cc in absurd none
    by_layer (Two op a b) f = let e = f.0 in let none : ⊥ = cc in absurd none
    by_layer (Low k a) f = let e = f.0 in let none : ⊥ = cc in absurd none
    by_layer (Sext k n a) f = let e = f.0 in let none : ⊥ = cc in absurd none
    by_layer (Sgn n a) f = let e = f.0 in let none : ⊥ = cc in absurd none

quote_whole : (later : Bool) (at : ℕ) (s : List ℕ) (t : Term) → Fits (shape.bare_term later t) (Quote at s) → bare_term later (Quote at s) ≡ Ok t
quote_whole later at s t f = by_layers later (Quote at s) t f by_layer
  where
    by_layer : (l : Term-F Term) → Fits (term_here later (map-Term Term Shape (Bare later) l)) (Quote at s) → form at ≡ Ok (roll-Term l)
    by_layer (Num y) f = let e = f.0 in let none : ⊥ = cc in absurd none
    by_layer (Var k) f = let e = f.0 in let none : ⊥ = cc in absurd none
    by_layer (Own k) f = let e = f.0 in let none : ⊥ = cc in absurd none
    by_layer (At p) f = absurd (no_place later p (Quote at s) tt f)
    by_layer (Add a b) f = let e = f.0 in let none : ⊥ = cc in absurd none
    by_layer (Sub a b) f = let e = f.0 in let none : ⊥ = cc in absurd none
    by_layer (Mul a b) f = let e = f.0 in let none : ⊥ = cc in absurd none
    by_layer (One op a) f = let e = f.0 in let none : ⊥ = cc in absurd none
    by_layer (Two op a b) f = let e = f.0 in let none : ⊥ = cc in absurd none
    by_layer (Low k a) f = let e = f.0 in let none : ⊥ = cc in absurd none
    by_layer (Sext k n a) f = let e = f.0 in let none : ⊥ = cc in absurd none
    by_layer (Sgn n a) f = let e = f.0 in let none : ⊥ = cc in absurd none

-- no term is an empty list
empty_whole : (later : Bool) (at close : ℕ) (t : Term) → Fits (shape.bare_term later t) (Branch at Nil close) → bare_term later (Branch at Nil close) ≡ Ok t
empty_whole later at close t f = by_layers later (Branch at Nil close) t f by_layer
  where
    by_layer : (l : Term-F Term) → Fits (term_here later (map-Term Term Shape (Bare later) l)) (Branch at Nil close) → form close ≡ Ok (roll-Term l)
    by_layer (Num y) f = let e = f.0 in let none : ⊥ = cc in absurd none
    by_layer (Var k) f = let e = f.0 in let none : ⊥ = cc in absurd none
    by_layer (Own k) f = let e = f.0 in let none : ⊥ = cc in absurd none
    by_layer (At p) f = absurd (empty_place (place_whole later (Branch at Nil close) p f))
      where
        empty_list : (xs : List Shape) (w : List ℕ) → Fits (listed (shape.word w ∷ xs)) (Branch at Nil close) → ⊥
        empty_list xs w f = let e = f.0 in cc

        empty_place : ((k : Head) × (xs : List Shape) × Fits (listed (shape.word (head_name k) ∷ xs)) (Branch at Nil close) × ((h : Headed) → FitAll xs h.rest → place_at later h k ≡ Ok p)) → ⊥
        empty_place w = empty_list w.1 (head_name w.0) w.2
    by_layer (Add a b) f = let e = f.0 in let none : ⊥ = cc in absurd none
    by_layer (Sub a b) f = let e = f.0 in let none : ⊥ = cc in absurd none
    by_layer (Mul a b) f = let e = f.0 in let none : ⊥ = cc in absurd none
    by_layer (One op a) f = let e = f.0 in let none : ⊥ = cc in absurd none
    by_layer (Two op a b) f = let e = f.0 in let none : ⊥ = cc in absurd none
    by_layer (Low k a) f = let e = f.0 in let none : ⊥ = cc in absurd none
    by_layer (Sext k n a) f = let e = f.0 in let none : ⊥ = cc in absurd none
    by_layer (Sgn n a) f = let e = f.0 in let none : ⊥ = cc in absurd none

-- a list of a word and more: what reading it as a term does
word_list : (later : Bool) (at close : ℕ) (p : Part) (ps : Parts) (w : List ℕ) (xs : List Shape) → Fits (listed (shape.word w ∷ xs)) (Branch at (Cons p ps) close) →
    (from : ℕ) × (p ≡ Name from w) × FitAll xs ps
word_list later at close p ps w xs f =
    let l = fits_listed (shape.word w ∷ xs) (Branch at (Cons p ps) close) f in
    let same = branch_same l.0 at l.1 (Cons p ps) l.2 close (sym l.3) in
    by_part p (subst (FitAll (shape.word w ∷ xs)) same l.4)
  where
    branch_same : (a b : ℕ) (ps qs : Parts) (c d : ℕ) → Branch a ps c ≡ Branch b qs d → ps ≡ qs
    branch_same a b ps qs c d e = cc

    by_part : (p : Part) → FitAll (shape.word w ∷ xs) (Cons p ps) → (from : ℕ) × (p ≡ Name from w) × FitAll xs ps
    by_part (Number from z) g = let e = g.0.0 in let none : ⊥ = cc in absurd none
    by_part (Quote from z) g = let e = g.0.0 in let none : ⊥ = cc in absurd none
    by_part (Branch from qs end) g = let e = g.0.0 in let none : ⊥ = cc in absurd none
    by_part (Name from v) g = (from, ap (Name from) (name_same v w g.0.0), g.1)

head_list : (later : Bool) (at close : ℕ) (p : Part) (ps : Parts) (k : Head) (xs : List Shape) → Fits (listed (shape.word (head_name k) ∷ xs)) (Branch at (Cons p ps) close) →
    (h : Headed) × (h.rest ≡ ps) × (bare_term later (Branch at (Cons p ps) close) ≡ term_at later h (tokens (bare_term later) h.rest) k) × FitAll xs h.rest
unfolding term_list
head_list later at close p ps k xs f =
    let w = word_list later at close p ps (head_name k) xs f in
    let h : Headed = record { at = w.0; head = k; rest = ps; close = close } in (
      h,
      refl,
      ap (λ r. bare_term later (Branch at (Cons r ps) close)) w.1 ∙
          ap (term_list later w.0 (head_name k) ps close (term_tokens later ps)) (no_op k) ∙
          ap (λ o. or_form w.0 o >>= λ j. term_at later (record { at = w.0; head = j; rest = ps; close = close }) (term_tokens later ps) j) (head_found k) ∙
          ap (λ ts. term_at later h ts k) (term_tokens-are later ps),
      w.2,
    )

op_list : (later : Bool) (at close : ℕ) (p : Part) (ps : Parts) (op : NumOp) (xs : List Shape) → Fits (listed (shape.word (num_name op) ∷ xs)) (Branch at (Cons p ps) close) →
    (bare_term later (Branch at (Cons p ps) close) ≡ operands op close (tokens (bare_term later) ps)) × FitAll xs ps
unfolding term_list
op_list later at close p ps op xs f =
    let w = word_list later at close p ps (num_name op) xs f in (
      ap (λ r. bare_term later (Branch at (Cons r ps) close)) w.1 ∙
          ap (term_list later w.0 (num_name op) ps close (term_tokens later ps)) (op_found op) ∙
          ap (operands op close) (term_tokens-are later ps),
      w.2,
    )

head_whole : (later : Bool) (at close : ℕ) (p : Part) (ps : Parts) (k : Head) (xs : List Shape) (t : Term) → Fits (listed (shape.word (head_name k) ∷ xs)) (Branch at (Cons p ps) close) →
    ((h : Headed) → h.rest ≡ ps → FitAll xs h.rest → term_at later h (tokens (bare_term later) h.rest) k ≡ Ok t) → bare_term later (Branch at (Cons p ps) close) ≡ Ok t
head_whole later at close p ps k xs t f g = let h = head_list later at close p ps k xs f in h.2 ∙ g h.0 h.1 h.3

list_whole : (later : Bool) (at close : ℕ) (p : Part) (ps : Parts) (t : Term) → Each (TermAt later) ps → Fits (shape.bare_term later t) (Branch at (Cons p ps) close) →
    bare_term later (Branch at (Cons p ps) close) ≡ Ok t
unfolding term_at roll-Term denote.Hole.Carrier.roll
list_whole later at close p ps t each f = by_layers later (Branch at (Cons p ps) close) t f by_layer
  where
    here : (h : Headed) → h.rest ≡ ps → Each (TermAt later) h.rest
    here h e = subst (Each (TermAt later)) (sym e) each

    two : (h : Headed) (f : Term → Term → Term) (a b : Term) → h.rest ≡ ps → FitAll (Bare later a ∷ Bare later b ∷ []) h.rest →
        (two_of node_count h.close (tokens (bare_term later) h.rest) >>= λ x. Ok (f x.0 x.1)) ≡ Ok (f a b)
    two h f a b e g =
        goes (two_of node_count h.close (tokens (bare_term later) h.rest)) (λ x. Ok (f x.0 x.1)) (a, b) (f a b)
        (two_whole (bare_term later) (Bare later) node_count h.close h.rest a b (here h e) g) refl

    fits_pair : (k n : ℕ) (a : Term) (qs : Parts) → is_sext_pair k n ≡ true → FitAll (shape.small k ∷ shape.small n ∷ Bare later a ∷ []) qs →
        FitAll (where_so (is_low_width k) (shape.small k) ∷ where_so (is_sext_pair k n) (shape.small n) ∷ Bare later a ∷ []) qs
    fits_pair k n a Nil t g = absurd g
    fits_pair k n a (Cons r Nil) t g = absurd g.1
    fits_pair k n a (Cons r (Cons r2 qs)) t g = (so_fits (is_low_width k) (shape.small k) r (pair_low k n t) g.0, (so_fits (is_sext_pair k n) (shape.small n) r2 t g.1.0, g.1.1))

    placed : (k : Head) (xs : List Shape) (p0 : Place) → Fits (listed (shape.word (head_name k) ∷ xs)) (Branch at (Cons p ps) close) →
        ((h : Headed) → FitAll xs h.rest → term_at later h (tokens (bare_term later) h.rest) k ≡ Ok (terms.At p0)) → bare_term later (Branch at (Cons p ps) close) ≡ Ok (terms.At p0)
    placed k xs p0 f g = head_whole later at close p ps k xs (terms.At p0) f (λ h e m. g h m)

    at_place : (h : Headed) (k : Head) (p0 : Place) → place_at later h k ≡ Ok p0 → (place_at later h k >>= λ x. Ok (terms.At x)) ≡ Ok (terms.At p0)
    at_place h k p0 e = goes (place_at later h k) (λ x. Ok (terms.At x)) p0 (terms.At p0) e refl

    by_place : (p0 : Place) → Fits (shape.place later p0) (Branch at (Cons p ps) close) → bare_term later (Branch at (Cons p ps) close) ≡ Ok (terms.At p0)
    by_place (places.Local n) f = placed head.Local (shape.small n ∷ []) (places.Local n) f (λ h g. at_place h head.Local (places.Local n) (local_whole later h n g))
    by_place (places.Stack n) f = placed head.Stack (shape.small n ∷ []) (places.Stack n) f (λ h g. at_place h head.Stack (places.Stack n) (stack_whole later h n g))
    by_place (places.Global n) f = placed head.Global (shape.small n ∷ []) (places.Global n) f (λ h g. at_place h head.Global (places.Global n) (global_whole later h n g))
    by_place (places.Arg n) f = placed head.Arg (shape.small n ∷ []) (places.Arg n) f (λ h g. at_place h head.Arg (places.Arg n) (arg_whole later h n g))
    by_place places.Pages f = placed head.Pages [] places.Pages f (λ h g. at_place h head.Pages places.Pages (pages_whole later h g))
    by_place places.Result f = placed head.Result [] places.Result f (λ h g. at_place h head.Result places.Result (result_whole later h g))
    by_place places.Index f =
        let s = fits_so later (listed (shape.word (head_name head.Index) ∷ [])) (Branch at (Cons p ps) close) f in
        placed head.Index [] places.Index s.1 (λ h g. at_place h head.Index places.Index (index_whole later h s.0 g))
    by_place places.Item f =
        let s = fits_so later (listed (shape.word (head_name head.Item) ∷ [])) (Branch at (Cons p ps) close) f in
        placed head.Item [] places.Item s.1 (λ h g. at_place h head.Item places.Item (item_whole later h s.0 g))

    by_layer : (l : Term-F Term) → Fits (term_here later (map-Term Term Shape (Bare later) l)) (Branch at (Cons p ps) close) → bare_term later (Branch at (Cons p ps) close) ≡ Ok (roll-Term l)
    by_layer (Num y) f = let e = f.0 in let none : ⊥ = cc in absurd none
    by_layer (Var k) f = let e = f.0 in let none : ⊥ = cc in absurd none
    by_layer (Own k) f = let e = f.0 in let none : ⊥ = cc in absurd none
    by_layer (At p0) f = by_place p0 f
    by_layer (Add a b) f = head_whole later at close p ps head.Plus (Bare later a ∷ Bare later b ∷ []) (terms.Add a b) f (λ h e g. two h terms.Add a b e g)
    by_layer (Sub a b) f = head_whole later at close p ps head.Minus (Bare later a ∷ Bare later b ∷ []) (terms.Sub a b) f (λ h e g. two h terms.Sub a b e g)
    by_layer (Mul a b) f = head_whole later at close p ps head.Times (Bare later a ∷ Bare later b ∷ []) (terms.Mul a b) f (λ h e g. two h terms.Mul a b e g)
    by_layer (One op a) f =
        let s = fits_so (eqb (num_operands op) 1) (listed (shape.word (num_name op) ∷ Bare later a ∷ [])) (Branch at (Cons p ps) close) f in
        let o = op_list later at close p ps op (Bare later a ∷ []) s.1 in
        o.0 ∙ ap (λ v. cond v (one_of node_count close (tokens (bare_term later) ps) >>= λ a. Ok (terms.One op a)) (two_of node_count close (tokens (bare_term later) ps) >>= λ x. Ok (terms.Two op x.0 x.1))) s.0 ∙
        goes (one_of node_count close (tokens (bare_term later) ps)) (λ a. Ok (terms.One op a)) a (terms.One op a) (one_whole (bare_term later) (Bare later) node_count close ps a each o.1) refl
    by_layer (Two op a b) f =
        let s = fits_so (eqb (num_operands op) 2) (listed (shape.word (num_name op) ∷ Bare later a ∷ Bare later b ∷ [])) (Branch at (Cons p ps) close) f in
        let o = op_list later at close p ps op (Bare later a ∷ Bare later b ∷ []) s.1 in
        o.0 ∙ ap (λ v. cond v (one_of node_count close (tokens (bare_term later) ps) >>= λ a. Ok (terms.One op a)) (two_of node_count close (tokens (bare_term later) ps) >>= λ x. Ok (terms.Two op x.0 x.1))) (two_not_one (num_operands op) s.0) ∙
        goes (two_of node_count close (tokens (bare_term later) ps)) (λ x. Ok (terms.Two op x.0 x.1)) (a, b) (terms.Two op a b) (two_whole (bare_term later) (Bare later) node_count close ps a b each o.1) refl
    by_layer (Low k a) f =
        let s = fits_so (is_low_width k) (listed (shape.word (head_name head.Low) ∷ shape.small k ∷ Bare later a ∷ [])) (Branch at (Cons p ps) close) f in
        head_whole later at close p ps head.Low (shape.small k ∷ Bare later a ∷ []) (terms.Low k a) s.1
        (λ h e g. sized_whole later h.close h.rest is_low_width terms.Low k a (here h e) (fits_size (is_low_width k) k (Bare later a ∷ []) h.rest s.0 g))
    by_layer (Sext k n a) f =
        let s = fits_so (is_sext_pair k n) (listed (shape.word (head_name head.Sext) ∷ shape.small k ∷ shape.small n ∷ Bare later a ∷ [])) (Branch at (Cons p ps) close) f in
        head_whole later at close p ps head.Sext (shape.small k ∷ shape.small n ∷ Bare later a ∷ []) (terms.Sext k n a) s.1
        (λ h e g. sext_whole later h.close h.rest k n a (here h e) (fits_pair k n a h.rest s.0 g))
    by_layer (Sgn n a) f =
        let s = fits_so (is_sgn_width n) (listed (shape.word (head_name head.Sgn) ∷ shape.small n ∷ Bare later a ∷ [])) (Branch at (Cons p ps) close) f in
        head_whole later at close p ps head.Sgn (shape.small n ∷ Bare later a ∷ []) (terms.Sgn n a) s.1
        (λ h e g. sized_whole later h.close h.rest is_sgn_width terms.Sgn n a (here h e) (fits_size (is_sgn_width n) n (Bare later a ∷ []) h.rest s.0 g))

num_sound : (later : Bool) (at : ℕ) (z : ℤ) (t : Term) → ◌≡◌ {A = Result Term TextFault} (Ok (terms.Num z)) (Ok t) → Fits (shape.bare_term later t) (Number at z)
unfolding roll-Term denote.Hole.Carrier.roll
num_sound later at z t e = fits_is later (Number at z) t (Num z) (ok_same (terms.Num z) t e) (refl, refl)

mutual
  term_sound : (later : Bool) (q : Part) (t : Term) → bare_term later q ≡ Ok t → Fits (shape.bare_term later t) q
  term_sound later (Number at z) t e = num_sound later at z t e
  term_sound later (Name at w) t e = leaf_is later at w t e
  term_sound later (Quote at s) t e = absurd (no_form at t e)
  term_sound later (Branch at Nil close) t e = absurd (no_form close t e)
  term_sound later (Branch at (Cons p ps) close) t e = list_sound later at close p ps t (terms_exact later ps) e

  terms_exact : (later : Bool) (ps : Parts) → Each (TermAt later) ps
  terms_exact later Nil = tt
  terms_exact later (Cons p ps) = (record { sound = term_sound later p; whole = term_whole later p }, terms_exact later ps)

  term_whole : (later : Bool) (q : Part) (t : Term) → Fits (shape.bare_term later t) q → bare_term later q ≡ Ok t
  term_whole later (Number at z) t f = number_whole later at z t f
  term_whole later (Name at w) t f = name_whole later at w t f
  term_whole later (Quote at s) t f = quote_whole later at s t f
  term_whole later (Branch at Nil close) t f = empty_whole later at close t f
  term_whole later (Branch at (Cons p ps) close) t f = list_whole later at close p ps t (terms_exact later ps) f

-- a term with its limit

limited_sound : {A : Type 0} (at n : ℕ) (x y : A) → limited at n x ≡ Ok y → (leb n 4096 ≡ true) × (x ≡ y)
limited_sound {A} at n x y e = by_many (ltb 4096 n) refl e
  where
    by_many : (v : Bool) → ltb 4096 n ≡ v → ◌≡◌ {A = Result A TextFault} (cond v (Err (Limit at Nodes)) (Ok x)) (Ok y) → (leb n 4096 ≡ true) × (x ≡ y)
    by_many true t e = let none : ⊥ = cc in absurd none
    by_many false t e = (le-leb n 4096 (ltb-false 4096 n t), ok_same x y e)

limited_whole : {A : Type 0} (at n : ℕ) (x : A) → leb n 4096 ≡ true → limited at n x ≡ Ok x
limited_whole at n x h = rw (le-ltb 4096 n (leb-true n 4096 h)) refl

pub term_exact : (later : Bool) → Exact (term_in later) (term_shape later)
unfolding term_in term_shape
term_exact later = record { sound = sound; whole = whole }
  where
    sound : (q : Part) (t : Term) → term_in later q ≡ Ok t → Fits (term_shape later t) q
    sound q t e =
        let x = bound (bare_term later q) (λ t. limited (part.place q) (node_count t) t) t e in
        let l = limited_sound (part.place q) (node_count x.0) x.0 t x.2 in
        subst (λ t. Fits (term_shape later t) q) l.1 (so_fits (leb (node_count x.0) 4096) (Bare later x.0) q l.0 (term_sound later q x.0 x.1))

    whole : (q : Part) (t : Term) → Fits (term_shape later t) q → term_in later q ≡ Ok t
    whole q t f =
        let s = fits_so (leb (node_count t) 4096) (Bare later t) q f in
        goes (bare_term later q) (λ t. limited (part.place q) (node_count t) t) t t (term_whole later q t s.1) (limited_whole (part.place q) (node_count t) t s.0)

-- formulas

abbrev FormulaAt : Bool → Part → Type 0
FormulaAt later p = ExactAt (bare_formula later) (shape.bare_formula later) p

abbrev BareFormula : Bool → Formula → Shape
BareFormula later f = shape.bare_formula later f

rolled_formula : (later : Bool) (l : Formula-F Formula) → shape.bare_formula later (roll-Formula l) ≡ formula_here later (map-Formula Formula Shape (BareFormula later) l)
rolled_formula later l = fold-roll-Formula Shape (formula_here later) l

formula_is : (later : Bool) (q : Part) (t : Formula) (l : Formula-F Formula) → roll-Formula l ≡ t → Fits (formula_here later (map-Formula Formula Shape (BareFormula later) l)) q → Fits (shape.bare_formula later t) q
formula_is later q t l e f = subst (λ t. Fits (shape.bare_formula later t) q) e (subst (λ x. Fits x q) (sym (rolled_formula later l)) f)

-- two parts of a list with this word
both_sound : {A : Type 0} (later : Bool) (read : Part → Result A TextFault) (view : A → Shape) (nodes : A → ℕ) (f : A → A → Formula) (layer_of : A → A → Formula-F Formula) (w : List ℕ) (close : ℕ) (ps : Parts) (q : Part) (t : Formula) →
    ((a b : A) → roll-Formula (layer_of a b) ≡ f a b) → ((a b : A) → formula_here later (map-Formula Formula Shape (BareFormula later) (layer_of a b)) ≡ listed (shape.word w ∷ view a ∷ view b ∷ [])) →
    Each (ExactAt read view) ps → Listing w ps q → (two_of nodes close (tokens read ps) >>= λ x. Ok (f x.0 x.1)) ≡ Ok t → Fits (shape.bare_formula later t) q
both_sound later read view nodes f layer_of w close ps q t r s h l e =
    let x = bound (two_of nodes close (tokens read ps)) (λ x. Ok (f x.0 x.1)) t e in
    formula_is later q t (layer_of x.0.0 x.0.1) (r x.0.0 x.0.1 ∙ ok_same (f x.0.0 x.0.1) t x.2)
    (subst (λ y. Fits y q) (sym (s x.0.0 x.0.1)) (l (view x.0.0 ∷ view x.0.1 ∷ []) (two_sound read view nodes close ps x.0 h x.1)))

terms_sound : (later : Bool) (f : Term → Term → Formula) (layer_of : Term → Term → Formula-F Formula) (w : List ℕ) (close : ℕ) (ps : Parts) (q : Part) (t : Formula) →
    ((a b : Term) → roll-Formula (layer_of a b) ≡ f a b) → ((a b : Term) → formula_here later (map-Formula Formula Shape (BareFormula later) (layer_of a b)) ≡ listed (shape.word w ∷ Bare later a ∷ Bare later b ∷ [])) →
    Listing w ps q → (two_of node_count close (term_tokens later ps) >>= λ x. Ok (f x.0 x.1)) ≡ Ok t → Fits (shape.bare_formula later t) q
terms_sound later f layer_of w close ps q t r s l e =
    both_sound later (bare_term later) (Bare later) node_count f layer_of w close ps q t r s (terms_exact later ps) l
    (subst (λ ts. (two_of node_count close ts >>= λ x. Ok (f x.0 x.1)) ≡ Ok t) (term_tokens-are later ps) e)

no_formula : (later : Bool) (at : ℕ) (q : Part) (t : Formula) → form at ≡ Ok t → Fits (shape.bare_formula later t) q
no_formula later at q t e = absurd (no_form at t e)

formula_at_sound : (later : Bool) (h : Headed) (k : Head) (q : Part) (t : Formula) → Each (FormulaAt later) h.rest → Listing (head_name k) h.rest q →
    formula_at later h (tokens (bare_formula later) h.rest) k ≡ Ok t → Fits (shape.bare_formula later t) q
unfolding formula_at roll-Formula denote.Hole.Carrier.roll
formula_at_sound later h head.Eq q t g l e = terms_sound later formulas.Eq layer.Eq (head_name head.Eq) h.close h.rest q t (λ a b. refl) (λ a b. refl) l e
formula_at_sound later h head.Le q t g l e = terms_sound later formulas.Le layer.Le (head_name head.Le) h.close h.rest q t (λ a b. refl) (λ a b. refl) l e
formula_at_sound later h head.Lt q t g l e = terms_sound later formulas.Lt layer.Lt (head_name head.Lt) h.close h.rest q t (λ a b. refl) (λ a b. refl) l e
formula_at_sound later h head.Not q t g l e =
    let x = bound (one_of formula_nodes h.close (tokens (bare_formula later) h.rest)) (λ f. Ok (formulas.Not f)) t e in
    formula_is later q t (layer.Not x.0) (ok_same (formulas.Not x.0) t x.2)
    (l (BareFormula later x.0 ∷ []) (one_sound (bare_formula later) (BareFormula later) formula_nodes h.close h.rest x.0 g x.1))
formula_at_sound later h head.And q t g l e = both_sound later (bare_formula later) (BareFormula later) formula_nodes formulas.And layer.And (head_name head.And) h.close h.rest q t (λ a b. refl) (λ a b. refl) g l e
formula_at_sound later h head.Or q t g l e = both_sound later (bare_formula later) (BareFormula later) formula_nodes formulas.Or layer.Or (head_name head.Or) h.close h.rest q t (λ a b. refl) (λ a b. refl) g l e
formula_at_sound later h head.Imp q t g l e = both_sound later (bare_formula later) (BareFormula later) formula_nodes formulas.Imp layer.Imp (head_name head.Imp) h.close h.rest q t (λ a b. refl) (λ a b. refl) g l e
formula_at_sound later h k q t g l e = no_formula later h.at q t e

constant_sound : (later : Bool) (at : ℕ) (w : List ℕ) (k : Head) (t : Formula) → w ≡ head_name k → constant at k ≡ Ok t → Fits (shape.bare_formula later t) (Name at w)
unfolding roll-Formula denote.Hole.Carrier.roll
constant_sound later at w head.True t n e = formula_is later (Name at w) t layer.True (ok_same formulas.True t e) (ap tree.Name n, refl)
constant_sound later at w head.False t n e = formula_is later (Name at w) t layer.False (ok_same formulas.False t e) (ap tree.Name n, refl)
constant_sound later at w k t n e = no_formula later at (Name at w) t e

word_sound : (later : Bool) (at : ℕ) (w : List ℕ) (t : Formula) → bare_formula later (Name at w) ≡ Ok t → Fits (shape.bare_formula later t) (Name at w)
word_sound later at w t e = by_head (head_named w) refl e
  where
    by_head : (o : Option Head) → head_named w ≡ o → (or_form at o >>= constant at) ≡ Ok t → Fits (shape.bare_formula later t) (Name at w)
    by_head None n e = no_formula later at (Name at w) t e
    by_head (Some k) n e = constant_sound later at w k t (named_head w k n) e

formula_list_sound : (later : Bool) (at close : ℕ) (p : Part) (ps : Parts) (t : Formula) → Each (FormulaAt later) ps → bare_formula later (Branch at (Cons p ps) close) ≡ Ok t →
    Fits (shape.bare_formula later t) (Branch at (Cons p ps) close)
formula_list_sound later at close (Number from z) ps t h e = let none : ⊥ = cc in absurd none
formula_list_sound later at close (Quote from z) ps t h e = let none : ⊥ = cc in absurd none
formula_list_sound later at close (Branch from qs end) ps t h e = let none : ⊥ = cc in absurd none
formula_list_sound later at close (Name from w) ps t h e =
    by_head (head_named w) refl
    (subst (λ ts. (or_form from (head_named w) >>= λ k. formula_at later (record { at = from; head = k; rest = ps; close = close }) ts k) ≡ Ok t) (formula_tokens-are later ps) e)
  where
    by_head : (o : Option Head) → head_named w ≡ o → (or_form from o >>= λ k. formula_at later (record { at = from; head = k; rest = ps; close = close }) (tokens (bare_formula later) ps) k) ≡ Ok t →
        Fits (shape.bare_formula later t) (Branch at (Cons (Name from w) ps) close)
    by_head None n e = no_formula later from (Branch at (Cons (Name from w) ps) close) t e
    by_head (Some k) n e =
        formula_at_sound later (record { at = from; head = k; rest = ps; close = close }) k (Branch at (Cons (Name from w) ps) close) t h
        (listing_here at from close (head_name k) w ps (named_head w k n)) e

by_formula_layers : (later : Bool) (q : Part) (t : Formula) → Fits (shape.bare_formula later t) q →
    ((l : Formula-F Formula) → Fits (formula_here later (map-Formula Formula Shape (BareFormula later) l)) q → bare_formula later q ≡ Ok (roll-Formula l)) → bare_formula later q ≡ Ok t
by_formula_layers later q t f g =
    let l = out-Formula t in
    let same : roll-Formula l ≡ t = roll-out-Formula t in
    let f1 : Fits (shape.bare_formula later (roll-Formula l)) q = subst (λ u. Fits (shape.bare_formula later u) q) (sym same) f in
    g l (subst (λ x. Fits x q) (rolled_formula later l) f1) ∙ ap Ok same

word_whole : (later : Bool) (at : ℕ) (w : List ℕ) (t : Formula) → Fits (shape.bare_formula later t) (Name at w) → bare_formula later (Name at w) ≡ Ok t
unfolding roll-Formula denote.Hole.Carrier.roll
word_whole later at w t f = by_formula_layers later (Name at w) t f by_layer
  where
    by_layer : (l : Formula-F Formula) → Fits (formula_here later (map-Formula Formula Shape (BareFormula later) l)) (Name at w) → (or_form at (head_named w) >>= constant at) ≡ Ok (roll-Formula l)
    by_layer layer.True f = ap (λ v. or_form at (head_named v) >>= constant at) (name_same w (head_name head.True) f.0) ∙ ap (λ o. or_form at o >>= constant at) (head_found head.True)
    by_layer layer.False f = ap (λ v. or_form at (head_named v) >>= constant at) (name_same w (head_name head.False) f.0) ∙ ap (λ o. or_form at o >>= constant at) (head_found head.False)
    by_layer (layer.Eq a b) f = let e = f.0 in let none : ⊥ = cc in absurd none
    by_layer (layer.Le a b) f = let e = f.0 in let none : ⊥ = cc in absurd none
    by_layer (layer.Lt a b) f = let e = f.0 in let none : ⊥ = cc in absurd none
    by_layer (layer.Not a) f = let e = f.0 in let none : ⊥ = cc in absurd none
    by_layer (layer.And a b) f = let e = f.0 in let none : ⊥ = cc in absurd none
    by_layer (layer.Or a b) f = let e = f.0 in let none : ⊥ = cc in absurd none
    by_layer (layer.Imp a b) f = let e = f.0 in let none : ⊥ = cc in absurd none

abbrev IsNoFormula : Part → Type 0
IsNoFormula (Number at z) = Unit {0}
IsNoFormula (Name at w) = ⊥
IsNoFormula (Quote at s) = Unit {0}
IsNoFormula (Branch at Nil close) = Unit {0}
IsNoFormula (Branch at (Cons p ps) close) = ⊥

-- no formula is a number, a string or an empty list
never_formula : (later : Bool) (q : Part) (t : Formula) → IsNoFormula q → Fits (shape.bare_formula later t) q → ⊥
never_formula later q t n f =
    let l = out-Formula t in
    let same : roll-Formula l ≡ t = roll-out-Formula t in
    let f1 : Fits (shape.bare_formula later (roll-Formula l)) q = subst (λ u. Fits (shape.bare_formula later u) q) (sym same) f in
    by_layer l q n (subst (λ x. Fits x q) (rolled_formula later l) f1)
  where
    no_word : (w : List ℕ) (q : Part) → IsNoFormula q → tree_of q ≡ tree.Name w → ⊥
    no_word w (Number at z) n e = cc
    no_word w (Name at v) n e = absurd n
    no_word w (Quote at s) n e = cc
    no_word w (Branch at ps close) n e = cc

    no_parts : (x : tree.Tree) (xs : tree.Trees) (q : Part) → IsNoFormula q → tree_of q ≡ tree.Branch (tree.Cons x xs) → ⊥
    no_parts x xs (Number at z) n e = cc
    no_parts x xs (Name at v) n e = absurd n
    no_parts x xs (Quote at s) n e = cc
    no_parts x xs (Branch at Nil close) n e = cc
    no_parts x xs (Branch at (Cons p ps) close) n e = absurd n

    by_layer : (l : Formula-F Formula) (q : Part) → IsNoFormula q → Fits (formula_here later (map-Formula Formula Shape (BareFormula later) l)) q → ⊥
    by_layer layer.True q n f = no_word (head_name head.True) q n f.0
    by_layer layer.False q n f = no_word (head_name head.False) q n f.0
    by_layer (layer.Eq a b) q n f = no_parts _ _ q n f.0
    by_layer (layer.Le a b) q n f = no_parts _ _ q n f.0
    by_layer (layer.Lt a b) q n f = no_parts _ _ q n f.0
    by_layer (layer.Not a) q n f = no_parts _ _ q n f.0
    by_layer (layer.And a b) q n f = no_parts _ _ q n f.0
    by_layer (layer.Or a b) q n f = no_parts _ _ q n f.0
    by_layer (layer.Imp a b) q n f = no_parts _ _ q n f.0

formula_head_list : (later : Bool) (at close : ℕ) (p : Part) (ps : Parts) (k : Head) (xs : List Shape) (t : Formula) → Fits (listed (shape.word (head_name k) ∷ xs)) (Branch at (Cons p ps) close) →
    ((h : Headed) → h.rest ≡ ps → FitAll xs h.rest → formula_at later h (tokens (bare_formula later) h.rest) k ≡ Ok t) → bare_formula later (Branch at (Cons p ps) close) ≡ Ok t
formula_head_list later at close p ps k xs t f g =
    let w = word_list later at close p ps (head_name k) xs f in
    let h : Headed = record { at = w.0; head = k; rest = ps; close = close } in
    ap (λ r. bare_formula later (Branch at (Cons r ps) close)) w.1 ∙
    ap (λ o. or_form w.0 o >>= λ j. formula_at later (record { at = w.0; head = j; rest = ps; close = close }) (formula_tokens later ps) j) (head_found k) ∙
    ap (λ ts. formula_at later h ts k) (formula_tokens-are later ps) ∙ g h refl w.2

formula_list_whole : (later : Bool) (at close : ℕ) (p : Part) (ps : Parts) (t : Formula) → Each (FormulaAt later) ps → Fits (shape.bare_formula later t) (Branch at (Cons p ps) close) →
    bare_formula later (Branch at (Cons p ps) close) ≡ Ok t
unfolding formula_at roll-Formula denote.Hole.Carrier.roll
formula_list_whole later at close p ps t each f = by_formula_layers later (Branch at (Cons p ps) close) t f by_layer
  where
    here : (h : Headed) → h.rest ≡ ps → Each (FormulaAt later) h.rest
    here h e = subst (Each (FormulaAt later)) (sym e) each

    terms_two : (h : Headed) (f : Term → Term → Formula) (a b : Term) → FitAll (Bare later a ∷ Bare later b ∷ []) h.rest →
        (two_of node_count h.close (term_tokens later h.rest) >>= λ x. Ok (f x.0 x.1)) ≡ Ok (f a b)
    terms_two h f a b g =
        goes (two_of node_count h.close (term_tokens later h.rest)) (λ x. Ok (f x.0 x.1)) (a, b) (f a b)
        (ap (two_of node_count h.close) (term_tokens-are later h.rest) ∙ two_whole (bare_term later) (Bare later) node_count h.close h.rest a b (terms_exact later h.rest) g) refl

    two : (h : Headed) (f : Formula → Formula → Formula) (a b : Formula) → h.rest ≡ ps → FitAll (BareFormula later a ∷ BareFormula later b ∷ []) h.rest →
        (two_of formula_nodes h.close (tokens (bare_formula later) h.rest) >>= λ x. Ok (f x.0 x.1)) ≡ Ok (f a b)
    two h f a b e g =
        goes (two_of formula_nodes h.close (tokens (bare_formula later) h.rest)) (λ x. Ok (f x.0 x.1)) (a, b) (f a b)
        (two_whole (bare_formula later) (BareFormula later) formula_nodes h.close h.rest a b (here h e) g) refl

    by_layer : (l : Formula-F Formula) → Fits (formula_here later (map-Formula Formula Shape (BareFormula later) l)) (Branch at (Cons p ps) close) → bare_formula later (Branch at (Cons p ps) close) ≡ Ok (roll-Formula l)
    by_layer layer.True f = let e = f.0 in let none : ⊥ = cc in absurd none
    by_layer layer.False f = let e = f.0 in let none : ⊥ = cc in absurd none
    by_layer (layer.Eq a b) f = formula_head_list later at close p ps head.Eq (Bare later a ∷ Bare later b ∷ []) (formulas.Eq a b) f (λ h e g. terms_two h formulas.Eq a b g)
    by_layer (layer.Le a b) f = formula_head_list later at close p ps head.Le (Bare later a ∷ Bare later b ∷ []) (formulas.Le a b) f (λ h e g. terms_two h formulas.Le a b g)
    by_layer (layer.Lt a b) f = formula_head_list later at close p ps head.Lt (Bare later a ∷ Bare later b ∷ []) (formulas.Lt a b) f (λ h e g. terms_two h formulas.Lt a b g)
    by_layer (layer.Not a) f =
        formula_head_list later at close p ps head.Not (BareFormula later a ∷ []) (formulas.Not a) f (λ h e g.
        goes (one_of formula_nodes h.close (tokens (bare_formula later) h.rest)) (λ f. Ok (formulas.Not f)) a (formulas.Not a)
        (one_whole (bare_formula later) (BareFormula later) formula_nodes h.close h.rest a (here h e) g) refl)
    by_layer (layer.And a b) f = formula_head_list later at close p ps head.And (BareFormula later a ∷ BareFormula later b ∷ []) (formulas.And a b) f (λ h e g. two h formulas.And a b e g)
    by_layer (layer.Or a b) f = formula_head_list later at close p ps head.Or (BareFormula later a ∷ BareFormula later b ∷ []) (formulas.Or a b) f (λ h e g. two h formulas.Or a b e g)
    by_layer (layer.Imp a b) f = formula_head_list later at close p ps head.Imp (BareFormula later a ∷ BareFormula later b ∷ []) (formulas.Imp a b) f (λ h e g. two h formulas.Imp a b e g)

mutual
  formula_sound : (later : Bool) (q : Part) (t : Formula) → bare_formula later q ≡ Ok t → Fits (shape.bare_formula later t) q
  formula_sound later (Number at z) t e = no_formula later at (Number at z) t e
  formula_sound later (Name at w) t e = word_sound later at w t e
  formula_sound later (Quote at s) t e = no_formula later at (Quote at s) t e
  formula_sound later (Branch at Nil close) t e = no_formula later close (Branch at Nil close) t e
  formula_sound later (Branch at (Cons p ps) close) t e = formula_list_sound later at close p ps t (formulas_exact later ps) e

  formulas_exact : (later : Bool) (ps : Parts) → Each (FormulaAt later) ps
  formulas_exact later Nil = tt
  formulas_exact later (Cons p ps) = (record { sound = formula_sound later p; whole = formula_whole later p }, formulas_exact later ps)

  formula_whole : (later : Bool) (q : Part) (t : Formula) → Fits (shape.bare_formula later t) q → bare_formula later q ≡ Ok t
  formula_whole later (Number at z) t f = absurd (never_formula later (Number at z) t tt f)
  formula_whole later (Name at w) t f = word_whole later at w t f
  formula_whole later (Quote at s) t f = absurd (never_formula later (Quote at s) t tt f)
  formula_whole later (Branch at Nil close) t f = absurd (never_formula later (Branch at Nil close) t tt f)
  formula_whole later (Branch at (Cons p ps) close) t f = formula_list_whole later at close p ps t (formulas_exact later ps) f

pub formula_exact : (later : Bool) → Exact (formula_in later) (formula_shape later)
unfolding formula_in formula_shape
formula_exact later = record { sound = sound; whole = whole }
  where
    sound : (q : Part) (t : Formula) → formula_in later q ≡ Ok t → Fits (formula_shape later t) q
    sound q t e =
        let x = bound (bare_formula later q) (λ t. limited (part.place q) (formula_nodes t) t) t e in
        let l = limited_sound (part.place q) (formula_nodes x.0) x.0 t x.2 in
        subst (λ t. Fits (formula_shape later t) q) l.1 (so_fits (leb (formula_nodes x.0) 4096) (BareFormula later x.0) q l.0 (formula_sound later q x.0 x.1))

    whole : (q : Part) (t : Formula) → Fits (formula_shape later t) q → formula_in later q ≡ Ok t
    whole q t f =
        let s = fits_so (leb (formula_nodes t) 4096) (BareFormula later t) q f in
        goes (bare_formula later q) (λ t. limited (part.place q) (formula_nodes t) t) t t (formula_whole later q t s.1) (limited_whole (part.place q) (formula_nodes t) t s.0)
