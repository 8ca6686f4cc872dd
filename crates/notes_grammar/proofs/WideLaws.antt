-- What a text of version 1 may hold, one of version 2 may hold too.
use Rattle.std.proofs.Common.{◌≡◌, ℕ, ◌+◌, Bool, true, false, leb, eqb, List, [], ◌∷◌, ◌++◌, Option, Some, None, sym, ap, ◌∙◌, subst}
use Rattle.std.specs.Prelude.{map, codes, nat_le}
use Rattle.wasm_values.specs.Operators.{num_operands}
use Rattle.term_trees.specs.declared.term.Place.{Place}
use Rattle.term_trees.specs.declared.term.Place.TheVariants as places
use Rattle.term_trees.specs.declared.term.Term.{Term, roll-Term, map-Term, fold-roll-Term}
use Rattle.term_trees.specs.declared.term.Term.TheOpen.{Term-F, Num, Var, Own, At, Add, Sub, Mul, One, Two, Low, Sext, Sgn}
use Rattle.term_trees.specs.declared.term.Formula.{Formula, roll-Formula, map-Formula, fold-roll-Formula}
use Rattle.term_trees.specs.declared.term.Formula.TheOpen.{Formula-F}
use Rattle.term_trees.specs.declared.term.Formula.TheOpen as layer
use Rattle.term_trees.specs.Terms.{node_count, is_low_width, is_sext_pair, is_sgn_width}
use Rattle.term_trees.specs.Formulas.{formula_nodes}
use Rattle.term_trees.proofs.Sameness.{induct, induct_formula}
use Rattle.bitvector_rules.specs.declared.step.Step.{Step, Step-F, out-Step, roll-out-Step}
use Rattle.notes.specs.declared.chunk.Chunk.{Chunk}
use Rattle.notes.specs.declared.chunk.Chunk.TheVariants as chunks
use Rattle.notes.specs.declared.heap_move.HeapMove.{HeapMove}
use Rattle.notes.specs.declared.heap_move.HeapMove.TheVariants as heap
use Rattle.notes.specs.declared.assertion.Assertion.{Assertion}
use Rattle.notes.specs.declared.assertion.Contract.{Contract}
use Rattle.notes.specs.declared.uses.With.{With}
use Rattle.notes.specs.declared.uses.Take.{Take}
use Rattle.notes.specs.declared.moves.Move.{Move}
use Rattle.notes.specs.declared.moves.Move.TheVariants as moves
use Rattle.notes.specs.declared.uses.Use.{Use}
use Rattle.notes.specs.declared.uses.Use.TheVariants as used
use Rattle.notes.specs.declared.outline.Note.{Note}
use Rattle.notes.specs.declared.outline.FuncNotes.{FuncNotes}
use Rattle.notes.specs.declared.outline.Initial.{Initial}
use Rattle.notes.specs.declared.outline.Notes.{Notes}
use Rattle.notes_grammar.specs.Parts.{Part, Parts, Number, Name, Quote, Branch, Nil, Cons}
use Rattle.notes_grammar.specs.Shapes.{Shape, Setting, listed, where_so, rest_of}
use Rattle.notes_grammar.specs.Shapes as shape
use Rattle.notes_grammar.specs.Words.{num_name}
use Rattle.notes_grammar.proofs.Exactness.{Fits, FitAll, listed_fits, fits_listed, so_fits, fits_so}
use Rattle.notes_grammar.proofs.StepLaws.{Sub as SubShape, Layer, step_is, parts_fit, step_never, sub_never}

-- each part that fits the first fits the second
abbrev pub Wider : Shape → Shape → Type 0
Wider x y = (p : Part) → Fits x p → Fits y p

abbrev pub AllWider : List Shape → List Shape → Type 0
AllWider [] [] = Unit {0}
AllWider [] (y ∷ ys) = ⊥
AllWider (x ∷ xs) [] = ⊥
AllWider (x ∷ xs) (y ∷ ys) = Wider x y × AllWider xs ys

same : (x : Shape) → Wider x x
same x p f = f

pub all_wide : (xs ys : List Shape) → AllWider xs ys → (ps : Parts) → FitAll xs ps → FitAll ys ps
all_wide [] [] w ps f = f
all_wide [] (y ∷ ys) w ps f = absurd w
all_wide (x ∷ xs) [] w ps f = absurd w
all_wide (x ∷ xs) (y ∷ ys) w Nil f = absurd f
all_wide (x ∷ xs) (y ∷ ys) w (Cons p ps) f = (w.0 p f.0, all_wide xs ys w.1 ps f.1)

list_wide : (xs ys : List Shape) → AllWider xs ys → Wider (listed xs) (listed ys)
list_wide xs ys w p f =
    let l = fits_listed xs p f in
    subst (Fits (listed ys)) (sym l.3) (listed_fits ys l.0 l.2 l.1 (all_wide xs ys w l.1 l.4))

so_wide : (b : Bool) (x y : Shape) → Wider x y → Wider (where_so b x) (where_so b y)
so_wide b x y w p f = let s = fits_so b x p f in so_fits b y p s.0 (w p s.1)

never_wide : (x y : Shape) → Wider (where_so false x) y
never_wide x y p f = let s = fits_so false x p f in let e = s.0 in let none : ⊥ = cc in absurd none

map_wide : {A : Type 0} (f g : A → Shape) → ((a : A) → Wider (f a) (g a)) → (xs : List A) → AllWider (map f xs) (map g xs)
map_wide f g w [] = tt
map_wide f g w (x ∷ xs) = (w x, map_wide f g w xs)

each_wide : {A : Type 0} (f g : A → Shape) → ((a : A) → Wider (f a) (g a)) → (xs : List A) → Wider (listed (map f xs)) (listed (map g xs))
each_wide f g w xs = list_wide (map f xs) (map g xs) (map_wide f g w xs)

both_wide : (xs ys us vs : List Shape) → AllWider xs us → AllWider ys vs → AllWider (xs ++ ys) (us ++ vs)
both_wide [] ys [] vs w v = v
both_wide [] ys (u ∷ us) vs w v = absurd w
both_wide (x ∷ xs) ys [] vs w v = absurd w
both_wide (x ∷ xs) ys (u ∷ us) vs w v = (w.0, both_wide xs ys us vs w.1 v)

all_same : (xs : List Shape) → AllWider xs xs
all_same [] = tt
all_same (x ∷ xs) = (same x, all_same xs)

place_wide : (p : Place) → Wider (shape.place false p) (shape.place true p)
place_wide (places.Local k) = λ q f. f
place_wide (places.Stack k) = λ q f. f
place_wide (places.Global k) = λ q f. f
place_wide (places.Arg k) = λ q f. f
place_wide places.Pages = λ q f. f
place_wide places.Result = λ q f. f
place_wide places.Index = never_wide (listed (shape.word (codes "index") ∷ [])) (shape.place true places.Index)
place_wide places.Item = never_wide (listed (shape.word (codes "item") ∷ [])) (shape.place true places.Item)

-- terms

abbrev WideTerm : Term → Type 0
WideTerm t = Wider (shape.bare_term false t) (shape.bare_term true t)

abbrev TermPart : Type 0
TermPart = (t : Term) × WideTerm t

term_part : TermPart → Term
term_part e = e.0

one_word : (w : List ℕ) (a : TermPart) → Wider (listed (shape.word w ∷ shape.bare_term false a.0 ∷ [])) (listed (shape.word w ∷ shape.bare_term true a.0 ∷ []))
one_word w a = list_wide (shape.word w ∷ shape.bare_term false a.0 ∷ []) (shape.word w ∷ shape.bare_term true a.0 ∷ []) (same (shape.word w), (a.1, tt))

two_words : (w : List ℕ) (a b : TermPart) →
    Wider (listed (shape.word w ∷ shape.bare_term false a.0 ∷ shape.bare_term false b.0 ∷ [])) (listed (shape.word w ∷ shape.bare_term true a.0 ∷ shape.bare_term true b.0 ∷ []))
two_words w a b =
    list_wide (shape.word w ∷ shape.bare_term false a.0 ∷ shape.bare_term false b.0 ∷ []) (shape.word w ∷ shape.bare_term true a.0 ∷ shape.bare_term true b.0 ∷ [])
    (same (shape.word w), (a.1, (b.1, tt)))

abbrev Under : Bool → Term-F TermPart → Shape
Under later l = shape.term_here later (map-Term Term Shape (shape.bare_term later) (map-Term TermPart Term (λ e. e.0) l))

under_wide : (l : Term-F TermPart) → Wider (Under false l) (Under true l)
under_wide (Num z) = same (shape.whole z)
under_wide (Var k) = same (shape.lettered 118 k)
under_wide (Own k) = same (shape.lettered 120 k)
under_wide (At p) = place_wide p
under_wide (Add a b) = two_words (codes "+") a b
under_wide (Sub a b) = two_words (codes "-") a b
under_wide (Mul a b) = two_words (codes "*") a b
under_wide (One op a) = so_wide (eqb (num_operands op) 1) (listed (shape.word (num_name op) ∷ shape.bare_term false a.0 ∷ [])) (listed (shape.word (num_name op) ∷ shape.bare_term true a.0 ∷ [])) (one_word (num_name op) a)
under_wide (Two op a b) =
    so_wide (eqb (num_operands op) 2) (listed (shape.word (num_name op) ∷ shape.bare_term false a.0 ∷ shape.bare_term false b.0 ∷ [])) (listed (shape.word (num_name op) ∷ shape.bare_term true a.0 ∷ shape.bare_term true b.0 ∷ []))
    (two_words (num_name op) a b)
under_wide (Low k a) =
    so_wide (is_low_width k) (listed (shape.word (codes "low") ∷ shape.small k ∷ shape.bare_term false a.0 ∷ [])) (listed (shape.word (codes "low") ∷ shape.small k ∷ shape.bare_term true a.0 ∷ []))
    (list_wide (shape.word (codes "low") ∷ shape.small k ∷ shape.bare_term false a.0 ∷ []) (shape.word (codes "low") ∷ shape.small k ∷ shape.bare_term true a.0 ∷ []) (same (shape.word (codes "low")), (same (shape.small k), (a.1, tt))))
under_wide (Sext k n a) =
    so_wide (is_sext_pair k n) (listed (shape.word (codes "sext") ∷ shape.small k ∷ shape.small n ∷ shape.bare_term false a.0 ∷ [])) (listed (shape.word (codes "sext") ∷ shape.small k ∷ shape.small n ∷ shape.bare_term true a.0 ∷ []))
    (list_wide (shape.word (codes "sext") ∷ shape.small k ∷ shape.small n ∷ shape.bare_term false a.0 ∷ []) (shape.word (codes "sext") ∷ shape.small k ∷ shape.small n ∷ shape.bare_term true a.0 ∷ [])
    (same (shape.word (codes "sext")), (same (shape.small k), (same (shape.small n), (a.1, tt)))))
under_wide (Sgn n a) =
    so_wide (is_sgn_width n) (listed (shape.word (codes "sgn") ∷ shape.small n ∷ shape.bare_term false a.0 ∷ [])) (listed (shape.word (codes "sgn") ∷ shape.small n ∷ shape.bare_term true a.0 ∷ []))
    (list_wide (shape.word (codes "sgn") ∷ shape.small n ∷ shape.bare_term false a.0 ∷ []) (shape.word (codes "sgn") ∷ shape.small n ∷ shape.bare_term true a.0 ∷ []) (same (shape.word (codes "sgn")), (same (shape.small n), (a.1, tt))))

rolled : (later : Bool) (l : Term-F TermPart) → shape.bare_term later (roll-Term (map-Term TermPart Term (λ e. e.0) l)) ≡ Under later l
rolled later l = fold-roll-Term Shape (shape.term_here later) (map-Term TermPart Term (λ e. e.0) l)

between : (x y u v : Shape) → x ≡ u → y ≡ v → Wider u v → Wider x y
between x y u v e d w p f = subst (λ z. Fits z p) (sym d) (w p (subst (λ z. Fits z p) e f))

bare_wide : (t : Term) → WideTerm t
bare_wide = induct WideTerm (λ l.
    between (shape.bare_term false (roll-Term (map-Term TermPart Term (λ e. e.0) l))) (shape.bare_term true (roll-Term (map-Term TermPart Term (λ e. e.0) l))) (Under false l) (Under true l)
    (rolled false l) (rolled true l) (under_wide l))

term_wide : (t : Term) → Wider (shape.term false t) (shape.term true t)
unfolding shape.term
term_wide t = so_wide (nat_le (node_count t) 4096) (shape.bare_term false t) (shape.bare_term true t) (bare_wide t)

-- formulas

abbrev WideFormula : Formula → Type 0
WideFormula g = Wider (shape.bare_formula false g) (shape.bare_formula true g)

abbrev FormulaPart : Type 0
FormulaPart = (g : Formula) × WideFormula g

terms_wide : (w : List ℕ) (a b : Term) → Wider (listed (shape.word w ∷ shape.bare_term false a ∷ shape.bare_term false b ∷ [])) (listed (shape.word w ∷ shape.bare_term true a ∷ shape.bare_term true b ∷ []))
terms_wide w a b = two_words w (a, bare_wide a) (b, bare_wide b)

pair_wide : (w : List ℕ) (f g : FormulaPart) →
    Wider (listed (shape.word w ∷ shape.bare_formula false f.0 ∷ shape.bare_formula false g.0 ∷ [])) (listed (shape.word w ∷ shape.bare_formula true f.0 ∷ shape.bare_formula true g.0 ∷ []))
pair_wide w f g =
    list_wide (shape.word w ∷ shape.bare_formula false f.0 ∷ shape.bare_formula false g.0 ∷ []) (shape.word w ∷ shape.bare_formula true f.0 ∷ shape.bare_formula true g.0 ∷ [])
    (same (shape.word w), (f.1, (g.1, tt)))

abbrev UnderFormula : Bool → Formula-F FormulaPart → Shape
UnderFormula later l = shape.formula_here later (map-Formula Formula Shape (shape.bare_formula later) (map-Formula FormulaPart Formula (λ e. e.0) l))

under_formula : (l : Formula-F FormulaPart) → Wider (UnderFormula false l) (UnderFormula true l)
under_formula layer.True = same (shape.word (codes "true"))
under_formula layer.False = same (shape.word (codes "false"))
under_formula (layer.Eq a b) = terms_wide (codes "=") a b
under_formula (layer.Le a b) = terms_wide (codes "<=") a b
under_formula (layer.Lt a b) = terms_wide (codes "<") a b
under_formula (layer.Not f) =
    list_wide (shape.word (codes "not") ∷ shape.bare_formula false f.0 ∷ []) (shape.word (codes "not") ∷ shape.bare_formula true f.0 ∷ []) (same (shape.word (codes "not")), (f.1, tt))
under_formula (layer.And f g) = pair_wide (codes "and") f g
under_formula (layer.Or f g) = pair_wide (codes "or") f g
under_formula (layer.Imp f g) = pair_wide (codes "imp") f g

rolled_formula : (later : Bool) (l : Formula-F FormulaPart) → shape.bare_formula later (roll-Formula (map-Formula FormulaPart Formula (λ e. e.0) l)) ≡ UnderFormula later l
rolled_formula later l = fold-roll-Formula Shape (shape.formula_here later) (map-Formula FormulaPart Formula (λ e. e.0) l)

bare_formula_wide : (g : Formula) → WideFormula g
bare_formula_wide = induct_formula WideFormula (λ l.
    between (shape.bare_formula false (roll-Formula (map-Formula FormulaPart Formula (λ e. e.0) l))) (shape.bare_formula true (roll-Formula (map-Formula FormulaPart Formula (λ e. e.0) l)))
    (UnderFormula false l) (UnderFormula true l) (rolled_formula false l) (rolled_formula true l) (under_formula l))

formula_wide : (g : Formula) → Wider (shape.formula false g) (shape.formula true g)
unfolding shape.formula
formula_wide g = so_wide (nat_le (formula_nodes g) 4096) (shape.bare_formula false g) (shape.bare_formula true g) (bare_formula_wide g)

-- steps

step_listed : (later : Bool) (level : ℕ) (s : Step) → shape.step later level s ≡ listed (Layer later level (out-Step s))
step_listed later level s = ap (shape.step later level) (sym (roll-out-Step s)) ∙ step_is later level (out-Step s)

mutual
  step_wide : (p : Part) (level : ℕ) (s : Step) → Fits (shape.step false level s) p → Fits (shape.step true level s) p
  step_wide (Number at z) level s f = absurd (step_never false level s (Number at z) tt f)
  step_wide (Name at w) level s f = absurd (step_never false level s (Name at w) tt f)
  step_wide (Quote at w) level s f = absurd (step_never false level s (Quote at w) tt f)
  step_wide (Branch at ps close) level s f =
      let g = parts_fit (Layer false level (out-Step s)) at close ps (subst (λ x. Fits x (Branch at ps close)) (step_listed false level s) f) in
      subst (λ x. Fits x (Branch at ps close)) (sym (step_listed true level s)) (listed_fits (Layer true level (out-Step s)) at close ps (layer_wide ps level (out-Step s) g))

  layer_wide : (ps : Parts) (level : ℕ) (l : Step-F Step) → FitAll (Layer false level l) ps → FitAll (Layer true level l) ps
  layer_wide Nil level l f = absurd f
  layer_wide (Cons a Nil) level l f = absurd f.1
  layer_wide (Cons a (Cons b Nil)) level l f = absurd f.1.1
  layer_wide (Cons a (Cons b (Cons c Nil))) level l f = absurd f.1.1.1
  layer_wide (Cons a (Cons b (Cons c (Cons d ps)))) level l f =
      (f.0, (formula_wide l.formula b f.1.0, (f.1.1.0, (f.1.1.1.0, subs_wide ps (level + 1) l.subs f.1.1.1.1))))

  subs_wide : (ps : Parts) (level : ℕ) (subs : List (List Step)) → FitAll (map (SubShape false level) subs) ps → FitAll (map (SubShape true level) subs) ps
  subs_wide Nil level [] f = tt
  subs_wide Nil level (ss ∷ subs) f = absurd f
  subs_wide (Cons p ps) level [] f = absurd f
  subs_wide (Cons p ps) level (ss ∷ subs) f = (sub_wide p level ss f.0, subs_wide ps level subs f.1)

  sub_wide : (p : Part) (level : ℕ) (ss : List Step) → Fits (SubShape false level ss) p → Fits (SubShape true level ss) p
  sub_wide (Number at z) level ss f = absurd (sub_never false level ss (Number at z) tt f)
  sub_wide (Name at w) level ss f = absurd (sub_never false level ss (Name at w) tt f)
  sub_wide (Quote at w) level ss f = absurd (sub_never false level ss (Quote at w) tt f)
  sub_wide (Branch at ps close) level ss f =
      let s = fits_so (leb level 50) (listed (map (shape.step false level) ss)) (Branch at ps close) f in
      so_fits (leb level 50) (listed (map (shape.step true level) ss)) (Branch at ps close) s.0
      (listed_fits (map (shape.step true level) ss) at close ps (steps_wide ps level ss (parts_fit (map (shape.step false level) ss) at close ps s.1)))

  steps_wide : (ps : Parts) (level : ℕ) (ss : List Step) → FitAll (map (shape.step false level) ss) ps → FitAll (map (shape.step true level) ss) ps
  steps_wide Nil level [] f = tt
  steps_wide Nil level (s ∷ ss) f = absurd f
  steps_wide (Cons p ps) level [] f = absurd f
  steps_wide (Cons p ps) level (s ∷ ss) f = (step_wide p level s f.0, steps_wide ps level ss f.1)

derivation_wide : (ss : List Step) → AllWider (shape.steps false ss) (shape.steps true ss)
derivation_wide = map_wide (shape.step false 0) (shape.step true 0) (λ s p f. step_wide p 0 s f)

-- chunks and assertions

chunk_wide : (c : Chunk) → Wider (shape.chunk false c) (shape.chunk true c)
unfolding shape.chunk
chunk_wide (chunks.Cell w at value) =
    list_wide (shape.word (codes "cell") ∷ shape.width w ∷ shape.term false at ∷ shape.term false value ∷ []) (shape.word (codes "cell") ∷ shape.width w ∷ shape.term true at ∷ shape.term true value ∷ [])
    (same (shape.word (codes "cell")), (same (shape.width w), (term_wide at, (term_wide value, tt))))
chunk_wide (chunks.Region at len) =
    list_wide (shape.word (codes "region") ∷ shape.term false at ∷ shape.term false len ∷ []) (shape.word (codes "region") ∷ shape.term true at ∷ shape.term true len ∷ [])
    (same (shape.word (codes "region")), (term_wide at, (term_wide len, tt)))
chunk_wide (chunks.Row w at count each) =
    never_wide (listed (shape.word (codes "row") ∷ shape.width w ∷ shape.term false at ∷ shape.term false count ∷ shape.formula false each ∷ [])) (shape.chunk true (chunks.Row w at count each))

assertion_wide : (a : Assertion) → Wider (shape.assertion false a) (shape.assertion true a)
unfolding shape.assertion
assertion_wide a =
    list_wide (shape.word (codes "assert") ∷ shape.small a.own ∷ listed (map (shape.formula false) a.formulas) ∷ listed (map (shape.chunk false) a.chunks) ∷ [])
    (shape.word (codes "assert") ∷ shape.small a.own ∷ listed (map (shape.formula true) a.formulas) ∷ listed (map (shape.chunk true) a.chunks) ∷ [])
    (same (shape.word (codes "assert")), (same (shape.small a.own), (each_wide (shape.formula false) (shape.formula true) formula_wide a.formulas, (each_wide (shape.chunk false) (shape.chunk true) chunk_wide a.chunks, tt))))

with_wide : (w : With) → Wider (shape.with false w) (shape.with true w)
unfolding shape.with
with_wide w =
    list_wide (shape.word (codes "with") ∷ listed (map (shape.term false) w.terms) ∷ listed (map shape.small w.facts) ∷ listed (map shape.small w.chunks) ∷ [])
    (shape.word (codes "with") ∷ listed (map (shape.term true) w.terms) ∷ listed (map shape.small w.facts) ∷ listed (map shape.small w.chunks) ∷ [])
    (same (shape.word (codes "with")), (each_wide (shape.term false) (shape.term true) term_wide w.terms, (same (listed (map shape.small w.facts)), (same (listed (map shape.small w.chunks)), tt))))

-- moves

small_term_small : (w : List ℕ) (c : ℕ) (t : Term) (f : ℕ) →
    Wider (listed (shape.word w ∷ shape.small c ∷ shape.term false t ∷ shape.small f ∷ [])) (listed (shape.word w ∷ shape.small c ∷ shape.term true t ∷ shape.small f ∷ []))
small_term_small w c t f =
    list_wide (shape.word w ∷ shape.small c ∷ shape.term false t ∷ shape.small f ∷ []) (shape.word w ∷ shape.small c ∷ shape.term true t ∷ shape.small f ∷ [])
    (same (shape.word w), (same (shape.small c), (term_wide t, (same (shape.small f), tt))))

heap_wide : (m : HeapMove) → Wider (shape.heap_move false m) (shape.heap_move true m)
unfolding shape.heap_move
heap_wide (heap.Split c t f g) =
    list_wide (shape.word (codes "split") ∷ shape.small c ∷ shape.term false t ∷ shape.small f ∷ shape.small g ∷ []) (shape.word (codes "split") ∷ shape.small c ∷ shape.term true t ∷ shape.small f ∷ shape.small g ∷ [])
    (same (shape.word (codes "split")), (same (shape.small c), (term_wide t, (same (shape.small f), (same (shape.small g), tt)))))
heap_wide (heap.Merge c d f) = λ q h. h
heap_wide (heap.Forget c) = λ q h. h
heap_wide (heap.View c) = λ q h. h
heap_wide (heap.Halve c) = λ q h. h
heap_wide (heap.Unite c d f) = λ q h. h
heap_wide (heap.Readdr c t f) = small_term_small (codes "readdr") c t f
heap_wide (heap.Reval c t f) = small_term_small (codes "reval") c t f
heap_wide (heap.Relen c t f) = small_term_small (codes "relen") c t f
heap_wide (heap.Pick c t f g) = never_wide (listed (shape.word (codes "pick") ∷ shape.small c ∷ shape.term false t ∷ shape.small f ∷ shape.small g ∷ [])) (shape.heap_move true (heap.Pick c t f g))
heap_wide (heap.Join c d f) = never_wide (listed (shape.word (codes "join") ∷ shape.small c ∷ shape.small d ∷ shape.small f ∷ [])) (shape.heap_move true (heap.Join c d f))
heap_wide (heap.Enrow c each f) = never_wide (listed (shape.word (codes "enrow") ∷ shape.small c ∷ shape.formula false each ∷ shape.small f ∷ [])) (shape.heap_move true (heap.Enrow c each f))
heap_wide (heap.Rows c w each) = never_wide (listed (shape.word (codes "rows") ∷ shape.small c ∷ shape.width w ∷ shape.formula false each ∷ [])) (shape.heap_move true (heap.Rows c w each))

-- without lemmas
abbrev pub Bare : Bool → Setting
Bare later = record { later = later; names = [] }

move_wide : (m : Move) → Wider (shape.move (Bare false) m) (shape.move (Bare true) m)
unfolding shape.move
move_wide (moves.Have f ss) =
    list_wide (shape.word (codes "have") ∷ shape.formula false f ∷ shape.steps false ss) (shape.word (codes "have") ∷ shape.formula true f ∷ shape.steps true ss)
    (same (shape.word (codes "have")), (formula_wide f, derivation_wide ss))
move_wide (moves.Name p) = list_wide (shape.word (codes "name") ∷ shape.place false p ∷ []) (shape.word (codes "name") ∷ shape.place true p ∷ []) (same (shape.word (codes "name")), (place_wide p, tt))
move_wide (moves.Let t) = list_wide (shape.word (codes "let") ∷ shape.term false t ∷ []) (shape.word (codes "let") ∷ shape.term true t ∷ []) (same (shape.word (codes "let")), (term_wide t, tt))
move_wide (moves.Put p t f) =
    list_wide (shape.word (codes "put") ∷ shape.place false p ∷ shape.term false t ∷ shape.small f ∷ []) (shape.word (codes "put") ∷ shape.place true p ∷ shape.term true t ∷ shape.small f ∷ [])
    (same (shape.word (codes "put")), (place_wide p, (term_wide t, (same (shape.small f), tt))))
move_wide (moves.Heap m) = heap_wide m
move_wide (moves.Each k f ss) = never_wide (listed (shape.word (codes "each") ∷ shape.small k ∷ shape.formula false f ∷ shape.steps false ss)) (shape.move (Bare true) (moves.Each k f ss))
move_wide (moves.Lemma n ts fs) =
    never_wide (listed (shape.word (codes "use") ∷ shape.name n ∷ listed (map (shape.term false) ts) ∷ listed (map shape.small fs) ∷ [])) (shape.move (Bare true) (moves.Lemma n ts fs))

moves_wide : (ms : List Move) → Wider (listed (map (shape.move (Bare false)) ms)) (listed (map (shape.move (Bare true)) ms))
moves_wide = each_wide (shape.move (Bare false)) (shape.move (Bare true)) move_wide

take_wide : (t : Take) → Wider (shape.take (Bare false) t) (shape.take (Bare true) t)
unfolding shape.take
take_wide t =
    list_wide (shape.word (codes "take") ∷ listed (map (shape.move (Bare false)) t.moves) ∷ shape.with false t.with ∷ []) (shape.word (codes "take") ∷ listed (map (shape.move (Bare true)) t.moves) ∷ shape.with true t.with ∷ [])
    (same (shape.word (codes "take")), (moves_wide t.moves, (with_wide t.with, tt)))

-- uses and notes

use_wide : (u : Use) → AllWider (shape.use_of (Bare false) u) (shape.use_of (Bare true) u)
unfolding shape.use_of
use_wide used.Nothing = tt
use_wide (used.With w) = (with_wide w, tt)
use_wide (used.Cell k) = ((λ q f. f), tt)
use_wide (used.Safe ks) = ((λ q f. f), tt)
use_wide (used.Trap w) = (list_wide (shape.word (codes "trap") ∷ shape.with false w ∷ []) (shape.word (codes "trap") ∷ shape.with true w ∷ []) (same (shape.word (codes "trap")), (with_wide w, tt)), tt)
use_wide (used.Take t) = (take_wide t, tt)
use_wide (used.Table ts) = (
  list_wide (shape.word (codes "table") ∷ map (shape.take (Bare false)) ts) (shape.word (codes "table") ∷ map (shape.take (Bare true)) ts)
      (same (shape.word (codes "table")), map_wide (shape.take (Bare false)) (shape.take (Bare true)) take_wide ts),
  tt,
)
use_wide (used.Both v w) = (
  list_wide (shape.word (codes "both") ∷ shape.with false v ∷ shape.with false w ∷ []) (shape.word (codes "both") ∷ shape.with true v ∷ shape.with true w ∷ [])
      (same (shape.word (codes "both")), (with_wide v, (with_wide w, tt))),
  tt,
)
use_wide (used.Label a) = (list_wide (shape.word (codes "label") ∷ shape.assertion false a ∷ []) (shape.word (codes "label") ∷ shape.assertion true a ∷ []) (same (shape.word (codes "label")), (assertion_wide a, tt)), tt)
use_wide (used.Loop a w) = (
  list_wide (shape.word (codes "loop") ∷ shape.assertion false a ∷ shape.with false w ∷ []) (shape.word (codes "loop") ∷ shape.assertion true a ∷ shape.with true w ∷ [])
      (same (shape.word (codes "loop")), (assertion_wide a, (with_wide w, tt))),
  tt,
)
use_wide (used.Skip a t) = (
  list_wide (shape.word (codes "skip") ∷ shape.assertion false a ∷ shape.take (Bare false) t ∷ []) (shape.word (codes "skip") ∷ shape.assertion true a ∷ shape.take (Bare true) t ∷ [])
      (same (shape.word (codes "skip")), (assertion_wide a, (take_wide t, tt))),
  tt,
)

note_wide : (n : Note) → Wider (shape.note (Bare false) n) (shape.note (Bare true) n)
unfolding shape.note
note_wide n =
    list_wide (shape.word (codes "at") ∷ shape.small n.at ∷ (map (shape.move (Bare false)) n.moves ++ shape.use_of (Bare false) n.used))
    (shape.word (codes "at") ∷ shape.small n.at ∷ (map (shape.move (Bare true)) n.moves ++ shape.use_of (Bare true) n.used)) (
      same (shape.word (codes "at")),
      (
        same (shape.small n.at),
        both_wide (map (shape.move (Bare false)) n.moves) (shape.use_of (Bare false) n.used) (map (shape.move (Bare true)) n.moves) (shape.use_of (Bare true) n.used)
            (map_wide (shape.move (Bare false)) (shape.move (Bare true)) move_wide n.moves) (use_wide n.used),
      ),
    )

side_wide : (tag : List ℕ) (a : Assertion) → Wider (listed (shape.word tag ∷ shape.assertion false a ∷ [])) (listed (shape.word tag ∷ shape.assertion true a ∷ []))
side_wide tag a = list_wide (shape.word tag ∷ shape.assertion false a ∷ []) (shape.word tag ∷ shape.assertion true a ∷ []) (same (shape.word tag), (assertion_wide a, tt))

abbrev Side : Bool → List ℕ → Assertion → Shape
Side later tag a = listed (shape.word tag ∷ shape.assertion later a ∷ [])

contract_wide : (o : Option Contract) → AllWider (shape.contract_of false o) (shape.contract_of true o)
unfolding shape.contract_of
contract_wide None = tt
contract_wide (Some k) = (
  list_wide (shape.word (codes "contract") ∷ Side false (codes "pre") k.pre ∷ Side false (codes "post") k.post ∷ []) (shape.word (codes "contract") ∷ Side true (codes "pre") k.pre ∷ Side true (codes "post") k.post ∷ [])
      (same (shape.word (codes "contract")), (side_wide (codes "pre") k.pre, (side_wide (codes "post") k.post, tt))),
  tt,
)

function_wide : (n : FuncNotes) → Wider (shape.function (Bare false) n) (shape.function (Bare true) n)
unfolding shape.function
function_wide n =
    list_wide (shape.word (codes "func") ∷ shape.small n.func ∷ (shape.contract_of false n.contract ++ map (shape.note (Bare false)) n.notes))
    (shape.word (codes "func") ∷ shape.small n.func ∷ (shape.contract_of true n.contract ++ map (shape.note (Bare true)) n.notes)) (
      same (shape.word (codes "func")),
      (
        same (shape.small n.func),
        both_wide (shape.contract_of false n.contract) (map (shape.note (Bare false)) n.notes) (shape.contract_of true n.contract) (map (shape.note (Bare true)) n.notes)
            (contract_wide n.contract) (map_wide (shape.note (Bare false)) (shape.note (Bare true)) note_wide n.notes),
      ),
    )

after_wide : (o : Option Take) → AllWider (shape.after_of (Bare false) o) (shape.after_of (Bare true) o)
after_wide None = tt
after_wide (Some t) = (take_wide t, tt)

initial_wide : (i : Initial) → Wider (shape.initial (Bare false) i) (shape.initial (Bare true) i)
unfolding shape.initial
initial_wide i =
    list_wide (shape.word (codes "initial") ∷ listed (map (shape.chunk false) i.chunks) ∷ listed (map (shape.move (Bare false)) i.moves) ∷ shape.with false i.with ∷ shape.after_of (Bare false) i.after)
    (shape.word (codes "initial") ∷ listed (map (shape.chunk true) i.chunks) ∷ listed (map (shape.move (Bare true)) i.moves) ∷ shape.with true i.with ∷ shape.after_of (Bare true) i.after)
    (same (shape.word (codes "initial")), (each_wide (shape.chunk false) (shape.chunk true) chunk_wide i.chunks, (moves_wide i.moves, (with_wide i.with, after_wide i.after))))

-- all that stands behind the version
pub rest_wide : (n : Notes) → AllWider (rest_of (Bare false) n) (rest_of (Bare true) n)
rest_wide n = (assertion_wide n.invariant, (initial_wide n.initial, map_wide (shape.function (Bare false)) (shape.function (Bare true)) function_wide n.funcs))
