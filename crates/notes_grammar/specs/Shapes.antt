-- The grammar of notes: for each construct the tree of its text, and whether a text has it.
use Rattle.std.specs.Prelude.{ℕ, ℤ, pos, ◌+◌, Bool, true, false, ◌==◌, nat_le, not, ◌&&◌, ◌||◌, List, [], ◌∷◌, ◌++◌, map, length, Option, Some, None, codes}
use Rattle.std.specs.Fmt.{decimal}
use Rattle.std.specs.List.{list_any}
use Rattle.wasm_values.specs.Operators.{num_operands}
use Rattle.term_trees.specs.declared.term.Place.{Place}
use Rattle.term_trees.specs.declared.term.Place.TheVariants as places
use Rattle.term_trees.specs.declared.term.Term.{Term, fold-Term}
use Rattle.term_trees.specs.declared.term.Term.TheOpen.{Term-F, Num, Var, Own, At, Add, Sub, Mul, One, Two, Low, Sext, Sgn}
use Rattle.term_trees.specs.declared.term.Formula.{Formula, fold-Formula}
use Rattle.term_trees.specs.declared.term.Formula.TheOpen.{Formula-F}
use Rattle.term_trees.specs.declared.term.Formula.TheOpen as formulas
use Rattle.term_trees.specs.Terms.{node_count, is_low_width, is_sext_pair, is_sgn_width}
use Rattle.term_trees.specs.Formulas.{formula_nodes}
use Rattle.bitvector_rules.specs.declared.step.Ref.{Ref}
use Rattle.bitvector_rules.specs.declared.step.Ref.TheVariants as ref
use Rattle.bitvector_rules.specs.declared.step.Step.{Step, Step-F, fold-Step}
use Rattle.notes.specs.declared.chunk.Chunk.{Chunk}
use Rattle.notes.specs.declared.chunk.Chunk.TheVariants as chunks
use Rattle.notes.specs.declared.heap_move.HeapMove.{HeapMove}
use Rattle.notes.specs.declared.heap_move.HeapMove.TheVariants as heap
use Rattle.notes.specs.declared.assertion.Assertion.{Assertion}
use Rattle.notes.specs.declared.assertion.Contract.{Contract}
use Rattle.notes.specs.declared.uses.With.{With}
use Rattle.notes.specs.declared.uses.Take.{Take}
use Rattle.notes.specs.declared.moves.Move.{Move}
use Rattle.notes.specs.declared.moves.Move.TheVariants as moves
use Rattle.notes.specs.declared.uses.Use.{Use}
use Rattle.notes.specs.declared.uses.Use.TheVariants as used
use Rattle.notes.specs.declared.outline.Note.{Note}
use Rattle.notes.specs.declared.outline.FuncNotes.{FuncNotes}
use Rattle.notes.specs.declared.outline.Initial.{Initial}
use Rattle.notes.specs.declared.outline.Lemma.{Lemma}
use Rattle.notes.specs.declared.outline.Notes.{Notes}
use Rattle.notes.specs.WellFormed.{is_width}
use Rattle.sexp_text.specs.Bytes.{is_letter}
use Rattle.sexp_text.specs.Printing.{Tree, Trees, Number, Name, Branch, Nil, Cons}
use Rattle.notes_grammar.specs.Words.{num_name, rule_name, same_word}

-- the tree of a text, and whether what it is the text of keeps to its limits
pub record Shape : Type 0 where
  pub tree : Tree
  pub fits : Bool

abbrev pub trees_in : List Shape → Trees
trees_in [] = Nil
trees_in (x ∷ xs) = Cons x.tree (trees_in xs)

abbrev pub all_fit : List Shape → Bool
all_fit [] = true
all_fit (x ∷ xs) = x.fits && all_fit xs

-- a list of these parts
abbrev pub listed : List Shape → Shape
listed xs = record { tree = Branch (trees_in xs); fits = all_fit xs }

abbrev pub word : List ℕ → Shape
word w = record { tree = Name w; fits = true }

-- the same, only where this holds
abbrev pub where_so : Bool → Shape → Shape
where_so holds x = record { tree = x.tree; fits = holds && x.fits }

-- K, I and COUNT: a number from 0 to 4294967295
abbrev pub is_small : ℕ → Bool
is_small n = nat_le n 4294967295

abbrev pub small : ℕ → Shape
small n = record { tree = Number (pos n); fits = is_small n }

-- NUMBER
abbrev pub whole : ℤ → Shape
whole z = record { tree = Number z; fits = true }

-- a letter and a number, as `v3`
abbrev pub lettered : ℕ → ℕ → Shape
lettered letter n = record { tree = Name (letter ∷ decimal n); fits = is_small n }

-- PLACE. The last two stand in version 2 alone.
abbrev pub place : Bool → Place → Shape
place later (places.Local k) = listed (word (codes "local") ∷ small k ∷ [])
place later (places.Stack k) = listed (word (codes "stack") ∷ small k ∷ [])
place later (places.Global k) = listed (word (codes "global") ∷ small k ∷ [])
place later (places.Arg k) = listed (word (codes "arg") ∷ small k ∷ [])
place later places.Pages = listed (word (codes "pages") ∷ [])
place later places.Result = listed (word (codes "result") ∷ [])
place later places.Index = where_so later (listed (word (codes "index") ∷ []))
place later places.Item = where_so later (listed (word (codes "item") ∷ []))

-- TERM, one layer from its parts
abbrev pub term_here : Bool → Term-F Shape → Shape
term_here later (Num z) = whole z
term_here later (Var k) = lettered 118 k
term_here later (Own k) = lettered 120 k
term_here later (At p) = place later p
term_here later (Add a b) = listed (word (codes "+") ∷ a ∷ b ∷ [])
term_here later (Sub a b) = listed (word (codes "-") ∷ a ∷ b ∷ [])
term_here later (Mul a b) = listed (word (codes "*") ∷ a ∷ b ∷ [])
term_here later (One op a) = where_so (num_operands op == 1) (listed (word (num_name op) ∷ a ∷ []))
term_here later (Two op a b) = where_so (num_operands op == 2) (listed (word (num_name op) ∷ a ∷ b ∷ []))
term_here later (Low k a) = where_so (is_low_width k) (listed (word (codes "low") ∷ small k ∷ a ∷ []))
term_here later (Sext k n a) = where_so (is_sext_pair k n) (listed (word (codes "sext") ∷ small k ∷ small n ∷ a ∷ []))
term_here later (Sgn n a) = where_so (is_sgn_width n) (listed (word (codes "sgn") ∷ small n ∷ a ∷ []))

abbrev pub bare_term : Bool → Term → Shape
bare_term later t = fold-Term Shape (term_here later) t

-- TERM, with its limit: at most 4,096 nodes
unfoldable pub term : Bool → Term → Shape
term later t = where_so (nat_le (node_count t) 4096) (bare_term later t)

-- FORMULA, one layer from its parts
abbrev pub formula_here : Bool → Formula-F Shape → Shape
formula_here later formulas.True = word (codes "true")
formula_here later formulas.False = word (codes "false")
formula_here later (formulas.Eq a b) = listed (word (codes "=") ∷ bare_term later a ∷ bare_term later b ∷ [])
formula_here later (formulas.Le a b) = listed (word (codes "<=") ∷ bare_term later a ∷ bare_term later b ∷ [])
formula_here later (formulas.Lt a b) = listed (word (codes "<") ∷ bare_term later a ∷ bare_term later b ∷ [])
formula_here later (formulas.Not f) = listed (word (codes "not") ∷ f ∷ [])
formula_here later (formulas.And f g) = listed (word (codes "and") ∷ f ∷ g ∷ [])
formula_here later (formulas.Or f g) = listed (word (codes "or") ∷ f ∷ g ∷ [])
formula_here later (formulas.Imp f g) = listed (word (codes "imp") ∷ f ∷ g ∷ [])

abbrev pub bare_formula : Bool → Formula → Shape
bare_formula later f = fold-Formula Shape (formula_here later) f

-- FORMULA, with its limit: at most 4,096 nodes
unfoldable pub formula : Bool → Formula → Shape
formula later f = where_so (nat_le (formula_nodes f) 4096) (bare_formula later f)

-- REF
abbrev pub reference : Ref → Shape
reference (ref.Hyp k) = listed (word (codes "h") ∷ small k ∷ [])
reference (ref.Earlier k) = listed (word (codes "s") ∷ small k ∷ [])

-- a step by the levels of sub-derivations around it, of which there are at most 50
abbrev pub sub_here : ℕ → List (ℕ → Shape) → Shape
sub_here level steps = where_so (nat_le level 50) (listed (map (λ s. s level) steps))

-- STEP, one layer from its parts
abbrev pub step_here : Bool → Step-F (ℕ → Shape) → ℕ → Shape
step_here later s level =
    listed (word (rule_name s.rule) ∷ formula later s.formula ∷ listed (map reference s.refs) ∷ listed (map whole s.numbers) ∷ map (sub_here (level + 1)) s.subs)

-- STEP inside so many sub-derivations
unfoldable pub step : Bool → ℕ → Step → Shape
step later level s = fold-Step (ℕ → Shape) (step_here later) s level

-- the steps of a derivation, which is inside of none
abbrev pub steps : Bool → List Step → List Shape
steps later = map (step later 0)

-- W
abbrev pub width : ℕ → Shape
width w = where_so (is_width w) (small w)

-- CHUNK
unfoldable pub chunk : Bool → Chunk → Shape
chunk later (chunks.Cell w at value) = listed (word (codes "cell") ∷ width w ∷ term later at ∷ term later value ∷ [])
chunk later (chunks.Region at len) = listed (word (codes "region") ∷ term later at ∷ term later len ∷ [])
chunk later (chunks.Row w at count each) =
    where_so later (listed (word (codes "row") ∷ width w ∷ term later at ∷ term later count ∷ formula later each ∷ []))

-- ASSERT
unfoldable pub assertion : Bool → Assertion → Shape
assertion later a =
    listed (word (codes "assert") ∷ small a.own ∷ listed (map (formula later) a.formulas) ∷ listed (map (chunk later) a.chunks) ∷ [])

-- WITH
unfoldable pub with : Bool → With → Shape
with later w =
    listed (word (codes "with") ∷ listed (map (term later) w.terms) ∷ listed (map small w.facts) ∷ listed (map small w.chunks) ∷ [])

-- MOVE on chunks
unfoldable pub heap_move : Bool → HeapMove → Shape
heap_move later (heap.Split c t f g) = listed (word (codes "split") ∷ small c ∷ term later t ∷ small f ∷ small g ∷ [])
heap_move later (heap.Merge c d f) = listed (word (codes "merge") ∷ small c ∷ small d ∷ small f ∷ [])
heap_move later (heap.Forget c) = listed (word (codes "forget") ∷ small c ∷ [])
heap_move later (heap.View c) = listed (word (codes "view") ∷ small c ∷ [])
heap_move later (heap.Halve c) = listed (word (codes "halve") ∷ small c ∷ [])
heap_move later (heap.Unite c d f) = listed (word (codes "unite") ∷ small c ∷ small d ∷ small f ∷ [])
heap_move later (heap.Readdr c t f) = listed (word (codes "readdr") ∷ small c ∷ term later t ∷ small f ∷ [])
heap_move later (heap.Reval c t f) = listed (word (codes "reval") ∷ small c ∷ term later t ∷ small f ∷ [])
heap_move later (heap.Relen c t f) = listed (word (codes "relen") ∷ small c ∷ term later t ∷ small f ∷ [])
heap_move later (heap.Pick c t f g) = where_so later (listed (word (codes "pick") ∷ small c ∷ term later t ∷ small f ∷ small g ∷ []))
heap_move later (heap.Join c d f) = where_so later (listed (word (codes "join") ∷ small c ∷ small d ∷ small f ∷ []))
heap_move later (heap.Enrow c each f) = where_so later (listed (word (codes "enrow") ∷ small c ∷ formula later each ∷ small f ∷ []))
heap_move later (heap.Rows c w each) = where_so later (listed (word (codes "rows") ∷ small c ∷ width w ∷ formula later each ∷ []))

-- NAME: a word that begins with a letter
abbrev pub begins_name : List ℕ → Bool
begins_name [] = false
begins_name (b ∷ bs) = is_letter b

abbrev pub name : List ℕ → Shape
name n = where_so (begins_name n) (word n)

-- what notes are read in: whether they are of version 2, and the names of the lemmas
pub record Setting : Type 0 where
  pub later : Bool
  pub names : List (List ℕ)

abbrev pub is_among : List (List ℕ) → List ℕ → Bool
is_among names n = list_any (same_word n) names

-- MOVE
unfoldable pub move : Setting → Move → Shape
move c (moves.Have f ss) = listed (word (codes "have") ∷ formula c.later f ∷ steps c.later ss)
move c (moves.Name p) = listed (word (codes "name") ∷ place c.later p ∷ [])
move c (moves.Let t) = listed (word (codes "let") ∷ term c.later t ∷ [])
move c (moves.Put p t f) = listed (word (codes "put") ∷ place c.later p ∷ term c.later t ∷ small f ∷ [])
move c (moves.Heap m) = heap_move c.later m
move c (moves.Each k f ss) = where_so c.later (listed (word (codes "each") ∷ small k ∷ formula c.later f ∷ steps c.later ss))
move c (moves.Lemma n ts fs) =
    where_so (c.later && is_among c.names n) (listed (word (codes "use") ∷ name n ∷ listed (map (term c.later) ts) ∷ listed (map small fs) ∷ []))

-- TAKE
unfoldable pub take : Setting → Take → Shape
take c t = listed (word (codes "take") ∷ listed (map (move c) t.moves) ∷ with c.later t.with ∷ [])

-- USE, if there is one
unfoldable pub use_of : Setting → Use → List Shape
use_of c used.Nothing = []
use_of c (used.With w) = with c.later w ∷ []
use_of c (used.Cell k) = listed (word (codes "cell") ∷ small k ∷ []) ∷ []
use_of c (used.Safe ks) = where_so (length ks == 1 || length ks == 2) (listed (word (codes "safe") ∷ map small ks)) ∷ []
use_of c (used.Trap w) = listed (word (codes "trap") ∷ with c.later w ∷ []) ∷ []
use_of c (used.Take t) = take c t ∷ []
use_of c (used.Table ts) = listed (word (codes "table") ∷ map (take c) ts) ∷ []
use_of c (used.Both v w) = listed (word (codes "both") ∷ with c.later v ∷ with c.later w ∷ []) ∷ []
use_of c (used.Label a) = listed (word (codes "label") ∷ assertion c.later a ∷ []) ∷ []
use_of c (used.Loop a w) = listed (word (codes "loop") ∷ assertion c.later a ∷ with c.later w ∷ []) ∷ []
use_of c (used.Skip a t) = listed (word (codes "skip") ∷ assertion c.later a ∷ take c t ∷ []) ∷ []

-- AT
unfoldable pub note : Setting → Note → Shape
note c n = listed (word (codes "at") ∷ small n.at ∷ (map (move c) n.moves ++ use_of c n.used))

-- a contract, if there is one
unfoldable pub contract_of : Bool → Option Contract → List Shape
contract_of later None = []
contract_of later (Some k) =
    listed (word (codes "contract") ∷ listed (word (codes "pre") ∷ assertion later k.pre ∷ []) ∷ listed (word (codes "post") ∷ assertion later k.post ∷ []) ∷ []) ∷ []

-- FUNC
unfoldable pub function : Setting → FuncNotes → Shape
function c f = listed (word (codes "func") ∷ small f.func ∷ (contract_of c.later f.contract ++ map (note c) f.notes))

-- a take, if there is one
abbrev pub after_of : Setting → Option Take → List Shape
after_of c None = []
after_of c (Some t) = take c t ∷ []

-- INITIAL
unfoldable pub initial : Setting → Initial → Shape
initial c i =
    listed (word (codes "initial") ∷ listed (map (chunk c.later) i.chunks) ∷ listed (map (move c) i.moves) ∷ with c.later i.with ∷ after_of c i.after)

-- LEMMA, which has version 2 alone
unfoldable pub lemma : Lemma → Shape
lemma l =
    listed (word (codes "lemma") ∷ name l.name ∷ small l.vars ∷ listed (map (formula true) l.hyps) ∷ formula true l.goal ∷ steps true l.steps)

-- each name is none of those before it
abbrev pub are_new : List (List ℕ) → List (List ℕ) → Bool
are_new before [] = true
are_new before (n ∷ ns) = not (is_among before n) && are_new (before ++ n ∷ []) ns

abbrev pub names_of : List Lemma → List (List ℕ)
names_of = map (λ l. l.name)

-- what stands after the lemmas
abbrev pub rest_of : Setting → Notes → List Shape
rest_of c n = assertion c.later n.invariant ∷ initial c n.initial ∷ map (function c) n.funcs

-- NOTES of version 1
unfoldable pub first_notes : Notes → Shape
first_notes n =
    where_so (length n.lemmas == 0) (listed (word (codes "notes") ∷ small 1 ∷ rest_of (record { later = false; names = [] }) n))

-- NOTES of version 2
unfoldable pub second_notes : Notes → Shape
second_notes n =
    where_so (are_new [] (names_of n.lemmas))
    (listed (word (codes "notes") ∷ small 2 ∷ (map lemma n.lemmas ++ rest_of (record { later = true; names = names_of n.lemmas }) n)))
