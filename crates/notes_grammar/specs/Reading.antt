-- Reading notes from the value of their text, in the order of the text: the notes, or the first fault.
use Rattle.std.specs.Prelude.{ℕ, ℤ, pos, ◌+◌, ◌-◌, ◌*◌, Bool, true, false, ◌==◌, nat_lt, ◌&&◌, if◌then◌else◌, List, [], ◌∷◌, ◌++◌, Option, Some, None, Result, Ok, Err, codes, length, drop}
use Rattle.wasm_values.specs.declared.number.NumOp.{NumOp}
use Rattle.wasm_values.specs.declared.limit.LimitWord.TheVariants.{Nodes, Derivation}
use Rattle.wasm_values.specs.Operators.{num_operands}
use Rattle.term_trees.specs.declared.term.Place.{Place}
use Rattle.term_trees.specs.declared.term.Place.TheVariants as places
use Rattle.term_trees.specs.declared.term.Term.{Term}
use Rattle.term_trees.specs.declared.term.Term.TheVariants as term
use Rattle.term_trees.specs.declared.term.Formula.{Formula}
use Rattle.term_trees.specs.declared.term.Formula.TheVariants as formula
use Rattle.term_trees.specs.Terms.{node_count, is_low_width, is_sext_pair, is_sgn_width}
use Rattle.term_trees.specs.Formulas.{formula_nodes}
use Rattle.bitvector_rules.specs.declared.step.Rule.{Rule}
use Rattle.bitvector_rules.specs.declared.step.Ref.{Ref}
use Rattle.bitvector_rules.specs.declared.step.Ref.TheVariants as ref
use Rattle.bitvector_rules.specs.declared.step.Step.{Step, roll-Step}
use Rattle.notes.specs.declared.chunk.Chunk.{Chunk}
use Rattle.notes.specs.declared.chunk.Chunk.TheVariants as chunk
use Rattle.notes.specs.declared.heap_move.HeapMove.{HeapMove}
use Rattle.notes.specs.declared.heap_move.HeapMove.TheVariants as heap
use Rattle.notes.specs.declared.assertion.Assertion.{Assertion}
use Rattle.notes.specs.declared.assertion.Contract.{Contract}
use Rattle.notes.specs.declared.uses.With.{With}
use Rattle.notes.specs.declared.uses.Take.{Take}
use Rattle.notes.specs.declared.moves.Move.{Move}
use Rattle.notes.specs.declared.moves.Move.TheVariants as move
use Rattle.notes.specs.declared.uses.Use.{Use}
use Rattle.notes.specs.declared.uses.Use.TheVariants as used
use Rattle.notes.specs.declared.outline.Note.{Note}
use Rattle.notes.specs.declared.outline.FuncNotes.{FuncNotes}
use Rattle.notes.specs.declared.outline.Initial.{Initial}
use Rattle.notes.specs.declared.outline.Lemma.{Lemma}
use Rattle.notes.specs.declared.outline.Notes.{Notes}
use Rattle.notes.specs.WellFormed.{is_width}
use Rattle.sexp_text.specs.Bytes.{is_digit, is_between}
use Rattle.sexp_text.specs.declared.fault.TextFault.{TextFault}
use Rattle.sexp_text.specs.declared.fault.TextFault.TheVariants.{Limit}
use Rattle.sexp_text.specs.declared.fault.TextWord.TheVariants as fault
use Rattle.sexp_text.specs.Reading.{◌>>=◌, refused}
use Rattle.notes_grammar.specs.declared.head.Head.{Head}
use Rattle.notes_grammar.specs.declared.head.Head.TheVariants as head
use Rattle.notes_grammar.specs.Parts.{Part, Parts, Number, Name, Quote, Branch, Nil, Cons, place}
use Rattle.notes_grammar.specs.Shapes.{Setting, is_small, begins_name, is_among, names_of}
use Rattle.notes_grammar.specs.Words.{head_named, rule_named, op_named, same_word}

-- a part that does not fit
abbrev pub form : {A : Type 0} → ℕ → Result A TextFault
form at = refused at fault.Form

-- the next part of a list that closes at this place, and those after it
abbrev pub next : ℕ → Parts → Result (Part × Parts) TextFault
next close Nil = form close
next close (Cons p ps) = Ok (p, ps)

-- the list has no more parts
abbrev pub ended : {A : Type 0} → A → Parts → Result A TextFault
ended x Nil = Ok x
ended x (Cons p ps) = form (place p)

-- the next part, read so
abbrev pub field : {A : Type 0} → (Part → Result A TextFault) → ℕ → Parts → Result (A × Parts) TextFault
field read close ps = do
  p ← next close ps
  x ← read p.0
  Ok (x, p.1)

-- all parts, each read so
abbrev pub all_of : {A : Type 0} → (Part → Result A TextFault) → Parts → Result (List A) TextFault
all_of read Nil = Ok []
all_of read (Cons p ps) = do
  x ← read p
  xs ← all_of read ps
  Ok (x ∷ xs)

-- the parts of a list, and the place where it closes
abbrev pub inside : Part → Result (Parts × ℕ) TextFault
inside (Branch at ps close) = Ok (ps, close)
inside p = form (place p)

-- a list of parts that are each read so
abbrev pub list_of : {A : Type 0} → (Part → Result A TextFault) → Part → Result (List A) TextFault
list_of read p = do
  l ← inside p
  all_of read l.0

-- a number from 0 to 4294967295
unfoldable pub small : Part → Result ℕ TextFault
small (Number at (pos n)) = if is_small n then Ok n else form at
small p = form (place p)

-- a number
unfoldable pub whole : Part → Result ℤ TextFault
whole (Number at z) = Ok z
whole p = form (place p)

-- the width of a cell
unfoldable pub width : Part → Result ℕ TextFault
width p = do
  n ← small p
  if is_width n then Ok n else form (place p)

-- a word
abbrev pub word : Part → Result (List ℕ) TextFault
word (Name at w) = Ok w
word p = form (place p)

-- what is there, or a part that does not fit
abbrev pub or_form : {A : Type 0} → ℕ → Option A → Result A TextFault
or_form at None = form at
or_form at (Some x) = Ok x

-- the head of a list, with its place, and the parts after it with the place where the list closes
pub record Headed : Type 0 where
  pub at : ℕ
  pub head : Head
  pub rest : Parts
  pub close : ℕ

unfoldable pub headed : Part → Result Headed TextFault
headed p = do
  l ← inside p
  f ← next l.1 l.0
  w ← word f.0
  h ← or_form (place f.0) (head_named w)
  Ok (record { at = place f.0; head = h; rest = f.1; close = l.1 })

-- the parts of a list after this word, and the place where the list closes
unfoldable pub tagged : List ℕ → Part → Result (Parts × ℕ) TextFault
tagged tag p = do
  l ← inside p
  f ← next l.1 l.0
  w ← word f.0
  if same_word w tag then Ok (f.1, l.1) else form (place f.0)

-- whether a part is a list that begins with this word
unfoldable pub is_tagged : List ℕ → Part → Bool
is_tagged tag (Branch at (Cons (Name from w) ps) close) = same_word w tag
is_tagged tag p = false

-- the canonical decimal number that digits write, from 0 to 4294967295
abbrev pub index_from : ℕ → List ℕ → Option ℕ
index_from n [] = Some n
index_from n (b ∷ bs) = if is_digit b && is_small (10 * n + (b - 48)) then index_from (10 * n + (b - 48)) bs else None

unfoldable pub index_of : List ℕ → Option ℕ
index_of [] = None
index_of (b ∷ bs) =
    if b == 48 then (if length bs == 0 then Some 0 else None) else (if is_between 49 57 b then index_from (b - 48) bs else None)

-- a term that is a word: `v` or `x` with a number
abbrev pub made : (ℕ → Term) → Option ℕ → Option Term
made f None = None
made f (Some n) = Some (f n)

unfoldable pub leaf_of : List ℕ → Option Term
leaf_of [] = None
leaf_of (b ∷ bs) = if b == 118 then made term.Var (index_of bs) else (if b == 120 then made term.Own (index_of bs) else None)

-- something in version 2 alone, whose word stands at this place
abbrev pub in_second : {A : Type 0} → Bool → ℕ → Result A TextFault → Result A TextFault
in_second later at r = if later then r else form at

-- one number behind a head, and no more
unfoldable pub numbered : Headed → Result ℕ TextFault
numbered h = do
  k ← field small h.close h.rest
  ended k.0 k.1

-- the place of this head
unfoldable pub place_at : Bool → Headed → Head → Result Place TextFault
place_at later h head.Local = numbered h >>= λ k. Ok (places.Local k)
place_at later h head.Stack = numbered h >>= λ k. Ok (places.Stack k)
place_at later h head.Global = numbered h >>= λ k. Ok (places.Global k)
place_at later h head.Arg = numbered h >>= λ k. Ok (places.Arg k)
place_at later h head.Pages = ended places.Pages h.rest
place_at later h head.Result = ended places.Result h.rest
place_at later h head.Index = in_second later h.at (ended places.Index h.rest)
place_at later h head.Item = in_second later h.at (ended places.Item h.rest)
place_at later h _ = form h.at

abbrev pub place_of : Bool → Headed → Result Place TextFault
place_of later h = place_at later h h.head

unfoldable pub place_in : Bool → Part → Result Place TextFault
place_in later p = do
  h ← headed p
  place_of later h

-- terms and formulas

-- What stands behind a part of so many nodes: where that is refused, too many nodes are refused before it.
abbrev pub behind : {A : Type 0} → ℕ → ℕ → Result A TextFault → Result A TextFault
behind at nodes (Ok x) = Ok x
behind at nodes (Err e) = if nat_lt 4096 nodes then Err (Limit at Nodes) else Err e

-- a part of so many nodes, at most 4,096
abbrev pub limited : {A : Type 0} → ℕ → ℕ → A → Result A TextFault
limited at nodes x = if nat_lt 4096 nodes then Err (Limit at Nodes) else Ok x

-- a part, and what it is read as
abbrev pub Token : Type 0 → Type 0
Token A = Part × Result A TextFault

abbrev pub no_more : {A B : Type 0} → B → List (Token A) → Result B TextFault
no_more x [] = Ok x
no_more x (t ∷ ts) = form (place t.0)

-- one part, and no more
abbrev pub one_of : {A : Type 0} → (A → ℕ) → ℕ → List (Token A) → Result A TextFault
one_of nodes close [] = form close
one_of nodes close (t ∷ ts) = t.1 >>= λ a. behind (place t.0) (nodes a) (no_more a ts)

-- two parts, and no more
abbrev pub two_of : {A : Type 0} → (A → ℕ) → ℕ → List (Token A) → Result (A × A) TextFault
two_of nodes close [] = form close
two_of nodes close (t ∷ ts) = t.1 >>= λ a. behind (place t.0) (nodes a) (one_of nodes close ts >>= λ b. Ok (a, b))

-- a number with this property
abbrev pub small_where : (ℕ → Bool) → Part → Result ℕ TextFault
small_where holds p = do
  n ← small p
  if holds n then Ok n else form (place p)

-- the rest of a term behind this head
unfoldable pub term_at : Bool → Headed → List (Token Term) → Head → Result Term TextFault
term_at later h ts head.Plus = two_of node_count h.close ts >>= λ x. Ok (term.Add x.0 x.1)
term_at later h ts head.Minus = two_of node_count h.close ts >>= λ x. Ok (term.Sub x.0 x.1)
term_at later h ts head.Times = two_of node_count h.close ts >>= λ x. Ok (term.Mul x.0 x.1)
term_at later h ts head.Low = do
  k ← field (small_where is_low_width) h.close h.rest
  a ← one_of node_count h.close (drop 1 ts)
  Ok (term.Low k.0 a)
term_at later h ts head.Sgn = do
  n ← field (small_where is_sgn_width) h.close h.rest
  a ← one_of node_count h.close (drop 1 ts)
  Ok (term.Sgn n.0 a)
term_at later h ts head.Sext = do
  k ← field (small_where is_low_width) h.close h.rest
  n ← field (small_where (is_sext_pair k.0)) h.close k.1
  a ← one_of node_count h.close (drop 2 ts)
  Ok (term.Sext k.0 n.0 a)
term_at later h ts other = do
  p ← place_at later h other
  Ok (term.At p)

-- the rest of a term behind the word at this place
abbrev pub operands : NumOp → ℕ → List (Token Term) → Result Term TextFault
operands op close ts =
    if num_operands op == 1 then (one_of node_count close ts >>= λ a. Ok (term.One op a)) else (two_of node_count close ts >>= λ x. Ok (term.Two op x.0 x.1))

unfoldable pub term_list : Bool → ℕ → List ℕ → Parts → ℕ → List (Token Term) → Option NumOp → Result Term TextFault
term_list later at w ps close ts (Some op) = operands op close ts
term_list later at w ps close ts None = do
  h ← or_form at (head_named w)
  term_at later (record { at = at; head = h; rest = ps; close = close }) ts h

abbrev mutual
  pub bare_term : Bool → Part → Result Term TextFault
  bare_term later (Number at z) = Ok (term.Num z)
  bare_term later (Name at w) = or_form at (leaf_of w)
  bare_term later (Quote at s) = form at
  bare_term later (Branch at Nil close) = form close
  bare_term later (Branch at (Cons p ps) close) = word p >>= λ w. term_list later (place p) w ps close (term_tokens later ps) (op_named w)

  pub term_tokens : Bool → Parts → List (Token Term)
  term_tokens later Nil = []
  term_tokens later (Cons p ps) = (p, bare_term later p) ∷ term_tokens later ps

unfoldable pub term_in : Bool → Part → Result Term TextFault
term_in later p = bare_term later p >>= λ t. limited (place p) (node_count t) t

-- a formula that is a word
abbrev pub constant : ℕ → Head → Result Formula TextFault
constant at head.True = Ok formula.True
constant at head.False = Ok formula.False
constant at _ = form at

-- the rest of a formula behind this head
unfoldable pub formula_at : Bool → Headed → List (Token Formula) → Head → Result Formula TextFault
formula_at later h ts head.Eq = two_of node_count h.close (term_tokens later h.rest) >>= λ x. Ok (formula.Eq x.0 x.1)
formula_at later h ts head.Le = two_of node_count h.close (term_tokens later h.rest) >>= λ x. Ok (formula.Le x.0 x.1)
formula_at later h ts head.Lt = two_of node_count h.close (term_tokens later h.rest) >>= λ x. Ok (formula.Lt x.0 x.1)
formula_at later h ts head.Not = one_of formula_nodes h.close ts >>= λ f. Ok (formula.Not f)
formula_at later h ts head.And = two_of formula_nodes h.close ts >>= λ x. Ok (formula.And x.0 x.1)
formula_at later h ts head.Or = two_of formula_nodes h.close ts >>= λ x. Ok (formula.Or x.0 x.1)
formula_at later h ts head.Imp = two_of formula_nodes h.close ts >>= λ x. Ok (formula.Imp x.0 x.1)
formula_at later h ts _ = form h.at

abbrev mutual
  pub bare_formula : Bool → Part → Result Formula TextFault
  bare_formula later (Number at z) = form at
  bare_formula later (Name at w) = or_form at (head_named w) >>= constant at
  bare_formula later (Quote at s) = form at
  bare_formula later (Branch at Nil close) = form close
  bare_formula later (Branch at (Cons p ps) close) =
      word p >>= λ w. or_form (place p) (head_named w) >>= λ h.
      formula_at later (record { at = place p; head = h; rest = ps; close = close }) (formula_tokens later ps) h

  pub formula_tokens : Bool → Parts → List (Token Formula)
  formula_tokens later Nil = []
  formula_tokens later (Cons p ps) = (p, bare_formula later p) ∷ formula_tokens later ps

unfoldable pub formula_in : Bool → Part → Result Formula TextFault
formula_in later p = bare_formula later p >>= λ f. limited (place p) (formula_nodes f) f

-- steps

unfoldable pub rule_in : Part → Result Rule TextFault
rule_in p = do
  w ← word p
  or_form (place p) (rule_named w)

unfoldable pub reference_at : Headed → Head → Result Ref TextFault
reference_at h head.Hyp = numbered h >>= λ k. Ok (ref.Hyp k)
reference_at h head.Earlier = numbered h >>= λ k. Ok (ref.Earlier k)
reference_at h _ = form h.at

unfoldable pub reference : Part → Result Ref TextFault
reference p = do
  h ← headed p
  reference_at h h.head

-- sub-derivations, each inside so many
abbrev pub each_at : {A : Type 0} → ℕ → List (ℕ → Result A TextFault) → Result (List A) TextFault
each_at level [] = Ok []
each_at level (t ∷ ts) = do
  x ← t level
  xs ← each_at level ts
  Ok (x ∷ xs)

-- a step of these parts
unfoldable pub step_list : Bool → ℕ → Parts → List (ℕ → Result (List Step) TextFault) → ℕ → Result Step TextFault
step_list later close ps subs level = do
  r ← field rule_in close ps
  f ← field (formula_in later) close r.1
  rs ← field (list_of reference) close f.1
  ns ← field (list_of whole) close rs.1
  ss ← each_at (level + 1) (drop 4 subs)
  Ok (roll-Step (record { rule = r.0; formula = f.0; refs = rs.0; numbers = ns.0; subs = ss }))

-- a sub-derivation inside so many others, at most 50 with itself
abbrev pub nested : {A : Type 0} → ℕ → ℕ → Result A TextFault → Result A TextFault
nested at level r = if nat_lt 50 level then Err (Limit at Derivation) else r

abbrev mutual
  pub step_in : Bool → Part → ℕ → Result Step TextFault
  step_in later (Number at z) level = form at
  step_in later (Name at w) level = form at
  step_in later (Quote at s) level = form at
  step_in later (Branch at ps close) level = step_list later close ps (sub_tokens later ps) level

  pub sub_tokens : Bool → Parts → List (ℕ → Result (List Step) TextFault)
  sub_tokens later Nil = []
  sub_tokens later (Cons p ps) = sub_in later p ∷ sub_tokens later ps

  pub sub_in : Bool → Part → ℕ → Result (List Step) TextFault
  sub_in later (Number at z) level = form at
  sub_in later (Name at w) level = form at
  sub_in later (Quote at s) level = form at
  sub_in later (Branch at ps close) level = nested at level (steps_in later ps level)

  pub steps_in : Bool → Parts → ℕ → Result (List Step) TextFault
  steps_in later Nil level = Ok []
  steps_in later (Cons p ps) level = do
    s ← step_in later p level
    ss ← steps_in later ps level
    Ok (s ∷ ss)

-- chunks and assertions

unfoldable pub row_list : Bool → ℕ → Parts → Result Chunk TextFault
row_list later close ps = do
  w ← field width close ps
  a ← field (term_in later) close w.1
  n ← field (term_in later) close a.1
  f ← field (formula_in later) close n.1
  ended (chunk.Row w.0 a.0 n.0 f.0) f.1

unfoldable pub cell_list : Bool → ℕ → Parts → Result Chunk TextFault
cell_list later close ps = do
  w ← field width close ps
  a ← field (term_in later) close w.1
  v ← field (term_in later) close a.1
  ended (chunk.Cell w.0 a.0 v.0) v.1

unfoldable pub region_list : Bool → ℕ → Parts → Result Chunk TextFault
region_list later close ps = do
  a ← field (term_in later) close ps
  n ← field (term_in later) close a.1
  ended (chunk.Region a.0 n.0) n.1

unfoldable pub chunk_at : Bool → Headed → Head → Result Chunk TextFault
chunk_at later h head.Cell = cell_list later h.close h.rest
chunk_at later h head.Region = region_list later h.close h.rest
chunk_at later h head.Row = in_second later h.at (row_list later h.close h.rest)
chunk_at later h _ = form h.at

unfoldable pub chunk_in : Bool → Part → Result Chunk TextFault
chunk_in later p = do
  h ← headed p
  chunk_at later h h.head

unfoldable pub assertion_in : Bool → Part → Result Assertion TextFault
assertion_in later p = do
  l ← tagged (codes "assert") p
  n ← field small l.1 l.0
  fs ← field (list_of (formula_in later)) l.1 n.1
  cs ← field (list_of (chunk_in later)) l.1 fs.1
  ended (record { own = n.0; formulas = fs.0; chunks = cs.0 }) cs.1

-- the parts of a `with`
unfoldable pub with_list : Bool → ℕ → Parts → Result With TextFault
with_list later close ps = do
  ts ← field (list_of (term_in later)) close ps
  fs ← field (list_of small) close ts.1
  cs ← field (list_of small) close fs.1
  ended (record { terms = ts.0; facts = fs.0; chunks = cs.0 }) cs.1

unfoldable pub with_in : Bool → Part → Result With TextFault
with_in later p = do
  l ← tagged (codes "with") p
  with_list later l.1 l.0

-- moves

unfoldable pub one_small : ℕ → Parts → Result ℕ TextFault
one_small close ps = do
  c ← field small close ps
  ended c.0 c.1

unfoldable pub three_small : ℕ → Parts → Result (ℕ × ℕ × ℕ) TextFault
three_small close ps = do
  c ← field small close ps
  d ← field small close c.1
  f ← field small close d.1
  ended (c.0, d.0, f.0) f.1

unfoldable pub small_term_small : Bool → ℕ → Parts → Result (ℕ × Term × ℕ) TextFault
small_term_small later close ps = do
  c ← field small close ps
  t ← field (term_in later) close c.1
  f ← field small close t.1
  ended (c.0, t.0, f.0) f.1

unfoldable pub small_term_two : Bool → ℕ → Parts → Result (ℕ × Term × ℕ × ℕ) TextFault
small_term_two later close ps = do
  c ← field small close ps
  t ← field (term_in later) close c.1
  f ← field small close t.1
  g ← field small close f.1
  ended (c.0, t.0, f.0, g.0) g.1

unfoldable pub enrow_list : Bool → ℕ → Parts → Result HeapMove TextFault
enrow_list later close ps = do
  c ← field small close ps
  e ← field (formula_in later) close c.1
  f ← field small close e.1
  ended (heap.Enrow c.0 e.0 f.0) f.1

unfoldable pub rows_list : Bool → ℕ → Parts → Result HeapMove TextFault
rows_list later close ps = do
  c ← field small close ps
  w ← field width close c.1
  e ← field (formula_in later) close w.1
  ended (heap.Rows c.0 w.0 e.0) e.1

-- a move on chunks
unfoldable pub heap_at : Bool → Headed → Head → Result HeapMove TextFault
heap_at later h head.Split = small_term_two later h.close h.rest >>= λ x. Ok (heap.Split x.0 x.1 x.2 x.3)
heap_at later h head.Merge = three_small h.close h.rest >>= λ x. Ok (heap.Merge x.0 x.1 x.2)
heap_at later h head.Forget = one_small h.close h.rest >>= λ x. Ok (heap.Forget x)
heap_at later h head.View = one_small h.close h.rest >>= λ x. Ok (heap.View x)
heap_at later h head.Halve = one_small h.close h.rest >>= λ x. Ok (heap.Halve x)
heap_at later h head.Unite = three_small h.close h.rest >>= λ x. Ok (heap.Unite x.0 x.1 x.2)
heap_at later h head.Readdr = small_term_small later h.close h.rest >>= λ x. Ok (heap.Readdr x.0 x.1 x.2)
heap_at later h head.Reval = small_term_small later h.close h.rest >>= λ x. Ok (heap.Reval x.0 x.1 x.2)
heap_at later h head.Relen = small_term_small later h.close h.rest >>= λ x. Ok (heap.Relen x.0 x.1 x.2)
heap_at later h head.Pick = in_second later h.at (small_term_two later h.close h.rest >>= λ x. Ok (heap.Pick x.0 x.1 x.2 x.3))
heap_at later h head.Join = in_second later h.at (three_small h.close h.rest >>= λ x. Ok (heap.Join x.0 x.1 x.2))
heap_at later h head.Enrow = in_second later h.at (enrow_list later h.close h.rest)
heap_at later h head.Rows = in_second later h.at (rows_list later h.close h.rest)
heap_at later h _ = form h.at

-- a name: a word that begins with a letter
unfoldable pub name_in : Part → Result (List ℕ) TextFault
name_in p = do
  w ← word p
  if begins_name w then Ok w else form (place p)

-- a name that some lemma has
unfoldable pub known_name : List (List ℕ) → Part → Result (List ℕ) TextFault
known_name names p = do
  n ← name_in p
  if is_among names n then Ok n else refused (place p) fault.Name

-- a name that no lemma has
unfoldable pub new_name : List (List ℕ) → Part → Result (List ℕ) TextFault
new_name names p = do
  n ← name_in p
  if is_among names n then refused (place p) fault.Name else Ok n

unfoldable pub have_list : Bool → ℕ → Parts → Result Move TextFault
have_list later close ps = do
  f ← field (formula_in later) close ps
  ss ← steps_in later f.1 0
  Ok (move.Have f.0 ss)

unfoldable pub put_list : Bool → ℕ → Parts → Result Move TextFault
put_list later close ps = do
  p ← field (place_in later) close ps
  t ← field (term_in later) close p.1
  f ← field small close t.1
  ended (move.Put p.0 t.0 f.0) f.1

unfoldable pub each_list : Bool → ℕ → Parts → Result Move TextFault
each_list later close ps = do
  c ← field small close ps
  f ← field (formula_in later) close c.1
  ss ← steps_in later f.1 0
  Ok (move.Each c.0 f.0 ss)

unfoldable pub lemma_use : Setting → ℕ → Parts → Result Move TextFault
lemma_use c close ps = do
  n ← field (known_name c.names) close ps
  ts ← field (list_of (term_in c.later)) close n.1
  fs ← field (list_of small) close ts.1
  ended (move.Lemma n.0 ts.0 fs.0) fs.1

unfoldable pub move_at : Setting → Headed → Head → Result Move TextFault
move_at c h head.Have = have_list c.later h.close h.rest
move_at c h head.Name = field (place_in c.later) h.close h.rest >>= λ p. ended (move.Name p.0) p.1
move_at c h head.Let = field (term_in c.later) h.close h.rest >>= λ t. ended (move.Let t.0) t.1
move_at c h head.Put = put_list c.later h.close h.rest
move_at c h head.Each = in_second c.later h.at (each_list c.later h.close h.rest)
move_at c h head.Use = in_second c.later h.at (lemma_use c h.close h.rest)
move_at c h other = heap_at c.later h other >>= λ m. Ok (move.Heap m)

unfoldable pub move_in : Setting → Part → Result Move TextFault
move_in c p = do
  h ← headed p
  move_at c h h.head

-- the parts of a `take`
unfoldable pub take_list : Setting → ℕ → Parts → Result Take TextFault
take_list c close ps = do
  ms ← field (list_of (move_in c)) close ps
  w ← field (with_in c.later) close ms.1
  ended (record { moves = ms.0; with = w.0 }) w.1

unfoldable pub take_in : Setting → Part → Result Take TextFault
take_in c p = do
  l ← tagged (codes "take") p
  take_list c l.1 l.0

-- uses

-- one fact or two
abbrev pub more_safe : ℕ → Parts → Result Use TextFault
more_safe f Nil = Ok (used.Safe (f ∷ []))
more_safe f (Cons p ps) = do
  g ← small p
  ended (used.Safe (f ∷ g ∷ [])) ps

unfoldable pub safe_list : ℕ → Parts → Result Use TextFault
safe_list close ps = do
  f ← field small close ps
  more_safe f.0 f.1

unfoldable pub both_list : Bool → ℕ → Parts → Result Use TextFault
both_list later close ps = do
  v ← field (with_in later) close ps
  w ← field (with_in later) close v.1
  ended (used.Both v.0 w.0) w.1

unfoldable pub loop_list : Bool → ℕ → Parts → Result Use TextFault
loop_list later close ps = do
  a ← field (assertion_in later) close ps
  w ← field (with_in later) close a.1
  ended (used.Loop a.0 w.0) w.1

unfoldable pub skip_list : Setting → ℕ → Parts → Result Use TextFault
skip_list c close ps = do
  a ← field (assertion_in c.later) close ps
  t ← field (take_in c) close a.1
  ended (used.Skip a.0 t.0) t.1

-- the use of this head, if it is one
unfoldable pub use_at : Setting → Headed → Head → Option (Result Use TextFault)
use_at c h head.With = Some (with_list c.later h.close h.rest >>= λ w. Ok (used.With w))
use_at c h head.Cell = Some (one_small h.close h.rest >>= λ k. Ok (used.Cell k))
use_at c h head.Safe = Some (safe_list h.close h.rest)
use_at c h head.Trap = Some (field (with_in c.later) h.close h.rest >>= λ w. ended (used.Trap w.0) w.1)
use_at c h head.Take = Some (take_list c h.close h.rest >>= λ t. Ok (used.Take t))
use_at c h head.Table = Some (all_of (take_in c) h.rest >>= λ ts. Ok (used.Table ts))
use_at c h head.Both = Some (both_list c.later h.close h.rest)
use_at c h head.Label = Some (field (assertion_in c.later) h.close h.rest >>= λ a. ended (used.Label a.0) a.1)
use_at c h head.Loop = Some (loop_list c.later h.close h.rest)
use_at c h head.Skip = Some (skip_list c h.close h.rest)
use_at c h _ = None

-- the use of a note after its moves, or a move and what is behind it
abbrev pub use_or : {A : Type 0} → Option (Result Use TextFault) → (Use → Result A TextFault) → Result A TextFault → Result A TextFault
use_or (Some r) f other = r >>= f
use_or None f other = other

-- moves, and after them a use, if there is one
abbrev pub note_list : Setting → Parts → Result (List Move × Use) TextFault
note_list c Nil = Ok ([], used.Nothing)
note_list c (Cons p ps) =
    headed p >>= λ h.
    use_or (use_at c h h.head) (λ u. ended ([], u) ps)
    (move_at c h h.head >>= λ m. note_list c ps >>= λ more. Ok (m ∷ more.0, more.1))

unfoldable pub note_in : Setting → Part → Result Note TextFault
note_in c p = do
  l ← tagged (codes "at") p
  i ← field small l.1 l.0
  more ← note_list c i.1
  Ok (record { at = i.0; moves = more.0; used = more.1 })

-- functions

-- the assertion in a list that begins with this word
unfoldable pub side_in : List ℕ → Bool → Part → Result Assertion TextFault
side_in tag later p = do
  l ← tagged tag p
  a ← field (assertion_in later) l.1 l.0
  ended a.0 a.1

unfoldable pub contract_in : Bool → Part → Result Contract TextFault
contract_in later p = do
  l ← tagged (codes "contract") p
  a ← field (side_in (codes "pre") later) l.1 l.0
  b ← field (side_in (codes "post") later) l.1 a.1
  ended (record { pre = a.0; post = b.0 }) b.1

-- a contract, if there is one, and the parts after it
unfoldable pub contract_first : Bool → Parts → Result (Option Contract × Parts) TextFault
contract_first later Nil = Ok (None, Nil)
contract_first later (Cons p ps) = if is_tagged (codes "contract") p then (contract_in later p >>= λ k. Ok (Some k, ps)) else Ok (None, Cons p ps)

unfoldable pub function_in : Setting → Part → Result FuncNotes TextFault
function_in c p = do
  l ← tagged (codes "func") p
  k ← field small l.1 l.0
  r ← contract_first c.later k.1
  ns ← all_of (note_in c) r.1
  Ok (record { func = k.0; contract = r.0; notes = ns })

-- a take, if there is one, and no more
unfoldable pub after_list : Setting → Parts → Result (Option Take) TextFault
after_list c Nil = Ok None
after_list c (Cons p ps) = take_in c p >>= λ t. ended (Some t) ps

unfoldable pub initial_in : Setting → Part → Result Initial TextFault
initial_in c p = do
  l ← tagged (codes "initial") p
  cs ← field (list_of (chunk_in c.later)) l.1 l.0
  ms ← field (list_of (move_in c)) l.1 cs.1
  w ← field (with_in c.later) l.1 ms.1
  t ← after_list c w.1
  Ok (record { chunks = cs.0; moves = ms.0; with = w.0; after = t })

-- notes

-- a lemma after those of these names
unfoldable pub lemma_in : List (List ℕ) → Part → Result Lemma TextFault
lemma_in names p = do
  l ← tagged (codes "lemma") p
  n ← field (new_name names) l.1 l.0
  k ← field small l.1 n.1
  hs ← field (list_of (formula_in true)) l.1 k.1
  g ← field (formula_in true) l.1 hs.1
  ss ← steps_in true g.1 0
  Ok (record { name = n.0; vars = k.0; hyps = hs.0; goal = g.0; steps = ss })

-- all lemmas, and the parts after them
abbrev pub lemmas_first : List (List ℕ) → Parts → Result (List Lemma × Parts) TextFault
lemmas_first names Nil = Ok ([], Nil)
lemmas_first names (Cons p ps) =
    if is_tagged (codes "lemma") p then
    (lemma_in names p >>= λ l. lemmas_first (names ++ l.name ∷ []) ps >>= λ more. Ok (l ∷ more.0, more.1))
    else Ok ([], Cons p ps)

-- whether notes are of version 2
unfoldable pub version : Part → Result Bool TextFault
version p = do
  n ← small p
  if n == 1 then Ok false else (if n == 2 then Ok true else form (place p))

abbrev pub lemmas_of : Bool → Parts → Result (List Lemma × Parts) TextFault
lemmas_of false ps = Ok ([], ps)
lemmas_of true ps = lemmas_first [] ps

-- the invariant, the initial part and the functions of notes with these lemmas
unfoldable pub notes_rest : Setting → List Lemma → ℕ → Parts → Result Notes TextFault
notes_rest c ls close ps = do
  a ← field (assertion_in c.later) close ps
  i ← field (initial_in c) close a.1
  fs ← all_of (function_in c) i.1
  Ok (record { invariant = a.0; initial = i.0; funcs = fs; lemmas = ls })

unfoldable pub notes_in : Part → Result Notes TextFault
notes_in p = do
  l ← tagged (codes "notes") p
  v ← field version l.1 l.0
  ls ← lemmas_of v.0 v.1
  notes_rest (record { later = v.0; names = names_of ls.0 }) ls.0 l.1 ls.1
