-- How lists that are terms begin, and the terms of their parts.
use Rattle.std.specs.Prelude.{ℕ, Bool, ◌==◌, if◌then◌else◌, List, Option, Some, None, Result, Ok}
use Rattle.wasm_values.specs.declared.number.NumOp.{NumOp}
use Rattle.wasm_values.specs.Operators.{num_operands}
use Rattle.sexp_text.specs.declared.fault.TextFault.{TextFault}
use Rattle.sexp_text.specs.Reading.{◌>>=◌}
use Rattle.term_trees.specs.declared.term.Place.{Place}
use Rattle.term_trees.specs.declared.term.Term.{Term}
use Rattle.term_trees.specs.declared.term.Term.TheVariants as term
use Rattle.term_trees.specs.Terms.{node_count, is_low_width, is_sext_pair, is_sgn_width}
use Rattle.notes_grammar.specs.declared.head.Head.{Head}
use Rattle.notes_grammar.specs.declared.head.Head.TheVariants as head
use Rattle.notes_grammar.specs.Parts.{Parts, Nil, Cons, parts_of, place}
use Rattle.notes_grammar.specs.Reading.{Headed, behind, form, or_form, word, field, small_where, place_at, one_of, two_of, term_tokens, term_list}
use Rattle.notes_grammar.specs.Words.{op_named, head_named}
use Rattle.notes_terms.specs.words.Sizes.{sizes}
use Rattle.notes_terms.specs.declared.over.OverOne.{OverOne}
use Rattle.notes_terms.specs.declared.over.OverOne.TheVariants as one
use Rattle.notes_terms.specs.declared.over.OverTwo.{OverTwo}
use Rattle.notes_terms.specs.declared.over.OverTwo.TheVariants as two
use Rattle.notes_terms.specs.declared.over.Beginning.{Beginning}
use Rattle.notes_terms.specs.declared.over.Beginning.TheVariants as beginning

-- the term of a term
abbrev pub over_one : OverOne → Term → Term
over_one (one.Op op) a = term.One op a
over_one (one.Low k) a = term.Low k a
over_one (one.Sext k n) a = term.Sext k n a
over_one (one.Sgn n) a = term.Sgn n a

-- the term of two terms
abbrev pub over_two : OverTwo → Term → Term → Term
over_two (two.Op op) a b = term.Two op a b
over_two two.Add a b = term.Add a b
over_two two.Sub a b = term.Sub a b
over_two two.Mul a b = term.Mul a b

-- how a list that is a term begins, and the parts that are its terms
pub data Opening : Type 0 where
  At : Place → Opening
  One : OverOne → Parts → Opening
  Two : OverTwo → Parts → Opening

abbrev pub opening_seen : Beginning → Opening
opening_seen (beginning.Place p) = At p
opening_seen (beginning.One op rest) = One op (parts_of rest.now)
opening_seen (beginning.Two op rest) = Two op (parts_of rest.now)

-- what an operator of the machine stands over
abbrev pub op_opening : NumOp → Parts → Opening
op_opening op ps = if num_operands op == 1 then One (one.Op op) ps else Two (two.Op op) ps

-- a place, behind a list's head
abbrev pub place_opening : Bool → Headed → Result Opening TextFault
place_opening later h = place_at later h h.head >>= λ p. Ok (At p)

abbrev pub low_opening : ℕ → Parts → Result Opening TextFault
low_opening close ps = field (small_where is_low_width) close ps >>= λ k. Ok (One (one.Low k.0) k.1)

abbrev pub sgn_opening : ℕ → Parts → Result Opening TextFault
sgn_opening close ps = field (small_where is_sgn_width) close ps >>= λ n. Ok (One (one.Sgn n.0) n.1)

abbrev pub sext_opening : ℕ → Parts → Result Opening TextFault
sext_opening close ps =
    field (small_where is_low_width) close ps >>= λ k. field (small_where (is_sext_pair k.0)) close k.1 >>= λ n. Ok (One (one.Sext k.0 n.0) n.1)

-- a list that begins with this head
unfoldable pub opening_at : Bool → Headed → Head → Result Opening TextFault
opening_at later h head.Plus = Ok (Two two.Add h.rest)
opening_at later h head.Minus = Ok (Two two.Sub h.rest)
opening_at later h head.Times = Ok (Two two.Mul h.rest)
opening_at later h head.Low = low_opening h.close h.rest
opening_at later h head.Sgn = sgn_opening h.close h.rest
opening_at later h head.Sext = sext_opening h.close h.rest
opening_at later h other = place_opening later h

-- a list that begins with the word at this place
abbrev pub worded_opening : Bool → ℕ → List ℕ → Parts → ℕ → Option NumOp → Result Opening TextFault
worded_opening later at w ps close (Some op) = Ok (op_opening op ps)
worded_opening later at w ps close None = or_form at (head_named w) >>= λ h. opening_at later (record { at = at; head = h; rest = ps; close = close }) h

-- a list of these parts
abbrev pub opening : Bool → ℕ → Parts → Result Opening TextFault
opening later close Nil = form close
opening later close (Cons p ps) = word p >>= λ w. worded_opening later (place p) w ps close (op_named w)

-- the term of a list that begins so and closes at this place
abbrev pub opened : Bool → ℕ → Opening → Result Term TextFault
opened later close (At p) = Ok (term.At p)
opened later close (One op rest) = one_of node_count close (term_tokens later rest) >>= λ a. Ok (over_one op a)
opened later close (Two op rest) = two_of node_count close (term_tokens later rest) >>= λ x. Ok (over_two op x.0 x.1)

-- the term that is a list of these parts
unfoldable pub listed_term : Bool → ℕ → Parts → Result Term TextFault
listed_term later close Nil = form close
listed_term later close (Cons p ps) = word p >>= λ w. term_list later (place p) w ps close (term_tokens later ps) (op_named w)

-- how large the parts are that are terms
abbrev pub opening_size : Opening → ℕ
opening_size (At p) = 0
opening_size (One op rest) = sizes rest
opening_size (Two op rest) = sizes rest

-- both, where one of so many nodes is at this place and behind it the other is read so
abbrev pub beside : {A : Type 0} → ℕ → ℕ → A → Result A TextFault → Result (A × A) TextFault
beside at nodes a second = behind at nodes (second >>= λ b. Ok (a, b))
