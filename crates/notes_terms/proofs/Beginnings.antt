-- A list that is a term is read by how it begins.
use Rattle.std.proofs.Common.{◌≡◌, ◌+◌, ◌≤◌, ℕ, arith, Bool, true, false, cond, ◌==◌, List, [], ◌∷◌, Option, Some, None, Result, Ok, Err, refl, sym, ap, ◌∙◌, drop}
use Rattle.wasm_values.specs.declared.number.NumOp.{NumOp}
use Rattle.wasm_values.specs.Operators.{num_operands}
use Rattle.sexp_text.specs.declared.fault.TextFault.{TextFault}
use Rattle.sexp_text.specs.Reading.{◌>>=◌}
use Rattle.term_trees.specs.declared.term.Place.{Place}
use Rattle.term_trees.specs.declared.term.Term.{Term}
use Rattle.term_trees.specs.declared.term.Term.TheVariants as term
use Rattle.term_trees.specs.Terms.{node_count, is_low_width, is_sext_pair, is_sgn_width}
use Rattle.notes_grammar.specs.declared.head.Head.{Head}
use Rattle.notes_grammar.specs.declared.head.Head.TheVariants as head
use Rattle.notes_grammar.specs.Parts.{Part, Parts, Nil, Cons, Branch, place}
use Rattle.notes_grammar.specs.Words.{head_named, op_named}
use Rattle.notes_grammar.specs.Reading.{ended, Headed, or_form, next, field, word, small_where, behind, no_more, one_of, two_of, bare_term, term_tokens, term_at, term_list, place_at, operands}
use Rattle.notes_terms.specs.words.Forms.{Opening, At, One, Two, opening, opening_at, worded_opening, place_opening, low_opening, sgn_opening, sext_opening, op_opening, opened, opening_size, listed_term, beside}
use Rattle.notes_terms.specs.declared.over.OverOne.TheVariants as one
use Rattle.notes_terms.specs.declared.over.OverTwo.TheVariants as two
use Rattle.notes_terms.specs.words.Sizes.{size, sizes}
use Rattle.notes_terms.proofs.PartLemmas.{first_part, after_part, after_smaller}

-- what follows a choice follows each reading
pub then_again : {A B C : Type 0} (r : Result A TextFault) (f : A → B) (g : B → Result C TextFault) → ((r >>= λ a. Ok (f a)) >>= g) ≡ (r >>= λ a. g (f a))
then_again (Ok a) f g = refl
then_again (Err e) f g = refl

place_opened : (later : Bool) (h : Headed) (k : Head) → h.head ≡ k → (place_at later h k >>= λ p. Ok (term.At p)) ≡ (place_opening later h >>= opened later h.close)
place_opened later h k e =
    ap (λ j. place_at later h j >>= λ p. Ok (term.At p)) (sym e) ∙ sym (then_again (place_at later h h.head) At (opened later h.close))

low_opened : (later : Bool) (h : Headed) → term_at later h (term_tokens later h.rest) head.Low ≡ (low_opening h.close h.rest >>= opened later h.close)
unfolding term_at
low_opened later h = by (field (small_where is_low_width) h.close h.rest) refl
  where
    by : (r : Result (ℕ × Parts) TextFault) → field (small_where is_low_width) h.close h.rest ≡ r →
        (r >>= λ k. one_of node_count h.close (drop 1 (term_tokens later h.rest)) >>= λ a. Ok (term.Low k.0 a)) ≡ ((r >>= λ k. Ok (One (one.Low k.0) k.1)) >>= opened later h.close)
    by (Ok k) e = ap (λ ps. one_of node_count h.close (drop 1 (term_tokens later ps)) >>= λ a. Ok (term.Low k.0 a)) (after_part (small_where is_low_width) h.close h.rest k.1 k.0 e).1
    by (Err f) e = refl

sgn_opened : (later : Bool) (h : Headed) → term_at later h (term_tokens later h.rest) head.Sgn ≡ (sgn_opening h.close h.rest >>= opened later h.close)
unfolding term_at
sgn_opened later h = by (field (small_where is_sgn_width) h.close h.rest) refl
  where
    by : (r : Result (ℕ × Parts) TextFault) → field (small_where is_sgn_width) h.close h.rest ≡ r →
        (r >>= λ n. one_of node_count h.close (drop 1 (term_tokens later h.rest)) >>= λ a. Ok (term.Sgn n.0 a)) ≡ ((r >>= λ n. Ok (One (one.Sgn n.0) n.1)) >>= opened later h.close)
    by (Ok n) e = ap (λ ps. one_of node_count h.close (drop 1 (term_tokens later ps)) >>= λ a. Ok (term.Sgn n.0 a)) (after_part (small_where is_sgn_width) h.close h.rest n.1 n.0 e).1
    by (Err f) e = refl

drop_two : {A : Type 0} (xs : List A) → drop 1 (drop 1 xs) ≡ drop 2 xs
drop_two [] = refl
drop_two (x ∷ xs) = refl

sext_opened : (later : Bool) (h : Headed) → term_at later h (term_tokens later h.rest) head.Sext ≡ (sext_opening h.close h.rest >>= opened later h.close)
unfolding term_at
sext_opened later h = by (field (small_where is_low_width) h.close h.rest) refl
  where
    more : (k : ℕ) (ps : Parts) → drop 1 (term_tokens later h.rest) ≡ term_tokens later ps → (r : Result (ℕ × Parts) TextFault) → field (small_where (is_sext_pair k)) h.close ps ≡ r →
        (r >>= λ n. one_of node_count h.close (drop 2 (term_tokens later h.rest)) >>= λ a. Ok (term.Sext k n.0 a)) ≡ ((r >>= λ n. Ok (One (one.Sext k n.0) n.1)) >>= opened later h.close)
    more k ps s (Ok n) e = ap (λ ts. one_of node_count h.close ts >>= λ a. Ok (term.Sext k n.0 a)) (sym (drop_two (term_tokens later h.rest)) ∙ ap (drop 1) s ∙ ap (λ qs. drop 1 (term_tokens later qs)) (after_part (small_where (is_sext_pair k)) h.close ps n.1 n.0 e).1)
    more k ps s (Err f) e = refl

    by : (r : Result (ℕ × Parts) TextFault) → field (small_where is_low_width) h.close h.rest ≡ r →
        (r >>= λ k. field (small_where (is_sext_pair k.0)) h.close k.1 >>= λ n. one_of node_count h.close (drop 2 (term_tokens later h.rest)) >>= λ a. Ok (term.Sext k.0 n.0 a))
        ≡ ((r >>= λ k. field (small_where (is_sext_pair k.0)) h.close k.1 >>= λ n. Ok (One (one.Sext k.0 n.0) n.1)) >>= opened later h.close)
    by (Ok k) e = more k.0 k.1 (ap (λ ps. drop 1 (term_tokens later ps)) (after_part (small_where is_low_width) h.close h.rest k.1 k.0 e).1) (field (small_where (is_sext_pair k.0)) h.close k.1) refl
    by (Err f) e = refl

head_opened : (later : Bool) (h : Headed) (k : Head) → h.head ≡ k → term_at later h (term_tokens later h.rest) k ≡ (opening_at later h k >>= opened later h.close)
unfolding term_at opening_at
head_opened later h head.Plus e = refl
head_opened later h head.Minus e = refl
head_opened later h head.Times e = refl
head_opened later h head.Low e = low_opened later h
head_opened later h head.Sgn e = sgn_opened later h
head_opened later h head.Sext e = sext_opened later h
head_opened later h k e = place_opened later h k e

op_opened : (later : Bool) (op : NumOp) (close : ℕ) (ps : Parts) → operands op close (term_tokens later ps) ≡ opened later close (op_opening op ps)
op_opened later op close ps = by (num_operands op == 1)
  where
    by : (b : Bool) →
        cond b (one_of node_count close (term_tokens later ps) >>= λ a. Ok (term.One op a)) (two_of node_count close (term_tokens later ps) >>= λ x. Ok (term.Two op x.0 x.1))
        ≡ opened later close (cond b (One (one.Op op) ps) (Two (two.Op op) ps))
    by true = refl
    by false = refl

worded_opened : (later : Bool) (at : ℕ) (w : List ℕ) (ps : Parts) (close : ℕ) (op : Option NumOp) → term_list later at w ps close (term_tokens later ps) op ≡ (worded_opening later at w ps close op >>= opened later close)
unfolding term_list
worded_opened later at w ps close (Some op) = op_opened later op close ps
worded_opened later at w ps close None = by (head_named w)
  where
    by : (o : Option Head) → (or_form at o >>= λ h. term_at later (record { at = at; head = h; rest = ps; close = close }) (term_tokens later ps) h)
        ≡ ((or_form at o >>= λ h. opening_at later (record { at = at; head = h; rest = ps; close = close }) h) >>= opened later close)
    by None = refl
    by (Some h) = head_opened later (record { at = at; head = h; rest = ps; close = close }) h refl

pub list_opened : (later : Bool) (close : ℕ) (ps : Parts) → listed_term later close ps ≡ (opening later close ps >>= opened later close)
unfolding listed_term
list_opened later close Nil = refl
list_opened later close (Cons p ps) = by (word p)
  where
    by : (r : Result (List ℕ) TextFault) → (r >>= λ w. term_list later (place p) w ps close (term_tokens later ps) (op_named w)) ≡ ((r >>= λ w. worded_opening later (place p) w ps close (op_named w)) >>= opened later close)
    by (Ok w) = worded_opened later (place p) w ps close (op_named w)
    by (Err e) = refl

pub listed_part : (later : Bool) (p : Part) (at : ℕ) (ps : Parts) (close : ℕ) → p ≡ Branch at ps close → bare_term later p ≡ listed_term later close ps
unfolding listed_term
listed_part later p at ps close e = ap (bare_term later) e ∙ by ps
  where
    by : (qs : Parts) → bare_term later (Branch at qs close) ≡ listed_term later close qs
    by Nil = refl
    by (Cons q qs) = refl

-- ---- one part and two

pub one_first : (later : Bool) (close : ℕ) (ps rest : Parts) (p : Part) (a : Term) → next close ps ≡ Ok (p, rest) → bare_term later p ≡ Ok a →
    one_of node_count close (term_tokens later ps) ≡ behind (place p) (node_count a) (ended a rest)
one_first later close ps rest p a n r =
    ap (λ qs. one_of node_count close (term_tokens later qs)) (first_part close ps rest p n)
    ∙ ap (λ x. x >>= λ b. behind (place p) (node_count b) (no_more b (term_tokens later rest))) r
    ∙ ap (behind (place p) (node_count a)) (by rest)
  where
    by : (qs : Parts) → no_more a (term_tokens later qs) ≡ ended a qs
    by Nil = refl
    by (Cons q qs) = refl

pub two_first : (later : Bool) (close : ℕ) (ps rest : Parts) (p : Part) (a : Term) → next close ps ≡ Ok (p, rest) → bare_term later p ≡ Ok a →
    two_of node_count close (term_tokens later ps) ≡ beside (place p) (node_count a) a (one_of node_count close (term_tokens later rest))
two_first later close ps rest p a n r =
    ap (λ qs. two_of node_count close (term_tokens later qs)) (first_part close ps rest p n)
    ∙ ap (λ x. x >>= λ b. beside (place p) (node_count b) b (one_of node_count close (term_tokens later rest))) r

-- ---- sizes

size_of : Result Opening TextFault → ℕ
size_of (Ok o) = opening_size o
size_of (Err e) = 0

low_size : (close : ℕ) (ps : Parts) → size_of (low_opening close ps) ≤ sizes ps
unfolding size_of
low_size close ps = by (field (small_where is_low_width) close ps) refl
  where
    by : (r : Result (ℕ × Parts) TextFault) → field (small_where is_low_width) close ps ≡ r → size_of (r >>= λ k. Ok (One (one.Low k.0) k.1)) ≤ sizes ps
    by (Ok k) e = omega (arith, after_smaller (small_where is_low_width) close ps k.1 k.0 e)
    by (Err f) e = omega arith

sgn_size : (close : ℕ) (ps : Parts) → size_of (sgn_opening close ps) ≤ sizes ps
unfolding size_of
sgn_size close ps = by (field (small_where is_sgn_width) close ps) refl
  where
    by : (r : Result (ℕ × Parts) TextFault) → field (small_where is_sgn_width) close ps ≡ r → size_of (r >>= λ n. Ok (One (one.Sgn n.0) n.1)) ≤ sizes ps
    by (Ok n) e = omega (arith, after_smaller (small_where is_sgn_width) close ps n.1 n.0 e)
    by (Err f) e = omega arith

sext_size : (close : ℕ) (ps : Parts) → size_of (sext_opening close ps) ≤ sizes ps
unfolding size_of
sext_size close ps = by (field (small_where is_low_width) close ps) refl
  where
    more : (k : ℕ) (qs : Parts) → sizes qs ≤ sizes ps → (r : Result (ℕ × Parts) TextFault) → field (small_where (is_sext_pair k)) close qs ≡ r → size_of (r >>= λ n. Ok (One (one.Sext k n.0) n.1)) ≤ sizes ps
    more k qs h (Ok n) e = omega (arith, after_smaller (small_where (is_sext_pair k)) close qs n.1 n.0 e)
    more k qs h (Err f) e = omega arith

    by : (r : Result (ℕ × Parts) TextFault) → field (small_where is_low_width) close ps ≡ r →
        size_of (r >>= λ k. field (small_where (is_sext_pair k.0)) close k.1 >>= λ n. Ok (One (one.Sext k.0 n.0) n.1)) ≤ sizes ps
    by (Ok k) e = more k.0 k.1 (omega (arith, after_smaller (small_where is_low_width) close ps k.1 k.0 e)) (field (small_where (is_sext_pair k.0)) close k.1) refl
    by (Err f) e = omega arith

place_size : (later : Bool) (h : Headed) → size_of (place_opening later h) ≤ sizes h.rest
unfolding size_of
place_size later h = by (place_at later h h.head)
  where
    by : (r : Result Place TextFault) → size_of (r >>= λ p. Ok (At p)) ≤ sizes h.rest
    by (Ok p) = omega arith
    by (Err f) = omega arith

head_size : (later : Bool) (h : Headed) (k : Head) → size_of (opening_at later h k) ≤ sizes h.rest
unfolding size_of opening_at
head_size later h head.Plus = omega arith
head_size later h head.Minus = omega arith
head_size later h head.Times = omega arith
head_size later h head.Low = low_size h.close h.rest
head_size later h head.Sgn = sgn_size h.close h.rest
head_size later h head.Sext = sext_size h.close h.rest
head_size later h k = place_size later h

worded_size : (later : Bool) (at : ℕ) (w : List ℕ) (ps : Parts) (close : ℕ) (op : Option NumOp) → size_of (worded_opening later at w ps close op) ≤ sizes ps
unfolding size_of
worded_size later at w ps close (Some op) = by (num_operands op == 1)
  where
    by : (b : Bool) → opening_size (cond b (One (one.Op op) ps) (Two (two.Op op) ps)) ≤ sizes ps
    by true = omega arith
    by false = omega arith
worded_size later at w ps close None = by (head_named w)
  where
    by : (o : Option Head) → size_of (or_form at o >>= λ h. opening_at later (record { at = at; head = h; rest = ps; close = close }) h) ≤ sizes ps
    by None = omega arith
    by (Some h) = head_size later (record { at = at; head = h; rest = ps; close = close }) h

list_size : (later : Bool) (close : ℕ) (ps : Parts) → size_of (opening later close ps) ≤ sizes ps
unfolding size_of
list_size later close Nil = omega arith
list_size later close (Cons p ps) = by (word p)
  where
    by : (r : Result (List ℕ) TextFault) → size_of (r >>= λ w. worded_opening later (place p) w ps close (op_named w)) ≤ 1 + size p + sizes ps
    by (Ok w) = omega (arith, worded_size later (place p) w ps close (op_named w))
    by (Err e) = omega arith

pub opening_smaller : (later : Bool) (close : ℕ) (ps : Parts) (o : Opening) → opening later close ps ≡ Ok o → opening_size o ≤ sizes ps
unfolding size_of
opening_smaller later close ps o e = omega (arith, list_size later close ps, ap size_of e)
