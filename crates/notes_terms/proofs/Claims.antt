-- A list that is a formula is read by its kind.
use Rattle.std.proofs.Common.{◌≡◌, ◌+◌, ◌<◌, ◌≤◌, ℕ, arith, Bool, List, Option, Some, None, Result, Ok, Err, refl, sym, ap, ◌∙◌}
use Rattle.sexp_text.specs.declared.fault.TextFault.{TextFault}
use Rattle.sexp_text.specs.Reading.{◌>>=◌}
use Rattle.term_trees.specs.declared.term.Formula.{Formula}
use Rattle.term_trees.specs.Formulas.{formula_nodes}
use Rattle.notes_grammar.specs.declared.head.Head.{Head}
use Rattle.notes_grammar.specs.declared.head.Head.TheVariants as head
use Rattle.notes_grammar.specs.Parts.{Part, Parts, Nil, Cons, Number, Name, Quote, Branch, place}
use Rattle.notes_grammar.specs.Words.{head_named}
use Rattle.notes_grammar.specs.Reading.{Headed, headed, or_form, next, ended, word, behind, no_more, one_of, two_of, bare_formula, formula_tokens, formula_at}
use Rattle.notes_terms.specs.words.Claims.{kind_of, formed, listed_formula}
use Rattle.notes_terms.specs.words.Forms.{beside}
use Rattle.notes_terms.specs.words.Sizes.{size, sizes}
use Rattle.notes_terms.proofs.PartLemmas.{first_part}

kind_formed : (later : Bool) (h : Headed) (k : Head) → formula_at later h (formula_tokens later h.rest) k ≡ formed later (kind_of k) h
unfolding formula_at
kind_formed later h head.Eq = refl
kind_formed later h head.Le = refl
kind_formed later h head.Lt = refl
kind_formed later h head.Not = refl
kind_formed later h head.And = refl
kind_formed later h head.Or = refl
kind_formed later h head.Imp = refl
kind_formed later h k = refl

of_head : ℕ → ℕ → Parts → Head → Headed
of_head at close ps h = record { at = at; head = h; rest = ps; close = close }

list_headed : (later : Bool) (at : ℕ) (ps : Parts) (close : ℕ) → bare_formula later (Branch at ps close) ≡ listed_formula later (Branch at ps close)
unfolding headed listed_formula of_head
list_headed later at Nil close = refl
list_headed later at (Cons p ps) close = by (word p)
  where
    named : (o : Option Head) → (or_form (place p) o >>= λ h. formula_at later (of_head (place p) close ps h) (formula_tokens later ps) h)
        ≡ ((or_form (place p) o >>= λ h. Ok (of_head (place p) close ps h)) >>= λ h. formed later (kind_of h.head) h)
    named None = refl
    named (Some h) = kind_formed later (of_head (place p) close ps h) h

    by : (r : Result (List ℕ) TextFault) → (r >>= λ w. or_form (place p) (head_named w) >>= λ h. formula_at later (of_head (place p) close ps h) (formula_tokens later ps) h)
        ≡ ((r >>= λ w. or_form (place p) (head_named w) >>= λ h. Ok (of_head (place p) close ps h)) >>= λ h. formed later (kind_of h.head) h)
    by (Ok w) = named (head_named w)
    by (Err e) = refl

-- a list is read by its head
pub listed_part : (later : Bool) (p : Part) (at : ℕ) (ps : Parts) (close : ℕ) → p ≡ Branch at ps close → bare_formula later p ≡ listed_formula later p
listed_part later p at ps close e = ap (bare_formula later) e ∙ list_headed later at ps close ∙ ap (listed_formula later) (sym e)

rest_size : Result Headed TextFault → ℕ
rest_size (Ok h) = sizes h.rest
rest_size (Err e) = 0

rest_smaller : (p : Part) → rest_size (headed p) + 2 < size p
unfolding headed rest_size of_head
rest_smaller (Number at z) = omega arith
rest_smaller (Name at w) = omega arith
rest_smaller (Quote at s) = omega arith
rest_smaller (Branch at Nil close) = omega arith
rest_smaller (Branch at (Cons p ps) close) = by (word p)
  where
    named : (o : Option Head) → rest_size (or_form (place p) o >>= λ h. Ok (of_head (place p) close ps h)) ≤ sizes ps
    named None = omega arith
    named (Some h) = omega arith

    by : (r : Result (List ℕ) TextFault) → rest_size (r >>= λ w. or_form (place p) (head_named w) >>= λ h. Ok (of_head (place p) close ps h)) + 2 < 9 + (1 + size p + sizes ps)
    by (Ok w) = omega (arith, named (head_named w))
    by (Err e) = omega arith

-- the parts behind a head
pub headed_size : (p : Part) (h : Headed) → headed p ≡ Ok h → sizes h.rest + 2 < size p
unfolding rest_size
headed_size p h e = omega (arith, rest_smaller p, ap rest_size e)

-- ---- one part and two

pub one_first : (later : Bool) (close : ℕ) (ps rest : Parts) (p : Part) (a : Formula) → next close ps ≡ Ok (p, rest) → bare_formula later p ≡ Ok a →
    one_of formula_nodes close (formula_tokens later ps) ≡ behind (place p) (formula_nodes a) (ended a rest)
one_first later close ps rest p a n r =
    ap (λ qs. one_of formula_nodes close (formula_tokens later qs)) (first_part close ps rest p n)
    ∙ ap (λ x. x >>= λ b. behind (place p) (formula_nodes b) (no_more b (formula_tokens later rest))) r
    ∙ ap (behind (place p) (formula_nodes a)) (by rest)
  where
    by : (qs : Parts) → no_more a (formula_tokens later qs) ≡ ended a qs
    by Nil = refl
    by (Cons q qs) = refl

pub two_first : (later : Bool) (close : ℕ) (ps rest : Parts) (p : Part) (a : Formula) → next close ps ≡ Ok (p, rest) → bare_formula later p ≡ Ok a →
    two_of formula_nodes close (formula_tokens later ps) ≡ beside (place p) (formula_nodes a) a (one_of formula_nodes close (formula_tokens later rest))
two_first later close ps rest p a n r =
    ap (λ qs. two_of formula_nodes close (formula_tokens later qs)) (first_part close ps rest p n)
    ∙ ap (λ x. x >>= λ b. beside (place p) (formula_nodes b) b (one_of formula_nodes close (formula_tokens later rest))) r
