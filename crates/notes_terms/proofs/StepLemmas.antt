-- Steps with their sub-derivations, and the sizes of their parts.
use Rattle.std.proofs.Common.{◌≡◌, ℕ, ℤ, zero, suc, ◌+◌, ◌<◌, ◌≤◌, Bool, true, false, nat_lt, if◌then◌else◌, List, [], ◌∷◌, Result, Ok, Err, length, get_or, drop, refl, ap, ◌∙◌, arith}
use Rattle.sexp_text.specs.declared.fault.TextFault.{TextFault}
use Rattle.sexp_text.specs.declared.fault.TextFault.TheVariants.{Limit}
use Rattle.wasm_values.specs.declared.limit.LimitWord.TheVariants.{Derivation}
use Rattle.std.proofs.lemmas.Bool.Decides.{nat_tests}
use Rattle.sexp_text.specs.declared.sexp.Sexp.{Sexp}
use Rattle.sexp_text.specs.Reading.{◌>>=◌}
use Rattle.term_trees.specs.declared.term.Formula.{Formula}
use Rattle.bitvector_rules.specs.declared.step.Rule.{Rule}
use Rattle.bitvector_rules.specs.declared.step.Ref.{Ref}
use Rattle.bitvector_rules.specs.declared.step.Step.{Step}
use Rattle.notes_grammar.specs.Parts.{Part, Parts, Nil, Cons, Branch, part_of, parts_of}
use Rattle.notes_grammar.specs.Reading.{field, list_of, all_of, each_at, rule_in, formula_in, reference, whole, step_list, step_in, steps_in, sub_in, sub_tokens}
use Rattle.notes_terms.specs.words.Sizes.{size, sizes}
use Rattle.notes_terms.specs.words.Steps.{front_of, stepped, listed_step}
use Rattle.notes_terms.specs.Fields.{four_fields}
use Rattle.notes_terms.proofs.PartLemmas.{after_part, after_smaller}

pub size_at : (parts : List Sexp) (i : ℕ) (p : Sexp) → i < length parts → p ≡ get_or parts i p → size (part_of p) < sizes (parts_of parts)
size_at [] i p h e = absurd (omega arith)
size_at (x ∷ xs) zero p h e = omega (arith, ap (λ q. size (part_of q)) e)
size_at (x ∷ xs) (suc i) p h e = omega (arith, size_at xs i p (omega arith) e)

pub all_steps : (later : Bool) (ps : Parts) (level : ℕ) → steps_in later ps level ≡ all_of (λ p. step_in later p level) ps
all_steps later Nil level = refl
all_steps later (Cons p ps) level = ap (λ r. step_in later p level >>= λ s. r >>= λ ss. Ok (s ∷ ss)) (all_steps later ps level)

-- a sub-derivation that is no deeper than it may be
pub sub_listed : (later : Bool) (p : Part) (at : ℕ) (ps : Parts) (close level : ℕ) → p ≡ Branch at ps close → level ≤ 50 → sub_in later p level ≡ all_of (λ q. step_in later q level) ps
sub_listed later p at ps close level e h = ap (λ q. sub_in later q level) e ∙ by (nat_lt 50 level) refl
  where
    by : (b : Bool) → nat_lt 50 level ≡ b → (if b then Err (Limit at Derivation) else steps_in later ps level) ≡ all_of (λ q. step_in later q level) ps
    by true is = absurd (grind (arith, nat_tests))
    by false is = all_steps later ps level

all_subs : (later : Bool) (ps : Parts) (level : ℕ) → each_at level (sub_tokens later ps) ≡ all_of (λ p. sub_in later p level) ps
all_subs later Nil level = refl
all_subs later (Cons p ps) level = ap (λ r. sub_in later p level >>= λ s. r >>= λ ss. Ok (s ∷ ss)) (all_subs later ps level)

dropped : {A : Type 0} (later : Bool) (n : ℕ) (read : Part → Result A TextFault) (close : ℕ) (ps rest : Parts) (x : A) → field read close ps ≡ Ok (x, rest) →
    drop (suc n) (sub_tokens later ps) ≡ drop n (sub_tokens later rest)
dropped later n read close ps rest x e = ap (λ qs. drop (suc n) (sub_tokens later qs)) (after_part read close ps rest x e).1

-- a step of these parts
pub step_listed : (later : Bool) (close : ℕ) (ps : Parts) (level : ℕ) → step_list later close ps (sub_tokens later ps) level ≡ listed_step later close ps level
unfolding step_list
step_listed later close ps level = by_rule (field rule_in close ps) refl
  where
    subs : Rule → Formula → List Ref → List ℤ → Result (List (List Step)) TextFault → Result Step TextFault
    subs r f rs ns given = stepped (front_of r f rs ns) given

    all : (Rule × Formula × List Ref × List ℤ × Parts) → Result Step TextFault
    all x = subs x.0 x.1 x.2 x.3 (all_of (λ p. sub_in later p (level + 1)) x.4)

    given : Rule → Formula → List Ref → List ℤ → Parts → Rule × Formula × List Ref × List ℤ × Parts
    given r f rs ns qs = (r, f, rs, ns, qs)

    by_numbers : (r : Rule) (f : Formula) (rs : List Ref) (qs : Parts) → drop 4 (sub_tokens later ps) ≡ drop 1 (sub_tokens later qs) → (x : Result (List ℤ × Parts) TextFault) → field (list_of whole) close qs ≡ x →
        (x >>= λ ns. subs r f rs ns.0 (each_at (level + 1) (drop 4 (sub_tokens later ps)))) ≡ ((x >>= λ ns. Ok (given r f rs ns.0 ns.1)) >>= all)
    by_numbers r f rs qs d (Ok x) e = ap (subs r f rs x.0) (ap (each_at (level + 1)) (d ∙ dropped later 0 (list_of whole) close qs x.1 x.0 e) ∙ all_subs later x.1 (level + 1))
    by_numbers r f rs qs d (Err fault) e = refl

    by_refs : (r : Rule) (f : Formula) (qs : Parts) → drop 4 (sub_tokens later ps) ≡ drop 2 (sub_tokens later qs) → (x : Result (List Ref × Parts) TextFault) → field (list_of reference) close qs ≡ x →
        (x >>= λ rs. field (list_of whole) close rs.1 >>= λ ns. subs r f rs.0 ns.0 (each_at (level + 1) (drop 4 (sub_tokens later ps))))
        ≡ ((x >>= λ rs. field (list_of whole) close rs.1 >>= λ ns. Ok (given r f rs.0 ns.0 ns.1)) >>= all)
    by_refs r f qs d (Ok x) e = by_numbers r f x.0 x.1 (d ∙ dropped later 1 (list_of reference) close qs x.1 x.0 e) (field (list_of whole) close x.1) refl
    by_refs r f qs d (Err fault) e = refl

    by_formula : (r : Rule) (qs : Parts) → drop 4 (sub_tokens later ps) ≡ drop 3 (sub_tokens later qs) → (x : Result (Formula × Parts) TextFault) → field (formula_in later) close qs ≡ x →
        (x >>= λ f. field (list_of reference) close f.1 >>= λ rs. field (list_of whole) close rs.1 >>= λ ns. subs r f.0 rs.0 ns.0 (each_at (level + 1) (drop 4 (sub_tokens later ps))))
        ≡ ((x >>= λ f. field (list_of reference) close f.1 >>= λ rs. field (list_of whole) close rs.1 >>= λ ns. Ok (given r f.0 rs.0 ns.0 ns.1)) >>= all)
    by_formula r qs d (Ok x) e = by_refs r x.0 x.1 (d ∙ dropped later 2 (formula_in later) close qs x.1 x.0 e) (field (list_of reference) close x.1) refl
    by_formula r qs d (Err fault) e = refl

    by_rule : (x : Result (Rule × Parts) TextFault) → field rule_in close ps ≡ x →
        (x >>= λ r. field (formula_in later) close r.1 >>= λ f. field (list_of reference) close f.1 >>= λ rs. field (list_of whole) close rs.1 >>= λ ns. subs r.0 f.0 rs.0 ns.0 (each_at (level + 1) (drop 4 (sub_tokens later ps))))
        ≡ ((x >>= λ r. field (formula_in later) close r.1 >>= λ f. field (list_of reference) close f.1 >>= λ rs. field (list_of whole) close rs.1 >>= λ ns. Ok (given r.0 f.0 rs.0 ns.0 ns.1)) >>= all)
    by_rule (Ok x) e = by_formula x.0 x.1 (dropped later 3 rule_in close ps x.1 x.0 e) (field (formula_in later) close x.1) refl
    by_rule (Err fault) e = refl

-- the size of the parts behind four
rest_size : {A B C D : Type 0} → Result (A × B × C × D × Parts) TextFault → ℕ
rest_size (Ok x) = sizes x.4
rest_size (Err e) = 0

four_size : {A B C D : Type 0} (a : Part → Result A TextFault) (b : Part → Result B TextFault) (c : Part → Result C TextFault) (d : Part → Result D TextFault) (close : ℕ) (ps : Parts) →
    rest_size (four_fields a b c d close ps) ≤ sizes ps
unfolding rest_size
four_size {A} {B} {C} {D} a b c d close ps = by_first (field a close ps) refl
  where
    given : A → B → C → D → Parts → A × B × C × D × Parts
    given x y z w qs = (x, y, z, w, qs)

    by_fourth : (x : A) (y : B) (z : C) (qs : Parts) → sizes qs ≤ sizes ps → (r : Result (D × Parts) TextFault) → field d close qs ≡ r → rest_size (r >>= λ w. Ok (given x y z w.0 w.1)) ≤ sizes ps
    by_fourth x y z qs h (Ok w) e = omega (arith, after_smaller d close qs w.1 w.0 e)
    by_fourth x y z qs h (Err fault) e = omega arith

    by_third : (x : A) (y : B) (qs : Parts) → sizes qs ≤ sizes ps → (r : Result (C × Parts) TextFault) → field c close qs ≡ r → rest_size (r >>= λ z. field d close z.1 >>= λ w. Ok (given x y z.0 w.0 w.1)) ≤ sizes ps
    by_third x y qs h (Ok z) e = by_fourth x y z.0 z.1 (omega (arith, after_smaller c close qs z.1 z.0 e)) (field d close z.1) refl
    by_third x y qs h (Err fault) e = omega arith

    by_second : (x : A) (qs : Parts) → sizes qs ≤ sizes ps → (r : Result (B × Parts) TextFault) → field b close qs ≡ r →
        rest_size (r >>= λ y. field c close y.1 >>= λ z. field d close z.1 >>= λ w. Ok (given x y.0 z.0 w.0 w.1)) ≤ sizes ps
    by_second x qs h (Ok y) e = by_third x y.0 y.1 (omega (arith, after_smaller b close qs y.1 y.0 e)) (field c close y.1) refl
    by_second x qs h (Err fault) e = omega arith

    by_first : (r : Result (A × Parts) TextFault) → field a close ps ≡ r →
        rest_size (r >>= λ x. field b close x.1 >>= λ y. field c close y.1 >>= λ z. field d close z.1 >>= λ w. Ok (given x.0 y.0 z.0 w.0 w.1)) ≤ sizes ps
    by_first (Ok x) e = by_second x.0 x.1 (omega (arith, after_smaller a close ps x.1 x.0 e)) (field b close x.1) refl
    by_first (Err fault) e = omega arith

-- the parts behind four
pub four_smaller : {A B C D : Type 0} (a : Part → Result A TextFault) (b : Part → Result B TextFault) (c : Part → Result C TextFault) (d : Part → Result D TextFault) (close : ℕ) (ps rest : Parts) (x : A) (y : B) (z : C) (w : D) →
    four_fields a b c d close ps ≡ Ok (x, y, z, w, rest) → sizes rest ≤ sizes ps
unfolding rest_size
four_smaller {A} {B} {C} {D} a b c d close ps rest x y z w e = omega (arith, four_size a b c d close ps, ap (rest_size {A = A} {B = B} {C = C} {D = D}) e)
