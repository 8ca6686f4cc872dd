-- Steps of derivations are read exactly.
use Rattle.std.proofs.Common.{◌≡◌, ℕ, ◌+◌, Bool, true, false, cond, ltb, leb, List, [], ◌∷◌, drop, Option, Some, None, Result, Ok, Err, refl, sym, ap, ◌∙◌, subst}
use Rattle.std.specs.Prelude.{map}
use Rattle.std.proofs.lemmas.Bool.{ltb-false, leb-true, le-ltb, le-leb}
use Rattle.bitvector_rules.specs.declared.step.Rule.{Rule}
use Rattle.bitvector_rules.specs.declared.step.Ref.{Ref}
use Rattle.bitvector_rules.specs.declared.step.Ref.TheVariants as refs
use Rattle.bitvector_rules.specs.declared.step.Step.{Step, Step-F, out-Step, roll-Step, roll-out-Step, map-Step, fold-roll-Step}
use Rattle.sexp_text.specs.declared.fault.TextFault.{TextFault}
use Rattle.sexp_text.specs.declared.fault.TextFault.TheVariants.{Limit}
use Rattle.wasm_values.specs.declared.limit.LimitWord.TheVariants.{Derivation}
use Rattle.sexp_text.specs.Printing as tree
use Rattle.sexp_text.specs.Reading.{◌>>=◌}
use Rattle.notes_grammar.specs.declared.head.Head.{Head}
use Rattle.notes_grammar.specs.declared.head.Head.TheVariants as head
use Rattle.notes_grammar.specs.Parts.{Part, Parts, Number, Name, Quote, Branch, Nil, Cons}
use Rattle.notes_grammar.specs.Shapes.{Shape, listed, where_so, step_here, sub_here, step as step_shape}
use Rattle.notes_grammar.specs.Shapes as shape
use Rattle.notes_grammar.specs.Words.{rule_name, rule_named}
use Rattle.notes_grammar.specs.Reading.{field, list_of, whole, or_form, Headed, headed, numbered, rule_in, reference_at, reference, formula_in, each_at, step_list, nested, step_in, sub_tokens, sub_in, steps_in}
use Rattle.notes_grammar.proofs.Exactness.{no_form, bound, goes, Fits, FitAll, listed_fits, fits_listed, so_fits, fits_so, Exact, field_sound, field_whole, list_exact}
use Rattle.notes_grammar.proofs.LeafLaws.{whole_exact, numbered_sound, numbered_whole, Heads, headed_heads, by_head_whole}
use Rattle.notes_grammar.proofs.TermLaws.{IsNoList, no_list, formula_exact}
use Rattle.notes_grammar.proofs.WordLemmas.{named_rule, rule_found}

ok_same : {A : Type 0} (x y : A) → ◌≡◌ {A = Result A TextFault} (Ok x) (Ok y) → x ≡ y
ok_same x y e = cc

name_same : (v w : List ℕ) → tree.Name v ≡ tree.Name w → v ≡ w
name_same v w e = cc

pub rule_exact : Exact rule_in (λ r. shape.word (rule_name r))
unfolding rule_in
rule_exact = record { sound = sound; whole = whole_way }
  where
    sound : (p : Part) (r : Rule) → rule_in p ≡ Ok r → Fits (shape.word (rule_name r)) p
    sound (Number at z) r e = let none : ⊥ = cc in absurd none
    sound (Quote at s) r e = let none : ⊥ = cc in absurd none
    sound (Branch at ps close) r e = let none : ⊥ = cc in absurd none
    sound (Name at w) r e = by_rule (rule_named w) refl e
      where
        by_rule : (o : Option Rule) → rule_named w ≡ o → or_form at o ≡ Ok r → Fits (shape.word (rule_name r)) (Name at w)
        by_rule None n e = absurd (no_form at r e)
        by_rule (Some x) n e = (ap tree.Name (named_rule w r (n ∙ ap Some (ok_same x r e))), refl)

    whole_way : (p : Part) (r : Rule) → Fits (shape.word (rule_name r)) p → rule_in p ≡ Ok r
    whole_way (Number at z) r f = let e = f.0 in let none : ⊥ = cc in absurd none
    whole_way (Quote at s) r f = let e = f.0 in let none : ⊥ = cc in absurd none
    whole_way (Branch at ps close) r f = let e = f.0 in let none : ⊥ = cc in absurd none
    whole_way (Name at w) r f = ap (λ v. or_form at (rule_named v)) (name_same w (rule_name r) f.0) ∙ ap (or_form at) (rule_found r)

reference_sound : (h : Headed) (k : Head) (q : Part) (r : Ref) → Heads h k q → reference_at h k ≡ Ok r → Fits (shape.reference r) q
unfolding reference_at
reference_sound h head.Hyp q r g e =
    let n = bound (numbered h) (λ k. Ok (refs.Hyp k)) r e in
    subst (λ r. Fits (shape.reference r) q) (ok_same (refs.Hyp n.0) r n.2) (g (shape.small n.0 ∷ []) (numbered_sound h n.0 n.1))
reference_sound h head.Earlier q r g e =
    let n = bound (numbered h) (λ k. Ok (refs.Earlier k)) r e in
    subst (λ r. Fits (shape.reference r) q) (ok_same (refs.Earlier n.0) r n.2) (g (shape.small n.0 ∷ []) (numbered_sound h n.0 n.1))
reference_sound h _ q r g e = absurd (no_form h.at r e)

pub reference_exact : Exact reference shape.reference
unfolding reference reference_at
reference_exact = record { sound = sound; whole = whole_way }
  where
    sound : (q : Part) (r : Ref) → reference q ≡ Ok r → Fits (shape.reference r) q
    sound q r e =
        let h = bound (headed q) (λ h. reference_at h h.head) r e in
        reference_sound h.0 h.0.head q r (headed_heads q h.0 h.1) h.2

    whole_way : (q : Part) (r : Ref) → Fits (shape.reference r) q → reference q ≡ Ok r
    whole_way q (refs.Hyp n) f =
        by_head_whole reference_at head.Hyp q (shape.small n ∷ []) (refs.Hyp n) f (λ h g. goes (numbered h) (λ k. Ok (refs.Hyp k)) n (refs.Hyp n) (numbered_whole h n g) refl)
    whole_way q (refs.Earlier n) f =
        by_head_whole reference_at head.Earlier q (shape.small n ∷ []) (refs.Earlier n) f (λ h g. goes (numbered h) (λ k. Ok (refs.Earlier k)) n (refs.Earlier n) (numbered_whole h n g) refl)

-- steps

-- the shape of a step by its layer
rolled : (later : Bool) (level : ℕ) (l : Step-F Step) → step_shape later level (roll-Step l) ≡ step_here later (map-Step Step (ℕ → Shape) (λ s k. step_shape later k s) l) level
unfolding step_shape
rolled later level l = ap (λ f. f level) (fold-roll-Step (ℕ → Shape) (step_here later) l)

-- the shape of a sub-derivation inside so many
abbrev pub Sub : Bool → ℕ → List Step → Shape
Sub later level ss = where_so (leb level 50) (listed (map (step_shape later level) ss))

map_map : {A B C : Type 0} (f : A → B) (g : B → C) (xs : List A) → map g (map f xs) ≡ map (λ x. g (f x)) xs
map_map f g [] = refl
map_map f g (x ∷ xs) = ap (λ ys. g (f x) ∷ ys) (map_map f g xs)

subs_are : (later : Bool) (level : ℕ) (subs : List (List Step)) → map (sub_here level) (map (map (λ s k. step_shape later k s)) subs) ≡ map (Sub later level) subs
subs_are later level [] = refl
subs_are later level (ss ∷ subs) = λ i. where_so (leb level 50) (listed (map_map {A = Step} {B = ℕ → Shape} {C = Shape} (λ s k. step_shape later k s) (λ f. f level) ss i)) ∷ subs_are later level subs i

abbrev pub Layer : Bool → ℕ → Step-F Step → List Shape
Layer later level l =
    shape.word (rule_name l.rule) ∷ shape.formula later l.formula ∷ listed (map shape.reference l.refs) ∷ listed (map shape.whole l.numbers) ∷ map (Sub later (level + 1)) l.subs

pub step_is : (later : Bool) (level : ℕ) (l : Step-F Step) → step_shape later level (roll-Step l) ≡ listed (Layer later level l)
step_is later level l =
    rolled later level l ∙
    ap (λ xs. listed (shape.word (rule_name l.rule) ∷ shape.formula later l.formula ∷ listed (map shape.reference l.refs) ∷ listed (map shape.whole l.numbers) ∷ xs)) (subs_are later (level + 1) l.subs)

abbrev Each : (Part → Type 0) → Parts → Type 0
Each P Nil = Unit {0}
Each P (Cons p ps) = P p × Each P ps

record StepAt (later : Bool) (p : Part) : Type 0 where
  sound : (level : ℕ) (s : Step) → step_in later p level ≡ Ok s → Fits (step_shape later level s) p
  whole : (level : ℕ) (s : Step) → Fits (step_shape later level s) p → step_in later p level ≡ Ok s

record SubAt (later : Bool) (p : Part) : Type 0 where
  sound : (level : ℕ) (ss : List Step) → sub_in later p level ≡ Ok ss → Fits (Sub later level ss) p
  whole : (level : ℕ) (ss : List Step) → Fits (Sub later level ss) p → sub_in later p level ≡ Ok ss

nested_sound : {A : Type 0} (at level : ℕ) (r : Result A TextFault) (x : A) → nested at level r ≡ Ok x → (leb level 50 ≡ true) × (r ≡ Ok x)
nested_sound {A} at level r x e = by_deep (ltb 50 level) refl e
  where
    by_deep : (v : Bool) → ltb 50 level ≡ v → cond v (Err (Limit at Derivation)) r ≡ Ok x → (leb level 50 ≡ true) × (r ≡ Ok x)
    by_deep true t e = let none : ⊥ = cc in absurd none
    by_deep false t e = (le-leb level 50 (ltb-false 50 level t), e)

nested_whole : {A : Type 0} (at level : ℕ) (r : Result A TextFault) (x : A) → leb level 50 ≡ true → r ≡ Ok x → nested at level r ≡ Ok x
nested_whole at level r x h e = ap (λ v. cond v (Err (Limit at Derivation)) r) (le-ltb 50 level (leb-true level 50 h)) ∙ e

steps_sound : (later : Bool) (ps : Parts) (level : ℕ) (ss : List Step) → Each (StepAt later) ps → steps_in later ps level ≡ Ok ss → FitAll (map (step_shape later level) ss) ps
steps_sound later Nil level ss h e = subst (λ xs. FitAll (map (step_shape later level) xs) Nil) (ok_same [] ss e) tt
steps_sound later (Cons p ps) level ss h e =
    let s = bound (step_in later p level) (λ s. steps_in later ps level >>= λ ss. Ok (s ∷ ss)) ss e in
    let more = bound (steps_in later ps level) (λ ss. Ok (s.0 ∷ ss)) ss s.2 in
    subst (λ xs. FitAll (map (step_shape later level) xs) (Cons p ps)) (ok_same (s.0 ∷ more.0) ss more.2) (h.0.sound level s.0 s.1, steps_sound later ps level more.0 h.1 more.1)

steps_whole : (later : Bool) (ps : Parts) (level : ℕ) (ss : List Step) → Each (StepAt later) ps → FitAll (map (step_shape later level) ss) ps → steps_in later ps level ≡ Ok ss
steps_whole later Nil level [] h f = refl
steps_whole later Nil level (s ∷ ss) h f = absurd f
steps_whole later (Cons p ps) level [] h f = absurd f
steps_whole later (Cons p ps) level (s ∷ ss) h f =
    goes (step_in later p level) (λ s. steps_in later ps level >>= λ ss. Ok (s ∷ ss)) s (s ∷ ss) (h.0.whole level s f.0)
    (goes (steps_in later ps level) (λ ss. Ok (s ∷ ss)) ss (s ∷ ss) (steps_whole later ps level ss h.1 f.1) refl)

subs_sound : (later : Bool) (ps : Parts) (level : ℕ) (xs : List (List Step)) → Each (SubAt later) ps → each_at level (sub_tokens later ps) ≡ Ok xs → FitAll (map (Sub later level) xs) ps
subs_sound later Nil level xs h e = subst (λ xs. FitAll (map (Sub later level) xs) Nil) (ok_same [] xs e) tt
subs_sound later (Cons p ps) level xs h e =
    let s = bound (sub_in later p level) (λ x. each_at level (sub_tokens later ps) >>= λ xs. Ok (x ∷ xs)) xs e in
    let more = bound (each_at level (sub_tokens later ps)) (λ xs. Ok (s.0 ∷ xs)) xs s.2 in
    subst (λ xs. FitAll (map (Sub later level) xs) (Cons p ps)) (ok_same (s.0 ∷ more.0) xs more.2) (h.0.sound level s.0 s.1, subs_sound later ps level more.0 h.1 more.1)

subs_whole : (later : Bool) (ps : Parts) (level : ℕ) (xs : List (List Step)) → Each (SubAt later) ps → FitAll (map (Sub later level) xs) ps → each_at level (sub_tokens later ps) ≡ Ok xs
subs_whole later Nil level [] h f = refl
subs_whole later Nil level (s ∷ ss) h f = absurd f
subs_whole later (Cons p ps) level [] h f = absurd f
subs_whole later (Cons p ps) level (s ∷ ss) h f =
    goes (sub_in later p level) (λ x. each_at level (sub_tokens later ps) >>= λ xs. Ok (x ∷ xs)) s (s ∷ ss) (h.0.whole level s f.0)
    (goes (each_at level (sub_tokens later ps)) (λ xs. Ok (s ∷ xs)) ss (s ∷ ss) (subs_whole later ps level ss h.1 f.1) refl)

field_parts : {A : Type 0} (read : Part → Result A TextFault) (close : ℕ) (ps : Parts) (y : A × Parts) → field read close ps ≡ Ok y → (p : Part) × (ps ≡ Cons p y.1)
field_parts read close Nil y e = let none : ⊥ = cc in absurd none
field_parts read close (Cons p ps) y e =
    let one = bound (read p) (λ a. Ok (a, ps)) y e in
    (p, ap (λ z. Cons p z.1) (ok_same (one.0, ps) y one.2))

-- the parts after four
behind_four : (later : Bool) (ps q1 q2 q3 q4 : Parts) (p1 p2 p3 p4 : Part) → ps ≡ Cons p1 q1 → q1 ≡ Cons p2 q2 → q2 ≡ Cons p3 q3 → q3 ≡ Cons p4 q4 → ps ≡ Cons p1 (Cons p2 (Cons p3 (Cons p4 q4)))
behind_four later ps q1 q2 q3 q4 p1 p2 p3 p4 a b c d =
    a ∙ ap (Cons p1) b ∙ ap (λ q. Cons p1 (Cons p2 q)) c ∙ ap (λ q. Cons p1 (Cons p2 (Cons p3 q))) d

step_list_sound : (later : Bool) (at close : ℕ) (ps : Parts) (level : ℕ) (s : Step) → Each (SubAt later) ps → step_list later close ps (sub_tokens later ps) level ≡ Ok s →
    Fits (step_shape later level s) (Branch at ps close)
unfolding step_list
step_list_sound later at close ps level s each e =
    let r = bound (field rule_in close ps) _ s e in
    let f = bound (field (formula_in later) close r.0.1) _ s r.2 in
    let rs = bound (field (list_of reference) close f.0.1) _ s f.2 in
    let ns = bound (field (list_of whole) close rs.0.1) _ s rs.2 in
    let xs = bound (each_at (level + 1) (drop 4 (sub_tokens later ps))) _ s ns.2 in
    let p1 = field_parts rule_in close ps r.0 r.1 in
    let p2 = field_parts (formula_in later) close r.0.1 f.0 f.1 in
    let p3 = field_parts (list_of reference) close f.0.1 rs.0 rs.1 in
    let p4 = field_parts (list_of whole) close rs.0.1 ns.0 ns.1 in
    let four = behind_four later ps r.0.1 f.0.1 rs.0.1 ns.0.1 p1.0 p2.0 p3.0 p4.0 p1.1 p2.1 p3.1 p4.1 in
    let left : Each (SubAt later) ns.0.1 = (subst (Each (SubAt later)) four each).1.1.1.1 in
    let read : each_at (level + 1) (sub_tokens later ns.0.1) ≡ Ok xs.0 = subst (λ qs. each_at (level + 1) (drop 4 (sub_tokens later qs)) ≡ Ok xs.0) four xs.1 in
    let l : Step-F Step = record { rule = r.0.0; formula = f.0.0; refs = rs.0.0; numbers = ns.0.0; subs = xs.0 } in
    let fits : FitAll (Layer later level l) ps =
    field_sound rule_exact close ps r.0 r.1 (shape.formula later f.0.0 ∷ listed (map shape.reference rs.0.0) ∷ listed (map shape.whole ns.0.0) ∷ map (Sub later (level + 1)) xs.0)
    (field_sound (formula_exact later) close r.0.1 f.0 f.1 (listed (map shape.reference rs.0.0) ∷ listed (map shape.whole ns.0.0) ∷ map (Sub later (level + 1)) xs.0)
    (field_sound (list_exact reference_exact) close f.0.1 rs.0 rs.1 (listed (map shape.whole ns.0.0) ∷ map (Sub later (level + 1)) xs.0)
    (field_sound (list_exact whole_exact) close rs.0.1 ns.0 ns.1 (map (Sub later (level + 1)) xs.0) (subs_sound later ns.0.1 (level + 1) xs.0 left read)))) in
    subst (λ s. Fits (step_shape later level s) (Branch at ps close)) (ok_same (roll-Step l) s xs.2)
    (subst (λ x. Fits x (Branch at ps close)) (sym (step_is later level l)) (listed_fits (Layer later level l) at close ps fits))

branch_same : (a b : ℕ) (ps qs : Parts) (c d : ℕ) → Branch a ps c ≡ Branch b qs d → ps ≡ qs
branch_same a b ps qs c d e = cc

pub parts_fit : (xs : List Shape) (at close : ℕ) (ps : Parts) → Fits (listed xs) (Branch at ps close) → FitAll xs ps
parts_fit xs at close ps f =
    let l = fits_listed xs (Branch at ps close) f in subst (FitAll xs) (branch_same l.0 at l.1 ps l.2 close (sym l.3)) l.4

step_list_whole : (later : Bool) (at close : ℕ) (ps : Parts) (level : ℕ) (s : Step) → Each (SubAt later) ps → Fits (step_shape later level s) (Branch at ps close) →
    step_list later close ps (sub_tokens later ps) level ≡ Ok s
unfolding step_list
step_list_whole later at close ps level s each f =
    let l = out-Step s in
    let same : roll-Step l ≡ s = roll-out-Step s in
    let f1 : Fits (step_shape later level (roll-Step l)) (Branch at ps close) = subst (λ u. Fits (step_shape later level u) (Branch at ps close)) (sym same) f in
    let fits = parts_fit (Layer later level l) at close ps (subst (λ x. Fits x (Branch at ps close)) (step_is later level l) f1) in
    let a = field_whole rule_exact close ps l.rule (shape.formula later l.formula ∷ listed (map shape.reference l.refs) ∷ listed (map shape.whole l.numbers) ∷ map (Sub later (level + 1)) l.subs) fits in
    let b = field_whole (formula_exact later) close a.0 l.formula (listed (map shape.reference l.refs) ∷ listed (map shape.whole l.numbers) ∷ map (Sub later (level + 1)) l.subs) a.2 in
    let c = field_whole (list_exact reference_exact) close b.0 l.refs (listed (map shape.whole l.numbers) ∷ map (Sub later (level + 1)) l.subs) b.2 in
    let d = field_whole (list_exact whole_exact) close c.0 l.numbers (map (Sub later (level + 1)) l.subs) c.2 in
    let p1 = field_parts rule_in close ps (l.rule, a.0) a.1 in
    let p2 = field_parts (formula_in later) close a.0 (l.formula, b.0) b.1 in
    let p3 = field_parts (list_of reference) close b.0 (l.refs, c.0) c.1 in
    let p4 = field_parts (list_of whole) close c.0 (l.numbers, d.0) d.1 in
    let four = behind_four later ps a.0 b.0 c.0 d.0 p1.0 p2.0 p3.0 p4.0 p1.1 p2.1 p3.1 p4.1 in
    let left : Each (SubAt later) d.0 = (subst (Each (SubAt later)) four each).1.1.1.1 in
    let read : each_at (level + 1) (drop 4 (sub_tokens later ps)) ≡ Ok l.subs =
    subst (λ qs. each_at (level + 1) (drop 4 (sub_tokens later qs)) ≡ Ok l.subs) (sym four) (subs_whole later d.0 (level + 1) l.subs left d.2) in
    goes (field rule_in close ps) _ (l.rule, a.0) s a.1
    (goes (field (formula_in later) close a.0) _ (l.formula, b.0) s b.1
    (goes (field (list_of reference) close b.0) _ (l.refs, c.0) s c.1
    (goes (field (list_of whole) close c.0) _ (l.numbers, d.0) s d.1
    (goes (each_at (level + 1) (drop 4 (sub_tokens later ps))) _ l.subs s read (ap Ok same)))))

-- no step is a number, a word or a string
pub step_never : (later : Bool) (level : ℕ) (s : Step) (q : Part) → IsNoList q → Fits (step_shape later level s) q → ⊥
step_never later level s q n f =
    let l = out-Step s in
    let f1 : Fits (step_shape later level (roll-Step l)) q = subst (λ u. Fits (step_shape later level u) q) (sym (roll-out-Step s)) f in
    no_list (Layer later level l) q n (subst (λ x. Fits x q) (step_is later level l) f1)

pub sub_never : (later : Bool) (level : ℕ) (ss : List Step) (q : Part) → IsNoList q → Fits (Sub later level ss) q → ⊥
sub_never later level ss q n f = no_list (map (step_shape later level) ss) q n (fits_so (leb level 50) (listed (map (step_shape later level) ss)) q f).1

mutual
  step_at : (later : Bool) (p : Part) → StepAt later p
  step_at later (Number at z) = record { sound = λ level s e. absurd (no_form at s e); whole = λ level s f. absurd (step_never later level s (Number at z) tt f) }
  step_at later (Name at w) = record { sound = λ level s e. absurd (no_form at s e); whole = λ level s f. absurd (step_never later level s (Name at w) tt f) }
  step_at later (Quote at w) = record { sound = λ level s e. absurd (no_form at s e); whole = λ level s f. absurd (step_never later level s (Quote at w) tt f) }
  step_at later (Branch at ps close) = record {
    sound = λ level s e. step_list_sound later at close ps level s (each_sub later ps) e;
    whole = λ level s f. step_list_whole later at close ps level s (each_sub later ps) f;
  }

  each_sub : (later : Bool) (ps : Parts) → Each (SubAt later) ps
  each_sub later Nil = tt
  each_sub later (Cons p ps) = (sub_at later p, each_sub later ps)

  sub_at : (later : Bool) (p : Part) → SubAt later p
  sub_at later (Number at z) = record { sound = λ level s e. absurd (no_form at s e); whole = λ level s f. absurd (sub_never later level s (Number at z) tt f) }
  sub_at later (Name at w) = record { sound = λ level s e. absurd (no_form at s e); whole = λ level s f. absurd (sub_never later level s (Name at w) tt f) }
  sub_at later (Quote at w) = record { sound = λ level s e. absurd (no_form at s e); whole = λ level s f. absurd (sub_never later level s (Quote at w) tt f) }
  sub_at later (Branch at ps close) = record {
    sound = λ level ss e.
        let n = nested_sound at level (steps_in later ps level) ss e in
        so_fits (leb level 50) (listed (map (step_shape later level) ss)) (Branch at ps close) n.0
        (listed_fits (map (step_shape later level) ss) at close ps (steps_sound later ps level ss (each_step later ps) n.1));
    whole = λ level ss f.
        let s = fits_so (leb level 50) (listed (map (step_shape later level) ss)) (Branch at ps close) f in
        nested_whole at level (steps_in later ps level) ss s.0
        (steps_whole later ps level ss (each_step later ps) (parts_fit (map (step_shape later level) ss) at close ps s.1));
  }

  each_step : (later : Bool) (ps : Parts) → Each (StepAt later) ps
  each_step later Nil = tt
  each_step later (Cons p ps) = (step_at later p, each_step later ps)

pub derivation_sound : (later : Bool) (ps : Parts) (ss : List Step) → steps_in later ps 0 ≡ Ok ss → FitAll (shape.steps later ss) ps
derivation_sound later ps ss e = steps_sound later ps 0 ss (each_step later ps) e

pub derivation_whole : (later : Bool) (ps : Parts) (ss : List Step) → FitAll (shape.steps later ss) ps → steps_in later ps 0 ≡ Ok ss
derivation_whole later ps ss f = steps_whole later ps 0 ss (each_step later ps) f
