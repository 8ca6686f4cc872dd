-- The same for the things that notes are made of.
use Rattle.std.proofs.Common.{◌≡◌, ℕ, ◌+◌, ◌-◌, ◌≤◌, ◌<◌, pos, Bool, true, false, ◌&&◌, cond, ltb, leb, eqb, List, [], ◌∷◌, ◌++◌, length, Option, Some, None, Result, Ok, Err, refl, sym, ap, subst, ◌∙◌, append_assoc, arith, codes, eq-eqb}
use Rattle.std.specs.Prelude.{IfOk, sum_by}
use Rattle.std.proofs.lemmas.Bool.{lt-ltb, ltb-true, ltb-false, le-leb, leb-true, eqb-true}
use Rattle.std.proofs.lemmas.List.Sums.{sum_by-cons}
use Rattle.std.proofs.lemmas.Slice.Eq.{bytes_eq-Decides}
use Rattle.std.specs.Str.{bytes_eq}
use Rattle.std.specs.List.{flat_map, AllByRecursion}
use Rattle.outline_check.specs.declared.notes.Rule.{Rule}
use Rattle.outline_check.specs.declared.notes.Rule.TheVariants as rule
use Rattle.outline_check.specs.declared.notes.Ref.{Ref}
use Rattle.outline_check.specs.declared.notes.Ref.TheVariants as ref
use Rattle.outline_check.specs.declared.notes.Formula.{Formula}
use Rattle.outline_check.specs.declared.notes.Step.{Step}
use Rattle.outline_check.specs.declared.notes.Assertion.{Assertion}
use Rattle.outline_check.specs.declared.notes.With.{With}
use Rattle.outline_check.specs.declared.notes.Move.{Move}
use Rattle.outline_check.specs.declared.notes.Move.TheVariants as move
use Rattle.outline_check.specs.declared.notes.Use.{Use}
use Rattle.outline_check.specs.declared.notes.Use.TheVariants as use_
use Rattle.outline_check.specs.declared.notes.Note.{Note}
use Rattle.outline_check.specs.declared.notes.FuncNotes.{FuncNotes}
use Rattle.outline_check.specs.declared.notes.Initial.{Initial}
use Rattle.outline_check.specs.declared.notes.Notes.{Notes}
use Rattle.first_reader.specs.declared.error.ReadError.{ReadError}
use Rattle.first_reader.specs.Lexemes.{Lexeme, Open, Close, Number, Word, lexemes}
use Rattle.first_reader.specs.FirstNotes.{natural, formula_parts, rule_word, ref_parts, step_parts, move_parts, with_parts, use_parts, note_parts, func_parts, assertion_parts, initial_parts, notes_parts, moves_in, moves_of, IsNatural, IsNoteFormula, IsNoteRef, IsNoteStep, IsNoteMove, IsNoteWith, IsNoteUse, IsNote, IsFuncNotes, IsFirstText}
use Rattle.first_reader.specs.Reading.{◌>>=◌, Gives}
use Rattle.first_reader.specs.ReadingLexemes.{open_at, close_at, number_at, u32_at, head_at, empty_at, many_at, list_at}
use Rattle.first_reader.specs.ReadingNotes.{opens, closes, counts, moves, formula_at, rule_at, ref_word_at, ref_of, ref_at, step_at, move_at, with_at, use_at, note_at, func_at, only_at, assertion_at, initial_at, done, notes_at, left_after, left_after_all, is_left, has_few_moves, first_notes}
use Rattle.first_reader.proofs.PartLaws.{some_is, bind_some, passed}
use Rattle.first_reader.proofs.NoteParts.{open_takes, close_takes, number_takes, u32_takes, u32_again, head_takes, head_again, empty_takes, empty_again, ReadsParts, many_takes, many_again, list_takes, list_again}

abbrev S : Type 0
S = List Lexeme

-- ---- numbers and formulas

pub reads_numbers : ReadsParts counts u32_at natural IsNatural
reads_numbers = record {
  takes = λ parts x e. u32_takes parts x e;
  again = λ n rest good. u32_again n rest good;
  begun = λ n rest. refl;
  some = λ n. omega arith;
}

formula_takes : (parts : S) (x : Formula × S) → formula_at parts ≡ Some x → (parts ≡ formula_parts x.0 ++ x.1) × IsNoteFormula x.0
unfolding formula_at
formula_takes parts x e =
    let a = bind_some (head_at (codes "=") parts) (λ inside. head_at (codes "global") inside >>= λ place. u32_at place >>= λ global. close_at global.1 >>= λ placed. number_at placed >>= λ value. close_at value.1 >>= λ rest. Some (record { global = global.0; value = value.0 }, rest)) x e in
    let b = bind_some (head_at (codes "global") a.0) (λ place. u32_at place >>= λ global. close_at global.1 >>= λ placed. number_at placed >>= λ value. close_at value.1 >>= λ rest. Some (record { global = global.0; value = value.0 }, rest)) x a.2 in
    let c = bind_some (u32_at b.0) (λ global. close_at global.1 >>= λ placed. number_at placed >>= λ value. close_at value.1 >>= λ rest. Some (record { global = global.0; value = value.0 }, rest)) x b.2 in
    let d = bind_some (close_at c.0.1) (λ placed. number_at placed >>= λ value. close_at value.1 >>= λ rest. Some (record { global = c.0.0; value = value.0 }, rest)) x c.2 in
    let f = bind_some (number_at d.0) (λ value. close_at value.1 >>= λ rest. Some (record { global = c.0.0; value = value.0 }, rest)) x d.2 in
    let g = bind_some (close_at f.0.1) (λ rest. Some (record { global = c.0.0; value = f.0.0 }, rest)) x f.2 in
    let n = u32_takes b.0 c.0 c.1 in
    let made : Formula × S = (record { global = c.0.0; value = f.0.0 }, g.0) in
    let whole : parts ≡ formula_parts made.0 ++ g.0 =
    head_takes (codes "=") parts a.0 a.1 ∙ ap (λ (r : S). Open ∷ Word (codes "=") ∷ r) (head_takes (codes "global") a.0 b.0 b.1 ∙ ap (λ (r : S). Open ∷ Word (codes "global") ∷ r) (n.0 ∙ ap (λ (r : S). Number (pos c.0.0) ∷ r) (close_takes c.0.1 d.0 d.1 ∙ ap (λ (r : S). Close ∷ r) (number_takes d.0 f.0 f.1 ∙ ap (λ (r : S). Number f.0.0 ∷ r) (close_takes f.0.1 g.0 g.1))))) in
    subst (λ (y : Formula × S). (parts ≡ formula_parts y.0 ++ y.1) × IsNoteFormula y.0) (some_is made x g.2) (whole, n.1)

pub formula_again : (f : Formula) (rest : S) → IsNoteFormula f → formula_at (formula_parts f ++ rest) ≡ Some (f, rest)
unfolding formula_at
formula_again f rest good =
    rw (head_again (codes "=") (Open ∷ Word (codes "global") ∷ Number (pos f.global) ∷ Close ∷ Number f.value ∷ Close ∷ rest), head_again (codes "global") (Number (pos f.global) ∷ Close ∷ Number f.value ∷ Close ∷ rest), u32_again f.global (Close ∷ Number f.value ∷ Close ∷ rest) good) refl

pub reads_formulas : ReadsParts opens formula_at formula_parts IsNoteFormula
reads_formulas = record { takes = formula_takes; again = formula_again; begun = λ f rest. refl; some = λ f. omega arith }

-- ---- steps

rule_takes : (parts : S) (x : Rule × S) → rule_at parts ≡ Some x → parts ≡ Word (rule_word x.0) ∷ x.1
rule_takes [] x e = absurd cc
rule_takes (Open ∷ parts) x e = absurd cc
rule_takes (Close ∷ parts) x e = absurd cc
rule_takes (Number z ∷ parts) x e = absurd cc
rule_takes (Word w ∷ parts) x e = by (bytes_eq w (codes "hyp")) (bytes_eq w (codes "eval")) (bytes_eq-Decides w (codes "hyp")).0 (bytes_eq-Decides w (codes "eval")).0 e where
  by : (h v : Bool) → (h ≡ true → w ≡ codes "hyp") → (v ≡ true → w ≡ codes "eval") → cond h (Some (rule.Hyp, parts)) (cond v (Some (rule.Eval, parts)) None) ≡ Some x → Word w ∷ parts ≡ Word (rule_word x.0) ∷ x.1
  by true v p q e = subst (λ (y : Rule × S). Word w ∷ parts ≡ Word (rule_word y.0) ∷ y.1) (some_is (rule.Hyp, parts) x e) (ap (λ u. Word u ∷ parts) (p refl))
  by false true p q e = subst (λ (y : Rule × S). Word w ∷ parts ≡ Word (rule_word y.0) ∷ y.1) (some_is (rule.Eval, parts) x e) (ap (λ u. Word u ∷ parts) (q refl))
  by false false p q e = absurd cc

rule_again : (r : Rule) (rest : S) → rule_at (Word (rule_word r) ∷ rest) ≡ Some (r, rest)
rule_again rule.Hyp rest = refl
rule_again rule.Eval rest = refl

-- the word of a reference
abbrev ref_word : Bool → List ℕ
ref_word true = codes "h"
ref_word false = codes "s"

ref_word_takes : (parts : S) (x : Bool × S) → ref_word_at parts ≡ Some x → parts ≡ Word (ref_word x.0) ∷ x.1
ref_word_takes [] x e = absurd cc
ref_word_takes (Open ∷ parts) x e = absurd cc
ref_word_takes (Close ∷ parts) x e = absurd cc
ref_word_takes (Number z ∷ parts) x e = absurd cc
ref_word_takes (Word w ∷ parts) x e = by (bytes_eq w (codes "h")) (bytes_eq w (codes "s")) (bytes_eq-Decides w (codes "h")).0 (bytes_eq-Decides w (codes "s")).0 e where
  by : (h v : Bool) → (h ≡ true → w ≡ codes "h") → (v ≡ true → w ≡ codes "s") → cond h (Some (true, parts)) (cond v (Some (false, parts)) None) ≡ Some x → Word w ∷ parts ≡ Word (ref_word x.0) ∷ x.1
  by true v p q e = subst (λ (y : Bool × S). Word w ∷ parts ≡ Word (ref_word y.0) ∷ y.1) (some_is (true, parts) x e) (ap (λ u. Word u ∷ parts) (p refl))
  by false true p q e = subst (λ (y : Bool × S). Word w ∷ parts ≡ Word (ref_word y.0) ∷ y.1) (some_is (false, parts) x e) (ap (λ u. Word u ∷ parts) (q refl))
  by false false p q e = absurd cc

ref_spelled : (b : Bool) (k : ℕ) (rest : S) → Open ∷ Word (ref_word b) ∷ Number (pos k) ∷ Close ∷ rest ≡ ref_parts (ref_of b k) ++ rest
ref_spelled true k rest = refl
ref_spelled false k rest = refl

ref_good : (b : Bool) (k : ℕ) → IsNatural k → IsNoteRef (ref_of b k)
ref_good true k h = h
ref_good false k h = h

ref_takes : (parts : S) (x : Ref × S) → ref_at parts ≡ Some x → (parts ≡ ref_parts x.0 ++ x.1) × IsNoteRef x.0
unfolding ref_at
ref_takes parts x e =
    let a = bind_some (open_at parts) (λ inside. ref_word_at inside >>= λ word. u32_at word.1 >>= λ k. close_at k.1 >>= λ rest. Some (ref_of word.0 k.0, rest)) x e in
    let b = bind_some (ref_word_at a.0) (λ word. u32_at word.1 >>= λ k. close_at k.1 >>= λ rest. Some (ref_of word.0 k.0, rest)) x a.2 in
    let c = bind_some (u32_at b.0.1) (λ k. close_at k.1 >>= λ rest. Some (ref_of b.0.0 k.0, rest)) x b.2 in
    let d = bind_some (close_at c.0.1) (λ rest. Some (ref_of b.0.0 c.0.0, rest)) x c.2 in
    let n = u32_takes b.0.1 c.0 c.1 in
    let whole : parts ≡ ref_parts (ref_of b.0.0 c.0.0) ++ d.0 =
    open_takes parts a.0 a.1 ∙ ap (λ (r : S). Open ∷ r) (ref_word_takes a.0 b.0 b.1 ∙ ap (λ (r : S). Word (ref_word b.0.0) ∷ r) (n.0 ∙ ap (λ (r : S). Number (pos c.0.0) ∷ r) (close_takes c.0.1 d.0 d.1))) ∙ ref_spelled b.0.0 c.0.0 d.0 in
    subst (λ (y : Ref × S). (parts ≡ ref_parts y.0 ++ y.1) × IsNoteRef y.0) (some_is (ref_of b.0.0 c.0.0, d.0) x d.2) (whole, ref_good b.0.0 c.0.0 n.1)

ref_again : (r : Ref) (rest : S) → IsNoteRef r → ref_at (ref_parts r ++ rest) ≡ Some (r, rest)
unfolding ref_at
ref_again (ref.Hyp k) rest good = rw (u32_again k (Close ∷ rest) good) refl
ref_again (ref.Earlier k) rest good = rw (u32_again k (Close ∷ rest) good) refl

ref_begun : (r : Ref) (rest : S) → opens (ref_parts r ++ rest) ≡ true
ref_begun (ref.Hyp k) rest = refl
ref_begun (ref.Earlier k) rest = refl

ref_some : (r : Ref) → 1 ≤ length (ref_parts r)
ref_some (ref.Hyp k) = omega arith
ref_some (ref.Earlier k) = omega arith

pub reads_refs : ReadsParts opens ref_at ref_parts IsNoteRef
reads_refs = record { takes = ref_takes; again = ref_again; begun = ref_begun; some = ref_some }

step_spelled : (s : Step) (rest : S) → step_parts s ++ rest ≡ Open ∷ Word (rule_word s.rule) ∷ (formula_parts s.formula ++ (Open ∷ (flat_map ref_parts s.refs ++ (Close ∷ Open ∷ Close ∷ Close ∷ rest))))
step_spelled s rest = simp append_assoc

step_takes : (parts : S) (x : Step × S) → step_at parts ≡ Some x → (parts ≡ step_parts x.0 ++ x.1) × IsNoteStep x.0
unfolding step_at
step_takes parts x e =
    let a = bind_some (open_at parts) (λ inside. rule_at inside >>= λ rule. formula_at rule.1 >>= λ formula. list_at opens ref_at formula.1 >>= λ refs. empty_at refs.1 >>= λ numbers. close_at numbers >>= λ rest. Some (record { rule = rule.0; formula = formula.0; refs = refs.0 }, rest)) x e in
    let b = bind_some (rule_at a.0) (λ rule. formula_at rule.1 >>= λ formula. list_at opens ref_at formula.1 >>= λ refs. empty_at refs.1 >>= λ numbers. close_at numbers >>= λ rest. Some (record { rule = rule.0; formula = formula.0; refs = refs.0 }, rest)) x a.2 in
    let c = bind_some (formula_at b.0.1) (λ formula. list_at opens ref_at formula.1 >>= λ refs. empty_at refs.1 >>= λ numbers. close_at numbers >>= λ rest. Some (record { rule = b.0.0; formula = formula.0; refs = refs.0 }, rest)) x b.2 in
    let d = bind_some (list_at opens ref_at c.0.1) (λ refs. empty_at refs.1 >>= λ numbers. close_at numbers >>= λ rest. Some (record { rule = b.0.0; formula = c.0.0; refs = refs.0 }, rest)) x c.2 in
    let f = bind_some (empty_at d.0.1) (λ numbers. close_at numbers >>= λ rest. Some (record { rule = b.0.0; formula = c.0.0; refs = d.0.0 }, rest)) x d.2 in
    let g = bind_some (close_at f.0) (λ rest. Some (record { rule = b.0.0; formula = c.0.0; refs = d.0.0 }, rest)) x f.2 in
    let made : Step = record { rule = b.0.0; formula = c.0.0; refs = d.0.0 } in
    let q = formula_takes b.0.1 c.0 c.1 in
    let l = list_takes opens ref_at ref_parts IsNoteRef reads_refs c.0.1 d.0 d.1 in
    let whole : parts ≡ step_parts made ++ g.0 =
    open_takes parts a.0 a.1 ∙ ap (λ (r : S). Open ∷ r) (rule_takes a.0 b.0 b.1 ∙ ap (λ (r : S). Word (rule_word b.0.0) ∷ r) (q.0 ∙ ap (λ (r : S). formula_parts c.0.0 ++ r) (l.0 ∙ ap (λ (r : S). Open ∷ (flat_map ref_parts d.0.0 ++ (Close ∷ r))) (empty_takes d.0.1 f.0 f.1 ∙ ap (λ (r : S). Open ∷ Close ∷ r) (close_takes f.0 g.0 g.1))))) ∙ sym (step_spelled made g.0) in
    subst (λ (y : Step × S). (parts ≡ step_parts y.0 ++ y.1) × IsNoteStep y.0) (some_is (made, g.0) x g.2) (whole, record { formula = q.1; refs = l.1 })

step_again : (s : Step) (rest : S) → IsNoteStep s → step_at (step_parts s ++ rest) ≡ Some (s, rest)
unfolding step_at
step_again s rest good =
    let numbers : S = Open ∷ Close ∷ Close ∷ rest in
    let refs : S = Open ∷ (flat_map ref_parts s.refs ++ (Close ∷ numbers)) in
    ap step_at (step_spelled s rest) ∙
    rw (rule_again s.rule (formula_parts s.formula ++ refs), formula_again s.formula refs good.formula, list_again opens ref_at ref_parts IsNoteRef reads_refs s.refs numbers good.refs refl, empty_again (Close ∷ rest)) refl

pub reads_steps : ReadsParts opens step_at step_parts IsNoteStep
reads_steps = record { takes = step_takes; again = step_again; begun = λ s rest. refl; some = λ s. omega arith }

-- ---- moves

have_spelled : (f : Formula) (steps : List Step) (rest : S) → move_parts (move.Have f steps) ++ rest ≡ Open ∷ Word (codes "have") ∷ (formula_parts f ++ (flat_map step_parts steps ++ (Close ∷ rest)))
have_spelled f steps rest = simp append_assoc

move_takes : (parts : S) (x : Move × S) → move_at parts ≡ Some x → (parts ≡ move_parts x.0 ++ x.1) × IsNoteMove x.0
unfolding move_at
move_takes parts x e =
    let a = bind_some (head_at (codes "have") parts) (λ inside. formula_at inside >>= λ formula. many_at opens step_at formula.1 >>= λ steps. close_at steps.1 >>= λ rest. cond (ltb 0 (length steps.0)) (Some (move.Have formula.0 steps.0, rest)) None) x e in
    let b = bind_some (formula_at a.0) (λ formula. many_at opens step_at formula.1 >>= λ steps. close_at steps.1 >>= λ rest. cond (ltb 0 (length steps.0)) (Some (move.Have formula.0 steps.0, rest)) None) x a.2 in
    let c = bind_some (many_at opens step_at b.0.1) (λ steps. close_at steps.1 >>= λ rest. cond (ltb 0 (length steps.0)) (Some (move.Have b.0.0 steps.0, rest)) None) x b.2 in
    let d = bind_some (close_at c.0.1) (λ rest. cond (ltb 0 (length c.0.0)) (Some (move.Have b.0.0 c.0.0, rest)) None) x c.2 in
    let p = passed (ltb 0 (length c.0.0)) (move.Have b.0.0 c.0.0, d.0) x d.2 in
    let q = formula_takes a.0 b.0 b.1 in
    let m = many_takes opens step_at step_parts IsNoteStep reads_steps b.0.1 c.0 c.1 in
    let whole : parts ≡ move_parts (move.Have b.0.0 c.0.0) ++ d.0 =
    head_takes (codes "have") parts a.0 a.1 ∙ ap (λ (r : S). Open ∷ Word (codes "have") ∷ r) (q.0 ∙ ap (λ (r : S). formula_parts b.0.0 ++ r) (m.0 ∙ ap (λ (r : S). flat_map step_parts c.0.0 ++ r) (close_takes c.0.1 d.0 d.1))) ∙ sym (have_spelled b.0.0 c.0.0 d.0) in
    let some_steps : 1 ≤ length c.0.0 = omega (arith, ltb-true _ _ p.0) in
    subst (λ (y : Move × S). (parts ≡ move_parts y.0 ++ y.1) × IsNoteMove y.0) p.1 (whole, (q.1, some_steps, m.1))

move_again : (m : Move) (rest : S) → IsNoteMove m → move_at (move_parts m ++ rest) ≡ Some (m, rest)
unfolding move_at
move_again (move.Have f steps) rest good =
    let others : S = flat_map step_parts steps ++ (Close ∷ rest) in
    let some_steps : ltb 0 (length steps) ≡ true = lt-ltb 0 (length steps) (omega (arith, good.1)) in
    ap move_at (have_spelled f steps rest) ∙
    rw (head_again (codes "have") (formula_parts f ++ others), formula_again f others good.0, many_again opens step_at step_parts IsNoteStep reads_steps steps (Close ∷ rest) good.2 refl, some_steps) refl

move_begun : (m : Move) (rest : S) → moves (move_parts m ++ rest) ≡ true
move_begun (move.Have f steps) rest = refl

move_some : (m : Move) → 1 ≤ length (move_parts m)
move_some (move.Have f steps) = omega arith

pub reads_moves : ReadsParts moves move_at move_parts IsNoteMove
reads_moves = record { takes = move_takes; again = move_again; begun = move_begun; some = move_some }

-- ---- uses

with_spelled : (w : With) (rest : S) → with_parts w ++ rest ≡ Open ∷ Word (codes "with") ∷ Open ∷ Close ∷ Open ∷ (flat_map natural w.facts ++ (Close ∷ Open ∷ Close ∷ Close ∷ rest))
with_spelled w rest = simp append_assoc

with_takes : (parts : S) (x : With × S) → with_at parts ≡ Some x → (parts ≡ with_parts x.0 ++ x.1) × IsNoteWith x.0
unfolding with_at
with_takes parts x e =
    let a = bind_some (head_at (codes "with") parts) (λ inside. empty_at inside >>= λ terms. list_at counts u32_at terms >>= λ facts. empty_at facts.1 >>= λ chunks. close_at chunks >>= λ rest. Some (record { facts = facts.0 }, rest)) x e in
    let b = bind_some (empty_at a.0) (λ terms. list_at counts u32_at terms >>= λ facts. empty_at facts.1 >>= λ chunks. close_at chunks >>= λ rest. Some (record { facts = facts.0 }, rest)) x a.2 in
    let c = bind_some (list_at counts u32_at b.0) (λ facts. empty_at facts.1 >>= λ chunks. close_at chunks >>= λ rest. Some (record { facts = facts.0 }, rest)) x b.2 in
    let d = bind_some (empty_at c.0.1) (λ chunks. close_at chunks >>= λ rest. Some (record { facts = c.0.0 }, rest)) x c.2 in
    let f = bind_some (close_at d.0) (λ rest. Some (record { facts = c.0.0 }, rest)) x d.2 in
    let made : With = record { facts = c.0.0 } in
    let l = list_takes counts u32_at natural IsNatural reads_numbers b.0 c.0 c.1 in
    let whole : parts ≡ with_parts made ++ f.0 =
    head_takes (codes "with") parts a.0 a.1 ∙ ap (λ (r : S). Open ∷ Word (codes "with") ∷ r) (empty_takes a.0 b.0 b.1 ∙ ap (λ (r : S). Open ∷ Close ∷ r) (l.0 ∙ ap (λ (r : S). Open ∷ (flat_map natural c.0.0 ++ (Close ∷ r))) (empty_takes c.0.1 d.0 d.1 ∙ ap (λ (r : S). Open ∷ Close ∷ r) (close_takes d.0 f.0 f.1)))) ∙ sym (with_spelled made f.0) in
    subst (λ (y : With × S). (parts ≡ with_parts y.0 ++ y.1) × IsNoteWith y.0) (some_is (made, f.0) x f.2) (whole, l.1)

with_again : (w : With) (rest : S) → IsNoteWith w → with_at (with_parts w ++ rest) ≡ Some (w, rest)
unfolding with_at
with_again w rest good =
    let chunks : S = Open ∷ Close ∷ Close ∷ rest in
    let facts : S = Open ∷ (flat_map natural w.facts ++ (Close ∷ chunks)) in
    ap with_at (with_spelled w rest) ∙
    rw (head_again (codes "with") (Open ∷ Close ∷ facts), empty_again facts, list_again counts u32_at natural IsNatural reads_numbers w.facts chunks good refl, empty_again (Close ∷ rest)) refl

use_takes : (parts : S) (x : Use × S) → use_at parts ≡ Some x → (parts ≡ use_parts x.0 ++ x.1) × IsNoteUse x.0
unfolding use_at
use_takes parts x e = by (closes parts) e where
  by : (t : Bool) → cond t (Some (use_.Nothing, parts)) (with_at parts >>= λ w. Some (use_.With w.0, w.1)) ≡ Some x → (parts ≡ use_parts x.0 ++ x.1) × IsNoteUse x.0
  by true e = subst (λ (y : Use × S). (parts ≡ use_parts y.0 ++ y.1) × IsNoteUse y.0) (some_is (use_.Nothing, parts) x e) (refl, tt)
  by false e =
      let a = bind_some (with_at parts) (λ w. Some (use_.With w.0, w.1)) x e in
      let w = with_takes parts a.0 a.1 in
      subst (λ (y : Use × S). (parts ≡ use_parts y.0 ++ y.1) × IsNoteUse y.0) (some_is (use_.With a.0.0, a.0.1) x a.2) w

-- a use is read where the note ends behind it
use_again : (u : Use) (rest : S) → IsNoteUse u → use_at (use_parts u ++ (Close ∷ rest)) ≡ Some (u, Close ∷ rest)
unfolding use_at
use_again use_.Nothing rest good = refl
use_again (use_.With w) rest good = rw (with_again w (Close ∷ rest) good) refl

-- no move begins where a use or the end of a note stands
use_moves : (u : Use) (rest : S) → moves (use_parts u ++ (Close ∷ rest)) ≡ false
use_moves use_.Nothing rest = refl
use_moves (use_.With w) rest = refl

-- ---- notes of functions

note_spelled : (n : Note) (rest : S) → note_parts n ++ rest ≡ Open ∷ Word (codes "at") ∷ Number (pos n.at) ∷ (flat_map move_parts n.moves ++ (use_parts n.used ++ (Close ∷ rest)))
note_spelled n rest = simp append_assoc

note_takes : (parts : S) (x : Note × S) → note_at parts ≡ Some x → (parts ≡ note_parts x.0 ++ x.1) × IsNote x.0
unfolding note_at
note_takes parts x e =
    let a = bind_some (head_at (codes "at") parts) (λ inside. u32_at inside >>= λ at. many_at moves move_at at.1 >>= λ moves. use_at moves.1 >>= λ used. close_at used.1 >>= λ rest. Some (record { at = at.0; moves = moves.0; used = used.0 }, rest)) x e in
    let b = bind_some (u32_at a.0) (λ at. many_at moves move_at at.1 >>= λ moves. use_at moves.1 >>= λ used. close_at used.1 >>= λ rest. Some (record { at = at.0; moves = moves.0; used = used.0 }, rest)) x a.2 in
    let c = bind_some (many_at moves move_at b.0.1) (λ moves. use_at moves.1 >>= λ used. close_at used.1 >>= λ rest. Some (record { at = b.0.0; moves = moves.0; used = used.0 }, rest)) x b.2 in
    let d = bind_some (use_at c.0.1) (λ used. close_at used.1 >>= λ rest. Some (record { at = b.0.0; moves = c.0.0; used = used.0 }, rest)) x c.2 in
    let f = bind_some (close_at d.0.1) (λ rest. Some (record { at = b.0.0; moves = c.0.0; used = d.0.0 }, rest)) x d.2 in
    let made : Note = record { at = b.0.0; moves = c.0.0; used = d.0.0 } in
    let n = u32_takes a.0 b.0 b.1 in
    let m = many_takes moves move_at move_parts IsNoteMove reads_moves b.0.1 c.0 c.1 in
    let u = use_takes c.0.1 d.0 d.1 in
    let whole : parts ≡ note_parts made ++ f.0 =
    head_takes (codes "at") parts a.0 a.1 ∙ ap (λ (r : S). Open ∷ Word (codes "at") ∷ r) (n.0 ∙ ap (λ (r : S). Number (pos b.0.0) ∷ r) (m.0 ∙ ap (λ (r : S). flat_map move_parts c.0.0 ++ r) (u.0 ∙ ap (λ (r : S). use_parts d.0.0 ++ r) (close_takes d.0.1 f.0 f.1)))) ∙ sym (note_spelled made f.0) in
    subst (λ (y : Note × S). (parts ≡ note_parts y.0 ++ y.1) × IsNote y.0) (some_is (made, f.0) x f.2) (whole, record { at = n.1; moves = m.1; used = u.1 })

note_again : (n : Note) (rest : S) → IsNote n → note_at (note_parts n ++ rest) ≡ Some (n, rest)
unfolding note_at
note_again n rest good =
    let used : S = use_parts n.used ++ (Close ∷ rest) in
    let others : S = flat_map move_parts n.moves ++ used in
    ap note_at (note_spelled n rest) ∙
    rw (head_again (codes "at") (Number (pos n.at) ∷ others), u32_again n.at others good.at, many_again moves move_at move_parts IsNoteMove reads_moves n.moves used good.moves (use_moves n.used rest), use_again n.used rest good.used) refl

pub reads_notes : ReadsParts opens note_at note_parts IsNote
reads_notes = record { takes = note_takes; again = note_again; begun = λ n rest. refl; some = λ n. omega arith }

func_spelled : (f : FuncNotes) (rest : S) → func_parts f ++ rest ≡ Open ∷ Word (codes "func") ∷ Number (pos f.func) ∷ (flat_map note_parts f.notes ++ (Close ∷ rest))
func_spelled f rest = simp append_assoc

func_takes : (parts : S) (x : FuncNotes × S) → func_at parts ≡ Some x → (parts ≡ func_parts x.0 ++ x.1) × IsFuncNotes x.0
unfolding func_at
func_takes parts x e =
    let a = bind_some (head_at (codes "func") parts) (λ inside. u32_at inside >>= λ func. many_at opens note_at func.1 >>= λ notes. close_at notes.1 >>= λ rest. Some (record { func = func.0; notes = notes.0 }, rest)) x e in
    let b = bind_some (u32_at a.0) (λ func. many_at opens note_at func.1 >>= λ notes. close_at notes.1 >>= λ rest. Some (record { func = func.0; notes = notes.0 }, rest)) x a.2 in
    let c = bind_some (many_at opens note_at b.0.1) (λ notes. close_at notes.1 >>= λ rest. Some (record { func = b.0.0; notes = notes.0 }, rest)) x b.2 in
    let d = bind_some (close_at c.0.1) (λ rest. Some (record { func = b.0.0; notes = c.0.0 }, rest)) x c.2 in
    let made : FuncNotes = record { func = b.0.0; notes = c.0.0 } in
    let n = u32_takes a.0 b.0 b.1 in
    let m = many_takes opens note_at note_parts IsNote reads_notes b.0.1 c.0 c.1 in
    let whole : parts ≡ func_parts made ++ d.0 =
    head_takes (codes "func") parts a.0 a.1 ∙ ap (λ (r : S). Open ∷ Word (codes "func") ∷ r) (n.0 ∙ ap (λ (r : S). Number (pos b.0.0) ∷ r) (m.0 ∙ ap (λ (r : S). flat_map note_parts c.0.0 ++ r) (close_takes c.0.1 d.0 d.1))) ∙ sym (func_spelled made d.0) in
    subst (λ (y : FuncNotes × S). (parts ≡ func_parts y.0 ++ y.1) × IsFuncNotes y.0) (some_is (made, d.0) x d.2) (whole, record { func = n.1; notes = m.1 })

func_again : (f : FuncNotes) (rest : S) → IsFuncNotes f → func_at (func_parts f ++ rest) ≡ Some (f, rest)
unfolding func_at
func_again f rest good =
    let others : S = flat_map note_parts f.notes ++ (Close ∷ rest) in
    ap func_at (func_spelled f rest) ∙
    rw (head_again (codes "func") (Number (pos f.func) ∷ others), u32_again f.func others good.func, many_again opens note_at note_parts IsNote reads_notes f.notes (Close ∷ rest) good.notes refl) refl

pub reads_funcs : ReadsParts opens func_at func_parts IsFuncNotes
reads_funcs = record { takes = func_takes; again = func_again; begun = λ f rest. refl; some = λ f. omega arith }

-- ---- all of the notes

only_takes : (n : ℕ) (parts rest : S) → only_at n parts ≡ Some rest → parts ≡ Number (pos n) ∷ rest
only_takes n parts rest e =
    let a = bind_some (u32_at parts) (λ k. cond (eqb k.0 n) (Some k.1) None) rest e in
    let p = passed (eqb a.0.0 n) a.0.1 rest a.2 in
    let same : a.0.0 ≡ n = eqb-true _ _ p.0 in
    (u32_takes parts a.0 a.1).0 ∙ ap (λ k. Number (pos k) ∷ a.0.1) same ∙ ap (λ (r : S). Number (pos n) ∷ r) p.1

only_again : (n : ℕ) (rest : S) → IsNatural n → only_at n (Number (pos n) ∷ rest) ≡ Some rest
only_again n rest good = rw (u32_again n rest good, eq-eqb n n refl) refl

assertion_spelled : (a : Assertion) (rest : S) → assertion_parts a ++ rest ≡ Open ∷ Word (codes "assert") ∷ Number (pos 0) ∷ Open ∷ (flat_map formula_parts a.formulas ++ (Close ∷ Open ∷ Close ∷ Close ∷ rest))
assertion_spelled a rest = simp append_assoc

assertion_takes : (parts : S) (x : Assertion × S) → assertion_at parts ≡ Some x → (parts ≡ assertion_parts x.0 ++ x.1) × AllByRecursion IsNoteFormula x.0.formulas
unfolding assertion_at
assertion_takes parts x e =
    let a = bind_some (head_at (codes "assert") parts) (λ inside. only_at 0 inside >>= λ own. list_at opens formula_at own >>= λ formulas. empty_at formulas.1 >>= λ chunks. close_at chunks >>= λ rest. Some (record { formulas = formulas.0 }, rest)) x e in
    let b = bind_some (only_at 0 a.0) (λ own. list_at opens formula_at own >>= λ formulas. empty_at formulas.1 >>= λ chunks. close_at chunks >>= λ rest. Some (record { formulas = formulas.0 }, rest)) x a.2 in
    let c = bind_some (list_at opens formula_at b.0) (λ formulas. empty_at formulas.1 >>= λ chunks. close_at chunks >>= λ rest. Some (record { formulas = formulas.0 }, rest)) x b.2 in
    let d = bind_some (empty_at c.0.1) (λ chunks. close_at chunks >>= λ rest. Some (record { formulas = c.0.0 }, rest)) x c.2 in
    let f = bind_some (close_at d.0) (λ rest. Some (record { formulas = c.0.0 }, rest)) x d.2 in
    let made : Assertion = record { formulas = c.0.0 } in
    let l = list_takes opens formula_at formula_parts IsNoteFormula reads_formulas b.0 c.0 c.1 in
    let whole : parts ≡ assertion_parts made ++ f.0 =
    head_takes (codes "assert") parts a.0 a.1 ∙ ap (λ (r : S). Open ∷ Word (codes "assert") ∷ r) (only_takes 0 a.0 b.0 b.1 ∙ ap (λ (r : S). Number (pos 0) ∷ r) (l.0 ∙ ap (λ (r : S). Open ∷ (flat_map formula_parts c.0.0 ++ (Close ∷ r))) (empty_takes c.0.1 d.0 d.1 ∙ ap (λ (r : S). Open ∷ Close ∷ r) (close_takes d.0 f.0 f.1)))) ∙ sym (assertion_spelled made f.0) in
    subst (λ (y : Assertion × S). (parts ≡ assertion_parts y.0 ++ y.1) × AllByRecursion IsNoteFormula y.0.formulas) (some_is (made, f.0) x f.2) (whole, l.1)

assertion_again : (a : Assertion) (rest : S) → AllByRecursion IsNoteFormula a.formulas → assertion_at (assertion_parts a ++ rest) ≡ Some (a, rest)
unfolding assertion_at
assertion_again a rest good =
    let chunks : S = Open ∷ Close ∷ Close ∷ rest in
    let formulas : S = Open ∷ (flat_map formula_parts a.formulas ++ (Close ∷ chunks)) in
    ap assertion_at (assertion_spelled a rest) ∙
    rw (head_again (codes "assert") (Number (pos 0) ∷ formulas), only_again 0 formulas (omega arith), list_again opens formula_at formula_parts IsNoteFormula reads_formulas a.formulas chunks good refl, empty_again (Close ∷ rest)) refl

initial_spelled : (i : Initial) (rest : S) → initial_parts i ++ rest ≡ Open ∷ Word (codes "initial") ∷ Open ∷ Close ∷ Open ∷ (flat_map move_parts i.moves ++ (Close ∷ (with_parts i.with ++ (Close ∷ rest))))
initial_spelled i rest = simp append_assoc

initial_takes : (parts : S) (x : Initial × S) → initial_at parts ≡ Some x → (parts ≡ initial_parts x.0 ++ x.1) × AllByRecursion IsNoteMove x.0.moves × IsNoteWith x.0.with
unfolding initial_at
initial_takes parts x e =
    let a = bind_some (head_at (codes "initial") parts) (λ inside. empty_at inside >>= λ chunks. list_at moves move_at chunks >>= λ moves. with_at moves.1 >>= λ with. close_at with.1 >>= λ rest. Some (record { moves = moves.0; with = with.0 }, rest)) x e in
    let b = bind_some (empty_at a.0) (λ chunks. list_at moves move_at chunks >>= λ moves. with_at moves.1 >>= λ with. close_at with.1 >>= λ rest. Some (record { moves = moves.0; with = with.0 }, rest)) x a.2 in
    let c = bind_some (list_at moves move_at b.0) (λ moves. with_at moves.1 >>= λ with. close_at with.1 >>= λ rest. Some (record { moves = moves.0; with = with.0 }, rest)) x b.2 in
    let d = bind_some (with_at c.0.1) (λ with. close_at with.1 >>= λ rest. Some (record { moves = c.0.0; with = with.0 }, rest)) x c.2 in
    let f = bind_some (close_at d.0.1) (λ rest. Some (record { moves = c.0.0; with = d.0.0 }, rest)) x d.2 in
    let made : Initial = record { moves = c.0.0; with = d.0.0 } in
    let l = list_takes moves move_at move_parts IsNoteMove reads_moves b.0 c.0 c.1 in
    let w = with_takes c.0.1 d.0 d.1 in
    let whole : parts ≡ initial_parts made ++ f.0 =
    head_takes (codes "initial") parts a.0 a.1 ∙ ap (λ (r : S). Open ∷ Word (codes "initial") ∷ r) (empty_takes a.0 b.0 b.1 ∙ ap (λ (r : S). Open ∷ Close ∷ r) (l.0 ∙ ap (λ (r : S). Open ∷ (flat_map move_parts c.0.0 ++ (Close ∷ r))) (w.0 ∙ ap (λ (r : S). with_parts d.0.0 ++ r) (close_takes d.0.1 f.0 f.1)))) ∙ sym (initial_spelled made f.0) in
    subst (λ (y : Initial × S). (parts ≡ initial_parts y.0 ++ y.1) × AllByRecursion IsNoteMove y.0.moves × IsNoteWith y.0.with) (some_is (made, f.0) x f.2) (whole, l.1, w.1)

initial_again : (i : Initial) (rest : S) → AllByRecursion IsNoteMove i.moves → IsNoteWith i.with → initial_at (initial_parts i ++ rest) ≡ Some (i, rest)
unfolding initial_at
initial_again i rest good fine =
    let used : S = with_parts i.with ++ (Close ∷ rest) in
    let ms : S = Open ∷ (flat_map move_parts i.moves ++ (Close ∷ used)) in
    ap initial_at (initial_spelled i rest) ∙
    rw (head_again (codes "initial") (Open ∷ Close ∷ ms), empty_again ms, list_again moves move_at move_parts IsNoteMove reads_moves i.moves used good refl, with_again i.with (Close ∷ rest) fine) refl

done_takes : (a : Notes) (parts : S) (b : Notes) → done a parts ≡ Some b → (parts ≡ []) × (a ≡ b)
done_takes a [] b e = (refl, some_is a b e)
done_takes a (p ∷ parts) b e = absurd cc

-- notes without their limits
pub record AreNotes (a : Notes) : Type 0 where
  pub formulas : AllByRecursion IsNoteFormula a.invariant.formulas
  pub moves : AllByRecursion IsNoteMove a.initial.moves
  pub with : IsNoteWith a.initial.with
  pub funcs : AllByRecursion IsFuncNotes a.funcs

notes_spelled : (a : Notes) → notes_parts a ≡ Open ∷ Word (codes "notes") ∷ Number (pos 1) ∷ (assertion_parts a.invariant ++ (initial_parts a.initial ++ (flat_map func_parts a.funcs ++ (Close ∷ []))))
notes_spelled a = simp append_assoc

notes_take : (parts : S) (x : Notes) → notes_at parts ≡ Some x → (parts ≡ notes_parts x) × AreNotes x
unfolding notes_at
notes_take parts x e =
    let a = bind_some (head_at (codes "notes") parts) (λ inside. only_at 1 inside >>= λ version. assertion_at version >>= λ invariant. initial_at invariant.1 >>= λ initial. many_at opens func_at initial.1 >>= λ funcs. close_at funcs.1 >>= λ rest. done (record { invariant = invariant.0; initial = initial.0; funcs = funcs.0 }) rest) x e in
    let b = bind_some (only_at 1 a.0) (λ version. assertion_at version >>= λ invariant. initial_at invariant.1 >>= λ initial. many_at opens func_at initial.1 >>= λ funcs. close_at funcs.1 >>= λ rest. done (record { invariant = invariant.0; initial = initial.0; funcs = funcs.0 }) rest) x a.2 in
    let c = bind_some (assertion_at b.0) (λ invariant. initial_at invariant.1 >>= λ initial. many_at opens func_at initial.1 >>= λ funcs. close_at funcs.1 >>= λ rest. done (record { invariant = invariant.0; initial = initial.0; funcs = funcs.0 }) rest) x b.2 in
    let d = bind_some (initial_at c.0.1) (λ initial. many_at opens func_at initial.1 >>= λ funcs. close_at funcs.1 >>= λ rest. done (record { invariant = c.0.0; initial = initial.0; funcs = funcs.0 }) rest) x c.2 in
    let f = bind_some (many_at opens func_at d.0.1) (λ funcs. close_at funcs.1 >>= λ rest. done (record { invariant = c.0.0; initial = d.0.0; funcs = funcs.0 }) rest) x d.2 in
    let g = bind_some (close_at f.0.1) (λ rest. done (record { invariant = c.0.0; initial = d.0.0; funcs = f.0.0 }) rest) x f.2 in
    let made : Notes = record { invariant = c.0.0; initial = d.0.0; funcs = f.0.0 } in
    let z = done_takes made g.0 x g.2 in
    let v = assertion_takes b.0 c.0 c.1 in
    let i = initial_takes c.0.1 d.0 d.1 in
    let m = many_takes opens func_at func_parts IsFuncNotes reads_funcs d.0.1 f.0 f.1 in
    let whole : parts ≡ notes_parts made =
    head_takes (codes "notes") parts a.0 a.1 ∙ ap (λ (r : S). Open ∷ Word (codes "notes") ∷ r) (only_takes 1 a.0 b.0 b.1 ∙ ap (λ (r : S). Number (pos 1) ∷ r) (v.0 ∙ ap (λ (r : S). assertion_parts c.0.0 ++ r) (i.0 ∙ ap (λ (r : S). initial_parts d.0.0 ++ r) (m.0 ∙ ap (λ (r : S). flat_map func_parts f.0.0 ++ r) (close_takes f.0.1 g.0 g.1 ∙ ap (λ (r : S). Close ∷ r) z.0))))) ∙ sym (notes_spelled made) in
    subst (λ (y : Notes). (parts ≡ notes_parts y) × AreNotes y) z.1 (whole, record { formulas = v.1; moves = i.1; with = i.2; funcs = m.1 })

notes_again : (a : Notes) → AreNotes a → notes_at (notes_parts a) ≡ Some a
unfolding notes_at
notes_again a good =
    let funcs : S = flat_map func_parts a.funcs ++ (Close ∷ []) in
    let others : S = initial_parts a.initial ++ funcs in
    let invariant : S = assertion_parts a.invariant ++ others in
    ap notes_at (notes_spelled a) ∙
    rw (head_again (codes "notes") (Number (pos 1) ∷ invariant), only_again 1 invariant (omega arith), assertion_again a.invariant others good.formulas, initial_again a.initial funcs good.moves good.with, many_again opens func_at func_parts IsFuncNotes reads_funcs a.funcs (Close ∷ []) good.funcs refl) refl

-- ---- limits

abbrev Left : Option ℕ → ℕ → ℕ → Type 0
Left None left all = left < all
Left (Some rest) left all = rest + all ≡ left

left_notes : (left : ℕ) (notes : List Note) → Left (left_after left notes) left (moves_in notes)
unfolding left_after
left_notes left [] = omega arith
left_notes left (n ∷ ns) = subst (Left (left_after left (n ∷ ns)) left) (sym (sum_by-cons (λ note. length note.moves) n ns)) (by (ltb left (length n.moves)) (ltb-true left (length n.moves)) (ltb-false left (length n.moves)) (left_after (left - length n.moves) ns) (left_notes (left - length n.moves) ns)) where
  by : (t : Bool) → (t ≡ true → left < length n.moves) → (t ≡ false → length n.moves ≤ left) → (r : Option ℕ) → Left r (left - length n.moves) (moves_in ns) → Left (cond t None r) left (length n.moves + moves_in ns)
  by true lt le r h = omega (arith, lt refl)
  by false lt le None h = omega (arith, le refl, h)
  by false lt le (Some rest) h = omega (arith, le refl, h)

abbrev func_moves : List FuncNotes → ℕ
func_moves funcs = sum_by (λ func. moves_in func.notes) funcs

left_funcs : (left : ℕ) (funcs : List FuncNotes) → Left (left_after_all left funcs) left (func_moves funcs)
unfolding left_after_all
left_funcs left [] = omega arith
left_funcs left (f ∷ fs) = subst (Left (left_after_all left (f ∷ fs)) left) (sym (sum_by-cons (λ func. moves_in func.notes) f fs)) (by (left_after left f.notes) (left_notes left f.notes) (λ rest. left_funcs rest fs)) where
  then : (rest : ℕ) (r : Option ℕ) → rest + moves_in f.notes ≡ left → Left r rest (func_moves fs) → Left r left (moves_in f.notes + func_moves fs)
  then rest None e h = omega (arith, e, h)
  then rest (Some n) e h = omega (arith, e, h)

  by : (r : Option ℕ) → Left r left (moves_in f.notes) → ((rest : ℕ) → Left (left_after_all rest fs) rest (func_moves fs)) → Left (r >>= λ rest. left_after_all rest fs) left (moves_in f.notes + func_moves fs)
  by None h k = omega (arith, h)
  by (Some rest) h k = then rest (left_after_all rest fs) h (k rest)

few_from : (a : Notes) → has_few_moves a ≡ true → moves_of a ≤ 1000
few_from a e = by (ltb 1000 (length a.initial.moves)) (ltb-false 1000 (length a.initial.moves)) (left_after_all (1000 - length a.initial.moves) a.funcs) (left_funcs (1000 - length a.initial.moves) a.funcs) e where
  by : (t : Bool) → (t ≡ false → length a.initial.moves ≤ 1000) → (r : Option ℕ) → Left r (1000 - length a.initial.moves) (func_moves a.funcs) → cond t false (is_left r) ≡ true → moves_of a ≤ 1000
  by true le r h e = absurd cc
  by false le None h e = absurd cc
  by false le (Some n) h e = omega (arith, le refl, h)

few_test : (a : Notes) → moves_of a ≤ 1000 → has_few_moves a ≡ true
few_test a few = by (ltb 1000 (length a.initial.moves)) (ltb-true 1000 (length a.initial.moves)) (left_after_all (1000 - length a.initial.moves) a.funcs) (left_funcs (1000 - length a.initial.moves) a.funcs) where
  by : (t : Bool) → (t ≡ true → 1000 < length a.initial.moves) → (r : Option ℕ) → Left r (1000 - length a.initial.moves) (func_moves a.funcs) → cond t false (is_left r) ≡ true
  by true lt r h = absurd (omega (arith, lt refl, few))
  by false lt None h = absurd (omega (arith, few, h))
  by false lt (Some n) h = refl

both : (a b : Bool) → (a && b) ≡ true → (a ≡ true) × (b ≡ true)
both true b e = (refl, e)
both false b e = absurd cc

pub found : (text : List ℕ) (a : Notes) → first_notes text ≡ Some a → IsFirstText text a
unfolding first_notes
found text a e =
    let b = bind_some (notes_at (lexemes text)) (λ a. cond (leb (length a.invariant.formulas) 1000 && has_few_moves a) (Some a) None) a e in
    let p = passed (leb (length b.0.invariant.formulas) 1000 && has_few_moves b.0) b.0 a b.2 in
    let q = both (leb (length b.0.invariant.formulas) 1000) (has_few_moves b.0) p.0 in
    let t = notes_take (lexemes text) b.0 b.1 in
    subst (IsFirstText text) p.1
    (record { spelled = t.0; form = record { formulas = t.1.formulas; moves = t.1.moves; with = t.1.with; funcs = t.1.funcs; few_formulas = leb-true _ _ q.0; few_moves = few_from b.0 q.1 } })

pub found_again : (text : List ℕ) (a : Notes) → IsFirstText text a → first_notes text ≡ Some a
unfolding first_notes
found_again text a h =
    let read : notes_at (lexemes text) ≡ Some a = ap notes_at h.spelled ∙ notes_again a (record { formulas = h.form.formulas; moves = h.form.moves; with = h.form.with; funcs = h.form.funcs }) in
    rw (read, le-leb (length a.invariant.formulas) 1000 h.form.few_formulas, few_test a h.form.few_moves) refl

pub is_found : (text : List ℕ) (r : Result Notes ReadError) → Gives (λ a. a) r (first_notes text) → IfOk r (IsFirstText text)
is_found text (Ok a) given = found text a given
is_found text (Err e) given = tt
