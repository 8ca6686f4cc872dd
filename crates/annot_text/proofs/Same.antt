-- Takes, uses, notes, functions, lemmas and whole notes are read from their parts as the grammar says.
use Rattle.std.proofs.Common.{◌≡◌, ℕ, Bool, true, false, cond, List, [], ◌∷◌, Option, Some, None, Result, Ok, Err, IfOk, refl, sym, ap, ◌∙◌, subst}
use Rattle.std.specs.Prelude.{codes}
use Rattle.std.specs.Option.{option_map}
use Rattle.sexp_text.specs.declared.fault.TextFault.{TextFault}
use Rattle.sexp_text.specs.declared.fault.TextWord.TheVariants as fault
use Rattle.sexp_text.specs.Reading.{◌>>=◌, refused, Gives}
use Rattle.term_trees.specs.declared.term.Formula.{Formula}
use Rattle.bitvector_rules.specs.declared.step.Step.{Step}
use Rattle.notes.specs.declared.chunk.Chunk.{Chunk}
use Rattle.notes.specs.declared.assertion.Assertion.{Assertion}
use Rattle.notes.specs.declared.assertion.Contract.{Contract}
use Rattle.notes.specs.declared.moves.Move.{Move}
use Rattle.notes.specs.declared.uses.With.{With}
use Rattle.notes.specs.declared.uses.Take.{Take}
use Rattle.notes.specs.declared.uses.Use.{Use}
use Rattle.notes.specs.declared.uses.Use.TheVariants as used
use Rattle.notes.specs.declared.outline.FuncNotes.{FuncNotes}
use Rattle.notes.specs.declared.outline.Initial.{Initial}
use Rattle.notes.specs.declared.outline.Lemma.{Lemma}
use Rattle.notes.specs.declared.outline.Note.{Note}
use Rattle.notes.specs.declared.outline.Notes.{Notes}
use Rattle.notes_grammar.specs.declared.head.Head.{Head}
use Rattle.notes_grammar.specs.declared.head.Head.TheVariants as head
use Rattle.notes_grammar.specs.Parts.{Part, Parts, Nil, Cons, place}
use Rattle.notes_grammar.specs.Shapes.{Setting, is_among}
use Rattle.notes_grammar.specs.Reading.{Headed, headed, tagged, field, list_of, all_of, ended, small, assertion_in, with_in, move_at, move_in, chunk_in, take_list, take_in, one_small, both_list, loop_list, skip_list, use_at, use_or, note_list, note_in, side_in, contract_in, contract_first, function_in, after_list, initial_in, formula_in, steps_in, new_name, name_in, lemma_in, lemmas_of, notes_rest}
use Rattle.notes_grammar.proofs.Exactness.{bound}
use Rattle.notes_moves.proofs.Endings.{one_made, two_made}
use Rattle.notes_moves.proofs.Alike.{alike}
use Rattle.annot_text.specs.declared.functions.Noted.TheVariants as noted
use Rattle.annot_text.specs.declared.uses.UseKind.{UseKind}
use Rattle.annot_text.specs.words.Uses.{take_parts, take_read, use_kind, both_read, loop_read, skip_read, use_formed}
use Rattle.annot_text.specs.words.Functions.{use_or_move, noted_headed, noted_then, note_parts, note_read, side_read, contract_read, function_read, initial_read}
use Rattle.annot_text.specs.words.Lemmas.{Claim, lemma_read}
use Rattle.annot_text.specs.words.Wholes.{Front, rest_read, with_lemmas, setting_of, behind_version}

-- ---- takes and uses

take_list_same : (c : Setting) (close : ℕ) (ps : Parts) → take_list c close ps ≡ take_parts c close ps
unfolding take_list
take_list_same c close ps = two_made made (list_of (move_in c)) (with_in c.later) close ps
  where
    made : List Move → With → Take
    made ms w = record { moves = ms; with = w }

pub take_is : (c : Setting) (p : Part) → take_in c p ≡ take_read c p
unfolding take_in
take_is c p = alike (tagged (codes "take") p) _ _ (λ l. take_list_same c l.1 l.0)

both_same : (later : Bool) (close : ℕ) (ps : Parts) → both_list later close ps ≡ both_read later close ps
unfolding both_list
both_same later close ps = two_made (λ v w. used.Both v w) (with_in later) (with_in later) close ps

loop_same : (later : Bool) (close : ℕ) (ps : Parts) → loop_list later close ps ≡ loop_read later close ps
unfolding loop_list
loop_same later close ps = two_made (λ a w. used.Loop a w) (assertion_in later) (with_in later) close ps

skip_same : (c : Setting) (close : ℕ) (ps : Parts) → skip_list c close ps ≡ skip_read c close ps
unfolding skip_list
skip_same c close ps = two_made (λ a t. used.Skip a t) (assertion_in c.later) (take_in c) close ps

use_same : (c : Setting) (h : Headed) (k : Head) → use_at c h k ≡ option_map (λ kind. use_formed c kind h) (use_kind k)
unfolding use_at one_small
use_same c h head.With = refl
use_same c h head.Cell = refl
use_same c h head.Safe = refl
use_same c h head.Trap = ap Some (one_made (λ w. used.Trap w) (with_in c.later) h.close h.rest)
use_same c h head.Take = ap (λ r. Some (r >>= λ t. Ok (used.Take t))) (take_list_same c h.close h.rest)
use_same c h head.Table = refl
use_same c h head.Both = ap Some (both_same c.later h.close h.rest)
use_same c h head.Label = ap Some (one_made (λ a. used.Label a) (assertion_in c.later) h.close h.rest)
use_same c h head.Loop = ap Some (loop_same c.later h.close h.rest)
use_same c h head.Skip = ap Some (skip_same c h.close h.rest)
use_same c h k = refl

-- ---- notes of instructions

abbrev Read : Type 0
Read = List Move × Use

with_move : Move → Read → Read
with_move m more = (m ∷ more.0, more.1)

part_same : (c : Setting) (ps : Parts) (h : Headed) → note_list c ps ≡ note_parts c ps →
    use_or (use_at c h h.head) (λ u. ended ([], u) ps) (move_at c h h.head >>= λ m. note_list c ps >>= λ more. Ok (m ∷ more.0, more.1))
    ≡ (noted_headed c h >>= λ n. noted_then n ps (note_parts c ps))
part_same c ps h same =
    ap (λ o. use_or o (λ u. ended ([], u) ps) (move_at c h h.head >>= λ m. note_list c ps >>= λ more. Ok (m ∷ more.0, more.1))) (use_same c h h.head)
    ∙ by_kind (use_kind h.head)
  where
    by_use : (r : Result Use TextFault) → (r >>= λ u. ended ([], u) ps) ≡ ((r >>= λ u. Ok (noted.Use u)) >>= λ n. noted_then n ps (note_parts c ps))
    by_use (Ok u) = refl
    by_use (Err e) = refl

    by_move : (r : Result Move TextFault) → (r >>= λ m. note_list c ps >>= λ more. Ok (m ∷ more.0, more.1)) ≡ ((r >>= λ m. Ok (noted.Move m)) >>= λ n. noted_then n ps (note_parts c ps))
    by_move (Ok m) = ap (λ s. s >>= λ more. Ok (m ∷ more.0, more.1)) same
    by_move (Err e) = refl

    by_kind : (o : Option UseKind) →
        use_or (option_map (λ kind. use_formed c kind h) o) (λ u. ended ([], u) ps) (move_at c h h.head >>= λ m. note_list c ps >>= λ more. Ok (m ∷ more.0, more.1))
        ≡ (use_or_move c h o >>= λ n. noted_then n ps (note_parts c ps))
    by_kind (Some k) = by_use (use_formed c k h)
    by_kind None = by_move (move_at c h h.head)

pub note_list_same : (c : Setting) (ps : Parts) → note_list c ps ≡ note_parts c ps
note_list_same c Nil = refl
note_list_same c (Cons p ps) = by (note_list_same c ps) (headed p)
  where
    by : note_list c ps ≡ note_parts c ps → (r : Result Headed TextFault) →
        (r >>= λ h. use_or (use_at c h h.head) (λ u. ended ([], u) ps) (move_at c h h.head >>= λ m. note_list c ps >>= λ more. Ok (m ∷ more.0, more.1)))
        ≡ ((r >>= λ h. noted_headed c h) >>= λ n. noted_then n ps (note_parts c ps))
    by same (Ok h) = part_same c ps h same
    by same (Err e) = refl

pub note_is : (c : Setting) (p : Part) → note_in c p ≡ note_read c p
unfolding note_in
note_is c p =
    alike (tagged (codes "at") p) _ _ (λ l. alike (field small l.1 l.0) _ _ (λ i. ap (λ r. r >>= λ x. Ok (made i.0 x)) (note_list_same c i.1)))
  where
    made : ℕ → Read → Note
    made i x = record { at = i; moves = x.0; used = x.1 }

-- ---- functions

pub side_is : (tag : List ℕ) (later : Bool) (p : Part) → side_in tag later p ≡ side_read tag later p
unfolding side_in
side_is tag later p = refl

pub contract_is : (later : Bool) (p : Part) → contract_in later p ≡ contract_read later p
unfolding contract_in
contract_is later p = alike (tagged (codes "contract") p) _ _ (λ l. two_made made (side_in (codes "pre") later) (side_in (codes "post") later) l.1 l.0)
  where
    made : Assertion → Assertion → Contract
    made a b = record { pre = a; post = b }

pub function_is : (c : Setting) (p : Part) → function_in c p ≡ function_read c p
unfolding function_in
function_is c p = alike (tagged (codes "func") p) _ _ (λ l. alike (field small l.1 l.0) _ _ (λ k. by k.0 (contract_first c.later k.1)))
  where
    pair : Option Contract → List Note → Option Contract × List Note
    pair o ns = (o, ns)

    made : ℕ → Option Contract → List Note → FuncNotes
    made k o ns = record { func = k; contract = o; notes = ns }

    by_notes : (k : ℕ) (o : Option Contract) (r : Result (List Note) TextFault) → (r >>= λ ns. Ok (made k o ns)) ≡ ((r >>= λ ns. Ok (pair o ns)) >>= λ x. Ok (made k x.0 x.1))
    by_notes k o (Ok ns) = refl
    by_notes k o (Err e) = refl

    by : (k : ℕ) (r : Result (Option Contract × Parts) TextFault) →
        (r >>= λ r. all_of (note_in c) r.1 >>= λ ns. Ok (made k r.0 ns)) ≡ ((r >>= λ r. all_of (note_in c) r.1 >>= λ ns. Ok (pair r.0 ns)) >>= λ x. Ok (made k x.0 x.1))
    by k (Ok r) = by_notes k r.0 (all_of (note_in c) r.1)
    by k (Err e) = refl

pub initial_is : (c : Setting) (p : Part) → initial_in c p ≡ initial_read c p
unfolding initial_in
initial_is c p = alike (tagged (codes "initial") p) _ _ (λ l. by_chunks l.1 (field (list_of (chunk_in c.later)) l.1 l.0))
  where
    triple : List Chunk → List Move → With → List Chunk × List Move × With
    triple cs ms w = (cs, ms, w)

    fields : List Chunk → List Move → With → Parts → List Chunk × List Move × With × Parts
    fields cs ms w ps = (cs, ms, w, ps)

    pair : List Chunk × List Move × With → Option Take → (List Chunk × List Move × With) × Option Take
    pair x t = (x, t)

    made : List Chunk × List Move × With → Option Take → Initial
    made x t = record { chunks = x.0; moves = x.1; with = x.2; after = t }

    joins : List Chunk × List Move × With × Parts → Result ((List Chunk × List Move × With) × Option Take) TextFault
    joins x = after_list c x.3 >>= λ t. Ok (pair (triple x.0 x.1 x.2) t)

    by_take : (x : List Chunk × List Move × With) (r : Result (Option Take) TextFault) → (r >>= λ t. Ok (made x t)) ≡ ((r >>= λ t. Ok (pair x t)) >>= λ x. Ok (made x.0 x.1))
    by_take x (Ok t) = refl
    by_take x (Err e) = refl

    by_with : (cs : List Chunk) (ms : List Move) (r : Result (With × Parts) TextFault) →
        (r >>= λ w. after_list c w.1 >>= λ t. Ok (made (triple cs ms w.0) t)) ≡ (((r >>= λ w. Ok (fields cs ms w.0 w.1)) >>= joins) >>= λ x. Ok (made x.0 x.1))
    by_with cs ms (Ok w) = by_take (triple cs ms w.0) (after_list c w.1)
    by_with cs ms (Err e) = refl

    by_moves : (close : ℕ) (cs : List Chunk) (r : Result (List Move × Parts) TextFault) →
        (r >>= λ ms. field (with_in c.later) close ms.1 >>= λ w. after_list c w.1 >>= λ t. Ok (made (triple cs ms.0 w.0) t))
        ≡ (((r >>= λ ms. field (with_in c.later) close ms.1 >>= λ w. Ok (fields cs ms.0 w.0 w.1)) >>= joins) >>= λ x. Ok (made x.0 x.1))
    by_moves close cs (Ok ms) = by_with cs ms.0 (field (with_in c.later) close ms.1)
    by_moves close cs (Err e) = refl

    by_chunks : (close : ℕ) (r : Result (List Chunk × Parts) TextFault) →
        (r >>= λ cs. field (list_of (move_in c)) close cs.1 >>= λ ms. field (with_in c.later) close ms.1 >>= λ w. after_list c w.1 >>= λ t. Ok (made (triple cs.0 ms.0 w.0) t))
        ≡ (((r >>= λ cs. field (list_of (move_in c)) close cs.1 >>= λ ms. field (with_in c.later) close ms.1 >>= λ w. Ok (fields cs.0 ms.0 w.0 w.1)) >>= joins) >>= λ x. Ok (made x.0 x.1))
    by_chunks close (Ok cs) = by_moves close cs.0 (field (list_of (move_in c)) close cs.1)
    by_chunks close (Err e) = refl

-- ---- lemmas

pub lemma_is : (c : Setting) (p : Part) → c.later ≡ true → lemma_in c.names p ≡ lemma_read c p
unfolding lemma_in
lemma_is c p e = here c.names p ∙ ap (λ b. lemma_read (setting b c.names) p) (sym e)
  where
    setting : Bool → List (List ℕ) → Setting
    setting b ns = record { later = b; names = ns }

    front : List ℕ → ℕ → List Formula → Formula → Claim
    front n k hs g = (n, k, hs, g)

    fields : List ℕ → ℕ → List Formula → Formula → Parts → List ℕ × ℕ × List Formula × Formula × Parts
    fields n k hs g ps = (n, k, hs, g, ps)

    pair : Claim → List Step → Claim × List Step
    pair x ss = (x, ss)

    made : Claim → List Step → Lemma
    made x ss = record { name = x.0; vars = x.1; hyps = x.2; goal = x.3; steps = ss }

    joins : List ℕ × ℕ × List Formula × Formula × Parts → Result (Claim × List Step) TextFault
    joins x = steps_in true x.4 0 >>= λ ss. Ok (pair (front x.0 x.1 x.2 x.3) ss)

    by_steps : (x : Claim) (r : Result (List Step) TextFault) → (r >>= λ ss. Ok (made x ss)) ≡ ((r >>= λ ss. Ok (pair x ss)) >>= λ x. Ok (made x.0 x.1))
    by_steps x (Ok ss) = refl
    by_steps x (Err e) = refl

    by_goal : (n : List ℕ) (k : ℕ) (hs : List Formula) (r : Result (Formula × Parts) TextFault) →
        (r >>= λ g. steps_in true g.1 0 >>= λ ss. Ok (made (front n k hs g.0) ss)) ≡ (((r >>= λ g. Ok (fields n k hs g.0 g.1)) >>= joins) >>= λ x. Ok (made x.0 x.1))
    by_goal n k hs (Ok g) = by_steps (front n k hs g.0) (steps_in true g.1 0)
    by_goal n k hs (Err e) = refl

    by_hyps : (close : ℕ) (n : List ℕ) (k : ℕ) (r : Result (List Formula × Parts) TextFault) →
        (r >>= λ hs. field (formula_in true) close hs.1 >>= λ g. steps_in true g.1 0 >>= λ ss. Ok (made (front n k hs.0 g.0) ss))
        ≡ (((r >>= λ hs. field (formula_in true) close hs.1 >>= λ g. Ok (fields n k hs.0 g.0 g.1)) >>= joins) >>= λ x. Ok (made x.0 x.1))
    by_hyps close n k (Ok hs) = by_goal n k hs.0 (field (formula_in true) close hs.1)
    by_hyps close n k (Err e) = refl

    by_vars : (close : ℕ) (n : List ℕ) (r : Result (ℕ × Parts) TextFault) →
        (r >>= λ k. field (list_of (formula_in true)) close k.1 >>= λ hs. field (formula_in true) close hs.1 >>= λ g. steps_in true g.1 0 >>= λ ss. Ok (made (front n k.0 hs.0 g.0) ss))
        ≡ (((r >>= λ k. field (list_of (formula_in true)) close k.1 >>= λ hs. field (formula_in true) close hs.1 >>= λ g. Ok (fields n k.0 hs.0 g.0 g.1)) >>= joins) >>= λ x. Ok (made x.0 x.1))
    by_vars close n (Ok k) = by_hyps close n k.0 (field (list_of (formula_in true)) close k.1)
    by_vars close n (Err e) = refl

    by_name : (close : ℕ) (r : Result (List ℕ × Parts) TextFault) →
        (r >>= λ n. field small close n.1 >>= λ k. field (list_of (formula_in true)) close k.1 >>= λ hs. field (formula_in true) close hs.1 >>= λ g. steps_in true g.1 0 >>= λ ss. Ok (made (front n.0 k.0 hs.0 g.0) ss))
        ≡ (((r >>= λ n. field small close n.1 >>= λ k. field (list_of (formula_in true)) close k.1 >>= λ hs. field (formula_in true) close hs.1 >>= λ g. Ok (fields n.0 k.0 hs.0 g.0 g.1)) >>= joins) >>= λ x. Ok (made x.0 x.1))
    by_name close (Ok n) = by_vars close n.0 (field small close n.1)
    by_name close (Err e) = refl

    here : (ns : List (List ℕ)) (p : Part) → lemma_in ns p ≡ lemma_read (setting true ns) p
    here ns p = alike (tagged (codes "lemma") p) _ _ (λ l. by_name l.1 (field (new_name ns) l.1 l.0))

ok_same : {A : Type 0} (x y : A) → ◌≡◌ {A = Result A TextFault} (Ok x) (Ok y) → x ≡ y
ok_same x y e = cc

new_is : (names : List (List ℕ)) (p : Part) (n : List ℕ) → new_name names p ≡ Ok n → is_among names n ≡ false
unfolding new_name
new_is names p n e =
    let one = bound (name_in p) _ n e in
    by one.0 (is_among names one.0) refl one.2
  where
    by : (m : List ℕ) (b : Bool) → is_among names m ≡ b → cond b (refused (place p) fault.Name) (Ok m) ≡ Ok n → is_among names n ≡ false
    by m true t d = absurd cc
    by m false t d = ap (is_among names) (sym (ok_same m n d)) ∙ t

new_field : (names : List (List ℕ)) (close : ℕ) (ps : Parts) (x : List ℕ × Parts) → field (new_name names) close ps ≡ Ok x → is_among names x.0 ≡ false
new_field names close Nil x e = absurd cc
new_field names close (Cons q qs) x e =
    let one = bound (new_name names q) (λ n. Ok (n, qs)) x e in
    let same : (one.0, qs) ≡ x = ok_same (one.0, qs) x one.2 in
    ap (λ (y : List ℕ × Parts). is_among names y.0) (sym same) ∙ new_is names q one.0 one.1

-- the name of a lemma that is read is new
pub lemma_new : (names : List (List ℕ)) (p : Part) (l : Lemma) → lemma_in names p ≡ Ok l → is_among names l.name ≡ false
unfolding lemma_in
lemma_new names p y e =
    let l = bound (tagged (codes "lemma") p) _ y e in
    let n = bound (field (new_name names) l.0.1 l.0.0) _ y l.2 in
    let k = bound (field small l.0.1 n.0.1) _ y n.2 in
    let hs = bound (field (list_of (formula_in true)) l.0.1 k.0.1) _ y k.2 in
    let g = bound (field (formula_in true) l.0.1 hs.0.1) _ y hs.2 in
    let ss = bound (steps_in true g.0.1 0) _ y g.2 in
    let same = ok_same _ y ss.2 in
    ap (λ (z : Lemma). is_among names z.name) (sym same) ∙ new_field names l.0.1 l.0.0 n.0 n.1

pub new_given : (c : Setting) (p : Part) (r : Result Lemma TextFault) → c.later ≡ true → Gives (λ l. l) r (lemma_read c p) → IfOk r (λ l. is_among c.names l.name ≡ false)
new_given c p (Ok l) e h = lemma_new c.names p l (lemma_is c p e ∙ h)
new_given c p (Err d) e h = tt

-- ---- whole notes

-- the invariant, the initial part and the functions, and then the notes
pub rest_is : (c : Setting) (ls : List Lemma) (close : ℕ) (ps : Parts) → notes_rest c ls close ps ≡ with_lemmas ls (rest_read c close ps)
unfolding notes_rest
rest_is c ls close ps = by_invariant (field (assertion_in c.later) close ps)
  where
    front : Assertion → Initial → Front
    front a i = (a, i)

    fields : Assertion → Initial → Parts → Assertion × Initial × Parts
    fields a i qs = (a, i, qs)

    pair : Front → List FuncNotes → Front × List FuncNotes
    pair x fs = (x, fs)

    made : Front → List FuncNotes → Notes
    made x fs = record { invariant = x.0; initial = x.1; funcs = fs; lemmas = ls }

    joins : Assertion × Initial × Parts → Result (Front × List FuncNotes) TextFault
    joins x = all_of (function_in c) x.2 >>= λ fs. Ok (pair (front x.0 x.1) fs)

    by_funcs : (x : Front) (r : Result (List FuncNotes) TextFault) → (r >>= λ fs. Ok (made x fs)) ≡ ((r >>= λ fs. Ok (pair x fs)) >>= λ x. Ok (made x.0 x.1))
    by_funcs x (Ok fs) = refl
    by_funcs x (Err e) = refl

    by_initial : (a : Assertion) (r : Result (Initial × Parts) TextFault) →
        (r >>= λ i. all_of (function_in c) i.1 >>= λ fs. Ok (made (front a i.0) fs)) ≡ (((r >>= λ i. Ok (fields a i.0 i.1)) >>= joins) >>= λ x. Ok (made x.0 x.1))
    by_initial a (Ok i) = by_funcs (front a i.0) (all_of (function_in c) i.1)
    by_initial a (Err e) = refl

    by_invariant : (r : Result (Assertion × Parts) TextFault) →
        (r >>= λ a. field (initial_in c) close a.1 >>= λ i. all_of (function_in c) i.1 >>= λ fs. Ok (made (front a.0 i.0) fs))
        ≡ (((r >>= λ a. field (initial_in c) close a.1 >>= λ i. Ok (fields a.0 i.0 i.1)) >>= joins) >>= λ x. Ok (made x.0 x.1))
    by_invariant (Ok a) = by_initial a.0 (field (initial_in c) close a.1)
    by_invariant (Err e) = refl

-- what is read behind the version, by its lemmas and what is behind them
pub rest_given : (later : Bool) (close : ℕ) (ps qs : Parts) (ls : List Lemma) (c : Setting) (r : Result Notes TextFault) → lemmas_of later ps ≡ Ok (ls, qs) → c ≡ setting_of later ls →
    Gives (λ n. n) r (with_lemmas ls (rest_read c close qs)) → Gives (λ n. n) r (behind_version later close ps)
rest_given later close ps qs ls c r g e h =
    let whole : with_lemmas ls (rest_read c close qs) ≡ behind_version later close ps =
    sym (rest_is c ls close qs) ∙ ap (λ k. notes_rest k ls close qs) e ∙ sym (ap (λ x. x >>= λ y. notes_rest (setting_of later y.0) y.0 close y.1) g) in
    subst (λ s. Gives {X = Notes} {Y = Notes} (λ n. n) r s) whole h
