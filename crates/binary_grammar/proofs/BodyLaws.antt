-- Locals, regions and bodies are read exactly.
use Rattle.std.proofs.Common.{◌≡◌, ℕ, zero, suc, ◌+◌, ◌-◌, ◌≤◌, false, cond, ltb, eqb, List, [], ◌∷◌, ◌++◌, length, take, drop, Result, Ok, Err, inl, inr, refl, sym, ap, subst, ◌∙◌, append_assoc, arith}
use Rattle.std.proofs.lemmas.Bool.{ltb-false, le-ltb, eqb-true}
use Rattle.std.proofs.lemmas.List.{append-nil, length-append, take_at, drop_at, take-append-drop, length-take, nil_from_length}
use Rattle.wasm_values.specs.declared.number.ValType.{ValType}
use Rattle.binary_grammar.specs.declared.fault.DecodeFault.{DecodeFault}
use Rattle.binary_grammar.specs.declared.fault.DecodeFault.TheVariants.{Malformed, Limit}
use Rattle.binary_grammar.specs.declared.fault.DecodeWord.TheVariants as word
use Rattle.wasm_values.specs.declared.limit.LimitWord.TheVariants as limit
use Rattle.binary_grammar.specs.declared.section.Body.{Body}
use Rattle.binary_grammar.specs.Bounds.{copies}
use Rattle.binary_grammar.specs.words.Reading.{◌>>=◌, Reader, place, then_at, done_at, number_at, region_at, ended, sized_at}
use Rattle.binary_grammar.specs.words.TypeReading.{value_type_at}
use Rattle.binary_grammar.specs.words.CodeReading.{run_of_locals_at, runs_at, locals_at, body_contents_at, body_at}
use Rattle.binary_grammar.specs.Grammar.{Spelling, Then, Done, SpellsNumber, Each}
use Rattle.binary_grammar.specs.CodeGrammar.{SpellsRun, locals_of, Runs, SpellsLocals, OfLength, Sized, SpellsBodyContents, SpellsBody, NestsAtMost}
use Rattle.binary_grammar.proofs.NumberLaws.{chosen}
use Rattle.binary_grammar.proofs.Exact.{Limited, Free, Exact, ok, ok_is, bind_ok, place_after, shorter, exact_then, exact_done, free, exact_number}
use Rattle.binary_grammar.proofs.TypeLaws.{exact_value_type}
use Rattle.binary_grammar.proofs.CodeLaws.{exact_expression}

abbrev err : {A : Type 0} → DecodeFault → Result A DecodeFault
err e = Err e

-- ---- runs of locals

abbrev plain_run : Reader (ℕ × ValType)
plain_run = then_at number_at (λ n. then_at value_type_at (λ t. done_at (n, t)))

exact_plain : Exact plain_run SpellsRun Free
unfolding SpellsRun
exact_plain = exact_then exact_number (λ n. exact_then exact_value_type (λ t. exact_done (n, t)) free) free

record RunParts (most sum end : ℕ) (bytes rest : List ℕ) (r : ℕ × ValType) : Type 0 where
  plain : plain_run end bytes ≡ Ok (r, rest)
  few : sum + r.0 ≤ most

run_parts : (most sum end : ℕ) (bytes rest : List ℕ) (r : ℕ × ValType) → run_of_locals_at most sum end bytes ≡ Ok (r, rest) → RunParts most sum end bytes rest r
unfolding run_of_locals_at then_at done_at
run_parts most sum end bytes rest r e =
    let p = bind_ok (number_at end bytes) (λ count. cond (ltb most (sum + count.0)) (err (Limit (place end bytes) limit.Locals)) (value_type_at end count.1 >>= λ t. Ok ((count.0, t.0), t.1))) (r, rest) e in
    elim (chosen (ltb most (sum + p.0.0)) (err (Limit (place end bytes) limit.Locals)) (value_type_at end p.0.1 >>= λ t. Ok ((p.0.0, t.0), t.1)) (ok (r, rest)) p.2) [
      | inl h ↦ absurd (let k = h.1 in cc)
      | inr h ↦
          let q = bind_ok (value_type_at end p.0.1) (λ t. Ok ((p.0.0, t.0), t.1)) (r, rest) h.1 in
          let s = ok_is ((p.0.0, q.0.0), q.0.1) (r, rest) q.2 in
          let n : p.0.0 ≡ r.0 = ap (λ (z : (ℕ × ValType) × List ℕ). z.0.0) s in
          record {
            plain = ap (λ v. v >>= λ x. value_type_at end x.1 >>= λ t. Ok ((x.0, t.0), t.1)) p.1 ∙ h.1;
            few = subst (λ k. sum + k ≤ most) n (ltb-false most (sum + p.0.0) h.0);
          }
    ]

-- what follows the count of a run
abbrev behind_count : ℕ → ℕ → List ℕ → Result ((ℕ × ValType) × List ℕ) DecodeFault
behind_count n end mid = value_type_at end mid >>= λ t. Ok ((n, t.0), t.1)

record NumberPart (end : ℕ) (bytes rest : List ℕ) (r : ℕ × ValType) : Type 0 where
  mid : List ℕ
  number : number_at end bytes ≡ Ok (r.0, mid)
  more : behind_count r.0 end mid ≡ Ok (r, rest)

number_part : (end : ℕ) (bytes rest : List ℕ) (r : ℕ × ValType) → plain_run end bytes ≡ Ok (r, rest) → NumberPart end bytes rest r
unfolding then_at done_at
number_part end bytes rest r e =
    let p = bind_ok (number_at end bytes) (λ x. value_type_at end x.1 >>= λ t. Ok ((x.0, t.0), t.1)) (r, rest) e in
    let q = bind_ok (value_type_at end p.0.1) (λ t. Ok ((p.0.0, t.0), t.1)) (r, rest) p.2 in
    let s = ok_is ((p.0.0, q.0.0), q.0.1) (r, rest) q.2 in
    let n : p.0.0 ≡ r.0 = ap (λ (z : (ℕ × ValType) × List ℕ). z.0.0) s in
    record {
      mid = p.0.1;
      number = p.1 ∙ ap (λ k. ok (k, p.0.1)) n;
      more = subst (λ k. behind_count k end p.0.1 ≡ Ok (r, rest)) n p.2;
    }

run_again : (most sum end : ℕ) (bytes rest : List ℕ) (r : ℕ × ValType) → plain_run end bytes ≡ Ok (r, rest) → sum + r.0 ≤ most → run_of_locals_at most sum end bytes ≡ Ok (r, rest)
unfolding run_of_locals_at
run_again most sum end bytes rest r e few =
    let p = number_part end bytes rest r e in
    rw (p.number, le-ltb most (sum + r.0) few) p.more

length-copies : (n : ℕ) (t : ValType) → length (copies n t) ≡ n
length-copies zero t = refl
length-copies (suc n) t = ap suc (length-copies n t)

record RunsTaken (most sum n end : ℕ) (bytes rest : List ℕ) (ls : List ValType) : Type 0 where
  runs : List (ℕ × ValType)
  places : List ℕ
  text : List ℕ
  parts : bytes ≡ text ++ rest
  count : length runs ≡ n
  spells : Each SpellsRun (place end bytes) text (runs, places)
  is : ls ≡ locals_of runs
  few : sum ≤ most → sum + length ls ≤ most

abbrev nothing : List ℕ → List ValType × List ℕ
nothing bytes = ([], bytes)

no_runs : (most sum end : ℕ) (bytes rest : List ℕ) (ls : List ValType) → ok (nothing bytes) ≡ ok (ls, rest) → RunsTaken most sum 0 end bytes rest ls
no_runs most sum end bytes rest ls e =
    subst (λ (z : List ValType × List ℕ). RunsTaken most sum 0 end bytes z.1 z.0) (ok_is (nothing bytes) (ls, rest) e)
    (record { runs = []; places = []; text = []; parts = refl; count = refl; spells = refl; is = refl; few = λ h. omega arith })

runs_take : (most sum n end : ℕ) (bytes rest : List ℕ) (ls : List ValType) → length bytes ≤ end → runs_at most sum n end bytes ≡ Ok (ls, rest) → RunsTaken most sum n end bytes rest ls
unfolding runs_at
runs_take most sum zero end bytes rest ls le e = no_runs most sum end bytes rest ls e
runs_take most sum (suc n) end bytes rest ls le e =
    let p = bind_ok (run_of_locals_at most sum end bytes) (λ run. runs_at most (sum + run.0.0) n end run.1 >>= λ more. Ok (copies run.0.0 run.0.1 ++ more.0, more.1)) (ls, rest) e in
    let r = p.0.0 in
    let mid = p.0.1 in
    let q = bind_ok (runs_at most (sum + r.0) n end mid) (λ more. Ok (copies r.0 r.1 ++ more.0, more.1)) (ls, rest) p.2 in
    let s = ok_is (copies r.0 r.1 ++ q.0.0, q.0.1) (ls, rest) q.2 in
    let v = run_parts most sum end bytes mid r p.1 in
    let t = exact_plain.takes end bytes mid r le v.plain in
    let u = runs_take most (sum + r.0) n end mid q.0.1 q.0.0 (shorter end bytes t.text mid le t.parts) q.1 in
    let each : Each SpellsRun (place end bytes + length t.text) u.text (u.runs, u.places) =
    subst (λ at. Each SpellsRun at u.text (u.runs, u.places)) (sym (place_after end bytes t.text mid le t.parts)) u.spells in
    let all : length (copies r.0 r.1 ++ q.0.0) ≡ r.0 + length q.0.0 = omega (arith, length-append (copies r.0 r.1) q.0.0, length-copies r.0 r.1) in
    subst (λ (z : List ValType × List ℕ). RunsTaken most sum (suc n) end bytes z.1 z.0) s (record {
      runs = r ∷ u.runs;
      places = place end bytes ∷ u.places;
      text = t.text ++ u.text;
      parts = t.parts ∙ ap (λ more. t.text ++ more) u.parts ∙ sym (append_assoc t.text u.text q.0.1);
      count = ap suc u.count;
      spells = (refl, t.text, u.text, refl, t.spells, each);
      is = ap (λ more. copies r.0 r.1 ++ more) u.is;
      few = λ h. omega (arith, all, u.few v.few);
    })

runs_again : (most sum end : ℕ) (runs : List (ℕ × ValType)) (places text rest : List ℕ) → length (text ++ rest) ≤ end → Each SpellsRun (place end (text ++ rest)) text (runs, places) →
    sum + length (locals_of runs) ≤ most → runs_at most sum (length runs) end (text ++ rest) ≡ Ok (locals_of runs, rest)
unfolding runs_at
runs_again most sum end [] [] text rest le h few = rw h refl
runs_again most sum end [] (p ∷ ps) text rest le h few = absurd h
runs_again most sum end (r ∷ runs) [] text rest le h few = absurd h
runs_again most sum end (r ∷ runs) (p ∷ ps) text rest le h few =
    let a = h.1 in
    let b = h.2 in
    let whole : text ++ rest ≡ a ++ (b ++ rest) = ap (λ t. t ++ rest) h.3 ∙ append_assoc a b rest in
    let all : length (copies r.0 r.1 ++ locals_of runs) ≡ r.0 + length (locals_of runs) = omega (arith, length-append (copies r.0 r.1) (locals_of runs), length-copies r.0 r.1) in
    let here : SpellsRun (place end (a ++ (b ++ rest))) a r = subst (λ t. SpellsRun (place end t) a r) whole h.4 in
    let plain : plain_run end (text ++ rest) ≡ Ok (r, b ++ rest) = ap (plain_run end) whole ∙ exact_plain.again end a (b ++ rest) r (subst (λ t. length t ≤ end) whole le) here tt in
    let first = run_again most sum end (text ++ rest) (b ++ rest) r plain (omega (arith, all)) in
    let each : Each SpellsRun (place end (b ++ rest)) b (runs, ps) = subst (λ at. Each SpellsRun at b (runs, ps)) (place_after end (text ++ rest) a (b ++ rest) le whole) h.5 in
    let others = runs_again most (sum + r.0) end runs ps b rest (shorter end (text ++ rest) a (b ++ rest) le whole) each (omega (arith, all)) in
    rw (first, others) refl

abbrev pub FewLocals : ℕ → Limited (List ValType)
FewLocals most ls = length ls ≤ most

exact_runs : (most n : ℕ) → Exact (runs_at most 0 n) (Runs n) (FewLocals most)
unfolding Runs
exact_runs most n = record {
  takes = λ end bytes rest ls le e.
      let t = runs_take most 0 n end bytes rest ls le e in
      record { text = t.text; parts = t.parts; spells = (t.runs, t.places, t.count, t.spells, t.is); within = omega (arith, t.few (omega arith)) };
  again = λ end text rest ls le h w.
      let few : 0 + length (locals_of h.0) ≤ most = omega (arith, ap length h.4) in
      ap (λ k. runs_at most 0 k end (text ++ rest)) (sym h.2) ∙ runs_again most 0 end h.0 h.1 text rest le h.3 few ∙ ap (λ ms. ok (ms, rest)) (sym h.4);
}

pub exact_locals : (most : ℕ) → Exact (locals_at most) SpellsLocals (FewLocals most)
unfolding locals_at SpellsLocals
exact_locals most = exact_then exact_number (exact_runs most) (record { split = λ x at text y q u. (tt, u); join = λ x at text y q w v. v })

-- ---- regions

-- a reader that takes a whole text
pub record Whole {A : Type 0} (r : Reader A) (P : Spelling A) (W : Limited A) : Type 0 where
  pub takes : (end : ℕ) (text : List ℕ) (x : A) → length text ≤ end → r end text ≡ Ok (x, []) → P (place end text) text x × W x
  pub again : (end : ℕ) (text : List ℕ) (x : A) → length text ≤ end → P (place end text) text x → W x → r end text ≡ Ok (x, [])

pub whole_of : {A : Type 0} {r : Reader A} {P : Spelling A} {W : Limited A} → Exact r P W → Whole r P W
whole_of {A} {r} {P} {W} er = record {
  takes = λ end text x le e.
      let t = er.takes end text [] x le e in
      (subst (λ u. P (place end text) u x) (sym (t.parts ∙ append-nil t.text)) t.spells, t.within);
  again = λ end text x le h w.
      let same : text ++ [] ≡ text = append-nil text in
      let q : r end (text ++ []) ≡ Ok (x, []) = er.again end text [] x (subst (λ u. length u ≤ end) (sym same) le) (subst (λ u. P (place end u) text x) (sym same) h) w in
      ap (r end) (sym same) ∙ q;
}

pub record RegionTaken (end : ℕ) (bytes inside after : List ℕ) (inner : ℕ) : Type 0 where
  pub size : List ℕ
  pub parts : bytes ≡ size ++ (inside ++ after)
  pub number : SpellsNumber (place end bytes) size (length inside)
  pub ends : inner ≡ end - length after

pub region_takes : (end : ℕ) (bytes inside after : List ℕ) (inner : ℕ) → length bytes ≤ end → region_at end bytes ≡ Ok (inside, inner, after) → RegionTaken end bytes inside after inner
unfolding region_at
region_takes end bytes inside after inner le e =
    let p = bind_ok (number_at end bytes) (λ n. cond (ltb (length n.1) n.0) (err (Malformed (place end bytes) word.Size)) (Ok (take n.0 n.1, end - length (drop n.0 n.1), drop n.0 n.1))) (inside, inner, after) e in
    let n = p.0.0 in
    let mid = p.0.1 in
    let t = exact_number.takes end bytes mid n le p.1 in
    elim (chosen (ltb (length mid) n) (err (Malformed (place end bytes) word.Size)) (ok (take n mid, end - length (drop n mid), drop n mid)) (ok (inside, inner, after)) p.2) [
      | inl h ↦ absurd (let k = h.1 in cc)
      | inr h ↦
          let s = ok_is (take n mid, end - length (drop n mid), drop n mid) (inside, inner, after) h.1 in
          let a : take n mid ≡ inside = ap (λ (z : List ℕ × ℕ × List ℕ). z.0) s in
          let b : drop n mid ≡ after = ap (λ (z : List ℕ × ℕ × List ℕ). z.2) s in
          let len : n ≡ length inside = omega (arith, ap length a, length-take n mid, ltb-false (length mid) n h.0) in
          record {
            size = t.text;
            parts = t.parts ∙ ap (λ more. t.text ++ more) (sym (take-append-drop n mid) ∙ ap (λ x. x ++ drop n mid) a ∙ ap (λ y. inside ++ y) b);
            number = subst (SpellsNumber (place end bytes) t.text) len t.spells;
            ends = sym (ap (λ (z : List ℕ × ℕ × List ℕ). z.1) s) ∙ ap (λ y. end - length y) b;
          }
    ]

region_again : (end : ℕ) (size inside after : List ℕ) → length (size ++ (inside ++ after)) ≤ end → SpellsNumber (place end (size ++ (inside ++ after))) size (length inside) →
    region_at end (size ++ (inside ++ after)) ≡ Ok (inside, end - length after, after)
unfolding region_at
region_again end size inside after le h =
    let num = exact_number.again end size (inside ++ after) (length inside) le h tt in
    let long : ltb (length (inside ++ after)) (length inside) ≡ false = le-ltb (length (inside ++ after)) (length inside) (omega (arith, length-append inside after)) in
    rw (num, long, take_at inside after (length inside) refl, drop_at inside after (length inside) refl) refl

record Ended {A : Type 0} (x y : A) (bytes : List ℕ) : Type 0 where
  same : x ≡ y
  none : bytes ≡ []

ended_is : {A : Type 0} (x y : A) (end : ℕ) (bytes : List ℕ) → ended x end bytes ≡ Ok y → Ended x y bytes
ended_is x y end bytes e =
    elim (chosen (eqb (length bytes) 0) (ok x) (err (Malformed (place end bytes) word.Size)) (ok y) e) [
      | inl h ↦ record { same = ok_is x y h.1; none = nil_from_length bytes (eqb-true (length bytes) 0 h.0) }
      | inr h ↦ absurd (let k = h.1 in cc)
    ]

-- the place of a region's first byte, by its own end
region_place : (end : ℕ) (inside after : List ℕ) (mid : List ℕ) → mid ≡ inside ++ after → place (end - length after) inside ≡ place end mid
region_place end inside after mid e = omega (arith, ap length e, length-append inside after)

pub exact_sized : {A : Type 0} {r : Reader A} {P : Spelling A} {W : Limited A} → Whole r P W → Exact (sized_at r) (Sized P) W
unfolding sized_at Sized Then OfLength
exact_sized {A} {r} {P} {W} wr = record {
  takes = λ end bytes rest x le e.
      let p = bind_ok (region_at end bytes) (λ region. r region.1 region.0 >>= λ x. ended x.0 region.1 x.1 >>= λ whole. Ok (whole, region.2)) (x, rest) e in
      let inside = p.0.0 in
      let inner = p.0.1 in
      let after = p.0.2 in
      let q = bind_ok (r inner inside) (λ x. ended x.0 inner x.1 >>= λ whole. Ok (whole, after)) (x, rest) p.2 in
      let v = bind_ok (ended q.0.0 inner q.0.1) (λ whole. Ok (whole, after)) (x, rest) q.2 in
      let s = ok_is (v.0, after) (x, rest) v.2 in
      let t = region_takes end bytes inside after inner le p.1 in
      let z = ended_is q.0.0 v.0 inner q.0.1 v.1 in
      let is : q.0.0 ≡ x = z.same ∙ ap (λ (z : A × List ℕ). z.0) s in
      let tail : after ≡ rest = ap (λ (z : A × List ℕ). z.1) s in
      let read : r inner inside ≡ Ok (x, []) = q.1 ∙ ap (λ (y : A). ok (y, q.0.1)) is ∙ ap (λ ys. ok (x, ys)) z.none in
      let fits : length inside ≤ inner = omega (arith, t.ends, ap length t.parts, length-append t.size (inside ++ after), length-append inside after) in
      let w = wr.takes inner inside x fits read in
      let at : place inner inside ≡ place end bytes + length t.size =
      ap (λ k. place k inside) t.ends ∙ region_place end inside after (inside ++ after) refl ∙ sym (place_after end bytes t.size (inside ++ after) le t.parts) in
      record {
        text = t.size ++ inside;
        parts = t.parts ∙ sym (append_assoc t.size inside after) ∙ ap (λ ys. (t.size ++ inside) ++ ys) tail;
        spells = (length inside, t.size, inside, refl, t.number, (refl, subst (λ k. P k inside x) at w.0));
        within = w.1;
      };
  again = λ end text rest x le h w.
      let size = h.1 in
      let inside = h.2 in
      let whole : text ++ rest ≡ size ++ (inside ++ rest) = ap (λ t. t ++ rest) h.3 ∙ append_assoc size inside rest in
      let le2 : length (size ++ (inside ++ rest)) ≤ end = subst (λ t. length t ≤ end) whole le in
      let num : SpellsNumber (place end (size ++ (inside ++ rest))) size (length inside) = subst (λ t. SpellsNumber (place end t) size (length inside)) whole (subst (SpellsNumber (place end (text ++ rest)) size) (sym h.5.0) h.4) in
      let region : region_at end (text ++ rest) ≡ Ok (inside, end - length rest, rest) = ap (region_at end) whole ∙ region_again end size inside rest le2 num in
      let fits : length inside ≤ end - length rest = omega (arith, length-append size (inside ++ rest), length-append inside rest) in
      let at : place end (text ++ rest) + length size ≡ place (end - length rest) inside =
      place_after end (text ++ rest) size (inside ++ rest) le whole ∙ sym (region_place end inside rest (inside ++ rest) refl) in
      let read : r (end - length rest) inside ≡ Ok (x, []) = wr.again (end - length rest) inside x fits (subst (λ k. P k inside x) at h.5.1) w in
      rw (region, read) refl;
}

-- ---- bodies

-- the limits of a body
abbrev pub BodyWithin : ℕ → ℕ → Limited Body
BodyWithin locals nesting b = (length b.locals ≤ locals) × NestsAtMost nesting b.code

exact_body_contents : (locals nesting : ℕ) → Exact (body_contents_at locals nesting) SpellsBodyContents (BodyWithin locals nesting)
unfolding body_contents_at SpellsBodyContents Then Done
exact_body_contents locals nesting =
    exact_then (exact_locals locals) (λ ls. exact_then (exact_expression nesting) (λ code. exact_done (record { locals = ls; code = code.0; places = code.1 })) (record {
      split = λ code at text y q u. (subst (λ b. NestsAtMost nesting b.code) q.1 u, tt);
      join = λ code at text y q w v. subst (λ b. NestsAtMost nesting b.code) (sym q.1) w;
    })) (record {
      split = λ ls at text y q u. (subst (λ b. length b.locals ≤ locals) q.5.1 u.0, u.1);
      join = λ ls at text y q w v. (subst (λ b. length b.locals ≤ locals) (sym q.5.1) w, v);
    })

pub exact_body : (locals nesting : ℕ) → Exact (body_at locals nesting) SpellsBody (BodyWithin locals nesting)
unfolding body_at SpellsBody
exact_body locals nesting = exact_sized (whole_of (exact_body_contents locals nesting))
