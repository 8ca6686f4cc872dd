-- The plan of a section's contents gives what the bytes are read as.
use Rattle.std.proofs.Common.{◌≡◌, ℕ, zero, suc, ◌+◌, ◌<◌, ◌≤◌, Bool, true, false, cond, ltb, eqb, List, [], ◌∷◌, ◌++◌, length, Result, Ok, Err, inl, inr, refl, sym, ap, ◌∙◌, arith}
use Rattle.std.proofs.lemmas.Bool.{ltb-true, ltb-false, ne_eqb}
use Rattle.std.proofs.lemmas.List.{length-append}
use Rattle.wasm_values.specs.declared.number.ValType.{ValType}
use Rattle.wasm_syntax.specs.declared.module.ImportKind.TheVariants as import
use Rattle.wasm_syntax.specs.declared.module.ExportKind.TheVariants as export
use Rattle.binary_grammar.specs.declared.fault.DecodeFault.{DecodeFault}
use Rattle.binary_grammar.specs.declared.fault.DecodeFault.TheVariants.{Malformed, Limit}
use Rattle.binary_grammar.specs.declared.fault.DecodeWord.TheVariants as word
use Rattle.wasm_values.specs.declared.limit.LimitWord.TheVariants as limit
use Rattle.binary_grammar.specs.declared.section.Section.TheVariants as section
use Rattle.binary_grammar.specs.Bounds.{Bounds, copies}
use Rattle.binary_grammar.specs.words.Reading.{◌>>=◌, Reader, place, then_at, done_at, of_byte, tagged_at, number_at, byte_at, entries_at, name_at, region_at, ended, sized_at}
use Rattle.binary_grammar.specs.words.TypeReading.{value_type_at, import_kind_of, import_kind_at, import_at, export_kind_of, export_kind_at, export_at}
use Rattle.binary_grammar.specs.words.CodeReading.{run_of_locals_at, runs_at, locals_at, body_contents_at, body_at}
use Rattle.binary_grammar.specs.words.SectionReading.{global_at, elem_at, segment_at, custom_at, bodies_at, types_at, imports_at, funcs_at, tables_at, memories_at, globals_at, exports_at, start_at, elems_at, segments_at, contents_at}
use Rattle.binary_grammar.specs.Readings.{RegionEnd, Number, Count, RunCount, Rest, KindByte, Here, Left, local, count_at, run_count_at, rest_of_region, left_by, accept, Plan, Complete, Want, andThen}
use Rattle.binary_grammar.specs.Plans.{one, entries_plan, name_plan, sized_plan, imported_plan, import_plan, exported_plan, export_plan, runs_plan, locals_plan, body_plan, global_plan, elem_plan, segment_plan, contents_plan}
use Rattle.binary_grammar.proofs.ReadingLaws.{run}
use Rattle.binary_grammar.proofs.NumberLaws.{chosen}
use Rattle.binary_grammar.proofs.Exact.{ok, ok_is, bind_ok, exact_number}
use Rattle.binary_grammar.proofs.TypeLaws.{exact_value_type, exact_name, exact_func_type, exact_limits, exact_table_type, exact_global_type, exact_import_kind, exact_import, exact_export_kind, exact_export}
use Rattle.binary_grammar.proofs.CodeLaws.{exact_instrs}
use Rattle.binary_grammar.proofs.BodyLaws.{exact_locals, exact_body, region_takes}
use Rattle.binary_grammar.proofs.SectionLaws.{exact_global, exact_elem, exact_segment}
use Rattle.binary_grammar.proofs.PlanLaws.{run_then, Agrees, now, leave, Shrinks, agrees_next, agrees_then, agrees_done, whole_pair, agrees_number, agrees_value_type, agrees_name, agrees_bytes, agrees_entries, agrees_vector, agrees_list, agrees_same, shrinks_guarded, agrees_limited, agrees_func_type, agrees_limits, agrees_table_type, agrees_global_type, agrees_map, agrees_either, agrees_expression, agrees_instrs}

-- ---- imports and exports

imported_agrees : {len : ℕ} (at b : ℕ) → b < 4 → Agrees len (import_kind_of at b) (imported_plan b)
unfolding import_kind_of imported_plan
imported_agrees at zero lt = agrees_map import.Func agrees_number
imported_agrees at (suc zero) lt = agrees_map import.Table agrees_table_type
imported_agrees at (suc (suc zero)) lt = agrees_map import.Memory agrees_limits
imported_agrees at (suc (suc (suc zero))) lt = agrees_map import.Global agrees_global_type
imported_agrees at (suc (suc (suc (suc b)))) lt = absurd (omega arith)

no_import : (at b end : ℕ) (bytes : List ℕ) → 4 ≤ b → import_kind_of at b end bytes ≡ Err (Malformed at word.Byte)
unfolding import_kind_of
no_import at b end bytes le =
    rw (ne_eqb b 0 (λ e. omega arith), ne_eqb b 1 (λ e. omega arith), ne_eqb b 2 (λ e. omega arith), ne_eqb b 3 (λ e. omega arith)) refl

exported_agrees : {len : ℕ} (at b : ℕ) → b < 4 → Agrees len (export_kind_of at b) (exported_plan b)
unfolding export_kind_of exported_plan
exported_agrees at zero lt = agrees_map export.Func agrees_number
exported_agrees at (suc zero) lt = agrees_map export.Table agrees_number
exported_agrees at (suc (suc zero)) lt = agrees_map export.Memory agrees_number
exported_agrees at (suc (suc (suc zero))) lt = agrees_map export.Global agrees_number
exported_agrees at (suc (suc (suc (suc b)))) lt = absurd (omega arith)

no_export : (at b end : ℕ) (bytes : List ℕ) → 4 ≤ b → export_kind_of at b end bytes ≡ Err (Malformed at word.Byte)
unfolding export_kind_of
no_export at b end bytes le =
    rw (ne_eqb b 0 (λ e. omega arith), ne_eqb b 1 (λ e. omega arith), ne_eqb b 2 (λ e. omega arith), ne_eqb b 3 (λ e. omega arith)) refl

abbrev byte_left : Result ℕ DecodeFault → List ℕ → Result (ℕ × List ℕ) DecodeFault
byte_left v bs = v >>= λ t. Ok (t, bs)

-- a byte below 4, and what it lets follow
kinded : {A : Type 0} {len : ℕ} (f : ℕ → Plan A) (r : ℕ → Reader A) (at b : ℕ) (left : Left) (bs : List ℕ) → length bs ≤ left.end → length bs ≤ len →
    (b < 4 → Agrees len (r b) (f b)) → (4 ≤ b → r b left.end bs ≡ Err (Malformed at word.Byte)) → (c : Bool) → ltb b 4 ≡ c →
    (leave left (byte_left (cond c (Ok b) (Err (Malformed at word.Byte))) bs) >>= λ x. run (f x.0) x.1) ≡ leave left (r b left.end bs)
kinded f r at b left bs le few under over true e = (under (ltb-true b 4 e)).agree (now left bs) le few
kinded f r at b left bs le few under over false e = sym (ap (leave left) (over (ltb-false b 4 e)))

import_bytes : (len : ℕ) (left : Left) (bytes : List ℕ) → length bytes ≤ left.end → length bytes ≤ len → run (Want KindByte imported_plan) (now left bytes) ≡ local import_kind_at (now left bytes)
unfolding import_kind_at accept of_byte tagged_at byte_at
import_bytes len left [] le few = refl
import_bytes len left (b ∷ bs) le few =
    let at = place left.end (b ∷ bs) in
    kinded {len = len} imported_plan (λ c. import_kind_of at c) at b left bs (omega arith) (omega arith) (imported_agrees at b) (no_import at b left.end bs) (ltb b 4) refl

agrees_import_kind : {len : ℕ} → Agrees len import_kind_at (Want KindByte imported_plan)
agrees_import_kind {len} = record { agree = λ left le few. import_bytes len left left.bytes le few }

export_bytes : (len : ℕ) (left : Left) (bytes : List ℕ) → length bytes ≤ left.end → length bytes ≤ len → run (Want KindByte exported_plan) (now left bytes) ≡ local export_kind_at (now left bytes)
unfolding export_kind_at accept of_byte tagged_at byte_at
export_bytes len left [] le few = refl
export_bytes len left (b ∷ bs) le few =
    let at = place left.end (b ∷ bs) in
    kinded {len = len} exported_plan (λ c. export_kind_of at c) at b left bs (omega arith) (omega arith) (exported_agrees at b) (no_export at b left.end bs) (ltb b 4) refl

agrees_export_kind : {len : ℕ} → Agrees len export_kind_at (Want KindByte exported_plan)
agrees_export_kind {len} = record { agree = λ left le few. export_bytes len left left.bytes le few }

agrees_import : {len : ℕ} → Agrees len import_at import_plan
unfolding import_at import_plan
agrees_import =
    agrees_then exact_name agrees_name (λ first. agrees_then exact_name agrees_name (λ second. agrees_then exact_import_kind agrees_import_kind (λ kind.
    agrees_done (record { «module» = first; name = second; kind = kind }))))

agrees_export : {len : ℕ} → Agrees len export_at export_plan
unfolding export_at export_plan
agrees_export = agrees_then exact_name agrees_name (λ name. agrees_then exact_export_kind agrees_export_kind (λ kind. agrees_done (record { name = name; kind = kind })))

-- ---- locals

agrees_run_count : {len : ℕ} (most sum : ℕ) → Agrees len (run_count_at most sum) (one (RunCount most sum))
unfolding accept
agrees_run_count most sum = record { agree = λ left le few. whole_pair (local (run_count_at most sum) left) }

abbrev run_then_runs : ℕ → ℕ → ℕ → Reader (List ValType)
run_then_runs most sum n = then_at (run_count_at most sum) (λ c. then_at value_type_at (λ t. then_at (runs_at most (sum + c) n) (λ more. done_at (copies c t ++ more))))

pair_first : {B : Type 0} (v : Result (ValType × List ℕ) DecodeFault) (c : ℕ) (g : (ℕ × ValType) × List ℕ → Result B DecodeFault) →
    ((v >>= λ t. ok ((c, t.0), t.1)) >>= g) ≡ (v >>= λ t. g ((c, t.0), t.1))
pair_first (Ok t) c g = refl
pair_first (Err d) c g = refl

test_first : {B : Type 0} (b : Bool) (d : DecodeFault) (n : ℕ × List ℕ) (v : Result (ValType × List ℕ) DecodeFault) (g : (ℕ × ValType) × List ℕ → Result B DecodeFault) →
    (cond b (Err d) (v >>= λ t. ok ((n.0, t.0), t.1)) >>= g) ≡ (cond b (Err d) (ok n) >>= λ m. v >>= λ t. g ((n.0, t.0), t.1))
test_first true d n v g = refl
test_first false d n v g = pair_first v n.0 g

runs_first : {B : Type 0} (most sum end at : ℕ) (w : Result (ℕ × List ℕ) DecodeFault) (g : (ℕ × ValType) × List ℕ → Result B DecodeFault) →
    ((w >>= λ n. cond (ltb most (sum + n.0)) (Err (Limit at limit.Locals)) (value_type_at end n.1 >>= λ t. ok ((n.0, t.0), t.1))) >>= g) ≡
    ((w >>= λ n. cond (ltb most (sum + n.0)) (Err (Limit at limit.Locals)) (ok n)) >>= λ m. value_type_at end m.1 >>= λ t. g ((m.0, t.0), t.1))
runs_first most sum end at (Err d) g = refl
runs_first most sum end at (Ok n) g = go (ltb most (sum + n.0))
  where
    go : (b : Bool) → (cond b (Err (Limit at limit.Locals)) (value_type_at end n.1 >>= λ t. ok ((n.0, t.0), t.1)) >>= g) ≡
        (cond b (Err (Limit at limit.Locals)) (ok n) >>= λ m. value_type_at end m.1 >>= λ t. g ((m.0, t.0), t.1))
    go true = refl
    go false = pair_first (value_type_at end n.1) n.0 g

runs_as : (most sum n end : ℕ) (bytes : List ℕ) → runs_at most sum (suc n) end bytes ≡ run_then_runs most sum n end bytes
unfolding runs_at run_of_locals_at run_count_at then_at done_at
runs_as most sum n end bytes =
    runs_first most sum end (place end bytes) (number_at end bytes) (λ run. runs_at most (sum + run.0.0) n end run.1 >>= λ more. Ok (copies run.0.0 run.0.1 ++ more.0, more.1))

no_runs : {len : ℕ} (most sum : ℕ) → Agrees len (runs_at most sum 0) (Complete [])
unfolding runs_at
no_runs most sum = record { agree = λ left le few. refl }

shrinks_run_count : (most sum : ℕ) → Shrinks (run_count_at most sum)
unfolding run_count_at
shrinks_run_count most sum = shrinks_guarded (λ n. ltb most (sum + n)) (λ at. Limit at limit.Locals)

agrees_runs : {len : ℕ} (most sum n : ℕ) → Agrees len (runs_at most sum n) (runs_plan most sum n)
unfolding runs_plan
agrees_runs most sum zero = no_runs most sum
agrees_runs most sum (suc n) =
    agrees_same (runs_as most sum n) (agrees_next (shrinks_run_count most sum) (agrees_run_count most sum) (λ c.
    agrees_then exact_value_type agrees_value_type (λ t. agrees_map (λ more. copies c t ++ more) (agrees_runs most (sum + c) n))))

agrees_locals : {len : ℕ} (most : ℕ) → Agrees len (locals_at most) (locals_plan most)
unfolding locals_at locals_plan
agrees_locals most = agrees_then exact_number agrees_number (agrees_runs most 0)

-- ---- regions

abbrev region_left : Left → List ℕ → ℕ → List ℕ → Left
region_left left inside inner after = record { end = inner; bytes = inside; outer = (left.end, after) ∷ left.outer }

abbrev closes : Left → Result Left DecodeFault → Result (Unit {0} × Left) DecodeFault
closes l v = v >>= λ w. Ok (tt {0}, left_by l l.outer)

abbrev pub with_value : {A : Type 0} → A → Result (Unit {0} × Left) DecodeFault → Result (A × Left) DecodeFault
with_value x v = v >>= λ y. Ok (x, y.1)

abbrev opens : Left → Result (List ℕ × ℕ × List ℕ) DecodeFault → Result (Unit {0} × Left) DecodeFault
opens left v = v >>= λ region. Ok (tt {0}, region_left left region.0 region.1 region.2)

-- the end of a region
region_ends : {A : Type 0} (x : A) (left : Left) (inside after bs : List ℕ) (inner : ℕ) →
    run (Want RegionEnd (λ e. Complete x)) (now (region_left left inside inner after) bs) ≡ leave left (ended x inner bs >>= λ whole. ok (whole, after))
unfolding accept
region_ends {A} x left inside after bs inner = go (eqb (length bs) 0)
  where
    go : (b : Bool) →
        with_value x (closes (now (region_left left inside inner after) bs) (cond b (ok (now (region_left left inside inner after) bs)) (Err (Malformed (place inner bs) word.Size)))) ≡
        leave left (cond b (ok x) (Err (Malformed (place inner bs) word.Size)) >>= λ whole. ok (whole, after))
    go true = refl
    go false = refl

region_rest : {A : Type 0} (r : Reader A) (left : Left) (inside after : List ℕ) (inner : ℕ) (v : Result (A × List ℕ) DecodeFault) →
    (leave (region_left left inside inner after) v >>= λ x. run (Want RegionEnd (λ e. Complete x.0)) x.1) ≡ leave left (v >>= λ x. ended x.0 inner x.1 >>= λ whole. ok (whole, after))
region_rest r left inside after inner (Ok x) = region_ends x.0 left inside after x.1 inner
region_rest r left inside after inner (Err d) = refl

sized_step : {A : Type 0} (len : ℕ) (r : Reader A) (p : Plan A) (left : Left) → Agrees len r p → length left.bytes ≤ left.end → length left.bytes ≤ len →
    (v : Result (List ℕ × ℕ × List ℕ) DecodeFault) → region_at left.end left.bytes ≡ v →
    (opens left v >>= λ s. run (andThen p (λ x. Want RegionEnd (λ e. Complete x))) s.1) ≡
    leave left (v >>= λ region. r region.1 region.0 >>= λ x. ended x.0 region.1 x.1 >>= λ whole. ok (whole, region.2))
sized_step len r p left ar le few (Err d) e = refl
sized_step len r p left ar le few (Ok region) e =
    let t = region_takes left.end left.bytes region.0 region.2 region.1 le e in
    let l = region_left left region.0 region.1 region.2 in
    let n : length left.bytes ≡ length t.size + (length region.0 + length region.2) = omega (arith, ap length t.parts, length-append t.size (region.0 ++ region.2), length-append region.0 region.2) in
    run_then p (λ x. Want RegionEnd (λ e. Complete x)) l ∙
    ap (λ v. v >>= λ x. run (Want RegionEnd (λ e. Complete x.0)) x.1) (ar.agree l (omega (arith, n, t.ends)) (omega (arith, n))) ∙
    region_rest r left region.0 region.2 region.1 (r region.1 region.0)

pub agrees_sized : {A : Type 0} {len : ℕ} {r : Reader A} {p : Plan A} → Agrees len r p → Agrees len (sized_at r) (sized_plan p)
unfolding sized_at sized_plan accept
agrees_sized {A} {len} {r} {p} ar = record { agree = λ left le few. sized_step len r p left ar le few (region_at left.end left.bytes) refl }

agrees_body : {len : ℕ} (locals nesting : ℕ) → Agrees len (body_at locals nesting) (body_plan len locals nesting)
unfolding body_at body_plan body_contents_at
agrees_body locals nesting =
    agrees_sized (agrees_then (exact_locals locals) (agrees_locals locals) (λ ls. agrees_map (λ code. record { locals = ls; code = code.0; places = code.1 }) (agrees_expression nesting)))

agrees_global : {len : ℕ} (nesting : ℕ) → Agrees len (global_at nesting) (global_plan len nesting)
unfolding global_at global_plan
agrees_global nesting = agrees_then exact_global_type agrees_global_type (λ t. agrees_map (λ init. record { ty = t; init = init }) (agrees_instrs nesting))

agrees_elem : {len : ℕ} (nesting : ℕ) → Agrees len (elem_at nesting) (elem_plan len nesting)
unfolding elem_at elem_plan
agrees_elem nesting =
    agrees_then exact_number agrees_number (λ table. agrees_then (exact_instrs nesting) (agrees_instrs nesting) (λ offset.
    agrees_map (λ funcs. record { table = table; offset = offset; funcs = funcs }) (agrees_list exact_number agrees_number)))

agrees_segment : {len : ℕ} (nesting : ℕ) → Agrees len (segment_at nesting) (segment_plan len nesting)
unfolding segment_at segment_plan
agrees_segment nesting =
    agrees_then exact_number agrees_number (λ memory. agrees_then (exact_instrs nesting) (agrees_instrs nesting) (λ offset.
    agrees_map (λ contents. record { memory = memory; offset = offset; bytes = contents }) agrees_bytes))

-- ---- contents

agrees_remaining : {len : ℕ} → Agrees len rest_of_region (one Rest)
unfolding accept
agrees_remaining = record { agree = λ left le few. whole_pair (local rest_of_region left) }

agrees_custom : {len : ℕ} → Agrees len custom_at (andThen name_plan (λ name. andThen (one Rest) (λ bs. Complete (section.Custom name bs))))
unfolding custom_at then_at done_at
agrees_custom {len} =
    let a : Agrees len (then_at name_at (λ name. then_at rest_of_region (λ bs. done_at (section.Custom name bs)))) (andThen name_plan (λ name. andThen (one Rest) (λ bs. Complete (section.Custom name bs)))) =
    agrees_then exact_name agrees_name (λ name. agrees_map (section.Custom name) agrees_remaining) in
    record { agree = λ left le few. a.agree left le few }

agrees_start : {len : ℕ} → Agrees len start_at (Want Here (λ at. andThen (one Number) (λ n. Complete (section.Start n at))))
unfolding start_at accept then_at done_at
agrees_start {len} = record {
  agree = λ left le few.
      let at = place left.end left.bytes in
      let a : Agrees len (then_at number_at (λ n. done_at (section.Start n at))) (andThen (one Number) (λ n. Complete (section.Start n at))) = agrees_map (λ n. section.Start n at) agrees_number in
      a.agree left le few;
}

agrees_count : {len : ℕ} (declared : ℕ) → Agrees len (count_at declared) (one (Count declared))
unfolding accept
agrees_count declared = record { agree = λ left le few. whole_pair (local (count_at declared) left) }

shrinks_count : (declared : ℕ) → Shrinks (count_at declared)
unfolding count_at
shrinks_count declared = record {
  left = λ end bytes rest x le e.
      let p = bind_ok (number_at end bytes) (λ n. cond (eqb n.0 declared) (Ok n) (Err (Malformed (place end bytes) word.Count))) (x, rest) e in
      elim (chosen (eqb p.0.0 declared) (ok p.0) (Err (Malformed (place end bytes) word.Count)) (ok (x, rest)) p.2) [
        | inl h ↦
            let s = ok_is p.0 (x, rest) h.1 in
            let t = exact_number.takes end bytes p.0.1 p.0.0 le p.1 in
            omega (arith, ap length t.parts, length-append t.text p.0.1, ap (λ (z : ℕ × List ℕ). length z.1) s)
        | inr h ↦ absurd (let k = h.1 in cc)
      ];
}

count_first : {B : Type 0} (v : Result (ℕ × List ℕ) DecodeFault) (c : ℕ → Bool) (d : DecodeFault) (g : ℕ × List ℕ → Result B DecodeFault) →
    (v >>= λ n. cond (c n.0) (g n) (Err d)) ≡ ((v >>= λ n. cond (c n.0) (Ok n) (Err d)) >>= g)
count_first (Err e) c d g = refl
count_first {B} (Ok n) c d g = go (c n.0)
  where
    go : (b : Bool) → cond b (g n) (Err d) ≡ (cond b (Ok n) (Err d) >>= g)
    go true = refl
    go false = refl

agrees_bodies : {len : ℕ} (most : Bounds) (declared : ℕ) →
    Agrees len (bodies_at most declared) (andThen (one (Count declared)) (λ n. andThen (entries_plan (body_plan len most.locals most.nesting) n) (λ x. Complete (section.Bodies x.0))))
unfolding bodies_at count_at then_at done_at
agrees_bodies {len} most declared =
    agrees_same {r = then_at (count_at declared) (λ n. then_at (entries_at (body_at most.locals most.nesting) n) (λ x. done_at (section.Bodies x.0)))}
    (λ end bytes. count_first (number_at end bytes) (λ n. eqb n declared) (Malformed (place end bytes) word.Count) (λ n. entries_at (body_at most.locals most.nesting) n.0 end n.1 >>= λ x. Ok (section.Bodies x.0.0, x.1)))
    (agrees_next (shrinks_count declared) (agrees_count declared) (λ n. agrees_map (λ x. section.Bodies x.0) (agrees_entries (exact_body most.locals most.nesting) (agrees_body most.locals most.nesting) n)))

pub agrees_contents : {len : ℕ} (most : Bounds) (declared id : ℕ) → Agrees len (contents_at most declared id) (contents_plan len most declared id)
unfolding contents_at contents_plan types_at imports_at funcs_at tables_at memories_at globals_at exports_at elems_at segments_at
agrees_contents most declared id =
    agrees_either (eqb id 0) agrees_custom
    (agrees_either (eqb id 1) (agrees_map (λ x. section.Types x.0 x.1) (agrees_limited most.types limit.Types (exact_func_type most.params) (agrees_func_type most.params)))
    (agrees_either (eqb id 2) (agrees_map (λ x. section.Imports x.0 x.1) (agrees_limited most.imports limit.Imports exact_import agrees_import))
    (agrees_either (eqb id 3) (agrees_map (λ x. section.Funcs x.0 x.1) (agrees_limited most.functions limit.Functions exact_number agrees_number))
    (agrees_either (eqb id 4) (agrees_map (λ x. section.Tables x.0 x.1) (agrees_vector exact_table_type agrees_table_type))
    (agrees_either (eqb id 5) (agrees_map (λ x. section.Memories x.0 x.1) (agrees_vector exact_limits agrees_limits))
    (agrees_either (eqb id 6) (agrees_map (λ x. section.Globals x.0 x.1) (agrees_limited most.globals limit.Globals (exact_global most.nesting) (agrees_global most.nesting)))
    (agrees_either (eqb id 7) (agrees_map (λ x. section.Exports x.0 x.1) (agrees_vector exact_export agrees_export))
    (agrees_either (eqb id 8) agrees_start
    (agrees_either (eqb id 9) (agrees_map (λ x. section.Elems x.0 x.1) (agrees_vector (exact_elem most.nesting) (agrees_elem most.nesting)))
    (agrees_either (eqb id 10) (agrees_bodies most declared)
    (agrees_map (λ x. section.Segments x.0 x.1) (agrees_vector (exact_segment most.nesting) (agrees_segment most.nesting)))))))))))))
