-- Sections are read exactly.
use Rattle.std.proofs.Common.{◌≡◌, ℕ, ◌+◌, ◌<◌, ◌≤◌, Bool, true, false, not, ◌&&◌, cond, ltb, leb, eqb, List, [], ◌∷◌, ◌++◌, length, Result, Ok, Err, ◌⊎◌, inl, inr, refl, sym, ap, subst, ◌∙◌, append_assoc, arith}
use Rattle.std.specs.List.{AllByRecursion}
use Rattle.std.proofs.lemmas.Bool.{ltb-false, le-ltb, leb-false, lt-leb, eqb-true, eqb-false, eq-eqb}
use Rattle.std.proofs.lemmas.List.{append-nil}
use Rattle.wasm_syntax.specs.declared.module.Global.{Global}
use Rattle.wasm_syntax.specs.declared.module.Elem.{Elem}
use Rattle.wasm_syntax.specs.declared.module.Segment.{Segment}
use Rattle.binary_grammar.specs.declared.fault.DecodeFault.{DecodeFault}
use Rattle.binary_grammar.specs.declared.fault.DecodeFault.TheVariants.{Malformed}
use Rattle.binary_grammar.specs.declared.fault.DecodeWord.TheVariants as word
use Rattle.wasm_values.specs.declared.limit.LimitWord.TheVariants as limit
use Rattle.binary_grammar.specs.declared.section.Body.{Body}
use Rattle.binary_grammar.specs.declared.section.Section.{Section}
use Rattle.binary_grammar.specs.declared.section.Section.TheVariants as section
use Rattle.binary_grammar.specs.Bounds.{Bounds}
use Rattle.binary_grammar.specs.words.Reading.{◌>>=◌, Reader, place, then_at, done_at, number_at, byte_at, entries_at, vector_at, name_at}
use Rattle.binary_grammar.specs.words.CodeReading.{body_at}
use Rattle.binary_grammar.specs.words.SectionReading.{global_at, elem_at, segment_at, custom_at, bodies_at, types_at, imports_at, funcs_at, tables_at, memories_at, globals_at, exports_at, start_at, elems_at, segments_at, contents_at, id_at, section_at}
use Rattle.binary_grammar.specs.Grammar.{Spelling, Then, Done, Tagged, SpellsNumber, Many, SpellsVector, SpellsName, SpellsFuncType, SpellsLimits, SpellsTableType, SpellsImport, SpellsExport}
use Rattle.binary_grammar.specs.CodeGrammar.{OfLength, Sized, SpellsBody, NestsAtMost}
use Rattle.binary_grammar.specs.ModuleGrammar.{SpellsGlobal, SpellsElem, SpellsSegment, id_of, SpellsContents, SpellsSection, FuncTypeWithin, GlobalWithin, ElemWithin, SegmentWithin}
use Rattle.binary_grammar.proofs.Drafts.{InOrder, Counts}
use Rattle.binary_grammar.proofs.NumberLaws.{chosen}
use Rattle.binary_grammar.proofs.Exact.{Limited, Exact, Splits, ok, ok_is, bind_ok, place_after, shorter, exact_then, exact_done, free, exact_number, byte_taken, byte_again, exact_as, exact_entries, exact_vector}
use Rattle.binary_grammar.proofs.TypeLaws.{exact_name, exact_bytes, exact_limited, exact_func_type, exact_table_type, exact_limits, exact_global_type, exact_import, exact_export, list_free, none_limited, all_free}
use Rattle.binary_grammar.proofs.CodeLaws.{exact_instrs}
use Rattle.binary_grammar.proofs.BodyLaws.{Whole, whole_of, exact_sized, BodyWithin, exact_body}

abbrev err : {A : Type 0} → DecodeFault → Result A DecodeFault
err e = Err e

-- ---- entries with an expression

abbrev pub GlobalNests : ℕ → Limited Global
GlobalNests nesting g = NestsAtMost nesting g.init

abbrev pub ElemNests : ℕ → Limited Elem
ElemNests nesting e = NestsAtMost nesting e.offset

abbrev pub SegmentNests : ℕ → Limited Segment
SegmentNests nesting s = NestsAtMost nesting s.offset

pub exact_global : (nesting : ℕ) → Exact (global_at nesting) SpellsGlobal (GlobalNests nesting)
unfolding global_at SpellsGlobal Done
exact_global nesting = exact_then exact_global_type (λ t. exact_then (exact_instrs nesting) (λ init. exact_done (record { ty = t; init = init })) (record {
  split = λ init at text y q u. (subst (GlobalNests nesting) q.1 u, tt);
  join = λ init at text y q w v. subst (GlobalNests nesting) (sym q.1) w;
})) (none_limited (GlobalNests nesting))

pub exact_elem : (nesting : ℕ) → Exact (elem_at nesting) SpellsElem (ElemNests nesting)
unfolding elem_at SpellsElem Then Done
exact_elem nesting = exact_then exact_number (λ table. exact_then (exact_instrs nesting) (λ offset. exact_then (list_free exact_number) (λ funcs. exact_done (record { table = table; offset = offset; funcs = funcs })) free) (record {
  split = λ offset at text y q u. (subst (ElemNests nesting) q.5.1 u, tt);
  join = λ offset at text y q w v. subst (ElemNests nesting) (sym q.5.1) w;
})) (none_limited (ElemNests nesting))

pub exact_segment : (nesting : ℕ) → Exact (segment_at nesting) SpellsSegment (SegmentNests nesting)
unfolding segment_at SpellsSegment Then Done
exact_segment nesting = exact_then exact_number (λ memory. exact_then (exact_instrs nesting) (λ offset. exact_then exact_bytes (λ contents. exact_done (record { memory = memory; offset = offset; bytes = contents })) free) (record {
  split = λ offset at text y q u. (subst (SegmentNests nesting) q.5.1 u, tt);
  join = λ offset at text y q w v. subst (SegmentNests nesting) (sym q.5.1) w;
})) (none_limited (SegmentNests nesting))

-- ---- contents

-- the limits of a section
abbrev pub SectionWithin : Bounds → Limited Section
SectionWithin most (section.Types es ps) = (length es ≤ most.types) × AllByRecursion (FuncTypeWithin most) es
SectionWithin most (section.Imports es ps) = length es ≤ most.imports
SectionWithin most (section.Funcs es ps) = length es ≤ most.functions
SectionWithin most (section.Globals es ps) = (length es ≤ most.globals) × AllByRecursion (GlobalWithin most) es
SectionWithin most (section.Elems es ps) = AllByRecursion (ElemWithin most) es
SectionWithin most (section.Segments es ps) = AllByRecursion (SegmentWithin most) es
SectionWithin most (section.Bodies bs) = AllByRecursion (BodyWithin most.locals most.nesting) bs
SectionWithin most _ = Unit {0}

abbrev pub Fits : Bounds → ℕ → Limited Section
Fits most declared s = SectionWithin most s × Counts declared s

-- what is put into a section
put : {A : Type 0} {r : Reader A} {P : Spelling A} {W : Limited A} {U : Limited Section} (f : A → Section) → Exact r P W → ((x : A) → W x → U (f x)) → ((x : A) → U (f x) → W x) →
    Exact (then_at r (λ x. done_at (f x))) (λ at text s. (x : A) × P at text x × (s ≡ f x)) U
unfolding Then Done
put {A} {r} {P} {W} {U} f er there back =
    exact_as (exact_then er (λ x. exact_done (f x)) (record {
      split = λ x at text y q u. (back x (subst U q.1 u), tt);
      join = λ x at text y q w v. subst U (sym q.1) (there x w);
    }))
    (λ at text y h. (h.0, subst (λ t. P at t h.0) (sym (h.3 ∙ ap (λ t. h.1 ++ t) h.5.0 ∙ append-nil h.1)) h.4, h.5.1))
    (λ at text y h. (h.0, text, [], sym (append-nil text), h.1, (refl, h.2)))

exact_types : (most : Bounds) (declared : ℕ) → Exact (types_at most) (λ at text s. (x : _) × SpellsVector SpellsFuncType at text x × (s ≡ section.Types x.0 x.1)) (Fits most declared)
unfolding types_at
exact_types most declared = put (λ x. section.Types x.0 x.1) (exact_limited most.types limit.Types (exact_func_type most.params)) (λ x w. (w, tt)) (λ x u. u.0)

exact_imports : (most : Bounds) (declared : ℕ) → Exact (imports_at most) (λ at text s. (x : _) × SpellsVector SpellsImport at text x × (s ≡ section.Imports x.0 x.1)) (Fits most declared)
unfolding imports_at
exact_imports most declared = put (λ x. section.Imports x.0 x.1) (exact_limited most.imports limit.Imports exact_import) (λ x w. (w.0, tt)) (λ x u. (u.0, all_free x.0))

exact_funcs : (most : Bounds) (declared : ℕ) → Exact (funcs_at most) (λ at text s. (x : _) × SpellsVector SpellsNumber at text x × (s ≡ section.Funcs x.0 x.1)) (Fits most declared)
unfolding funcs_at
exact_funcs most declared = put (λ x. section.Funcs x.0 x.1) (exact_limited most.functions limit.Functions exact_number) (λ x w. (w.0, tt)) (λ x u. (u.0, all_free x.0))

exact_tables : (most : Bounds) (declared : ℕ) → Exact (tables_at) (λ at text s. (x : _) × SpellsVector SpellsTableType at text x × (s ≡ section.Tables x.0 x.1)) (Fits most declared)
unfolding tables_at
exact_tables most declared = put (λ x. section.Tables x.0 x.1) (exact_vector exact_table_type) (λ x w. (tt, tt)) (λ x u. all_free x.0)

exact_memories : (most : Bounds) (declared : ℕ) → Exact (memories_at) (λ at text s. (x : _) × SpellsVector SpellsLimits at text x × (s ≡ section.Memories x.0 x.1)) (Fits most declared)
unfolding memories_at
exact_memories most declared = put (λ x. section.Memories x.0 x.1) (exact_vector exact_limits) (λ x w. (tt, tt)) (λ x u. all_free x.0)

exact_globals : (most : Bounds) (declared : ℕ) → Exact (globals_at most) (λ at text s. (x : _) × SpellsVector SpellsGlobal at text x × (s ≡ section.Globals x.0 x.1)) (Fits most declared)
unfolding globals_at
exact_globals most declared = put (λ x. section.Globals x.0 x.1) (exact_limited most.globals limit.Globals (exact_global most.nesting)) (λ x w. (w, tt)) (λ x u. u.0)

exact_exports : (most : Bounds) (declared : ℕ) → Exact (exports_at) (λ at text s. (x : _) × SpellsVector SpellsExport at text x × (s ≡ section.Exports x.0 x.1)) (Fits most declared)
unfolding exports_at
exact_exports most declared = put (λ x. section.Exports x.0 x.1) (exact_vector exact_export) (λ x w. (tt, tt)) (λ x u. all_free x.0)

exact_elems : (most : Bounds) (declared : ℕ) → Exact (elems_at most) (λ at text s. (x : _) × SpellsVector SpellsElem at text x × (s ≡ section.Elems x.0 x.1)) (Fits most declared)
unfolding elems_at
exact_elems most declared = put (λ x. section.Elems x.0 x.1) (exact_vector (exact_elem most.nesting)) (λ x w. (w, tt)) (λ x u. u.0)

exact_segments : (most : Bounds) (declared : ℕ) → Exact (segments_at most) (λ at text s. (x : _) × SpellsVector SpellsSegment at text x × (s ≡ section.Segments x.0 x.1)) (Fits most declared)
unfolding segments_at
exact_segments most declared = put (λ x. section.Segments x.0 x.1) (exact_vector (exact_segment most.nesting)) (λ x w. (w, tt)) (λ x u. u.0)

-- the contents of the section with an id
abbrev OfId : ℕ → Spelling Section
OfId id at text s = (id ≡ id_of s) × SpellsContents at text s

custom_takes : (end : ℕ) (text : List ℕ) (s : Section) → length text ≤ end → custom_at end text ≡ Ok (s, []) → OfId 0 (place end text) text s
unfolding custom_at SpellsContents
custom_takes end text s le e =
    let p = bind_ok (name_at end text) (λ name. Ok (section.Custom name.0 name.1, [])) (s, []) e in
    let q = ok_is (section.Custom p.0.0 p.0.1, []) (s, []) p.2 in
    let is : section.Custom p.0.0 p.0.1 ≡ s = ap (λ (z : Section × List ℕ). z.0) q in
    let t = exact_name.takes end text p.0.1 p.0.0 le p.1 in
    subst (OfId 0 (place end text) text) is (refl, (t.text, t.parts, t.spells))

custom_again : (end : ℕ) (text name bytes front : List ℕ) → length text ≤ end → text ≡ front ++ bytes → SpellsName (place end text) front name → custom_at end text ≡ Ok (section.Custom name bytes, [])
unfolding custom_at
custom_again end text name bytes front le e h =
    let le2 : length (front ++ bytes) ≤ end = subst (λ t. length t ≤ end) e le in
    let h2 : SpellsName (place end (front ++ bytes)) front name = subst (λ t. SpellsName (place end t) front name) e h in
    let n : name_at end text ≡ Ok (name, bytes) = ap (name_at end) e ∙ exact_name.again end front bytes name le2 h2 tt in
    rw n refl

exact_start : (most : Bounds) (declared : ℕ) → Exact start_at (λ at text s. (n : ℕ) × SpellsNumber at text n × (s ≡ section.Start n at)) (Fits most declared)
unfolding start_at
exact_start most declared = record {
  takes = λ end bytes rest s le e.
      let p = bind_ok (number_at end bytes) (λ x. Ok (section.Start x.0 (place end bytes), x.1)) (s, rest) e in
      let q = ok_is (section.Start p.0.0 (place end bytes), p.0.1) (s, rest) p.2 in
      let is : section.Start p.0.0 (place end bytes) ≡ s = ap (λ (z : Section × List ℕ). z.0) q in
      let t = exact_number.takes end bytes p.0.1 p.0.0 le p.1 in
      record {
        text = t.text;
        parts = t.parts ∙ ap (λ (z : Section × List ℕ). t.text ++ z.1) q;
        spells = (p.0.0, t.spells, sym is);
        within = subst (Fits most declared) is (tt, tt);
      };
  again = λ end text rest s le h w.
      rw (exact_number.again end text rest h.0 le h.1 tt) (ap (λ t. ok (t, rest)) (sym h.2));
}

-- a vector of bodies, read as entries behind their count
record BodiesRead (most : Bounds) (declared end : ℕ) (bytes rest : List ℕ) (s : Section) : Type 0 where
  bodies : List Body
  places : List ℕ
  vector : vector_at (body_at most.locals most.nesting) end bytes ≡ Ok ((bodies, places), rest)
  count : length bodies ≡ declared
  is : s ≡ section.Bodies bodies

bodies_read : (most : Bounds) (declared end : ℕ) (bytes rest : List ℕ) (s : Section) → length bytes ≤ end → bodies_at most declared end bytes ≡ Ok (s, rest) → BodiesRead most declared end bytes rest s
unfolding bodies_at vector_at then_at Many
bodies_read most declared end bytes rest s le e =
    let r = body_at most.locals most.nesting in
    let p = bind_ok (number_at end bytes) (λ n. cond (eqb n.0 declared) (entries_at r n.0 end n.1 >>= λ x. Ok (section.Bodies x.0.0, x.1)) (err (Malformed (place end bytes) word.Count))) (s, rest) e in
    let n = p.0.0 in
    let mid = p.0.1 in
    elim (chosen (eqb n declared) (entries_at r n end mid >>= λ x. Ok (section.Bodies x.0.0, x.1)) (err (Malformed (place end bytes) word.Count)) (ok (s, rest)) p.2) [
      | inl h ↦
          let q = bind_ok (entries_at r n end mid) (λ x. Ok (section.Bodies x.0.0, x.1)) (s, rest) h.1 in
          let v = ok_is (section.Bodies q.0.0.0, q.0.1) (s, rest) q.2 in
          let t = exact_number.takes end bytes mid n le p.1 in
          let u = (exact_entries (exact_body most.locals most.nesting) n).takes end mid q.0.1 q.0.0 (shorter end bytes t.text mid le t.parts) q.1 in
          record {
            bodies = q.0.0.0;
            places = q.0.0.1;
            vector = ap (λ w. w >>= λ x. entries_at r x.0 end x.1) p.1 ∙ q.1 ∙ ap (λ (z : Section × List ℕ). ok (q.0.0, z.1)) v;
            count = u.spells.0 ∙ eqb-true n declared h.0;
            is = sym (ap (λ (z : Section × List ℕ). z.0) v);
          }
      | inr h ↦ absurd (let k = h.1 in cc)
    ]

bodies_again : (most : Bounds) (declared end : ℕ) (text rest : List ℕ) (bs : List Body) (ps : List ℕ) → length (text ++ rest) ≤ end → SpellsVector SpellsBody (place end (text ++ rest)) text (bs, ps) →
    AllByRecursion (BodyWithin most.locals most.nesting) bs → length bs ≡ declared → bodies_at most declared end (text ++ rest) ≡ Ok (section.Bodies bs, rest)
unfolding bodies_at SpellsVector Then Many
bodies_again most declared end text rest bs ps le h w e =
    let n = h.0 in
    let a = h.1 in
    let b = h.2 in
    let whole : text ++ rest ≡ a ++ (b ++ rest) = ap (λ t. t ++ rest) h.3 ∙ append_assoc a b rest in
    let num : number_at end (text ++ rest) ≡ Ok (n, b ++ rest) =
    ap (number_at end) whole ∙ exact_number.again end a (b ++ rest) n (subst (λ t. length t ≤ end) whole le) (subst (λ t. SpellsNumber (place end t) a n) whole h.4) tt in
    let many : Many SpellsBody n (place end (b ++ rest)) b (bs, ps) = subst (λ at. Many SpellsBody n at b (bs, ps)) (place_after end (text ++ rest) a (b ++ rest) le whole) h.5 in
    let go = (exact_entries (exact_body most.locals most.nesting) n).again end b rest (bs, ps) (shorter end (text ++ rest) a (b ++ rest) le whole) many w in
    let same : eqb n declared ≡ true = eq-eqb n declared (sym h.5.0 ∙ e) in
    rw (num, same, go) refl

exact_bodies : (most : Bounds) (declared : ℕ) → Exact (bodies_at most declared) (λ at text s. (x : List Body × List ℕ) × SpellsVector SpellsBody at text x × (s ≡ section.Bodies x.0)) (Fits most declared)
exact_bodies most declared = record {
  takes = λ end bytes rest s le e.
      let b = bodies_read most declared end bytes rest s le e in
      let t = (exact_vector (exact_body most.locals most.nesting)).takes end bytes rest (b.bodies, b.places) le b.vector in
      record { text = t.text; parts = t.parts; spells = ((b.bodies, b.places), t.spells, b.is); within = subst (Fits most declared) (sym b.is) (t.within, b.count) };
  again = λ end text rest s le h w.
      let f = subst (Fits most declared) h.2 w in
      bodies_again most declared end text rest h.0.0 h.0.1 le h.1 f.0 f.1 ∙ ap (λ t. ok (t, rest)) (sym h.2);
}

custom_fits : (most : Bounds) (declared at : ℕ) (text : List ℕ) (s : Section) → OfId 0 at text s → Fits most declared s
custom_fits most declared at text (section.Custom name bytes) h = (tt, tt)
custom_fits most declared at text (section.Types es ps) h = absurd (omega (arith, h.0))
custom_fits most declared at text (section.Imports es ps) h = absurd (omega (arith, h.0))
custom_fits most declared at text (section.Funcs es ps) h = absurd (omega (arith, h.0))
custom_fits most declared at text (section.Tables es ps) h = absurd (omega (arith, h.0))
custom_fits most declared at text (section.Memories es ps) h = absurd (omega (arith, h.0))
custom_fits most declared at text (section.Globals es ps) h = absurd (omega (arith, h.0))
custom_fits most declared at text (section.Exports es ps) h = absurd (omega (arith, h.0))
custom_fits most declared at text (section.Start n p) h = absurd (omega (arith, h.0))
custom_fits most declared at text (section.Elems es ps) h = absurd (omega (arith, h.0))
custom_fits most declared at text (section.Bodies bs) h = absurd (omega (arith, h.0))
custom_fits most declared at text (section.Segments es ps) h = absurd (omega (arith, h.0))

last_id : (id : ℕ) → id ≤ 11 → (id ≡ 0 → ⊥) → (id ≡ 1 → ⊥) → (id ≡ 2 → ⊥) → (id ≡ 3 → ⊥) → (id ≡ 4 → ⊥) → (id ≡ 5 → ⊥) → (id ≡ 6 → ⊥) → (id ≡ 7 → ⊥) → (id ≡ 8 → ⊥) → (id ≡ 9 → ⊥) → (id ≡ 10 → ⊥) → id ≡ 11
last_id id small n0 n1 n2 n3 n4 n5 n6 n7 n8 n9 n10 = omega (arith, n0, n1, n2, n3, n4, n5, n6, n7, n8, n9, n10)

-- the choice by the id
contents_takes : (most : Bounds) (declared id end : ℕ) (text : List ℕ) (s : Section) → id ≤ 11 → length text ≤ end → contents_at most declared id end text ≡ Ok (s, []) → OfId id (place end text) text s × Fits most declared s
unfolding contents_at SpellsContents
contents_takes most declared id end text s small le e =
    elim (chosen (eqb id 0) (custom_at end text) (cond (eqb id 1) (types_at most end text) (cond (eqb id 2) (imports_at most end text) (cond (eqb id 3) (funcs_at most end text) (cond (eqb id 4) (tables_at end text) (cond (eqb id 5) (memories_at end text) (cond (eqb id 6) (globals_at most end text) (cond (eqb id 7) (exports_at end text) (cond (eqb id 8) (start_at end text) (cond (eqb id 9) (elems_at most end text) (cond (eqb id 10) (bodies_at most declared end text) (segments_at most end text))))))))))) (ok (s, [])) e) [
      | inl h ↦ let o = custom_takes end text s le h.1 in ((eqb-true id 0 h.0 ∙ o.0, o.1), custom_fits most declared (place end text) text s o)
      | inr n0 ↦
          elim (chosen (eqb id 1) (types_at most end text) (cond (eqb id 2) (imports_at most end text) (cond (eqb id 3) (funcs_at most end text) (cond (eqb id 4) (tables_at end text) (cond (eqb id 5) (memories_at end text) (cond (eqb id 6) (globals_at most end text) (cond (eqb id 7) (exports_at end text) (cond (eqb id 8) (start_at end text) (cond (eqb id 9) (elems_at most end text) (cond (eqb id 10) (bodies_at most declared end text) (segments_at most end text)))))))))) (ok (s, [])) n0.1) [
            | inl h ↦ let t = (whole_of (exact_types most declared)).takes end text s le h.1 in (subst (λ z. OfId id (place end text) text z) (sym t.0.2) (eqb-true id 1 h.0, t.0.1), t.1)
            | inr n1 ↦
                elim (chosen (eqb id 2) (imports_at most end text) (cond (eqb id 3) (funcs_at most end text) (cond (eqb id 4) (tables_at end text) (cond (eqb id 5) (memories_at end text) (cond (eqb id 6) (globals_at most end text) (cond (eqb id 7) (exports_at end text) (cond (eqb id 8) (start_at end text) (cond (eqb id 9) (elems_at most end text) (cond (eqb id 10) (bodies_at most declared end text) (segments_at most end text))))))))) (ok (s, [])) n1.1) [
                  | inl h ↦ let t = (whole_of (exact_imports most declared)).takes end text s le h.1 in (subst (λ z. OfId id (place end text) text z) (sym t.0.2) (eqb-true id 2 h.0, t.0.1), t.1)
                  | inr n2 ↦
                      elim (chosen (eqb id 3) (funcs_at most end text) (cond (eqb id 4) (tables_at end text) (cond (eqb id 5) (memories_at end text) (cond (eqb id 6) (globals_at most end text) (cond (eqb id 7) (exports_at end text) (cond (eqb id 8) (start_at end text) (cond (eqb id 9) (elems_at most end text) (cond (eqb id 10) (bodies_at most declared end text) (segments_at most end text)))))))) (ok (s, [])) n2.1) [
                        | inl h ↦ let t = (whole_of (exact_funcs most declared)).takes end text s le h.1 in (subst (λ z. OfId id (place end text) text z) (sym t.0.2) (eqb-true id 3 h.0, t.0.1), t.1)
                        | inr n3 ↦
                            elim (chosen (eqb id 4) (tables_at end text) (cond (eqb id 5) (memories_at end text) (cond (eqb id 6) (globals_at most end text) (cond (eqb id 7) (exports_at end text) (cond (eqb id 8) (start_at end text) (cond (eqb id 9) (elems_at most end text) (cond (eqb id 10) (bodies_at most declared end text) (segments_at most end text))))))) (ok (s, [])) n3.1) [
                              | inl h ↦ let t = (whole_of (exact_tables most declared)).takes end text s le h.1 in (subst (λ z. OfId id (place end text) text z) (sym t.0.2) (eqb-true id 4 h.0, t.0.1), t.1)
                              | inr n4 ↦
                                  elim (chosen (eqb id 5) (memories_at end text) (cond (eqb id 6) (globals_at most end text) (cond (eqb id 7) (exports_at end text) (cond (eqb id 8) (start_at end text) (cond (eqb id 9) (elems_at most end text) (cond (eqb id 10) (bodies_at most declared end text) (segments_at most end text)))))) (ok (s, [])) n4.1) [
                                    | inl h ↦ let t = (whole_of (exact_memories most declared)).takes end text s le h.1 in (subst (λ z. OfId id (place end text) text z) (sym t.0.2) (eqb-true id 5 h.0, t.0.1), t.1)
                                    | inr n5 ↦
                                        elim (chosen (eqb id 6) (globals_at most end text) (cond (eqb id 7) (exports_at end text) (cond (eqb id 8) (start_at end text) (cond (eqb id 9) (elems_at most end text) (cond (eqb id 10) (bodies_at most declared end text) (segments_at most end text))))) (ok (s, [])) n5.1) [
                                          | inl h ↦ let t = (whole_of (exact_globals most declared)).takes end text s le h.1 in (subst (λ z. OfId id (place end text) text z) (sym t.0.2) (eqb-true id 6 h.0, t.0.1), t.1)
                                          | inr n6 ↦
                                              elim (chosen (eqb id 7) (exports_at end text) (cond (eqb id 8) (start_at end text) (cond (eqb id 9) (elems_at most end text) (cond (eqb id 10) (bodies_at most declared end text) (segments_at most end text)))) (ok (s, [])) n6.1) [
                                                | inl h ↦ let t = (whole_of (exact_exports most declared)).takes end text s le h.1 in (subst (λ z. OfId id (place end text) text z) (sym t.0.2) (eqb-true id 7 h.0, t.0.1), t.1)
                                                | inr n7 ↦
                                                    elim (chosen (eqb id 8) (start_at end text) (cond (eqb id 9) (elems_at most end text) (cond (eqb id 10) (bodies_at most declared end text) (segments_at most end text))) (ok (s, [])) n7.1) [
                                                      | inl h ↦ let t = (whole_of (exact_start most declared)).takes end text s le h.1 in (subst (λ z. OfId id (place end text) text z) (sym t.0.2) (eqb-true id 8 h.0, (t.0.1, refl)), t.1)
                                                      | inr n8 ↦
                                                          elim (chosen (eqb id 9) (elems_at most end text) (cond (eqb id 10) (bodies_at most declared end text) (segments_at most end text)) (ok (s, [])) n8.1) [
                                                            | inl h ↦ let t = (whole_of (exact_elems most declared)).takes end text s le h.1 in (subst (λ z. OfId id (place end text) text z) (sym t.0.2) (eqb-true id 9 h.0, t.0.1), t.1)
                                                            | inr n9 ↦
                                                                elim (chosen (eqb id 10) (bodies_at most declared end text) (segments_at most end text) (ok (s, [])) n9.1) [
                                                                  | inl h ↦ let t = (whole_of (exact_bodies most declared)).takes end text s le h.1 in (subst (λ z. OfId id (place end text) text z) (sym t.0.2) (eqb-true id 10 h.0, (t.0.0.1, t.0.1)), t.1)
                                                                  | inr n10 ↦
                                                                      let t = (whole_of (exact_segments most declared)).takes end text s le n10.1 in
                                                                      let eleven : id ≡ 11 = last_id id small (eqb-false id 0 n0.0) (eqb-false id 1 n1.0) (eqb-false id 2 n2.0) (eqb-false id 3 n3.0) (eqb-false id 4 n4.0) (eqb-false id 5 n5.0) (eqb-false id 6 n6.0) (eqb-false id 7 n7.0) (eqb-false id 8 n8.0) (eqb-false id 9 n9.0) (eqb-false id 10 n10.0) in
                                                                      (subst (λ z. OfId id (place end text) text z) (sym t.0.2) (eleven, t.0.1), t.1)
                                                                ]
                                                          ]
                                                    ]
                                              ]
                                        ]
                                  ]
                            ]
                      ]
                ]
          ]
    ]

contents_again : (most : Bounds) (declared id end : ℕ) (text : List ℕ) (s : Section) → length text ≤ end → OfId id (place end text) text s → Fits most declared s → contents_at most declared id end text ≡ Ok (s, [])
unfolding contents_at SpellsContents
contents_again most declared id end text (section.Custom name bytes) le h w = rw h.0 (custom_again end text name bytes h.1.0 le h.1.1 h.1.2)
contents_again most declared id end text (section.Types es ps) le h w = rw h.0 ((whole_of (exact_types most declared)).again end text (section.Types es ps) le ((es, ps), h.1, refl) w)
contents_again most declared id end text (section.Imports es ps) le h w = rw h.0 ((whole_of (exact_imports most declared)).again end text (section.Imports es ps) le ((es, ps), h.1, refl) w)
contents_again most declared id end text (section.Funcs es ps) le h w = rw h.0 ((whole_of (exact_funcs most declared)).again end text (section.Funcs es ps) le ((es, ps), h.1, refl) w)
contents_again most declared id end text (section.Tables es ps) le h w = rw h.0 ((whole_of (exact_tables most declared)).again end text (section.Tables es ps) le ((es, ps), h.1, refl) w)
contents_again most declared id end text (section.Memories es ps) le h w = rw h.0 ((whole_of (exact_memories most declared)).again end text (section.Memories es ps) le ((es, ps), h.1, refl) w)
contents_again most declared id end text (section.Globals es ps) le h w = rw h.0 ((whole_of (exact_globals most declared)).again end text (section.Globals es ps) le ((es, ps), h.1, refl) w)
contents_again most declared id end text (section.Exports es ps) le h w = rw h.0 ((whole_of (exact_exports most declared)).again end text (section.Exports es ps) le ((es, ps), h.1, refl) w)
contents_again most declared id end text (section.Elems es ps) le h w = rw h.0 ((whole_of (exact_elems most declared)).again end text (section.Elems es ps) le ((es, ps), h.1, refl) w)
contents_again most declared id end text (section.Segments es ps) le h w = rw h.0 ((whole_of (exact_segments most declared)).again end text (section.Segments es ps) le ((es, ps), h.1, refl) w)
contents_again most declared id end text (section.Start n p) le h w = rw h.0 ((whole_of (exact_start most declared)).again end text (section.Start n p) le (n, h.1.0, ap (section.Start n) h.1.1) w)
contents_again most declared id end text (section.Bodies bs) le h w = rw h.0 ((whole_of (exact_bodies most declared)).again end text (section.Bodies bs) le ((bs, h.1.0), h.1.1, refl) w)

whole_contents : (most : Bounds) (declared id : ℕ) → id ≤ 11 → Whole (contents_at most declared id) (OfId id) (Fits most declared)
whole_contents most declared id small = record {
  takes = λ end text s le e. contents_takes most declared id end text s small le e;
  again = λ end text s le h w. contents_again most declared id end text s le h w;
}

-- ---- ids

abbrev pub AnyByte : Spelling ℕ
AnyByte at text b = text ≡ b ∷ []

abbrev pub IdFits : ℕ → Limited ℕ
IdFits last b = (b ≤ 11) × InOrder last b

order_of : (c d : Bool) → (not c && d) ≡ false → (c ≡ true) ⊎ (d ≡ false)
order_of true d e = inl refl
order_of false d e = inr e

id_order : (last b : ℕ) → (not (eqb b 0) && leb b last) ≡ false → InOrder last b
id_order last b e = elim (order_of (eqb b 0) (leb b last) e) [ inl h ↦ inl (eqb-true b 0 h) | inr h ↦ inr (leb-false b last h) ]

and_false : (c : Bool) → (not c && false) ≡ false
and_false true = refl
and_false false = refl

order_id : (last b : ℕ) → InOrder last b → (not (eqb b 0) && leb b last) ≡ false
order_id last b (inl h) = rw h refl
order_id last b (inr h) = rw (lt-leb b last h) (and_false (eqb b 0))

pub exact_id : (last : ℕ) → Exact (id_at last) AnyByte (IdFits last)
unfolding id_at
exact_id last = record {
  takes = λ end bytes rest x le e.
      let p = bind_ok (byte_at end bytes) (λ b. cond (ltb 11 b.0) (err (Malformed (place end bytes) word.Byte)) (cond (not (eqb b.0 0) && leb b.0 last) (err (Malformed (place end bytes) word.Order)) (Ok b))) (x, rest) e in
      let b = p.0.0 in
      elim (chosen (ltb 11 b) (err (Malformed (place end bytes) word.Byte)) (cond (not (eqb b 0) && leb b last) (err (Malformed (place end bytes) word.Order)) (ok p.0)) (ok (x, rest)) p.2) [
        | inl h ↦ absurd (let k = h.1 in cc)
        | inr h ↦ elim (chosen (not (eqb b 0) && leb b last) (err (Malformed (place end bytes) word.Order)) (ok p.0) (ok (x, rest)) h.1) [
          | inl k ↦ absurd (let q = k.1 in cc)
          | inr k ↦
              let s = ok_is p.0 (x, rest) k.1 in
              let is : b ≡ x = ap (λ (z : ℕ × List ℕ). z.0) s in
              record {
                text = x ∷ [];
                parts = (byte_taken end bytes p.0 p.1).is ∙ ap (λ (z : ℕ × List ℕ). z.0 ∷ z.1) s;
                spells = refl;
                within = subst (IdFits last) is (ltb-false 11 b h.0, id_order last b k.0);
              }
        ]
      ];
  again = λ end text rest x le h w.
      rw h (rw (byte_again end x rest) (rw (le-ltb 11 x w.0, order_id last x w.1) refl));
}

-- ---- sections

then_within : {A B : Type 0} {r : Reader A} {P : Spelling A} {W : Limited A} {s : A → Reader B} {Q : A → Spelling B} {V : A → Limited B} {U : Limited B} →
    Exact r P W → ((x : A) → W x → Exact (s x) (Q x) (V x)) → Splits W Q V U → Exact (then_at r s) (Then P Q) U
unfolding then_at Then
then_within {A} {B} {r} {P} {W} {s} {Q} {V} {U} er es sp = record {
  takes = λ end bytes rest y le e.
      let b = bind_ok (r end bytes) (λ x. s x.0 end x.1) (y, rest) e in
      let x = b.0.0 in
      let mid = b.0.1 in
      let t = er.takes end bytes mid x le b.1 in
      let u = (es x t.within).takes end mid rest y (shorter end bytes t.text mid le t.parts) b.2 in
      let q : Q x (place end bytes + length t.text) u.text y = subst (λ at. Q x at u.text y) (sym (place_after end bytes t.text mid le t.parts)) u.spells in
      record {
        text = t.text ++ u.text;
        parts = t.parts ∙ ap (λ more. t.text ++ more) u.parts ∙ sym (append_assoc t.text u.text rest);
        spells = (x, t.text, u.text, refl, t.spells, q);
        within = sp.join x (place end bytes + length t.text) u.text y q t.within u.within;
      };
  again = λ end text rest y le h w.
      let x = h.0 in
      let a = h.1 in
      let b = h.2 in
      let whole : text ++ rest ≡ a ++ (b ++ rest) = ap (λ t. t ++ rest) h.3 ∙ append_assoc a b rest in
      let ws = sp.split x (place end (text ++ rest) + length a) b y h.5 w in
      let le2 : length (a ++ (b ++ rest)) ≤ end = subst (λ t. length t ≤ end) whole le in
      let pa : P (place end (a ++ (b ++ rest))) a x = subst (λ t. P (place end t) a x) whole h.4 in
      let first : r end (text ++ rest) ≡ Ok (x, b ++ rest) = ap (r end) whole ∙ er.again end a (b ++ rest) x le2 pa ws.0 in
      let le3 : length (b ++ rest) ≤ end = shorter end (text ++ rest) a (b ++ rest) le whole in
      let qb : Q x (place end (b ++ rest)) b y = subst (λ at. Q x at b y) (place_after end (text ++ rest) a (b ++ rest) le whole) h.5 in
      ap (λ v. v >>= λ z. s z.0 end z.1) first ∙ (es x ws.0).again end b rest y le3 qb ws.1;
}

-- the limits of a section, and that it may stand
abbrev pub Stood : Bounds → ℕ → ℕ → Limited Section
Stood most last declared s = Fits most declared s × InOrder last (id_of s)

id_small : (s : Section) → id_of s ≤ 11
id_small (section.Custom n b) = omega arith
id_small (section.Types es ps) = omega arith
id_small (section.Imports es ps) = omega arith
id_small (section.Funcs es ps) = omega arith
id_small (section.Tables es ps) = omega arith
id_small (section.Memories es ps) = omega arith
id_small (section.Globals es ps) = omega arith
id_small (section.Exports es ps) = omega arith
id_small (section.Start n p) = omega arith
id_small (section.Elems es ps) = omega arith
id_small (section.Bodies bs) = omega arith
id_small (section.Segments es ps) = omega arith

section_splits : (most : Bounds) (last declared : ℕ) → Splits (IdFits last) (λ id. Sized (OfId id)) (λ id. Fits most declared) (Stood most last declared)
unfolding Sized Then OfLength
section_splits most last declared = record {
  split = λ id at text s q u. (subst (IdFits last) (sym q.5.1.0) (id_small s, u.1), u.0);
  join = λ id at text s q w v. (v, subst (InOrder last) q.5.1.0 w.1);
}

sized_id : (id at : ℕ) (text : List ℕ) (s : Section) → Sized (OfId id) at text s → (id ≡ id_of s) × Sized SpellsContents at text s
unfolding Sized Then OfLength
sized_id id at text s h = (h.5.1.0, (h.0, h.1, h.2, h.3, h.4, (h.5.0, h.5.1.1)))

id_sized : (id at : ℕ) (text : List ℕ) (s : Section) → id ≡ id_of s → Sized SpellsContents at text s → Sized (OfId id) at text s
unfolding Sized Then OfLength
id_sized id at text s e h = (h.0, h.1, h.2, h.3, h.4, (h.5.0, (e, h.5.1)))

pub exact_section : (most : Bounds) (last declared : ℕ) → Exact (section_at most last declared) SpellsSection (Stood most last declared)
unfolding section_at SpellsSection Then Tagged
exact_section most last declared =
    exact_as (then_within (exact_id last) (λ id w. exact_sized (whole_contents most declared id w.0)) (section_splits most last declared))
    (λ at text s h. let k = sized_id h.0 (at + length h.1) h.2 s h.5 in
    (h.0, h.2, h.3 ∙ ap (λ t. t ++ h.2) h.4, (k.0, subst (λ n. Sized SpellsContents (at + n) h.2 s) (ap length h.4) k.1)))
    (λ at text s h. (h.0, h.0 ∷ [], h.1, h.2, refl, id_sized h.0 (at + 1) h.1 s h.3.0 h.3.1))

pub some_section : (at : ℕ) (text : List ℕ) (s : Section) → SpellsSection at text s → 0 < length text
unfolding SpellsSection Tagged
some_section at text s h = omega (arith, ap length h.2)
