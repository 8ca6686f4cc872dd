-- The last section that has an entry, by the parts of a module.
use Rattle.std.proofs.Common.{◌≡◌, ℕ, zero, suc, ◌<◌, ◌≤◌, Bool, true, false, if◌then◌else◌, cond, eqb, List, [], ◌∷◌, length, Option, Some, None, inl, inr, refl, sym, ap, ◌∙◌, arith}
use Rattle.std.specs.Prelude.{◌==◌, nat_lt, is_some}
use Rattle.std.proofs.lemmas.Bool.{eqb-true, eqb-false, eq-eqb, ne_eqb, lt-ltb}
use Rattle.wasm_syntax.specs.declared.module.FuncType.{FuncType}
use Rattle.wasm_syntax.specs.declared.module.Limits.{Limits}
use Rattle.wasm_syntax.specs.declared.module.Import.{Import}
use Rattle.wasm_syntax.specs.declared.module.Export.{Export}
use Rattle.wasm_syntax.specs.declared.module.Global.{Global}
use Rattle.wasm_syntax.specs.declared.module.Func.{Func}
use Rattle.wasm_syntax.specs.declared.module.Elem.{Elem}
use Rattle.wasm_syntax.specs.declared.module.Segment.{Segment}
use Rattle.wasm_syntax.specs.declared.module.Module.{Module}
use Rattle.wasm_syntax.specs.declared.module.Marks.{Marks}
use Rattle.binary_grammar.specs.declared.section.Body.{Body}
use Rattle.binary_grammar.specs.declared.section.Section.{Section}
use Rattle.binary_grammar.specs.declared.section.Section.TheVariants as section
use Rattle.binary_grammar.specs.ModuleGrammar.{id_of, Rising, given, AreFuncs, type_section, import_section, function_section, table_section, memory_section, global_section, export_section, start_section, element_section, code_section, data_section, entry_count, last_filled, AreParts}
use Rattle.wasm_seal.specs.Sealed.{last_entry}

-- the id of the last section that has an entry
abbrev pub filled : ℕ → List Section → ℕ
filled last [] = last
filled last (s ∷ ss) = filled (last_filled last s) ss

-- how many entries the section with an id has
abbrev count : ℕ → List Section → ℕ
count i [] = 0
count i (s ∷ ss) = if id_of s == i then entry_count s else count i ss

-- the greatest id up to a bound of a section that has an entry
abbrev pick : ℕ → ℕ → List Section → ℕ
pick zero f ss = f
pick (suc n) f ss = if nat_lt 0 (count (suc n) ss) then suc n else pick n f ss

count_here : (i : ℕ) (s : Section) (ss : List Section) → id_of s ≡ i → count i (s ∷ ss) ≡ entry_count s
count_here i s ss e = rw (eq-eqb (id_of s) i e) refl

count_other : (i : ℕ) (s : Section) (ss : List Section) → (id_of s ≡ i → ⊥) → count i (s ∷ ss) ≡ count i ss
count_other i s ss ne = by (eqb (id_of s) i) refl
  where
    by : (b : Bool) → eqb (id_of s) i ≡ b → cond b (entry_count s) (count i ss) ≡ count i ss
    by true e = absurd (ne (eqb-true (id_of s) i e))
    by false e = refl

-- no section behind others has an id up to the last
none_behind : (last i : ℕ) (ss : List Section) → Rising last ss → 0 < i → i ≤ last → count i ss ≡ 0
none_behind last i [] h some le = refl
none_behind last i (s ∷ ss) (inl h) some le = count_other i s ss (λ e. omega (arith, h.0, e)) ∙ none_behind last i ss h.1 some le
none_behind last i (s ∷ ss) (inr h) some le = count_other i s ss (λ e. omega (arith, h.0, e)) ∙ none_behind (id_of s) i ss h.1 some (omega (arith, h.0))

-- where no id up to a bound has an entry
pick_none : (n f : ℕ) (ss : List Section) → ((i : ℕ) → 0 < i → i ≤ n → count i ss ≡ 0) → pick n f ss ≡ f
pick_none zero f ss none = refl
pick_none (suc n) f ss none =
    let e : count (suc n) ss ≡ 0 = none (suc n) (omega arith) (omega arith) in
    rw e (pick_none n f ss (λ i some le. none i some (omega arith)))

-- the same counts give the same
pick_same : (n f : ℕ) (ss ts : List Section) → ((i : ℕ) → 0 < i → i ≤ n → count i ss ≡ count i ts) → pick n f ss ≡ pick n f ts
pick_same zero f ss ts same = refl
pick_same (suc n) f ss ts same =
    rw (same (suc n) (omega arith) (omega arith), pick_same n f ss ts (λ i some le. same i some (omega arith))) refl

abbrev chosen : ℕ → ℕ → ℕ → ℕ
chosen f k entries = if entries == 0 then f else k

choice : (f k entries : ℕ) → cond (nat_lt 0 entries) k f ≡ chosen f k entries
choice f k zero = refl
choice f k (suc n) = rw (lt-ltb 0 (suc n) (omega arith), ne_eqb (suc n) 0 (λ e. omega arith)) refl

-- a section that is not custom, in front of those with greater ids
pick_first : (n f : ℕ) (s : Section) (ss : List Section) → 0 < id_of s → id_of s ≤ n → Rising (id_of s) ss → pick n (last_filled f s) ss ≡ pick n f (s ∷ ss)
pick_first zero f s ss some le h = absurd (omega arith)
pick_first (suc n) f s ss some le h = by (eqb (id_of s) (suc n)) refl (λ small. pick_first n f s ss some small h)
  where
    by : (b : Bool) → eqb (id_of s) (suc n) ≡ b → (id_of s ≤ n → pick n (last_filled f s) ss ≡ pick n f (s ∷ ss)) → pick (suc n) (last_filled f s) ss ≡ pick (suc n) f (s ∷ ss)
    by true e again =
        let k : id_of s ≡ suc n = eqb-true (id_of s) (suc n) e in
        let left : pick (suc n) (last_filled f s) ss ≡ last_filled f s = pick_none (suc n) (last_filled f s) ss (λ i small few. none_behind (id_of s) i ss h small (omega (arith, k))) in
        let low : pick n f (s ∷ ss) ≡ f = pick_none n f (s ∷ ss) (λ i small few. count_other i s ss (λ q. omega (arith, k, q)) ∙ none_behind (id_of s) i ss h small (omega (arith, k))) in
        left ∙ ap (λ m. chosen f m (entry_count s)) k ∙ sym (rw (count_here (suc n) s ss k, low) (choice f (suc n) (entry_count s)))
    by false e again =
        let ne = eqb-false (id_of s) (suc n) e in
        rw (count_other (suc n) s ss ne, again (omega (arith, ne))) refl

custom_entries : (s : Section) → id_of s ≡ 0 → entry_count s ≡ 0
custom_entries (section.Custom name bytes) e = refl
custom_entries (section.Types es ps) e = absurd (omega (arith, e))
custom_entries (section.Imports es ps) e = absurd (omega (arith, e))
custom_entries (section.Funcs es ps) e = absurd (omega (arith, e))
custom_entries (section.Tables es ps) e = absurd (omega (arith, e))
custom_entries (section.Memories es ps) e = absurd (omega (arith, e))
custom_entries (section.Globals es ps) e = absurd (omega (arith, e))
custom_entries (section.Exports es ps) e = absurd (omega (arith, e))
custom_entries (section.Start n p) e = absurd (omega (arith, e))
custom_entries (section.Elems es ps) e = absurd (omega (arith, e))
custom_entries (section.Bodies bs) e = absurd (omega (arith, e))
custom_entries (section.Segments es ps) e = absurd (omega (arith, e))

small_id : (s : Section) → id_of s ≤ 11
small_id (section.Custom name bytes) = omega arith
small_id (section.Types es ps) = omega arith
small_id (section.Imports es ps) = omega arith
small_id (section.Funcs es ps) = omega arith
small_id (section.Tables es ps) = omega arith
small_id (section.Memories es ps) = omega arith
small_id (section.Globals es ps) = omega arith
small_id (section.Exports es ps) = omega arith
small_id (section.Start n p) = omega arith
small_id (section.Elems es ps) = omega arith
small_id (section.Bodies bs) = omega arith
small_id (section.Segments es ps) = omega arith

filled_picks : (last f : ℕ) (ss : List Section) → Rising last ss → filled f ss ≡ pick 11 f ss
filled_picks last f [] h = sym (pick_none 11 f [] (λ i some le. refl))
filled_picks last f (s ∷ ss) (inl h) =
    let none : last_filled f s ≡ f = ap (λ n. if n == 0 then f else id_of s) (custom_entries s h.0) in
    ap (λ g. filled g ss) none ∙ filled_picks last f ss h.1 ∙ pick_same 11 f ss (s ∷ ss) (λ i some le. sym (count_other i s ss (λ e. omega (arith, h.0, e))))
filled_picks last f (s ∷ ss) (inr h) =
    filled_picks (id_of s) (last_filled f s) ss h.1 ∙ pick_first 11 f s ss (omega (arith, h.0)) (small_id s) h.1

-- ---- by the parts of a module

-- what a kind gives of a section: what has its entries, or nothing where the id is another
abbrev SaysBy : {A : Type 0} → (Section → Option A) → (A → ℕ) → Section → Bool → Type 0
SaysBy {A} kind size s true = (x : A) × (kind s ≡ Some x) × (size x ≡ entry_count s)
SaysBy kind size s false = kind s ≡ None

abbrev Says : {A : Type 0} → ℕ → (Section → Option A) → (A → ℕ) → Section → Type 0
Says i kind size s = SaysBy kind size s (id_of s == i)

count_by : {A : Type 0} (kind : Section → Option A) (none : A) (size : A → ℕ) (s : Section) (ss : List Section) (n : ℕ) (b : Bool) → SaysBy kind size s b → n ≡ size (given kind none ss) →
    cond b (entry_count s) n ≡ size (given kind none (s ∷ ss))
count_by kind none size s ss n true h e = rw h.1 (sym h.2)
count_by kind none size s ss n false h e = rw h e

counted : {A : Type 0} (i : ℕ) (kind : Section → Option A) (none : A) (size : A → ℕ) → size none ≡ 0 → ((s : Section) → Says i kind size s) → (ss : List Section) → count i ss ≡ size (given kind none ss)
counted i kind none size empty says [] = sym empty
counted i kind none size empty says (s ∷ ss) = count_by kind none size s ss (count i ss) (id_of s == i) (says s) (counted i kind none size empty says ss)

abbrev some : Option ℕ → ℕ
some None = 0
some (Some n) = 1

says_types : (s : Section) → Says 1 type_section (λ (x : List FuncType × List ℕ). length x.0) s
says_types (section.Types es ps) = ((es, ps), refl, refl)
says_types _ = refl

says_imports : (s : Section) → Says 2 import_section (λ (x : List Import × List ℕ). length x.0) s
says_imports (section.Imports es ps) = ((es, ps), refl, refl)
says_imports _ = refl

says_declared : (s : Section) → Says 3 function_section (λ (x : List ℕ × List ℕ). length x.0) s
says_declared (section.Funcs es ps) = ((es, ps), refl, refl)
says_declared _ = refl

says_tables : (s : Section) → Says 4 table_section (λ (x : List Limits × List ℕ). length x.0) s
says_tables (section.Tables es ps) = ((es, ps), refl, refl)
says_tables _ = refl

says_memories : (s : Section) → Says 5 memory_section (λ (x : List Limits × List ℕ). length x.0) s
says_memories (section.Memories es ps) = ((es, ps), refl, refl)
says_memories _ = refl

says_globals : (s : Section) → Says 6 global_section (λ (x : List Global × List ℕ). length x.0) s
says_globals (section.Globals es ps) = ((es, ps), refl, refl)
says_globals _ = refl

says_exports : (s : Section) → Says 7 export_section (λ (x : List Export × List ℕ). length x.0) s
says_exports (section.Exports es ps) = ((es, ps), refl, refl)
says_exports _ = refl

says_start : (s : Section) → Says 8 start_section (λ (x : Option ℕ × ℕ). some x.0) s
says_start (section.Start n p) = ((Some n, p), refl, refl)
says_start _ = refl

says_elems : (s : Section) → Says 9 element_section (λ (x : List Elem × List ℕ). length x.0) s
says_elems (section.Elems es ps) = ((es, ps), refl, refl)
says_elems _ = refl

says_bodies : (s : Section) → Says 10 code_section (λ (x : List Body). length x) s
says_bodies (section.Bodies bs) = (bs, refl, refl)
says_bodies _ = refl

says_segments : (s : Section) → Says 11 data_section (λ (x : List Segment × List ℕ). length x.0) s
says_segments (section.Segments es ps) = ((es, ps), refl, refl)
says_segments _ = refl

func_counts : (ts : List ℕ) (bs : List Body) (fs : List Func) → AreFuncs ts bs fs → (length ts ≡ length fs) × (length bs ≡ length fs)
func_counts [] [] [] h = (refl, refl)
func_counts (t ∷ ts) (b ∷ bs) (f ∷ fs) h = let r = func_counts ts bs fs h.1 in (ap suc r.0, ap suc r.1)
func_counts [] [] (f ∷ fs) h = absurd h
func_counts [] (b ∷ bs) fs h = absurd h
func_counts (t ∷ ts) [] fs h = absurd h
func_counts (t ∷ ts) (b ∷ bs) [] h = absurd h

started : (o : Option ℕ) → nat_lt 0 (some o) ≡ is_some o
started None = refl
started (Some n) = refl

-- the choice by the ids is that by the parts
abbrev nested : Bool → Bool → Bool → Bool → Bool → Bool → Bool → Bool → Bool → Bool → Bool → ℕ
nested s11 s10 s9 s8 s7 s6 s5 s4 s3 s2 s1 =
    cond s11 11 (cond s10 10 (cond s9 9 (cond s8 8 (cond s7 7 (cond s6 6 (cond s5 5 (cond s4 4 (cond s3 3 (cond s2 2 (cond s1 1 0))))))))))

twice : (s11 s10 s9 s8 s7 s6 s5 s4 s2 s1 : Bool) →
    nested s11 s10 s9 s8 s7 s6 s5 s4 s10 s2 s1 ≡ cond s11 11 (cond s10 10 (cond s9 9 (cond s8 8 (cond s7 7 (cond s6 6 (cond s5 5 (cond s4 4 (cond s2 2 (cond s1 1 0)))))))))
twice s11 true s9 s8 s7 s6 s5 s4 s2 s1 = refl
twice s11 false s9 s8 s7 s6 s5 s4 s2 s1 = refl

-- the parts tell how many entries each section has
record Counts (ss : List Section) (m : Module) : Type 0 where
  c1 : count 1 ss ≡ length m.types
  c2 : count 2 ss ≡ length m.imports
  c3 : count 3 ss ≡ length m.funcs
  c4 : count 4 ss ≡ length m.tables
  c5 : count 5 ss ≡ length m.memories
  c6 : count 6 ss ≡ length m.globals
  c7 : count 7 ss ≡ length m.exports
  c8 : count 8 ss ≡ some m.start
  c9 : count 9 ss ≡ length m.elems
  c10 : count 10 ss ≡ length m.funcs
  c11 : count 11 ss ≡ length m.segments

counts : (ss : List Section) (m : Module) (k : Marks) → AreParts ss m k → Counts ss m
counts ss m k h =
    let f = func_counts (given function_section ([], []) ss).0 (given code_section [] ss) m.funcs h.funcs in
    record {
      c1 = counted 1 type_section ([], []) (λ (x : List FuncType × List ℕ). length x.0) refl says_types ss ∙ sym (ap (λ (x : List FuncType × List ℕ). length x.0) h.types);
      c2 = counted 2 import_section ([], []) (λ (x : List Import × List ℕ). length x.0) refl says_imports ss ∙ sym (ap (λ (x : List Import × List ℕ). length x.0) h.imports);
      c3 = counted 3 function_section ([], []) (λ (x : List ℕ × List ℕ). length x.0) refl says_declared ss ∙ f.0;
      c4 = counted 4 table_section ([], []) (λ (x : List Limits × List ℕ). length x.0) refl says_tables ss ∙ sym (ap (λ (x : List Limits × List ℕ). length x.0) h.tables);
      c5 = counted 5 memory_section ([], []) (λ (x : List Limits × List ℕ). length x.0) refl says_memories ss ∙ sym (ap (λ (x : List Limits × List ℕ). length x.0) h.memories);
      c6 = counted 6 global_section ([], []) (λ (x : List Global × List ℕ). length x.0) refl says_globals ss ∙ sym (ap (λ (x : List Global × List ℕ). length x.0) h.globals);
      c7 = counted 7 export_section ([], []) (λ (x : List Export × List ℕ). length x.0) refl says_exports ss ∙ sym (ap (λ (x : List Export × List ℕ). length x.0) h.exports);
      c8 = counted 8 start_section (None, 0) (λ (x : Option ℕ × ℕ). some x.0) refl says_start ss ∙ sym (ap (λ (x : Option ℕ × ℕ). some x.0) h.start);
      c9 = counted 9 element_section ([], []) (λ (x : List Elem × List ℕ). length x.0) refl says_elems ss ∙ sym (ap (λ (x : List Elem × List ℕ). length x.0) h.elems);
      c10 = counted 10 code_section [] (λ (x : List Body). length x) refl says_bodies ss ∙ f.1;
      c11 = counted 11 data_section ([], []) (λ (x : List Segment × List ℕ). length x.0) refl says_segments ss ∙ sym (ap (λ (x : List Segment × List ℕ). length x.0) h.segments);
    }

pub last_filled_is : (ss : List Section) (m : Module) (k : Marks) → Rising 0 ss → AreParts ss m k → filled 0 ss ≡ last_entry m
last_filled_is ss m k rising parts =
    let c = counts ss m k parts in
    let all : pick 11 0 ss ≡ nested (nat_lt 0 (length m.segments)) (nat_lt 0 (length m.funcs)) (nat_lt 0 (length m.elems)) (is_some m.start) (nat_lt 0 (length m.exports)) (nat_lt 0 (length m.globals)) (nat_lt 0 (length m.memories)) (nat_lt 0 (length m.tables)) (nat_lt 0 (length m.funcs)) (nat_lt 0 (length m.imports)) (nat_lt 0 (length m.types)) =
    rw (c.c11, c.c10, c.c9, c.c8, c.c7, c.c6, c.c5, c.c4, c.c3, c.c2, c.c1, started m.start) refl
    in
    filled_picks 0 0 ss rising ∙ all ∙ twice (nat_lt 0 (length m.segments)) (nat_lt 0 (length m.funcs)) (nat_lt 0 (length m.elems)) (is_some m.start) (nat_lt 0 (length m.exports)) (nat_lt 0 (length m.globals)) (nat_lt 0 (length m.memories)) (nat_lt 0 (length m.tables)) (nat_lt 0 (length m.imports)) (nat_lt 0 (length m.types))
