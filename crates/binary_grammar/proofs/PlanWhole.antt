-- The plan of a module gives what the bytes are read as.
use Rattle.std.proofs.Common.{◌≡◌, ℕ, zero, suc, ◌<◌, ◌≤◌, Bool, true, false, cond, eqb, List, [], ◌∷◌, length, Option, Some, None, Result, Ok, Err, refl, sym, ap, subst, ◌∙◌, arith}
use Rattle.std.specs.Prelude.{◌↔◌}
use Rattle.std.proofs.lemmas.Bool.{eqb-true}
use Rattle.std.proofs.lemmas.List.{length-append}
use Rattle.wasm_syntax.specs.declared.module.Module.{Module}
use Rattle.wasm_syntax.specs.declared.module.Marks.{Marks}
use Rattle.binary_grammar.specs.declared.fault.DecodeFault.{DecodeFault}
use Rattle.binary_grammar.specs.declared.fault.DecodeFault.TheVariants.{Malformed}
use Rattle.binary_grammar.specs.declared.fault.DecodeWord.TheVariants as word
use Rattle.binary_grammar.specs.declared.section.Section.{Section}
use Rattle.binary_grammar.specs.declared.section.Section.TheVariants as section
use Rattle.binary_grammar.specs.declared.section.Draft.{Draft}
use Rattle.binary_grammar.specs.declared.section.Decoded.{Decoded}
use Rattle.binary_grammar.specs.Bounds.{Bounds}
use Rattle.binary_grammar.specs.words.Reading.{◌>>=◌, place, then_at, sized_at}
use Rattle.binary_grammar.specs.words.SectionReading.{contents_at, id_at, section_at, with_section, no_sections, sections_at, whole_module, finished_at, header, header_at, module_at}
use Rattle.binary_grammar.specs.ModuleGrammar.{given, Rising, AreParts}
use Rattle.binary_grammar.specs.Readings.{FileEnd, Left, accept, Plan, Complete, Want, andThen, ReadsTo}
use Rattle.binary_grammar.specs.Plans.{sized_plan, contents_plan, last_behind, declared_behind, sections_plan, functions_of, bodies_of, module_plan, whole_file, ReadsModule, Fault}
use Rattle.binary_grammar.proofs.Drafts.{MayStand, with_sections}
use Rattle.binary_grammar.proofs.DraftLaws.{stand_rising, Gives, gives, parts_of, decoded, module_same, marks_same}
use Rattle.binary_grammar.proofs.Exact.{ok, ok_is, bind_ok, shorter}
use Rattle.binary_grammar.proofs.ModuleLaws.{header_takes}
use Rattle.binary_grammar.proofs.SectionLaws.{exact_id, exact_section, some_section}
use Rattle.binary_grammar.proofs.ReadingLaws.{run, run_reads, reads_run, run_stops, stops_run}
use Rattle.binary_grammar.proofs.PlanLaws.{run_then, Agrees, now, leave}
use Rattle.binary_grammar.proofs.PlanModule.{with_value, agrees_sized, agrees_contents}

-- ---- sections as a list

-- what the sections are read as, one by one
sections_read : Bounds → ℕ → ℕ → ℕ → ℕ → List ℕ → Result (List Section) DecodeFault
sections_read most zero last declared end bytes = Ok []
sections_read most (suc n) last declared end [] = Ok []
sections_read most (suc n) last declared end (b ∷ bs) =
    section_at most last declared end (b ∷ bs) >>= λ s. sections_read most n (last_behind last s.0) (declared_behind declared s.0) end s.1 >>= λ ss. Ok (s.0 ∷ ss)

abbrev listed : Left → Result (List Section) DecodeFault → Result (List Section × Left) DecodeFault
listed left v = v >>= λ ss. Ok (ss, now left [])

abbrev found_next : Result (ℕ × List ℕ) DecodeFault → Result (Option ℕ × List ℕ) DecodeFault
found_next v = v >>= λ x. Ok (Some x.0, x.1)

-- the plan behind a section
abbrev after : ℕ → Bounds → ℕ → ℕ → ℕ → Section → Plan (List Section)
after len most n last declared s = andThen (sections_plan len most n (last_behind last s) (declared_behind declared s)) (λ ss. Complete (s ∷ ss))

-- a section shorter than what was left
section_shrinks : (most : Bounds) (last declared end : ℕ) (bytes rest : List ℕ) (s : Section) → length bytes ≤ end → section_at most last declared end bytes ≡ Ok (s, rest) → length rest < length bytes
section_shrinks most last declared end bytes rest s le e =
    let t = (exact_section most last declared).takes end bytes rest s le e in
    omega (arith, some_section (place end bytes) t.text s t.spells, ap length t.parts, length-append t.text rest)

-- what comes behind a section that was read
abbrev Behind : ℕ → Bounds → ℕ → ℕ → ℕ → Left → Type 0
Behind len most n last declared left = (s : Section) (rest : List ℕ) → section_at most last declared left.end left.bytes ≡ Ok (s, rest) →
    run (sections_plan len most n (last_behind last s) (declared_behind declared s)) (now left rest) ≡ listed left (sections_read most n (last_behind last s) (declared_behind declared s) left.end rest)

one_more : (s : Section) (left : Left) (v : Result (List Section) DecodeFault) → (listed left v >>= λ x. run (Complete (s ∷ x.0)) x.1) ≡ listed left (v >>= λ ss. Ok (s ∷ ss))
one_more s left (Ok ss) = refl
one_more s left (Err d) = refl

behind_region : (len : ℕ) (most : Bounds) (n last declared : ℕ) (left : Left) (v : Result (Section × List ℕ) DecodeFault) →
    ((s : Section) (rest : List ℕ) → v ≡ Ok (s, rest) → run (sections_plan len most n (last_behind last s) (declared_behind declared s)) (now left rest) ≡ listed left (sections_read most n (last_behind last s) (declared_behind declared s) left.end rest)) →
    (leave left v >>= λ x. run (after len most n last declared x.0) x.1) ≡
    listed left (v >>= λ s. sections_read most n (last_behind last s.0) (declared_behind declared s.0) left.end s.1 >>= λ ss. Ok (s.0 ∷ ss))
behind_region len most n last declared left (Ok s) go =
    run_then (sections_plan len most n (last_behind last s.0) (declared_behind declared s.0)) (λ ss. Complete (s.0 ∷ ss)) (now left s.1) ∙
    ap (λ v. v >>= λ x. run (Complete (s.0 ∷ x.0)) x.1) (go s.0 s.1 refl) ∙
    one_more s.0 left (sections_read most n (last_behind last s.0) (declared_behind declared s.0) left.end s.1)
behind_region len most n last declared left (Err f) go = refl

id_shrinks : (last end : ℕ) (bytes : List ℕ) (x : ℕ × List ℕ) → length bytes ≤ end → id_at last end bytes ≡ Ok x → length x.1 ≤ length bytes
id_shrinks last end bytes x le e =
    let t = (exact_id last).takes end bytes x.1 x.0 le e in omega (arith, ap length t.parts, length-append t.text x.1)

behind_id : (len : ℕ) (most : Bounds) (n last declared : ℕ) (left : Left) → length left.bytes ≤ left.end → length left.bytes ≤ len →
    (v : Result (ℕ × List ℕ) DecodeFault) → id_at last left.end left.bytes ≡ v → Behind len most n last declared left →
    (leave left (found_next v) >>= λ x. run (elim x.0 as (λ o. Plan (List Section)) [
      | None ↦ Complete []
      | Some id ↦ andThen (sized_plan (contents_plan len most declared id)) (after len most n last declared)
    ]) x.1) ≡
    listed left ((v >>= λ id. sized_at (contents_at most declared id.0) left.end id.1) >>= λ s.
    sections_read most n (last_behind last s.0) (declared_behind declared s.0) left.end s.1 >>= λ ss. Ok (s.0 ∷ ss))
unfolding section_at then_at
behind_id len most n last declared left le few (Err f) e go = refl
behind_id len most n last declared left le few (Ok id) e go =
    let short : length id.1 ≤ length left.bytes = id_shrinks last left.end left.bytes id le e in
    let a : Agrees len (sized_at (contents_at most declared id.0)) (sized_plan (contents_plan len most declared id.0)) = agrees_sized (agrees_contents most declared id.0) in
    run_then (sized_plan (contents_plan len most declared id.0)) (after len most n last declared) (now left id.1) ∙
    ap (λ v. v >>= λ x. run (after len most n last declared x.0) x.1) (a.agree (now left id.1) (omega (arith, short)) (omega (arith, short))) ∙
    behind_region len most n last declared left (sized_at (contents_at most declared id.0) left.end id.1) (λ s rest q.
    go s rest (ap (λ v. v >>= λ z. sized_at (contents_at most declared z.0) left.end z.1) e ∙ q))

-- the plan of sections gives what they are read as
sections_bytes : (len : ℕ) (most : Bounds) (n last declared : ℕ) (left : Left) (bytes : List ℕ) → length bytes ≤ left.end → length bytes ≤ len → length bytes ≤ n →
    run (sections_plan len most n last declared) (now left bytes) ≡ listed left (sections_read most n last declared left.end bytes)
unfolding sections_plan accept section_at then_at sections_read
sections_bytes len most zero last declared left [] le few fit = refl
sections_bytes len most zero last declared left (b ∷ bs) le few fit = absurd (omega arith)
sections_bytes len most (suc n) last declared left [] le few fit = refl
sections_bytes len most (suc n) last declared left (b ∷ bs) le few fit =
    behind_id len most n last declared (now left (b ∷ bs)) le few (id_at last left.end (b ∷ bs)) refl (λ s rest e.
    let k = section_shrinks most last declared left.end (b ∷ bs) rest s le e in
    sections_bytes len most n (last_behind last s) (declared_behind declared s) left rest (omega (arith, k)) (omega (arith, k)) (omega (arith, k)))

-- ---- sections and drafts

last_with : (d : Draft) (s : Section) → (with_section d s).last ≡ last_behind d.last s
last_with d (section.Custom name bytes) = refl
last_with d (section.Types es ps) = refl
last_with d (section.Imports es ps) = refl
last_with d (section.Funcs es ps) = refl
last_with d (section.Tables es ps) = refl
last_with d (section.Memories es ps) = refl
last_with d (section.Globals es ps) = refl
last_with d (section.Exports es ps) = refl
last_with d (section.Start n p) = refl
last_with d (section.Elems es ps) = refl
last_with d (section.Bodies bs) = refl
last_with d (section.Segments es ps) = refl

declared_with : (d : Draft) (s : Section) → length (with_section d s).declared ≡ declared_behind (length d.declared) s
declared_with d (section.Custom name bytes) = refl
declared_with d (section.Types es ps) = refl
declared_with d (section.Imports es ps) = refl
declared_with d (section.Funcs es ps) = refl
declared_with d (section.Tables es ps) = refl
declared_with d (section.Memories es ps) = refl
declared_with d (section.Globals es ps) = refl
declared_with d (section.Exports es ps) = refl
declared_with d (section.Start n p) = refl
declared_with d (section.Elems es ps) = refl
declared_with d (section.Bodies bs) = refl
declared_with d (section.Segments es ps) = refl

-- the sections behind one that was read, as the draft behind it reads them
read_behind : (most : Bounds) (n : ℕ) (d : Draft) (s : Section) (end : ℕ) (rest : List ℕ) →
    sections_read most n (with_section d s).last (length (with_section d s).declared) end rest ≡ sections_read most n (last_behind d.last s) (declared_behind (length d.declared) s) end rest
read_behind most n d s end rest =
    ap (λ last. sections_read most n last (length (with_section d s).declared) end rest) (last_with d s) ∙
    ap (λ declared. sections_read most n (last_behind d.last s) declared end rest) (declared_with d s)

abbrev drafted : Draft → Result (List Section) DecodeFault → Result Draft DecodeFault
drafted d v = v >>= λ ss. Ok (with_sections d ss)

first_drafted : (d : Draft) (s : Section) (v : Result (List Section) DecodeFault) → drafted (with_section d s) v ≡ drafted d (v >>= λ ss. Ok (s ∷ ss))
first_drafted d s (Ok ss) = refl
first_drafted d s (Err f) = refl

each_drafted : (d : Draft) (v : Result (Section × List ℕ) DecodeFault) (f : Section × List ℕ → Result Draft DecodeFault) (g : Section × List ℕ → Result (List Section) DecodeFault) →
    ((s : Section × List ℕ) → f s ≡ drafted d (g s)) → (v >>= f) ≡ drafted d (v >>= g)
each_drafted d (Ok s) f g h = h s
each_drafted d (Err e) f g h = refl

-- a draft is what the sections make of it
sections_draft : (most : Bounds) (n : ℕ) (d : Draft) (end : ℕ) (bytes : List ℕ) → sections_at most n d end bytes ≡ drafted d (sections_read most n d.last (length d.declared) end bytes)
unfolding sections_at sections_read
sections_draft most zero d end bytes = refl
sections_draft most (suc n) d end [] = refl
sections_draft most (suc n) d end (b ∷ bs) =
    each_drafted d (section_at most d.last (length d.declared) end (b ∷ bs)) (λ s. sections_at most n (with_section d s.0) end s.1)
    (λ s. sections_read most n (last_behind d.last s.0) (declared_behind (length d.declared) s.0) end s.1 >>= λ ss. Ok (s.0 ∷ ss))
    (λ s.
    sections_draft most n (with_section d s.0) end s.1 ∙
    ap (drafted (with_section d s.0)) (read_behind most n d s.0 end s.1) ∙
    first_drafted d s.0 (sections_read most n (last_behind d.last s.0) (declared_behind (length d.declared) s.0) end s.1))

-- sections that were read stand in their order
read_stand : (most : Bounds) (n : ℕ) (d : Draft) (end : ℕ) (bytes : List ℕ) (ss : List Section) → length bytes ≤ end → sections_read most n d.last (length d.declared) end bytes ≡ Ok ss → MayStand d ss
unfolding sections_read
read_stand most zero d end bytes ss le e = subst (MayStand d) (ok_is [] ss e) (tt {0})
read_stand most (suc n) d end [] ss le e = subst (MayStand d) (ok_is [] ss e) (tt {0})
read_stand most (suc n) d end (b ∷ bs) ss le e =
    let p = bind_ok (section_at most d.last (length d.declared) end (b ∷ bs)) (λ s. sections_read most n (last_behind d.last s.0) (declared_behind (length d.declared) s.0) end s.1 >>= λ more. Ok (s.0 ∷ more)) ss e in
    let s = p.0.0 in
    let rest = p.0.1 in
    let t = (exact_section most d.last (length d.declared)).takes end (b ∷ bs) rest s le p.1 in
    let q = bind_ok (sections_read most n (last_behind d.last s) (declared_behind (length d.declared) s) end rest) (λ more. Ok (s ∷ more)) ss p.2 in
    let u = read_stand most n (with_section d s) end rest q.0 (shorter end (b ∷ bs) t.text rest le t.parts) (read_behind most n d s end rest ∙ q.1) in
    subst (MayStand d) (ok_is (s ∷ q.0) ss q.2) (t.within.1, t.within.0.1, u)

-- ---- modules

abbrev value_of : {A : Type 0} → Result (A × Left) DecodeFault → Result A DecodeFault
value_of v = v >>= λ x. Ok x.0

abbrev behind_header : Left → Result (List ℕ) DecodeFault → Result (Unit {0} × Left) DecodeFault
behind_header left v = v >>= λ rest. Ok (tt {0}, now left rest)

-- as many bodies as functions
abbrev counted : ℕ → List Section → Result (List Section) DecodeFault
counted len ss = cond (eqb (bodies_of ss) (functions_of ss)) (Ok ss) (Err (Malformed len word.Count))

-- the sections that the bytes are read as
abbrev whole : Bounds → List ℕ → Result (List Section) DecodeFault
whole most bytes = header_at (length bytes) bytes >>= λ rest. sections_read most (length rest) 0 0 (length bytes) rest >>= λ ss. counted (length bytes) ss

abbrev at_end : List Section → Plan (List Section)
at_end ss = Want (FileEnd (functions_of ss) (bodies_of ss)) (λ e. Complete ss)

abbrev file_left : ℕ → List ℕ → Left
file_left len bytes = record { end = len; bytes = bytes; outer = [] }

file_ends : (len : ℕ) (ss : List Section) → value_of (run (at_end ss) (file_left len [])) ≡ counted len ss
unfolding accept
file_ends len ss = go (eqb (bodies_of ss) (functions_of ss))
  where
    go : (b : Bool) → value_of (with_value ss (cond b (Ok (tt {0}, file_left len [])) (Err (Malformed len word.Count)))) ≡ cond b (Ok ss) (Err (Malformed len word.Count))
    go true = refl
    go false = refl

sections_end : (len : ℕ) (bytes : List ℕ) (v : Result (List Section) DecodeFault) →
    value_of (listed (file_left len bytes) v >>= λ x. run (at_end x.0) x.1) ≡ (v >>= λ ss. counted len ss)
sections_end len bytes (Ok ss) = file_ends len ss
sections_end len bytes (Err f) = refl

same_next : {A B : Type 0} (v : Result A DecodeFault) (f g : A → Result B DecodeFault) → ((x : A) → v ≡ Ok x → f x ≡ g x) → (v >>= f) ≡ (v >>= g)
same_next (Ok x) f g h = h x refl
same_next (Err d) f g h = refl

abbrev failed : {A : Type 0} → DecodeFault → Result A DecodeFault
failed d = Err d

-- more room changes nothing
sections_same : (most : Bounds) (n k last declared end : ℕ) (bytes : List ℕ) → length bytes ≤ end → length bytes ≤ n → length bytes ≤ k → sections_read most n last declared end bytes ≡ sections_read most k last declared end bytes
unfolding sections_read
sections_same most zero zero last declared end bytes le a b = refl
sections_same most zero (suc k) last declared end [] le a b = refl
sections_same most zero (suc k) last declared end (c ∷ bs) le a b = absurd (omega arith)
sections_same most (suc n) zero last declared end [] le a b = refl
sections_same most (suc n) zero last declared end (c ∷ bs) le a b = absurd (omega arith)
sections_same most (suc n) (suc k) last declared end [] le a b = refl
sections_same most (suc n) (suc k) last declared end (c ∷ bs) le a b =
    same_next (section_at most last declared end (c ∷ bs)) (λ s. sections_read most n (last_behind last s.0) (declared_behind declared s.0) end s.1 >>= λ ss. Ok (s.0 ∷ ss))
    (λ s. sections_read most k (last_behind last s.0) (declared_behind declared s.0) end s.1 >>= λ ss. Ok (s.0 ∷ ss)) (λ s e.
    let q = section_shrinks most last declared end (c ∷ bs) s.1 s.0 le e in
    ap (λ v. v >>= λ ss. Ok (s.0 ∷ ss)) (sections_same most n k (last_behind last s.0) (declared_behind declared s.0) end s.1 (omega (arith, q)) (omega (arith, q)) (omega (arith, q))))

header_ends : (len : ℕ) (most : Bounds) (bytes : List ℕ) (v : Result (List ℕ) DecodeFault) → header_at len bytes ≡ v → len ≡ length bytes →
    value_of (behind_header (file_left len bytes) v >>= λ x. run (andThen (sections_plan len most len 0 0) at_end) x.1) ≡
    (v >>= λ rest. sections_read most (length rest) 0 0 len rest >>= λ ss. counted len ss)
header_ends len most bytes (Err f) e q = refl
header_ends len most bytes (Ok rest) e q =
    let parts = header_takes len bytes rest e in
    let le : length rest ≤ len = omega (arith, ap length parts, length-append header rest) in
    ap value_of (run_then (sections_plan len most len 0 0) at_end (file_left len rest)) ∙
    ap (λ v. value_of (v >>= λ x. run (at_end x.0) x.1)) (sections_bytes len most len 0 0 (file_left len rest) rest le le le) ∙
    sections_end len rest (sections_read most len 0 0 len rest) ∙
    ap (λ v. v >>= λ ss. counted len ss) (sections_same most len (length rest) 0 0 len rest le le (omega arith))

-- the plan of the file gives the sections that the bytes are read as
module_agrees : (most : Bounds) (bytes : List ℕ) → value_of (run (module_plan most (length bytes)) (whole_file bytes)) ≡ whole most bytes
unfolding module_plan accept
module_agrees most bytes = header_ends (length bytes) most bytes (header_at (length bytes) bytes) refl refl

-- ---- modules and drafts

abbrev draft : List Section → Draft
draft ss = with_sections no_sections ss

abbrev module_of : ℕ → List Section → Decoded
module_of len ss = whole_module len (draft ss)

finished_same : (len : ℕ) (ss : List Section) → Gives ss (draft ss) → finished_at len (draft ss) ≡ (counted len ss >>= λ all. Ok (module_of len all))
unfolding finished_at
finished_same len ss g =
    ap (λ n. cond (eqb n (length (draft ss).declared)) (ok (module_of len ss)) (Err (Malformed len word.Count))) (ap length g.bodies) ∙
    ap (λ n. cond (eqb (bodies_of ss) n) (ok (module_of len ss)) (Err (Malformed len word.Count))) (ap (λ (x : List ℕ × List ℕ). length x.0) g.declared) ∙
    go (eqb (bodies_of ss) (functions_of ss))
  where
    go : (b : Bool) → cond b (ok (module_of len ss)) (Err (Malformed len word.Count)) ≡ (cond b (ok ss) (Err (Malformed len word.Count)) >>= λ all. Ok (module_of len all))
    go true = refl
    go false = refl

sections_give : (len : ℕ) (v : Result (List Section) DecodeFault) → ((ss : List Section) → v ≡ Ok ss → Rising 0 ss) →
    (drafted no_sections v >>= λ d. finished_at len d) ≡ ((v >>= λ ss. counted len ss) >>= λ all. Ok (module_of len all))
sections_give len (Ok ss) h = finished_same len ss (gives ss (h ss refl))
sections_give len (Err f) h = refl

rising : (most : Bounds) (n end : ℕ) (bytes : List ℕ) (ss : List Section) → length bytes ≤ end → sections_read most n 0 0 end bytes ≡ Ok ss → Rising 0 ss
rising most n end bytes ss le e = stand_rising no_sections ss (read_stand most n no_sections end bytes ss le e)

header_gives : (len : ℕ) (most : Bounds) (bytes : List ℕ) (v : Result (List ℕ) DecodeFault) → header_at len bytes ≡ v → len ≡ length bytes →
    (v >>= λ rest. sections_at most (length rest) no_sections len rest >>= λ d. finished_at len d) ≡
    ((v >>= λ rest. sections_read most (length rest) 0 0 len rest >>= λ ss. counted len ss) >>= λ all. Ok (module_of len all))
header_gives len most bytes (Err f) e q = refl
header_gives len most bytes (Ok rest) e q =
    let parts = header_takes len bytes rest e in
    let le : length rest ≤ len = omega (arith, ap length parts, length-append header rest) in
    ap (λ v. v >>= λ d. finished_at len d) (sections_draft most (length rest) no_sections len rest) ∙
    sections_give len (sections_read most (length rest) 0 0 len rest) (λ ss h. rising most (length rest) len rest ss le h)

-- the module that the bytes are read as is that of their sections
module_gives : (most : Bounds) (bytes : List ℕ) → module_at most bytes ≡ (whole most bytes >>= λ ss. Ok (module_of (length bytes) ss))
unfolding module_at
module_gives most bytes = header_gives (length bytes) most bytes (header_at (length bytes) bytes) refl refl

-- what is known of sections that were read to the end
record Known (ss : List Section) : Type 0 where
  given : Gives ss (draft ss)
  count : length (draft ss).bodies ≡ length (draft ss).declared

counted_ok : (len : ℕ) (ss all : List Section) → counted len ss ≡ Ok all → (ss ≡ all) × (bodies_of ss ≡ functions_of ss)
counted_ok len ss all = go (eqb (bodies_of ss) (functions_of ss)) refl
  where
    go : (b : Bool) → eqb (bodies_of ss) (functions_of ss) ≡ b → cond b (ok ss) (Err (Malformed len word.Count)) ≡ Ok all → (ss ≡ all) × (bodies_of ss ≡ functions_of ss)
    go true q e = (ok_is ss all e, eqb-true (bodies_of ss) (functions_of ss) q)
    go false q e = absurd cc

known : (most : Bounds) (bytes : List ℕ) (ss : List Section) → whole most bytes ≡ Ok ss → Known ss
known most bytes ss e =
    let len = length bytes in
    let p = bind_ok (header_at len bytes) (λ rest. sections_read most (length rest) 0 0 len rest >>= λ all. counted len all) ss e in
    let rest = p.0 in
    let q = bind_ok (sections_read most (length rest) 0 0 len rest) (λ all. counted len all) ss p.2 in
    let parts = header_takes len bytes rest p.1 in
    let le : length rest ≤ len = omega (arith, ap length parts, length-append header rest) in
    let c = counted_ok len q.0 ss q.2 in
    let g = gives q.0 (rising most (length rest) len rest q.0 le q.1) in
    subst Known c.0 (record { given = g; count = ap length g.bodies ∙ c.1 ∙ sym (ap (λ (x : List ℕ × List ℕ). length x.0) g.declared) })

run_value : {A : Type 0} (v : Result (A × Left) DecodeFault) (x : A) → value_of v ≡ Ok x → (after : Left) × (v ≡ Ok (x, after))
run_value {A} (Ok y) x e = (y.1, ap (λ (z : A). ok (z, y.1)) (ok_is y.0 x e))
run_value (Err f) x e = absurd cc

run_fault : {A : Type 0} (v : Result (A × Left) DecodeFault) (f : DecodeFault) → value_of v ≡ Err f → v ≡ Err f
run_fault (Ok y) f e = absurd cc
run_fault {A} (Err g) f e = let q : g ≡ f = cc in ap (λ h. failed {A = A × Left} h) q

same_fault : {A B : Type 0} (v : Result A DecodeFault) (h : A → B) (f : DecodeFault) → (v >>= λ x. Ok (h x)) ≡ Err f → v ≡ Err f
same_fault (Ok x) h f e = absurd cc
same_fault {A} (Err g) h f e = let q : g ≡ f = cc in ap (λ d. failed {A = A} d) q

module_is : (len : ℕ) (ss : List Section) (r : Decoded) → Gives ss (draft ss) → AreParts ss r.module r.marks → r.marks.len ≡ len → module_of len ss ≡ r
module_is len ss r g h e =
    ap (λ (n : Module). decoded n (module_of len ss).marks) (module_same ss len (draft ss) r.module r.marks g h) ∙
    ap (λ (j : Marks). decoded r.module j) (marks_same ss len (draft ss) r.module r.marks g h e)

pub reads_module : (most : Bounds) (bytes : List ℕ) (r : Decoded) → (module_at most bytes ≡ Ok r) ↔ ReadsModule most bytes r
reads_module most bytes r =
    let len = length bytes in
    let p = module_plan most len in
    let l = whole_file bytes in (
      λ e.
          let b = bind_ok (whole most bytes) (λ ss. Ok (module_of len ss)) r (sym (module_gives most bytes) ∙ e) in
          let k = known most bytes b.0 b.1 in
          let is : module_of len b.0 ≡ r = ok_is (module_of len b.0) r b.2 in
          let v = run_value (run p l) b.0 (module_agrees most bytes ∙ b.1) in
          let s = run_reads p l b.0 v.0 v.1 in
          (b.0, (s.0, v.0, s.1), subst (λ (x : Decoded). AreParts b.0 x.«module» x.marks) is (parts_of b.0 len (draft b.0) k.given k.count), sym (ap (λ (x : Decoded). x.marks.len) is)),
      λ h.
          let e : whole most bytes ≡ Ok h.0 = sym (module_agrees most bytes) ∙ ap value_of (reads_run p l h.1.0 h.0 h.1.1 h.1.2) in
          let k = known most bytes h.0 e in
          module_gives most bytes ∙ ap (λ v. v >>= λ ss. Ok (module_of len ss)) e ∙ ap ok (module_is len h.0 r k.given h.2 h.3),
    )

-- a complete reading alone makes a module and its marks
pub reading_module : (most : Bounds) (bytes : List ℕ) (ss : List Section) → ReadsTo (module_plan most (length bytes)) (whole_file bytes) ss → (r : Decoded) × AreParts ss r.module r.marks × (r.marks.len ≡ length bytes)
reading_module most bytes ss h =
    let len = length bytes in
    let e : whole most bytes ≡ Ok ss = sym (module_agrees most bytes) ∙ ap value_of (reads_run (module_plan most len) (whole_file bytes) h.0 ss h.1 h.2) in
    let k = known most bytes ss e in
    (module_of len ss, parts_of ss len (draft ss) k.given k.count, refl)

pub stops_module : (most : Bounds) (bytes : List ℕ) (f : DecodeFault) → (module_at most bytes ≡ Err f) ↔ Fault most bytes f
stops_module most bytes f =
    let len = length bytes in
    let p = module_plan most len in
    let l = whole_file bytes in (
      λ e. run_stops p l f (run_fault (run p l) f (module_agrees most bytes ∙ same_fault (whole most bytes) (module_of len) f (sym (module_gives most bytes) ∙ e))),
      λ h. module_gives most bytes ∙ ap (λ v. v >>= λ ss. Ok (module_of len ss)) (sym (module_agrees most bytes) ∙ ap value_of (stops_run p l f h)),
    )
