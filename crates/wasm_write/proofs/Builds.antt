-- Sections that a text spells one after another, and what a draft is behind them.
use Rattle.std.proofs.Common.{◌≡◌, ℕ, suc, ◌+◌, ◌<◌, ◌≤◌, true, false, cond, eqb, leb, List, [], ◌∷◌, ◌++◌, length, filter, inl, inr, refl, sym, ap, subst, ◌∙◌, append_assoc, arith}
use Rattle.std.specs.List.{AllByRecursion, flat_map}
use Rattle.std.proofs.lemmas.Bool.{eqb-true, eqb-false, ne_eqb, leb-true, leb-false, le-leb, lt-leb}
use Rattle.std.proofs.lemmas.List.{append-nil, length-append}
use Rattle.wasm_syntax.specs.declared.module.Custom.{Custom}
use Rattle.binary_grammar.specs.declared.section.Section.{Section}
use Rattle.binary_grammar.specs.declared.section.Section.TheVariants as section
use Rattle.binary_grammar.specs.declared.section.Draft.{Draft}
use Rattle.binary_grammar.specs.Grammar.{Spelling, SpellsVector}
use Rattle.binary_grammar.specs.words.SectionReading.{with_section}
use Rattle.binary_grammar.specs.ModuleGrammar.{id_of, SpellsContents, SpellsSection, InTurn}
use Rattle.binary_grammar.proofs.Drafts.{InOrder, Counts, MayStand, with_sections}
use Rattle.wasm_write.specs.Shortest.{number_text}
use Rattle.wasm_write.specs.Encoding.{vector_text, sized_text, section_text, entries_text, custom_contents, custom_text, customs_after}
use Rattle.wasm_write.specs.Writable.{IsCounted, CustomWritable, NeverFalls}
use Rattle.wasm_write.proofs.TypeTexts.{tagged, Spelled, vector, name}
use Rattle.wasm_write.proofs.CodeTexts.{sized}

-- a text at a place spells sections that may stand behind a draft, and then something holds of the draft
pub record Builds (at : ℕ) (text : List ℕ) (d : Draft) (P : Draft → Type 0) : Type 0 where
  pub sections : List Section
  pub turn : InTurn at text sections
  pub stand : MayStand d sections
  pub done : P (with_sections d sections)

pub nothing : (at : ℕ) (d : Draft) (P : Draft → Type 0) → P d → Builds at [] d P
nothing at d P p = record { sections = []; turn = refl; stand = tt; done = p }

pub one_section : (at : ℕ) (text : List ℕ) (d : Draft) (P : Draft → Type 0) (s : Section) → SpellsSection at text s → InOrder d.last (id_of s) → Counts (length d.declared) s → P (with_section d s) → Builds at text d P
one_section at text d P s h o c p = record { sections = s ∷ []; turn = (text, [], sym (append-nil text), h, refl); stand = (o, c, tt); done = p }

turn-append : (at : ℕ) (a b : List ℕ) (ss ts : List Section) → InTurn at a ss → InTurn (at + length a) b ts → InTurn at (a ++ b) (ss ++ ts)
turn-append at a b [] ts h k =
    let e : at + length a ≡ at = omega (arith, ap length h) in
    let k2 : InTurn at b ts = subst (λ p. InTurn p b ts) e k in
    subst (λ x. InTurn at (x ++ b) ts) (sym h) k2
turn-append at a b (s ∷ ss) ts h k =
    let e : at + length a ≡ at + length h.0 + length h.1 = omega (arith, ap length h.2, length-append h.0 h.1) in
    let k2 : InTurn (at + length h.0 + length h.1) b ts = subst (λ p. InTurn p b ts) e k in
    (h.0, h.1 ++ b, ap (λ x. x ++ b) h.2 ∙ append_assoc h.0 h.1 b, h.3, turn-append (at + length h.0) h.1 b ss ts h.4 k2)

stand-append : (d : Draft) (ss ts : List Section) → MayStand d ss → MayStand (with_sections d ss) ts → MayStand d (ss ++ ts)
stand-append d [] ts h k = k
stand-append d (s ∷ ss) ts h k = (h.0, h.1, stand-append (with_section d s) ss ts h.2 k)

sections-append : (d : Draft) (ss ts : List Section) → with_sections (with_sections d ss) ts ≡ with_sections d (ss ++ ts)
sections-append d [] ts = refl
sections-append d (s ∷ ss) ts = sections-append (with_section d s) ss ts

pub both : (at : ℕ) (a b : List ℕ) (d : Draft) (P Q : Draft → Type 0) → Builds at a d P → ((e : Draft) → P e → Builds (at + length a) b e Q) → Builds at (a ++ b) d Q
both at a b d P Q x f =
    let y = f (with_sections d x.sections) x.done in
    record {
      sections = x.sections ++ y.sections;
      turn = turn-append at a b x.sections y.sections x.turn y.turn;
      stand = stand-append d x.sections y.sections x.stand y.stand;
      done = subst Q (sections-append d x.sections y.sections) y.done;
    }

-- ---- one section

pub section_ : (at id : ℕ) (contents : List ℕ) (s : Section) → id ≡ id_of s → IsCounted contents → SpellsContents (at + 1 + length (number_text (length contents))) contents s → SpellsSection at (section_text id contents) s
unfolding SpellsSection section_text
section_ at id contents s e few h = tagged _ at id (sized_text contents) s (e, sized SpellsContents (at + 1) contents s few h)

-- a section of entries
pub record Form {A : Type 0} (make : List A → List ℕ → Section) (id : ℕ) (P : Spelling A) : Type 0 where
  pub ids : (xs : List A) (ps : List ℕ) → id ≡ id_of (make xs ps)
  pub contents : (at : ℕ) (text : List ℕ) (xs : List A) (ps : List ℕ) → SpellsVector P at text (xs, ps) → SpellsContents at text (make xs ps)
  pub counts : (n : ℕ) (xs : List A) (ps : List ℕ) → Counts n (make xs ps)

pub record Fits {A : Type 0} (text : A → List ℕ) (W : A → Type 0) (xs : List A) : Type 0 where
  pub few : IsCounted xs
  pub size : IsCounted (vector_text text xs)
  pub each : AllByRecursion W xs

pub entries : {A : Type 0} (make : List A → List ℕ → Section) (id : ℕ) (P : Spelling A) (text : A → List ℕ) (W : A → Type 0) → Form make id P → Spelled P text W →
    (xs : List A) → Fits text W xs → (at : ℕ) (d : Draft) (Q : Draft → Type 0) → d.last < id → (xs ≡ [] → Q d) → ((ps : List ℕ) → Q (with_section d (make xs ps))) → Builds at (entries_text id text xs) d Q
unfolding entries_text
entries make id P text W form spelled [] fits at d Q lt empty filled = nothing at d Q (empty refl)
entries make id P text W form spelled (x ∷ xs) fits at d Q lt empty filled =
    let contents = vector_text text (x ∷ xs) in
    let start = at + 1 + length (number_text (length contents)) in
    let v = vector P text W spelled (x ∷ xs) fits.few fits.each start in
    let s = make (x ∷ xs) v.0 in
    one_section at (section_text id contents) d Q s
    (section_ at id contents s (form.ids (x ∷ xs) v.0) fits.size (form.contents start contents (x ∷ xs) v.0 v.1))
    (inr (subst (λ k. d.last < k) (form.ids (x ∷ xs) v.0) lt)) (form.counts (length d.declared) (x ∷ xs) v.0) (filled v.0)

-- ---- custom sections

unfoldable pub with_customs : Draft → List Custom → Draft
with_customs d cs = record d { «module» = record d.module { customs = d.module.customs ++ cs } }

custom_stands : (at : ℕ) (c : Custom) → CustomWritable c → SpellsSection at (custom_text c) (section.Custom c.name c.bytes)
unfolding SpellsContents
custom_stands at c w =
    section_ at 0 (custom_contents c) (section.Custom c.name c.bytes) refl w.1
    (sized_text c.name, refl, name (at + 1 + length (number_text (length (custom_contents c)))) c.name w.0)

same_custom : (d : Draft) (c : Custom) → d.after ≡ c.after → with_section d (section.Custom c.name c.bytes) ≡ with_customs d (c ∷ [])
unfolding with_customs
same_custom d c e = ap (λ a. record d { «module» = record d.module { customs = d.module.customs ++ record c { after = a } ∷ [] } }) e

more_customs : (d : Draft) (c : Custom) (cs : List Custom) → with_customs (with_customs d (c ∷ [])) cs ≡ with_customs d (c ∷ cs)
unfolding with_customs
more_customs d c cs = ap (λ ds. record d { «module» = record d.module { customs = ds } }) (append_assoc d.module.customs (c ∷ []) cs)

no_customs : (d : Draft) → d ≡ with_customs d []
unfolding with_customs
no_customs d = ap (λ ds. record d { «module» = record d.module { customs = ds } }) (sym (append-nil d.module.customs))

same_after : (d : Draft) (cs : List Custom) → (with_customs d cs).after ≡ d.after
unfolding with_customs
same_after d cs = refl

pub customs : (cs : List Custom) (id : ℕ) → AllByRecursion CustomWritable cs → AllByRecursion (λ c. c.after ≡ id) cs → (at : ℕ) (d : Draft) → (0 < length cs → d.after ≡ id) → Builds at (flat_map custom_text cs) d (λ e. e ≡ with_customs d cs)
customs [] id w h at d after = nothing at d (λ e. e ≡ with_customs d []) (no_customs d)
customs (c ∷ cs) id w h at d after =
    let here : d.after ≡ id = after (omega arith) in
    let next = with_customs d (c ∷ []) in
    let is : with_section d (section.Custom c.name c.bytes) ≡ next = same_custom d c (here ∙ sym h.0) in
    let P : Draft → Type 0 = λ e. e ≡ next in
    let Q : Draft → Type 0 = λ e. e ≡ with_customs d (c ∷ cs) in
    let first : Builds at (custom_text c) d P = one_section at (custom_text c) d P (section.Custom c.name c.bytes) (custom_stands at c w.0) (inl refl) tt is in
    both at (custom_text c) (flat_map custom_text cs) d P Q first
    (λ e p.
    let rest = customs cs id w.1 h.1 (at + length (custom_text c)) e (λ some. ap (λ (x : Draft). x.after) p ∙ same_after d (c ∷ []) ∙ here) in
    record {
      sections = rest.sections;
      turn = rest.turn;
      stand = rest.stand;
      done = rest.done ∙ ap (λ x. with_customs x cs) p ∙ more_customs d c cs;
    })

-- ---- the custom sections by what they name

-- those that name a section from an id on
abbrev pub named_from : ℕ → List Custom → List Custom
named_from id = filter (λ c. leb id c.after)

none_named : (low id : ℕ) (cs : List Custom) → NeverFalls low cs → id < low → customs_after id cs ≡ []
none_named low id [] h lt = refl
none_named low id (c ∷ cs) h lt =
    let ne : eqb c.after id ≡ false = ne_eqb c.after id (λ e. omega (arith, h.0, e)) in
    rw ne (none_named c.after id cs h.1 (omega (arith, h.0)))

pub split_customs : (low id : ℕ) (cs : List Custom) → NeverFalls low cs → customs_after id cs ++ named_from (suc id) cs ≡ named_from id cs
split_customs low id [] h = refl
split_customs low id (c ∷ cs) h =
    let ih = split_customs c.after id cs h.1 in
    elim (eqb c.after id) as (λ b. eqb c.after id ≡ b → cond b (c ∷ customs_after id cs) (customs_after id cs) ++ cond (leb (suc id) c.after) (c ∷ named_from (suc id) cs) (named_from (suc id) cs) ≡ cond (leb id c.after) (c ∷ named_from id cs) (named_from id cs)) [
      | true ↦ λ e.
          let is : c.after ≡ id = eqb-true c.after id e in
          rw (lt-leb (suc id) c.after (omega arith), le-leb id c.after (omega arith)) (ap (λ ds. c ∷ ds) ih)
      | false ↦ λ e.
          let ne : c.after ≡ id → ⊥ = eqb-false c.after id e in
          split_others c id cs ne h.1 ih
    ] refl
  where
    split_others : (c : Custom) (id : ℕ) (cs : List Custom) → (c.after ≡ id → ⊥) → NeverFalls c.after cs → customs_after id cs ++ named_from (suc id) cs ≡ named_from id cs →
        customs_after id cs ++ cond (leb (suc id) c.after) (c ∷ named_from (suc id) cs) (named_from (suc id) cs) ≡ cond (leb id c.after) (c ∷ named_from id cs) (named_from id cs)
    split_others c id cs ne falls ih =
        elim (leb id c.after) as (λ b. leb id c.after ≡ b → customs_after id cs ++ cond (leb (suc id) c.after) (c ∷ named_from (suc id) cs) (named_from (suc id) cs) ≡ cond b (c ∷ named_from id cs) (named_from id cs)) [
          | true ↦ λ e.
              let le : id ≤ c.after = leb-true id c.after e in
              let lt : id < c.after = above c.after id le ne in
              let none : customs_after id cs ≡ [] = none_named c.after id cs falls lt in
              rw (le-leb (suc id) c.after (omega arith)) (ap (λ ds. ds ++ c ∷ named_from (suc id) cs) none ∙ ap (λ ds. c ∷ ds) (ap (λ ds. ds ++ named_from (suc id) cs) (sym none) ∙ ih))
          | false ↦ λ e.
              let lt : c.after < id = leb-false id c.after e in
              rw (lt-leb (suc id) c.after (omega arith)) ih
        ] refl
      where
        above : (a b : ℕ) → b ≤ a → (a ≡ b → ⊥) → b < a
        above a b le ne = omega (arith, ne)

pub all_named : (cs : List Custom) → named_from 0 cs ≡ cs
all_named [] = refl
all_named (c ∷ cs) = rw (le-leb 0 c.after (omega arith)) (ap (λ ds. c ∷ ds) (all_named cs))

pub none_past : (most : ℕ) (cs : List Custom) → AllByRecursion (λ c. c.after ≤ most) cs → named_from (suc most) cs ≡ []
none_past most [] h = refl
none_past most (c ∷ cs) h = rw (lt-leb (suc most) c.after (omega (arith, h.0))) (none_past most cs h.1)

pub after_all : (id : ℕ) (cs : List Custom) → AllByRecursion (λ c. c.after ≡ id) (customs_after id cs)
after_all id [] = tt
after_all id (c ∷ cs) =
    elim (eqb c.after id) as (λ b. eqb c.after id ≡ b → AllByRecursion (λ (x : Custom). x.after ≡ id) (cond b (c ∷ customs_after id cs) (customs_after id cs))) [
      | true ↦ λ e. (eqb-true c.after id e, after_all id cs)
      | false ↦ λ e. after_all id cs
    ] refl

pub some_after : (P : Custom → Type 0) (id : ℕ) (cs : List Custom) → AllByRecursion P cs → AllByRecursion P (customs_after id cs)
some_after P id [] w = tt
some_after P id (c ∷ cs) w =
    elim (eqb c.after id) as (λ b. AllByRecursion P (cond b (c ∷ customs_after id cs) (customs_after id cs))) [
      | true ↦ (w.0, some_after P id cs w.1)
      | false ↦ some_after P id cs w.1
    ]

pub first_named : (P : Type 0) (id : ℕ) (cs : List Custom) → AllByRecursion (λ c. c.after ≡ id → P) cs → 0 < length (customs_after id cs) → P
first_named P id [] h lt = absurd (omega arith)
first_named P id (c ∷ cs) h lt =
    elim (eqb c.after id) as (λ b. eqb c.after id ≡ b → 0 < length (cond b (c ∷ customs_after id cs) (customs_after id cs)) → P) [
      | true ↦ λ e some. h.0 (eqb-true c.after id e)
      | false ↦ λ e some. first_named P id cs h.1 some
    ] refl lt
