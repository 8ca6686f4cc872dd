-- A script has an answer over any files that hold bytes.
use Rattle.std.proofs.Common.{◌≡◌, ◌⊎◌, inl, inr, ℕ, suc, ◌≤◌, Bool, true, false, if◌then◌else◌, List, [], ◌∷◌, length, map, Option, Some, None, Result, Ok, Err, refl, sym, ap, ◌∙◌, arith}
use Rattle.std.specs.Prelude.{IfSome}
use Rattle.std.specs.List.{AllByRecursion}
use Rattle.std.specs.Str.{bytes_eq}
use Rattle.std.proofs.lemmas.Bool.{cases_order}
use Rattle.std.proofs.lemmas.List.{length-map}
use Rattle.std.proofs.lemmas.List.Elements.{recursion_from_All}
use Rattle.rw_edge.specs.Files.{contents_of}
use Rattle.wasm_syntax.specs.declared.module.Module.{Module}
use Rattle.wasm_syntax.specs.declared.module.Marks.{Marks}
use Rattle.binary_grammar.specs.declared.fault.DecodeFault.{DecodeFault}
use Rattle.binary_grammar.specs.declared.fault.DecodeFault.TheVariants as decode
use Rattle.binary_grammar.specs.ModuleGrammar.{Spells, InLimits}
use Rattle.binary_grammar.specs.Plans.{Fault}
use Rattle.binary_grammar.specs.Bounds.{the_bounds}
use Rattle.binary_grammar.proofs.FaultLaws.{some_answer, of_bytes}
use Rattle.binary_grammar.proofs.ModuleLaws.{module_takes}
use Rattle.binary_grammar.proofs.PlanWhole.{reads_module}
use Rattle.wasm_typing.specs.declared.fault.ValidFault.TheVariants as valid
use Rattle.wasm_typing.specs.declared.fault.ValidWord.{ValidWord}
use Rattle.wasm_typing.specs.Valid.{Valid, BytesInRange}
use Rattle.wasm_typing.specs.faults.Faults.{InvalidAt}
use Rattle.validity_laws.proofs.Modules.{valid_or_fault}
use Rattle.validity_laws.proofs.Spelled.{spelled_in_range}
use Rattle.validity_laws.proofs.MarkLaws.{spelled_marked}
use Rattle.script_text.specs.declared.script.Load.{Load}
use Rattle.script_text.specs.declared.script.Script.{Script}
use Rattle.wasm_link.specs.declared.fault.LinkFault.{LinkFault}
use Rattle.wasm_link.specs.declared.fault.LinkFault.TheVariants.{Shelf, TooLong, Decode, Invalid, UnknownName, OutOfMemory}
use Rattle.wasm_link.specs.declared.log.Log.{Log}
use Rattle.wasm_link.specs.Loading.{Files, IsLoaded, IsRefusedLoad, AreLoaded, IsFirstRefused, module_limit}
use Rattle.wasm_link.specs.Stages.{first_stage}
use Rattle.wasm_link.specs.Watching.{Watch, fresh, watched}
use Rattle.wasm_link.specs.Logs.{modules_in, blind, Watches}
use Rattle.wasm_link.specs.Answers.{HoldBytes, IsSpelled, ScriptAnswers}
use Rattle.wasm_link.proofs.Moments.{loaded_valid}
use Rattle.wasm_link.proofs.Spelled.{known_script}
use Rattle.wasm_link.proofs.Going.{actions_end, started_fit}

-- a file that is found holds bytes
contents_are_bytes : (files : Files) → AllByRecursion (λ (file : List ℕ × List ℕ). BytesInRange file.1) files → (name : List ℕ) → IfSome (contents_of files name) BytesInRange
contents_are_bytes [] h name = tt
contents_are_bytes (file ∷ files) h name = by_name (bytes_eq file.0 name) (contents_are_bytes files h.1 name)
  where
    by_name : (b : Bool) → IfSome (contents_of files name) BytesInRange → IfSome (if b then Some file.1 else contents_of files name) BytesInRange
    by_name true rest = h.0
    by_name false rest = rest

module _ (files : Files) (hold : (name : List ℕ) → IfSome (contents_of files name) BytesInRange) where
  abbrev Load1 : Load → Type 0
  Load1 l = ((m : Module) × IsLoaded files l m) ⊎ ((f : LinkFault) × IsRefusedLoad files l f)

  of_module : (l : Load) (bytes : List ℕ) (m : Module) (k : Marks) → contents_of files l.file ≡ Some bytes → length bytes ≤ module_limit → Spells bytes m k → InLimits the_bounds m →
      Valid m ⊎ ((at : ℕ) × (w : ValidWord) × InvalidAt m k at w) → Load1 l
  of_module l bytes m k there le spells within (inl v) = inl (m, record { bytes = bytes; is_read = (there, le); marks = k; spells = spells; within = within; valid = v })
  of_module l bytes m k there le spells within (inr f) =
      inr (Invalid l.name (valid.Invalid f.0 f.1), (refl, (bytes, m, k, (there, le), spells, within, f.2)))

  of_fault : (l : Load) (bytes : List ℕ) (f : DecodeFault) → contents_of files l.file ≡ Some bytes → length bytes ≤ module_limit → Fault the_bounds bytes f → Load1 l
  of_fault l bytes (decode.Malformed at w) there le h = inr (Decode l.name (decode.Malformed at w), (refl, (bytes, (there, le), h, tt)))
  of_fault l bytes (decode.Limit at w) there le h = inr (Decode l.name (decode.Limit at w), (refl, (bytes, (there, le), h, tt)))
  of_fault l bytes decode.OutOfMemory there le h = absurd (of_bytes the_bounds bytes h)

  of_bytes_read : (l : Load) (bytes : List ℕ) → contents_of files l.file ≡ Some bytes → length bytes ≤ module_limit → BytesInRange bytes → Load1 l
  of_bytes_read l bytes there le range =
      elim (some_answer the_bounds bytes) [
        | inl h ↦
            let spelled = module_takes the_bounds bytes h.0 ((reads_module the_bounds bytes h.0).1 h.1) in
            let m = h.0.«module» in let k = h.0.marks in
            of_module l bytes m k there le spelled.0 spelled.1 (valid_or_fault m k (spelled_marked bytes m k spelled.0) (spelled_in_range bytes m k range spelled.0))
        | inr h ↦ of_fault l bytes h.0 there le h.1
      ]

  load_ends : (l : Load) → Load1 l
  load_ends l = by (contents_of files l.file) refl (hold l.file)
    where
      by : (o : Option (List ℕ)) → contents_of files l.file ≡ o → IfSome o BytesInRange → Load1 l
      by None e h = inr (Shelf, e)
      by (Some bytes) e h = elim (cases_order module_limit (length bytes)) [
        | inl same ↦ of_bytes_read l bytes e (omega (arith, same)) h
        | inr other ↦ elim other [
          | inl less ↦ inr (TooLong l.name, (refl, (bytes, e, less)))
          | inr less ↦ of_bytes_read l bytes e (omega (arith, less)) h
        ]
      ]

  loads_end : (ls : List Load) → ((ms : List Module) × AreLoaded files ls ms) ⊎ ((f : LinkFault) × IsFirstRefused files ls f)
  loads_end [] = inl ([], tt)
  loads_end (l ∷ ls) = by (load_ends l) (loads_end ls)
    where
      by : Load1 l → ((ms : List Module) × AreLoaded files ls ms) ⊎ ((f : LinkFault) × IsFirstRefused files ls f) → ((ms : List Module) × AreLoaded files (l ∷ ls) ms) ⊎ ((f : LinkFault) × IsFirstRefused files (l ∷ ls) f)
      by (inr f) rest = inr (f.0, inl f.1)
      by (inl m) (inl ms) = inl (m.0 ∷ ms.0, (m.1, ms.1))
      by (inl m) (inr f) = inr (f.0, inr (m.0, m.1, f.1))

  no_name : (ls : List Load) (at : ℕ) → IsFirstRefused files ls (UnknownName at) → ⊥
  no_name [] at h = h
  no_name (l ∷ ls) at (inl h) = h
  no_name (l ∷ ls) at (inr h) = no_name ls at h.2

  no_memory : (ls : List Load) → IsFirstRefused files ls OutOfMemory → ⊥
  no_memory [] h = h
  no_memory (l ∷ ls) (inl h) = h
  no_memory (l ∷ ls) (inr h) = no_memory ls h.2

  refused_answer : (x : Script) (f : LinkFault) → IsFirstRefused files x.loads f → (r : Result Log LinkFault) × ScriptAnswers files x r
  refused_answer x Shelf h = (Err Shelf, h)
  refused_answer x (TooLong name) h = (Err (TooLong name), h)
  refused_answer x (Decode name f) h = (Err (Decode name f), h)
  refused_answer x (Invalid name f) h = (Err (Invalid name f), h)
  refused_answer x (UnknownName at) h = absurd (no_name x.loads at h)
  refused_answer x OutOfMemory h = absurd (no_memory x.loads h)

  same_length : (ls : List Load) (ms : List Module) → AreLoaded files ls ms → length ms ≡ length ls
  same_length [] [] h = refl
  same_length [] (m ∷ ms) h = absurd h
  same_length (l ∷ ls) [] h = absurd h
  same_length (l ∷ ls) (m ∷ ms) h = ap suc (same_length ls ms h.1)

  watched_answer : (x : Script) (ms : List Module) → AreLoaded files x.loads ms → (w : Watch (Unit {0})) → Watches blind x (modules_in x ms) tt w → (o : Option ℕ) → w.lacking ≡ o → (r : Result Log LinkFault) × ScriptAnswers files x r
  watched_answer x ms loaded w watches None e =
      (Ok (record { text = w.text }), record { modules = ms; loaded = loaded; notes = tt; watch = w; watches = watches; text_is = refl; lacks_none = e })
  watched_answer x ms loaded w watches (Some at) e = (Err (UnknownName at), record { modules = ms; loaded = loaded; watch = w; watches = watches; lacks = e })

  loaded_answer : (x : Script) → IsSpelled x → (ms : List Module) → AreLoaded files x.loads ms → (r : Result Log LinkFault) × ScriptAnswers files x r
  loaded_answer x spelled ms loaded =
      let known = known_script x spelled in
      let beside : length ms ≡ length (map (λ (l : Load). l.name) x.loads) = same_length x.loads ms loaded ∙ sym (length-map x.loads (λ (l : Load). l.name)) in
      let ends = actions_end (modules_in x ms) (λ k m there. loaded_valid files x.loads ms k m loaded there) beside x.actions (first_stage x) started_fit tt refl refl known.fine in
      let w = watched blind (fresh tt) ends.events in
      let watches : Watches blind x (modules_in x ms) tt w = record { events = ends.events; stage = ends.stage; goes = ends.goes; whole = inr ends.is_over; is = refl } in
      watched_answer x ms loaded w watches w.lacking refl

  answer_for : (x : Script) → IsSpelled x → (r : Result Log LinkFault) × ScriptAnswers files x r
  answer_for x spelled = elim (loads_end x.loads) [ inl h ↦ loaded_answer x spelled h.0 h.1 | inr h ↦ refused_answer x h.0 h.1 ]

pub some_answer_there : (files : Files) (x : Script) → HoldBytes files → IsSpelled x → (r : Result Log LinkFault) × ScriptAnswers files x r
some_answer_there files x hold spelled = answer_for files (contents_are_bytes files (recursion_from_All (λ (file : List ℕ × List ℕ). BytesInRange file.1) files hold)) x spelled
