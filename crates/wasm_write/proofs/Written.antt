-- Items that were written one after another.
use Rattle.std.proofs.Common.{◌≡◌, ℕ, ◌+◌, take, List, [], ◌∷◌, ◌++◌, Some, sym, ap, ◌∙◌, append_assoc}
use Rattle.std.specs.List.{slice_get}
use Rattle.std.proofs.lemmas.Grind.{flat_map-append}
use Rattle.std.proofs.lemmas.List.{append-nil, flat_map_more, take_more}
use Rattle.std.proofs.lemmas.Option.{slice_get_within, get_or_from_slice_get}
use Rattle.wasm_syntax.specs.declared.instr.Instr.{Instr}
use Rattle.wasm_syntax.specs.declared.flat.Flat.{Flat}
use Rattle.wasm_syntax.specs.declared.flat.Flat.TheVariants.{Else, End}
use Rattle.wasm_syntax.specs.FlatForm.{flat}
use Rattle.wasm_write.specs.Encoding.{item_text, items_text}

-- items were written behind what stood there
abbrev pub Wrote : List ℕ → List Flat → List ℕ → Type 0
Wrote before items out = out ≡ before ++ items_text items

pub wrote_none : (before : List ℕ) → Wrote before [] before
wrote_none before = sym (append-nil before)

pub wrote_item : (before out new : List ℕ) (items : List Flat) (x : Flat) → Wrote before items out → new ≡ out ++ item_text x → Wrote before (items ++ x ∷ []) new
wrote_item before out new items x w e = e ∙ ap (λ bs. bs ++ item_text x) w ∙ flat_map_more item_text before items x

pub wrote_all : (before out new : List ℕ) (items : List Flat) (given is : List Instr) → Wrote before items out → new ≡ out ++ items_text (flat given) → given ≡ is → Wrote before (items ++ flat is) new
wrote_all before out new items given is w e g =
    e ∙ ap (λ js. out ++ items_text (flat js)) g ∙ ap (λ bs. bs ++ items_text (flat is)) w ∙ append_assoc before (items_text items) (items_text (flat is)) ∙
    ap (λ bs. before ++ bs) (sym (flat_map-append item_text items (flat is)))

-- a head and a side
pub wrote_side : (before opened inside : List ℕ) (given is : List Instr) (x : Flat) →
    opened ≡ before ++ item_text x → inside ≡ opened ++ items_text (flat given) → given ≡ is → Wrote before (x ∷ flat is) inside
wrote_side before opened inside given is x eo ei g =
    wrote_all before opened inside (x ∷ []) given is (wrote_item before before opened [] x (wrote_none before) eo) ei g

-- the next of items
pub wrote_next : (before out new : List ℕ) (items : List Flat) (i : ℕ) (x : Flat) → Wrote before (take i items) out → slice_get items i ≡ Some x → new ≡ out ++ item_text x → Wrote before (take (i + 1) items) new
wrote_next before out new items i x w g e =
    let more : take (i + 1) items ≡ take i items ++ x ∷ [] =
    take_more items i x (slice_get_within items i x g) ∙ ap (λ y. take i items ++ y ∷ []) (get_or_from_slice_get items i x x g) in
    wrote_item before out new (take i items) x w e ∙ ap (λ xs. before ++ items_text xs) (sym more)

-- two sides in one list
pub two_sides : (x : Flat) (first second : List Flat) → (((x ∷ first) ++ Else ∷ []) ++ second) ++ End ∷ [] ≡ x ∷ (first ++ Else ∷ (second ++ End ∷ []))
two_sides x first second =
    append_assoc ((x ∷ first) ++ Else ∷ []) second (End ∷ []) ∙ append_assoc (x ∷ first) (Else ∷ []) (second ++ End ∷ [])
