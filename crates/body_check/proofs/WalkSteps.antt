-- The steps of a walk, as its parts are kept.
use Rattle.std.proofs.Common.{◌≡◌, ◌≤◌, true, false, List, [], ◌∷◌, ◌++◌, length, reverse, map, Option, Some, None, Result, Ok, Err, IfOk, sym, ap, ◌∙◌, subst}
use Rattle.std.proofs.lemmas.List.{reverse-append}
use Rattle.wasm_values.specs.declared.error.OutOfMemory.{OutOfMemory}
use Rattle.wasm_values.specs.declared.number.ValType.{ValType}
use Rattle.wasm_syntax.specs.declared.instr.Instr.{Instr}
use Rattle.wasm_syntax.specs.declared.flat.Flat.{Flat}
use Rattle.wasm_syntax.specs.declared.flat.Flat.TheVariants as flat
use Rattle.wasm_syntax.specs.declared.flat.Head.{Head}
use Rattle.wasm_syntax.specs.Parts.{Part, begun, with_instr, turned, closed_part}
use Rattle.wasm_syntax.specs.Trees.{instruction_of}
use Rattle.wasm_typing.specs.declared.fault.ValidWord.{ValidWord}
use Rattle.body_check.specs.words.Known.{Known}
use Rattle.body_check.specs.declared.open.Open.{Open}
use Rattle.body_check.specs.declared.open.Labels.{Labels}
use Rattle.body_check.specs.declared.walk.Walk.{Walk}
use Rattle.wasm_typing.specs.Typing.{Types, Context, types_of, InstructionTyped}
use Rattle.wasm_typing.specs.faults.Open.{part_results, labels_of, before_part, PartsTyped}
use Rattle.body_check.specs.words.Operands.{Are, Exactly, Advances, Gave, lower}
use Rattle.body_check.specs.words.Steps.{taken_by_branch, labels_in, Steps}
use Rattle.body_check.specs.words.Walks.{then_inner, MayEnd, floor_under, IsOpen, IsAt, Walked}
use Rattle.body_check.proofs.WalkLemmas.{labels_open, one_more, one_stuck, opened, floor_of, block_begins, no_block, side_turns, own_turns, no_turn, block_ends, no_end}

pub last_open : (xs rest : List Open) (o : Open) → xs ≡ rest ++ o ∷ [] → reverse xs ≡ o ∷ reverse rest
last_open xs rest o e = ap reverse e ∙ reverse-append rest (o ∷ [])

-- ---- a block begins

pub begins : (c : Context) (w n : Walk) (below : Known) (hd : Head) (ps : List Part) →
    below.below ≡ w.operands.below → Exactly (Are below) (λ ts. Are w.operands (before_part (Some hd) ts)) →
    n.operands ≡ record { below = below.below ++ below.here; here = []; dead = false } →
    n.opens.items ≡ w.opens.items ++ opened hd false (floor_of below) ∷ [] →
    IsAt c w ps → IsAt c n (begun hd ∷ ps)
begins c w n below hd [] kept e is os h = absurd h.open_
begins c w n below hd (p ∷ around) kept e is os h =
    let M : List Open → Type 0 = λ xs. IsOpen c None n.operands xs (begun hd ∷ p ∷ around) in
    record {
      open_ = subst M (sym (last_open n.opens.items w.opens.items (opened hd false (floor_of below)) os)) (block_begins c w.operands below n.operands (reverse w.opens.items) p around hd kept e is h.open_);
    }

pub begins_not : (c : Context) (w : Walk) (hd : Head) (ps : List Part) → ((ts : Types) → Are w.operands (before_part (Some hd) ts) → ⊥) →
    IsAt c w ps → PartsTyped c None (begun hd ∷ ps) → ⊥
begins_not c w hd [] never h t = absurd h.open_
begins_not c w hd (p ∷ around) never h t = no_block c w.operands (reverse w.opens.items) p around hd never h.open_ t

-- ---- an `else`

pub turns : (c : Context) (w n : Walk) (o : Open) (rest : List Open) (ps : List Part) → w.opens.items ≡ rest ++ o ∷ [] → n.opens.items ≡ rest ++ opened o.head true (floor_under o) ∷ [] →
    Are w.operands (part_results c (Some o.head)) → n.operands ≡ record { below = w.operands.below; here = []; dead = false } →
    IsAt c w ps → IsAt c n (then_inner ps flat.Else)
turns c w n o rest [] was is a empty h = absurd h.open_
turns c w n o rest (p ∷ around) was is a empty h =
    let M : List Open → Type 0 = λ xs. IsOpen c None w.operands xs (p ∷ around) in
    let N : List Open → Type 0 = λ xs. IsOpen c None n.operands xs (turned p ∷ around) in
    let R : Option Head → Type 0 = λ hd. Are w.operands (part_results c hd) in
    let here = subst M (last_open w.opens.items rest o was) h.open_ in
    record {
      open_ = subst N (sym (last_open n.opens.items rest (opened o.head true (floor_under o)) is)) (side_turns c w.operands n.operands o (reverse rest) p around (subst R (sym here.1.0) a) empty here);
    }

pub turns_not : (c : Context) (w : Walk) (o : Open) (rest : List Open) (ps : List Part) → w.opens.items ≡ rest ++ o ∷ [] →
    (Are w.operands (part_results c (Some o.head)) → ⊥) → IsAt c w ps → PartsTyped c None (then_inner ps flat.Else) → ⊥
turns_not c w o rest [] was never h t = absurd h.open_
turns_not c w o rest (p ∷ around) was never h t =
    let M : List Open → Type 0 = λ xs. IsOpen c None w.operands xs (p ∷ around) in
    let here = subst M (last_open w.opens.items rest o was) h.open_ in
    let R : Option Head → Type 0 = λ hd. Are w.operands (part_results c hd) in
    no_turn c w.operands (o ∷ reverse rest) p around (λ a. never (subst R here.1.0 a)) here t

pub own_side_turns : (c : Context) (w n : Walk) (ps : List Part) → w.opens.items ≡ [] → n.opens.items ≡ [] →
    Are w.operands c.results → n.operands ≡ record { below = w.operands.below; here = []; dead = false } →
    IsAt c w ps → IsAt c n (then_inner ps flat.Else)
own_side_turns c w n [] was is a empty h = absurd h.open_
own_side_turns c w n (p ∷ around) was is a empty h =
    let M : List Open → Type 0 = λ xs. IsOpen c None w.operands xs (p ∷ around) in
    let N : List Open → Type 0 = λ xs. IsOpen c None n.operands xs (turned p ∷ around) in
    let R : Option Head → Type 0 = λ hd. Are w.operands (part_results c hd) in
    let here = subst M (ap reverse was) h.open_ in
    record {
      open_ = subst N (sym (ap reverse is)) (own_turns c w.operands n.operands p around (subst R (sym here.1.0) a) empty here);
    }

pub own_side_turns_not : (c : Context) (w : Walk) (ps : List Part) → w.opens.items ≡ [] →
    (Are w.operands c.results → ⊥) → IsAt c w ps → PartsTyped c None (then_inner ps flat.Else) → ⊥
own_side_turns_not c w [] was never h t = absurd h.open_
own_side_turns_not c w (p ∷ around) was never h t =
    let M : List Open → Type 0 = λ xs. IsOpen c None w.operands xs (p ∷ around) in
    let here = subst M (ap reverse was) h.open_ in
    let R : Option Head → Type 0 = λ hd. Are w.operands (part_results c hd) in
    no_turn c w.operands [] p around (λ a. never (subst R here.1.0 a)) here t

-- ---- an `end`

pub ends : (c : Context) (w n : Walk) (after mid : Known) (o : Open) (rest : List Open) (ps : List Part) → w.opens.items ≡ rest ++ o ∷ [] → n.opens.items ≡ rest →
    Are w.operands (part_results c (Some o.head)) → MayEnd o.head o.turned →
    after.below ≡ w.operands.below → (o.base ≤ length after.below → mid ≡ lower (floor_under o) after.below) →
    n.operands.below ≡ mid.below → Gave (Are mid) (Are n.operands) (part_results c (Some o.head)) →
    IsAt c w ps → IsAt c n (then_inner ps flat.End)
ends c w n after mid o rest [] was is a m same down kept g h = absurd h.open_
ends c w n after mid o rest (p ∷ []) was is a m same down kept g h =
    let M : List Open → Type 0 = λ xs. IsOpen c None w.operands xs (p ∷ []) in
    absurd (subst M (last_open w.opens.items rest o was) h.open_).1.3
ends c w n after mid o rest (p ∷ q ∷ ps) was is a m same down kept g h =
    let M : List Open → Type 0 = λ xs. IsOpen c None w.operands xs (p ∷ q ∷ ps) in
    let N : List Open → Type 0 = λ xs. IsOpen c None n.operands xs (with_instr (closed_part p) q ∷ ps) in
    let here = subst M (last_open w.opens.items rest o was) h.open_ in
    let W : List (Option ValType) → Type 0 = λ b. o.base ≤ length b in
    let is_mid : mid ≡ lower (floor_under o) w.operands.below = down (subst W (sym same) here.1.2) ∙ ap (λ b. lower (floor_under o) b) same in
    let G : Known → Type 0 = λ k. Gave (Are k) (Are n.operands) (part_results c (Some o.head)) in
    record {
      open_ = subst N (sym (ap reverse is)) (block_ends c w.operands n.operands o (reverse rest) p q ps a m (kept ∙ ap (λ (k : Known). k.below) is_mid) (subst G is_mid g) here);
    }

pub ends_not : (c : Context) (w : Walk) (o : Open) (rest : List Open) (ps : List Part) → w.opens.items ≡ rest ++ o ∷ [] →
    (Are w.operands (part_results c (Some o.head)) → MayEnd o.head o.turned → ⊥) → IsAt c w ps → PartsTyped c None (then_inner ps flat.End) → ⊥
ends_not c w o rest [] was never h t = absurd h.open_
ends_not c w o rest (p ∷ []) was never h t =
    let M : List Open → Type 0 = λ xs. IsOpen c None w.operands xs (p ∷ []) in
    absurd (subst M (last_open w.opens.items rest o was) h.open_).1.3
ends_not c w o rest (p ∷ q ∷ ps) was never h t =
    let M : List Open → Type 0 = λ xs. IsOpen c None w.operands xs (p ∷ q ∷ ps) in
    no_end c w.operands o (reverse rest) p q ps never (subst M (last_open w.opens.items rest o was) h.open_) t

-- ---- one instruction

same_labels : (c : Context) (L : Labels) (w : Walk) (ps : List Part) → L.opens.now ≡ w.opens.items → types_of L.results ≡ c.results → IsAt c w ps → labels_in L ≡ labels_of c ps
same_labels c L w ps ls rs h =
    ap (λ os. map (λ (o : Open). taken_by_branch o.head) (reverse os) ++ types_of L.results ∷ []) ls ∙
    ap (λ ts. map (λ (o : Open). taken_by_branch o.head) (reverse w.opens.items) ++ ts ∷ []) rs ∙
    labels_open c None w.operands (reverse w.opens.items) ps h.open_

pub one_walked : (fault : Option ValidWord) (c : Context) (L : Labels) (w n : Walk) (i : Instr) (ps : List Part) → n.operands.below ≡ w.operands.below → n.opens.items ≡ w.opens.items → L.opens.now ≡ w.opens.items → types_of L.results ≡ c.results →
    Steps fault (Are w.operands) (Are n.operands) c (labels_in L) i → IsAt c w ps → Walked fault c n ps (flat.One i)
one_walked None c L w n i [] kept os ls rs a h = absurd h.open_
one_walked None c L w n i (p ∷ around) kept os ls rs a h =
    let S : List Types → Type 0 = λ L. Advances (Are w.operands) (Are n.operands) (InstructionTyped c L (instruction_of i)) in
    let N : List Open → Type 0 = λ xs. IsOpen c None n.operands (reverse xs) (with_instr i p ∷ around) in
    record {
      open_ = subst N (sym os) (one_more c w.operands n.operands (reverse w.opens.items) p around i kept (subst S (same_labels c L w (p ∷ around) ls rs h) a) h.open_);
    }
one_walked (Some v) c L w n i [] kept os ls rs a h = absurd h.open_
one_walked (Some v) c L w n i (p ∷ around) kept os ls rs a h =
    let S : List Types → Type 0 = λ L. Steps (Some v) (Are w.operands) (Are n.operands) c L i in
    let b = subst S (same_labels c L w (p ∷ around) ls rs h) a in
    (one_stuck c w.operands (reverse w.opens.items) p around i b.0 h.open_, b.1)

pub all_walked : (r : Result (Option ValidWord) OutOfMemory) (c : Context) (L : Labels) (w n : Walk) (i : Instr) (x : Flat) → x ≡ flat.One i → n.operands.below ≡ w.operands.below → n.opens.items ≡ w.opens.items → L.opens.now ≡ w.opens.items → types_of L.results ≡ c.results →
    IfOk r (λ fault. Steps fault (Are w.operands) (Are n.operands) c (labels_in L) i) →
    IfOk r (λ fault. (ps : List Part) → IsAt c w ps → Walked fault c n ps x)
all_walked (Ok fault) c L w n i x e kept os ls rs a =
    λ ps h. let M : Flat → Type 0 = λ y. Walked fault c n ps y in subst M (sym e) (one_walked fault c L w n i ps kept os ls rs a h)
all_walked (Err error) c L w n i x e kept os ls rs a = tt
