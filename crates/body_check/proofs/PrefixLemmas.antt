-- A body with a typing has one through each of its items.
use Rattle.std.proofs.Common.{◌≡◌, ℕ, ◌+◌, ◌-◌, ◌<◌, zero, suc, Bool, true, false, List, [], ◌∷◌, length, drop, slice_get, get_or, Option, Some, None, if◌then◌else◌, refl, sym, ap, ◌∙◌, subst, arith}
use Rattle.std.specs.Option.{option_and_then}
use Rattle.std.proofs.lemmas.Option.{slice_get-get_or}
use Rattle.wasm_values.specs.declared.number.ValType.{ValType}
use Rattle.wasm_syntax.specs.declared.instr.Instr.{Instr}
use Rattle.wasm_syntax.specs.declared.instr.Instr.TheVariants as instr
use Rattle.wasm_syntax.specs.declared.flat.Flat.{Flat}
use Rattle.wasm_syntax.specs.declared.flat.Flat.TheVariants as flat
use Rattle.wasm_syntax.specs.declared.flat.Head.{Head}
use Rattle.wasm_syntax.specs.declared.flat.Head.TheVariants as head
use Rattle.wasm_syntax.specs.FlatForm.{is_simple, flat_body}
use Rattle.wasm_syntax.specs.Sides.{Side, ToEnd, ToElse, after, read_item, read, sides_in, sides_from}
use Rattle.wasm_syntax.specs.Parts.{Part, begun, with_instr, closed_part, instr_of}
use Rattle.wasm_syntax.specs.Trees.{sequence_of}
use Rattle.wasm_syntax.proofs.SideLemmas.{read-flat_body}
use Rattle.wasm_syntax.proofs.RestLaws.{live}
use Rattle.wasm_typing.specs.Typing.{Types, Context, SequenceTyped, BodyTyped}
use Rattle.wasm_typing.specs.faults.Open.{part_results, label_of, labels_of, before_part, FirstSideTyped, PartsTyped, parts_before, TypedThrough}
use Rattle.body_check.specs.words.Walks.{then_inner}
use Rattle.body_check.proofs.WalkLemmas.{snoc_to, as_part, Parted, parted, part, before_taken}
use Rattle.body_check.proofs.BodyLemmas.{first_parts, next_parts, whole_parts}

-- ---- open parts and what is left of them

abbrev IsSided : Option Head → Option (List Instr) → Type 0
IsSided (Some (head.If ty)) first = Unit {0}
IsSided _ first = first ≡ None

abbrev IsIf : Option Head → Type 0
IsIf (Some (head.If ty)) = Unit {0}
IsIf _ = ⊥

abbrev Suits : Part → Side → Type 0
Suits p (ToEnd is) = IsSided p.head p.first
Suits p (ToElse is others) = IsIf p.head × (p.first ≡ None)

abbrev IsInner : Option Head → List Part → Type 0
IsInner None around = around ≡ []
IsInner (Some h) around = Unit {0}

abbrev Match : List Part → List Side → Type 0
Match [] [] = Unit {0}
Match [] (s ∷ ss) = ⊥
Match (p ∷ ps) [] = ⊥
Match (p ∷ ps) (s ∷ ss) = Suits p s × IsInner p.head ps × Match ps ss

some_same : {X : Type 0} (x y : X) → Some x ≡ Some y → x ≡ y
some_same x y e = cc

none_some : {X : Type 0} (x : X) → None ≡ Some x → ⊥
none_some x e = cc

suits_after : (i : Instr) (p : Part) (s : Side) → Suits p (after (i ∷ []) s) → Suits (with_instr i p) s
suits_after i p (ToEnd is) h = h
suits_after i p (ToElse is others) h = h

suits_if : (h : Option Head) (first : Option (List Instr)) → IsIf h → (is : List Instr) → IsSided h (Some is)
suits_if None first i is = absurd i
suits_if (Some (head.Block ty)) first i is = absurd i
suits_if (Some (head.Loop ty)) first i is = absurd i
suits_if (Some (head.If ty)) first i is = tt

-- what reading an item says of what was left
record ReadOne (i : Instr) (ss left : List Side) : Type 0 where
  side : Side
  outer : List Side
  was : left ≡ side ∷ outer
  now : ss ≡ after (i ∷ []) side ∷ outer

read_one : (i : Instr) (left ss : List Side) → read_item (flat.One i) left ≡ Some ss → ReadOne i ss left
unfolding read_item
read_one i [] ss e = absurd (none_some ss e)
read_one i (s ∷ outer) ss e = by_test (is_simple i) e
  where
    by_test : (b : Bool) → (if b then Some (after (i ∷ []) s ∷ outer) else None) ≡ Some ss → ReadOne i ss (s ∷ outer)
    by_test true e = record { side = s; outer = outer; was = refl; now = sym (some_same _ ss e) }
    by_test false e = absurd (none_some ss e)

same_suits : (i : Instr) (p : Part) (s : Side) → Suits p (after (i ∷ []) s) → Suits p s
same_suits i p (ToEnd is) h = h
same_suits i p (ToElse is others) h = h

at_outer : (i : Instr) (s : Side) (outer ss : List Side) (ps : List Part) → after (i ∷ []) s ∷ outer ≡ ss → Match ps ss → Match ps (s ∷ outer)
at_outer i s outer ss [] e h = absurd (subst (λ xs. Match [] xs) (sym e) h)
at_outer i s outer ss (p ∷ ps) e h =
    let m = subst (λ xs. Match (p ∷ ps) xs) (sym e) h in (same_suits i p s m.0, m.1, m.2)

with_one : (i : Instr) (p : Part) (s : Side) → Suits p s → Suits (with_instr i p) s
with_one i p (ToEnd is) h = h
with_one i p (ToElse is others) h = h

push_one : (i : Instr) (s : Side) (outer : List Side) (ps : List Part) → Match ps (s ∷ outer) → Match (then_inner ps (flat.One i)) (s ∷ outer)
push_one i s outer [] h = h
push_one i s outer (p ∷ ps) h = (with_one i p s h.0, h.1, h.2)

match_one : (i : Instr) (left ss : List Side) → read_item (flat.One i) left ≡ Some ss → (ps : List Part) → Match ps ss → Match (then_inner ps (flat.One i)) left
match_one i left ss e ps h =
    let r = read_one i left ss e in
    let M : List Side → Type 0 = λ xs. Match (then_inner ps (flat.One i)) xs in
    subst M (sym r.was) (push_one i r.side r.outer ps (at_outer i r.side r.outer ss ps (sym r.now) h))

match_block : (ty : Option ValType) (left ss : List Side) → read_item (flat.Block ty) left ≡ Some ss → (ps : List Part) → Match ps ss → Match (begun (head.Block ty) ∷ ps) left
unfolding read_item
match_block ty [] ss e ps h = absurd (none_some ss e)
match_block ty (ToEnd is ∷ []) ss e ps h = absurd (none_some ss e)
match_block ty (ToEnd is ∷ s ∷ outer) ss e ps h = (refl, tt, at_outer (instr.Block ty is) s outer ss ps (some_same _ ss e) h)
match_block ty (ToElse is others ∷ outer) ss e ps h = absurd (none_some ss e)

match_loop : (ty : Option ValType) (left ss : List Side) → read_item (flat.Loop ty) left ≡ Some ss → (ps : List Part) → Match ps ss → Match (begun (head.Loop ty) ∷ ps) left
unfolding read_item
match_loop ty [] ss e ps h = absurd (none_some ss e)
match_loop ty (ToEnd is ∷ []) ss e ps h = absurd (none_some ss e)
match_loop ty (ToEnd is ∷ s ∷ outer) ss e ps h = (refl, tt, at_outer (instr.Loop ty is) s outer ss ps (some_same _ ss e) h)
match_loop ty (ToElse is others ∷ outer) ss e ps h = absurd (none_some ss e)

match_if : (ty : Option ValType) (left ss : List Side) → read_item (flat.If ty) left ≡ Some ss → (ps : List Part) → Match ps ss → Match (begun (head.If ty) ∷ ps) left
unfolding read_item
match_if ty [] ss e ps h = absurd (none_some ss e)
match_if ty (ToEnd is ∷ []) ss e ps h = absurd (none_some ss e)
match_if ty (ToEnd is ∷ s ∷ outer) ss e ps h = (tt, tt, at_outer (instr.If ty is None) s outer ss ps (some_same _ ss e) h)
match_if ty (ToElse is others ∷ []) ss e ps h = absurd (none_some ss e)
match_if ty (ToElse is others ∷ s ∷ outer) ss e ps h = ((tt, refl), tt, at_outer (instr.If ty is (Some others)) s outer ss ps (some_same _ ss e) h)

match_else : (left ss : List Side) → read_item flat.Else left ≡ Some ss → (ps : List Part) → Match ps ss → Match (then_inner ps flat.Else) left
unfolding read_item
match_else [] ss e ps h = absurd (none_some ss e)
match_else (ToEnd is ∷ outer) ss e [] h = absurd (let M : List Side → Type 0 = λ xs. Match [] xs in subst M (sym (some_same _ ss e)) h)
match_else (ToEnd is ∷ outer) ss e (p ∷ ps) h =
    let M : List Side → Type 0 = λ xs. Match (p ∷ ps) xs in
    let m = subst M (sym (some_same _ ss e)) h in
    (suits_if p.head p.first m.0.0 p.instrs, m.1, m.2)
match_else (ToElse is others ∷ outer) ss e ps h = absurd (none_some ss e)

-- what an `else` finds: its part had none before
first_at_else : (left ss : List Side) → read_item flat.Else left ≡ Some ss → (p : Part) (ps : List Part) → Match (p ∷ ps) ss → p.first ≡ None
unfolding read_item
first_at_else [] ss e p ps h = absurd (none_some ss e)
first_at_else (ToEnd is ∷ outer) ss e p ps h =
    let M : List Side → Type 0 = λ xs. Match (p ∷ ps) xs in (subst M (sym (some_same _ ss e)) h).0.1
first_at_else (ToElse is others ∷ outer) ss e p ps h = absurd (none_some ss e)

-- what an `end` finds: the part has two sides only where it is an `if`, and what is left around it suits the rest
at_end : (left ss : List Side) → read_item flat.End left ≡ Some ss → (p : Part) (ps : List Part) → Match (p ∷ ps) ss → IsSided p.head p.first × IsInner p.head ps × Match ps left
unfolding read_item
at_end left ss e p ps h = let M : List Side → Type 0 = λ xs. Match (p ∷ ps) xs in subst M (sym (some_same _ ss e)) h

match_end : (left ss : List Side) → read_item flat.End left ≡ Some ss → (p q : Part) (ps : List Part) → Match (p ∷ q ∷ ps) ss → Match (then_inner (p ∷ q ∷ ps) flat.End) left
match_end left ss e p q ps h = push_closed left (at_end left ss e p (q ∷ ps) h).2
  where
    push_closed : (left : List Side) → Match (q ∷ ps) left → Match (with_instr (closed_part p) q ∷ ps) left
    push_closed [] h = h
    push_closed (s ∷ outer) h = (with_one (closed_part p) q s h.0, h.1, h.2)

-- ---- back from behind an item

under_head : (c : Context) (hd : Option Head) (p : Part) (around : List Part) → PartsTyped c hd (p ∷ around) → PartsTyped c None (p ∷ around)
under_head c hd p around t = ((before_part hd t.0.0, t.0.1), t.1, t.2)

first_typed : (c : Context) (labels : List Types) (h : Option Head) (first : Option (List Instr)) → first ≡ None → FirstSideTyped c labels h first
first_typed c labels h first e = let M : Option (List Instr) → Type 0 = λ f. FirstSideTyped c labels h f in subst M (sym e) tt

sides_typed : (c : Context) (labels : List Types) (hd : Head) (first : Option (List Instr)) (is : List Instr) (ins outs : Types) → IsSided (Some hd) first →
    Parted c labels hd first is ins outs → FirstSideTyped c (label_of c (Some hd) ∷ labels) (Some hd) first
sides_typed c labels (head.Block ty) first is ins outs s t = first_typed c (label_of c (Some (head.Block ty)) ∷ labels) (Some (head.Block ty)) first s
sides_typed c labels (head.Loop ty) first is ins outs s t = first_typed c (label_of c (Some (head.Loop ty)) ∷ labels) (Some (head.Loop ty)) first s
sides_typed c labels (head.If ty) first is ins outs s t = t.first

back_end_at : (c : Context) (hd : Head) (first : Option (List Instr)) (is : List Instr) (q : Part) (ps : List Part) → IsSided (Some hd) first →
    PartsTyped c None (with_instr (closed_part (part hd first is)) q ∷ ps) → PartsTyped c None (part hd first is ∷ q ∷ ps)
back_end_at c hd first is q ps s t =
    let L = labels_of c (q ∷ ps) in
    let r = snoc_to c L q.instrs (instr_of (Some hd) first is) [] t.0.0 t.0.1 in
    let u = parted c L hd first is r.0 t.0.0 r.2 in
    let S : Types → Type 0 = λ m. SequenceTyped c L (sequence_of q.instrs) [] m in (
      (part_results c (Some hd), u.side),
      sides_typed c L hd first is r.0 t.0.0 s u,
      ((u.turns.0, subst S (u.turns.1 ∙ before_taken hd u.turns.0) r.1), t.1, t.2),
    )

back_end : (c : Context) (h : Option Head) (p q : Part) (ps : List Part) → p.head ≡ h → IsSided p.head p.first → IsInner p.head (q ∷ ps) →
    PartsTyped c None (with_instr (closed_part p) q ∷ ps) → PartsTyped c None (p ∷ q ∷ ps)
back_end c None p q ps e s i t = absurd (no_cons (let M : Option Head → Type 0 = λ h. IsInner h (q ∷ ps) in subst M e i))
  where
    no_cons : q ∷ ps ≡ [] → ⊥
    no_cons e = cc
back_end c (Some hd) p q ps e s i t =
    let same = as_part p hd e in
    let S : Part → Type 0 = λ r. IsSided r.head r.first in
    let T : Part → Type 0 = λ r. PartsTyped c None (with_instr (closed_part r) q ∷ ps) in
    let U : Part → Type 0 = λ r. PartsTyped c None (r ∷ q ∷ ps) in
    subst U (sym same) (back_end_at c hd p.first p.instrs q ps (subst S same s) (subst T same t))

-- parts that suit what is left have a typing where they have one behind an item
back : (c : Context) (x : Flat) (left ss : List Side) → read_item x left ≡ Some ss → (ps : List Part) → Match ps ss → PartsTyped c None (then_inner ps x) → PartsTyped c None ps
back c (flat.Block ty) left ss e [] h t = tt
back c (flat.Block ty) left ss e (p ∷ ps) h t = under_head c (Some (head.Block ty)) p ps t.2
back c (flat.Loop ty) left ss e [] h t = tt
back c (flat.Loop ty) left ss e (p ∷ ps) h t = under_head c (Some (head.Loop ty)) p ps t.2
back c (flat.If ty) left ss e [] h t = tt
back c (flat.If ty) left ss e (p ∷ ps) h t = under_head c (Some (head.If ty)) p ps t.2
back c (flat.One i) left ss e [] h t = tt
back c (flat.One i) left ss e (p ∷ ps) h t =
    let r = snoc_to c (labels_of c (p ∷ ps)) p.instrs i [] t.0.0 t.0.1 in ((r.0, r.1), t.1, t.2)
back c flat.Else left ss e [] h t = tt
back c flat.Else left ss e (p ∷ ps) h t =
    ((part_results c p.head, t.1), first_typed c (labels_of c (p ∷ ps)) p.head p.first (first_at_else left ss e p ps h), t.2)
back c flat.End left ss e [] h t = tt
back c flat.End left ss e (p ∷ []) h t = t
back c flat.End left ss e (p ∷ q ∷ ps) h t =
    let m = at_end left ss e p (q ∷ ps) h in back_end c p.head p q ps refl m.0 m.1 t

some_left : (p : Part) (left : List Side) → 0 < length left → Match [] left → ⊥
some_left p [] less h = absurd (omega (arith, less))
some_left p (s ∷ left) less h = h

forth : (x : Flat) (left ss : List Side) → read_item x left ≡ Some ss → (ps : List Part) → Match ps ss → 0 < length ps → 0 < length left → Match (then_inner ps x) left
forth (flat.Block ty) left ss e ps h n l = match_block ty left ss e ps h
forth (flat.Loop ty) left ss e ps h n l = match_loop ty left ss e ps h
forth (flat.If ty) left ss e ps h n l = match_if ty left ss e ps h
forth (flat.One i) left ss e ps h n l = match_one i left ss e ps h
forth flat.Else left ss e ps h n l = match_else left ss e ps h
forth flat.End left ss e [] h n l = absurd (omega (arith, n))
forth flat.End left ss e (p ∷ []) h n l = absurd (some_left p left l (at_end left ss e p [] h).2)
forth flat.End left ss e (p ∷ q ∷ ps) h n l = match_end left ss e p q ps h

-- ---- over a whole body

-- reading these items leaves some sides
record Reads (xs : List Flat) : Type 0 where
  sides : List Side
  is : read xs ≡ Some sides

-- reading an item before what is left
record ReadsItem (x : Flat) (xs : List Flat) (ss : List Side) : Type 0 where
  left : List Side
  rest : read xs ≡ Some left
  item : read_item x left ≡ Some ss

reads_item : (x : Flat) (xs : List Flat) (ss : List Side) → read (x ∷ xs) ≡ Some ss → ReadsItem x xs ss
unfolding read
reads_item x xs ss e = by_rest (read xs) refl e
  where
    by_rest : (o : Option (List Side)) → read xs ≡ o → option_and_then (read_item x) o ≡ Some ss → ReadsItem x xs ss
    by_rest None w e = absurd (none_some ss e)
    by_rest (Some left) w e = record { left = left; rest = w; item = e }

-- at an item, what is left before and behind it
record ReadsAt (xs : List Flat) (n : ℕ) (x : Flat) (ss : List Side) : Type 0 where
  left : List Side
  rest : read (drop (suc n) xs) ≡ Some left
  item : read_item x left ≡ Some ss

reads_at : (xs : List Flat) (n : ℕ) (x : Flat) (ss : List Side) → slice_get xs n ≡ Some x → read (drop n xs) ≡ Some ss → ReadsAt xs n x ss
reads_at [] n x ss h e = cc
reads_at (y ∷ xs) zero x ss h e =
    let r = reads_item y xs ss e in
    let M : Flat → Type 0 = λ z. read_item z r.left ≡ Some ss in
    record { left = r.left; rest = r.rest; item = subst M (some_same y x h) r.item }
reads_at (y ∷ xs) (suc n) x ss h e =
    let r = reads_at xs n x ss h e in record { left = r.left; rest = r.rest; item = r.item }

-- the open parts before a place suit what is left there
record SuitsAt (body : List Instr) (n : ℕ) : Type 0 where
  sides : List Side
  read_is : read (drop n (flat_body body)) ≡ Some sides
  match : Match (parts_before body n) sides

sides_are : (items : List Flat) (n : ℕ) (ss : List Side) → read (drop n items) ≡ Some ss → sides_from items n ≡ ss
unfolding sides_from
sides_are items n ss e = ap sides_in e

some_parts : (body : List Instr) (n : ℕ) (ss : List Side) → n < length (flat_body body) → read (drop n (flat_body body)) ≡ Some ss → 0 < length ss
some_parts body n ss h e =
    let L : List Side → Type 0 = λ xs. 0 < length xs in subst L (sides_are (flat_body body) n ss e) (live body n h)

match_some : (ps : List Part) (ss : List Side) → Match ps ss → 0 < length ss → 0 < length ps
match_some [] [] h l = l
match_some [] (s ∷ ss) h l = absurd h
match_some (p ∷ ps) ss h l = omega arith

item_at : (xs : List Flat) (n : ℕ) → n < length xs → (x : Flat) × (slice_get xs n ≡ Some x)
item_at xs n h = (get_or xs n flat.End, slice_get-get_or xs n flat.End h)

suits_at : (body : List Instr) (n : ℕ) → n < length (flat_body body) → SuitsAt body n
suits_at body zero h =
    let M : List Part → Type 0 = λ ps. Match ps (ToEnd body ∷ []) in
    record { sides = ToEnd body ∷ []; read_is = read-flat_body body; match = subst M (sym (first_parts body)) (refl, refl, tt) }
suits_at body (suc n) h =
    let before = suits_at body n (omega (arith, h)) in
    let (x, there) = item_at (flat_body body) n (omega (arith, h)) in
    let r = reads_at (flat_body body) n x before.sides there before.read_is in
    let next = forth x r.left before.sides r.item (parts_before body n) before.match
    (match_some (parts_before body n) before.sides before.match (some_parts body n before.sides (omega (arith, h)) before.read_is))
    (some_parts body (suc n) r.left h r.rest) in
    let M : List Part → Type 0 = λ ps. Match ps r.left in
    let z : suc n ≡ n + 1 = omega arith in
    let same : parts_before body (suc n) ≡ then_inner (parts_before body n) x = ap (parts_before body) z ∙ next_parts body n x there in
    record { sides = r.left; read_is = r.rest; match = subst M (sym same) next }

back_one : (c : Context) (body : List Instr) (n : ℕ) → suc n < length (flat_body body) → PartsTyped c None (parts_before body (suc n)) → PartsTyped c None (parts_before body n)
back_one c body n h t =
    let before = suits_at body n (omega (arith, h)) in
    let (x, there) = item_at (flat_body body) n (omega (arith, h)) in
    let r = reads_at (flat_body body) n x before.sides there before.read_is in
    let z : suc n ≡ n + 1 = omega arith in
    let same : parts_before body (suc n) ≡ then_inner (parts_before body n) x = ap (parts_before body) z ∙ next_parts body n x there in
    let M : List Part → Type 0 = λ ps. PartsTyped c None ps in
    back c x r.left before.sides r.item (parts_before body n) before.match (subst M same t)

back_all : (c : Context) (body : List Instr) (k n : ℕ) → n + k < length (flat_body body) → PartsTyped c None (parts_before body (n + k)) → PartsTyped c None (parts_before body n)
back_all c body zero n h t =
    let M : ℕ → Type 0 = λ j. PartsTyped c None (parts_before body j) in
    let z : n + zero ≡ n = omega arith in
    subst M z t
back_all c body (suc k) n h t =
    let M : ℕ → Type 0 = λ j. PartsTyped c None (parts_before body j) in
    let z : n + suc k ≡ suc (n + k) = omega arith in
    back_all c body k n (omega (arith, h)) (back_one c body (n + k) (omega (arith, h)) (subst M z t))

-- a body with a typing has one through each of its items
pub typed_through : (c : Context) (body : List Instr) (n : ℕ) → n < length (flat_body body) → BodyTyped c (sequence_of body) → TypedThrough c body n
typed_through c body n h t = (
  λ less.
      let last = length (flat_body body) - 1 in
      let M : List Part → Type 0 = λ ps. PartsTyped c None ps in
      let N : ℕ → Type 0 = λ j. PartsTyped c None (parts_before body j) in
      let whole : PartsTyped c None (parts_before body last) = subst M (sym (whole_parts body last (omega (arith, less)))) ((c.results, t), tt, tt) in
      let e : last ≡ (n + 1) + (last - (n + 1)) = omega (arith, less) in
      back_all c body (last - (n + 1)) (n + 1) (omega (arith, less, e)) (subst N e whole),
  λ e. t,
)
