-- The printed text of a value that some text spells, spells that value with places of its own.
use Rattle.std.proofs.Common.{◌≡◌, ℕ, ℤ, zero, suc, pos, negsuc, ◌+◌, ◌-◌, ◌*◌, ◌/◌, ◌%◌, ◌^◌, ◌<◌, ◌≤◌, max, true, false, List, [], ◌∷◌, ◌++◌, length, inl, refl, sym, ap, ◌∙◌, subst, append_assoc, length-append, arith}
use Rattle.std.proofs.lemmas.Bool.Decides.{nat_tests}
use Rattle.std.proofs.lemmas.List.{append-nil}
use Rattle.std.proofs.lemmas.Fmt.{decimal_digit, decimal_by_steps_wide}
use Rattle.std.specs.Fmt.{decimal, signed_decimal}
use Rattle.std.specs.List.{AllByRecursion}
use Rattle.std.specs.Str.{IsUtf8}
use Rattle.sexp_text.specs.declared.sexp.Node.{Node, Num, Word, Str, List', Row_of-Sexp, end_of-Sexp, more_of-Sexp}
use Rattle.sexp_text.specs.declared.sexp.Node.TheVariants as node
use Rattle.sexp_text.specs.declared.sexp.Sexp.{Sexp}
use Rattle.sexp_text.specs.Bytes.{is_between, is_digit, is_name_byte, is_sign, is_run, is_white}
use Rattle.sexp_text.specs.Items.{Item, Open, Close, Number, Name, Quote, node_items, row_items, items_of, items_of_all}
use Rattle.sexp_text.specs.Spelling.{nothing, value_after, WritesPositive, WritesNumber, IsWord, quoted, Marks, EndsRun, Spelled, IsList, depth_of_node, depth_of_row, SexpSpells}
use Rattle.sexp_text.specs.Printing.{printed_node, printed_row, printed_others, printed, Branch, Cons, tree_of_node, trees_of_row, tree_of, trees_of}
use Rattle.sexp_text.proofs.FrontLemmas.{items_of-List}
use Rattle.sexp_text.proofs.PrintLemmas.{depth_all, tree_of_node-List, depth_of_node-List}
use Rattle.sexp_text.proofs.SoundLemmas.{white_more}

-- a number's decimal text

value_after-push : (n c : ℕ) (bs : List ℕ) → value_after n (bs ++ c ∷ []) ≡ 10 * value_after n bs + (c - 48)
value_after-push n c [] = refl
value_after-push n c (b ∷ bs) = value_after-push (10 * n + (b - 48)) c bs

digits_push : (bs : List ℕ) (c : ℕ) → AllByRecursion (λ d. is_digit d ≡ true) bs → is_digit c ≡ true → AllByRecursion (λ d. is_digit d ≡ true) (bs ++ c ∷ [])
digits_push [] c h k = (k, tt)
digits_push (b ∷ bs) c h k = (h.0, digits_push bs c h.1 k)

digit_is : (d : ℕ) → d < 10 → is_digit (48 + d) ≡ true
digit_is d h = grind (arith, nat_tests)

first_is : (d : ℕ) → 0 < d → d < 10 → is_between 49 57 (48 + d) ≡ true
first_is d h k = grind (arith, nat_tests)

positive_push : (bs : List ℕ) (m d n : ℕ) → d < 10 → 10 * m + d ≡ n → WritesPositive bs m → WritesPositive (bs ++ (48 + d) ∷ []) n
positive_push [] m d n h e w = absurd w
positive_push (b ∷ bs) m d n h e w = (
  w.0,
  digits_push bs (48 + d) w.1 (digit_is d h),
  value_after-push (b - 48) (48 + d) bs ∙ (let v = w.2 in omega (arith, v, e)),
)

abbrev Writes : ℕ → List ℕ → Type 0
Writes n ds = 0 < n → WritesPositive ds n

decimal_writes : (n : ℕ) → n < 2 ^ 120 → Writes n (decimal n)
decimal_writes n h =
    decimal_by_steps_wide Writes
    (λ d l p. (first_is d p l, tt, omega arith))
    (λ m ds l w p. positive_push ds (m / 10) (m % 10) m (omega arith) (omega arith) (w (omega arith)))
    n (omega arith)

-- below 2 ^ 120 in absolute value
abbrev Below : ℤ → Type 0
Below (pos n) = n < 2 ^ 120
Below (negsuc n) = suc n < 2 ^ 120

number_below : (mark : List ℕ) (z : ℤ) → WritesNumber mark z → Below z
number_below mark (pos zero) h = omega arith
number_below mark (pos (suc n)) h = h.1
number_below mark (negsuc n) h = h.3

writes_decimal : (z : ℤ) → Below z → WritesNumber (signed_decimal z) z
writes_decimal (pos zero) h = decimal_digit 0 (omega arith)
writes_decimal (pos (suc n)) h = (decimal_writes (suc n) h (omega arith), h)
writes_decimal (negsuc n) h = (decimal (suc n), refl, decimal_writes (suc n) h (omega arith), h)

-- what has a spelling
abbrev Good : Item → Type 0
Good (Open at) = Unit {0}
Good (Close at) = Unit {0}
Good (Number at z) = Below z
Good (Name at w) = IsWord w
Good (Quote at s) = IsUtf8 s

abbrev AllGood : List Item → Type 0
AllGood = AllByRecursion Good

good_mark : (x : Item) (mark : List ℕ) → Marks x mark → Good x
good_mark (Open at) mark m = tt
good_mark (Close at) mark m = tt
good_mark (Number at z) mark m = number_below mark z m
good_mark (Name at w) mark m = m.1
good_mark (Quote at s) mark m = m.1

good_spelled : (n : ℕ) (text : List ℕ) (xs : List Item) → Spelled n text xs → AllGood xs
good_spelled n text [] s = tt
good_spelled n text (x ∷ xs) s = (good_mark x s.1 s.5, good_spelled n s.2 xs s.8)

good_split : (xs ys : List Item) → AllGood (xs ++ ys) → AllGood xs × AllGood ys
good_split [] ys h = (tt, h)
good_split (x ∷ xs) ys h = let more = good_split xs ys h.1 in ((h.0, more.0), more.1)

-- places

place_of : (m n : ℕ) → m ≤ n → (n - m) + m ≡ n
place_of m n h = omega arith

space_ends : is_run 32 ≡ false
unfolding is_run is_name_byte is_sign
space_ends = refl

close_ends : is_run 41 ≡ false
unfolding is_run is_name_byte is_sign
close_ends = refl

space_white : is_white 32 ≡ true
unfolding is_white
space_white = refl

others_end : {k : _} (row : Row_of-Sexp k) (rest : List ℕ) → EndsRun rest → EndsRun (printed_others row ++ rest)
others_end end_of-Sexp rest h = h
others_end (more_of-Sexp at node others) rest h = space_ends

-- a part and what follows it, spelled again
abbrev NodeAgain : Node → ℕ → List ℕ → List Item → Type 0
NodeAgain node n rest ys =
    (from : ℕ) × (other : Node) × (tree_of_node other ≡ tree_of_node node) × (depth_of_node other ≡ depth_of_node node) × (IsList node → IsList other) ×
    Spelled n (printed_node node ++ rest) (node_items from other ++ ys)

abbrev PartsAgain : {k : _} → Row_of-Sexp k → List ℕ → ℕ → List ℕ → List Item → Type 0
PartsAgain row text n rest ys =
    (parts : List Sexp) × (trees_of parts ≡ trees_of_row row) × (depth_all parts ≡ depth_of_row row) × Spelled n (text ++ rest) (items_of_all parts ++ ys)

list_again : (at close end : ℕ) (shape : _) (row : Row_of-Sexp _) (n : ℕ) (rest : List ℕ) (ys : List Item) → length (printed_node (List' shape row close) ++ rest) ≤ n →
    PartsAgain row (printed_row row) n (41 ∷ rest) (Close end ∷ ys) → NodeAgain (List' shape row close) n rest ys
unfolding items_of
list_again at close end shape row n rest ys l p =
    let parts = p.0 in
    let from = n - length (printed_node (List' shape row close) ++ rest) in
    let here = place_of (length (printed_node (List' shape row close) ++ rest)) n l in
    let inside : Spelled n ((printed_row row ++ 41 ∷ []) ++ rest) ((items_of_all parts ++ Close end ∷ []) ++ ys) =
    subst (λ xs. Spelled n ((printed_row row ++ 41 ∷ []) ++ rest) xs) (sym (append_assoc (items_of_all parts) (Close end ∷ []) ys))
    (subst (λ bs. Spelled n bs (items_of_all parts ++ Close end ∷ ys)) (sym (append_assoc (printed_row row) (41 ∷ []) rest)) p.3) in
    let whole : Spelled n (printed_node (List' shape row close) ++ rest) (Open from ∷ ((items_of_all parts ++ Close end ∷ []) ++ ys)) =
    ([], 40 ∷ [], (printed_row row ++ 41 ∷ []) ++ rest, refl, nothing, refl, here, tt, inside) in (
      from,
      node.List parts end,
      tree_of_node-List parts end ∙ ap Branch p.1,
      depth_of_node-List parts end ∙ ap (λ d. d + 1) p.2,
      (λ _. tt),
      subst (λ xs. Spelled n (printed_node (List' shape row close) ++ rest) (xs ++ ys)) (sym (items_of-List from end parts)) whole,
    )

cons_again : (node : Node) {k : _} (others : Row_of-Sexp k) (text : List ℕ) (n : ℕ) (rest : List ℕ) (ys : List Item) →
    (p : PartsAgain others text n rest ys) → NodeAgain node n (text ++ rest) (items_of_all p.0 ++ ys) →
    (parts : List Sexp) × (trees_of parts ≡ Cons (tree_of_node node) (trees_of_row others)) × (depth_all parts ≡ max (depth_of_node node) (depth_of_row others)) ×
    Spelled n ((printed_node node ++ text) ++ rest) (items_of_all parts ++ ys)
unfolding items_of
cons_again node others text n rest ys p a = (
  record { at = a.0; node = a.1 } ∷ p.0,
  (λ i. Cons (a.2 i) (p.1 i)),
  (λ i. max (a.3 i) (p.2 i)),
  subst (λ xs. Spelled n ((printed_node node ++ text) ++ rest) xs) (sym (append_assoc (node_items a.0 a.1) (items_of_all p.0) ys))
      (subst (λ bs. Spelled n bs (node_items a.0 a.1 ++ (items_of_all p.0 ++ ys))) (sym (append_assoc (printed_node node) text rest)) a.5),
)

mutual
  node_again : (node : Node) (at : ℕ) → AllGood (node_items at node) → (n : ℕ) (rest : List ℕ) (ys : List Item) → EndsRun rest → Spelled n rest ys →
      length (printed_node node ++ rest) ≤ n → NodeAgain node n rest ys
  node_again (Num z) at h n rest ys e s l =
      let from = n - length (signed_decimal z ++ rest) in
      (from, Num z, refl, refl, (λ x. x), ([], signed_decimal z, rest, refl, nothing, writes_decimal z h.0, place_of (length (signed_decimal z ++ rest)) n l, e, s))
  node_again (Word w) at h n rest ys e s l =
      let from = n - length (w ++ rest) in
      (from, Word w, refl, refl, (λ x. x), ([], w, rest, refl, nothing, (refl, h.0), place_of (length (w ++ rest)) n l, e, s))
  node_again (Str x) at h n rest ys e s l =
      let from = n - length (quoted x ++ rest) in
      (from, Str x, refl, refl, (λ x. x), ([], quoted x, rest, refl, nothing, (refl, h.0), place_of (length (quoted x ++ rest)) n l, tt, s))
  node_again (List' shape row close) at h n rest ys e s l =
      let inside = (good_split (row_items row) (Close close ∷ []) h.1).0 in
      let short : length (printed_row row ++ 41 ∷ rest) ≤ n =
      let same = ap length (append_assoc (printed_row row) (41 ∷ []) rest) in omega (arith, l, same) in
      let end = n - length (41 ∷ rest) in
      let room : length (41 ∷ rest) ≤ n = omega (arith, short, length-append (printed_row row) (41 ∷ rest)) in
      let after : Spelled n (41 ∷ rest) (Close end ∷ ys) = ([], 41 ∷ [], rest, refl, nothing, refl, place_of (length (41 ∷ rest)) n room, tt, s) in
      list_again at close end shape row n rest ys l (row_again row inside n (41 ∷ rest) (Close end ∷ ys) close_ends after short)

  row_again : {k : _} (row : Row_of-Sexp k) → AllGood (row_items row) → (n : ℕ) (rest : List ℕ) (ys : List Item) → EndsRun rest → Spelled n rest ys →
      length (printed_row row ++ rest) ≤ n → PartsAgain row (printed_row row) n rest ys
  row_again end_of-Sexp h n rest ys e s l = ([], refl, refl, s)
  row_again (more_of-Sexp at node others) h n rest ys e s l =
      let good = good_split (node_items at node) (row_items others) h in
      let whole = ap length (append_assoc (printed_node node) (printed_others others) rest) in
      let parts = length-append (printed_node node) (printed_others others ++ rest) in
      let short : length (printed_others others ++ rest) ≤ n = omega (arith, l, whole, parts) in
      let long : length (printed_node node ++ (printed_others others ++ rest)) ≤ n = omega (arith, l, whole) in
      let p = others_again others good.1 n rest ys e s short in
      cons_again node others (printed_others others) n rest ys p
      (node_again node at good.0 n (printed_others others ++ rest) (items_of_all p.0 ++ ys) (others_end others rest e) p.3 long)

  others_again : {k : _} (row : Row_of-Sexp k) → AllGood (row_items row) → (n : ℕ) (rest : List ℕ) (ys : List Item) → EndsRun rest → Spelled n rest ys →
      length (printed_others row ++ rest) ≤ n → PartsAgain row (printed_others row) n rest ys
  others_again end_of-Sexp h n rest ys e s l = ([], refl, refl, s)
  others_again (more_of-Sexp at node others) h n rest ys e s l =
      let good = good_split (node_items at node) (row_items others) h in
      let whole = ap length (append_assoc (printed_node node) (printed_others others) rest) in
      let parts = length-append (printed_node node) (printed_others others ++ rest) in
      let short : length (printed_others others ++ rest) ≤ n = omega (arith, l, whole, parts) in
      let long : length (printed_node node ++ (printed_others others ++ rest)) ≤ n = omega (arith, l, whole) in
      let p = others_again others good.1 n rest ys e s short in
      let q = cons_again node others (printed_others others) n rest ys p
      (node_again node at good.0 n (printed_others others ++ rest) (items_of_all p.0 ++ ys) (others_end others rest e) p.3 long) in
      (q.0, q.1, q.2, white_more n 32 ((printed_node node ++ printed_others others) ++ rest) (items_of_all q.0 ++ ys) space_white q.3)

-- the printed text spells the value again
pub printed_again : (text : List ℕ) (s : Sexp) → SexpSpells text s → (again : Sexp) × SexpSpells (printed s) again × (tree_of again ≡ tree_of s)
unfolding SexpSpells printed items_of tree_of
printed_again text s h =
    let good = good_spelled (length text) text (items_of s) h.2 in
    let bare = printed_node s.node in
    let same : bare ++ [] ≡ bare = append-nil bare in
    let short : length (bare ++ []) ≤ length bare = let e = ap length same in omega (arith, e) in
    let a = node_again s.node s.at good (length bare) [] [] tt (inl nothing) short in
    let spelled : Spelled (length bare) bare (node_items a.0 a.1) =
    subst (λ xs. Spelled (length bare) bare xs) (append-nil (node_items a.0 a.1)) (subst (λ bs. Spelled (length bare) bs (node_items a.0 a.1 ++ [])) same a.5) in
    (record { at = a.0; node = a.1 }, (a.4 h.0, (let d = a.3 in let m = h.1 in omega (arith, d, m)), spelled), a.2)
