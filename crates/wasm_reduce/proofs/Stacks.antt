-- Stacks as lists with the last item on top.
use Rattle.std.proofs.Common.{◌≡◌, ◌≢◌, ℕ, zero, suc, ◌+◌, ◌-◌, ◌<◌, ◌≤◌, List, [], ◌∷◌, ◌++◌, length, get_or, take, drop, set, map, reverse, refl, sym, ap, ◌∙◌, arith, append_assoc, length-append}
use Rattle.std.proofs.lemmas.List.{reverse-append, reverse-reverse, length-reverse, take_more, take_more_set, drop-set-lt, drop-drop, get_or-drop, length-drop, set_at, take-append-drop, take_at, drop_at, take_all, get_or_at, length-take-le, drop_more, drop-take, get_or-reverse, map-append, map-set, set-get_or}

module _ {A : Type 0} where
  pub reverse-push : (xs : List A) (x : A) → reverse (xs ++ x ∷ []) ≡ x ∷ reverse xs
  reverse-push xs x = reverse-append xs (x ∷ [])

  -- The list of a stack with this on top.
  pub of_reverse : (xs rest : List A) (x : A) → reverse xs ≡ x ∷ rest → xs ≡ reverse rest ++ x ∷ []
  of_reverse xs rest x h = sym (reverse-reverse xs) ∙ ap reverse h ∙ reverse-append (x ∷ []) rest

  pub reverse-set_last : (xs rest : List A) (x y : A) → reverse xs ≡ x ∷ rest → reverse (set xs (length xs - 1) y) ≡ y ∷ rest
  reverse-set_last xs rest x y h =
      let is : xs ≡ reverse rest ++ x ∷ [] = of_reverse xs rest x h in
      let long : length (reverse rest) ≡ length (reverse rest ++ x ∷ []) - 1 =
      omega (arith, length-append (reverse rest) (x ∷ []))
      in
      rw is (
      rw (set_at (reverse rest) x [] y (length (reverse rest ++ x ∷ []) - 1) long) (
      reverse-push (reverse rest) y ∙ ap (λ r. y ∷ r) (reverse-reverse rest)
      )
      )

  -- One turn of moving the items from st on down to h.
  pub take-moved : (xs old : List A) (h st k : ℕ) (x : A) → h ≤ st → st + k < length old → length xs ≡ length old → take (h + k) xs ≡ take h old ++ take k (drop st old) → drop (h + k) xs ≡ drop (h + k) old → x ≡ get_or xs (st + k) x → take (h + (k + 1)) (set xs (h + k) x) ≡ take h old ++ take (k + 1) (drop st old)
  take-moved xs old h st k x low within long taken dropped is =
      let sum : h + (k + 1) ≡ h + k + 1 = omega arith in
      let far : st + k ≡ h + k + (st - h) = omega arith in
      let read : x ≡ get_or (drop st old) k x =
      is ∙ ap (λ i. get_or xs i x) far ∙ sym (get_or-drop (h + k) xs (st - h) x) ∙ ap (λ l. get_or l (st - h) x) dropped
      ∙ get_or-drop (h + k) old (st - h) x ∙ ap (λ i. get_or old i x) (sym far) ∙ sym (get_or-drop st old k x)
      in
      let more : take (k + 1) (drop st old) ≡ take k (drop st old) ++ get_or (drop st old) k x ∷ [] =
      take_more (drop st old) k x (omega (arith, length-drop st old))
      in
      let put : take (h + k + 1) (set xs (h + k) x) ≡ take (h + k) xs ++ x ∷ [] = take_more_set xs (h + k) x (omega arith) in
      ap (λ n. take n (set xs (h + k) x)) sum ∙ put ∙ ap (λ l. l ++ x ∷ []) taken ∙ append_assoc (take h old) (take k (drop st old)) (x ∷ [])
      ∙ ap (λ y. take h old ++ (take k (drop st old) ++ y ∷ [])) read ∙ ap (λ l. take h old ++ l) (sym more)

  pub drop-moved : (xs old : List A) (h k : ℕ) (x : A) → drop (h + k) xs ≡ drop (h + k) old → drop (h + (k + 1)) (set xs (h + k) x) ≡ drop (h + (k + 1)) old
  drop-moved xs old h k x dropped =
      let sum : h + (k + 1) ≡ h + k + 1 = omega arith in
      drop-set-lt (h + (k + 1)) xs (h + k) x (omega arith)
      ∙ ap (λ n. drop n xs) sum ∙ sym (drop-drop 1 (h + k) xs) ∙ ap (drop 1) dropped ∙ drop-drop 1 (h + k) old ∙ ap (λ n. drop n old) (sym sum)

  pub get_or-any : (xs : List A) (i : ℕ) (d e : A) → i < length xs → get_or xs i d ≡ get_or xs i e
  get_or-any [] i d e h = absurd (omega arith)
  get_or-any (x ∷ xs) zero d e h = refl
  get_or-any (x ∷ xs) (suc i) d e h = get_or-any xs i d e (omega arith)

  -- The same by a read of the list.
  pub keep_step : (xs old new slice : List A) (h st k : ℕ) (d : A) → h ≤ st → st + k < length old → length xs ≡ length old → take (h + k) xs ≡ take h old ++ take k (drop st old) → drop (h + k) xs ≡ drop (h + k) old → slice ≡ xs → new ≡ set xs (h + k) (get_or slice (st + k) d) → (take (h + (k + 1)) new ≡ take h old ++ take (k + 1) (drop st old)) × (drop (h + (k + 1)) new ≡ drop (h + (k + 1)) old)
  keep_step xs old new slice h st k d low within long taken dropped same is =
      let x = get_or slice (st + k) d in
      let read : x ≡ get_or xs (st + k) x = ap (λ l. get_or l (st + k) d) same ∙ get_or-any xs (st + k) d x (omega arith) in (
        ap (take (h + (k + 1))) is ∙ take-moved xs old h st k x low within long taken dropped read,
        ap (drop (h + (k + 1))) is ∙ drop-moved xs old h k x dropped,
      )

  reverse-parts : (xs : List A) (n : ℕ) → reverse xs ≡ reverse (drop n xs) ++ reverse (take n xs)
  reverse-parts xs n = ap reverse (sym (take-append-drop n xs)) ∙ reverse-append (take n xs) (drop n xs)

  pub reverse-drop : (xs : List A) (n k : ℕ) → n + k ≡ length xs → reverse (drop n xs) ≡ take k (reverse xs)
  reverse-drop xs n k sum =
      let long : length (reverse (drop n xs)) ≡ k = omega (arith, length-reverse (drop n xs), length-drop n xs) in
      sym (ap (take k) (reverse-parts xs n) ∙ take_at (reverse (drop n xs)) (reverse (take n xs)) k long)

  pub reverse-take : (xs : List A) (n : ℕ) → n ≤ length xs → reverse (take n xs) ≡ drop (length (reverse xs) - n) (reverse xs)
  reverse-take xs n within =
      let long : length (reverse (drop n xs)) ≡ length (reverse xs) - n =
      omega (arith, length-reverse (drop n xs), length-drop n xs, length-reverse xs)
      in
      sym (
      ap (drop (length (reverse xs) - n)) (reverse-parts xs n)
      ∙ drop_at (reverse (drop n xs)) (reverse (take n xs)) (length (reverse xs) - n) long
      )

  -- The items that are kept, with the last on top.
  pub reverse-kept : (xs ys old : List A) (a h : ℕ) → a + h ≤ length old → take (h + a) ys ≡ take h old ++ take a (drop (length old - a) old) → xs ≡ take (h + a) ys → reverse xs ≡ take a (reverse old) ++ drop (length (reverse old) - h) (reverse old)
  reverse-kept xs ys old a h within taken is =
      let all : take a (drop (length old - a) old) ≡ drop (length old - a) old =
      take_all a (drop (length old - a) old) (omega (arith, length-drop (length old - a) old))
      in
      let top : reverse (drop (length old - a) old) ≡ take a (reverse old) =
      reverse-drop old (length old - a) a (omega arith)
      in
      let low : reverse (take h old) ≡ drop (length (reverse old) - h) (reverse old) = reverse-take old h (omega arith) in
      ap reverse (is ∙ taken ∙ ap (λ l. take h old ++ l) all) ∙ reverse-append (take h old) (drop (length old - a) old) ∙ ap (λ l. l ++ reverse (take h old)) top
      ∙ ap (λ l. take a (reverse old) ++ l) low

  pub reverse-lower : (xs : List A) (k : ℕ) → k ≤ length xs → reverse (take (length xs - k) xs) ≡ drop k (reverse xs)
  reverse-lower xs k within =
      let less : length (reverse xs) - (length xs - k) ≡ k = omega (arith, length-reverse xs) in
      reverse-take xs (length xs - k) (omega arith) ∙ ap (λ n. drop n (reverse xs)) less

  pub drop-reverse : (xs : List A) (k : ℕ) (d : A) → k < length xs → drop k (reverse xs) ≡ get_or xs (length xs - 1 - k) d ∷ drop (k + 1) (reverse xs)
  drop-reverse xs k d within =
      drop_more (reverse xs) k d (omega (arith, length-reverse xs))
      ∙ ap (λ x. x ∷ drop (k + 1) (reverse xs)) (get_or-reverse xs k d within)

  pub drop_next : (xs outer : List A) (x : A) (k : ℕ) → drop k xs ≡ x ∷ outer → drop (k + 1) xs ≡ outer
  drop_next xs outer x k h = sym (drop-drop 1 k xs) ∙ ap (drop 1) h

  pub last_is : (xs rest : List A) (x d : A) → reverse xs ≡ x ∷ rest → get_or xs (length xs - 1) d ≡ x
  last_is xs rest x d h =
      let is : xs ≡ reverse rest ++ x ∷ [] = of_reverse xs rest x h in
      let long : length (reverse rest) ≡ length (reverse rest ++ x ∷ []) - 1 =
      omega (arith, length-append (reverse rest) (x ∷ []))
      in
      rw is (get_or_at (reverse rest) x [] d (length (reverse rest ++ x ∷ []) - 1) long)

  -- A part of a stack below its topmost items.
  pub reverse-part : (xs : List A) (above count : ℕ) → above + count ≤ length xs → reverse (take (length xs - above - (length xs - above - count)) (drop (length xs - above - count) xs)) ≡ take count (drop above (reverse xs))
  reverse-part xs above count within =
      let end = length xs - above in
      let start = length xs - above - count in
      let sum : start + (end - start) ≡ end = omega arith in
      let cut : drop start (take end xs) ≡ take (end - start) (drop start xs) =
      ap (λ n. drop start (take n xs)) (sym sum) ∙ drop-take start (end - start) xs
      in
      let long : length (take end xs) ≡ end = length-take-le end xs (omega arith) in
      ap reverse (sym cut)
      ∙ reverse-drop (take end xs) start count (omega arith)
      ∙ ap (take count) (reverse-lower xs above (omega arith))

  of_reverse_2 : (xs rest : List A) (x y : A) → reverse xs ≡ x ∷ y ∷ rest → xs ≡ reverse rest ++ y ∷ x ∷ []
  of_reverse_2 xs rest x y h = sym (reverse-reverse xs) ∙ ap reverse h ∙ reverse-append (x ∷ y ∷ []) rest

  place_2 : (rest : List A) (x y : A) → length (reverse rest) ≡ length (reverse rest ++ y ∷ x ∷ []) - 2
  place_2 rest x y = omega (arith, length-append (reverse rest) (y ∷ x ∷ []))

  pub second_is : (xs rest : List A) (x y d : A) → reverse xs ≡ x ∷ y ∷ rest → get_or xs (length xs - 2) d ≡ y
  second_is xs rest x y d h =
      rw (of_reverse_2 xs rest x y h) (
      get_or_at (reverse rest) y (x ∷ []) d (length (reverse rest ++ y ∷ x ∷ []) - 2) (place_2 rest x y)
      )

  pub reverse-set_second : (xs rest : List A) (x y z : A) → reverse xs ≡ x ∷ y ∷ rest → reverse (set xs (length xs - 2) z) ≡ x ∷ z ∷ rest
  reverse-set_second xs rest x y z h =
      rw (of_reverse_2 xs rest x y h) (
      rw (set_at (reverse rest) y (x ∷ []) z (length (reverse rest ++ y ∷ x ∷ []) - 2) (place_2 rest x y)) (
      reverse-append (reverse rest) (z ∷ x ∷ []) ∙ ap (λ r. x ∷ z ∷ r) (reverse-reverse rest)
      )
      )

  pub reverse-pop : (xs rest : List A) (x : A) → reverse xs ≡ x ∷ rest → reverse (take (length xs - 1) xs) ≡ rest
  reverse-pop xs rest x h =
      let long : length xs ≡ length rest + 1 = omega (arith, ap length h, length-reverse xs) in
      reverse-lower xs 1 (omega arith) ∙ ap (drop 1) h

  -- Where there are two items or more, one lies below the top.
  pub two_or_more : (xs below : List A) (x : A) → reverse xs ≡ x ∷ below → length xs ≢ 1 → (y : A) × (rest : List A) × (below ≡ y ∷ rest)
  two_or_more xs [] x h more = absurd (more (omega (arith, ap length h, length-reverse xs)))
  two_or_more xs (y ∷ rest) x h more = (y, rest, refl)

map-reverse : {A B : Type 0} → (f : A → B) (xs : List A) → map f (reverse xs) ≡ reverse (map f xs)
map-reverse f [] = refl
map-reverse f (x ∷ xs) =
    ap (map f) (reverse-append (x ∷ []) xs) ∙ map-append f (reverse xs) (x ∷ []) ∙ ap (λ l. l ++ f x ∷ []) (map-reverse f xs)
    ∙ sym (reverse-append (f x ∷ []) (map f xs))

-- A write that a function does not see.
pub map-reverse-set : {A B : Type 0} → (f : A → B) (xs : List A) (i : ℕ) (x y : A) → x ≡ get_or xs i x → f y ≡ f x → map f (reverse (set xs i y)) ≡ map f (reverse xs)
map-reverse-set f xs i x y is same =
    map-reverse f (set xs i y)
    ∙ ap reverse (
    map-set f xs i y ∙ ap (set (map f xs) i) (same ∙ ap f is) ∙ sym (map-set f xs i (get_or xs i x)) ∙ ap (map f) (set-get_or xs i x)
    )
    ∙ sym (map-reverse f xs)
