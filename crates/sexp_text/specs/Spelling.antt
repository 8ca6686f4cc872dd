-- Which texts spell which values. The format of texts is this project's own.
use Rattle.std.specs.Prelude.{◌≡◌, ℕ, zero, suc, ℤ, pos, negsuc, ◌+◌, ◌-◌, ◌*◌, ◌/◌, ◌%◌, ◌^◌, ◌<◌, ◌≤◌, max, true, false, if◌then◌else◌, ◌⊎◌, List, [], ◌∷◌, ◌++◌, length}
use Rattle.std.specs.Char.{digit_char}
use Rattle.std.specs.List.{AllByRecursion, flat_map}
use Rattle.std.specs.Str.{IsUtf8}
use Rattle.sexp_text.specs.declared.sexp.Node.{Node, Num, Word, Str, List', Row_of-Sexp, end_of-Sexp, more_of-Sexp}
use Rattle.sexp_text.specs.declared.sexp.Sexp.{Sexp}
use Rattle.sexp_text.specs.Bytes.{is_between, is_white, is_letter, is_digit, is_name_byte, is_sign, is_run, is_plain}
use Rattle.sexp_text.specs.Items.{Item, Open, Close, Number, Name, Quote, items_of}

-- a line without the line feed at its end
abbrev pub IsLine : List ℕ → Type 0
IsLine = AllByRecursion (λ b. (b ≡ 10) → ⊥)

-- what stands between two parts: white space, and comments from `;` to the line feed that ends their line
pub data Gap : List ℕ → Type 0 where
  nothing : Gap []
  white : {b : ℕ} {more : List ℕ} → is_white b ≡ true → Gap more → Gap (b ∷ more)
  comment : (line : List ℕ) {more : List ℕ} → IsLine line → Gap more → Gap (59 ∷ (line ++ 10 ∷ more))

-- what stands after the last part: the same, where the text may end in a comment
abbrev pub LastGap : List ℕ → Type 0
LastGap text = Gap text ⊎ ((gap line : List ℕ) × (text ≡ gap ++ 59 ∷ line) × Gap gap × IsLine line)

-- the number that decimal digits write when they go on with n
abbrev pub value_after : ℕ → List ℕ → ℕ
value_after n [] = n
value_after n (b ∷ bs) = value_after (10 * n + (b - 48)) bs

-- a digit 1 to 9 and more digits write n
abbrev pub WritesPositive : List ℕ → ℕ → Type 0
WritesPositive [] n = ⊥
WritesPositive (b ∷ bs) n =
    (is_between 49 57 b ≡ true) × AllByRecursion (λ d. is_digit d ≡ true) bs × (value_after (b - 48) bs ≡ n)

-- `0`, or a digit 1 to 9 and more digits, with a `-` before a negative number; below 2 ^ 120 in absolute value
abbrev pub WritesNumber : List ℕ → ℤ → Type 0
WritesNumber mark (pos zero) = mark ≡ 48 ∷ []
WritesNumber mark (pos (suc n)) = WritesPositive mark (suc n) × (suc n < 2 ^ 120)
WritesNumber mark (negsuc n) = (digits : List ℕ) × (mark ≡ 45 ∷ digits) × WritesPositive digits (suc n) × (suc n < 2 ^ 120)

-- a letter and then letters, digits, `_` and `.`, or one of `+ - * = < <=`
abbrev pub IsWord : List ℕ → Type 0
IsWord [] = ⊥
IsWord (b ∷ bs) =
    ((is_letter b ≡ true) × AllByRecursion (λ c. is_name_byte c ≡ true) bs)
    ⊎ (((is_sign b ≡ true) × (bs ≡ [])) ⊎ ((b ≡ 60) × ((bs ≡ []) ⊎ (bs ≡ 61 ∷ []))))

-- a byte of a string: itself, or a backslash and two hexadecimal digits in lower case where it is not plain
abbrev pub string_byte : ℕ → List ℕ
string_byte b = if is_plain b then b ∷ [] else (92 ∷ digit_char (b / 16) ∷ digit_char (b % 16) ∷ [])

-- a string with its quotes
abbrev pub quoted : List ℕ → List ℕ
quoted bytes = 34 ∷ (flat_map string_byte bytes ++ 34 ∷ [])

-- the bytes are a spelling of the item
abbrev pub Marks : Item → List ℕ → Type 0
Marks (Open at) mark = mark ≡ 40 ∷ []
Marks (Close at) mark = mark ≡ 41 ∷ []
Marks (Number at z) mark = WritesNumber mark z
Marks (Name at w) mark = (mark ≡ w) × IsWord w
Marks (Quote at bytes) mark = (mark ≡ quoted bytes) × IsUtf8 bytes

-- the item's place is that of its first byte, in a text of n bytes that ends with the bytes from there on
abbrev pub StandsAt : ℕ → Item → List ℕ → Type 0
StandsAt n (Open at) from_here = at + length from_here ≡ n
StandsAt n (Close at) from_here = at + length from_here ≡ n
StandsAt n (Number at z) from_here = at + length from_here ≡ n
StandsAt n (Name at w) from_here = at + length from_here ≡ n
StandsAt n (Quote at bytes) from_here = at + length from_here ≡ n

-- no byte of a run comes next
abbrev pub EndsRun : List ℕ → Type 0
EndsRun [] = Unit {0}
EndsRun (b ∷ bs) = is_run b ≡ false

-- a number or a word is a whole run, so that two of them stand apart
abbrev pub StandsApart : Item → List ℕ → Type 0
StandsApart (Number at z) rest = EndsRun rest
StandsApart (Name at w) rest = EndsRun rest
StandsApart (Open at) rest = Unit {0}
StandsApart (Close at) rest = Unit {0}
StandsApart (Quote at bytes) rest = Unit {0}

-- the last bytes of a text of n bytes are the spellings of these items, with gaps before, between and after them
abbrev pub Spelled : ℕ → List ℕ → List Item → Type 0
Spelled n text [] = LastGap text
Spelled n text (x ∷ xs) =
    (gap mark rest : List ℕ) × (text ≡ gap ++ (mark ++ rest)) × Gap gap × Marks x mark × StandsAt n x (mark ++ rest) × StandsApart x rest × Spelled n rest xs

abbrev mutual
  -- how many lists stand in one another
  pub depth_of_node : Node → ℕ
  depth_of_node (Num z) = 0
  depth_of_node (Word w) = 0
  depth_of_node (Str s) = 0
  depth_of_node (List' shape parts close) = depth_of_row parts + 1

  pub depth_of_row : {n : _} → Row_of-Sexp n → ℕ
  depth_of_row end_of-Sexp = 0
  depth_of_row (more_of-Sexp at node rest) = max (depth_of_node node) (depth_of_row rest)

abbrev pub IsList : Node → Type 0
IsList (Num z) = ⊥
IsList (Word w) = ⊥
IsList (Str s) = ⊥
IsList (List' shape parts close) = Unit {0}

-- The text spells the value: one list, with at most 500 lists in one another, whose items stand in the text in
-- their order, with nothing but white space and comments around them.
unfoldable pub SexpSpells : List ℕ → Sexp → Type 0
SexpSpells text s = IsList s.node × (depth_of_node s.node ≤ 500) × Spelled (length text) text (items_of s)
