-- Where a text is refused, and with which word. The format of texts is this project's own.
use Rattle.std.specs.Prelude.{◌≡◌, ◌⊎◌, ℕ, ℤ, ◌<◌, ◌≤◌, true, false, List, [], ◌∷◌, ◌++◌, length, take, replicate}
use Rattle.std.specs.List.{AllByRecursion}
use Rattle.std.specs.Str.{IsUtf8}
use Rattle.sexp_text.specs.declared.fault.TextFault.{TextFault}
use Rattle.sexp_text.specs.declared.fault.TextFault.TheVariants.{Refused, Limit, OutOfMemory}
use Rattle.sexp_text.specs.declared.fault.TextWord.{TextWord}
use Rattle.sexp_text.specs.declared.fault.TextWord.TheVariants as word
use Rattle.wasm_values.specs.declared.limit.LimitWord.{LimitWord}
use Rattle.wasm_values.specs.declared.limit.LimitWord.TheVariants.{Nesting}
use Rattle.sexp_text.specs.declared.sexp.Sexp.{Sexp}
use Rattle.sexp_text.specs.Bytes.{is_white, is_run}
use Rattle.sexp_text.specs.Reading.{read, refused, begins_number}
use Rattle.sexp_text.specs.Spelling.{WritesNumber, IsWord, EndsRun, quoted, SexpSpells}

-- a fault other than that the text ends too early
abbrev pub IsNoEnd : TextFault → Type 0
IsNoEnd (Refused at w) = w ≡ word.End → ⊥
IsNoEnd (Limit at w) = Unit {0}
IsNoEnd OutOfMemory = Unit {0}

-- the place of a fault
abbrev pub place_of : TextFault → ℕ
place_of (Refused at w) = at
place_of (Limit at w) = at
place_of OutOfMemory = 0

-- the text spells a value
abbrev pub IsText : List ℕ → Type 0
IsText text = (s : Sexp) × SexpSpells text s

-- a text that goes on from here spells a value
abbrev pub CanGoOn : List ℕ → Type 0
CanGoOn text = (more : List ℕ) × (s : Sexp) × SexpSpells (text ++ more) s

-- The text ends too early: with more bytes it goes on to spell a value, or to a whole string that is no UTF-8.
abbrev pub IsCut : List ℕ → Type 0
IsCut text = (more : List ℕ) × (CanGoOn (text ++ more) ⊎ ((from : ℕ) × (read (text ++ more) ≡ refused from word.Utf8)))

-- before the list: after these bytes a list may begin, and they are no text yet
abbrev pub IsBefore : List ℕ → Type 0
IsBefore front = IsText (front ++ 40 ∷ 41 ∷ []) × (IsText front → ⊥)

-- inside so many lists: so many closing parentheses make the bytes a text, and they are none yet
abbrev pub IsInside : ℕ → List ℕ → Type 0
IsInside depth front = IsText (front ++ replicate depth 41) × (IsText front → ⊥)

-- after the list, and not in a comment: the bytes are a text, and with a closing parenthesis they are none
abbrev pub IsAfter : List ℕ → Type 0
IsAfter front = IsText front × (IsText (front ++ 41 ∷ []) → ⊥)

-- a byte that is no white space and begins no part and no comment
pub record BeginsNothing (b : ℕ) : Type 0 where
  pub white : is_white b ≡ false
  pub run : is_run b ≡ false
  pub quote : b ≡ 34 → ⊥
  pub open_list : b ≡ 40 → ⊥
  pub close_list : b ≡ 41 → ⊥
  pub comment : b ≡ 59 → ⊥

-- a byte that begins a number, a word or a string
abbrev pub BeginsPart : ℕ → Type 0
BeginsPart b = (is_run b ≡ true) ⊎ (b ≡ 34)

-- a longest stretch of bytes of runs, inside a list
pub record IsRunIn (front run rest : List ℕ) : Type 0 where
  pub depth : ℕ
  pub inside : IsInside depth front
  pub begins : (more : List ℕ) (b : ℕ) → front ≡ more ++ b ∷ [] → is_run b ≡ false
  pub bytes : AllByRecursion (λ b. is_run b ≡ true) run
  pub some : 0 < length run
  pub ends : EndsRun rest

-- The byte goes on no word: it stands in a run that begins as no number, after the longest front of the run that is a
-- word, or at the run's first byte where no front is one.
pub record GoesOnNoWord (front : List ℕ) (b : ℕ) (rest : List ℕ) : Type 0 where
  pub before : List ℕ
  pub known : List ℕ
  pub more : List ℕ
  pub after : List ℕ
  pub front_is : front ≡ before ++ known
  pub rest_is : rest ≡ more ++ after
  pub run : IsRunIn before (known ++ b ∷ more) after
  pub no_number : begins_number (known ++ b ∷ more) ≡ false
  pub is_word : (known ≡ []) ⊎ IsWord known
  pub longest : (n : ℕ) → length known < n → n ≤ length (known ++ b ∷ more) → IsWord (take n (known ++ b ∷ more)) → ⊥

-- no string begins with these bytes, and they begin with no string
abbrev pub IsNoString : List ℕ → Type 0
IsNoString part =
    (bytes more : List ℕ) → AllByRecursion (λ b. b < 256) bytes → (quoted bytes ≡ part ++ more → ⊥) × (part ≡ quoted bytes ++ more → ⊥)

-- what each word says of the part that is refused, between the bytes before it and the rest
abbrev pub IsRefusedAs : TextWord → List ℕ → List ℕ → List ℕ → Type 0
IsRefusedAs word.Byte front part rest =
    (b : ℕ) × (part ≡ b ∷ []) ×
    ((BeginsNothing b × (IsBefore front ⊎ (IsAfter front ⊎ ((depth : ℕ) × IsInside depth front))))
    ⊎ ((BeginsPart b × IsBefore front) ⊎ GoesOnNoWord front b rest))
IsRefusedAs word.Close front part rest = (part ≡ 41 ∷ []) × (IsBefore front ⊎ IsAfter front)
IsRefusedAs word.Number front part rest =
    IsRunIn front part rest × (begins_number part ≡ true) × ((z : ℤ) → WritesNumber part z → ⊥)
IsRefusedAs word.String front part rest =
    (depth : ℕ) × (inner : List ℕ) × IsInside depth front × (part ≡ 34 ∷ inner) × IsNoString part
IsRefusedAs word.Utf8 front part rest =
    (depth : ℕ) × (bytes : List ℕ) × IsInside depth front × AllByRecursion (λ b. b < 256) bytes × (part ≡ quoted bytes) × (IsUtf8 bytes → ⊥)
IsRefusedAs word.Rest front part rest =
    (b : ℕ) × (part ≡ b ∷ []) × ((b ≡ 40) ⊎ BeginsPart b) × IsAfter front
IsRefusedAs word.End front part rest = ⊥
IsRefusedAs word.Form front part rest = ⊥
IsRefusedAs word.Name front part rest = ⊥

-- the one limit of a text: the parenthesis of a list inside 500 others
abbrev pub IsLimitAs : LimitWord → List ℕ → List ℕ → Type 0
IsLimitAs Nesting front part = (part ≡ 40 ∷ []) × ((depth : ℕ) × (500 ≤ depth) × IsInside depth front)
IsLimitAs other front part = ⊥

abbrev pub IsRefused : TextFault → List ℕ → List ℕ → List ℕ → Type 0
IsRefused (Refused at w) front part rest = IsRefusedAs w front part rest
IsRefused (Limit at w) front part rest = IsLimitAs w front part
IsRefused OutOfMemory front part rest = ⊥

-- The text has the fault at the refused part: its word is that of the part, and no text goes on after the part.
pub record Refusal (text : List ℕ) (fault : TextFault) : Type 0 where
  pub front : List ℕ
  pub part : List ℕ
  pub rest : List ℕ
  pub whole : text ≡ front ++ (part ++ rest)
  pub place : place_of fault ≡ length front
  pub refused_so : IsRefused fault front part rest
  pub never : (more : List ℕ) → IsText ((front ++ part) ++ more) → ⊥
