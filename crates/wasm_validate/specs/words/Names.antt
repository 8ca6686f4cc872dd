-- The names of the exports so far, as an ordered set has them.
use denote.Ref.{Bor}
use Rattle.std.specs.Prelude.{◌≡◌, ℕ, List}
use Rattle.std.specs.Ordering.{nat_cmp}
use Rattle.std.specs.Cmp.Lexicographic.{slice_cmp}
use Rattle.std.specs.List.{list_any}
use Rattle.std.specs.Str.{bytes_eq}
use Rattle.std.specs.BTreeSet.{BTreeSet, contains_by}

-- A set of lent texts has exactly these.
abbrev pub HasTexts : BTreeSet (Bor (List ℕ)) → List (List ℕ) → Type 0
HasTexts set texts = (text : Bor (List ℕ)) → contains_by (λ (k : Bor (List ℕ)). slice_cmp nat_cmp text.now k.now) set ≡ list_any (bytes_eq text.now) texts
