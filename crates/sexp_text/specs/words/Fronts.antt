-- What the reader's own types stand for.
use Rattle.std.specs.Prelude.{◌≡◌, ℕ, ◌+◌, ◌<◌, List, ◌∷◌, ◌++◌, length}
use Rattle.std.specs.List.{flat_map}
use Rattle.sexp_text.specs.declared.reader.OpenList.{OpenList}
use Rattle.sexp_text.specs.declared.reader.Mode.{Mode}
use Rattle.sexp_text.specs.declared.reader.Mode.TheVariants.{Run, Digit}
use Rattle.sexp_text.specs.declared.reader.Progress.{Progress}
use Rattle.sexp_text.specs.declared.reader.Progress.TheVariants as progress
use Rattle.sexp_text.specs.Items.{Item, Open, items_of, items_of_all}
use Rattle.sexp_text.specs.Reading.{Front, Before, Inside, After}

-- the items of a list whose end has not come
abbrev pub open_items : OpenList → List Item
open_items l = Open l.at ∷ items_of_all l.parts

-- the items of open lists, one in another
abbrev pub all_open_items : List OpenList → List Item
all_open_items = flat_map open_items

unfoldable pub front_of : Progress → Front
front_of progress.Before = Before
front_of (progress.Inside outer inner) = Inside (all_open_items outer ++ open_items inner) (length outer)
front_of (progress.After whole) = After (items_of whole)

-- what was read, and what the next byte belongs to
abbrev pub seen : Progress × Mode → Front × Mode
seen r = (front_of r.0, r.1)

-- the run that is read ends here, and the first digit of an escape is one
abbrev pub Stands : ℕ → Mode → Type 0
Stands at (Run from run) = from + length run ≡ at
Stands at (Digit from bytes high) = high < 16
Stands at mode = Unit {0}
