-- One layer of a term and its parts.
use Rattle.std.specs.Prelude.{◌≡◌, ℕ, ◌<◌, List, [], ◌∷◌, slice_get, Option, None}
use Rattle.term_trees.specs.declared.term.Term.{Term, out-Term}
use Rattle.term_trees.specs.declared.term.Term.TheOpen.{Term-F, Num, Var, Own, At, Add, Sub, Mul, One, Two, Low, Sext, Sgn}
use Rattle.term_logic.specs.declared.leaves.LeafIds.{LeafIds}
use Rattle.term_logic.specs.declared.parts.Parts.{Parts}
use Rattle.term_logic.specs.declared.parts.Parts.TheVariants as parts
use Rattle.term_logic.specs.declared.id_parts.IdParts.{IdParts}
use Rattle.term_logic.specs.declared.id_parts.IdParts.TheVariants as ids
use Rattle.term_logic.specs.Table.{cell_layer, tree_at}
use Rattle.term_logic.specs.Leaves.{place_id}

-- the parts of one layer
abbrev pub parts_here : {X : Type 0} → Term-F X → List X
parts_here (Num n) = []
parts_here (Var k) = []
parts_here (Own k) = []
parts_here (At p) = []
parts_here (Add a b) = a ∷ b ∷ []
parts_here (Sub a b) = a ∷ b ∷ []
parts_here (Mul a b) = a ∷ b ∷ []
parts_here (One op a) = a ∷ []
parts_here (Two op a b) = a ∷ b ∷ []
parts_here (Low k a) = a ∷ []
parts_here (Sext k n a) = a ∷ []
parts_here (Sgn n a) = a ∷ []

-- the layer with other parts: of one part the first of the two given
abbrev pub with_parts : {X Y : Type 0} → Y → Y → Term-F X → Term-F Y
with_parts i j (Num n) = Num n
with_parts i j (Var k) = Var k
with_parts i j (Own k) = Own k
with_parts i j (At p) = At p
with_parts i j (Add a b) = Add i j
with_parts i j (Sub a b) = Sub i j
with_parts i j (Mul a b) = Mul i j
with_parts i j (One op a) = One op i
with_parts i j (Two op a b) = Two op i j
with_parts i j (Low k a) = Low k i
with_parts i j (Sext k n a) = Sext k n i
with_parts i j (Sgn n a) = Sgn n i

-- the position that is given for one layer, where it is a leaf that has one
abbrev pub given_here : {X : Type 0} → LeafIds → Term-F X → Option ℕ
given_here l (Var k) = slice_get l.variables.now k
given_here l (Own k) = slice_get l.own.now k
given_here l (At p) = place_id l p
given_here l _ = None

-- The position that is given for the term, where it is a leaf that has one.
abbrev pub given_id : LeafIds → Term → Option ℕ
given_id l t = given_here l (out-Term t)

-- these are the parts of one layer; a layer without parts is that of the cell
abbrev pub PartsOf : Term-F Term → Parts → Type 0
PartsOf k (parts.Leaf c) = (parts_here k ≡ []) × (cell_layer c ≡ with_parts 0 0 k)
PartsOf k (parts.One a) = parts_here k ≡ a.now ∷ []
PartsOf k (parts.Two a b) = parts_here k ≡ a.now ∷ b.now ∷ []

-- these are positions of the parts of one layer
abbrev pub IdPartsOf : List Term → Term-F Term → IdParts → Type 0
IdPartsOf ts k ids.Leaf = parts_here k ≡ []
IdPartsOf ts k (ids.One a) = parts_here k ≡ tree_at ts a ∷ []
IdPartsOf ts k (ids.Two a b) = parts_here k ≡ tree_at ts a ∷ tree_at ts b ∷ []

-- the parts are positions below n
abbrev pub IdPartsBelow : ℕ → IdParts → Type 0
IdPartsBelow n ids.Leaf = Unit {0}
IdPartsBelow n (ids.One a) = a < n
IdPartsBelow n (ids.Two a b) = (a < n) × (b < n)
