-- Heap moves as plans: what each wants, in its order, and what it then changes. The terms of a move are taken before.
use Rattle.std.specs.Prelude.{ℕ, ◌+◌, ◌*◌, ◌^◌, ◌==◌, not, ◌&&◌, ◌||◌, List, [], ◌∷◌, Some, None, Ok}
use Rattle.wasm_values.specs.declared.limit.LimitWord.TheVariants as limit
use Rattle.term_trees.specs.declared.term.Term.{Term}
use Rattle.term_trees.specs.declared.term.Term.TheVariants as term
use Rattle.term_trees.specs.declared.term.Formula.{Formula}
use Rattle.term_trees.specs.declared.term.Formula.TheVariants as formula
use Rattle.term_trees.specs.Formulas.{formula_nodes}
use Rattle.term_trees.specs.Views.{num_of}
use Rattle.notes.specs.declared.reason.Reason.TheVariants as reason
use Rattle.notes.specs.declared.chunk.Chunk.{Chunk}
use Rattle.notes.specs.declared.chunk.Chunk.TheVariants.{Cell, Region}
use Rattle.outline_rules.specs.Refusals.{Ruling, wanted, within, ◌>>=◌, ◌>>◌}
use Rattle.outline_rules.specs.States.{State, number, fresh}
use Rattle.outline_rules.specs.HeapMoves.{fact_wanted, chunk_at, region_at, cell_at, cell_range, forgotten, width_by, half_of, joined_value, half_facts, address_of, with_address, extent_of, with_extent}
use Rattle.heap_logic.specs.words.Effects.{Effect}
use Rattle.heap_logic.specs.words.Making.{made}

-- a chunk becomes another
abbrev pub turned : ℕ → Chunk → Effect
turned c chunk = record { variables = 0; facts = []; chunk = c; becomes = chunk; more = []; gone = None }

-- ---- regions

-- what `split` wants at position k, and the address and the length of the region
abbrev pub split_wanted : ℕ → Term → (f g : ℕ) → State → Ruling (Term × Term)
split_wanted c k f g s =
    region_at s c >>= λ r. fact_wanted s f (formula.Le (number 0) k) >> fact_wanted s g (formula.Le k r.1) >> Ok r

abbrev pub split_plan : ℕ → Term → (f g : ℕ) → State → Ruling Effect
split_plan c k f g s =
    split_wanted c k f g s >>= λ r.
    made (term.Add r.0 k) >>= λ a.
    made (term.Sub r.1 k) >>= λ n.
    Ok (record { variables = 0; facts = []; chunk = c; becomes = Region r.0 k; more = Region a n ∷ []; gone = None })

-- what `merge` wants, and the address and the lengths of the regions
abbrev pub merge_wanted : (c d : ℕ) → (f : ℕ) → State → Ruling (Term × Term × Term)
merge_wanted c d f s =
    region_at s c >>= λ x.
    region_at s d >>= λ y.
    wanted reason.Chunk (not (c == d)) >> fact_wanted s f (formula.Eq y.0 (term.Add x.0 x.1)) >> Ok (x.0, x.1, y.1)

abbrev pub merge_plan : (c d : ℕ) → (f : ℕ) → State → Ruling Effect
merge_plan c d f s =
    merge_wanted c d f s >>= λ p.
    made (term.Add p.1 p.2) >>= λ n.
    Ok (record (turned c (Region p.0 n)) { gone = Some d })

-- the address and the length of the bytes of a cell or a row, within the limit
abbrev pub forgotten_made : Chunk → Ruling (Term × Term)
forgotten_made chunk = forgotten chunk >>= λ r. made r.1 >>= λ n. Ok (r.0, n)

abbrev pub forget_plan : ℕ → State → Ruling Effect
forget_plan c s = chunk_at s c >>= λ chunk. forgotten_made chunk >>= λ r. Ok (turned c (Region r.0 r.1))

-- what `view` wants, and the width and the address
abbrev pub view_wanted : ℕ → State → Ruling (ℕ × Term)
view_wanted c s = region_at s c >>= λ r. width_by (num_of r.1) >>= λ w. Ok (w, r.0)

-- what `view` comes to
abbrev pub viewed : ℕ → (width : ℕ) → (at v : Term) → Effect
viewed c w a v = record {
  variables = 1;
  facts = cell_range w v;
  chunk = c;
  becomes = Cell w a v;
  more = [];
  gone = None;
}

abbrev pub view_plan : ℕ → State → Ruling Effect
view_plan c s =
    view_wanted c s >>= λ p. within limit.Variables 1000000 (s.vars + 1) >> Ok (viewed c p.0 p.1 (fresh s))

-- ---- cells

-- what `halve` wants, and the half of the width, the address and the value
abbrev pub halve_wanted : ℕ → State → Ruling (ℕ × Term × Term)
halve_wanted c s = cell_at s c >>= λ x. half_of x.0 >>= λ h. Ok (h, x.1, x.2)

-- what `halve` comes to
abbrev pub halves : ℕ → (half : ℕ) → (at next value u v : Term) → Effect
halves c h a b t u v = record {
  variables = 2;
  facts = half_facts h t u v;
  chunk = c;
  becomes = Cell h a u;
  more = Cell h b v ∷ [];
  gone = None;
}

-- the limits of a `halve` that are tested before terms are made
abbrev pub halve_limits : (half : ℕ) → (value : Term) → (vars : ℕ) → Ruling (Unit {0})
halve_limits h t k =
    within limit.Nodes 4096 (formula_nodes (formula.Eq t (joined_value h (term.Var k) (term.Var (k + 1)))))
    >> within limit.Variables 1000000 (k + 2)

-- the value of two cells one after another, within the limit
abbrev pub joined_made : (width : ℕ) → (first second : Term) → Ruling Term
joined_made w u v = made (term.Mul (number (256 ^ w)) v) >>= λ t. made (term.Add u t)

-- the terms of two new variables, and of the value that they join to
abbrev pub half_terms : (half vars : ℕ) → Ruling (Term × Term × Term)
half_terms h k = Ok (term.Var k, term.Var (k + 1), joined_value h (term.Var k) (term.Var (k + 1)))

-- the same, with the facts of the halves of a value that they are
abbrev pub halves_made : (half : ℕ) → (value : Term) → (vars : ℕ) → Ruling (Term × Term × List Formula)
halves_made h t k = Ok (term.Var k, term.Var (k + 1), half_facts h t (term.Var k) (term.Var (k + 1)))

abbrev pub halve_plan : ℕ → State → Ruling Effect
halve_plan c s =
    halve_wanted c s >>= λ p.
    made (term.Add p.1 (number p.0)) >>= λ b.
    halve_limits p.0 p.2 s.vars
    >> Ok (halves c p.0 p.1 b p.2 (term.Var s.vars) (term.Var (s.vars + 1)))

-- what `unite` wants, and the width, the address and the values
abbrev pub unite_wanted : (c d : ℕ) → (f : ℕ) → State → Ruling (ℕ × Term × Term × Term)
unite_wanted c d f s =
    cell_at s c >>= λ x.
    cell_at s d >>= λ y.
    wanted reason.Chunk (not (c == d) && ((x.0 == 1 || (x.0 == 2 || x.0 == 4)) && y.0 == x.0))
    >> fact_wanted s f (formula.Eq y.1 (term.Add x.1 (number x.0)))
    >> Ok (x.0, x.1, x.2, y.2)

abbrev pub unite_plan : (c d : ℕ) → (f : ℕ) → State → Ruling Effect
unite_plan c d f s =
    unite_wanted c d f s >>= λ p.
    joined_made p.0 p.2 p.3 >>= λ v.
    Ok (record (turned c (Cell (2 * p.0) p.1 v)) { gone = Some d })

-- ---- other terms for equal ones

abbrev pub readdr_plan : ℕ → Term → (f : ℕ) → State → Ruling Effect
readdr_plan c b f s =
    chunk_at s c >>= λ chunk.
    fact_wanted s f (formula.Eq (address_of chunk) b) >> Ok (turned c (with_address b chunk))

abbrev pub reval_plan : ℕ → Term → (f : ℕ) → State → Ruling Effect
reval_plan c v f s =
    cell_at s c >>= λ x. fact_wanted s f (formula.Eq x.2 v) >> Ok (turned c (Cell x.0 x.1 v))

abbrev pub relen_plan : ℕ → Term → (f : ℕ) → State → Ruling Effect
relen_plan c n f s =
    chunk_at s c >>= λ chunk.
    extent_of chunk >>= λ m. fact_wanted s f (formula.Eq m n) >> Ok (turned c (with_extent n chunk))
