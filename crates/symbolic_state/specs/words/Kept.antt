-- Items that are left where those with some numbers go.
use Rattle.std.specs.Prelude.{ℕ, suc, if◌then◌else◌, List, [], ◌∷◌}
use Rattle.outline_rules.specs.Entailment.{is_among}

-- the items whose numbers, from n on, aren't among these, in their order
abbrev pub items_besides : {A : Type 0} → List ℕ → ℕ → List A → List A
items_besides ks n [] = []
items_besides ks n (x ∷ xs) = if is_among ks n then items_besides ks (suc n) xs else x ∷ items_besides ks (suc n) xs
