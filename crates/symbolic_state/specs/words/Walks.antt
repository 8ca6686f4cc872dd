-- Lists that are taken one by one, up to the first refusal.
use Rattle.std.specs.Prelude.{List, [], ◌∷◌, Ok}
use Rattle.outline_rules.specs.Refusals.{Ruling, ◌>>=◌}

-- what comes of each item, or the first refusal
abbrev pub all_by : {A B : Type 0} → (A → Ruling B) → List A → Ruling (List B)
all_by test [] = Ok []
all_by test (x ∷ xs) = test x >>= λ y. all_by test xs >>= λ ys. Ok (y ∷ ys)
