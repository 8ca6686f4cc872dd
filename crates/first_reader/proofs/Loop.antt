-- Reading items one after another, as a loop does.
use Rattle.std.proofs.Common.{◌≡◌, List, ◌∷◌, [], ◌++◌, Option, Some, None, refl, ap, append_assoc}
use Rattle.first_reader.specs.Reading.{◌>>=◌}

-- what was read before, and what is still read
abbrev pub with_front : {A S : Type 0} → List A → Option (List A × S) → Option (List A × S)
with_front front read = read >>= λ x. Some (front ++ x.0, x.1)

pub regroup : {A S : Type 0} (front : List A) (n : A) (read : Option (List A × S)) → with_front front (read >>= λ x. Some (n ∷ x.0, x.1)) ≡ with_front (front ++ n ∷ []) read
regroup front n (Some x) = ap (λ ns. Some (ns, x.1)) (simp append_assoc)
regroup front n None = refl
