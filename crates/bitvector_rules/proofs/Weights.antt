-- A measure of walks of steps: each step weighs more than all steps of its sub-derivations.
use Rattle.std.proofs.Common.{◌≡◌, ℕ, zero, suc, ◌+◌, ◌<◌, ◌≤◌, List, [], ◌∷◌, map, length, get_or, ap, arith}
use Rattle.bitvector_rules.specs.declared.step.Step.{Step, Step-F, out-Step, fold-Step, fold_out-Step}

abbrev pub total : List ℕ → ℕ
total [] = 0
total (n ∷ ns) = n + total ns

abbrev pub total_of : List (List ℕ) → ℕ
total_of [] = 0
total_of (ns ∷ nss) = 3 + total ns + total_of nss

abbrev pub weight_here : Step-F ℕ → ℕ
weight_here s = 2 + total_of s.subs

abbrev pub weight : Step → ℕ
weight s = fold-Step ℕ weight_here s

abbrev pub weights : List Step → ℕ
weights steps = total (map weight steps)

abbrev pub weights_of : List (List Step) → ℕ
weights_of subs = total_of (map (map weight) subs)

pub weight_out : (s : Step) → weight s ≡ 2 + weights_of (out-Step s).subs
weight_out s = fold_out-Step ℕ weight_here s

pub weight_at : (steps : List Step) (i : ℕ) (s : Step) → i < length steps → s ≡ get_or steps i s → weight s ≤ weights steps
weight_at [] i s h e = absurd (omega arith)
weight_at (x ∷ xs) zero s h e = omega (arith, ap weight e)
weight_at (x ∷ xs) (suc i) s h e = omega (arith, weight_at xs i s (omega arith) e)

pub weights_at : (subs : List (List Step)) (i : ℕ) (steps : List Step) → i < length subs → steps ≡ get_or subs i steps → weights steps + 3 ≤ weights_of subs
weights_at [] i s h e = absurd (omega arith)
weights_at (x ∷ xs) zero s h e = omega (arith, ap weights e)
weights_at (x ∷ xs) (suc i) s h e = omega (arith, weights_at xs i s (omega arith) e)
