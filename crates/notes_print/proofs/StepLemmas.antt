-- The shape of a step by its layer, and its tree under any sub-derivations.
use Rattle.std.proofs.Common.{◌≡◌, ℕ, zero, suc, ◌+◌, ◌<◌, true, List, [], ◌∷◌, ◌++◌, map, refl, sym, ap, ◌∙◌, arith}
use Rattle.bitvector_rules.specs.declared.step.Step.{Step, out-Step, roll-out-Step, fold_out-Step}
use Rattle.bitvector_rules.proofs.Weights.{weight, weights, weights_of, weight_out}
use Rattle.sexp_text.specs.Printing.{Branch, Cons}
use Rattle.notes_grammar.specs.Shapes.{Shape, word, listed, trees_in, step, formula, reference, whole}
use Rattle.notes_grammar.specs.Words.{rule_name}
use Rattle.notes_grammar.proofs.StepLaws.{Sub, step_is}
use Rattle.notes_print.specs.Steps.{plain_here, plain_step, plain_sub, step_front}

map_map : {A B C : Type 0} (f : A → B) (g : B → C) (xs : List A) → map g (map f xs) ≡ map (λ x. g (f x)) xs
map_map f g [] = refl
map_map f g (x ∷ xs) = ap (λ ys. g (f x) ∷ ys) (map_map f g xs)

-- a step by its layer
pub plain_out : (s : Step) → plain_step s ≡ listed (word (rule_name (out-Step s).rule) ∷ (step_front (out-Step s) ++ map plain_sub (out-Step s).subs))
unfolding plain_step
plain_out s =
    fold_out-Step Shape plain_here s
    ∙ ap (λ xs. listed (word (rule_name (out-Step s).rule) ∷ (step_front (out-Step s) ++ xs))) (map_map (map plain_step) listed (out-Step s).subs)

abbrev Alike : ℕ → Type 0
Alike n = (level : ℕ) (s : Step) → weight s < n → (step true level s).tree ≡ (plain_step s).tree

same_steps : (n level : ℕ) (ss : List Step) → Alike n → weights ss < n → trees_in (map (step true level) ss) ≡ trees_in (map plain_step ss)
same_steps n level [] alike h = refl
same_steps n level (s ∷ ss) alike h = λ i. Cons (alike level s (omega arith) i) (same_steps n level ss alike (omega arith) i)

same_subs : (n level : ℕ) (subs : List (List Step)) → Alike n → weights_of subs < n → trees_in (map (Sub true level) subs) ≡ trees_in (map plain_sub subs)
same_subs n level [] alike h = refl
same_subs n level (ss ∷ subs) alike h = λ i. Cons (Branch (same_steps n level ss alike (omega arith) i)) (same_subs n level subs alike (omega arith) i)

alike_below : (n : ℕ) → Alike n
alike_below zero level s h = absurd (omega arith)
alike_below (suc n) level s h =
    ap (λ x. (step true level x).tree) (sym (roll-out-Step s)) ∙ ap (λ (x : Shape). x.tree) (step_is true level (out-Step s))
    ∙ ap (λ ts. Branch (Cons (word (rule_name (out-Step s).rule)).tree (Cons (formula true (out-Step s).formula).tree (Cons (listed (map reference (out-Step s).refs)).tree (Cons (listed (map whole (out-Step s).numbers)).tree ts)))))
    (same_subs n (level + 1) (out-Step s).subs (alike_below n) (omega (arith, weight_out s)))
    ∙ sym (ap (λ (x : Shape). x.tree) (plain_out s))

-- the tree of a step under so many sub-derivations
pub same_step : (level : ℕ) (s : Step) → (step true level s).tree ≡ (plain_step s).tree
same_step level s = alike_below (suc (weight s)) level s (omega arith)
