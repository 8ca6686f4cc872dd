-- The normal form as the parts of the linear form whose coefficients are not 0.
use Rattle.std.proofs.Common.{◌≡◌, ℤ, Bool, true, false, List, Some, None, refl, sym, ap, ◌∙◌}
use Rattle.std.specs.Prelude.{if◌then◌else◌, option_map}
use Rattle.std.specs.List.{list_all}
use Rattle.term_trees.specs.declared.term.Term.{Term}
use Rattle.term_trees.specs.declared.forms.Normal.{Normal}
use Rattle.term_trees.specs.Normal.{form, on_the_way, fits, nonzero, parts_of, normal_form}
use Rattle.term_trees.specs.Linear.{Parts, linear_parts}

abbrev pub finished : Parts → Normal
finished f = record { constant = f.0; parts = nonzero f.1 }

pub normal_form-parts : (t : Term) → normal_form t ≡ option_map finished (linear_parts t)
unfolding normal_form linear_parts
normal_form-parts t = at (list_all (λ u. fits (form u)) (on_the_way t))
  where
    at : (b : Bool) → (if b then Some (finished ((form t).constant, parts_of (form t))) else None) ≡ option_map finished (if b then Some ((form t).constant, parts_of (form t)) else None)
    at true = refl
    at false = refl

-- what the code shows
pub normal-none : (t : Term) → None ≡ linear_parts t → None ≡ normal_form t
normal-none t e = ap (option_map finished) e ∙ sym (normal_form-parts t)

pub normal-some : (t : Term) (c : ℤ) (ps qs : List (Term × ℤ)) → Some (c, ps) ≡ linear_parts t → qs ≡ nonzero ps → Some (record { constant = c; parts = qs }) ≡ normal_form t
normal-some t c ps qs e is = (λ j. Some (record { constant = c; parts = is j })) ∙ ap (option_map finished) e ∙ sym (normal_form-parts t)
