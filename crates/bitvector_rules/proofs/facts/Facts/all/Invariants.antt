use Rattle.std.proofs.Common.{◌≡◌, ◌≤◌, ◌++◌, length, map, drop}
use Rattle.std.specs.List.{All}
use Rattle.std.specs.Option.{option_map}
use Rattle.term_logic.specs.Formulas.{formula_bound, formula_of}
use Rattle.bitvector_rules.specs.Facts.{premises, hyps_of, earlier_of}
use Rattle.bitvector_rules.proofs.facts.Facts.all.Given as goal

abbrev pub invariant-loop-place : goal.invariant-loop-place
invariant-loop-place l =
    (option_map (λ fs. map (λ f. formula_of l.table f.now) l.premises.items ++ fs) (premises (hyps_of l.table l.self) (earlier_of l.table l.self) (drop l.place-index l.refs))
    ≡ premises (hyps_of l.table l.self) (earlier_of l.table l.self) l.refs)
    × All (λ f. formula_bound f.now ≤ length l.table) l.premises.items
