use Rattle.std.proofs.Common.{◌≡◌, ◌∷◌, ◌++◌, take}
use Rattle.std.specs.List.{flat_map}
use Rattle.module_listing.specs.Instructions.{value_type_text}
use Rattle.module_listing.proofs.entry.write_value_types.Given as goal

abbrev pub invariant-loop-ty : goal.invariant-loop-ty
invariant-loop-ty l = l.out ≡ l.initial.out ++ flat_map (λ u. 32 ∷ value_type_text u) (take l.ty-index l.rest)
