-- Heads that a match of code leaves to its last arm.
use Rattle.std.proofs.Common.{◌≡◌, Bool, refl}
use Rattle.notes_grammar.specs.declared.head.Head.{Head}
use Rattle.notes_grammar.specs.declared.head.Head.TheVariants as head
use Rattle.notes_grammar.specs.Reading.{form, Headed, place_at}

pub other_place : (later : Bool) (h : Headed) (k : Head) → (k ≡ head.Local → ⊥) → (k ≡ head.Stack → ⊥) → (k ≡ head.Global → ⊥) → (k ≡ head.Arg → ⊥) → (k ≡ head.Pages → ⊥) → (k ≡ head.Result → ⊥) → (k ≡ head.Index → ⊥) → (k ≡ head.Item → ⊥) → place_at later h k ≡ form h.at
unfolding place_at
other_place later h head.Local n0 n1 n2 n3 n4 n5 n6 n7 = absurd (n0 refl)
other_place later h head.Stack n0 n1 n2 n3 n4 n5 n6 n7 = absurd (n1 refl)
other_place later h head.Global n0 n1 n2 n3 n4 n5 n6 n7 = absurd (n2 refl)
other_place later h head.Arg n0 n1 n2 n3 n4 n5 n6 n7 = absurd (n3 refl)
other_place later h head.Pages n0 n1 n2 n3 n4 n5 n6 n7 = absurd (n4 refl)
other_place later h head.Result n0 n1 n2 n3 n4 n5 n6 n7 = absurd (n5 refl)
other_place later h head.Index n0 n1 n2 n3 n4 n5 n6 n7 = absurd (n6 refl)
other_place later h head.Item n0 n1 n2 n3 n4 n5 n6 n7 = absurd (n7 refl)
other_place later h k n0 n1 n2 n3 n4 n5 n6 n7 = refl
