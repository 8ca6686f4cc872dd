-- What an item is, by how it is seen.
use Rattle.std.proofs.Common.{◌≡◌, ◌⊎◌, inl, inr, Option, true, refl, ap, ◌∙◌}
use Rattle.wasm_values.specs.declared.number.ValType.{ValType}
use Rattle.wasm_syntax.specs.declared.instr.Instr.{Instr}
use Rattle.wasm_syntax.specs.declared.flat.Flat.{Flat}
use Rattle.wasm_syntax.specs.declared.flat.Flat.TheVariants.{One, Block, Loop, If, Else, End}
use Rattle.wasm_syntax.specs.declared.seen.Simple.{Simple}
use Rattle.wasm_syntax.specs.declared.seen.Simple.TheVariants as simple
use Rattle.wasm_syntax.specs.declared.seen.Seen.{Seen}
use Rattle.wasm_syntax.specs.declared.seen.Seen.TheVariants as seen
use Rattle.wasm_syntax.specs.FlatForm.{is_simple}
use Rattle.wasm_syntax.specs.Items.{instr_seen, item_seen}

module _ (x : Flat) (s : Seen) (is : x ≡ item_seen s) where
  pub seen_heads :
      ((ty : Option ValType) × (s ≡ seen.Block ty)) ⊎ (((ty : Option ValType) × (s ≡ seen.Loop ty)) ⊎ ((ty : Option ValType) × (s ≡ seen.If ty))) →
      ((ty : Option ValType) × (x ≡ Block ty)) ⊎ (((ty : Option ValType) × (x ≡ Loop ty)) ⊎ ((ty : Option ValType) × (x ≡ If ty)))
  seen_heads (inl (ty, h)) = inl (ty, is ∙ ap item_seen h)
  seen_heads (inr (inl (ty, h))) = inr (inl (ty, is ∙ ap item_seen h))
  seen_heads (inr (inr (ty, h))) = inr (inr (ty, is ∙ ap item_seen h))

  pub seen_one : ((i : Simple) × (s ≡ seen.One i)) → ((i : Instr) × (x ≡ One i))
  seen_one (i, h) = (instr_seen i, is ∙ ap item_seen h)

  pub seen_others : ((i : Simple) × (s ≡ seen.One i)) ⊎ (s ≡ seen.Else) → ((i : Instr) × (x ≡ One i)) ⊎ (x ≡ Else)
  seen_others (inl h) = inl (seen_one h)
  seen_others (inr h) = inr (is ∙ ap item_seen h)

  pub seen_stops : (s ≡ seen.Else) ⊎ (s ≡ seen.End) → (x ≡ Else) ⊎ (x ≡ End)
  seen_stops (inl h) = inl (is ∙ ap item_seen h)
  seen_stops (inr h) = inr (is ∙ ap item_seen h)

-- only an `else` is seen as one
pub else_seen : (s : Seen) → item_seen s ≡ Else → s ≡ seen.Else
else_seen (seen.One i) e = cc
else_seen (seen.Block ty) e = cc
else_seen (seen.Loop ty) e = cc
else_seen (seen.If ty) e = cc
else_seen seen.Else e = refl
else_seen seen.End e = cc

-- only one instruction is seen as one
pub one_seen : (s : Seen) (i : Instr) → item_seen s ≡ One i → (j : Simple) × (s ≡ seen.One j)
one_seen (seen.One j) i e = (j, refl)
one_seen (seen.Block ty) i e = absurd cc
one_seen (seen.Loop ty) i e = absurd cc
one_seen (seen.If ty) i e = absurd cc
one_seen seen.Else i e = absurd cc
one_seen seen.End i e = absurd cc

-- an instruction that is lent holds no others
pub simple_seen : (i : Simple) → is_simple (instr_seen i) ≡ true
simple_seen (simple.Plain op) = refl
simple_seen (simple.Num op) = refl
simple_seen (simple.Const v) = refl
simple_seen (simple.LocalGet x) = refl
simple_seen (simple.LocalSet x) = refl
simple_seen (simple.LocalTee x) = refl
simple_seen (simple.GlobalGet x) = refl
simple_seen (simple.GlobalSet x) = refl
simple_seen (simple.Load op a o) = refl
simple_seen (simple.Store op a o) = refl
simple_seen (simple.Br l) = refl
simple_seen (simple.BrIf l) = refl
simple_seen (simple.BrTable ls l) = refl
simple_seen (simple.Call f) = refl
simple_seen (simple.CallIndirect t) = refl
