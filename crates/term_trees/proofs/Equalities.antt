-- The derived `==` of places and of operators is equality of values.
use Rattle.std.proofs.Common.{◌≡◌, true, refl, sym, ap, true≢false}
use Rattle.std.proofs.lemmas.Bool.{eqb-true}
use denote.Enum.Bare.{same_true}
use Rattle.wasm_values.specs.declared.number.IntOp.{IntOp}
use Rattle.wasm_values.specs.declared.number.NumOp.{NumOp}
use Rattle.wasm_values.specs.declared.number.NumOp.TheVariants.{W32, W64, Wrap, ExtendS, ExtendU}
use Rattle.wasm_values.specs.contracts.number.IntOp as int_op
use Rattle.wasm_values.specs.contracts.number.NumOpPartialEq.TheImpl as num_eq
use Rattle.wasm_values.specs.contracts.number.IntOpPartialEq.TheImpl as op_eq
use Rattle.wasm_values.specs.contracts.number.NumOpEq.TheImpl.Laws as num_laws
use Rattle.term_trees.specs.declared.term.Place.{Place}
use Rattle.term_trees.specs.declared.term.Place.TheVariants.{Local, Stack, Global, Pages, Arg, Result, Index, Item}
use Rattle.term_trees.specs.contracts.term.PlacePartialEq.TheImpl as place_eq
use Rattle.term_trees.specs.contracts.term.PlaceEq.TheImpl.Laws as place_laws

pub exact_place : (x y : Place) → (place_eq.ghosts).eq x y ≡ true → x ≡ y
exact_place (Local a) (Local b) e = ap Local (eqb-true a b e)
exact_place (Stack a) (Stack b) e = ap Stack (eqb-true a b e)
exact_place (Global a) (Global b) e = ap Global (eqb-true a b e)
exact_place Pages Pages e = refl
exact_place (Arg a) (Arg b) e = ap Arg (eqb-true a b e)
exact_place Result Result e = refl
exact_place Index Index e = refl
exact_place Item Item e = refl
exact_place _ _ e = absurd (true≢false (sym e))

exact_int_op : (x y : IntOp) → (op_eq.ghosts).eq x y ≡ true → x ≡ y
exact_int_op x y e = same_true int_op.the_type tt x y e

pub exact_num_op : (x y : NumOp) → (num_eq.ghosts).eq x y ≡ true → x ≡ y
exact_num_op (W32 a) (W32 b) e = ap W32 (exact_int_op a b e)
exact_num_op (W64 a) (W64 b) e = ap W64 (exact_int_op a b e)
exact_num_op Wrap Wrap e = refl
exact_num_op ExtendS ExtendS e = refl
exact_num_op ExtendU ExtendU e = refl
exact_num_op _ _ e = absurd (true≢false (sym e))

pub refl_place : (p : Place) → (place_eq.ghosts).eq p p ≡ true
refl_place p = place_laws.laws-law.refl p

pub refl_num_op : (op : NumOp) → (num_eq.ghosts).eq op op ≡ true
refl_num_op op = num_laws.laws-law.refl op
