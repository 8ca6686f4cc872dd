-- The operands that the validator keeps, as the operand types that they stand for.
use Rattle.std.specs.Prelude.{◌≡◌, Bool, true, false, List, [], ◌∷◌, ◌++◌, reverse, take, drop, Option, Some, None}
use Rattle.wasm_values.specs.declared.number.ValType.{ValType}
use Rattle.wasm_typing.specs.Typing.{Types}
use Rattle.body_check.specs.words.Known.{Known}
use Rattle.body_check.specs.declared.open.Floor.{Floor}

-- An operand whose type is unknown may have any.
abbrev pub IsOfType : Option ValType → ValType → Type 0
IsOfType None t = Unit {0}
IsOfType (Some s) t = t ≡ s

-- What is known of an operand of which two things are known; none where no type fits both.
abbrev pub IsCommon : Option (Option ValType) → (first second : Option ValType) → Type 0
IsCommon None first second = (t : ValType) → IsOfType first t → IsOfType second t → ⊥
IsCommon (Some k) first second =
    ((t : ValType) → IsOfType k t → IsOfType first t × IsOfType second t) × ((t : ValType) → IsOfType first t → IsOfType second t → IsOfType k t)

-- Operands, the topmost first, stand for these types; in dead code any operands may lie below.
abbrev pub StandsFor : List (Option ValType) → (dead : Bool) → Types → Type 0
StandsFor [] true ts = Unit {0}
StandsFor [] false ts = ts ≡ []
StandsFor (k ∷ ks) dead [] = ⊥
StandsFor (k ∷ ks) dead (t ∷ ts) = IsOfType k t × StandsFor ks dead ts

-- The innermost block's operands that the validator keeps, the topmost last, stand for these types, the topmost first.
abbrev pub Are : Known → Types → Type 0
Are s ts = StandsFor (reverse s.here) s.dead ts

-- Operands as they are when the innermost block is gone, where those of the block around it began at this floor.
abbrev pub lower : Floor → List (Option ValType) → Known
lower f below = record { below = take f.base below; here = drop f.base below; dead = f.dead }

-- The topmost operand of a block is taken off, if it has one.
abbrev pub Popped : Option (Option ValType) → Known → Known → Type 0
Popped None s n = (s.here ≡ []) × (n ≡ s)
Popped (Some k) s n = (s.here ≡ n.here ++ k ∷ []) × (n.below ≡ s.below) × (n.dead ≡ s.dead)

-- The same types have both.
abbrev pub Exactly : (P Q : Types → Type 0) → Type 0
Exactly P Q = ((ts : Types) → P ts → Q ts) × ((ts : Types) → Q ts → P ts)

-- From types of which P holds, R leads to exactly those of which Q holds.
abbrev pub Advances : (P Q : Types → Type 0) → (R : Types → Types → Type 0) → Type 0
Advances P Q R =
    ((outs : Types) → Q outs → (ins : Types) × P ins × R ins outs)
    × ((ins outs : Types) → P ins → R ins outs → Q outs)

-- From types of which P holds, R leads nowhere.
abbrev pub IsStuck : (P : Types → Type 0) → (R : Types → Types → Type 0) → Type 0
IsStuck P R = (ins outs : Types) → P ins → R ins outs → ⊥

-- From types of which P holds, R leads to exactly those of which Q holds; or it leads nowhere.
abbrev pub Goes : Bool → (P Q : Types → Type 0) → (R : Types → Types → Type 0) → Type 0
Goes true P Q R = Advances P Q R
Goes false P Q R = IsStuck P R

-- Operands of these types were on top, exactly where this is answered, and are taken.
abbrev pub Took : Bool → (P Q : Types → Type 0) → Types → Type 0
Took true P Q us = (ts : Types) → (P (us ++ ts) → Q ts) × (Q ts → P (us ++ ts))
Took false P Q us = (ts : Types) → P (us ++ ts) → ⊥

-- An operand of any type that fits what is known was on top, and is taken; or there was none.
abbrev pub TookAny : Option (Option ValType) → (P Q : Types → Type 0) → Type 0
TookAny (Some k) P Q =
    ((t : ValType) (ts : Types) → P (t ∷ ts) → IsOfType k t × Q ts) × ((t : ValType) (ts : Types) → IsOfType k t → Q ts → P (t ∷ ts))
TookAny None P Q = (t : ValType) (ts : Types) → P (t ∷ ts) → ⊥

-- An operand is put on top of which this is known.
abbrev pub Pushed : Option ValType → (P Q : Types → Type 0) → Type 0
Pushed k P Q =
    ((outs : Types) → Q outs → (t : ValType) × (ts : Types) × IsOfType k t × P ts × (outs ≡ t ∷ ts))
    × ((t : ValType) (ts : Types) → IsOfType k t → P ts → Q (t ∷ ts))

-- Operands of these types are put on top.
abbrev pub Gave : (P Q : Types → Type 0) → Types → Type 0
Gave P Q us = ((outs : Types) → Q outs → (ts : Types) × P ts × (outs ≡ us ++ ts)) × ((ts : Types) → P ts → Q (us ++ ts))
