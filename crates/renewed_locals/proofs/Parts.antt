-- A state after a block, part by part.
use Rattle.std.proofs.Common.{◌≡◌, ℕ, Bool, true, List, [], refl, sym, ap, ◌∙◌}
use Rattle.std.specs.Prelude.{filter, Option, Ok, Err}
use Rattle.wasm_values.specs.declared.number.ValType.{ValType}
use Rattle.notes.specs.declared.assertion.Assertion.{Assertion}
use Rattle.outline_rules.specs.Refusals.{Ruling, ◌>>=◌}
use Rattle.outline_rules.specs.Settings.{Setting, private_globals}
use Rattle.outline_rules.specs.States.{State, with_chunks}
use Rattle.outline_rules.specs.Renewal.{renewed}
use Rattle.outline_rules.specs.Branches.{Label}
use Rattle.outline_rules.specs.Blocks.{Changes, locals_renewed, block_renewing, resumed}
use Rattle.symbolic_renewal.proofs.Parting.{renewed-of-part}
use Rattle.renewed_locals.specs.words.Locals.{locals_left}

-- no chunk is left, and then a renewal
resumed-is : (c : Setting) (changes : Changes) (l : Label) (s : State) → resumed c changes l s ≡ (locals_left changes.locals s >>= renewed (block_renewing c changes l.takes) l.assertion)
resumed-is c changes l s = by_locals (locals_renewed changes.locals 0 s.locals s)
  where
    by_locals : (r : Ruling State) → (r >>= λ t. renewed (block_renewing c changes l.takes) l.assertion (with_chunks [] t)) ≡ ((r >>= λ t. Ok (with_chunks [] t)) >>= renewed (block_renewing c changes l.takes) l.assertion)
    by_locals (Ok t) = refl
    by_locals (Err e) = refl

pub resumed-then : (c : Setting) (changes : Changes) (l : Label) (s t : State) → locals_left changes.locals s ≡ Ok t → renewed (block_renewing c changes l.takes) l.assertion t ≡ resumed c changes l s
resumed-then c changes l s t gives = ap (λ r. r >>= renewed (block_renewing c changes l.takes) l.assertion) (sym gives) ∙ sym (resumed-is c changes l s)

-- a renewal of the globals that change alone
pub block-is : (c : Setting) (changes : Changes) (takes : Option ValType) (a : Assertion) (s : State) (gs : List (ℕ × ValType)) (pages : Bool)
    → gs ≡ filter (λ g. changes.globals g.0) (private_globals c) → pages ≡ changes.pages
    → renewed (record { globals = gs; changes = λ k. true; pages = pages; result = takes; fixed = []; args = [] }) a s ≡ renewed (block_renewing c changes takes) a s
block-is c changes takes a s gs pages globals_are pages_are =
    (λ j. renewed (record { globals = globals_are j; changes = λ k. true; pages = pages_are j; result = takes; fixed = []; args = [] }) a s)
    ∙ renewed-of-part changes.globals (block_renewing c changes takes) a s
