-- A term that is made and pushed is made first.
use Rattle.std.proofs.Common.{◌≡◌, ◌≤◌, Bool, true, false, ◌&&◌, refl, ap, ◌∙◌}
use Rattle.std.proofs.lemmas.Bool.{le-leb}
use Rattle.std.specs.Prelude.{nat_le, length, Ok}
use Rattle.wasm_values.specs.declared.limit.LimitWord.TheVariants as limit
use Rattle.wasm_values.specs.declared.number.ValType.{ValType}
use Rattle.term_trees.specs.declared.term.Term.{Term}
use Rattle.term_trees.specs.Terms.{node_count}
use Rattle.outline_rules.specs.Refusals.{limited, within, ◌>>=◌, ◌>>◌}
use Rattle.outline_rules.specs.States.{State, nodes_of, settled, with_top, pushed}
use Rattle.outline_rules.specs.Memory.{made_pushed}
use Rattle.symbolic_state.specs.Making.{made}

module _ (ty : ValType) (t : Term) (s : State) where
  settled-top : (b : Bool) →
      (limited limit.Nodes (b && true) >> within limit.Variables 1000000 s.vars >> within limit.Facts 4096 (length s.facts)
      >> within limit.Chunks 1024 (length s.chunks) >> within limit.State 1000000 (nodes_of (with_top ty t s)) >> Ok (with_top ty t s))
      ≡ ((limited limit.Nodes b >> Ok t) >>= λ u. pushed ty u s)
  unfolding settled
  settled-top true = refl
  settled-top false = refl

  pub made-pushed-is : made_pushed ty t s ≡ (made t >>= λ u. pushed ty u s)
  unfolding settled
  made-pushed-is = settled-top (nat_le (node_count t) 4096)

  pub known-pushed-is : node_count t ≤ 4096 → made_pushed ty t s ≡ pushed ty t s
  known-pushed-is low = made-pushed-is ∙ ap (λ b. (limited limit.Nodes b >> Ok t) >>= λ u. pushed ty u s) (le-leb (node_count t) 4096 low)

pub ruleset pushing = (made-pushed-is)

pub ruleset pushing_known = (known-pushed-is)
