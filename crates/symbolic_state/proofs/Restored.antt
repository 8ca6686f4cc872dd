-- Coming back to the state of a snapshot.
use Rattle.std.proofs.Common.{◌≡◌, ◌<◌, ◌≤◌, List, length, map, take, reverse, All, sym, ap, subst, ◌∙◌, arith}
use Rattle.std.proofs.lemmas.List.Elements.{All-take}
use Rattle.std.specs.List.{take-map}
use Rattle.term_trees.specs.declared.term.Term.{Term}
use Rattle.term_logic.specs.declared.formula.IdFormula.{IdFormula}
use Rattle.term_logic.specs.Formulas.{formula_bound, formula_of}
use Rattle.term_logic.specs.Extends.{Extends}
use Rattle.heap_logic.proofs.Growing.{chunks_of-kept, chunk-more}
use Rattle.outline_rules.specs.States.{State, nodes_of}
use Rattle.symbolic_state.specs.declared.snapshot.Snapshot.{Snapshot}
use Rattle.symbolic_state.specs.declared.state.SymState.{SymState}
use Rattle.symbolic_state.specs.declared.tracked.TrackedState.TheInside.{Inside}
use Rattle.symbolic_state.specs.States.{state_of, Tracked, WithinLimits}
use Rattle.symbolic_state.specs.Tracking.{tracked, IsTracked}
use Rattle.symbolic_state.specs.Growth.{Grown}
use Rattle.symbolic_state.specs.Snapshots.{Remembers, Follows, Restorable}
use Rattle.symbolic_state.proofs.Growing.{entries-kept, option-kept, options-kept, option-more}
use Rattle.symbolic_state.proofs.Lists.{All-reverse}

module _ (old new : List Term) (more : Extends old new) (snapshot : Snapshot) (s : State) where
  -- a snapshot is of the same state over a longer table
  pub remembers-kept : Remembers old snapshot s → Remembers new snapshot s
  remembers-kept r = record {
    vars = r.vars;
    facts = r.facts;
    chunks = chunks_of-kept old new more snapshot.chunks r.chunks_within ∙ r.chunks;
    locals = entries-kept old new more snapshot.locals r.locals_within ∙ r.locals;
    operands = entries-kept old new more (reverse snapshot.stack) (All-reverse (λ e. e.1 < length old) snapshot.stack r.stack_within) ∙ r.operands;
    globals = options-kept old new more snapshot.globals r.globals_within ∙ r.globals;
    pages = option-kept old new more snapshot.pages r.pages_within ∙ r.pages;
    nodes = r.nodes;
    widths = r.widths;
    limits = r.limits;
    chunks_within = λ k d h. chunk-more (length old) (length new) more.longer _ (r.chunks_within k d h);
    locals_within = λ k d h. let at = r.locals_within k d h in omega (arith, more.longer);
    stack_within = λ k d h. let at = r.stack_within k d h in omega (arith, more.longer);
    globals_within = λ k d h. option-more (length old) (length new) more.longer _ (r.globals_within k d h);
    pages_within = option-more (length old) (length new) more.longer snapshot.pages r.pages_within;
  }

-- a state that has grown from that of a snapshot
pub follows-grown : (a b : Tracked) → Grown a b → Follows a.state b.state
follows-grown a b more = record { facts = more.facts; args = more.args; given = more.given }

pub restorable : (a b : Tracked) (snapshot : Snapshot) → Remembers a.terms snapshot a.state → Grown a b → Restorable b snapshot
restorable a b snapshot r more = record { state = a.state; remembers = remembers-kept a.terms b.terms more.terms snapshot a.state r; follows = follows-grown a b more }

module _ (t : Inside) (is : IsTracked t) (snapshot : Snapshot) (fs : List IdFormula) (cut : fs ≡ take snapshot.facts t.state.heap.facts) where
  -- the fields again
  abbrev again : SymState
  again = record {
    heap = record { vars = snapshot.vars; facts = fs; chunks = snapshot.chunks };
    locals = snapshot.locals;
    stack = snapshot.stack;
    globals = snapshot.globals;
    pages = snapshot.pages;
    args = t.state.args;
    given = t.state.given;
  }

  pub is-again : (s : State) → Remembers t.table snapshot s → Follows s (state_of t.table t.state) → state_of t.table again ≡ s
  is-again s r f = λ j. record {
    vars = r.vars j;
    facts = (ap (map (formula_of t.table)) cut ∙ sym (take-map (formula_of t.table) snapshot.facts t.state.heap.facts) ∙ ap (λ n. take n (map (formula_of t.table) t.state.heap.facts)) r.facts ∙ f.facts) j;
    chunks = r.chunks j;
    locals = r.locals j;
    operands = r.operands j;
    globals = r.globals j;
    pages = r.pages j;
    args = f.args j;
    given = f.given j;
  }

  pub restored : Restorable (tracked t) snapshot → IsTracked (record t { state = again; nodes = snapshot.nodes })
  restored h =
      let same : h.state ≡ state_of t.table again = sym (is-again h.state h.remembers h.follows) in
      record {
        within = record {
          heap = record { facts = subst (All (λ f. formula_bound f ≤ length t.table)) (sym cut) (All-take (λ f. formula_bound f ≤ length t.table) snapshot.facts t.state.heap.facts is.within.heap.facts); chunks = h.remembers.chunks_within };
          locals = h.remembers.locals_within;
          stack = h.remembers.stack_within;
          globals = h.remembers.globals_within;
          pages = h.remembers.pages_within;
          args = is.within.args;
          given = is.within.given;
        };
        widths = h.remembers.widths;
        limits = subst WithinLimits same h.remembers.limits;
        nodes = h.remembers.nodes ∙ ap nodes_of same;
      }

pub ruleset remembered = (remembers-kept, restorable, follows-grown)
