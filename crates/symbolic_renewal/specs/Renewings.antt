-- What a renewal over a table goes by.
use Rattle.std.specs.Prelude.{ℕ, ◌<◌, true, List, map}
use Rattle.std.specs.List.{All}
use Rattle.term_trees.specs.declared.term.Term.{Term}
use Rattle.term_logic.specs.Table.{tree_at}
use Rattle.outline_rules.specs.Renewal as rules
use Rattle.symbolic_renewal.specs.declared.renewing.Renewing.{Renewing}

-- What a renewal goes by, as trees. Each of its globals takes part.
abbrev pub renewing_of : List Term → Renewing → rules.Renewing
renewing_of ts r = record {
  globals = r.globals.now;
  changes = λ k. true;
  pages = r.pages;
  result = r.result;
  fixed = map (tree_at ts) r.fixed.now;
  args = map (tree_at ts) r.args.now;
}

-- All positions are below n.
pub record RenewingWithin (n : ℕ) (r : Renewing) : Type 0 where
  pub fixed : All (λ id. id < n) r.fixed.now
  pub args : All (λ id. id < n) r.args.now
