use Rattle.std.proofs.Common.{sym, ◌∙◌}
use Rattle.rw_edge.proofs.FileLemmas.{contents_of-found, contents_of-passed, contents_of-none}
use Rattle.rw_edge.proofs.mem_shelf.place_of.Goals as goal

pub returns-then-eq : goal.returns-then-eq
returns-then-eq c =
    contents_of-found _ _ _ _ _ c.loop-place.invariant c.loop-place-test.true c.index-files-place.is c.as_str.ensures (sym c.eq.ensures ∙ c.if-eq.true)

pub loop-place-preserved : goal.loop-place-preserved
loop-place-preserved c =
    contents_of-passed _ _ _ _ _ c.loop-place.invariant c.loop-place-test.true c.index-files-place.is c.as_str.ensures (sym c.eq.ensures ∙ c.if-eq.false)

pub returns : goal.returns
returns c = contents_of-none _ _ _ c.loop-place.invariant c.loop-place-test.false
