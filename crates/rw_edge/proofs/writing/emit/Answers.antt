use Rattle.std.proofs.Common.{arith, ◌∙◌, length-drop}
use Rattle.rw_edge.proofs.KnownLemmas.{Appends-next}
use Rattle.rw_edge.proofs.writing.emit.Goals as goal

pub loop-at-preserved : goal.loop-at-preserved
loop-at-preserved g c = record {
  in_text = omega (arith, c.in_ok-at.ensures.fits, length-drop c.loop-at.at c.args.text.now);
  told = c.in_ok-at.ensures.told ∙ c.loop-at.invariant.told;
  no_lower = omega (arith, c.loop-at.invariant.no_lower, c.write.ensures.count.no_lower);
  within = λ _. c.write.ensures.count.within;
  appended = Appends-next _ _ _ _ _ _ c.loop-at.invariant.appended c.in_ok-at.ensures.appended;
}
