use Rattle.std.proofs.Common.{length-set, arith, rules, ◌∙◌}
use Rattle.wasm_reduce.proofs.Loads.{overwrite_step}
use Rattle.wasm_reduce.proofs.memory.overwrite.Goals as goal

pub loop-i-preserved : goal.loop-i-preserved
loop-i-preserved c =
    let i = c.loop-i.invariant in
    record {
      long = search (rules, length-set);
      written = c.set.ensures ∙ overwrite_step c.loop-i.bytes c.args.bytes.now c.args.others.now c.args.at c.loop-i.i _ (omega arith) (omega arith) i.written;
    }
