use Rattle.std.proofs.Common.{◌≡◌, ◌-◌, length-set, arith, rules}
use Rattle.wasm_reduce.proofs.Stacks.{keep_step, reverse-kept}
use Rattle.wasm_reduce.proofs.operands.keep.Goals as goal

pub loop-k-preserved : goal.loop-k-preserved
loop-k-preserved c =
    let i = c.loop-k.invariant in
    let moves = keep_step c.loop-k.operands c.args.operands.now c.set.new.self c.as_slice.result.now c.args.height (c.len.result - c.args.arity) c.loop-k.k _ (omega arith) (omega arith) i.long i.taken i.dropped c.as_slice.ensures c.set.ensures in
    record {
      long = search (rules, length-set);
      taken = moves.0;
      dropped = moves.1;
    }

pub returns : goal.returns
returns c =
    let old = c.args.operands.now in
    let all : c.loop-k.k ≡ c.args.arity = omega arith in
    let taken = rw (all, c.len.ensures) at c.loop-k.invariant.taken in
    reverse-kept c.truncate.new.self c.loop-k.operands old c.args.arity c.args.height c.requires taken c.truncate.ensures
