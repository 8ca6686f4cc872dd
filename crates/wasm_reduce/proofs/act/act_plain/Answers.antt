use Rattle.std.proofs.Common.{IfOk, sym, subst}
use Rattle.wasm_syntax.specs.declared.instr.Plain.{Plain}
use Rattle.wasm_store.specs.Step.{PlainStep}
use Rattle.wasm_reduce.specs.words.Effects.{CameOf, seen_in, moved_to, grows_in}
use Rattle.wasm_reduce.proofs.act.act_plain.Goals as goal

pub returns-in-MemorySize-clause-ok : goal.returns-in-MemorySize-clause-ok
returns-in-MemorySize-clause-ok c =
    let s = c.args.store.now in
    let f = c.args.frame.now in
    subst (λ (op : Plain). IfOk c.size.result (CameOf (λ below d. PlainStep (grows_in c.args.policy.now s (seen_in s f)) s (moved_to s f c.args.on) below d op) s f s c.size.new.frame)) (sym c.in-MemorySize.is) c.size.ensures.ok

pub returns-in-MemoryGrow-clause-ok : goal.returns-in-MemoryGrow-clause-ok
returns-in-MemoryGrow-clause-ok c =
    let s = c.args.store.now in
    let f = c.args.frame.now in
    subst (λ (op : Plain). IfOk c.grow.result (CameOf (λ below d. PlainStep (grows_in c.args.policy.now s (seen_in s f)) s (moved_to s f c.args.on) below d op) s f c.grow.new.store c.grow.new.frame)) (sym c.in-MemoryGrow.is) c.grow.ensures.ok
