use Rattle.std.proofs.Common.{◌≡◌, ◌∷◌, Bool, reverse, slice_get, unwrap_or, sym, ap, subst, ◌∙◌}
use Rattle.wasm_values.specs.declared.number.Val.TheVariants as val
use Rattle.wasm_syntax.specs.declared.seen.Simple.{Simple}
use Rattle.wasm_syntax.specs.Items.{instr_seen}
use Rattle.wasm_syntax.specs.declared.instr.Instr.TheVariants as instr
use Rattle.wasm_syntax.specs.Trees.{instruction_of}
use Rattle.wasm_store.specs.Control.{Branches, BrTableStep}
use Rattle.wasm_reduce.specs.words.Effects.{Can, CameOf, Does, seen_in, moved_to, under}
use Rattle.wasm_reduce.proofs.Acting.{acts_map, to_br, of_br_table, to_br_table}
use Rattle.wasm_reduce.proofs.reading.act_reading.Goals as goal

pub returns-in-Br-clause-ok : goal.returns-in-Br-clause-ok
returns-in-Br-clause-ok c = λ grows.
    let s = c.args.store.now in
    let f = c.args.frame.now in
    let k = c.in-Br.k in
    let b = c.branch-store in
    subst (λ (i : Simple). CameOf (Does grows (instruction_of (instr_seen i)) s f c.args.on) s f s b.new.frame b.result) (sym c.in-Br.is) (
    acts_map (λ below d. Branches s (under (seen_in s f) 0) below d (seen_in s f).labels k)
    (λ below d. Branches s (moved_to s f c.args.on) below d (moved_to s f c.args.on).labels k)
    s f s b.new.frame b.result
    (λ below d h. to_br s f c.args.on k 0 f.operands below d h)
    b.ensures.ok
    )

pub branch-store-requires-in-BrTable-clause-can : goal.branch-store-requires-in-BrTable-clause-can
branch-store-requires-in-BrTable-clause-can c =
    let s = c.args.store.now in
    let f = c.args.frame.now in
    let labels = c.in-BrTable.labels.now in
    let last = c.in-BrTable.last in
    let n = c.top_number-chosen.result in
    let top : reverse f.operands ≡ val.I32 n ∷ c.top_number-chosen.ensures.0 =
    ap reverse (sym c.as_slice.ensures) ∙ c.top_number-chosen.ensures.1
    in
    let k : c.label_of-k.result ≡ unwrap_or (slice_get labels n) last =
    c.label_of-k.ensures
    in
    let r : (grows : Bool) × Can (Does grows (instruction_of (instr.BrTable labels last)) s f c.args.on) =
    subst (λ (i : Simple). (grows : Bool) × Can (Does grows (instruction_of (instr_seen i)) s f c.args.on)) c.in-BrTable.is c.requires.can
    in
    (r.1.0, r.1.1, of_br_table s f c.args.on c.label_of-k.result n c.top_number-chosen.ensures.0 r.1.0 r.1.1 labels last k top r.1.2)

pub returns-in-BrTable-clause-ok : goal.returns-in-BrTable-clause-ok
returns-in-BrTable-clause-ok c = λ grows.
    let s = c.args.store.now in
    let f = c.args.frame.now in
    let labels = c.in-BrTable.labels.now in
    let last = c.in-BrTable.last in
    let n = c.top_number-chosen.result in
    let b = c.branch-store-in-BrTable in
    let top : reverse f.operands ≡ val.I32 n ∷ c.top_number-chosen.ensures.0 =
    ap reverse (sym c.as_slice.ensures) ∙ c.top_number-chosen.ensures.1
    in
    let k : c.label_of-k.result ≡ unwrap_or (slice_get labels n) last =
    c.label_of-k.ensures
    in
    subst (λ (i : Simple). CameOf (Does grows (instruction_of (instr_seen i)) s f c.args.on) s f s b.new.frame b.result) (sym c.in-BrTable.is) (
    acts_map (λ below d. Branches s (under (seen_in s f) 1) below d (seen_in s f).labels c.label_of-k.result)
    (λ below d. BrTableStep s (moved_to s f c.args.on) below d labels last)
    s f s b.new.frame b.result
    (λ below d h. to_br_table s f c.args.on c.label_of-k.result n c.top_number-chosen.ensures.0 below d labels last k top h)
    b.ensures.ok
    )

pub returns-in-Num-clause-ok : goal.returns-in-Num-clause-ok
returns-in-Num-clause-ok c = λ grows.
    let s = c.args.store.now in
    let f = c.args.frame.now in
    subst (λ (i : Simple). CameOf (Does grows (instruction_of (instr_seen i)) s f c.args.on) s f s c.compute.new.frame c.compute.result) (sym c.in-Num.is) c.compute.ensures

pub returns-in-Load-clause-ok : goal.returns-in-Load-clause-ok
returns-in-Load-clause-ok c = λ grows.
    let s = c.args.store.now in
    let f = c.args.frame.now in
    subst (λ (i : Simple). CameOf (Does grows (instruction_of (instr_seen i)) s f c.args.on) s f s c.load.new.frame c.load.result) (sym c.in-Load.is) c.load.ensures

pub returns-in-BrIf-clause-ok : goal.returns-in-BrIf-clause-ok
returns-in-BrIf-clause-ok c = λ grows.
    let s = c.args.store.now in
    let f = c.args.frame.now in
    subst (λ (i : Simple). CameOf (Does grows (instruction_of (instr_seen i)) s f c.args.on) s f s c.br_if.new.frame c.br_if.result) (sym c.in-BrIf.is) c.br_if.ensures

pub returns-in-Call-clause-ok : goal.returns-in-Call-clause-ok
returns-in-Call-clause-ok c = λ grows.
    let s = c.args.store.now in
    let f = c.args.frame.now in
    subst (λ (i : Simple). CameOf (Does grows (instruction_of (instr_seen i)) s f c.args.on) s f s c.args.frame.now c.call.result) (sym c.in-Call.is) c.call.ensures

pub returns-in-CallIndirect-clause-ok : goal.returns-in-CallIndirect-clause-ok
returns-in-CallIndirect-clause-ok c = λ grows.
    let s = c.args.store.now in
    let f = c.args.frame.now in
    subst (λ (i : Simple). CameOf (Does grows (instruction_of (instr_seen i)) s f c.args.on) s f s c.args.frame.now c.call_indirect.result) (sym c.in-CallIndirect.is) c.call_indirect.ensures
