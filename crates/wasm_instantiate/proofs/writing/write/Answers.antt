use Rattle.std.proofs.Common.{sym, subst}
use Rattle.wasm_instantiate.specs.declared.acts.HostAct.{HostAct}
use Rattle.wasm_instantiate.specs.words.Writing.{WriteAnswers}
use Rattle.wasm_instantiate.proofs.writing.write.Goals as goal

pub returns-in-Byte : goal.returns-in-Byte
returns-in-Byte c =
    let P : HostAct → Type 0 = λ act. WriteAnswers c.args.policy.now c.args.store.now act c.write_byte.new.store c.write_byte.result in
    subst P (sym c.in-Byte.is) (c.write_byte.ensures c.args.policy.now)

pub returns-in-Global : goal.returns-in-Global
returns-in-Global c =
    let P : HostAct → Type 0 = λ act. WriteAnswers c.args.policy.now c.args.store.now act c.write_global.new.store c.write_global.result in
    subst P (sym c.in-Global.is) (c.write_global.ensures c.args.policy.now)

pub returns-in-Entry : goal.returns-in-Entry
returns-in-Entry c =
    let P : HostAct → Type 0 = λ act. WriteAnswers c.args.policy.now c.args.store.now act c.write_entry.new.store c.write_entry.result in
    subst P (sym c.in-Entry.is) (c.write_entry.ensures c.args.policy.now)

pub returns-in-GrowTable : goal.returns-in-GrowTable
returns-in-GrowTable c =
    let P : HostAct → Type 0 = λ act. WriteAnswers c.args.policy.now c.args.store.now act c.grow_table.new.store c.grow_table.result in
    subst P (sym c.in-GrowTable.is) (c.grow_table.ensures c.args.policy.now)
