use Rattle.std.proofs.Common.{subst}
use Rattle.wasm_store.specs.Configuration.{Configuration}
use Rattle.wasm_store.specs.Seen.{seen}
use Rattle.wasm_sessions.specs.Instantiation.{initialized, Starts}
use Rattle.module_instances.specs.words.Putting.{with_parts}
use Rattle.module_instances.proofs.StartingLemmas.{starts_is}
use Rattle.module_instances.proofs.instantiation.put_in.Goals as goal

pub returns-clause-ok : goal.returns-clause-ok
returns-clause-ok c =
    let i = c.config.inside in
    let p = c.args.parts in
    let m = c.args.module.now in
    let d : Configuration = seen (record { store = c.extend.new.store; frames = c.in_ok-frames.frames; outcome = c.first_outcome-outcome.result }) in
    let P : Configuration → Type 0 = λ x. Starts (initialized (with_parts x.store p) p.instance m) p.instance m.start d in
    let h = c.in_ok-frames.ensures in
    subst P c.config.view_is (starts_is (with_parts i.store p) p.instance m p.start c.extend.new.store c.in_ok-frames.frames c.first_outcome-outcome.result c.requires.start h.frames h.ok c.first_outcome-outcome.ensures)
