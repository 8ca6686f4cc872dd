use Rattle.std.proofs.Common.{sym, ◌∙◌}
use Rattle.wasm_seal.specs.Sealed.{notes_name}
use Rattle.wasm_seal.proofs.SplitLaws.{the_name, other_name}
use Rattle.wasm_seal.proofs.splitting.behind_name.Goals as goal

pub returns-then-eq-clause-found : goal.returns-then-eq-clause-found
returns-then-eq-clause-found c =
    the_name c.args.contents.now c.in-Some.name.now c.in-Some.notes.now c.as_slice.result.now (sym c.eq.ensures ∙ c.if-eq.true) c.as_slice.ensures c.in-Some.ensures.found

pub returns-else-eq-clause-missing : goal.returns-else-eq-clause-missing
returns-else-eq-clause-missing c =
    other_name c.args.contents.now c.in-Some.name.now c.in-Some.notes.now c.as_slice.result.now (sym c.eq.ensures ∙ c.if-eq.false) c.as_slice.ensures c.in-Some.ensures.found

pub returns-in-None-clause-missing : goal.returns-in-None-clause-missing
returns-in-None-clause-missing c = λ notes h. c.in-None.ensures.missing notes_name notes h
