use Rattle.std.proofs.Common.{[], length, sym, ◌∙◌}
use Rattle.std.proofs.lemmas.Bool.{eqb-false}
use Rattle.wasm_seal.proofs.SplitLaws.{if_none, name_missing, bytes_behind}
use Rattle.wasm_seal.proofs.splitting.behind_id.Goals as goal

pub returns-then-is_empty-clause-missing : goal.returns-then-is_empty-clause-missing
returns-then-is_empty-clause-missing c =
    if_none c.behind_name.result (λ none. name_missing c.args.rest.now c.in-Some.contents.now c.in-Some.after.now c.in-Some.ensures.found none) c.behind_name.ensures.missing

pub returns-else-is_empty-clause-missing : goal.returns-else-is_empty-clause-missing
returns-else-is_empty-clause-missing c =
    bytes_behind c.args.rest.now c.in-Some.contents.now c.in-Some.after.now (eqb-false (length c.in-Some.after.now) 0 (sym c.is_empty.ensures ∙ c.if-is_empty.false)) c.in-Some.ensures.found

pub returns-in-None-clause-missing : goal.returns-in-None-clause-missing
returns-in-None-clause-missing c = λ notes h. c.in-None.ensures.missing h.0 [] h.1
