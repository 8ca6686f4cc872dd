use Rattle.wasm_seal.proofs.SplitLaws.{if_none, if_some, notes_found, notes_missing, other_id, no_byte}
use Rattle.wasm_seal.proofs.splitting.notes_in.Goals as goal

pub returns-in-empty-clause-missing : goal.returns-in-empty-clause-missing
returns-in-empty-clause-missing c = no_byte c.args.section.now c.in-empty.len_below

pub returns-then-id-eq0-clause-found : goal.returns-then-id-eq0-clause-found
returns-then-id-eq0-clause-found c =
    if_some c.behind_id.result (λ notes h. notes_found c.args.section.now notes.now c.in-len1-up.len_at_least c.if-id-eq0.true h) c.behind_id.ensures.found

pub returns-then-id-eq0-clause-missing : goal.returns-then-id-eq0-clause-missing
returns-then-id-eq0-clause-missing c =
    if_none c.behind_id.result (λ none. notes_missing c.args.section.now c.in-len1-up.len_at_least none) c.behind_id.ensures.missing

pub returns-else-id-eq0-clause-missing : goal.returns-else-id-eq0-clause-missing
returns-else-id-eq0-clause-missing c = other_id c.args.section.now c.if-id-eq0.false
