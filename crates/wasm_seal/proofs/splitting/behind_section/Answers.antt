use Rattle.wasm_seal.proofs.SplitLaws.{section_found, section_missing}
use Rattle.wasm_seal.proofs.splitting.behind_section.Goals as goal

pub returns-in-Some-clause-found : goal.returns-in-Some-clause-found
returns-in-Some-clause-found c = section_found c.args.bytes.now c.in-Some.field-0-0.now c.in-Some.after.now c.in-len1-up.len_at_least c.in-Some.ensures.found

pub returns-in-None-clause-missing : goal.returns-in-None-clause-missing
returns-in-None-clause-missing c = section_missing c.args.bytes.now c.in-len1-up.len_at_least c.in-None.ensures.missing
