use Rattle.std.proofs.Common.{length, ◌++◌}
use Rattle.wasm_seal.proofs.SplitLaws.{too_short}
use Rattle.wasm_seal.proofs.splitting.sized.Goals as goal

pub returns-then-rest-size-clause-missing : goal.returns-then-rest-size-clause-missing
returns-then-rest-size-clause-missing c = too_short c.args.bytes.now c.in-Some.rest.now c.in-Some.size c.in-Some.ensures.found c.if-rest-size.true

pub returns-in-None-clause-missing : goal.returns-in-None-clause-missing
returns-in-None-clause-missing c = λ contents after h. c.in-None.ensures.missing (length contents) (contents ++ after) h
