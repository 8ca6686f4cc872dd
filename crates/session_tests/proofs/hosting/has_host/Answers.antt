use Rattle.std.proofs.Common.{sym, ◌∙◌}
use Rattle.session_tests.proofs.Hosts.{may_act}
use Rattle.session_tests.proofs.hosting.has_host.Goals as goal

pub returns-in-Some : goal.returns-in-Some
returns-in-Some c = λ t act. may_act c.args.config.now c.in-Some.field-0 (sym c.host_top.ensures ∙ c.in-Some.is) act
