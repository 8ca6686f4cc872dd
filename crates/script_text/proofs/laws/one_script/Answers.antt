use Rattle.script_text.proofs.TextLaws as texts
use Rattle.script_text.proofs.laws.one_script.Goals as goal

pub returns : goal.returns
returns c = texts.one_script
