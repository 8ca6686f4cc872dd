use Rattle.std.proofs.Common.{◌-◌, length, take, drop, refl}
use Rattle.std.proofs.lemmas.List.{take_rest}
use Rattle.verify_report.proofs.SealedLaws.{split_made, unsplit_made}
use Rattle.verify_report.proofs.sealed.judged_file.Goals as goal

pub returns-in-Some-clause-made : goal.returns-in-Some-clause-made
returns-in-Some-clause-made c =
    let file = c.args.file.now in
    let end = c.in-Some.end in
    let start = c.in-Some.start in
    split_made c.judged_parts.result file (take end file) (take (length file - start) (drop start file)) (take end file) (drop start file)
    refl (take_rest file start) c.in-Some.ensures.found c.judged_parts.ensures.made

pub returns-in-None-clause-made : goal.returns-in-None-clause-made
returns-in-None-clause-made c = unsplit_made c.fixed.result c.args.file.now c.in-None.ensures.unsealed c.fixed.ensures.made
