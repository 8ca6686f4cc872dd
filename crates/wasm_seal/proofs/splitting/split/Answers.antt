use Rattle.std.proofs.Common.{arith}
use Rattle.wasm_seal.proofs.NotesLaws.{holds}
use Rattle.wasm_seal.proofs.SplitLaws.{Found, split_found, places, no_last, no_notes}
use Rattle.wasm_seal.proofs.splitting.split.Goals as goal

pub returns-in_default-last_section-clause-unsealed : goal.returns-in_default-last_section-clause-unsealed
returns-in_default-last_section-clause-unsealed c = no_last c.args.file.now c.in-Some.sections.now c.in-Some.ensures c.in_default-last_section.ensures.missing

pub returns-in_default-notes_in-clause-unsealed : goal.returns-in_default-notes_in-clause-unsealed
returns-in_default-notes_in-clause-unsealed c =
    no_notes c.args.file.now c.in-Some.sections.now c.in-Some-last_section.last.now c.in-Some.ensures c.in-Some-last_section.ensures.found
    (λ notes n. c.in_default-notes_in.ensures.missing 0 notes (holds 0 c.in-Some-last_section.last.now notes n))

-- what is known where all parts were found
abbrev all : (c : goal.In-Some-notes_in) → Found c.args.file.now c.in-Some.sections.now c.in-Some-last_section.last.now c.in-Some-notes_in.notes.now
all c = record { header = c.in-Some.ensures; ends = c.in-Some-last_section.ensures.found; holds = c.in-Some-notes_in.ensures.found }

pub overflow_sub-result-2 : goal.overflow_sub-result-2
overflow_sub-result-2 c =
    let p = places c.args.file.now c.in-Some.sections.now c.in-Some-last_section.last.now c.in-Some-notes_in.notes.now (all c) in
    omega (arith, p.0, p.1)

pub returns-clause-found : goal.returns-clause-found
returns-clause-found c = split_found c.args.file.now c.in-Some.sections.now c.in-Some-last_section.last.now c.in-Some-notes_in.notes.now (all c)

pub returns-clause-within : goal.returns-clause-within
returns-clause-within c =
    let p = places c.args.file.now c.in-Some.sections.now c.in-Some-last_section.last.now c.in-Some-notes_in.notes.now (all c) in
    (omega (arith, p.0, p.1), omega arith)
