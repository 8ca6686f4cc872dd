use Rattle.std.proofs.Common.{ℕ, List, sym, ap, subst, ◌∙◌}
use Rattle.binary_grammar.specs.Bounds.{the_bounds}
use Rattle.binary_grammar.specs.ModuleGrammar.{Spells}
use Rattle.binary_grammar.specs.words.SectionReading.{module_at}
use Rattle.wasm_write.proofs.ModuleTexts.{spells_encoded, reads_encoded}
use Rattle.wasm_write.proofs.encoder.encode.Goals as goal

pub returns-clause-spelled : goal.returns-clause-spelled
returns-clause-spelled c = λ w.
    let s = spells_encoded c.args.module.now w in
    (s.0, subst (λ (bytes : List ℕ). Spells bytes c.args.module.now s.0) (sym c.in_ok-write_module.ensures) s.1)

pub returns-clause-read : goal.returns-clause-read
returns-clause-read c = λ w.
    let s = reads_encoded c.args.module.now w in
    (s.0, ap (module_at the_bounds) c.in_ok-write_module.ensures ∙ s.1)
