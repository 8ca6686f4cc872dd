use Rattle.std.proofs.Common.{ℕ, List, refl}
use Rattle.wasm_store.specs.declared.store.Extern.{Extern}
use Rattle.wasm_instantiate.specs.words.Finding.{Reaches}
use Rattle.wasm_instantiate.proofs.SearchLemmas.{none_more, none_at_all, fails, reaches_among, reaches_among_none}
use Rattle.wasm_instantiate.proofs.pool.some_reaches.Goals as goal

pub returns-then-reaches : goal.returns-then-reaches
returns-then-reaches c =
    let item = c.export-item.result in
    (λ t. reaches_among c.args.store.now c.args.exports.now c.loop-export.export-index item c.args.address c.loop-export-test.true c.export-item.is (c.reaches.ensures.0 c.if-reaches.true), λ h. refl)

pub loop-export-preserved : goal.loop-export-preserved
loop-export-preserved c =
    let P : List ℕ × Extern → Type 0 = λ x. Reaches c.args.store.now x.1 c.args.address in
    none_more P c.args.exports.now c.args.exports.now c.loop-export.export-index c.export-item.result c.loop-export.invariant refl c.loop-export-test.true c.export-item.is (fails c.reaches.result c.reaches.ensures.1 c.if-reaches.false)

pub returns : goal.returns
returns c =
    let P : List ℕ × Extern → Type 0 = λ x. Reaches c.args.store.now x.1 c.args.address in
    let none = none_at_all P c.args.exports.now c.args.exports.now c.loop-export.export-index c.loop-export.invariant refl c.loop-export-test.false in
    (λ t. cc, λ h. absurd (reaches_among_none c.args.store.now c.args.exports.now c.args.address none h))
