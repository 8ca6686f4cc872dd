use Rattle.std.proofs.Common.{◌≡◌, ℕ, List, refl}
use Rattle.wasm_store.specs.declared.store.Extern.{Extern}
use Rattle.wasm_instantiate.proofs.SearchLemmas.{none_more, none_at_all, fails, among, among_none}
use Rattle.wasm_instantiate.proofs.pool.is_among.Goals as goal

pub returns-then-is_same : goal.returns-then-is_same
returns-then-is_same c =
    let item = c.export-item.result in
    (λ t. among c.args.exports.now c.loop-export.export-index item c.args.wanted c.loop-export-test.true c.export-item.is (c.is_same.ensures.0 c.if-is_same.true), λ h. refl)

pub loop-export-preserved : goal.loop-export-preserved
loop-export-preserved c =
    let P : List ℕ × Extern → Type 0 = λ x. x.1 ≡ c.args.wanted in
    none_more P c.args.exports.now c.args.exports.now c.loop-export.export-index c.export-item.result c.loop-export.invariant refl c.loop-export-test.true c.export-item.is (fails c.is_same.result c.is_same.ensures.1 c.if-is_same.false)

pub returns : goal.returns
returns c =
    let P : List ℕ × Extern → Type 0 = λ x. x.1 ≡ c.args.wanted in
    let none = none_at_all P c.args.exports.now c.args.exports.now c.loop-export.export-index c.loop-export.invariant refl c.loop-export-test.false in
    (λ t. cc, λ h. absurd (among_none c.args.exports.now c.args.wanted none h))
