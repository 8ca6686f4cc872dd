use Rattle.std.proofs.Common.{sym, ap, ◌∙◌, List, length, ℕ}
use Rattle.wasm_syntax.specs.declared.module.Module.{Module}
use Rattle.wasm_syntax.specs.declared.module.Segment.{Segment}
use Rattle.initial_memory.specs.words.Windows.{window_after}
use Rattle.initial_memory.proofs.Writes.{all_back}
use Rattle.initial_memory.proofs.bytes.bytes_at.Goals as goal

pub returns : goal.returns
returns c =
    all_back c.args.setting.now c.args.at c.args.count c.in_ok-window.window.len c.as_mut_slice.result.now c.in_ok-window.window.items c.write_segments.new.window
    (sym c.as_mut_slice.ensures.len ∙ ap (λ (xs : List ℕ). length xs) c.as_mut_slice.ensures.value) (c.in_ok-window.ensures.items_if_clones_equal (λ y e. e)) c.as_mut_slice.ensures.value
    (c.write_segments.ensures ∙ ap (λ (segs : List Segment). window_after segs c.args.at c.as_mut_slice.result.now) (c.as_slice.ensures ∙ ap (λ (m : Module). m.segments) c.module.ensures.same))
