use Rattle.std.proofs.Common.{◌≡◌, ◌-◌, length, slice_range, drop, arith}
use Rattle.std.proofs.lemmas.List.{length-take, length-drop}
use Rattle.binary_grammar.specs.Numbers.{SpellsU32}
use Rattle.binary_grammar.specs.words.NumberReading.{u32_at}
use Rattle.binary_grammar.proofs.NumberLaws.{reads_placed, spelled_placed, ends_placed, reads_u32}
use Rattle.binary_numbers.proofs.leb.read_u32.Goals as goal

pub returns-clause-reads : goal.returns-clause-reads
returns-clause-reads c =
    let text = slice_range c.args.bytes.now c.args.from c.args.to in
    let len : length text ≡ c.args.to - c.args.from = omega (arith, length-take (c.args.to - c.args.from) (drop c.args.from c.args.bytes.now), length-drop c.args.from c.args.bytes.now, c.requires.within, c.requires.ordered) in
    rw c.u32_between.ensures (reads_placed u32_at SpellsU32 5 reads_u32 text c.args.from c.args.to c.requires.ordered len)

pub returns-clause-spelled : goal.returns-clause-spelled
returns-clause-spelled c =
    let text = slice_range c.args.bytes.now c.args.from c.args.to in
    let len : length text ≡ c.args.to - c.args.from = omega (arith, length-take (c.args.to - c.args.from) (drop c.args.from c.args.bytes.now), length-drop c.args.from c.args.bytes.now, c.requires.within, c.requires.ordered) in
    λ front rest x p s. rw c.u32_between.ensures (spelled_placed u32_at SpellsU32 5 reads_u32 text c.args.from c.args.to c.requires.ordered len front rest x p s)

pub returns-clause-ends : goal.returns-clause-ends
returns-clause-ends c = λ h. rw c.u32_between.ensures (ends_placed u32_at SpellsU32 5 reads_u32 (slice_range c.args.bytes.now c.args.from c.args.to) c.args.to h)
