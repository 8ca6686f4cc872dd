use Rattle.std.proofs.Common.{◌≡◌, ◌-◌, ◌∷◌, List, length, get_or, set, take, reverse, length-set, sym, ap, ◌∙◌}
use Rattle.wasm_values.specs.declared.number.Val.{Val}
use Rattle.wasm_store.specs.declared.config.Frame.{Frame}
use Rattle.wasm_store.specs.declared.config.Outcome.{Outcome}
use Rattle.wasm_store.specs.declared.config.Outcome.TheVariants.{Running}
use Rattle.wasm_store.specs.declared.store.Store.{Store}
use Rattle.wasm_store.specs.Seen.{seen_frame}
use Rattle.wasm_store.specs.Control.{given_to}
use Rattle.wasm_reduce.specs.words.Layers.{layers}
use Rattle.wasm_reduce.proofs.Stacks.{second_is, reverse-set_second, reverse-pop, two_or_more}
use Rattle.wasm_reduce.proofs.frames.pass_down.Goals as goal

give_all : (s : Store) (frames below rest : List Frame) (y z first : Frame) (o : Outcome) (results : List Val) → frames ≡ z ∷ rest → below ≡ first ∷ rest → y ≡ first → o ≡ Running → record { store = s; frames = seen_frame s.funcs s.instances z ∷ layers s rest; outcome = Running } ≡ given_to s results (seen_frame s.funcs s.instances y ∷ layers s rest) → record { store = s; frames = layers s frames; outcome = o } ≡ given_to s results (layers s below)
give_all s frames below rest y z first o results frames_are below_is same running given =
    rw (frames_are, below_is, running, ← same) given

pub returns-clause-ok : goal.returns-clause-ok
returns-clause-ok c = λ s top below h.
    let xs = c.args.frames.now.items in
    let y = c.index_mut.result.now in
    let z = c.give_to.new.frame in
    let long : c.len-waiting.result ≡ length xs = c.len-waiting.ensures ∙ c.args.frames.now.ok.0 in
    let block = two_or_more xs below top h (λ e. c.if-len-eq1.false (c.len.ensures ∙ c.args.frames.now.ok.0 ∙ e)) in
    let stack : reverse xs ≡ top ∷ block.0 ∷ block.1 = h ∙ ap (λ r. top ∷ r) block.2 in
    let waits : y ≡ block.0 =
    c.index_mut.ensures.value ∙ ap (λ n. get_or xs (n - 2) y) long ∙ second_is xs block.1 top block.0 y stack
    in
    let written : reverse (set xs (c.len-waiting.result - 2) z) ≡ top ∷ z ∷ block.1 =
    ap (λ n. reverse (set xs (n - 2) z)) long ∙ reverse-set_second xs block.1 top block.0 z stack
    in
    let len : c.args.frames.now.len ≡ length (set xs (c.len-waiting.result - 2) z) =
    c.args.frames.now.ok.0 ∙ sym (length-set xs (c.len-waiting.result - 2) z)
    in
    let popped : reverse c.pop-2.new.self.items ≡ z ∷ block.1 =
    ap reverse c.pop-2.ensures.rest
    ∙ ap (λ n. reverse (take (n - 1) (set xs (c.len-waiting.result - 2) z))) len
    ∙ reverse-pop (set xs (c.len-waiting.result - 2) z) (z ∷ block.1) top written
    in
    let given = c.in_ok-give_to.ensures.ok s (layers s block.1) in
    give_all s (reverse c.pop-2.new.self.items) below block.1 y z block.0 c.args.outcome.now (reverse c.args.results) popped block.2 waits c.requires.running given
