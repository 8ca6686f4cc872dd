use Rattle.std.proofs.Common.{[], ◌∷◌, ◌++◌, sym, ap, ◌∙◌}
use Rattle.std.proofs.lemmas.List.{append-nil}
use Rattle.std.proofs.lemmas.Result.{on_ok_weaker}
use Rattle.wasm_syntax.specs.declared.instr.Instr.TheVariants as instr
use Rattle.wasm_syntax.specs.declared.flat.Flat.TheVariants.{One, Block, Loop, If, Else, End}
use Rattle.wasm_syntax.specs.FlatForm.{flat_of, flat}
use Rattle.wasm_syntax.proofs.FlatLemmas.{flat_of-Block, flat_of-Loop, flat_of-If, flat_of-If_Else, flat_of-simple, is_simple-other}
use Rattle.wasm_write.specs.Encoding.{item_text, items_text}
use Rattle.wasm_write.proofs.Written.{wrote_item, wrote_all, wrote_side, two_sides}
use Rattle.wasm_write.proofs.instrs.+flatten.Goals as goal

pub write_instr-returns-in_ok-write_all-in-Block : goal.write_instr-returns-in_ok-write_all-in-Block
write_instr-returns-in_ok-write_all-in-Block t c =
    on_ok_weaker c.write_item-in-Block.result
    (λ e. wrote_item c.args.out.now _ _ (Block c.in-Block.ty ∷ flat c.in-Block.body) End
    (wrote_side c.args.out.now _ _ _ c.in-Block.body (Block c.in-Block.ty) c.in_ok-write_item-in-Block.ensures c.in_ok-write_all-in-Block.ensures c.as_slice.ensures) e ∙
    ap (λ xs. c.args.out.now ++ items_text xs) (sym (ap flat_of c.in-Block.is ∙ flat_of-Block c.in-Block.ty c.in-Block.body)))
    c.write_item-in-Block.ensures

pub write_instr-returns-in_ok-write_all-in-Loop : goal.write_instr-returns-in_ok-write_all-in-Loop
write_instr-returns-in_ok-write_all-in-Loop t c =
    on_ok_weaker c.write_item-in-Loop-2.result
    (λ e. wrote_item c.args.out.now _ _ (Loop c.in-Loop.ty ∷ flat c.in-Loop.body) End
    (wrote_side c.args.out.now _ _ _ c.in-Loop.body (Loop c.in-Loop.ty) c.in_ok-write_item-in-Loop.ensures c.in_ok-write_all-in-Loop.ensures c.as_slice-in-Loop.ensures) e ∙
    ap (λ xs. c.args.out.now ++ items_text xs) (sym (ap flat_of c.in-Loop.is ∙ flat_of-Loop c.in-Loop.ty c.in-Loop.body)))
    c.write_item-in-Loop-2.ensures

pub write_instr-returns-in-None : goal.write_instr-returns-in-None
write_instr-returns-in-None t c =
    on_ok_weaker c.write_item-in-None.result
    (λ e. wrote_item c.args.out.now _ _ (If c.in-If.ty ∷ flat c.in-If.first) End
    (wrote_side c.args.out.now _ _ _ c.in-If.first (If c.in-If.ty) c.in_ok-write_item-in-If.ensures c.in_ok-write_all-in-If.ensures c.as_slice-in-If.ensures) e ∙
    ap (λ xs. c.args.out.now ++ items_text xs)
    (sym (ap flat_of c.in-If.is ∙ ap (λ o. flat_of (instr.If c.in-If.ty c.in-If.first o)) c.in-None.is ∙ flat_of-If c.in-If.ty c.in-If.first)))
    c.write_item-in-None.ensures

pub write_instr-returns-in_ok-write_all-in-Some : goal.write_instr-returns-in_ok-write_all-in-Some
write_instr-returns-in_ok-write_all-in-Some t c =
    let first = wrote_side c.args.out.now _ _ _ c.in-If.first (If c.in-If.ty) c.in_ok-write_item-in-If.ensures c.in_ok-write_all-in-If.ensures c.as_slice-in-If.ensures in
    let turned = wrote_item c.args.out.now _ _ (If c.in-If.ty ∷ flat c.in-If.first) Else first c.in_ok-write_item-in-Some.ensures in
    let second = wrote_all c.args.out.now _ _ ((If c.in-If.ty ∷ flat c.in-If.first) ++ Else ∷ []) _ c.in-Some.other turned c.in_ok-write_all-in-Some.ensures c.as_slice-in-Some.ensures in
    on_ok_weaker c.write_item-in-Some-2.result
    (λ e. wrote_item c.args.out.now _ _ (((If c.in-If.ty ∷ flat c.in-If.first) ++ Else ∷ []) ++ flat c.in-Some.other) End second e ∙
    ap (λ xs. c.args.out.now ++ items_text xs)
    (two_sides (If c.in-If.ty) (flat c.in-If.first) (flat c.in-Some.other) ∙
    sym (ap flat_of c.in-If.is ∙ ap (λ o. flat_of (instr.If c.in-If.ty c.in-If.first o)) c.in-Some.is ∙ flat_of-If_Else c.in-If.ty c.in-If.first c.in-Some.other)))
    c.write_item-in-Some-2.ensures

pub write_instr-returns-in_default : goal.write_instr-returns-in_default
write_instr-returns-in_default t c =
    let simple = is_simple-other c.args.instr.now c.in_default.not-Block c.in_default.not-Loop c.in_default.not-If in
    on_ok_weaker c.write_one.result
    (λ e. e ∙ ap (λ i. c.args.out.now ++ item_text (One i)) c.simple.ensures ∙ ap (λ bs. c.args.out.now ++ bs) (sym (ap items_text (flat_of-simple c.args.instr.now simple) ∙ append-nil (item_text (One c.args.instr.now)))))
    c.write_one.ensures
