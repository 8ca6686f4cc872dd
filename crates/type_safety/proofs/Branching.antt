-- Branches keep typings.
use Rattle.std.proofs.Common.{◌≡◌, ℕ, zero, suc, ◌-◌, List, [], ◌∷◌, ◌++◌, Option, Some, None, All, length, take, drop, slice_get, sym, ap, subst, ◌∙◌, arith, append_assoc, length-append}
use Rattle.std.proofs.lemmas.List.{map-append, length-map, take_at, drop_at}
use Rattle.std.proofs.lemmas.List.Elements.{All-append, All-take, All-drop}
use Rattle.wasm_values.specs.declared.number.Val.{Val}
use Rattle.wasm_values.specs.Operators.{type_of}
use Rattle.wasm_syntax.specs.Trees.{Sequence}
use Rattle.wasm_typing.specs.Typing.{Types}
use Rattle.wasm_typing.specs.Valid.{ValInRange}
use Rattle.wasm_store.specs.declared.store.FuncInst.TheVariants.{Code}
use Rattle.wasm_store.specs.declared.store.Store.{Store}
use Rattle.wasm_store.specs.Configuration.{OpenBlock, Activation, Layer, Configuration, going}
use Rattle.wasm_store.specs.Control.{Branches, jumped, kept}
use Rattle.type_safety.specs.Shapes.{types, shape_of}
use Rattle.type_safety.specs.Stores.{StoreTyped}
use Rattle.type_safety.specs.Frames.{CodeTyped, AgainTyped, BlockTyped, BlocksTyped, FrameTyped, LayersTyped}
use Rattle.type_safety.specs.Typed.{Typed}
use Rattle.type_safety.proofs.Lists.{of_nil}
use Rattle.type_safety.proofs.Frames.{goes_on, going_typed, leaves_typed}

-- What a branch keeps of operands in three parts.
kept-is : (l : OpenBlock) (operands top middle under : List Val) → operands ≡ top ++ (middle ++ under) → length top ≡ l.arity → length under ≡ l.height → kept l operands ≡ top ++ under
kept-is l operands top middle under split arity height =
    let long : length (top ++ middle) ≡ length operands - l.height =
    omega (arith, ap length split, length-append top (middle ++ under), length-append middle under, length-append top middle, height)
    in
    let first : take l.arity operands ≡ top = ap (take l.arity) split ∙ take_at top (middle ++ under) l.arity arity in
    let last : drop (length operands - l.height) operands ≡ under =
    ap (drop (length operands - l.height)) (split ∙ sym (append_assoc top middle under))
    ∙ drop_at (top ++ middle) under (length operands - l.height) long
    in
    ap (λ x. x ++ drop (length operands - l.height) operands) first ∙ ap (λ x. top ++ x) last

kept_in_range : (l : OpenBlock) (operands : List Val) → All ValInRange operands → All ValInRange (kept l operands)
kept_in_range l operands ok =
    All-append ValInRange (take l.arity operands) (drop (length operands - l.height) operands) (All-take ValInRange l.arity operands ok) (All-drop ValInRange (length operands - l.height) operands ok)

module _ (s : Store) (store : StoreTyped s) (f : Activation) (results : Types) (t : FrameTyped (shape_of s) f [] results) (below : List Layer) (layers : LayersTyped (shape_of s) below results) (d : Configuration) where
  module _ (operands : List Val) (code : Sequence) (ok : All ValInRange operands) where
    -- A branch to this block, with what it keeps.
    jump_typed : (l : OpenBlock) (ls : List OpenBlock) (top middle under : List Val) (labels : List Types) (wanted : Types) (b : BlockTyped t.context l under labels wanted (BlocksTyped t.context ls)) → operands ≡ top ++ (middle ++ under) → types top ≡ b.taken → (again : Option Sequence) → AgainTyped t.context labels again b.taken wanted → d ≡ going s (jumped (record f { operands = operands; rest = code }) l ls again) below → Typed d
    jump_typed l ls top middle under labels wanted b split is None same h =
        let long : length top ≡ l.arity = sym (length-map top type_of) ∙ ap length is ∙ b.arity in
        let keeps : kept l operands ≡ top ++ (b.own ++ b.under) =
        kept-is l operands top middle under split long b.height ∙ ap (λ x. top ++ x) b.split
        in
        let ins : types (top ++ b.own) ≡ wanted ++ types b.own = map-append type_of top b.own ∙ ap (λ x. x ++ types b.own) (is ∙ same) in
        subst Typed (sym h) (
        going_typed s store (record f { operands = kept l operands; labels = ls; rest = l.rest }) below results (
        goes_on (shape_of s) f [] results t f.locals (kept l operands) ls l.rest (top ++ b.own) b.under b.outer b.next [] t.locals (kept_in_range l operands ok) (keeps ∙ sym (append_assoc top b.own b.under)) (
        subst (λ (x : Types). CodeTyped t.context b.outer l.rest x b.next) (sym ins) b.rest
        ) b.around_it
        ) layers
        )
    jump_typed l ls top middle under labels wanted b split is (Some body) same h =
        let long : length top ≡ l.arity = sym (length-map top type_of) ∙ ap length is ∙ b.arity in
        let keeps : kept l operands ≡ top ++ under = kept-is l operands top middle under split long b.height in
        let empty : top ≡ [] = of_nil type_of top (is ∙ same.0) in
        subst Typed (sym h) (
        going_typed s store (record f { operands = kept l operands; labels = l ∷ ls; rest = body }) below results (
        goes_on (shape_of s) f [] results t f.locals (kept l operands) (l ∷ ls) body [] under labels wanted [] t.locals (kept_in_range l operands ok) (keeps ∙ ap (λ x. x ++ under) empty) same.1 b
        ) layers
        )

    -- A branch out of so many blocks, with what it keeps.
    pub branch_typed : (blocks : List OpenBlock) (top middle under : List Val) (labels : List Types) (wanted : Types) (k : ℕ) (ts : Types) → operands ≡ top ++ (middle ++ under) → types top ≡ ts → slice_get labels k ≡ Some ts → BlocksTyped t.context blocks under labels wanted → Branches s (record f { operands = operands; rest = code }) below d blocks k → Typed d
    branch_typed [] top middle under labels wanted zero ts split is at b h =
        let all : slice_get (t.context.results ∷ []) 0 ≡ Some ts = ap (λ x. slice_get x 0) (sym b.1) ∙ at in
        let same : t.context.results ≡ ts = cc all in
        leaves_typed s store (record f { operands = operands; rest = code }) below d results (Code t.ty f.instance t.code) top (middle ++ under) t.func_there t.results_are ok split (is ∙ sym same ∙ t.context_results) layers h
    branch_typed [] top middle under labels wanted (suc k) ts split is at b h = elim h [ ]
    branch_typed (l ∷ ls) top middle under labels wanted zero ts split is at b h =
        let all : slice_get (b.taken ∷ b.outer) 0 ≡ Some ts = ap (λ x. slice_get x 0) (sym b.labels_are) ∙ at in
        let same : b.taken ≡ ts = cc all in
        jump_typed l ls top middle under labels wanted b split (is ∙ sym same) l.again b.again h.1
    branch_typed (l ∷ ls) top middle under labels wanted (suc k) ts split is at b h =
        let deeper : slice_get b.outer k ≡ Some ts = ap (λ x. slice_get x (suc k)) (sym b.labels_are) ∙ at in
        branch_typed ls top (middle ++ b.own) b.under b.outer b.next k ts (
        split ∙ ap (λ x. top ++ (middle ++ x)) b.split ∙ ap (λ x. top ++ x) (sym (append_assoc middle b.own b.under))
        ) is deeper b.around_it h
