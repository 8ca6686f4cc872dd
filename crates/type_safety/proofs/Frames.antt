-- How a configuration goes on, with its typing.
use Rattle.std.proofs.Common.{◌≡◌, List, [], ◌∷◌, ◌++◌, Some, All, length, take, reverse, slice_get, refl, sym, ap, subst, ◌∙◌, append_assoc}
use Rattle.std.proofs.lemmas.List.{map-append, length-map, length-reverse, take_at}
use Rattle.std.proofs.lemmas.List.Elements.{All-append, All-take}
use Rattle.wasm_values.specs.declared.number.Val.{Val}
use Rattle.wasm_values.specs.Operators.{type_of}
use Rattle.wasm_syntax.specs.Trees.{Sequence}
use Rattle.wasm_typing.specs.Typing.{Types}
use Rattle.wasm_typing.specs.Valid.{ValInRange}
use Rattle.wasm_store.specs.declared.store.FuncInst.{FuncInst}
use Rattle.wasm_store.specs.declared.store.Store.{Store}
use Rattle.wasm_store.specs.Configuration.{OpenBlock, Activation, Layer, OfCode, OfHost, Configuration, going, trapped}
use Rattle.wasm_store.specs.Control.{type_of_inst, given_to, Leaves}
use Rattle.type_safety.specs.Shapes.{types, HaveTypes, Shape, shape_of}
use Rattle.type_safety.specs.Stores.{StoreTyped}
use Rattle.type_safety.specs.Frames.{CodeTyped, BlocksTyped, FrameTyped, HostTyped, LayersTyped}
use Rattle.type_safety.specs.Typed.{Typed}
use Rattle.type_safety.proofs.Lists.{All-reverse}

-- A typed frame with other locals, operands, open blocks and code.
pub goes_on : (s : Shape) (f : Activation) (given results : Types) (t : FrameTyped s f given results) (locals operands : List Val) (labels : List OpenBlock) (rest : Sequence) (own under : List Val) (ls : List Types) (wanted given' : Types) → HaveTypes locals t.context.locals → All ValInRange operands → operands ≡ own ++ under → CodeTyped t.context ls rest (given' ++ types own) wanted → BlocksTyped t.context labels under ls wanted → FrameTyped s (record f { locals = locals; operands = operands; labels = labels; rest = rest }) given' results
goes_on s f given results t locals operands labels rest own under ls wanted given' have ranges split typed blocks =
    record {
      ty = t.ty;
      code = t.code;
      func_there = t.func_there;
      results_are = t.results_are;
      inst = t.inst;
      inst_there = t.inst_there;
      context = t.context;
      context_is = t.context_is;
      context_results = t.context_results;
      locals = have;
      ranges = ranges;
      own = own;
      under = under;
      split = split;
      labels = ls;
      wanted = wanted;
      typed = typed;
      blocks = blocks;
    }

module _ (s : Store) (store : StoreTyped s) where
  pub going_typed : (f : Activation) (below : List Layer) (results : Types) → FrameTyped (shape_of s) f [] results → LayersTyped (shape_of s) below results → Typed (going s f below)
  going_typed f below results t ls = record { store = store; outcome = tt; frames = (results, t, ls) }

  pub trapped_typed : Typed (trapped s)
  trapped_typed = record { store = store; outcome = refl; frames = tt }

  pub given_typed : (values : List Val) (below : List Layer) (results : Types) → types values ≡ results → All ValInRange values → LayersTyped (shape_of s) below results → Typed (given_to s values below)
  given_typed values [] results is ok ls = record { store = store; outcome = (refl, All-reverse ValInRange values ok); frames = tt }
  given_typed values (OfCode g ∷ below) results is ok ls =
      let t = ls.1 in
      going_typed (record g { operands = values ++ g.operands }) below ls.0 (
      goes_on (shape_of s) g results ls.0 t g.locals (values ++ g.operands) g.labels g.rest (values ++ t.own) t.under t.labels t.wanted [] t.locals (
      All-append ValInRange values g.operands ok t.ranges
      ) (ap (λ x. values ++ x) t.split ∙ sym (append_assoc values t.own t.under)) (
      subst (λ (ins : Types). CodeTyped t.context t.labels g.rest ins t.wanted) (sym (map-append type_of values t.own ∙ ap (λ x. x ++ types t.own) is)) t.typed
      ) t.blocks
      ) ls.2
  given_typed values (OfHost func args given ∷ below) results is ok ls =
      let t = ls.1 in
      let host : HostTyped (shape_of s) func args (reverse values) ls.0 =
      record { ty = t.ty; func_there = t.func_there; results_are = t.results_are; arguments = t.arguments; ranges = All-reverse ValInRange values ok }
      in
      record { store = store; outcome = tt; frames = (ls.0, host, ls.2) }

  pub leaves_typed : (f : Activation) (below : List Layer) (d : Configuration) (results : Types) (inst : FuncInst) (kept rest : List Val) → slice_get s.funcs f.func ≡ Some inst → results ≡ reverse (type_of_inst inst).results → All ValInRange f.operands → f.operands ≡ kept ++ rest → types kept ≡ results → LayersTyped (shape_of s) below results → Leaves s f below d → Typed d
  leaves_typed f below d results inst kept rest there results_are ok split is ls h =
      let same : h.0 ≡ inst = cc (there, h.1) in
      let n = length (type_of_inst h.0).results in
      let count : length kept ≡ n =
      sym (length-map kept type_of) ∙ ap length (is ∙ results_are) ∙ length-reverse (type_of_inst inst).results ∙ ap (λ i. length (type_of_inst i).results) (sym same)
      in
      let taken : take n f.operands ≡ kept = ap (take n) split ∙ take_at kept rest n count in
      subst Typed (sym h.3) (given_typed (take n f.operands) below results (ap types taken ∙ is) (All-take ValInRange n f.operands ok) ls)
