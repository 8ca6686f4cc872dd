-- The steps that are left of frames over others fall with each step.
use Rattle.std.proofs.Common.{◌≡◌, ℕ, zero, suc, ◌+◌, ◌<◌, ◌≤◌, max, Bool, List, [], ◌∷◌, ◌++◌, Some, None, ◌⊎◌, inl, inr, length, take, drop, reverse, slice_get, refl, sym, ap, subst, ◌∙◌, arith}
use Rattle.std.specs.Prelude.{◌==◌, unwrap_or}
use Rattle.wasm_values.specs.declared.number.Val.{Val}
use Rattle.wasm_values.specs.Operators.{num_operands}
use Rattle.wasm_syntax.specs.declared.instr.Plain.{Plain}
use Rattle.wasm_syntax.specs.declared.instr.Plain.TheVariants.{Unreachable, Nop, Return, Drop, Select, MemorySize, MemoryGrow}
use Rattle.wasm_syntax.specs.declared.module.FuncType.{FuncType}
use Rattle.wasm_syntax.specs.declared.module.Func.{Func}
use Rattle.wasm_syntax.specs.declared.module.Module.{Module}
use Rattle.wasm_syntax.specs.Trees as tree
use Rattle.wasm_syntax.specs.Trees.{Instruction, Sequence, Empty, Then, IfElse, sequence_of}
use Rattle.wasm_store.specs.declared.store.FuncInst.{FuncInst}
use Rattle.wasm_store.specs.declared.store.FuncInst.TheVariants.{Code}
use Rattle.wasm_store.specs.declared.store.Instance.{Instance}
use Rattle.wasm_store.specs.declared.store.Store.{Store}
use Rattle.wasm_store.specs.declared.config.Outcome.{Outcome}
use Rattle.wasm_store.specs.declared.config.Outcome.TheVariants.{Running, Done, Trapped}
use Rattle.wasm_store.specs.Configuration.{OpenBlock, Activation, Layer, OfCode, Configuration, going, with_operands, instance_of, address_in}
use Rattle.wasm_store.specs.Seen.{func_in}
use Rattle.wasm_store.specs.Control.{type_of_inst, given_to, count_of, opened, chosen, Leaves, Closes, Branches, BranchesIf, jumped, kept, entered, arguments, without_arguments, EntersInst, CallStep}
use Rattle.wasm_store.specs.Step.{PlainStep, InstructionStep, Moves, TopMoves, Step, CanStep}
use Rattle.wasm_store.proofs.StepLaws.{step_keeps}
use Rattle.type_safety.specs.Typed.{OutcomeTyped, Typed}
use Rattle.type_safety.specs.Safety.{HasCodeOnTop}
use Rattle.type_safety.proofs.Lists.{same_some}
use Rattle.type_safety.proofs.Progressing.{progress}
use Rattle.type_safety.proofs.Preserving.{preservation}
use Rattle.step_bound.specs.Bounds.{imported_funcs, InstructionBound, SequenceBound, nothing, FunctionBound}
use Rattle.step_bound.specs.Runs.{IsInstanceOf, HasEntered, HasLeft, AreSteps, LeavesIn, BoundsHold, RunsGoOn, last_of}
use Rattle.step_bound.proofs.Parts.{then_parts, function_parts, call_parts, block_part, loop_none, indirect_none, if_part, if_else_parts, single_is}
use Rattle.step_bound.proofs.Staying.{Stays, traps, stays, at_trap, at_going, at_drop, at_select, at_num, at_local_get, at_local_set, at_local_tee, at_global_get, at_global_set, at_load, at_store, at_size, at_grow}

-- ---- what is left

-- Open blocks that no loop began have a bound: each one's rest, and 1 for its end.
abbrev LabelsBound : Module → List OpenBlock → ℕ → Type 0
LabelsBound m [] n = n ≡ 0
LabelsBound m (l ∷ ls) n = (a b : ℕ) × (l.again ≡ None) × SequenceBound m l.rest a × LabelsBound m ls b × (n ≡ 1 + a + b)

-- A frame of this instance has a bound: the rest of its code, its open blocks, and 1 for its end.
record FrameBound (m : Module) (address : ℕ) (f : Activation) (n : ℕ) : Type 0 where
  instance : f.instance ≡ address
  rest : ℕ
  rest_bound : SequenceBound m f.rest rest
  labels : ℕ
  labels_bound : LabelsBound m f.labels labels
  is : n ≡ rest + labels + 1

-- Frames of this instance have a bound, which is the sum.
abbrev FramesBound : Module → (address : ℕ) → List Activation → ℕ → Type 0
FramesBound m i [] n = n ≡ 0
FramesBound m i (f ∷ fs) n = (a b : ℕ) × FrameBound m i f a × FramesBound m i fs b × (n ≡ a + b)

-- Frames of code over others.
abbrev over : List Activation → List Layer → List Layer
over [] below = below
over (f ∷ fs) below = OfCode f ∷ over fs below

-- After a step the frames have left, or there is a trap, or the run goes on in frames over the same others, whose bound is
-- less.
data After (m : Module) (i : ℕ) (below : List Layer) (n : ℕ) (d : Configuration) : Type 0 where
  left : HasLeft below d → After m i below n d
  trap : d.outcome ≡ Trapped → After m i below n d
  on : (f : Activation) (fs : List Activation) (p : ℕ) → d.frames ≡ over (f ∷ fs) below → FramesBound m i (f ∷ fs) p → p < n → After m i below n d

-- ---- frames

with_values : (m : Module) (i : ℕ) (f : Activation) (n : ℕ) (locals operands : List Val) → FrameBound m i f n → FrameBound m i (record f { locals = locals; operands = operands }) n
with_values m i f n locals operands x =
    record { instance = x.instance; rest = x.rest; rest_bound = x.rest_bound; labels = x.labels; labels_bound = x.labels_bound; is = x.is }

-- A frame that opens a block.
opened_bound : (m : Module) (i : ℕ) (f : Activation) (n : ℕ) → FrameBound m i f n → (operands : List Val) (arity : ℕ) (body : Sequence) (p : ℕ) → SequenceBound m body p → FrameBound m i (opened (with_operands f operands) arity None body f.rest) (p + 1 + n)
opened_bound m i f n x operands arity body p y =
    record {
      instance = x.instance;
      rest = p;
      rest_bound = y;
      labels = 1 + x.rest + x.labels;
      labels_bound = (x.rest, x.labels, refl, x.rest_bound, x.labels_bound, refl);
      is = omega (arith, x.is);
    }

-- The side that is chosen has a bound that is at most the greater of both.
record ChosenBound (m : Module) (code : Sequence) (most : ℕ) : Type 0 where
  bound : ℕ
  bounded : SequenceBound m code bound
  least : bound ≤ most

chosen_bound : (m : Module) (c : ℕ) (first second : Sequence) (n p : ℕ) → SequenceBound m first n → SequenceBound m second p → ChosenBound m (chosen c first second) (max n p)
chosen_bound m zero first second n p x y = record { bound = p; bounded = y; least = omega arith }
chosen_bound m (suc c) first second n p x y = record { bound = n; bounded = x; least = omega arith }

module _ (m : Module) (i : ℕ) (below : List Layer) (s : Store) (d : Configuration) where
  returns : (n : ℕ) (fs : List Activation) (b : ℕ) → FramesBound m i fs b → (results : List Val) → d ≡ given_to s results (over fs below) → b < n → After m i below n d
  returns n [] b x results e less = left (s, results, e)
  returns n (g ∷ gs) b x results e less =
      on (record g { locals = g.locals; operands = results ++ g.operands }) gs b (ap (λ (c : Configuration). c.frames) e)
      (x.0, x.1, with_values m i g x.0 g.locals (results ++ g.operands) x.2, x.3, x.4) less

  module _ (of : IsInstanceOf m s i) (fs : List Activation) (b : ℕ) (others : FramesBound m i fs b) (n : ℕ) where
    goes : (a : ℕ) (f : Activation) (t : Store) → d ≡ going t f (over fs below) → FrameBound m i f a → a + b < n → After m i below n d
    goes a f t e x less = on f fs (a + b) (ap (λ (c : Configuration). c.frames) e) (a, b, x, others, refl) less

    leaves : (f : Activation) → Leaves s f (over fs below) d → b < n → After m i below n d
    leaves f h less = returns n fs b others (take (length (type_of_inst h.0).results) f.operands) h.3 less

    branches : (f : Activation) (ls : List OpenBlock) (k c : ℕ) → f.instance ≡ i → LabelsBound m ls c → c + b < n → Branches s f (over fs below) d ls k → After m i below n d
    branches f [] zero c at x less h = leaves f h (omega arith)
    branches f [] (suc k) c at x less h = absurd h
    branches f (l ∷ ls) zero c at x less h =
        goes c (record f { operands = kept l f.operands; labels = ls; rest = l.rest }) s
        (h.1 ∙ ap (λ again. going s (jumped f l ls again) (over fs below)) x.2)
        (record { instance = at; rest = x.0; rest_bound = x.3; labels = x.1; labels_bound = x.4; is = omega (arith, x.5) }) less
    branches f (l ∷ ls) (suc k) c at x less h = branches f ls k x.1 at x.4 (omega (arith, x.5)) h

    closes : (f : Activation) (ls : List OpenBlock) (c : ℕ) → f.instance ≡ i → LabelsBound m ls c → c + b < n → Closes s f (over fs below) d ls → After m i below n d
    closes f [] c at x less h = leaves f h (omega arith)
    closes f (l ∷ ls) c at x less h =
        goes c (record f { labels = ls; rest = l.rest }) s h
        (record { instance = at; rest = x.0; rest_bound = x.3; labels = x.1; labels_bound = x.4; is = omega (arith, x.5) }) less

    -- The frame's rest is the code after the instruction.
    module _ (f : Activation) (a : ℕ) (x : FrameBound m i f a) where
      same_frame : a + b < n → Stays f (over fs below) d → After m i below n d
      same_frame less (traps e) = trap e
      same_frame less (stays t locals operands e) =
          goes a (record f { locals = locals; operands = operands }) t e (with_values m i f a locals operands x) less

      branches_if : (operands : List Val) (k c : ℕ) → a + b < n → BranchesIf s (with_operands f operands) (over fs below) d k c → After m i below n d
      branches_if operands k zero less h = same_frame less (at_going s f (over fs below) d operands h)
      branches_if operands k (suc c) less h =
          branches (with_operands f operands) f.labels k x.labels x.instance x.labels_bound (omega (arith, x.is)) h

      by_plain : (grows : Bool) (op : Plain) → a + b < n → PlainStep grows s f (over fs below) d op → After m i below n d
      by_plain grows Unreachable less h = same_frame less (at_trap s f (over fs below) d h)
      by_plain grows Nop less h = same_frame less (at_going s f (over fs below) d f.operands h)
      by_plain grows Return less h = leaves f h (omega arith)
      by_plain grows Drop less h = same_frame less (at_drop s f (over fs below) d h)
      by_plain grows Select less h = same_frame less (at_select s f (over fs below) d h)
      by_plain grows MemorySize less h = same_frame less (at_size s f (over fs below) d h)
      by_plain grows MemoryGrow less h = same_frame less (at_grow s f (over fs below) d grows h)

      opens : (arity : ℕ) (operands : List Val) (body : Sequence) (p : ℕ) → SequenceBound m body p → p + 1 + a + b < n → d ≡ going s (opened (with_operands f operands) arity None body f.rest) (over fs below) → After m i below n d
      opens arity operands body p y less h =
          goes (p + 1 + a) (opened (with_operands f operands) arity None body f.rest) s h (opened_bound m i f a x operands arity body p y) less

      chooses : (arity : ℕ) (operands : List Val) (c : ℕ) (first second : Sequence) (p q : ℕ) → SequenceBound m first p → SequenceBound m second q → max p q + 1 + a + b < n → d ≡ going s (opened (with_operands f operands) arity None (chosen c first second) f.rest) (over fs below) → After m i below n d
      chooses arity operands c first second p q y z less h =
          let w = chosen_bound m c first second p q y z in
          opens arity operands (chosen c first second) w.bound w.bounded (omega (arith, w.least)) h

      enters : (k : ℕ) (p : ℕ) → FunctionBound m k p → (address : ℕ) (inst : FuncInst) (ty : FuncType) → inst ≡ Code ty i k → p + a + b < n → EntersInst s f (over fs below) d address inst → After m i below n d
      enters k p y address inst ty is less h =
          let e : EntersInst s f (over fs below) d address (Code ty i k) = subst (EntersInst s f (over fs below) d address) is h in
          let parts = function_parts y in
          let found : func_in (Some of.inst) k ≡ Some e.0 = ap (λ o. func_in o k) (sym of.there) ∙ e.1 in
          let mine : slice_get of.inst.code k ≡ Some parts.func = ap (λ l. slice_get l k) of.code ∙ parts.there in
          let same : parts.func ≡ e.0 = same_some (slice_get of.inst.code k) parts.func e.0 mine found in
          let body : SequenceBound m (sequence_of e.0.body) parts.body = subst (λ (fn : Func). SequenceBound m (sequence_of fn.body) parts.body) same parts.body_bound in
          let callee : FrameBound m i (entered i address (arguments ty f) e.0) p =
          record { instance = refl; rest = parts.body; rest_bound = body; labels = 0; labels_bound = refl; is = omega (arith, parts.is) }
          in
          let caller = with_values m i f a f.locals (drop (length ty.params) f.operands) x in
          on (entered i address (arguments ty f) e.0) (without_arguments ty f ∷ fs) (p + (a + b)) (ap (λ (c : Configuration). c.frames) e.3)
          (p, a + b, callee, (a, b, caller, others, refl), refl) (omega arith)

      calls : (y k p : ℕ) → y ≡ imported_funcs m + k → FunctionBound m k p → p + a + b < n → CallStep s f (over fs below) d y → After m i below n d
      calls y k p is z less h =
          let inst : instance_of s f ≡ Some of.inst = ap (slice_get s.instances) x.instance ∙ of.there in
          let at : slice_get of.inst.funcs (imported_funcs m + k) ≡ Some h.0 =
          ap (slice_get of.inst.funcs) (sym is) ∙ sym (ap (λ o. address_in (λ (j : Instance). j.funcs) o y) inst) ∙ h.1
          in
          let own = of.funcs k h.0 at in
          let same : h.2.0 ≡ Code own.0 i k = same_some (slice_get s.funcs h.0) h.2.0 (Code own.0 i k) h.2.1 own.1 in
          enters k p z h.0 h.2.0 own.0 same less h.2.2

      by_instruction : (grows : Bool) (j : Instruction) (y : ℕ) → InstructionBound m j y → y + a + b ≤ n → InstructionStep grows s f (over fs below) d j → After m i below n d
      by_instruction grows (tree.Plain op) y z less h = by_plain grows op (omega (arith, single_is refl z)) h
      by_instruction grows (tree.Num op) y z less h = same_frame (omega (arith, single_is refl z)) (at_num s f (over fs below) d op (num_operands op == 1) h)
      by_instruction grows (tree.Const value) y z less h = same_frame (omega (arith, single_is refl z)) (at_going s f (over fs below) d (value ∷ f.operands) h)
      by_instruction grows (tree.LocalGet k) y z less h = same_frame (omega (arith, single_is refl z)) (at_local_get s f (over fs below) d k h)
      by_instruction grows (tree.LocalSet k) y z less h = same_frame (omega (arith, single_is refl z)) (at_local_set s f (over fs below) d k h)
      by_instruction grows (tree.LocalTee k) y z less h = same_frame (omega (arith, single_is refl z)) (at_local_tee s f (over fs below) d k h)
      by_instruction grows (tree.GlobalGet k) y z less h = same_frame (omega (arith, single_is refl z)) (at_global_get s f (over fs below) d k h)
      by_instruction grows (tree.GlobalSet k) y z less h = same_frame (omega (arith, single_is refl z)) (at_global_set s f (over fs below) d k h)
      by_instruction grows (tree.Load op align offset) y z less h = same_frame (omega (arith, single_is refl z)) (at_load s f (over fs below) d op offset h)
      by_instruction grows (tree.Store op align offset) y z less h = same_frame (omega (arith, single_is refl z)) (at_store s f (over fs below) d op offset h)
      by_instruction grows (tree.Block ty body) y z less h =
          let p = block_part z in opens (count_of ty) f.operands body p.0 p.1 (omega (arith, p.2)) h
      by_instruction grows (tree.Loop ty body) y z less h = absurd (loop_none z)
      by_instruction grows (tree.If ty first) y z less h =
          let p = if_part z in chooses (count_of ty) h.1 h.0 first Empty p.0 0 p.1 nothing (omega (arith, p.2)) h.3
      by_instruction grows (IfElse ty first second) y z less h =
          let p = if_else_parts z in chooses (count_of ty) h.1 h.0 first second p.0 p.1 p.2 p.3 (omega (arith, p.4)) h.3
      by_instruction grows (tree.Br k) y z less h =
          branches f f.labels k x.labels x.instance x.labels_bound (omega (arith, x.is, single_is refl z)) h
      by_instruction grows (tree.BrIf k) y z less h = branches_if h.1 k h.0 (omega (arith, single_is refl z)) h.3
      by_instruction grows (tree.BrTable ks k) y z less h =
          branches (with_operands f h.1) f.labels (unwrap_or (slice_get ks h.0) k) x.labels x.instance x.labels_bound (omega (arith, x.is, single_is refl z)) h.3
      by_instruction grows (tree.Call k) y z less h =
          let p = call_parts z in calls k p.place p.callee p.place_is p.callee_bound (omega (arith, p.is)) h
      by_instruction grows (tree.CallIndirect k) y z less h = absurd (indirect_none z)

    moves : (grows : Bool) (f : Activation) (a : ℕ) (x : FrameBound m i f a) → a + b ≤ n → (code : Sequence) → code ≡ f.rest → Moves grows s f (over fs below) d code → After m i below n d
    moves grows f a x less Empty e h =
        closes f f.labels x.labels x.instance x.labels_bound (omega (arith, x.is)) h
    moves grows f a x less (Then j rest) e h =
        let p = then_parts (subst (λ c. SequenceBound m c x.rest) (sym e) x.rest_bound) in
        let g : Activation = record f { rest = rest } in
        let y : FrameBound m i g (p.others + x.labels + 1) =
        record { instance = x.instance; rest = p.others; rest_bound = p.others_bound; labels = x.labels; labels_bound = x.labels_bound; is = refl }
        in
        by_instruction g (p.others + x.labels + 1) y grows j p.first p.first_bound (omega (arith, p.is, x.is)) h

-- A step from frames over others.
step_falls : (m : Module) (i : ℕ) (below : List Layer) (c d : Configuration) → IsInstanceOf m c.store i → (f : Activation) (fs : List Activation) (n : ℕ) → c.frames ≡ over (f ∷ fs) below → FramesBound m i (f ∷ fs) n → Step c d → After m i below n d
step_falls m i below c d of f fs n frames x h =
    let top : TopMoves h.0 c.store (over (f ∷ fs) below) d = subst (λ ls. TopMoves h.0 c.store ls d) frames h.1.1 in
    moves m i below c.store d of fs x.1 x.3 n h.0 f x.0 x.2 (omega (arith, x.4)) f.rest refl top

-- No step changes what an instance is.
still_of : (m : Module) (i : ℕ) (c d : Configuration) → IsInstanceOf m c.store i → Step c d → IsInstanceOf m d.store i
still_of m i c d of h =
    let same = step_keeps c d h in
    record {
      inst = of.inst;
      there = ap (λ l. slice_get l i) same.instances ∙ of.there;
      types = of.types;
      code = of.code;
      funcs = λ k a at. let own = of.funcs k a at in (own.0, ap (λ l. slice_get l a) same.funcs ∙ own.1);
    }

-- ---- lists of steps

-- After a first step, where the frames leave in the steps after it.
runs_on : (m : Module) (i : ℕ) (below : List Layer) (d : Configuration) (ds : List Configuration) (n : ℕ) → n ≤ length (d ∷ ds) → ((g : Activation) (gs : List Activation) (p : ℕ) → d.frames ≡ over (g ∷ gs) below → FramesBound m i (g ∷ gs) p → p ≤ length ds → LeavesIn below ds) → After m i below n d → LeavesIn below (d ∷ ds)
runs_on m i below d ds n few later (left h) = (0, d, refl, inl h)
runs_on m i below d ds n few later (trap e) = (0, d, refl, inr e)
runs_on m i below d ds n few later (on g gs p next y less) =
    let r = later g gs p next y (omega arith) in
    (suc r.0, r.1, r.2, r.3)

run : (m : Module) (i : ℕ) (below : List Layer) (ds : List Configuration) (c : Configuration) → IsInstanceOf m c.store i → (f : Activation) (fs : List Activation) (n : ℕ) → c.frames ≡ over (f ∷ fs) below → FramesBound m i (f ∷ fs) n → AreSteps c ds → n ≤ length ds → LeavesIn below ds
run m i below [] c of f fs n frames x steps few = absurd (omega (arith, x.4, x.2.is))
run m i below (d ∷ ds) c of f fs n frames x steps few =
    runs_on m i below d ds n few (λ g gs p next y less. run m i below ds d (still_of m i c d of steps.0) g gs p next y steps.1 less)
    (step_falls m i below c d of f fs n frames x steps.0)

-- The bound of a frame that has just been entered.
record Entered (m : Module) (k n : ℕ) (c : Configuration) (below : List Layer) : Type 0 where
  frame : Activation
  instance : ℕ
  of_module : IsInstanceOf m c.store instance
  frames : c.frames ≡ over (frame ∷ []) below
  bounded : FramesBound m instance (frame ∷ []) n

entered_bound : (m : Module) (k n : ℕ) (c : Configuration) (below : List Layer) → FunctionBound m k n → HasEntered m k c below → Entered m k n c below
entered_bound m k n c below b h =
    let parts = function_parts b in
    let found : func_in (Some h.of_module.inst) k ≡ Some h.entered.0 = ap (λ o. func_in o k) (sym h.of_module.there) ∙ h.entered.1 in
    let mine : slice_get h.of_module.inst.code k ≡ Some parts.func = ap (λ l. slice_get l k) h.of_module.code ∙ parts.there in
    let same : parts.func ≡ h.entered.0 = same_some (slice_get h.of_module.inst.code k) parts.func h.entered.0 mine found in
    let f : Activation = entered h.instance h.address (reverse h.args) h.entered.0 in
    let body : SequenceBound m (sequence_of h.entered.0.body) parts.body = subst (λ (fn : Func). SequenceBound m (sequence_of fn.body) parts.body) same parts.body_bound in
    let x : FrameBound m h.instance f n =
    record { instance = refl; rest = parts.body; rest_bound = body; labels = 0; labels_bound = refl; is = omega (arith, parts.is) }
    in
    record {
      frame = f;
      instance = h.instance;
      of_module = h.of_module;
      frames = h.frames ∙ ap (λ l. l ∷ below) h.entered.2;
      bounded = (n, 0, x, refl, omega arith);
    }

pub bounds_hold : BoundsHold
bounds_hold m k bound c below ds b h steps long =
    let e = entered_bound m k bound c below b h in
    run m e.instance below ds c e.of_module e.frame [] bound e.frames e.bounded steps (omega (arith, long))

-- ---- runs go on

-- A typed configuration with a frame of code on top has a step.
steps_on : (c : Configuration) (f : Activation) (others : List Layer) → Typed c → c.frames ≡ OfCode f ∷ others → CanStep c
steps_on c f others t is =
    progress c t (runs_still c.outcome is t.outcome) (subst HasCodeOnTop (sym is) tt)
  where
    no_frames : [] ≡ OfCode f ∷ others → ⊥
    no_frames e = cc

    runs_still : (o : Outcome) → c.frames ≡ OfCode f ∷ others → OutcomeTyped o c.frames → o ≡ Running
    runs_still Running e h = refl
    runs_still (Done values) e h = absurd (no_frames (sym h.0 ∙ e))
    runs_still Trapped e h = absurd (no_frames (sym h ∙ e))

go_on_after : (below : List Layer) (m : Module) (i n : ℕ) (d : Configuration) (ds : List Configuration) → ((g : Activation) (gs : List Activation) (p : ℕ) → d.frames ≡ over (g ∷ gs) below → FramesBound m i (g ∷ gs) p → LeavesIn below ds ⊎ CanStep (last_of d ds)) → After m i below n d → LeavesIn below (d ∷ ds) ⊎ CanStep (last_of d ds)
go_on_after below m i n d ds later (left h) = inl (0, d, refl, inl h)
go_on_after below m i n d ds later (trap e) = inl (0, d, refl, inr e)
go_on_after below m i n d ds later (on g gs p next y less) = further (later g gs p next y)
  where
    further : LeavesIn below ds ⊎ CanStep (last_of d ds) → LeavesIn below (d ∷ ds) ⊎ CanStep (last_of d ds)
    further (inl r) = inl (suc r.0, r.1, r.2, r.3)
    further (inr s) = inr s

go_on : (m : Module) (i : ℕ) (below : List Layer) (ds : List Configuration) (c : Configuration) → IsInstanceOf m c.store i → (f : Activation) (fs : List Activation) (n : ℕ) → c.frames ≡ over (f ∷ fs) below → FramesBound m i (f ∷ fs) n → Typed c → AreSteps c ds → LeavesIn below ds ⊎ CanStep (last_of c ds)
go_on m i below [] c of f fs n frames x t steps = inr (steps_on c f (over fs below) t frames)
go_on m i below (d ∷ ds) c of f fs n frames x t steps =
    go_on_after below m i n d ds
    (λ g gs p next y. go_on m i below ds d (still_of m i c d of steps.0) g gs p next y (preservation c d t steps.0) steps.1)
    (step_falls m i below c d of f fs n frames x steps.0)

pub runs_go_on : RunsGoOn
runs_go_on m k bound c below ds b t h steps =
    let e = entered_bound m k bound c below b h in
    go_on m e.instance below ds c e.of_module e.frame [] bound e.frames e.bounded t steps
