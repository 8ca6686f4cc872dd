-- Bytes spell at most one module.
use Rattle.std.proofs.Common.{◌≡◌, ℕ, ◌+◌, ◌<◌, ◌≤◌, List, [], ◌∷◌, length, sym, ap, ◌∙◌, arith}
use Rattle.std.specs.List.{AllByRecursion}
use Rattle.wasm_syntax.specs.declared.module.FuncType.{FuncType}
use Rattle.wasm_syntax.specs.declared.module.Global.{Global}
use Rattle.wasm_syntax.specs.declared.module.Func.{Func}
use Rattle.wasm_syntax.specs.declared.module.Elem.{Elem}
use Rattle.wasm_syntax.specs.declared.module.Segment.{Segment}
use Rattle.wasm_syntax.specs.declared.module.Module.{Module}
use Rattle.wasm_syntax.specs.declared.module.Marks.{Marks}
use Rattle.wasm_syntax.specs.declared.flat.Flat.{Flat}
use Rattle.wasm_syntax.specs.declared.flat.Flat.TheVariants as item
use Rattle.wasm_syntax.specs.FlatForm.{flat}
use Rattle.binary_grammar.specs.declared.section.Decoded.{Decoded}
use Rattle.binary_grammar.specs.Bounds.{Bounds}
use Rattle.binary_grammar.specs.CodeGrammar.{opened, MayOpen, OpenAtMost, NestsAtMost}
use Rattle.binary_grammar.specs.ModuleGrammar.{Spells, FuncTypeWithin, GlobalWithin, ElemWithin, SegmentWithin, FuncWithin, InLimits}
use Rattle.binary_grammar.proofs.Exact.{ok_is}
use Rattle.binary_grammar.proofs.ModuleLaws.{module_again}

-- ---- limits that are wide enough

abbrev total : {A : Type 0} → (A → ℕ) → List A → ℕ
total f [] = 0
total f (x ∷ xs) = f x + total f xs

all_by : {A : Type 0} (f : A → ℕ) (P : A → Type 0) (k : ℕ) → ((x : A) → f x ≤ k → P x) → (xs : List A) → total f xs ≤ k → AllByRecursion P xs
all_by f P k go [] h = tt
all_by f P k go (x ∷ xs) h = (go x (omega arith), all_by f P k go xs (omega arith))

opened_next : (now : ℕ) (i : Flat) → opened now i ≤ now + 1
opened_next now (item.Block t) = omega arith
opened_next now (item.Loop t) = omega arith
opened_next now (item.If t) = omega arith
opened_next now (item.One i) = omega arith
opened_next now item.Else = omega arith
opened_next now item.End = omega arith

may_open : (most now : ℕ) (i : Flat) → now < most → MayOpen most now i
may_open most now (item.Block t) h = h
may_open most now (item.Loop t) h = h
may_open most now (item.If t) h = h
may_open most now (item.One i) h = tt
may_open most now item.Else h = tt
may_open most now item.End h = tt

few_open : (most now : ℕ) (items : List Flat) → now + length items ≤ most → OpenAtMost most now items
few_open most now [] h = tt
few_open most now (i ∷ is) h = (may_open most now i (omega arith), few_open most (opened now i) is (omega (arith, opened_next now i)))

few_nest : (most : ℕ) (instrs : _) → length (flat instrs) ≤ most → NestsAtMost most instrs
few_nest most instrs h = few_open most 0 (flat instrs) (omega arith)

abbrev params : FuncType → ℕ
params t = length t.params

abbrev func_size : Func → ℕ
func_size f = length f.locals + length (flat f.body)

abbrev init_size : Global → ℕ
init_size g = length (flat g.init)

abbrev elem_size : Elem → ℕ
elem_size e = length (flat e.offset)

abbrev segment_size : Segment → ℕ
segment_size s = length (flat s.offset)

-- one number that is at least each that the limits speak of
abbrev size : Module → ℕ
size m = length m.types + length m.imports + length m.funcs + length m.globals + total params m.types + total func_size m.funcs + total init_size m.globals + total elem_size m.elems + total segment_size m.segments

abbrev wide : ℕ → Bounds
wide n = record { types = n; imports = n; functions = n; globals = n; params = n; locals = n; nesting = n }

in_wide : (m : Module) (n : ℕ) → size m ≤ n → InLimits (wide n) m
in_wide m n h = record {
  types = omega arith;
  imports = omega arith;
  functions = omega arith;
  globals = omega arith;
  each_type = all_by params (FuncTypeWithin (wide n)) n (λ t k. k) m.types (omega arith);
  each_func = all_by func_size (FuncWithin (wide n)) n (λ f k. (omega arith, few_nest n f.body (omega arith))) m.funcs (omega arith);
  each_global = all_by init_size (GlobalWithin (wide n)) n (λ g k. few_nest n g.init k) m.globals (omega arith);
  each_elem = all_by elem_size (ElemWithin (wide n)) n (λ e k. few_nest n e.offset k) m.elems (omega arith);
  each_segment = all_by segment_size (SegmentWithin (wide n)) n (λ s k. few_nest n s.offset k) m.segments (omega arith);
}

-- ---- one module

pub one_module : (bytes : List ℕ) (m n : Module) (j k : Marks) → Spells bytes m j → Spells bytes n k → (m ≡ n) × (j ≡ k)
one_module bytes m n j k a b =
    let most = wide (size m + size n) in
    let first = module_again most bytes m j a (in_wide m (size m + size n) (omega arith)) in
    let second = module_again most bytes n k b (in_wide n (size m + size n) (omega arith)) in
    let x : Decoded = record { «module» = m; marks = j } in
    let y : Decoded = record { «module» = n; marks = k } in
    let e : x ≡ y = ok_is x y (sym first ∙ second) in
    (ap (λ (d : Decoded). d.module) e, ap (λ (d : Decoded). d.marks) e)
