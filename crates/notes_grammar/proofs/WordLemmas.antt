-- The words of notes are told apart.
use Rattle.std.proofs.Common.{◌≡◌, ℕ, Bool, true, false, cond, List, [], ◌∷◌, ◌++◌, take, drop, Option, Some, None, refl, sym, ap, ◌∙◌, take-append-drop}
use Rattle.std.specs.Prelude.{codes}
use Rattle.std.specs.Option.{option_map}
use Rattle.std.specs.List.{AllByRecursion}
use Rattle.std.proofs.lemmas.Slice.Eq.{bytes_eq-Decides}
use Rattle.wasm_values.specs.declared.number.IntOp.{IntOp}
use Rattle.wasm_values.specs.declared.number.IntOp.TheVariants as int
use Rattle.wasm_values.specs.declared.number.NumOp.{NumOp}
use Rattle.wasm_values.specs.declared.number.NumOp.TheVariants as num
use Rattle.bitvector_rules.specs.declared.step.Rule.{Rule}
use Rattle.bitvector_rules.specs.declared.step.Rule.TheVariants as rule
use Rattle.notes_grammar.specs.declared.head.Head.{Head}
use Rattle.notes_grammar.specs.declared.head.Head.TheVariants as head
use Rattle.notes_grammar.specs.Words.{head_name, rule_name, int_name, num_name, same_word, pick, heads, head_named, rules, rule_named, tests, test_named, sums, sum_named, bits, bit_named, or_else, int_named, wide_named, op_named}

same_of : (v w : List ℕ) → same_word v w ≡ true → v ≡ w
same_of v w e = (bytes_eq-Decides v w).0 e

-- what a table has for a word has it as its name
abbrev Names : {A : Type 0} → (A → List ℕ) → List (List ℕ × A) → Type 0
Names name table = AllByRecursion (λ e. e.0 ≡ name e.1) table

picked : {A : Type 0} (name : A → List ℕ) (table : List (List ℕ × A)) → Names name table → (w : List ℕ) (x : A) → pick table w ≡ Some x → w ≡ name x
picked name [] h w x e = cc
picked {A} name (y ∷ ys) h w x e = by_word (same_word w y.0) refl (λ f. picked name ys h.1 w x f) e
  where
    by_word : (v : Bool) → same_word w y.0 ≡ v → (pick ys w ≡ Some x → w ≡ name x) → cond v (Some y.1) (pick ys w) ≡ Some x → w ≡ name x
    by_word true t more e = let same : y.1 ≡ x = cc in same_of w y.0 t ∙ h.0 ∙ ap name same
    by_word false t more e = more e

heads_named : Names head_name heads
heads_named = (refl, (refl, (refl, (refl, (refl, (refl, (refl, (refl, (refl, (refl, (refl, (refl, (refl, (refl, (refl, (refl, (refl, (refl, (refl, (refl, (refl, (refl, (refl, (refl, (refl, (refl, (refl, (refl, (refl, (refl, (refl, (refl, (refl, (refl, (refl, (refl, (refl, (refl, (refl, (refl, (refl, (refl, (refl, (refl, (refl, (refl, (refl, (refl, (refl, (refl, (refl, (refl, (refl, (refl, (refl, (refl, tt))))))))))))))))))))))))))))))))))))))))))))))))))))))))

pub named_head : (w : List ℕ) (k : Head) → head_named w ≡ Some k → w ≡ head_name k
unfolding head_named
named_head w k e = picked head_name heads heads_named w k e

pub head_found : (k : Head) → head_named (head_name k) ≡ Some k
unfolding head_named
head_found head.True = refl
head_found head.False = refl
head_found head.Eq = refl
head_found head.Le = refl
head_found head.Lt = refl
head_found head.Not = refl
head_found head.And = refl
head_found head.Or = refl
head_found head.Imp = refl
head_found head.Plus = refl
head_found head.Minus = refl
head_found head.Times = refl
head_found head.Low = refl
head_found head.Sext = refl
head_found head.Sgn = refl
head_found head.Local = refl
head_found head.Stack = refl
head_found head.Global = refl
head_found head.Pages = refl
head_found head.Arg = refl
head_found head.Result = refl
head_found head.Index = refl
head_found head.Item = refl
head_found head.Hyp = refl
head_found head.Earlier = refl
head_found head.Cell = refl
head_found head.Region = refl
head_found head.Row = refl
head_found head.With = refl
head_found head.Safe = refl
head_found head.Trap = refl
head_found head.Take = refl
head_found head.Table = refl
head_found head.Both = refl
head_found head.Label = refl
head_found head.Loop = refl
head_found head.Skip = refl
head_found head.Have = refl
head_found head.Name = refl
head_found head.Let = refl
head_found head.Put = refl
head_found head.Split = refl
head_found head.Merge = refl
head_found head.Forget = refl
head_found head.View = refl
head_found head.Halve = refl
head_found head.Unite = refl
head_found head.Readdr = refl
head_found head.Reval = refl
head_found head.Relen = refl
head_found head.Pick = refl
head_found head.Join = refl
head_found head.Enrow = refl
head_found head.Rows = refl
head_found head.Each = refl
head_found head.Use = refl

rules_named : Names rule_name rules
rules_named = (refl, (refl, (refl, (refl, (refl, (refl, (refl, (refl, (refl, (refl, (refl, (refl, (refl, (refl, (refl, (refl, (refl, (refl, (refl, (refl, (refl, (refl, (refl, (refl, (refl, (refl, (refl, (refl, (refl, (refl, (refl, (refl, (refl, (refl, (refl, (refl, (refl, (refl, tt))))))))))))))))))))))))))))))))))))))

pub named_rule : (w : List ℕ) (r : Rule) → rule_named w ≡ Some r → w ≡ rule_name r
unfolding rule_named
named_rule w r e = picked rule_name rules rules_named w r e

pub rule_found : (r : Rule) → rule_named (rule_name r) ≡ Some r
unfolding rule_named
rule_found rule.Hyp = refl
rule_found rule.True = refl
rule_found rule.And = refl
rule_found rule.Left = refl
rule_found rule.Right = refl
rule_found rule.Orl = refl
rule_found rule.Orr = refl
rule_found rule.Cases = refl
rule_found rule.Assume = refl
rule_found rule.Apply = refl
rule_found rule.Contra = refl
rule_found rule.Refute = refl
rule_found rule.Clash = refl
rule_found rule.Explode = refl
rule_found rule.Refl = refl
rule_found rule.Rewrite = refl
rule_found rule.Eval = refl
rule_found rule.Linear = refl
rule_found rule.Floor = refl
rule_found rule.Ceil = refl
rule_found rule.Order = refl
rule_found rule.Notle = refl
rule_found rule.Notlt = refl
rule_found rule.Mulpos = refl
rule_found rule.Range = refl
rule_found rule.Add = refl
rule_found rule.Addwrap = refl
rule_found rule.Sub = refl
rule_found rule.Subwrap = refl
rule_found rule.Mul = refl
rule_found rule.Divu = refl
rule_found rule.Divs = refl
rule_found rule.Test = refl
rule_found rule.Tests = refl
rule_found rule.Sgn = refl
rule_found rule.Shift = refl
rule_found rule.Mask = refl
rule_found rule.Widen = refl

tests_named : Names int_name tests
tests_named = (refl, (refl, (refl, (refl, (refl, (refl, (refl, (refl, (refl, (refl, (refl, tt)))))))))))

sums_named : Names int_name sums
sums_named = (refl, (refl, (refl, (refl, (refl, (refl, (refl, tt)))))))

bits_named : Names int_name bits
bits_named = (refl, (refl, (refl, (refl, (refl, (refl, (refl, (refl, (refl, (refl, (refl, tt)))))))))))

named_int : (w : List ℕ) (op : IntOp) → int_named w ≡ Some op → w ≡ int_name op
unfolding int_named test_named sum_named bit_named
named_int w op e = by_test (pick tests w) refl e
  where
    by_sum : (o : Option IntOp) → pick sums w ≡ o → or_else o (pick bits w) ≡ Some op → w ≡ int_name op
    by_sum None t e = picked int_name bits bits_named w op e
    by_sum (Some x) t e = picked int_name sums sums_named w op (t ∙ e)

    by_test : (o : Option IntOp) → pick tests w ≡ o → or_else o (or_else (pick sums w) (pick bits w)) ≡ Some op → w ≡ int_name op
    by_test None t e = by_sum (pick sums w) refl e
    by_test (Some x) t e = picked int_name tests tests_named w op (t ∙ e)

mapped : {A B : Type 0} (f : A → B) (o : Option A) (y : B) → option_map f o ≡ Some y → (x : A) × (o ≡ Some x) × (f x ≡ y)
mapped f None y e = cc
mapped f (Some x) y e = (x, refl, cc)

named_wide : (w : List ℕ) (op : NumOp) → wide_named w ≡ Some op → w ≡ num_name op
unfolding wide_named
named_wide w op e = by_first (same_word (take 4 w) (codes "i32.")) refl e
  where
    made : (f : IntOp → NumOp) (front : List ℕ) → ((x : IntOp) → front ++ int_name x ≡ num_name (f x)) → take 4 w ≡ front →
        option_map f (int_named (drop 4 w)) ≡ Some op → w ≡ num_name op
    made f front names t e =
        let m = mapped f (int_named (drop 4 w)) op e in
        sym (take-append-drop 4 w) ∙ ap (λ xs. xs ++ drop 4 w) t ∙ ap (λ ys. front ++ ys) (named_int (drop 4 w) m.0 m.1) ∙ names m.0 ∙ ap num_name m.2

    by_second : (v : Bool) → same_word (take 4 w) (codes "i64.") ≡ v → cond v (option_map num.W64 (int_named (drop 4 w))) None ≡ Some op → w ≡ num_name op
    by_second true t e = made num.W64 (codes "i64.") (λ x. refl) (same_of (take 4 w) (codes "i64.") t) e
    by_second false t e = cc

    by_first : (v : Bool) → same_word (take 4 w) (codes "i32.") ≡ v →
        cond v (option_map num.W32 (int_named (drop 4 w))) (cond (same_word (take 4 w) (codes "i64.")) (option_map num.W64 (int_named (drop 4 w))) None) ≡ Some op → w ≡ num_name op
    by_first true t e = made num.W32 (codes "i32.") (λ x. refl) (same_of (take 4 w) (codes "i32.") t) e
    by_first false t e = by_second (same_word (take 4 w) (codes "i64.")) refl e

pub named_op : (w : List ℕ) (op : NumOp) → op_named w ≡ Some op → w ≡ num_name op
unfolding op_named
named_op w op e = by_wrap (same_word w (codes "i32.wrap_i64")) refl e
  where
    here : (x : NumOp) (name : List ℕ) → name ≡ num_name x → same_word w name ≡ true → ◌≡◌ {A = Option NumOp} (Some x) (Some op) → w ≡ num_name op
    here x name n t e = let same : x ≡ op = cc in same_of w name t ∙ n ∙ ap num_name same

    by_unsigned : (v : Bool) → same_word w (codes "i64.extend_i32_u") ≡ v → cond v (Some num.ExtendU) (wide_named w) ≡ Some op → w ≡ num_name op
    by_unsigned true t e = here num.ExtendU (codes "i64.extend_i32_u") refl t e
    by_unsigned false t e = named_wide w op e

    by_signed : (v : Bool) → same_word w (codes "i64.extend_i32_s") ≡ v →
        cond v (Some num.ExtendS) (cond (same_word w (codes "i64.extend_i32_u")) (Some num.ExtendU) (wide_named w)) ≡ Some op → w ≡ num_name op
    by_signed true t e = here num.ExtendS (codes "i64.extend_i32_s") refl t e
    by_signed false t e = by_unsigned (same_word w (codes "i64.extend_i32_u")) refl e

    by_wrap : (v : Bool) → same_word w (codes "i32.wrap_i64") ≡ v →
        cond v (Some num.Wrap) (cond (same_word w (codes "i64.extend_i32_s")) (Some num.ExtendS) (cond (same_word w (codes "i64.extend_i32_u")) (Some num.ExtendU) (wide_named w))) ≡ Some op → w ≡ num_name op
    by_wrap true t e = here num.Wrap (codes "i32.wrap_i64") refl t e
    by_wrap false t e = by_signed (same_word w (codes "i64.extend_i32_s")) refl e

w32_found : (x : IntOp) → op_named (num_name (num.W32 x)) ≡ Some (num.W32 x)
unfolding op_named wide_named int_named test_named sum_named bit_named
w32_found int.Eqz = refl
w32_found int.Eq = refl
w32_found int.Ne = refl
w32_found int.LtS = refl
w32_found int.LtU = refl
w32_found int.GtS = refl
w32_found int.GtU = refl
w32_found int.LeS = refl
w32_found int.LeU = refl
w32_found int.GeS = refl
w32_found int.GeU = refl
w32_found int.Clz = refl
w32_found int.Ctz = refl
w32_found int.Popcnt = refl
w32_found int.Add = refl
w32_found int.Sub = refl
w32_found int.Mul = refl
w32_found int.DivS = refl
w32_found int.DivU = refl
w32_found int.RemS = refl
w32_found int.RemU = refl
w32_found int.And = refl
w32_found int.Or = refl
w32_found int.Xor = refl
w32_found int.Shl = refl
w32_found int.ShrS = refl
w32_found int.ShrU = refl
w32_found int.Rotl = refl
w32_found int.Rotr = refl

w64_found : (x : IntOp) → op_named (num_name (num.W64 x)) ≡ Some (num.W64 x)
unfolding op_named wide_named int_named test_named sum_named bit_named
w64_found int.Eqz = refl
w64_found int.Eq = refl
w64_found int.Ne = refl
w64_found int.LtS = refl
w64_found int.LtU = refl
w64_found int.GtS = refl
w64_found int.GtU = refl
w64_found int.LeS = refl
w64_found int.LeU = refl
w64_found int.GeS = refl
w64_found int.GeU = refl
w64_found int.Clz = refl
w64_found int.Ctz = refl
w64_found int.Popcnt = refl
w64_found int.Add = refl
w64_found int.Sub = refl
w64_found int.Mul = refl
w64_found int.DivS = refl
w64_found int.DivU = refl
w64_found int.RemS = refl
w64_found int.RemU = refl
w64_found int.And = refl
w64_found int.Or = refl
w64_found int.Xor = refl
w64_found int.Shl = refl
w64_found int.ShrS = refl
w64_found int.ShrU = refl
w64_found int.Rotl = refl
w64_found int.Rotr = refl

pub op_found : (op : NumOp) → op_named (num_name op) ≡ Some op
unfolding op_named
op_found (num.W32 x) = w32_found x
op_found (num.W64 x) = w64_found x
op_found num.Wrap = refl
op_found num.ExtendS = refl
op_found num.ExtendU = refl
