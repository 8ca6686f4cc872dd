-- The words of notes: those that lists begin with, the names of rules, and those of operators.
use Rattle.std.specs.Prelude.{ℕ, Bool, nat_eq, if◌then◌else◌, List, [], ◌∷◌, take, drop, Option, Some, None, codes}
use Rattle.std.specs.Option.{option_map}
use Rattle.std.specs.Cmp.Lexicographic.{pointwise}
use Rattle.wasm_values.specs.declared.number.IntOp.{IntOp}
use Rattle.wasm_values.specs.declared.number.IntOp.TheVariants as int
use Rattle.wasm_values.specs.declared.number.NumOp.{NumOp}
use Rattle.wasm_values.specs.declared.number.NumOp.TheVariants as num
pub use Rattle.wasm_values.specs.Names.{int_name, num_name}
use Rattle.bitvector_rules.specs.declared.step.Rule.{Rule}
use Rattle.bitvector_rules.specs.declared.step.Rule.TheVariants as rule
use Rattle.notes_grammar.specs.declared.head.Head.{Head}
use Rattle.notes_grammar.specs.declared.head.Head.TheVariants as head

-- the word that a head is
abbrev pub head_name : Head → List ℕ
head_name head.True = codes "true"
head_name head.False = codes "false"
head_name head.Eq = codes "="
head_name head.Le = codes "<="
head_name head.Lt = codes "<"
head_name head.Not = codes "not"
head_name head.And = codes "and"
head_name head.Or = codes "or"
head_name head.Imp = codes "imp"
head_name head.Plus = codes "+"
head_name head.Minus = codes "-"
head_name head.Times = codes "*"
head_name head.Low = codes "low"
head_name head.Sext = codes "sext"
head_name head.Sgn = codes "sgn"
head_name head.Local = codes "local"
head_name head.Stack = codes "stack"
head_name head.Global = codes "global"
head_name head.Pages = codes "pages"
head_name head.Arg = codes "arg"
head_name head.Result = codes "result"
head_name head.Index = codes "index"
head_name head.Item = codes "item"
head_name head.Hyp = codes "h"
head_name head.Earlier = codes "s"
head_name head.Cell = codes "cell"
head_name head.Region = codes "region"
head_name head.Row = codes "row"
head_name head.With = codes "with"
head_name head.Safe = codes "safe"
head_name head.Trap = codes "trap"
head_name head.Take = codes "take"
head_name head.Table = codes "table"
head_name head.Both = codes "both"
head_name head.Label = codes "label"
head_name head.Loop = codes "loop"
head_name head.Skip = codes "skip"
head_name head.Have = codes "have"
head_name head.Name = codes "name"
head_name head.Let = codes "let"
head_name head.Put = codes "put"
head_name head.Split = codes "split"
head_name head.Merge = codes "merge"
head_name head.Forget = codes "forget"
head_name head.View = codes "view"
head_name head.Halve = codes "halve"
head_name head.Unite = codes "unite"
head_name head.Readdr = codes "readdr"
head_name head.Reval = codes "reval"
head_name head.Relen = codes "relen"
head_name head.Pick = codes "pick"
head_name head.Join = codes "join"
head_name head.Enrow = codes "enrow"
head_name head.Rows = codes "rows"
head_name head.Each = codes "each"
head_name head.Use = codes "use"

-- the name of a rule
abbrev pub rule_name : Rule → List ℕ
rule_name rule.Hyp = codes "hyp"
rule_name rule.True = codes "true"
rule_name rule.And = codes "and"
rule_name rule.Left = codes "left"
rule_name rule.Right = codes "right"
rule_name rule.Orl = codes "orl"
rule_name rule.Orr = codes "orr"
rule_name rule.Cases = codes "cases"
rule_name rule.Assume = codes "assume"
rule_name rule.Apply = codes "apply"
rule_name rule.Contra = codes "contra"
rule_name rule.Refute = codes "refute"
rule_name rule.Clash = codes "clash"
rule_name rule.Explode = codes "explode"
rule_name rule.Refl = codes "refl"
rule_name rule.Rewrite = codes "rewrite"
rule_name rule.Eval = codes "eval"
rule_name rule.Linear = codes "linear"
rule_name rule.Floor = codes "floor"
rule_name rule.Ceil = codes "ceil"
rule_name rule.Order = codes "order"
rule_name rule.Notle = codes "notle"
rule_name rule.Notlt = codes "notlt"
rule_name rule.Mulpos = codes "mulpos"
rule_name rule.Range = codes "range"
rule_name rule.Add = codes "add"
rule_name rule.Addwrap = codes "addwrap"
rule_name rule.Sub = codes "sub"
rule_name rule.Subwrap = codes "subwrap"
rule_name rule.Mul = codes "mul"
rule_name rule.Divu = codes "divu"
rule_name rule.Divs = codes "divs"
rule_name rule.Test = codes "test"
rule_name rule.Tests = codes "tests"
rule_name rule.Sgn = codes "sgn"
rule_name rule.Shift = codes "shift"
rule_name rule.Mask = codes "mask"
rule_name rule.Widen = codes "widen"

-- whether two words are the same
abbrev pub same_word : List ℕ → List ℕ → Bool
same_word = pointwise nat_eq

-- what a table has for a word
abbrev pub pick : {A : Type 0} → List (List ℕ × A) → List ℕ → Option A
pick [] w = None
pick (e ∷ es) w = if same_word w e.0 then Some e.1 else pick es w

-- the head that a word is
abbrev pub heads : List (List ℕ × Head)
heads =
    (codes "true", head.True) ∷
    (codes "false", head.False) ∷
    (codes "=", head.Eq) ∷
    (codes "<=", head.Le) ∷
    (codes "<", head.Lt) ∷
    (codes "not", head.Not) ∷
    (codes "and", head.And) ∷
    (codes "or", head.Or) ∷
    (codes "imp", head.Imp) ∷
    (codes "+", head.Plus) ∷
    (codes "-", head.Minus) ∷
    (codes "*", head.Times) ∷
    (codes "low", head.Low) ∷
    (codes "sext", head.Sext) ∷
    (codes "sgn", head.Sgn) ∷
    (codes "local", head.Local) ∷
    (codes "stack", head.Stack) ∷
    (codes "global", head.Global) ∷
    (codes "pages", head.Pages) ∷
    (codes "arg", head.Arg) ∷
    (codes "result", head.Result) ∷
    (codes "index", head.Index) ∷
    (codes "item", head.Item) ∷
    (codes "h", head.Hyp) ∷
    (codes "s", head.Earlier) ∷
    (codes "cell", head.Cell) ∷
    (codes "region", head.Region) ∷
    (codes "row", head.Row) ∷
    (codes "with", head.With) ∷
    (codes "safe", head.Safe) ∷
    (codes "trap", head.Trap) ∷
    (codes "take", head.Take) ∷
    (codes "table", head.Table) ∷
    (codes "both", head.Both) ∷
    (codes "label", head.Label) ∷
    (codes "loop", head.Loop) ∷
    (codes "skip", head.Skip) ∷
    (codes "have", head.Have) ∷
    (codes "name", head.Name) ∷
    (codes "let", head.Let) ∷
    (codes "put", head.Put) ∷
    (codes "split", head.Split) ∷
    (codes "merge", head.Merge) ∷
    (codes "forget", head.Forget) ∷
    (codes "view", head.View) ∷
    (codes "halve", head.Halve) ∷
    (codes "unite", head.Unite) ∷
    (codes "readdr", head.Readdr) ∷
    (codes "reval", head.Reval) ∷
    (codes "relen", head.Relen) ∷
    (codes "pick", head.Pick) ∷
    (codes "join", head.Join) ∷
    (codes "enrow", head.Enrow) ∷
    (codes "rows", head.Rows) ∷
    (codes "each", head.Each) ∷
    (codes "use", head.Use) ∷
    []

unfoldable pub head_named : List ℕ → Option Head
head_named w = pick heads w

-- the rule of a name
abbrev pub rules : List (List ℕ × Rule)
rules =
    (codes "hyp", rule.Hyp) ∷
    (codes "true", rule.True) ∷
    (codes "and", rule.And) ∷
    (codes "left", rule.Left) ∷
    (codes "right", rule.Right) ∷
    (codes "orl", rule.Orl) ∷
    (codes "orr", rule.Orr) ∷
    (codes "cases", rule.Cases) ∷
    (codes "assume", rule.Assume) ∷
    (codes "apply", rule.Apply) ∷
    (codes "contra", rule.Contra) ∷
    (codes "refute", rule.Refute) ∷
    (codes "clash", rule.Clash) ∷
    (codes "explode", rule.Explode) ∷
    (codes "refl", rule.Refl) ∷
    (codes "rewrite", rule.Rewrite) ∷
    (codes "eval", rule.Eval) ∷
    (codes "linear", rule.Linear) ∷
    (codes "floor", rule.Floor) ∷
    (codes "ceil", rule.Ceil) ∷
    (codes "order", rule.Order) ∷
    (codes "notle", rule.Notle) ∷
    (codes "notlt", rule.Notlt) ∷
    (codes "mulpos", rule.Mulpos) ∷
    (codes "range", rule.Range) ∷
    (codes "add", rule.Add) ∷
    (codes "addwrap", rule.Addwrap) ∷
    (codes "sub", rule.Sub) ∷
    (codes "subwrap", rule.Subwrap) ∷
    (codes "mul", rule.Mul) ∷
    (codes "divu", rule.Divu) ∷
    (codes "divs", rule.Divs) ∷
    (codes "test", rule.Test) ∷
    (codes "tests", rule.Tests) ∷
    (codes "sgn", rule.Sgn) ∷
    (codes "shift", rule.Shift) ∷
    (codes "mask", rule.Mask) ∷
    (codes "widen", rule.Widen) ∷
    []

unfoldable pub rule_named : List ℕ → Option Rule
rule_named w = pick rules w

-- a test of integers
abbrev pub tests : List (List ℕ × IntOp)
tests =
    (codes "eqz", int.Eqz) ∷
    (codes "eq", int.Eq) ∷
    (codes "ne", int.Ne) ∷
    (codes "lt_s", int.LtS) ∷
    (codes "lt_u", int.LtU) ∷
    (codes "gt_s", int.GtS) ∷
    (codes "gt_u", int.GtU) ∷
    (codes "le_s", int.LeS) ∷
    (codes "le_u", int.LeU) ∷
    (codes "ge_s", int.GeS) ∷
    (codes "ge_u", int.GeU) ∷
    []

unfoldable pub test_named : List ℕ → Option IntOp
test_named w = pick tests w

-- an operator of arithmetic
abbrev pub sums : List (List ℕ × IntOp)
sums =
    (codes "add", int.Add) ∷
    (codes "sub", int.Sub) ∷
    (codes "mul", int.Mul) ∷
    (codes "div_s", int.DivS) ∷
    (codes "div_u", int.DivU) ∷
    (codes "rem_s", int.RemS) ∷
    (codes "rem_u", int.RemU) ∷
    []

unfoldable pub sum_named : List ℕ → Option IntOp
sum_named w = pick sums w

-- an operator on bits
abbrev pub bits : List (List ℕ × IntOp)
bits =
    (codes "clz", int.Clz) ∷
    (codes "ctz", int.Ctz) ∷
    (codes "popcnt", int.Popcnt) ∷
    (codes "and", int.And) ∷
    (codes "or", int.Or) ∷
    (codes "xor", int.Xor) ∷
    (codes "shl", int.Shl) ∷
    (codes "shr_s", int.ShrS) ∷
    (codes "shr_u", int.ShrU) ∷
    (codes "rotl", int.Rotl) ∷
    (codes "rotr", int.Rotr) ∷
    []

unfoldable pub bit_named : List ℕ → Option IntOp
bit_named w = pick bits w

abbrev pub or_else : {A : Type 0} → Option A → Option A → Option A
or_else None other = other
or_else (Some x) other = Some x

-- the operator of a name, behind its width
unfoldable pub int_named : List ℕ → Option IntOp
int_named w = or_else (test_named w) (or_else (sum_named w) (bit_named w))

-- the operator of a name that has a width
unfoldable pub wide_named : List ℕ → Option NumOp
wide_named w =
    if same_word (take 4 w) (codes "i32.") then option_map num.W32 (int_named (drop 4 w)) else
    (if same_word (take 4 w) (codes "i64.") then option_map num.W64 (int_named (drop 4 w)) else None)

-- the operator of a name
unfoldable pub op_named : List ℕ → Option NumOp
op_named w =
    if same_word w (codes "i32.wrap_i64") then Some num.Wrap else
    (if same_word w (codes "i64.extend_i32_s") then Some num.ExtendS else
    (if same_word w (codes "i64.extend_i32_u") then Some num.ExtendU else wide_named w))
