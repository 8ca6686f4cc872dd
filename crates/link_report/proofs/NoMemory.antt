-- A text's fault is never want of memory.
use Rattle.std.proofs.Common.{◌≡◌, ◌⊎◌, ℕ, ◌^◌, ◌-◌, Bool, true, false, if◌then◌else◌, List, [], ◌∷◌, ◌++◌, Option, Some, None, Result, Ok, Err, inl, inr}
use Rattle.std.specs.Prelude.{codes}
use Rattle.std.specs.Str.{bytes_eq}
use Rattle.wasm_values.specs.declared.number.Val.TheVariants.{I32, I64}
use Rattle.sexp_text.specs.declared.fault.TextFault.{TextFault}
use Rattle.sexp_text.specs.declared.fault.TextFault.TheVariants.{OutOfMemory}
use Rattle.sexp_text.specs.declared.fault.TextWord.{TextWord}
use Rattle.sexp_text.specs.declared.sexp.Sexp.{Sexp}
use Rattle.sexp_text.specs.Reading.{◌>>=◌, read, refused}
use Rattle.sexp_text.specs.Spelling.{SexpSpells}
use Rattle.sexp_text.proofs.WordLemmas.{fault_refused}
use Rattle.script_text.specs.declared.script.Load.{Load}
use Rattle.script_text.specs.declared.script.Action.{Action}
use Rattle.script_text.specs.Names.{is_among, is_name}
use Rattle.script_text.specs.Parts.{parts_of}
use Rattle.script_text.specs.Grammar.{modules_of, instances_of}
use Rattle.script_text.specs.Reading.{next, ended, or_form, inside, word_of, word, string_of, string, number_of, number, name, known, fresh, tagged, is_tagged, origin_in, bits_in, value_in, all_from, load_in, new_in, call_in, action_in, loads_from, actions_from, script_in}
use Rattle.script_text.specs.Spelling.{ScriptFault}

-- other than want of memory
abbrev NoMemory : {A : Type 0} → Result A TextFault → Type 0
NoMemory r = r ≡ Err OutOfMemory → ⊥

ok_no : {A : Type 0} (x : A) → NoMemory (Ok x)
ok_no x e = absurd cc

refused_no : {A : Type 0} (at : ℕ) (w : TextWord) → NoMemory {A = A} (refused at w)
refused_no at w e = absurd cc

fault_same : {A : Type 0} (d e : TextFault) → ◌≡◌ {A = Result A TextFault} (Err d) (Err e) → d ≡ e
fault_same d e h = cc

then_no : {A B : Type 0} (r : Result A TextFault) (f : A → Result B TextFault) → NoMemory r → ((x : A) → NoMemory (f x)) → NoMemory (r >>= f)
then_no (Ok x) f a b = b x
then_no (Err d) f a b = λ e. let same : d ≡ OutOfMemory = fault_same d OutOfMemory e in a cc

if_no : {A : Type 0} (b : Bool) (r s : Result A TextFault) → NoMemory r → NoMemory s → NoMemory (if b then r else s)
if_no true r s p q = p
if_no false r s p q = q

-- ---- parts

or_form_no : {A : Type 0} (at : ℕ) (o : Option A) → NoMemory (or_form at o)
or_form_no at None e = absurd cc
or_form_no at (Some x) e = absurd cc

next_no : (close : ℕ) (ss : List Sexp) → NoMemory (next close ss)
next_no close [] e = absurd cc
next_no close (s ∷ ss) e = absurd cc

ended_no : (ss : List Sexp) → NoMemory (ended ss)
ended_no [] e = absurd cc
ended_no (s ∷ ss) e = absurd cc

inside_no : (s : Sexp) → NoMemory (inside s)
unfolding inside
inside_no s = or_form_no s.at (parts_of s.node)

word_no : (s : Sexp) → NoMemory (word s)
unfolding word
word_no s = or_form_no s.at (word_of s.node)

string_no : (s : Sexp) → NoMemory (string s)
unfolding string
string_no s = or_form_no s.at (string_of s.node)

number_no : (least greatest : ℕ) (s : Sexp) → NoMemory (number least greatest s)
unfolding number
number_no least greatest s = or_form_no s.at (number_of least greatest s.node)

name_no : (s : Sexp) → NoMemory (name s)
unfolding name
name_no s = then_no (word s) _ (word_no s) (λ w. if_no (is_name w) _ _ (ok_no w) (refused_no s.at _))

known_no : (names : List (List ℕ)) (s : Sexp) → NoMemory (known names s)
unfolding known
known_no names s = then_no (name s) _ (name_no s) (λ n. if_no (is_among names n) _ _ (ok_no n) (refused_no s.at _))

fresh_no : (names : List (List ℕ)) (s : Sexp) → NoMemory (fresh names s)
unfolding fresh
fresh_no names s = then_no (name s) _ (name_no s) (λ n. if_no (is_among names n) _ _ (refused_no s.at _) (ok_no n))

tagged_no : (tag : List ℕ) (s : Sexp) → NoMemory (tagged tag s)
unfolding tagged
tagged_no tag s =
    then_no (inside s) _ (inside_no s) (λ l.
    then_no (next l.1 l.0) _ (next_no l.1 l.0) (λ f.
    then_no (word f.0) _ (word_no f.0) (λ w. if_no (bytes_eq w tag) _ _ (ok_no (f.1, l.1)) (refused_no f.0.at _))))

all_no : {A : Type 0} (read : Sexp → Result A TextFault) → ((s : Sexp) → NoMemory (read s)) → (before : List A) (ss : List Sexp) → NoMemory (all_from read before ss)
all_no one each before [] = ok_no before
all_no one each before (s ∷ ss) = then_no (one s) _ (each s) (λ x. all_no one each (before ++ x ∷ []) ss)

-- ---- scripts

origin_no : (made : List (List ℕ)) (s : Sexp) → NoMemory (origin_in made s)
unfolding origin_in
origin_no made s =
    then_no (tagged (codes "from") s) _ (tagged_no (codes "from") s) (λ l.
    then_no (next l.1 l.0) _ (next_no l.1 l.0) (λ i.
    then_no (known made i.0) _ (known_no made i.0) (λ instance.
    then_no (next l.1 i.1) _ (next_no l.1 i.1) (λ e.
    then_no (string e.0) _ (string_no e.0) (λ export.
    then_no (ended e.1) _ (ended_no e.1) (λ done. ok_no _))))))

bits_no : (greatest : ℕ) (l : List Sexp × ℕ) → NoMemory (bits_in greatest l)
unfolding bits_in
bits_no greatest l =
    then_no (next l.1 l.0) _ (next_no l.1 l.0) (λ n.
    then_no (number 0 greatest n.0) _ (number_no 0 greatest n.0) (λ x.
    then_no (ended n.1) _ (ended_no n.1) (λ done. ok_no x)))

value_no : (s : Sexp) → NoMemory (value_in s)
unfolding value_in
value_no s =
    if_no (is_tagged (codes "i32") s) _ _
    (then_no (tagged (codes "i32") s) _ (tagged_no (codes "i32") s) (λ l. then_no (bits_in (2 ^ 32 - 1) l) _ (bits_no (2 ^ 32 - 1) l) (λ x. ok_no (I32 x))))
    (then_no (tagged (codes "i64") s) _ (tagged_no (codes "i64") s) (λ l. then_no (bits_in (2 ^ 64 - 1) l) _ (bits_no (2 ^ 64 - 1) l) (λ x. ok_no (I64 x))))

load_no : (modules : List (List ℕ)) (s : Sexp) → NoMemory (load_in modules s)
unfolding load_in
load_no modules s =
    then_no (tagged (codes "load") s) _ (tagged_no (codes "load") s) (λ l.
    then_no (next l.1 l.0) _ (next_no l.1 l.0) (λ n.
    then_no (fresh modules n.0) _ (fresh_no modules n.0) (λ name.
    then_no (next l.1 n.1) _ (next_no l.1 n.1) (λ f.
    then_no (string f.0) _ (string_no f.0) (λ file.
    then_no (ended f.1) _ (ended_no f.1) (λ done. ok_no _))))))

new_no : (modules made : List (List ℕ)) (l : List Sexp × ℕ) → NoMemory (new_in modules made l)
unfolding new_in
new_no modules made l =
    then_no (next l.1 l.0) _ (next_no l.1 l.0) (λ i.
    then_no (fresh made i.0) _ (fresh_no made i.0) (λ instance.
    then_no (next l.1 i.1) _ (next_no l.1 i.1) (λ m.
    then_no (known modules m.0) _ (known_no modules m.0) (λ loaded.
    then_no (all_from (origin_in made) [] m.1) _ (all_no (origin_in made) (origin_no made) [] m.1) (λ from. ok_no _)))))

call_no : (made : List (List ℕ)) (l : List Sexp × ℕ) → NoMemory (call_in made l)
unfolding call_in
call_no made l =
    then_no (next l.1 l.0) _ (next_no l.1 l.0) (λ i.
    then_no (known made i.0) _ (known_no made i.0) (λ instance.
    then_no (next l.1 i.1) _ (next_no l.1 i.1) (λ e.
    then_no (string e.0) _ (string_no e.0) (λ export.
    then_no (all_from value_in [] e.1) _ (all_no value_in value_no [] e.1) (λ args. ok_no _)))))

action_no : (modules made : List (List ℕ)) (s : Sexp) → NoMemory (action_in modules made s)
unfolding action_in
action_no modules made s =
    if_no (is_tagged (codes "new") s) _ _
    (then_no (tagged (codes "new") s) _ (tagged_no (codes "new") s) (λ l. new_no modules made l))
    (then_no (tagged (codes "call") s) _ (tagged_no (codes "call") s) (λ l. call_no made l))

loads_no : (before : List Load) (ss : List Sexp) → NoMemory (loads_from before ss)
loads_no before [] = ok_no _
loads_no before (s ∷ ss) =
    if_no (is_tagged (codes "load") s) _ _ (then_no (load_in (modules_of before) s) _ (load_no (modules_of before) s) (λ l. loads_no (before ++ l ∷ []) ss)) (ok_no _)

actions_no : (modules : List (List ℕ)) (before : List Action) (ss : List Sexp) → NoMemory (actions_from modules before ss)
actions_no modules before [] = ok_no before
actions_no modules before (s ∷ ss) =
    then_no (action_in modules (instances_of before) s) _ (action_no modules (instances_of before) s) (λ a. actions_no modules (before ++ a ∷ []) ss)

script_no : (s : Sexp) → NoMemory (script_in s)
unfolding script_in
script_no s =
    then_no (tagged (codes "script") s) _ (tagged_no (codes "script") s) (λ l.
    then_no (next l.1 l.0) _ (next_no l.1 l.0) (λ n.
    then_no (number 1 100000000 n.0) _ (number_no 1 100000000 n.0) (λ steps.
    then_no (loads_from [] n.1) _ (loads_no [] n.1) (λ loads.
    then_no (actions_from (modules_of loads.0) [] loads.1) _ (actions_no (modules_of loads.0) [] loads.1) (λ actions. ok_no _)))))

-- ---- texts

pub no_memory : (text : List ℕ) → ScriptFault text OutOfMemory → ⊥
unfolding ScriptFault
no_memory text h = by h
  where
    by : (read text ≡ Err OutOfMemory) ⊎ ((s : Sexp) × SexpSpells text s × (script_in s ≡ Err OutOfMemory)) → ⊥
    by (inl e) = (fault_refused text OutOfMemory e tt).refused_so
    by (inr f) = script_no f.0 f.2
