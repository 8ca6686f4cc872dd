-- Reading a script from the value of its text, in the order of the text: the script, or the first fault.
use Rattle.std.specs.Prelude.{ℕ, ◌^◌, ◌-◌, ℤ, pos, negsuc, Bool, false, nat_le, ◌&&◌, if◌then◌else◌, List, [], ◌∷◌, ◌++◌, Option, Some, None, Result, Ok, codes}
use Rattle.std.specs.Str.{bytes_eq}
use Rattle.wasm_values.specs.declared.number.Val.{Val}
use Rattle.wasm_values.specs.declared.number.Val.TheVariants.{I32, I64}
use Rattle.sexp_text.specs.declared.fault.TextFault.{TextFault}
use Rattle.sexp_text.specs.declared.fault.TextWord.TheVariants as fault
use Rattle.sexp_text.specs.declared.sexp.Node.{Node, Num, Word, Str, List'}
use Rattle.sexp_text.specs.declared.sexp.Sexp.{Sexp}
use Rattle.sexp_text.specs.Reading.{◌>>=◌, refused}
use Rattle.script_text.specs.declared.script.Load.{Load}
use Rattle.script_text.specs.declared.script.Origin.{Origin}
use Rattle.script_text.specs.declared.script.Action.{Action}
use Rattle.script_text.specs.declared.script.Action.TheVariants.{New, Call}
use Rattle.script_text.specs.declared.script.Script.{Script}
use Rattle.script_text.specs.Names.{is_among, is_name}
use Rattle.script_text.specs.Parts.{parts_of}
use Rattle.script_text.specs.Grammar.{modules_of, instances_of}

-- ---- parts

-- a part that does not fit
abbrev pub form : {A : Type 0} → ℕ → Result A TextFault
form at = refused at fault.Form

-- the next part of a list that closes at this place, and those after it
abbrev pub next : ℕ → List Sexp → Result (Sexp × List Sexp) TextFault
next close [] = form close
next close (s ∷ ss) = Ok (s, ss)

-- the list has no more parts
abbrev pub ended : List Sexp → Result (Unit {0}) TextFault
ended [] = Ok tt
ended (s ∷ ss) = form s.at

-- what is there, or a part that does not fit
abbrev pub or_form : {A : Type 0} → ℕ → Option A → Result A TextFault
or_form at None = form at
or_form at (Some x) = Ok x

-- the parts of a list, and the place where it closes
unfoldable pub inside : Sexp → Result (List Sexp × ℕ) TextFault
inside s = or_form s.at (parts_of s.node)

abbrev pub word_of : Node → Option (List ℕ)
word_of (Word w) = Some w
word_of (Num z) = None
word_of (Str s) = None
word_of (List' shape parts close) = None

-- a word
unfoldable pub word : Sexp → Result (List ℕ) TextFault
word s = or_form s.at (word_of s.node)

abbrev pub string_of : Node → Option (List ℕ)
string_of (Str s) = Some s
string_of (Num z) = None
string_of (Word w) = None
string_of (List' shape parts close) = None

-- a string
unfoldable pub string : Sexp → Result (List ℕ) TextFault
string s = or_form s.at (string_of s.node)

-- a whole number between two others
abbrev pub number_between : (least greatest : ℕ) → ℤ → Option ℕ
number_between least greatest (pos n) = if nat_le least n && nat_le n greatest then Some n else None
number_between least greatest (negsuc n) = None

abbrev pub number_of : (least greatest : ℕ) → Node → Option ℕ
number_of least greatest (Num z) = number_between least greatest z
number_of least greatest (Word w) = None
number_of least greatest (Str s) = None
number_of least greatest (List' shape parts close) = None

-- a number between two others
unfoldable pub number : (least greatest : ℕ) → Sexp → Result ℕ TextFault
number least greatest s = or_form s.at (number_of least greatest s.node)

-- a name
unfoldable pub name : Sexp → Result (List ℕ) TextFault
name s = do
  w ← word s
  if is_name w then Ok w else form s.at

-- a name that is among these
unfoldable pub known : List (List ℕ) → Sexp → Result (List ℕ) TextFault
known names s = do
  n ← name s
  if is_among names n then Ok n else refused s.at fault.Name

-- a name that isn't among these
unfoldable pub fresh : List (List ℕ) → Sexp → Result (List ℕ) TextFault
fresh names s = do
  n ← name s
  if is_among names n then refused s.at fault.Name else Ok n

-- the parts of a list after this word, and the place where the list closes
unfoldable pub tagged : List ℕ → Sexp → Result (List Sexp × ℕ) TextFault
tagged tag s = do
  l ← inside s
  f ← next l.1 l.0
  w ← word f.0
  if bytes_eq w tag then Ok (f.1, l.1) else form f.0.at

abbrev pub is_same_word : (tag : List ℕ) → Option (List ℕ) → Bool
is_same_word tag None = false
is_same_word tag (Some w) = bytes_eq w tag

abbrev pub begins_with : (tag : List ℕ) → List Sexp → Bool
begins_with tag [] = false
begins_with tag (s ∷ ss) = is_same_word tag (word_of s.node)

abbrev pub has_tag : (tag : List ℕ) → Option (List Sexp × ℕ) → Bool
has_tag tag None = false
has_tag tag (Some l) = begins_with tag l.0

-- a list that begins with this word
unfoldable pub is_tagged : List ℕ → Sexp → Bool
is_tagged tag s = has_tag tag (parts_of s.node)

-- ---- scripts

-- FROM
unfoldable pub origin_in : List (List ℕ) → Sexp → Result Origin TextFault
origin_in made s = do
  l ← tagged (codes "from") s
  i ← next l.1 l.0
  instance ← known made i.0
  e ← next l.1 i.1
  export ← string e.0
  done ← ended e.1
  Ok (record { instance = instance; export = export; at = e.0.at })

-- the number of a VALUE, the last part of a list that closes at this place
unfoldable pub bits_in : (greatest : ℕ) → List Sexp × ℕ → Result ℕ TextFault
bits_in greatest l = do
  n ← next l.1 l.0
  x ← number 0 greatest n.0
  done ← ended n.1
  Ok x

-- VALUE
unfoldable pub value_in : Sexp → Result Val TextFault
value_in s =
    if is_tagged (codes "i32") s then (tagged (codes "i32") s >>= λ l. bits_in (2 ^ 32 - 1) l >>= λ x. Ok (I32 x))
    else (tagged (codes "i64") s >>= λ l. bits_in (2 ^ 64 - 1) l >>= λ x. Ok (I64 x))

-- parts that are each read so, behind what was read of the parts before
abbrev pub all_from : {A : Type 0} → (Sexp → Result A TextFault) → List A → List Sexp → Result (List A) TextFault
all_from read before [] = Ok before
all_from read before (s ∷ ss) = read s >>= λ x. all_from read (before ++ x ∷ []) ss

-- LOAD, behind these
unfoldable pub load_in : List (List ℕ) → Sexp → Result Load TextFault
load_in modules s = do
  l ← tagged (codes "load") s
  n ← next l.1 l.0
  name ← fresh modules n.0
  f ← next l.1 n.1
  file ← string f.0
  done ← ended f.1
  Ok (record { name = name; file = file })

-- the parts of a `new` behind its word, in a list that closes at this place
unfoldable pub new_in : (modules made : List (List ℕ)) → List Sexp × ℕ → Result Action TextFault
new_in modules made l = do
  i ← next l.1 l.0
  instance ← fresh made i.0
  m ← next l.1 i.1
  loaded ← known modules m.0
  from ← all_from (origin_in made) [] m.1
  Ok (New instance loaded from)

-- the parts of a `call` behind its word
unfoldable pub call_in : (made : List (List ℕ)) → List Sexp × ℕ → Result Action TextFault
call_in made l = do
  i ← next l.1 l.0
  instance ← known made i.0
  e ← next l.1 i.1
  export ← string e.0
  args ← all_from value_in [] e.1
  Ok (Call instance export e.0.at args)

-- ACTION
unfoldable pub action_in : (modules made : List (List ℕ)) → Sexp → Result Action TextFault
action_in modules made s =
    if is_tagged (codes "new") s then (tagged (codes "new") s >>= λ l. new_in modules made l)
    else (tagged (codes "call") s >>= λ l. call_in made l)

-- loads at the front, behind these, and the parts after them
abbrev pub loads_from : List Load → List Sexp → Result (List Load × List Sexp) TextFault
loads_from before [] = Ok (before, [])
loads_from before (s ∷ ss) =
    if is_tagged (codes "load") s then (load_in (modules_of before) s >>= λ l. loads_from (before ++ l ∷ []) ss) else Ok (before, s ∷ ss)

-- more actions, behind these
abbrev pub actions_from : (modules : List (List ℕ)) → List Action → List Sexp → Result (List Action) TextFault
actions_from modules before [] = Ok before
actions_from modules before (s ∷ ss) =
    action_in modules (instances_of before) s >>= λ a. actions_from modules (before ++ a ∷ []) ss

-- SCRIPT
unfoldable pub script_in : Sexp → Result Script TextFault
script_in s = do
  l ← tagged (codes "script") s
  n ← next l.1 l.0
  steps ← number 1 100000000 n.0
  loads ← loads_from [] n.1
  actions ← actions_from (modules_of loads.0) [] loads.1
  Ok (record { steps = steps; loads = loads.0; actions = actions })
