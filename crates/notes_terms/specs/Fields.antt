-- Parts of a list, each read in its own way, one after another.
use Rattle.std.specs.Prelude.{ℕ, Result, Ok}
use Rattle.sexp_text.specs.declared.fault.TextFault.{TextFault}
use Rattle.sexp_text.specs.Reading.{◌>>=◌}
use Rattle.notes_grammar.specs.Parts.{Part, Parts}
use Rattle.notes_grammar.specs.Reading.{field, ended}

-- the next two parts, and those after them
abbrev pub two_fields : {A B : Type 0} → (Part → Result A TextFault) → (Part → Result B TextFault) → ℕ → Parts → Result (A × B × Parts) TextFault
two_fields a b close ps = do
  x ← field a close ps
  y ← field b close x.1
  Ok (x.0, y.0, y.1)

-- the next three parts, and those after them
abbrev pub three_fields : {A B C : Type 0} → (Part → Result A TextFault) → (Part → Result B TextFault) → (Part → Result C TextFault) → ℕ → Parts → Result (A × B × C × Parts) TextFault
three_fields a b c close ps = do
  x ← field a close ps
  y ← field b close x.1
  z ← field c close y.1
  Ok (x.0, y.0, z.0, z.1)

-- the next four parts, and those after them
abbrev pub four_fields : {A B C D : Type 0} → (Part → Result A TextFault) → (Part → Result B TextFault) → (Part → Result C TextFault) → (Part → Result D TextFault) → ℕ → Parts → Result (A × B × C × D × Parts) TextFault
four_fields a b c d close ps = do
  x ← field a close ps
  y ← field b close x.1
  z ← field c close y.1
  w ← field d close z.1
  Ok (x.0, y.0, z.0, w.0, w.1)

-- a list of one part
abbrev pub whole_one : {A : Type 0} → (Part → Result A TextFault) → ℕ → Parts → Result A TextFault
whole_one a close ps = do
  x ← field a close ps
  ended x.0 x.1

-- a list of two parts
abbrev pub whole_two : {A B : Type 0} → (Part → Result A TextFault) → (Part → Result B TextFault) → ℕ → Parts → Result (A × B) TextFault
whole_two a b close ps = do
  x ← field a close ps
  y ← field b close x.1
  ended (x.0, y.0) y.1

-- a list of three parts
abbrev pub whole_three : {A B C : Type 0} → (Part → Result A TextFault) → (Part → Result B TextFault) → (Part → Result C TextFault) → ℕ → Parts → Result (A × B × C) TextFault
whole_three a b c close ps = do
  x ← field a close ps
  y ← field b close x.1
  z ← field c close y.1
  ended (x.0, y.0, z.0) z.1

-- a list of four parts
abbrev pub whole_four : {A B C D : Type 0} → (Part → Result A TextFault) → (Part → Result B TextFault) → (Part → Result C TextFault) → (Part → Result D TextFault) → ℕ → Parts → Result (A × B × C × D) TextFault
whole_four a b c d close ps = do
  x ← field a close ps
  y ← field b close x.1
  z ← field c close y.1
  w ← field d close z.1
  ended (x.0, y.0, z.0, w.0) w.1
