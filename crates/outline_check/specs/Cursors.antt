-- What a walk over functions and their instructions goes by.
use Rattle.std.specs.Prelude.{◌≡◌, ℕ, ◌≤◌, true, nat_eq, List, [], ◌∷◌, map, drop, find, Option}
use Rattle.std.specs.List.{list_all}
use Rattle.wasm_syntax.specs.declared.module.Func.{Func}
use Rattle.wasm_syntax.specs.FlatForm.{is_simple}
use Rattle.outline_check.specs.Outlines.{rise_within}

-- No body has a block, a loop or an if.
abbrev pub AreSimple : List Func → Type 0
AreSimple [] = Unit {0}
AreSimple (func ∷ funcs) = (list_all is_simple func.body ≡ true) × AreSimple funcs

module _ {A : Type 0} (key : A → ℕ) where
  -- The entry with this number, if there is one.
  abbrev pub numbered : List A → ℕ → Option A
  numbered entries i = find (λ entry. nat_eq (key entry) i) entries

  -- From place `cursor` on the numbers rise from `i` on, and each entry with such a number stands there.
  pub record IsCursor (entries : List A) (cursor i : ℕ) : Type 0 where
    pub high : ℕ
    pub rises : rise_within i high (map key (drop cursor entries)) ≡ true
    pub same : (j : ℕ) → i ≤ j → numbered entries j ≡ numbered (drop cursor entries) j
