-- The limits of the decoder.
use Rattle.std.specs.Prelude.{ℕ, zero, suc, List, [], ◌∷◌}

-- The most types, imports, functions, globals, parameters of a type, declared locals of a function, and blocks that
-- are open at once.
pub record Bounds : Type 0 where
  pub types : ℕ
  pub imports : ℕ
  pub functions : ℕ
  pub globals : ℕ
  pub params : ℕ
  pub locals : ℕ
  pub nesting : ℕ

-- The decoder's limits.
abbrev pub the_bounds : Bounds
the_bounds = record { types = 10000; imports = 10000; functions = 10000; globals = 10000; params = 1000; locals = 1000; nesting = 100 }

-- The same value, so many times.
abbrev pub copies : {A : Type 0} → ℕ → A → List A
copies zero x = []
copies (suc n) x = x ∷ copies n x
