-- What is read behind a part.
use Rattle.std.specs.Prelude.{Result, Ok}
use Rattle.sexp_text.specs.declared.fault.TextFault.{TextFault}
use Rattle.sexp_text.specs.Reading.{◌>>=◌}

-- both, where the second is read behind the first
abbrev pub joined : {A B : Type 0} → A → Result B TextFault → Result (A × B) TextFault
joined x r = r >>= λ y. Ok (x, y)
