-- Parts of a list that are read one after another.
use Rattle.std.proofs.Common.{◌≡◌, ℕ, ◌+◌, ◌<◌, Result, Ok, Err, ap, arith}
use Rattle.sexp_text.specs.declared.fault.TextFault.{TextFault}
use Rattle.sexp_text.specs.Reading.{◌>>=◌}
use Rattle.notes_grammar.specs.Parts.{Part, Parts, Nil, Cons}
use Rattle.notes_grammar.specs.Reading.{next, field}
use Rattle.notes_terms.specs.words.Sizes.{size, sizes}

-- the first part of a list
pub first_part : (close : ℕ) (ps rest : Parts) (p : Part) → next close ps ≡ Ok (p, rest) → ps ≡ Cons p rest
first_part close Nil rest p e = absurd cc
first_part close (Cons q qs) rest p e = let same : ◌≡◌ {A = Part × Parts} (q, qs) (p, rest) = cc in (λ i. Cons (same i).0 (same i).1)

-- a list of which a part was read
pub after_part : {A : Type 0} (read : Part → Result A TextFault) (close : ℕ) (ps rest : Parts) (x : A) → field read close ps ≡ Ok (x, rest) → (p : Part) × (ps ≡ Cons p rest)
after_part read close Nil rest x e = absurd cc
after_part {A} read close (Cons q qs) rest x e = (q, by (read q) e)
  where
    paired : A → A × Parts
    paired y = (y, qs)

    by : (r : Result A TextFault) → (r >>= λ y. Ok (paired y)) ≡ Ok (x, rest) → Cons q qs ≡ Cons q rest
    by (Ok y) is = let same : ◌≡◌ {A = A × Parts} (y, qs) (x, rest) = cc in (λ i. Cons q (same i).1)
    by (Err f) is = absurd cc

pub after_smaller : {A : Type 0} (read : Part → Result A TextFault) (close : ℕ) (ps rest : Parts) (x : A) → field read close ps ≡ Ok (x, rest) → sizes rest < sizes ps
after_smaller read close ps rest x e =
    let found = after_part read close ps rest x e in
    omega (arith, ap sizes found.1)

pub next_smaller : (close : ℕ) (ps rest : Parts) (p : Part) → next close ps ≡ Ok (p, rest) → size p + sizes rest < sizes ps
next_smaller close ps rest p e = omega (arith, ap sizes (first_part close ps rest p e))
