-- What a conjunction of tests shows.
use Rattle.std.proofs.Common.{◌≡◌, Bool, true, false, ◌&&◌, ◌↔◌, IsTrue, refl, sym, true≢false}

pub both : (a b : Bool) → (a && b) ≡ true → (a ≡ true) × (b ≡ true)
both true b e = (refl, e)
both false b e = absurd (true≢false (sym e))

pub and_true : (a b : Bool) → a ≡ true → b ≡ true → (a && b) ≡ true
and_true true b e f = f
and_true false b e f = e

-- two tests of one fact are equal
pub one_test : {P : Type 0} (a b : Bool) → IsTrue a ↔ P → IsTrue b ↔ P → a ≡ b
one_test true true p q = refl
one_test false false p q = refl
one_test true false p q = absurd (true≢false (sym (q.1 (p.0 refl))))
one_test false true p q = absurd (true≢false (sym (p.1 (q.0 refl))))
