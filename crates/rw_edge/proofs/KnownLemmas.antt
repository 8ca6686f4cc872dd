-- What a run of reads and writes does to the bytes that are known.
use Rattle.std.proofs.Common.{◌≡◌, ◌<◌, ◌+◌, ℕ, List, ◌++◌, Option, None, Some, IfSome, length, take, drop, sym, ap, subst, ◌∙◌, arith, length-append, ◌-◌}
use Rattle.std.proofs.lemmas.List.{take_rest}
use Rattle.std.proofs.Math.Seq.{take-add}
use Rattle.std.specs.Io.KnownBytes.{Consumes, Appends}
use Rattle.std.proofs.KnownBytes.{Appends-trans}

-- more bytes than this were taken, so there were more
pub Consumes-longer : (a b : Option (List ℕ)) (taken : List ℕ) (n : ℕ) → n < length taken → Consumes a b taken → IfSome a (λ all. n < length all)
Consumes-longer None b taken n more p = tt
Consumes-longer (Some x) None taken n more p = absurd p
Consumes-longer (Some x) (Some y) taken n more p = omega (arith, ap length p, length-append taken y)

-- one more piece of the text was written, from what was left of it
pub Appends-next : (a b c : Option (List ℕ)) (text : List ℕ) (at n : ℕ)
    → Appends a b (take at text) → Appends b c (take n (take (length text - at) (drop at text))) → Appends a c (take (at + n) text)
Appends-next a b c text at n first second =
    let e : take n (take (length text - at) (drop at text)) ≡ take n (drop at text) = ap (take n) (take_rest text at) in
    subst (Appends a c) (sym (take-add at n text ∙ ap (λ l. take at text ++ l) (sym e))) (Appends-trans a b c _ _ first second)
