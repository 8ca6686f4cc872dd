-- Reading sections one after another, as a loop does, and joining types and bodies.
use Rattle.std.proofs.Common.{◌≡◌, ℕ, zero, suc, ◌<◌, ◌==◌, true, false, List, [], ◌∷◌, ◌++◌, length, get_or, take, Result, Ok, Err, refl, sym, ap, ◌∙◌, arith}
use Rattle.std.proofs.lemmas.Bool.{eqb-true}
use Rattle.binary_grammar.specs.declared.fault.DecodeFault.{DecodeFault}
use Rattle.binary_grammar.specs.declared.fault.DecodeFault.TheVariants.{Malformed, Limit, OutOfMemory}
use Rattle.wasm_syntax.specs.declared.module.Func.{Func}
use Rattle.binary_grammar.specs.declared.section.Body.{Body}
use Rattle.binary_grammar.specs.declared.section.Draft.{Draft}
use Rattle.binary_grammar.specs.declared.section.Section.{Section}
use Rattle.binary_grammar.specs.Bounds.{Bounds}
use Rattle.binary_grammar.specs.words.Reading.{Fails}
use Rattle.binary_grammar.specs.words.SectionReading.{section_at, with_section, sections_at, funcs_of}

pub goes_on : (most : Bounds) (k m end : ℕ) (d : Draft) (bytes : List ℕ) (s : Section) (after : List ℕ) (total : Result Draft DecodeFault) →
    k ≡ suc m → (length bytes == 0) ≡ false → section_at most d.last (length d.declared) end bytes ≡ Ok (s, after) → sections_at most k d end bytes ≡ total →
    sections_at most m (with_section d s) end after ≡ total
unfolding sections_at
goes_on most k m end d [] s after total e h r so_far = absurd cc
goes_on most k m end d (b ∷ bs) s after total e h r so_far =
    let one : sections_at most k d end (b ∷ bs) ≡ sections_at most m (with_section d s) end after = rw (e, r) refl in sym one ∙ so_far

pub fails : (f : DecodeFault) (most : Bounds) (k m end : ℕ) (d : Draft) (bytes : List ℕ) (total : Result Draft DecodeFault) →
    k ≡ suc m → (length bytes == 0) ≡ false → Fails f (section_at most d.last (length d.declared) end bytes) → sections_at most k d end bytes ≡ total → Fails f total
unfolding sections_at
fails f most k m end d [] total e h r so_far = absurd cc
fails OutOfMemory most k m end d (b ∷ bs) total e h r so_far = tt
fails (Malformed at word) most k m end d (b ∷ bs) total e h r so_far =
    let one : sections_at most k d end (b ∷ bs) ≡ Err (Malformed at word) = rw (e, r) refl in sym so_far ∙ one
fails (Limit at word) most k m end d (b ∷ bs) total e h r so_far =
    let one : sections_at most k d end (b ∷ bs) ≡ Err (Limit at word) = rw (e, r) refl in sym so_far ∙ one

pub runs_out : (most : Bounds) (k end : ℕ) (d : Draft) (bytes : List ℕ) (total : Result Draft DecodeFault) →
    k ≡ 0 → sections_at most k d end bytes ≡ total → total ≡ Ok d
unfolding sections_at
runs_out most k end d bytes total e so_far =
    let one : sections_at most k d end bytes ≡ Ok d = rw e refl in sym so_far ∙ one

none_left : (most : Bounds) (k end : ℕ) (d : Draft) → sections_at most k d end [] ≡ Ok d
unfolding sections_at
none_left most zero end d = refl
none_left most (suc k) end d = refl

pub is_done : (most : Bounds) (k end : ℕ) (d : Draft) (bytes : List ℕ) (total : Result Draft DecodeFault) →
    (length bytes == 0) ≡ true → sections_at most k d end bytes ≡ total → total ≡ Ok d
is_done most k end d [] total e so_far = sym so_far ∙ none_left most k end d
is_done most k end d (b ∷ bs) total e so_far = absurd (omega (arith, eqb-true (length (b ∷ bs)) 0 e))

abbrev func_of : ℕ → Body → Func
func_of t b = record { ty = t; locals = b.locals; body = b.code }

-- one more type and body
pub more_funcs : (ts : List ℕ) (bs : List Body) (b : Body) (d : ℕ) → length bs < length ts →
    funcs_of (take (length (bs ++ b ∷ [])) ts) (bs ++ b ∷ []) ≡ funcs_of (take (length bs) ts) bs ++ func_of (get_or ts (length bs) d) b ∷ []
more_funcs [] bs b d h = absurd (omega arith)
more_funcs (t ∷ ts) [] b d h = refl
more_funcs (t ∷ ts) (c ∷ bs) b d h = ap (λ fs. func_of t c ∷ fs) (more_funcs ts bs b d (omega arith))
