-- Texts of scripts.
use Rattle.std.proofs.Common.{◌≡◌, ◌⊎◌, ℕ, List, Result, Ok, Err, IfOk, IfErr, refl, ap, ◌∙◌, inl, inr}
use Rattle.sexp_text.specs.declared.fault.TextFault.{TextFault}
use Rattle.sexp_text.specs.declared.fault.TextFault.TheVariants.{Refused, Limit, OutOfMemory}
use Rattle.sexp_text.specs.declared.sexp.Sexp.{Sexp}
use Rattle.sexp_text.specs.Items.{items_of}
use Rattle.sexp_text.specs.Reading.{Gives, read}
use Rattle.sexp_text.specs.Spelling.{SexpSpells}
use Rattle.sexp_text.specs.Faults.{IsText}
use Rattle.sexp_text.proofs.TextLaws.{one_value}
use Rattle.sexp_text.proofs.WordLemmas.{value_or_fault}
use Rattle.sexp_text.proofs.CompleteLemmas.{read-spelled}
use Rattle.script_text.specs.declared.script.Script.{Script}
use Rattle.script_text.specs.Reading.{script_in}
use Rattle.script_text.specs.Spelling.{ScriptSpells, ScriptFault}
use Rattle.script_text.specs.words.{IsRead}
use Rattle.script_text.proofs.ScriptLaws.{script_exact}

pub one_script : (text : List ℕ) (x y : Script) → ScriptSpells text x → ScriptSpells text y → x ≡ y
unfolding ScriptSpells
one_script text x y h k =
    let same : h.0 ≡ k.0 = one_value text h.0 k.0 h.1 k.1 in
    let r : script_in h.0 ≡ Ok x = script_exact.whole h.0 x h.2 in
    let q : script_in h.0 ≡ Ok y = ap script_in same ∙ script_exact.whole k.0 y k.2 in
    cc

pub not_both : (text : List ℕ) (x : Script) (e : TextFault) → ScriptSpells text x → ScriptFault text e → ⊥
unfolding ScriptSpells ScriptFault
not_both text x e h k = by k
  where
    by : ((read text ≡ Err e) ⊎ ((s : Sexp) × SexpSpells text s × (script_in s ≡ Err e))) → ⊥
    by (inl f) = let r : read text ≡ Ok (items_of h.0) = read-spelled text h.0 h.1 in cc
    by (inr f) =
        let same : f.0 ≡ h.0 = one_value text f.0 h.0 f.1 h.1 in
        let r : script_in f.0 ≡ Ok x = ap script_in same ∙ script_exact.whole h.0 x h.2 in
        let q = f.2 in
        cc

pub one_fault : (text : List ℕ) (d e : TextFault) → ScriptFault text d → ScriptFault text e → d ≡ e
unfolding ScriptFault
one_fault text d e h k = by h k
  where
    by : ((read text ≡ Err d) ⊎ ((s : Sexp) × SexpSpells text s × (script_in s ≡ Err d))) → ((read text ≡ Err e) ⊎ ((s : Sexp) × SexpSpells text s × (script_in s ≡ Err e))) → d ≡ e
    by (inl f) (inl g) = cc
    by (inl f) (inr g) = let r : read text ≡ Ok (items_of g.0) = read-spelled text g.0 g.1 in absurd cc
    by (inr f) (inl g) = let r : read text ≡ Ok (items_of f.0) = read-spelled text f.0 f.1 in absurd cc
    by (inr f) (inr g) =
        let same : f.0 ≡ g.0 = one_value text f.0 g.0 f.1 g.1 in
        let p = f.2 in
        let q : script_in f.0 ≡ Err e = ap script_in same ∙ g.2 in
        cc

pub spelled_or_faulty : (text : List ℕ) → ((x : Script) × ScriptSpells text x) ⊎ ((fault : TextFault) × ScriptFault text fault)
unfolding ScriptSpells ScriptFault
spelled_or_faulty text = by (value_or_fault text)
  where
    by_script : (s : Sexp) → SexpSpells text s → (r : Result Script TextFault) → script_in s ≡ r →
        ((x : Script) × ScriptSpells text x) ⊎ ((fault : TextFault) × ScriptFault text fault)
    by_script s h (Ok x) e = inl (x, (s, h, script_exact.sound s x e))
    by_script s h (Err d) e = inr (d, inr (s, h, e))

    by : (IsText text ⊎ ((fault : TextFault) × (read text ≡ Err fault) × (IsText text → ⊥) × ((other : TextFault) → read text ≡ Err other → other ≡ fault))) →
        ((x : Script) × ScriptSpells text x) ⊎ ((fault : TextFault) × ScriptFault text fault)
    by (inl h) = by_script h.0 h.1 (script_in h.0) refl
    by (inr h) = inr (h.0, inl h.1)

-- ---- what is answered

pub read_fault : (text : List ℕ) (e : TextFault) → Gives items_of (Err e) (read text) → IsRead text (Err e)
unfolding ScriptFault
read_fault text (Refused at w) h = inl h
read_fault text (Limit at w) h = inl h
read_fault text OutOfMemory h = tt

pub read_value : (text : List ℕ) (s : Sexp) (r : Result Script TextFault) → SexpSpells text s → Gives (λ x. x) r (script_in s) → IsRead text r
unfolding ScriptFault
read_value text s (Ok x) spells h = (s, spells, h)
read_value text s (Err (Refused at w)) spells h = inr (s, spells, h)
read_value text s (Err (Limit at w)) spells h = inr (s, spells, h)
read_value text s (Err OutOfMemory) spells h = tt

read_spelled : (text : List ℕ) (x : Script) → IsRead text (Ok x) → ScriptSpells text x
unfolding ScriptSpells
read_spelled text x h = (h.0, h.1, script_exact.sound h.0 x h.2)

pub found : (text : List ℕ) (r : Result Script TextFault) → IsRead text r → IfOk r (ScriptSpells text)
found text (Ok x) h = read_spelled text x h
found text (Err e) h = tt

pub only : (text : List ℕ) (r : Result Script TextFault) → IsRead text r → (x : Script) → ScriptSpells text x → Gives (λ r. r) r (Ok x)
only text (Ok y) h x k = ap Ok (one_script text x y k (read_spelled text y h))
only text (Err (Refused at w)) h x k = absurd (not_both text x (Refused at w) k h)
only text (Err (Limit at w)) h x k = absurd (not_both text x (Limit at w) k h)
only text (Err OutOfMemory) h x k = tt

pub is_fault : (text : List ℕ) (r : Result Script TextFault) → IsRead text r → IfErr r (λ e. (e ≡ OutOfMemory) ⊎ ScriptFault text e)
is_fault text (Ok y) h = tt
is_fault text (Err (Refused at w)) h = inr h
is_fault text (Err (Limit at w)) h = inr h
is_fault text (Err OutOfMemory) h = inl refl

pub refused : (text : List ℕ) (r : Result Script TextFault) → IsRead text r → (e : TextFault) → ScriptFault text e → Gives {X = Script} {Y = Script} (λ r. r) r (Err e)
refused text (Ok y) h e k = absurd (not_both text y e (read_spelled text y h) k)
refused text (Err (Refused at w)) h e k = ap Err (one_fault text e (Refused at w) k h)
refused text (Err (Limit at w)) h e k = ap Err (one_fault text e (Limit at w) k h)
refused text (Err OutOfMemory) h e k = tt
