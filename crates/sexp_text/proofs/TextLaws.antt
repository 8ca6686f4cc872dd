-- The laws that join what a text spells, what is read of it and what is printed.
use Rattle.std.proofs.Common.{◌≡◌, ◌++◌, ℕ, List, Result, Ok, Err, IfOk, refl, sym, ap, ◌∙◌, subst}
use Rattle.sexp_text.specs.declared.fault.TextFault.{TextFault}
use Rattle.sexp_text.specs.declared.fault.TextFault.TheVariants.{Refused, Limit, OutOfMemory}
use Rattle.sexp_text.specs.declared.sexp.Sexp.{Sexp}
use Rattle.sexp_text.specs.declared.reader.Mode.TheVariants.{Between}
use Rattle.sexp_text.specs.Faults.{IsNoEnd}
use Rattle.sexp_text.specs.Items.{Item, items_of}
use Rattle.sexp_text.specs.Reading.{Gives, Before, read}
use Rattle.sexp_text.specs.Spelling.{SexpSpells}
use Rattle.sexp_text.specs.Printing.{printed, tree_of}
use Rattle.sexp_text.proofs.AgainLemmas.{printed_again}
use Rattle.sexp_text.proofs.CompleteLemmas.{read-spelled}
use Rattle.sexp_text.proofs.FaultLemmas.{stays}
use Rattle.sexp_text.proofs.SameLemmas.{items_of-same}
use Rattle.sexp_text.proofs.SoundLemmas.{spelled-read}

ok_same : (xs ys : List Item) → ◌≡◌ {A = Result (List Item) TextFault} (Ok xs) (Ok ys) → xs ≡ ys
ok_same xs ys e = cc

pub one_value : (text : List ℕ) (s t : Sexp) → SexpSpells text s → SexpSpells text t → s ≡ t
one_value text s t h k = items_of-same s t (ok_same (items_of s) (items_of t) (sym (read-spelled text s h) ∙ read-spelled text t k))

pub found : (r : Result Sexp TextFault) (text : List ℕ) → Gives items_of r (read text) → IfOk r (SexpSpells text)
found (Ok s) text e = spelled-read text s e
found (Err d) text e = tt

-- what is given where the text spells s
given : (r : Result Sexp TextFault) (text : List ℕ) (s : Sexp) → Gives items_of r (read text) → SexpSpells text s → {Y : Type 0} (view : Sexp → Y) (y : Y) → view s ≡ y → Gives view r (Ok y)
given (Ok x) text s e h view y v =
    let same : x ≡ s = one_value text x s (spelled-read text x e) h in
    ap Ok (sym (ap view same ∙ v))
given (Err OutOfMemory) text s e h view y v = tt
given (Err (Refused at w)) text s e h view y v = let e2 = read-spelled text s h in cc
given (Err (Limit at w)) text s e h view y v = let e2 = read-spelled text s h in cc

pub only : (r : Result Sexp TextFault) (text : List ℕ) (s : Sexp) → Gives items_of r (read text) → SexpSpells text s → Gives (λ x. x) r (Ok s)
only r text s e h = given r text s e h (λ x. x) s refl

pub again : (r : Result Sexp TextFault) (text : List ℕ) (s : Sexp) (other : List ℕ) → Gives items_of r (read text) → SexpSpells other s → text ≡ printed s →
    Gives tree_of r (Ok (tree_of s))
again r text s other e h t =
    let a = printed_again other s h in
    given r text a.0 e (subst (λ bs. SexpSpells bs a.0) (sym t) a.1) tree_of (tree_of s) a.2

pub fault_stays : (text more : List ℕ) (fault : TextFault) → read text ≡ Err fault → IsNoEnd fault → read (text ++ more) ≡ Err fault
unfolding read
fault_stays text more fault e n = stays text more 0 Before Between fault e n
