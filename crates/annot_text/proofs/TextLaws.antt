-- What reading a text answers.
use Rattle.std.proofs.Common.{◌≡◌, ◌⊎◌, ℕ, List, Result, Ok, Err, IfOk, IfErr, refl, ap, inl, inr, subst, sym}
use Rattle.sexp_text.specs.declared.fault.TextFault.{TextFault}
use Rattle.sexp_text.specs.declared.fault.TextFault.TheVariants.{Refused, Limit, OutOfMemory}
use Rattle.sexp_text.specs.declared.sexp.Sexp.{Sexp}
use Rattle.sexp_text.specs.Items.{items_of}
use Rattle.sexp_text.specs.Reading.{Gives, read}
use Rattle.sexp_text.specs.Spelling.{SexpSpells}
use Rattle.notes.specs.declared.outline.Notes.{Notes}
use Rattle.notes_grammar.specs.Parts.{part_of}
use Rattle.notes_grammar.specs.Printed.{notes_text}
use Rattle.notes_grammar.specs.Reading.{notes_in}
use Rattle.notes_grammar.specs.Spelling.{NotesSpell, NotesFault}
use Rattle.notes_grammar.proofs.NotesLaws.{reads_spelled, one_notes, no_both, one_fault, notes_again}
use Rattle.annot_text.specs.words.Texts.{IsRead}

pub read_fault : (text : List ℕ) (e : TextFault) → Gives items_of (Err e) (read text) → IsRead text (Err e)
unfolding NotesFault
read_fault text (Refused at w) h = inl h
read_fault text (Limit at w) h = inl h
read_fault text OutOfMemory h = tt

pub read_value : (text : List ℕ) (s : Sexp) (r : Result Notes TextFault) → SexpSpells text s → Gives (λ x. x) r (notes_in (part_of s)) → IsRead text r
unfolding NotesFault
read_value text s (Ok x) spells h = (s, spells, h)
read_value text s (Err (Refused at w)) spells h = inr (s, spells, h)
read_value text s (Err (Limit at w)) spells h = inr (s, spells, h)
read_value text s (Err OutOfMemory) spells h = tt

pub found : (text : List ℕ) (r : Result Notes TextFault) → IsRead text r → IfOk r (NotesSpell text)
found text (Ok n) h = reads_spelled text n h.0 h.1 h.2
found text (Err e) h = tt

pub only : (text : List ℕ) (r : Result Notes TextFault) → IsRead text r → (n : Notes) → NotesSpell text n → Gives (λ r. r) r (Ok n)
only text (Ok m) h n k = ap Ok (one_notes text n m k (reads_spelled text m h.0 h.1 h.2))
only text (Err (Refused at w)) h n k = absurd (no_both text n (Refused at w) k h)
only text (Err (Limit at w)) h n k = absurd (no_both text n (Limit at w) k h)
only text (Err OutOfMemory) h n k = tt

pub is_fault : (text : List ℕ) (r : Result Notes TextFault) → IsRead text r → IfErr r (λ e. (e ≡ OutOfMemory) ⊎ NotesFault text e)
is_fault text (Ok m) h = tt
is_fault text (Err (Refused at w)) h = inr h
is_fault text (Err (Limit at w)) h = inr h
is_fault text (Err OutOfMemory) h = inl refl

pub refused : (text : List ℕ) (r : Result Notes TextFault) → IsRead text r → (e : TextFault) → NotesFault text e → Gives {X = Notes} {Y = Notes} (λ r. r) r (Err e)
refused text (Ok m) h e k = absurd (no_both text m e (reads_spelled text m h.0 h.1 h.2) k)
refused text (Err (Refused at w)) h e k = ap Err (one_fault text e (Refused at w) k h)
refused text (Err (Limit at w)) h e k = ap Err (one_fault text e (Limit at w) k h)
refused text (Err OutOfMemory) h e k = tt

pub again : (text : List ℕ) (r : Result Notes TextFault) → IsRead text r → (n : Notes) (other : List ℕ) → NotesSpell other n → text ≡ notes_text n → Gives (λ r. r) r (Ok n)
again text r h n other k e = only text r h n (subst (λ t. NotesSpell t n) (sym e) (notes_again other n k))

pub alone : (text : List ℕ) (n m : Notes) → NotesSpell text n → NotesSpell (notes_text n) m → m ≡ n
alone text n m h k = one_notes (notes_text n) m n k (notes_again text n h)
