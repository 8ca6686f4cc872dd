-- What bytes begin with is fixed by the bytes, and so is the last of whole sections.
use Rattle.std.proofs.Common.{◌≡◌, ℕ, ◌<◌, List, [], ◌∷◌, ◌++◌, length, take, drop, Ok, refl, sym, ap, subst, ◌∙◌, append_assoc, arith}
use Rattle.std.specs.List.{AllByRecursion, concat}
use Rattle.std.proofs.lemmas.List.{length-append, take_at, drop_at, append-nil}
use Rattle.binary_grammar.specs.Numbers.{SpellsU32}
use Rattle.binary_grammar.specs.words.NumberReading.{u32_at}
use Rattle.binary_grammar.proofs.NumberLaws.{ok_is, u32_again}
use Rattle.wasm_seal.specs.Sealed.{IsSection}
use Rattle.wasm_seal.specs.words.Parts.{BeginsSized, BeginsWhole, EndsWith}

-- fronts of one length
pub same_fronts : (a b r s : List ℕ) → length a ≡ length b → a ++ r ≡ b ++ s → (a ≡ b) × (r ≡ s)
same_fronts a b r s e h = (
  sym (take_at a r (length b) e) ∙ ap (take (length b)) h ∙ take_at b s (length b) refl,
  sym (drop_at a r (length b) e) ∙ ap (drop (length b)) h ∙ drop_at b s (length b) refl,
)

pub same_tails : (a b : ℕ) (r s : List ℕ) → a ∷ r ≡ b ∷ s → r ≡ s
same_tails a b r s e = cc

-- a number in front is fixed by the bytes
pub number_once : (bytes a b r s : List ℕ) (n m : ℕ) → bytes ≡ a ++ r → SpellsU32 a n → bytes ≡ b ++ s → SpellsU32 b m → (n ≡ m) × (r ≡ s)
number_once bytes a b r s n m p h q k =
    let first : u32_at bytes ≡ Ok (n, r) = ap u32_at p ∙ u32_again a r n h in
    let second : u32_at bytes ≡ Ok (m, s) = ap u32_at q ∙ u32_again b s m k in
    let e = ok_is (n, r) (m, s) (sym first ∙ second) in
    (ap (λ (z : ℕ × List ℕ). z.0) e, ap (λ (z : ℕ × List ℕ). z.1) e)

pub sized_once : (bytes c r d s : List ℕ) → BeginsSized bytes c r → BeginsSized bytes d s → (c ≡ d) × (r ≡ s)
sized_once bytes c r d s h k =
    let e = number_once bytes h.0 k.0 (c ++ r) (d ++ s) (length c) (length d) h.1 h.2 k.1 k.2 in
    same_fronts c d r s e.0 e.1

-- a whole section in front, taken apart
pub record Begun (bytes after : List ℕ) : Type 0 where
  pub id : ℕ
  pub rest : List ℕ
  pub contents : List ℕ
  pub parts : bytes ≡ id ∷ rest
  pub sized : BeginsSized rest contents after

pub begun : (bytes after : List ℕ) → BeginsWhole bytes after → Begun bytes after
begun bytes after h =
    let s = h.2 in
    record {
      id = s.0;
      rest = s.1 ++ (s.2 ++ after);
      contents = s.2;
      parts = h.1 ∙ ap (λ t. t ++ after) s.3 ∙ ap (λ t. s.0 ∷ t) (append_assoc s.1 s.2 after);
      sized = (s.1, refl, s.4);
    }

pub begins : (bytes after : List ℕ) (id : ℕ) (rest contents : List ℕ) → bytes ≡ id ∷ rest → BeginsSized rest contents after → BeginsWhole bytes after
begins bytes after id rest contents e h =
    (id ∷ (h.0 ++ contents), e ∙ ap (λ t. id ∷ t) (h.1 ∙ sym (append_assoc h.0 contents after)), (id, h.0, contents, refl, h.2))

pub whole_once : (bytes r s : List ℕ) → BeginsWhole bytes r → BeginsWhole bytes s → r ≡ s
whole_once bytes r s h k =
    let a = begun bytes r h in
    let b = begun bytes s k in
    let e : a.rest ≡ b.rest = same_tails a.id b.id a.rest b.rest (sym a.parts ∙ b.parts) in
    (sized_once b.rest a.contents r b.contents s (subst (λ t. BeginsSized t a.contents r) e a.sized) b.sized).1

pub some_bytes : (text : List ℕ) → IsSection text → 0 < length text
some_bytes text h = omega (arith, ap length h.3)

pub shorter_behind : (bytes after : List ℕ) → BeginsWhole bytes after → length after < length bytes
shorter_behind bytes after h = omega (arith, ap length h.1, length-append h.0 after, some_bytes h.0 h.2)

pub none_begins : (after : List ℕ) → BeginsWhole [] after → ⊥
none_begins after h = omega (arith, shorter_behind [] after h)

-- ---- the last of sections

-- a section alone
pub alone : (bytes last : List ℕ) → bytes ≡ last → IsSection last → BeginsWhole bytes []
alone bytes last e is = (last, e ∙ sym (append-nil last), is)

-- a section in front of others
pub before : (bytes s rest last : List ℕ) → bytes ≡ (s ++ rest) ++ last → IsSection s → BeginsWhole bytes (rest ++ last)
before bytes s rest last e is = (s, e ∙ append_assoc s rest last, is)

pub is_last : (bytes after : List ℕ) → length after ≡ 0 → BeginsWhole bytes after → EndsWith bytes bytes
is_last bytes [] none h = ([], refl, tt, subst IsSection (sym (h.1 ∙ append-nil h.0)) h.2)
is_last bytes (b ∷ bs) none h = absurd (omega arith)

-- where bytes follow the first section, the last is among these
pub goes_on : (bytes after last : List ℕ) → BeginsWhole bytes after → 0 < length after → EndsWith bytes last → EndsWith after last
goes_on bytes after last h some ([], e, all, is) = absurd (omega (arith, ap length (whole_once bytes after [] h (alone bytes last e is))))
goes_on bytes after last h some (s ∷ ss, e, all, is) = (ss, whole_once bytes after (concat ss ++ last) h (before bytes s (concat ss) last e all.0), all.1, is)

pub comes_back : (bytes after last : List ℕ) → BeginsWhole bytes after → EndsWith after last → EndsWith bytes last
comes_back bytes after last h k =
    (h.0 ∷ k.0, h.1 ∙ ap (λ t. h.0 ++ t) k.1 ∙ sym (append_assoc h.0 (concat k.0) last), (h.2, k.2), k.3)

-- whole sections begin with one
pub begins_some : (bytes last : List ℕ) → EndsWith bytes last → (after : List ℕ) × BeginsWhole bytes after
begins_some bytes last ([], e, all, is) = ([], alone bytes last e is)
begins_some bytes last (s ∷ ss, e, all, is) = (concat ss ++ last, before bytes s (concat ss) last e all.0)

pub ends_once : (ss : List (List ℕ)) (bytes l m : List ℕ) → bytes ≡ concat ss ++ l → AllByRecursion IsSection ss → IsSection l → EndsWith bytes m → l ≡ m
ends_once [] bytes l m e all is ([], f, other, also) = sym e ∙ f
ends_once [] bytes l m e all is (t ∷ ts, f, other, also) =
    absurd (omega (arith, ap length (whole_once bytes [] (concat ts ++ m) (alone bytes l e is) (before bytes t (concat ts) m f other.0)), length-append (concat ts) m, some_bytes m also))
ends_once (s ∷ ss) bytes l m e all is k =
    let some : 0 < length (concat ss ++ l) = omega (arith, length-append (concat ss) l, some_bytes l is) in
    ends_once ss (concat ss ++ l) l m refl all.1 is (goes_on bytes (concat ss ++ l) m (before bytes s (concat ss) l e all.0) some k)
