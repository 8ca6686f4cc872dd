-- What comes of a test or a call that was met, and of one that was refused.
use Rattle.std.proofs.Common.{◌≡◌, Bool, true, false, ◌&&◌, Option, Some, None, Ok, Err, IfSome, refl, sym, ap, ◌∙◌}
use Rattle.wasm_values.specs.declared.limit.LimitWord.{LimitWord}
use Rattle.outline_rules.specs.Refusals.{Ruling, Refusal, limited, ◌>>=◌, ◌>>◌}

module _ {A B : Type 0} (r : Ruling A) (next : A → Ruling B) where
  pub goes : (a : A) (s : Ruling B) → r ≡ Ok a → next a ≡ s → (r >>= next) ≡ s
  goes a s is then = ap (λ q. q >>= next) is ∙ then

  pub stops : (o : Option Refusal) → IfSome o (λ e. r ≡ Err e) → IfSome o (λ e. (r >>= next) ≡ Err e)
  stops None h = tt
  stops (Some e) h = ap (λ q. q >>= next) h

module _ {A B : Type 0} (r : Ruling A) (next : Ruling B) where
  pub goes_on : (a : A) (s : Ruling B) → r ≡ Ok a → next ≡ s → (r >> next) ≡ s
  goes_on a s is then = ap (λ q. q >> next) is ∙ then

  pub stops_here : (o : Option Refusal) → IfSome o (λ e. r ≡ Err e) → IfSome o (λ e. (r >> next) ≡ Err e)
  stops_here None h = tt
  stops_here (Some e) h = ap (λ q. q >> next) h

-- what follows a call that was met may be refused
pub refused_later : {B : Type 0} (o : Option Refusal) (r s : Ruling B) → r ≡ s → IfSome o (λ e. s ≡ Err e) → IfSome o (λ e. r ≡ Err e)
refused_later None r s is h = tt
refused_later (Some e) r s is h = is ∙ h

-- ---- one after another

pub bind_bind : {A B C : Type 0} (r : Ruling A) (f : A → Ruling B) (g : B → Ruling C) → ((r >>= f) >>= g) ≡ (r >>= λ a. (f a >>= g))
bind_bind (Ok a) f g = refl
bind_bind (Err e) f g = refl

pub then_bind : {A B C : Type 0} (r : Ruling A) (s : Ruling B) (g : B → Ruling C) → ((r >> s) >>= g) ≡ (r >> (s >>= g))
then_bind (Ok a) s g = refl
then_bind (Err e) s g = refl

-- a part of the way by itself
pub through : {A B C : Type 0} (r : Ruling A) (f : A → Ruling C) (h : A → Ruling B) (g : B → Ruling C) → ((a : A) → f a ≡ (h a >>= g)) → (r >>= f) ≡ ((r >>= h) >>= g)
through (Ok a) f h g same = same a
through (Err e) f h g same = refl

-- a test by itself, and what comes after it
pub past : {A B C : Type 0} (w : Ruling A) (f : Ruling C) (b : B) (g : B → Ruling C) → f ≡ g b → (w >> f) ≡ ((w >> Ok b) >>= g)
past (Ok t) f b g same = same
past (Err e) f b g same = refl

-- the same test twice
pub twice : {C : Type 0} (word : LimitWord) (b : Bool) (r : Ruling C) → (limited word b >> r) ≡ (limited word b >> (limited word b >> r))
twice word true r = refl
twice word false r = refl

-- ---- terms that are made, within the limit

module _ {C : Type 0} (word : LimitWord) where
  pub one_made : {A E : Type 0} (p : Bool) (a : A) (next : A → Ruling E) (g : E → Ruling C) (f : Ruling C) → f ≡ (next a >>= g)
      → (limited word (p && true) >> f) ≡ (((limited word p >> Ok a) >>= next) >>= g)
  one_made true a next g f same = same
  one_made false a next g f same = refl

  pub two_made : {A B E : Type 0} (p q : Bool) (a : A) (b : B) (next : A → B → Ruling E) (g : E → Ruling C) (f : Ruling C) → f ≡ (next a b >>= g)
      → (limited word (p && (q && true)) >> f) ≡ (((limited word p >> Ok a) >>= λ x. (limited word q >> Ok b) >>= λ y. next x y) >>= g)
  two_made true true a b next g f same = same
  two_made true false a b next g f same = refl
  two_made false q a b next g f same = refl

  -- a term is made, then a formula of a limited number of nodes, and then more is tested
  pub made_then : {A E : Type 0} (p q : Bool) (v : Ruling (Unit {0})) (a : A) (eff : A → E) (g : E → Ruling C) (f : Ruling C) → f ≡ (v >> f) → f ≡ g (eff a)
      → (limited word (p && (q && true)) >> f) ≡ (((limited word p >> Ok a) >>= λ x. ((limited word q >> v) >> Ok (eff x))) >>= g)
  made_then true true v a eff g f again same = again ∙ past v f (eff a) g same
  made_then true false v a eff g f again same = refl
  made_then false q v a eff g f again same = refl

-- what is wanted after a part that was met, in a state that is the same
pub met-then : {A B : Type 0} {S : Type 0} (r : Ruling A) (a : A) (next : A → S → Ruling B) (s t : S) → r ≡ Ok a → s ≡ t → next a s ≡ (r >>= λ v. next v t)
met-then r a next s t met same = (λ j. next a (same j)) ∙ sym (ap (λ q. q >>= λ v. next v t) met)
