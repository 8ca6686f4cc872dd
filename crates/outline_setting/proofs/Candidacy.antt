-- The walk over candidates.
use Rattle.std.proofs.Common.{◌≡◌, refl, sym, ap, subst, ◌∙◌, ℕ, suc, ◌+◌, ◌<◌, Bool, true, false, ◌&&◌, if◌then◌else◌, List, [], ◌∷◌, ◌++◌, length, drop, get_or, flat_map, filter, Option, Some, None, Result, Ok, Err, add-one}
use Rattle.std.specs.List.{list_all}
use Rattle.wasm_values.specs.Answers.{Gives}
use Rattle.wasm_syntax.specs.declared.module.FuncType.{FuncType}
use Rattle.wasm_syntax.specs.declared.module.Elem.{Elem}
use Rattle.wasm_store.specs.Control.{is_same_func_type}
use Rattle.notes.specs.declared.reason.Reason.TheVariants as reason
use Rattle.notes.specs.declared.assertion.Contract.{Contract}
use Rattle.escape_analysis.specs.Exposure.{has_private_table}
use Rattle.outline_rules.specs.Refusals.{Refusal, Ruling, refused, wanted, ◌>>=◌, ◌>>◌}
use Rattle.outline_rules.specs.Settings.{Setting, func_type, contract_of}
use Rattle.outline_rules.specs.Calls.{same_contract, candidates, judged_by, judged}
use Rattle.outline_setting.specs.words.Judging.{judged_step, judged_walk, judged_end}
use Rattle.outline_setting.proofs.Walks.{drop_at}

-- ---- one part after another

bind_bind : {A B C : Type 0} (r : Ruling A) (f : A → Ruling B) (g : B → Ruling C) → (r >>= λ a. (f a >>= g)) ≡ ((r >>= f) >>= g)
bind_bind (Ok a) f g = refl
bind_bind (Err e) f g = refl

walked_on : {A B C : Type 0} (r : Ruling A) (f : A → Ruling C) (g : A → Ruling B) (h : B → Ruling C) → ((a : A) → f a ≡ (g a >>= h)) → (r >>= f) ≡ ((r >>= g) >>= h)
walked_on (Ok a) f g h same = same a
walked_on (Err e) f g h same = refl

walk-append : (c : Setting) (ty : FuncType) (xs ys : List ℕ) (first : Option ℕ) → judged_walk c ty first (xs ++ ys) ≡ (judged_walk c ty first xs >>= λ k. judged_walk c ty k ys)
walk-append c ty [] ys first = refl
walk-append c ty (x ∷ xs) ys first =
    walked_on (judged_step c ty first x) (λ next. judged_walk c ty next (xs ++ ys)) (λ next. judged_walk c ty next xs) (λ k. judged_walk c ty k ys) (walk-append c ty xs ys)

-- the functions of segments
abbrev pub listed : List Elem → List ℕ
listed elems = flat_map (λ (e : Elem). e.funcs) elems

segment_next : (c : Setting) (ty : FuncType) (known : Option ℕ) (elems : List Elem) (i : ℕ) (e : Elem) → i < length elems → e ≡ get_or elems i e
    → judged_walk c ty known (listed (drop i elems)) ≡ (judged_walk c ty known e.funcs >>= λ k. judged_walk c ty k (listed (drop (suc i) elems)))
segment_next c ty known elems i e within is =
    ap (λ es. judged_walk c ty known (listed es)) (drop_at elems i e within is) ∙ walk-append c ty e.funcs (listed (drop (suc i) elems)) known

pub segment_met : (c : Setting) (ty : FuncType) (known next : Option ℕ) (elems : List Elem) (i : ℕ) (e : Elem) (all : Ruling (Option ℕ)) → i < length elems → e ≡ get_or elems i e
    → judged_walk c ty known e.funcs ≡ Ok next → all ≡ judged_walk c ty known (listed (drop i elems)) → all ≡ judged_walk c ty next (listed (drop (i + 1) elems))
segment_met c ty known next elems i e all within is met so_far =
    so_far ∙ segment_next c ty known elems i e within is
    ∙ ap (λ r. r >>= λ k. judged_walk c ty k (listed (drop (suc i) elems))) met
    ∙ ap (λ j. judged_walk c ty next (listed (drop j elems))) (sym (add-one i))

pub segment_refused : (c : Setting) (ty : FuncType) (known : Option ℕ) (elems : List Elem) (i : ℕ) (e : Elem) (all : Ruling (Option ℕ)) (why : Refusal) → i < length elems → e ≡ get_or elems i e
    → judged_walk c ty known e.funcs ≡ Err why → all ≡ judged_walk c ty known (listed (drop i elems)) → all ≡ Err why
segment_refused c ty known elems i e all why within is met so_far =
    so_far ∙ segment_next c ty known elems i e within is ∙ ap (λ r. r >>= λ k. judged_walk c ty k (listed (drop (suc i) elems))) met

-- ---- the walk is the judgement

abbrev AllLike : Setting → ℕ → List ℕ → Bool
AllLike c f gs = list_all (λ g. same_contract (contract_of c g) (contract_of c f)) gs

-- what the candidates after the first come to
abbrev after : Setting → ℕ → List ℕ → Ruling (Option Contract)
after c f gs = wanted reason.Target (AllLike c f gs) >> Ok (contract_of c f)

one_more : (c : Setting) (f g : ℕ) (rest : List ℕ) (next : Option ℕ → Ruling (Option Contract)) (b s : Bool)
    → same_contract (contract_of c g) (contract_of c f) ≡ s → after c f rest ≡ next (Some f)
    → after c f (if b then g ∷ rest else rest) ≡ ((if b then (if s then Ok (Some f) else refused reason.Target) else Ok (Some f)) >>= next)
one_more c f g rest next false s is so_far = so_far
one_more c f g rest next true true is so_far = ap (λ t. wanted reason.Target (t && AllLike c f rest) >> Ok (contract_of c f)) is ∙ so_far
one_more c f g rest next true false is so_far = ap (λ t. wanted reason.Target (t && AllLike c f rest) >> Ok (contract_of c f)) is

-- the walk to the end
abbrev walked : Setting → FuncType → List ℕ → Option ℕ → Ruling (Option Contract)
walked c ty gs first = judged_walk c ty first gs >>= judged_end c

abbrev those : Setting → FuncType → List ℕ → List ℕ
those c ty gs = filter (λ g. is_same_func_type (func_type c g) ty) gs

after_first : (c : Setting) (ty : FuncType) (f : ℕ) (gs : List ℕ) → after c f (those c ty gs) ≡ walked c ty gs (Some f)
after_first c ty f [] = refl
after_first c ty f (g ∷ gs) =
    one_more c f g (those c ty gs) (walked c ty gs) (is_same_func_type (func_type c g) ty) (same_contract (contract_of c g) (contract_of c f)) refl (after_first c ty f gs)
    ∙ bind_bind (judged_step c ty (Some f) g) (λ next. judged_walk c ty next gs) (judged_end c)

first_one : (c : Setting) (ty : FuncType) (g : ℕ) (gs : List ℕ) (b : Bool) → judged_by c (those c ty gs) ≡ walked c ty gs None
    → judged_by c (if b then g ∷ those c ty gs else those c ty gs) ≡ ((if b then Ok (Some g) else Ok None) >>= walked c ty gs)
first_one c ty g gs true so_far = after_first c ty g gs
first_one c ty g gs false so_far = so_far

from_none : (c : Setting) (ty : FuncType) (gs : List ℕ) → judged_by c (those c ty gs) ≡ walked c ty gs None
from_none c ty [] = refl
from_none c ty (g ∷ gs) =
    first_one c ty g gs (is_same_func_type (func_type c g) ty) (from_none c ty gs)
    ∙ bind_bind (judged_step c ty None g) (λ next. judged_walk c ty next gs) (judged_end c)

-- what an indirect call is judged by, through a private table
pub judged_privately : (c : Setting) (ty : FuncType) (r : Ruling (Option ℕ)) → has_private_table c.code ≡ true
    → judged_walk c ty None (listed c.code.elems) ≡ r → judged c ty ≡ (r >>= judged_end c)
judged_privately c ty r private is =
    ap (λ b. if b then judged_by c (candidates c ty) else Ok None) private
    ∙ from_none c ty (listed c.code.elems) ∙ ap (λ q. q >>= judged_end c) is

-- and through another
pub judged_openly : (c : Setting) (ty : FuncType) → has_private_table c.code ≡ false → judged c ty ≡ Ok None
judged_openly c ty open_one = ap (λ b. if b then judged_by c (candidates c ty) else Ok None) open_one

-- what is said is what another says
pub gives_at : {A B E F : Type 0} (told : E → Option F) (view : A → B) (result : Result A E) (said other : Result B F) → said ≡ other → Gives told view result other → Gives told view result said
gives_at told view result said other is given = subst (λ s. Gives told view result s) (sym is) given
