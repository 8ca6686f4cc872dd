-- Each construct of a script is read exactly.
use Rattle.std.proofs.Common.{◌≡◌, ℕ, ◌^◌, ◌-◌, Bool, true, false, cond, List, [], ◌∷◌, ◌++◌, Result, Ok, refl, sym, ap, ◌∙◌, subst, append_assoc, append-nil}
use Rattle.std.specs.Prelude.{codes}
use Rattle.wasm_values.specs.declared.number.Val.{Val}
use Rattle.wasm_values.specs.declared.number.Val.TheVariants.{I32, I64}
use Rattle.sexp_text.specs.declared.fault.TextFault.{TextFault}
use Rattle.sexp_text.specs.declared.sexp.Sexp.{Sexp}
use Rattle.sexp_text.specs.Reading.{◌>>=◌}
use Rattle.script_text.specs.declared.script.Load.{Load}
use Rattle.script_text.specs.declared.script.Origin.{Origin}
use Rattle.script_text.specs.declared.script.Action.{Action}
use Rattle.script_text.specs.declared.script.Action.TheVariants.{New, Call}
use Rattle.script_text.specs.declared.script.Script.{Script}
use Rattle.script_text.specs.Grammar.{Row, End, Then, Each, IsString, IsStringAt, IsNumber, IsKnown, IsNew, modules_of, instances_of, IsOrigin, IsValue, IsLoad, IsAction, AreActions, AreLoads, IsScript}
use Rattle.script_text.specs.Reading.{ended, tagged, is_tagged, all_from, origin_in, bits_in, value_in, load_in, new_in, call_in, action_in, loads_from, actions_from, script_in}
use Rattle.script_text.proofs.Exactness.{bound, goes, ok_same, Exact, string_exact, number_exact, known_exact, fresh_exact, then_from, field_sound, field_whole, string_whole, ended_sound, ended_whole, all_sound, all_whole, tagged_sound, tagged_whole, tagged_is}

-- FROM

pub origin_exact : (made : List (List ℕ)) → Exact (origin_in made) (IsOrigin made)
unfolding origin_in
origin_exact made = record { sound = sound; whole = whole }
  where
    sound : (s : Sexp) (o : Origin) → origin_in made s ≡ Ok o → IsOrigin made o s
    sound s o e =
        let t = bound (tagged (codes "from") s) _ o e in
        let i = field_sound (known_exact made) t.0.1 t.0.0 _ o t.2 in
        let x = field_sound string_exact t.0.1 i.1 _ o i.5 in
        let d = bound (ended x.1) _ o x.5 in
        let it : Origin = record { instance = i.2; export = x.2; at = x.0.at } in
        let same : it ≡ o = ok_same it o d.2 in
        let P : Origin → Type 0 = λ o. IsOrigin made o s in
        let E : Row = Then (IsStringAt x.2 x.0.at) End in
        subst P same (tagged_sound (codes "from") s t.0 t.1 (Then (IsKnown made i.2) E)
        (then_from (IsKnown made i.2) (E) i.3 i.4
        (then_from (IsStringAt x.2 x.0.at) (End) x.3 (x.4, refl) (ended_sound x.1 d.0 d.1))))

    whole : (s : Sexp) (o : Origin) → IsOrigin made o s → origin_in made s ≡ Ok o
    whole s o h =
        let E : Row = Then (IsStringAt o.export o.at) End in
        let built : ℕ → Origin = λ at. record { instance = o.instance; export = o.export; at = at } in
        tagged_whole (codes "from") s _ o (Then (IsKnown made o.instance) E) h (λ l f.
        field_whole (known_exact made) l.1 l.0 _ o E o.instance f (λ a rest is g.
        string_whole l.1 rest _ o End o.export o.at g (λ b none place n.
        ended_whole none _ o n (ap (λ at. Ok (built at)) place))))

-- VALUE

bits_sound : (greatest : ℕ) (l : List Sexp × ℕ) (x : ℕ) → bits_in greatest l ≡ Ok x → Then (IsNumber 0 greatest x) End l.0
unfolding bits_in
bits_sound greatest l x e =
    let n = field_sound (number_exact 0 greatest) l.1 l.0 _ x e in
    let d = bound (ended n.1) _ x n.5 in
    let P : ℕ → Type 0 = λ y. IsNumber 0 greatest y n.0 in
    then_from (IsNumber 0 greatest x) (End) n.3 (subst P (ok_same n.2 x d.2) n.4) (ended_sound n.1 d.0 d.1)

bits_whole : (greatest : ℕ) (l : List Sexp × ℕ) (x : ℕ) → Then (IsNumber 0 greatest x) End l.0 → bits_in greatest l ≡ Ok x
unfolding bits_in
bits_whole greatest l x h = field_whole (number_exact 0 greatest) l.1 l.0 _ x End x h (λ s rest is n. ended_whole rest _ x n refl)

pub value_exact : Exact value_in IsValue
unfolding value_in
value_exact = record { sound = sound; whole = whole }
  where
    sound : (s : Sexp) (v : Val) → value_in s ≡ Ok v → IsValue v s
    sound s v e = by (is_tagged (codes "i32") s) e
      where
        by : (b : Bool) → cond b (tagged (codes "i32") s >>= λ l. bits_in (2 ^ 32 - 1) l >>= λ x. Ok (I32 x)) (tagged (codes "i64") s >>= λ l. bits_in (2 ^ 64 - 1) l >>= λ x. Ok (I64 x)) ≡ Ok v → IsValue v s
        by true e =
            let t = bound (tagged (codes "i32") s) _ v e in
            let u = bound (bits_in (2 ^ 32 - 1) t.0) _ v t.2 in
            let P : Val → Type 0 = λ w. IsValue w s in
            subst P (ok_same (I32 u.0) v u.2) (tagged_sound (codes "i32") s t.0 t.1 (Then (IsNumber 0 (2 ^ 32 - 1) u.0) End) (bits_sound (2 ^ 32 - 1) t.0 u.0 u.1))
        by false e =
            let t = bound (tagged (codes "i64") s) _ v e in
            let u = bound (bits_in (2 ^ 64 - 1) t.0) _ v t.2 in
            let P : Val → Type 0 = λ w. IsValue w s in
            subst P (ok_same (I64 u.0) v u.2) (tagged_sound (codes "i64") s t.0 t.1 (Then (IsNumber 0 (2 ^ 64 - 1) u.0) End) (bits_sound (2 ^ 64 - 1) t.0 u.0 u.1))

    whole : (s : Sexp) (v : Val) → IsValue v s → value_in s ≡ Ok v
    whole s (I32 n) h =
        let Rest : Row = Then (IsNumber 0 (2 ^ 32 - 1) n) End in
        ap (λ b. cond b (tagged (codes "i32") s >>= λ l. bits_in (2 ^ 32 - 1) l >>= λ x. Ok (I32 x)) (tagged (codes "i64") s >>= λ l. bits_in (2 ^ 64 - 1) l >>= λ x. Ok (I64 x)))
        (tagged_is (codes "i32") (codes "i32") s Rest h)
        ∙ tagged_whole (codes "i32") s _ (I32 n) Rest h (λ l g. goes (bits_in (2 ^ 32 - 1) l) _ n (I32 n) (bits_whole (2 ^ 32 - 1) l n g) refl)
    whole s (I64 n) h =
        let Rest : Row = Then (IsNumber 0 (2 ^ 64 - 1) n) End in
        ap (λ b. cond b (tagged (codes "i32") s >>= λ l. bits_in (2 ^ 32 - 1) l >>= λ x. Ok (I32 x)) (tagged (codes "i64") s >>= λ l. bits_in (2 ^ 64 - 1) l >>= λ x. Ok (I64 x)))
        (tagged_is (codes "i32") (codes "i64") s Rest h)
        ∙ tagged_whole (codes "i64") s _ (I64 n) Rest h (λ l g. goes (bits_in (2 ^ 64 - 1) l) _ n (I64 n) (bits_whole (2 ^ 64 - 1) l n g) refl)

-- LOAD

pub load_sound : (before : List Load) (s : Sexp) (x : Load) → load_in (modules_of before) s ≡ Ok x → IsLoad before x s
unfolding load_in
load_sound before s x e =
    let t = bound (tagged (codes "load") s) _ x e in
    let n = field_sound (fresh_exact (modules_of before)) t.0.1 t.0.0 _ x t.2 in
    let f = field_sound string_exact t.0.1 n.1 _ x n.5 in
    let d = bound (ended f.1) _ x f.5 in
    let it : Load = record { name = n.2; file = f.2 } in
    let P : Load → Type 0 = λ y. IsLoad before y s in
    let E : Row = Then (IsString f.2) End in
    subst P (ok_same it x d.2) (tagged_sound (codes "load") s t.0 t.1 (Then (IsNew (modules_of before) n.2) E)
    (then_from (IsNew (modules_of before) n.2) (E) n.3 n.4
    (then_from (IsString f.2) (End) f.3 f.4 (ended_sound f.1 d.0 d.1))))

pub load_whole : (before : List Load) (s : Sexp) (x : Load) → IsLoad before x s → load_in (modules_of before) s ≡ Ok x
unfolding load_in
load_whole before s x h =
    let E : Row = Then (IsString x.file) End in
    tagged_whole (codes "load") s _ x (Then (IsNew (modules_of before) x.name) E) h (λ l f.
    field_whole (fresh_exact (modules_of before)) l.1 l.0 _ x E x.name f (λ a rest is g.
    field_whole string_exact l.1 rest _ x End x.file g (λ b none is n.
    ended_whole none _ x n refl)))

-- ACTION

abbrev NewParts : (modules made : List (List ℕ)) → (instance «module» : List ℕ) → List Origin → Row
NewParts modules made instance «module» from = Then (IsNew made instance) (Then (IsKnown modules «module») (Each (IsOrigin made) from))

abbrev CallParts : (made : List (List ℕ)) → (instance export : List ℕ) (at : ℕ) → List Val → Row
CallParts made instance export at args = Then (IsKnown made instance) (Then (IsStringAt export at) (Each IsValue args))

new_sound : (modules made : List (List ℕ)) (s : Sexp) (l : List Sexp × ℕ) (a : Action) → tagged (codes "new") s ≡ Ok l → new_in modules made l ≡ Ok a → IsAction modules made a s
unfolding new_in
new_sound modules made s l a tag e =
    let i = field_sound (fresh_exact made) l.1 l.0 _ a e in
    let m = field_sound (known_exact modules) l.1 i.1 _ a i.5 in
    let f = bound (all_from (origin_in made) [] m.1) _ a m.5 in
    let all = all_sound (origin_exact made) [] m.1 f.0 f.1 in
    let it : Action = New i.2 m.2 f.0 in
    let P : Action → Type 0 = λ y. IsAction modules made y s in
    let Q : List Origin → Type 0 = λ os. Each (IsOrigin made) os m.1 in
    let E : Row = Each (IsOrigin made) f.0 in
    subst P (ok_same it a f.2) (tagged_sound (codes "new") s l tag (NewParts modules made i.2 m.2 f.0)
    (then_from (IsNew made i.2) (Then (IsKnown modules m.2) E) i.3 i.4
    (then_from (IsKnown modules m.2) (E) m.3 m.4 (subst Q (sym all.1) all.2))))

call_sound : (modules made : List (List ℕ)) (s : Sexp) (l : List Sexp × ℕ) (a : Action) → tagged (codes "call") s ≡ Ok l → call_in made l ≡ Ok a → IsAction modules made a s
unfolding call_in
call_sound modules made s l a tag e =
    let i = field_sound (known_exact made) l.1 l.0 _ a e in
    let x = field_sound string_exact l.1 i.1 _ a i.5 in
    let f = bound (all_from value_in [] x.1) _ a x.5 in
    let all = all_sound value_exact [] x.1 f.0 f.1 in
    let it : Action = Call i.2 x.2 x.0.at f.0 in
    let P : Action → Type 0 = λ y. IsAction modules made y s in
    let Q : List Val → Type 0 = λ vs. Each IsValue vs x.1 in
    let E : Row = Each IsValue f.0 in
    subst P (ok_same it a f.2) (tagged_sound (codes "call") s l tag (CallParts made i.2 x.2 x.0.at f.0)
    (then_from (IsKnown made i.2) (Then (IsStringAt x.2 x.0.at) E) i.3 i.4
    (then_from (IsStringAt x.2 x.0.at) (E) x.3 (x.4, refl) (subst Q (sym all.1) all.2))))

new_whole : (modules made : List (List ℕ)) (l : List Sexp × ℕ) (instance «module» : List ℕ) (from : List Origin) → NewParts modules made instance «module» from l.0 →
    new_in modules made l ≡ Ok (New instance «module» from)
unfolding new_in
new_whole modules made l instance «module» from h =
    let a : Action = New instance «module» from in
    let E : Row = Each (IsOrigin made) from in
    field_whole (fresh_exact made) l.1 l.0 _ a (Then (IsKnown modules «module») E) instance h (λ s rest is g.
    field_whole (known_exact modules) l.1 rest _ a E «module» g (λ t origins is f.
    goes (all_from (origin_in made) [] origins) _ from a (all_whole (origin_exact made) [] origins from f) refl))

call_whole : (made : List (List ℕ)) (l : List Sexp × ℕ) (instance export : List ℕ) (at : ℕ) (args : List Val) → CallParts made instance export at args l.0 →
    call_in made l ≡ Ok (Call instance export at args)
unfolding call_in
call_whole made l instance export at args h =
    let a : Action = Call instance export at args in
    let E : Row = Each IsValue args in
    field_whole (known_exact made) l.1 l.0 _ a (Then (IsStringAt export at) E) instance h (λ s rest is g.
    string_whole l.1 rest _ a E export at g (λ t values place f.
    goes (all_from value_in [] values) _ args a (all_whole value_exact [] values args f) (ap (λ p. Ok (Call instance export p args)) place)))

abbrev action_by : (modules made : List (List ℕ)) → Sexp → Bool → Result Action TextFault
action_by modules made s b = cond b (tagged (codes "new") s >>= λ l. new_in modules made l) (tagged (codes "call") s >>= λ l. call_in made l)

pub action_sound : (modules made : List (List ℕ)) (s : Sexp) (a : Action) → action_in modules made s ≡ Ok a → IsAction modules made a s
unfolding action_in
action_sound modules made s a e = by (is_tagged (codes "new") s) e
  where
    by : (b : Bool) → action_by modules made s b ≡ Ok a → IsAction modules made a s
    by true e = let t = bound (tagged (codes "new") s) (λ l. new_in modules made l) a e in new_sound modules made s t.0 a t.1 t.2
    by false e = let t = bound (tagged (codes "call") s) (λ l. call_in made l) a e in call_sound modules made s t.0 a t.1 t.2

pub action_whole : (modules made : List (List ℕ)) (s : Sexp) (a : Action) → IsAction modules made a s → action_in modules made s ≡ Ok a
unfolding action_in
action_whole modules made s (New instance «module» from) h =
    let Rest : Row = NewParts modules made instance «module» from in
    ap (action_by modules made s) (tagged_is (codes "new") (codes "new") s Rest h)
    ∙ tagged_whole (codes "new") s (λ l. new_in modules made l) (New instance «module» from) Rest h (λ l g. new_whole modules made l instance «module» from g)
action_whole modules made s (Call instance export at args) h =
    let Rest : Row = CallParts made instance export at args in
    ap (action_by modules made s) (tagged_is (codes "new") (codes "call") s Rest h)
    ∙ tagged_whole (codes "call") s (λ l. call_in made l) (Call instance export at args) Rest h (λ l g. call_whole made l instance export at args g)

-- an action is no load
action_no_load : (modules made : List (List ℕ)) (s : Sexp) (a : Action) → IsAction modules made a s → is_tagged (codes "load") s ≡ false
action_no_load modules made s (New instance «module» from) h = tagged_is (codes "load") (codes "new") s (NewParts modules made instance «module» from) h
action_no_load modules made s (Call instance export at args) h = tagged_is (codes "load") (codes "call") s (CallParts made instance export at args) h

pub actions_sound : (modules : List (List ℕ)) (before : List Action) (ss : List Sexp) (ys : List Action) → actions_from modules before ss ≡ Ok ys →
    (xs : List Action) × (ys ≡ before ++ xs) × AreActions modules before xs ss
actions_sound modules before [] ys e = ([], sym (ok_same before ys e) ∙ sym (append-nil before), tt)
actions_sound modules before (s ∷ ss) ys e =
    let t = bound (action_in modules (instances_of before) s) (λ a. actions_from modules (before ++ a ∷ []) ss) ys e in
    let more = actions_sound modules (before ++ t.0 ∷ []) ss ys t.2 in
    (t.0 ∷ more.0, more.1 ∙ append_assoc before (t.0 ∷ []) more.0, (action_sound modules (instances_of before) s t.0 t.1, more.2))

pub actions_whole : (modules : List (List ℕ)) (before : List Action) (ss : List Sexp) (xs : List Action) → AreActions modules before xs ss →
    actions_from modules before ss ≡ Ok (before ++ xs)
actions_whole modules before [] [] h = ap Ok (sym (append-nil before))
actions_whole modules before (s ∷ ss) [] h = absurd h
actions_whole modules before [] (a ∷ more) h = absurd h
actions_whole modules before (s ∷ ss) (a ∷ more) h =
    goes (action_in modules (instances_of before) s) (λ a. actions_from modules (before ++ a ∷ []) ss) a (before ++ a ∷ more) (action_whole modules (instances_of before) s a h.0)
    (actions_whole modules (before ++ a ∷ []) ss more h.1 ∙ ap Ok (append_assoc before (a ∷ []) more))

-- loads, and then actions

abbrev loads_by : List Load → Sexp → List Sexp → Bool → Result (List Load × List Sexp) TextFault
loads_by before s ss b = cond b (load_in (modules_of before) s >>= λ l. loads_from (before ++ l ∷ []) ss) (Ok (before, s ∷ ss))

pub loads_sound : (before : List Load) (ss : List Sexp) (r : List Load × List Sexp) → loads_from before ss ≡ Ok r →
    (more : List Load) × (r.0 ≡ before ++ more) × ((actions : List Action) → AreActions (modules_of r.0) [] actions r.1 → AreLoads before more actions ss)
loads_sound before [] r e =
    let same : (before, []) ≡ r = ok_same (before, []) r e in
    let P : List Load × List Sexp → Type 0 = λ r. (more : List Load) × (r.0 ≡ before ++ more) × ((actions : List Action) → AreActions (modules_of r.0) [] actions r.1 → AreLoads before more actions []) in
    subst P same ([], sym (append-nil before), λ actions h. h)
loads_sound before (s ∷ ss) r e = by (is_tagged (codes "load") s) e (λ l f. loads_sound (before ++ l ∷ []) ss r f)
  where
    by : (b : Bool) → loads_by before s ss b ≡ Ok r →
        ((l : Load) → loads_from (before ++ l ∷ []) ss ≡ Ok r →
        (more : List Load) × (r.0 ≡ (before ++ l ∷ []) ++ more) × ((actions : List Action) → AreActions (modules_of r.0) [] actions r.1 → AreLoads (before ++ l ∷ []) more actions ss)) →
        (more : List Load) × (r.0 ≡ before ++ more) × ((actions : List Action) → AreActions (modules_of r.0) [] actions r.1 → AreLoads before more actions (s ∷ ss))
    by true e behind =
        let t = bound (load_in (modules_of before) s) (λ l. loads_from (before ++ l ∷ []) ss) r e in
        let more = behind t.0 t.2 in
        (t.0 ∷ more.0, more.1 ∙ append_assoc before (t.0 ∷ []) more.0, λ actions h. (load_sound before s t.0 t.1, more.2 actions h))
    by false e behind =
        let same : (before, s ∷ ss) ≡ r = ok_same (before, s ∷ ss) r e in
        let P : List Load × List Sexp → Type 0 = λ r. (more : List Load) × (r.0 ≡ before ++ more) × ((actions : List Action) → AreActions (modules_of r.0) [] actions r.1 → AreLoads before more actions (s ∷ ss)) in
        subst P same ([], sym (append-nil before), λ actions h. h)

pub loads_whole : (before : List Load) (ss : List Sexp) (more : List Load) (actions : List Action) → AreLoads before more actions ss →
    (rest : List Sexp) × (loads_from before ss ≡ Ok (before ++ more, rest)) × AreActions (modules_of (before ++ more)) [] actions rest
loads_whole before [] [] actions h =
    let P : List Load → Type 0 = λ ls. AreActions (modules_of ls) [] actions [] in
    ([], ap (λ ls. Ok (ls, [])) (sym (append-nil before)), subst P (sym (append-nil before)) h)
loads_whole before (s ∷ ss) [] [] h = absurd h
loads_whole before (s ∷ ss) [] (a ∷ actions) h =
    let P : List Load → Type 0 = λ ls. AreActions (modules_of ls) [] (a ∷ actions) (s ∷ ss) in
    (s ∷ ss, ap (loads_by before s ss) (action_no_load (modules_of before) [] s a h.0) ∙ ap (λ ls. Ok (ls, s ∷ ss)) (sym (append-nil before)), subst P (sym (append-nil before)) h)
loads_whole before [] (l ∷ more) actions h = absurd h
loads_whole before (s ∷ ss) (l ∷ more) actions h =
    let t = loads_whole (before ++ l ∷ []) ss more actions h.1 in
    let so : is_tagged (codes "load") s ≡ true = tagged_is (codes "load") (codes "load") s (Then (IsNew (modules_of before) l.name) (Then (IsString l.file) End)) h.0 in
    let P : List Load → Type 0 = λ ls. AreActions (modules_of ls) [] actions t.0 in (
      t.0,
      ap (loads_by before s ss) so
          ∙ goes (load_in (modules_of before) s) (λ l. loads_from (before ++ l ∷ []) ss) l (before ++ l ∷ more, t.0) (load_whole before s l h.0)
          (t.1 ∙ ap (λ ls. Ok (ls, t.0)) (append_assoc before (l ∷ []) more)),
      subst P (append_assoc before (l ∷ []) more) t.2,
    )

-- SCRIPT

pub script_exact : Exact script_in IsScript
unfolding script_in
script_exact = record { sound = sound; whole = whole }
  where
    sound : (s : Sexp) (x : Script) → script_in s ≡ Ok x → IsScript x s
    sound s x e =
        let t = bound (tagged (codes "script") s) _ x e in
        let n = field_sound (number_exact 1 100000000) t.0.1 t.0.0 _ x t.2 in
        let l = bound (loads_from [] n.1) _ x n.5 in
        let a = bound (actions_from (modules_of l.0.0) [] l.0.1) _ x l.2 in
        let loads = loads_sound [] n.1 l.0 l.1 in
        let actions = actions_sound (modules_of l.0.0) [] l.0.1 a.0 a.1 in
        let it : Script = record { steps = n.2; loads = l.0.0; actions = a.0 } in
        let P : Script → Type 0 = λ y. IsScript y s in
        let Q : List Action → Type 0 = λ as'. AreActions (modules_of l.0.0) [] as' l.0.1 in
        let R : List Load → Type 0 = λ ls. AreLoads [] ls a.0 n.1 in
        let E : Row = AreLoads [] l.0.0 a.0 in
        subst P (ok_same it x a.2) (tagged_sound (codes "script") s t.0 t.1 (Then (IsNumber 1 100000000 n.2) E)
        (then_from (IsNumber 1 100000000 n.2) (E) n.3 n.4
        (subst R (sym loads.1) (loads.2 a.0 (subst Q (sym actions.1) actions.2)))))

    whole : (s : Sexp) (x : Script) → IsScript x s → script_in s ≡ Ok x
    whole s x h =
        let E : Row = AreLoads [] x.loads x.actions in
        tagged_whole (codes "script") s _ x (Then (IsNumber 1 100000000 x.steps) E) h (λ l f.
        field_whole (number_exact 1 100000000) l.1 l.0 _ x E x.steps f (λ n rest is g.
        let t = loads_whole [] rest x.loads x.actions g in
        goes (loads_from [] rest) _ (x.loads, t.0) x t.1
        (goes (actions_from (modules_of x.loads) [] t.0) _ x.actions x (actions_whole (modules_of x.loads) [] t.0 x.actions t.2) refl)))
