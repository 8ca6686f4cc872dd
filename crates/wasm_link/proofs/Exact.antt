-- What a script comes to is answered.
use Rattle.std.proofs.Common.{◌≡◌, ◌⊎◌, inl, inr, Option, Some, None, Result, Ok, Err, refl}
use Rattle.std.specs.Prelude.{IfSome, IsSomeAnd, IsErrOf}
use Rattle.script_text.specs.declared.script.Script.{Script}
use Rattle.wasm_link.specs.declared.fault.LinkFault.{LinkFault}
use Rattle.wasm_link.specs.declared.fault.LinkFault.TheVariants.{Shelf, TooLong, Decode, Invalid, UnknownName, OutOfMemory}
use Rattle.wasm_link.specs.declared.log.Log.{Log}
use Rattle.wasm_link.specs.Loading.{Files, IsFirstRefused}
use Rattle.wasm_link.specs.Answers.{RunAnswers, ScriptAnswers}
use Rattle.wasm_link.proofs.OneAnswer.{one_answer}

pub exactly : (told : Option Files) (x : Script) (F : Type 0) (r : Result Log LinkFault) → IfSome told (λ files. RunAnswers files x r) →
    (IsErrOf r Shelf → F ⊎ IsSomeAnd told (λ files. IsFirstRefused files x.loads Shelf)) →
    IfSome told (λ files. (said : Result Log LinkFault) → ScriptAnswers files x said → (r ≡ said) ⊎ (IsErrOf r OutOfMemory ⊎ (IsErrOf r Shelf × F)))
exactly None x F r a shelf = tt
exactly (Some files) x F (Ok log) a shelf = λ said h. inl (one_answer files x (Ok log) said a h)
exactly (Some files) x F (Err (UnknownName at)) a shelf = λ said h. inl (one_answer files x (Err (UnknownName at)) said a h)
exactly (Some files) x F (Err (TooLong name)) a shelf = λ said h. inl (one_answer files x (Err (TooLong name)) said a h)
exactly (Some files) x F (Err (Decode name f)) a shelf = λ said h. inl (one_answer files x (Err (Decode name f)) said a h)
exactly (Some files) x F (Err (Invalid name f)) a shelf = λ said h. inl (one_answer files x (Err (Invalid name f)) said a h)
exactly (Some files) x F (Err OutOfMemory) a shelf = λ said h. inr (inl refl)
exactly (Some files) x F (Err Shelf) a shelf = λ said h. elim (shelf refl) [ inl f ↦ inr (inr (refl, f)) | inr first ↦ inl (one_answer files x (Err Shelf) said first h) ]
