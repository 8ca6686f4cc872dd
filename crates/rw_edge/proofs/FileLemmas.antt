-- A look through files for a name, place by place.
use Rattle.std.proofs.Common.{◌≡◌, ◌<◌, ◌≤◌, ◌+◌, ℕ, true, false, cond, List, [], ◌∷◌, None, Some, length, drop, get_or, sym, ap, ◌∙◌}
use Rattle.std.proofs.lemmas.List.{at_drop_more, at_drop_all, get_or_default}
use Rattle.std.specs.Str.{bytes_eq}
use Rattle.rw_edge.specs.Files.{contents_of}
use Rattle.rw_edge.specs.InMemory.{contents_at}

-- the first file has this name
contents_of-first : (file : List ℕ × List ℕ) (files : List (List ℕ × List ℕ)) (name : List ℕ)
    → bytes_eq file.0 name ≡ true → contents_of (file ∷ files) name ≡ Some file.1
contents_of-first file files name is = ap (λ b. cond b (Some file.1) (contents_of files name)) is

-- the first file has another name
contents_of-other : (file : List ℕ × List ℕ) (files : List (List ℕ × List ℕ)) (name : List ℕ)
    → bytes_eq file.0 name ≡ false → contents_of (file ∷ files) name ≡ contents_of files name
contents_of-other file files name not = ap (λ b. cond b (Some file.1) (contents_of files name)) not

-- the file at this place has the name, and none before it has
pub contents_of-found : (files : List (List ℕ × List ℕ)) (place : ℕ) (name text : List ℕ) (file : List ℕ × List ℕ)
    → contents_of files name ≡ contents_of (drop place files) name → place < length files → file ≡ get_or files place file
    → text ≡ file.0 → bytes_eq text name ≡ true → contents_of files name ≡ Some (contents_at files (Some place))
contents_of-found files place name text file before here is named same =
    let it = get_or files place file in
    let same_name : bytes_eq it.0 name ≡ true = ap (λ t. bytes_eq t name) (sym (named ∙ ap (λ (f : List ℕ × List ℕ). f.0) is)) ∙ same in
    let same_file : it ≡ get_or files place ([], []) = get_or_default files place file ([], []) here in
    before ∙ at_drop_more (λ l. contents_of l name) files place file here
    ∙ contents_of-first it (drop (place + 1) files) name same_name ∙ ap (λ (f : List ℕ × List ℕ). Some f.1) same_file

-- neither it nor one before it has
pub contents_of-passed : (files : List (List ℕ × List ℕ)) (place : ℕ) (name text : List ℕ) (file : List ℕ × List ℕ)
    → contents_of files name ≡ contents_of (drop place files) name → place < length files → file ≡ get_or files place file
    → text ≡ file.0 → bytes_eq text name ≡ false → contents_of files name ≡ contents_of (drop (place + 1) files) name
contents_of-passed files place name text file before here is named other =
    let it = get_or files place file in
    let other_name : bytes_eq it.0 name ≡ false = ap (λ t. bytes_eq t name) (sym (named ∙ ap (λ (f : List ℕ × List ℕ). f.0) is)) ∙ other in
    before ∙ at_drop_more (λ l. contents_of l name) files place file here
    ∙ contents_of-other it (drop (place + 1) files) name other_name

-- none has it
pub contents_of-none : (files : List (List ℕ × List ℕ)) (place : ℕ) (name : List ℕ)
    → contents_of files name ≡ contents_of (drop place files) name → length files ≤ place → contents_of files name ≡ None
contents_of-none files place name before end = before ∙ at_drop_all (λ l. contents_of l name) files place end
