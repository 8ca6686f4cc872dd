-- The files of a shelf, where it tells them.
use Rattle.std.specs.Prelude.{ℕ, ◌≡◌, ◌<◌, length, List, [], ◌∷◌, Option, None, Some, IfSome, IsSomeAnd, if◌then◌else◌}
use Rattle.std.specs.Str.{bytes_eq}

-- The contents of the first file of this name, if there is one. A file is its name and its contents.
abbrev pub contents_of : List (List ℕ × List ℕ) → List ℕ → Option (List ℕ)
contents_of [] name = None
contents_of (file ∷ files) name = if bytes_eq file.0 name then Some file.1 else contents_of files name

-- The files are told, and none of them has this name.
abbrev pub Lacks : Option (List (List ℕ × List ℕ)) → List ℕ → Type 0
Lacks files name = IsSomeAnd files (λ told. contents_of told name ≡ None)

-- Where the files are told, there is one of this name, and its contents meet P.
abbrev pub IfContents : Option (List (List ℕ × List ℕ)) → List ℕ → (List ℕ → Type 0) → Type 0
IfContents files name P = IfSome files (λ told. IsSomeAnd (contents_of told name) P)

-- The files are told, and the one of this name has more bytes than the limit.
abbrev pub IsLonger : Option (List (List ℕ × List ℕ)) → List ℕ → ℕ → Type 0
IsLonger files name limit = IsSomeAnd files (λ told. IsSomeAnd (contents_of told name) (λ contents. limit < length contents))
