-- Shelves and sinks in memory, whose calls fail at chosen numbers.
use Rattle.std.specs.Prelude.{ℕ, List, [], Option, None, Some, slice_index_or}

-- What a shelf in memory is: its files, each by its name and contents, the numbers of the calls that fail, the number
-- of the next call, the count of faults, and the bytes left of the file that is being read.
pub record MemShelfState : Type 0 where
  pub files : List (List ℕ × List ℕ)
  pub fail : List ℕ
  pub number : ℕ
  pub faults : ℕ
  pub left : List ℕ

-- What a sink in memory is: the bytes written, how many it takes in all and in one write, the numbers of the writes
-- that fail, the number of the next write, and the count of faults.
pub record MemSinkState : Type 0 where
  pub written : List ℕ
  pub room : ℕ
  pub take : ℕ
  pub fail : List ℕ
  pub number : ℕ
  pub faults : ℕ

-- The contents of the file at a place, or no bytes where no place is given or there is no file.
abbrev pub contents_at : List (List ℕ × List ℕ) → Option ℕ → List ℕ
contents_at files None = []
contents_at files (Some place) = (slice_index_or files place ([], [])).1
