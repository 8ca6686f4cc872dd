-- Counts of faults and of calls.
use Rattle.std.specs.Prelude.{ℕ, ◌+◌, ◌<◌, ◌≤◌, ◌≡◌, ◌⊎◌, min}

-- The last value of a count, where it stays.
abbrev pub last_count : ℕ
last_count = 18446744073709551615

-- The count of faults rose in this call, or stands at its last value.
abbrev pub Faulted : ℕ → ℕ → Type 0
Faulted old new = (old < new) ⊎ (new ≡ last_count)

-- A count never falls, and goes no further than its last value.
pub record NeverFalls (old new : ℕ) : Type 0 where
  pub no_lower : old ≤ new
  pub within : new ≤ last_count

-- The count after this one: one more, or the last value again.
abbrev pub next_count : ℕ → ℕ
next_count count = min (count + 1) last_count
