-- A pattern as the code holds it: the first k of an array of modes. Definitions alone.
use Rattle.std.specs.Prelude.{ℕ, ◌≤◌, ◌<◌, List, get_or}
use Rattle.laws.specs.Lists.{tab}

-- modes of the longest pattern
abbrev pub longest_pattern : ℕ
longest_pattern = 6

abbrev pub mode_at : List ℕ → ℕ → ℕ
mode_at us i = get_or us i 0

abbrev pub pattern_of : ℕ → List ℕ → List ℕ
pattern_of k us = tab (mode_at us) k 0

-- k modes below N
pub record Pattern (modes k : ℕ) (us : List ℕ) : Type 0 where
  pub longest : k ≤ longest_pattern
  pub each : (i : ℕ) → i < k → mode_at us i < modes
