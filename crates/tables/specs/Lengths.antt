-- The lengths that a split tells of its children, as the code reads them: one behind another, and again where one is needed. Definitions alone.
use Rattle.std.specs.Prelude.{ℕ, zero, suc, ◌+◌, Bool, true, false, List, [], ◌∷◌, leb, eqb, length, Some, None, Ok, Err, Option}
use Rattle.laws.specs.Guards.{guard}
use Rattle.meaning.specs.Answers.{Walk}
use Rattle.meaning.specs.Numbers.{number_at}
use Rattle.meaning.specs.Refusals.{broken, bad_table}
use Rattle.meaning.specs.Files.{Read, read, refused}
use Rattle.meaning.specs.Verdicts.{Length, on_number, on_read, lengths_at}

-- the place behind k lengths
abbrev pub behind_at : ℕ → List ℕ → ℕ → Walk
behind_at k s at = on_read (lengths_at k s at) Err λ ls next. Ok next

-- the place behind a length that is told of a child, held to where the child begins and ends
abbrev pub held_at : Bool → List ℕ → ℕ → ℕ → ℕ → Walk
held_at false s at from end = Ok at
held_at true s at from end =
    on_number (number_at s at) (Err (broken at)) λ size next.
    guard (eqb end (from + size)) (Err (bad_table at)) λ _. Ok next

-- where the last of k children ends, by the lengths at `at`
unfoldable pub ends_at : ℕ → List ℕ → ℕ → ℕ → Walk
ends_at zero s at from = Ok from
ends_at (suc k) s at from =
    on_number (number_at s at) (Err (broken at)) λ size next.
    guard (leb (from + size) (length s)) (Err (bad_table at)) λ _. ends_at k s next (from + size)

-- what k lengths come to, and the place behind them
unfoldable pub sum_of : List Length → ℕ
sum_of [] = 0
sum_of (l ∷ ls) = l.size + sum_of ls

abbrev pub total_of : ℕ → Read (List Length) → Option (ℕ × ℕ)
total_of before (refused e) = None
total_of before (read ls next) = Some (before + sum_of ls, next)

abbrev pub total_at : ℕ → List ℕ → ℕ → Option (ℕ × ℕ)
total_at k s at = total_of 0 (lengths_at k s at)
