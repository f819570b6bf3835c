-- A mode's step as the code is lent it: the small numbers by value, the bands and the coefficients in slices of any length; and what it asks of them,
-- which a judged plant has. Definitions alone.
use Rattle.std.specs.Prelude.{ℕ, ◌+◌, ◌≤◌, ◌<◌, ◌≡◌, List, ℤ, pos, negsuc, nat_abs, length}
use Rattle.laws.specs.Lists.{at, tab}
use Rattle.meaning.specs.Boxes.{Side}
use Rattle.meaning.specs.Images.{Row, Step, least_of, greatest_of, extreme}
use Rattle.meaning.specs.Plants.{band_limit, entry_limit, offset_limit, row_start, band_start, band_side}
use Rattle.promises.specs.Files.Sound.{Bounded}

-- an entry of A times an edge of S; four of them; and with an offset and an edge of the band
abbrev pub term_limit : ℕ
term_limit = 20_000_000_000

abbrev pub row_limit : ℕ
row_limit = 80_000_000_000

abbrev pub sum_limit : ℕ
sum_limit = 91_000_000_000

-- ---- the two parts of an entry: what it has above 0 and what it has below. Of 0 both are 0

abbrev pub positive_part : ℤ → ℤ
positive_part (pos a) = pos a
positive_part (negsuc a) = pos 0

abbrev pub negative_part : ℤ → ℤ
negative_part (pos a) = pos 0
negative_part (negsuc a) = negsuc a

-- ---- the step

-- entry j of the row that starts at `start`
abbrev pub entry_at : List ℤ → ℕ → ℕ → ℤ
entry_at coef start j = at coef (start + j)

abbrev pub entries_of : ℕ → List ℤ → ℕ → List ℤ
entries_of n coef start = tab (entry_at coef start) n 0

abbrev pub row_at : ℕ → List ℤ → ℕ → ℤ → ℤ → Row
row_at n coef start low high = record { entries = entries_of n coef start; offset = at coef (start + n); low = low; high = high }

abbrev pub row_from : ℕ → List ℤ → List ℤ → ℕ → ℕ → Row
row_from n bands coef u i = row_at n coef (row_start n u i) (band_side n bands u i).lo (band_side n bands u i).hi

abbrev pub step_from : ℕ → ℕ → List ℤ → List ℤ → ℕ → Step
step_from n q bands coef u = record { rows = tab (row_from n bands coef u) n 0; q = q }

-- ---- what is asked

-- the row that starts at `start` stands in the slice, its numbers in the ranges
pub record RowSound (n : ℕ) (coef : List ℤ) (start : ℕ) : Type 0 where
  pub some : 1 ≤ n
  pub rooms : n ≤ 4
  pub inside : start + n < length coef
  pub entries : (j : ℕ) → j < n → nat_abs (at coef (start + j)) ≤ entry_limit
  pub offset : nat_abs (at coef (start + n)) ≤ offset_limit

-- the band of mode u in dimension i stands in the slice, its ends in the ranges
pub record BandSound (n : ℕ) (bands : List ℤ) (u i : ℕ) : Type 0 where
  pub inside : band_start n u i + 1 < length bands
  pub ends : Bounded band_limit (band_side n bands u i)

pub record StepSound (n q : ℕ) (bands coef : List ℤ) (u : ℕ) : Type 0 where
  pub rooms : n ≤ 4
  pub least : 1 ≤ q
  pub most : q ≤ 10_000
  pub band : (i : ℕ) → i < n → BandSound n bands u i
  pub rows : (i : ℕ) → i < n → RowSound n coef (row_start n u i)

-- ---- what the sums over a row answer

pub record Extremes (entries : List ℤ) (b : List Side) (lo hi : ℤ) : Type 0 where
  pub least : lo ≡ extreme least_of entries b
  pub greatest : hi ≡ extreme greatest_of entries b
  pub low : nat_abs lo ≤ row_limit
  pub high : nat_abs hi ≤ row_limit
