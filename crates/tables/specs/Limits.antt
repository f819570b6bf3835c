-- Limits: where the sums of a row over a box have to lie for the side of the image to lie in a given side, so that no division is needed to
-- tell it; the slice in which the search is lent them, mode by mode; the slice in which it is lent a mark and an offset of each mode's last row; and what
-- the search asks of all that it is lent. Definitions alone.
use Rattle.std.specs.Prelude.{ℕ, ◌+◌, ◌-◌, ◌*◌, ◌≤◌, ◌<◌, ◌≡◌, Bool, true, List, [], ℤ, pos, nat_abs, ◌+ℤ◌, ◌-ℤ◌, ◌*ℤ◌, length}
use Rattle.std.proofs.Math.Option.{Option, none, some}
use Rattle.laws.specs.Guards.{guard}
use Rattle.laws.specs.Lists.{at, tab, all}
use Rattle.laws.specs.Division.{floor_z, ceil_z}
use Rattle.meaning.specs.Boxes.{Side, side, side_at, covers}
use Rattle.meaning.specs.Images.{least_of, greatest_of, extreme}
use Rattle.meaning.specs.Plants.{edge_limit, row_start, band_side}
use Rattle.tables.specs.declared.frames.Frame.{Frame}
use Rattle.tables.specs.Boxes.{Small}
use Rattle.tables.specs.Images.{entries_of, RowSound, BandSound}
use Rattle.tables.specs.Frames.{FrameSound, ModesSound}
use Rattle.tables.specs.Levels.{side_in}

-- ceil(v / q) ≥ lo exactly when v ≥ q·(lo − 1) + 1, floor(v / q) ≤ hi exactly when v ≤ q·(hi + 1) − 1; v is a sum with an end of the band w
abbrev pub limit_side : ℕ → Side → Side → Side
limit_side q w s = side (pos q *ℤ (s.lo -ℤ pos 1) +ℤ pos 1 -ℤ w.lo) (pos q *ℤ (s.hi +ℤ pos 1) -ℤ pos 1 -ℤ w.hi)

-- the least and the greatest of A·x + b over a box, by the row that starts at `start`
abbrev pub sum_side : ℕ → List ℤ → ℕ → List Side → Side
sum_side n coef start b = side (extreme least_of (entries_of n coef start) b +ℤ at coef (start + n)) (extreme greatest_of (entries_of n coef start) b +ℤ at coef (start + n))

-- the side of the image, from the sums
abbrev pub divided : ℕ → Side → Side → Side
divided q w s = side (ceil_z (s.lo +ℤ w.lo) q) (floor_z (s.hi +ℤ w.hi) q)

-- ---- the limits, mode by mode two boxes, those of S and those of the goal; and the marks, mode by mode a mark and the offset of the last row

-- how many numbers a mode has in each
abbrev pub limits_size : ℕ
limits_size = 16

abbrev pub marks_size : ℕ
marks_size = 2

abbrev pub safe_at : ℕ → ℕ
safe_at u = limits_size * u

abbrev pub goal_at : ℕ → ℕ
goal_at u = limits_size * u + 8

abbrev pub mark_at : ℕ → ℕ
mark_at u = marks_size * u

abbrev pub offset_at : ℕ → ℕ
offset_at u = marks_size * u + 1

-- side i of the limits of a box lo, hi under mode u
abbrev pub limit_at : ℕ → ℕ → List ℤ → ℕ → List ℤ → List ℤ → ℕ → Side
limit_at n q bands u lo hi i = limit_side q (band_side n bands u i) (side_at lo hi i)

-- of one mode
pub record LaidAt (n q : ℕ) (goal safe : ℕ → Side) (bands limits : List ℤ) (u : ℕ) : Type 0 where
  pub in-safe : (i : ℕ) → i < n → side_in limits (safe_at u) i ≡ limit_side q (band_side n bands u i) (safe i)
  pub in-goal : (i : ℕ) → i < n → side_in limits (goal_at u) i ≡ limit_side q (band_side n bands u i) (goal i)

-- of so many
abbrev pub Laid : ℕ → ℕ → ℕ → (ℕ → Side) → (ℕ → Side) → List ℤ → List ℤ → Type 0
Laid n modes q goal safe bands limits = (u : ℕ) → u < modes → LaidAt n q goal safe bands limits u

-- the entries of the last row of mode u, and its offset
abbrev pub last_entries : ℕ → List ℤ → ℕ → List ℤ
last_entries n coef u = entries_of n coef (row_start n u (n - 1))

abbrev pub last_offset : ℕ → List ℤ → ℕ → ℤ
last_offset n coef u = at coef (row_start n u (n - 1) + n)

-- what is lent of that row: a mark, 0 unless mode u has the entries of the mode before it, and the offset
pub record MarkedAt (n : ℕ) (coef marks : List ℤ) (u : ℕ) : Type 0 where
  pub shared : (at marks (mark_at u) ≡ pos 0 → ⊥) → (1 ≤ u) × (last_entries n coef (u - 1) ≡ last_entries n coef u)
  pub offset : at marks (offset_at u) ≡ last_offset n coef u

abbrev pub Marked : ℕ → ℕ → List ℤ → List ℤ → Type 0
Marked n modes coef marks = (u : ℕ) → u < modes → MarkedAt n coef marks u

-- ---- tests of sums, and what the sums are divided to

-- the sums of row i of mode u over box b, and that they lie in the limits at `base`
abbrev pub sums_at : ℕ → List ℤ → ℕ → List Side → ℕ → Side
sums_at n coef u b i = sum_side n coef (row_start n u i) b

abbrev pub covered_at : ℕ → List ℤ → List ℤ → ℕ → ℕ → List Side → ℕ → Bool
covered_at n coef limits base u b i = covers (side_in limits base i) (sums_at n coef u b i)

abbrev pub covered : ℕ → List ℤ → List ℤ → ℕ → ℕ → List Side → Bool
covered n coef limits base u b = all (tab (covered_at n coef limits base u b) n 0)

abbrev pub divided_at : ℕ → ℕ → List ℤ → List ℤ → ℕ → List Side → ℕ → Side
divided_at n q bands coef u b i = divided q (band_side n bands u i) (sums_at n coef u b i)

-- what two arrays hold of sums under mode u, divided
abbrev pub divided_in : ℕ → ℕ → List ℤ → ℕ → List ℤ → List ℤ → ℕ → Side
divided_in n q bands u lo hi i = divided q (band_side n bands u i) (side_at lo hi i)

-- the first n of two arrays lie within ±k
abbrev pub Within : ℕ → ℕ → List ℤ → List ℤ → Type 0
Within k n lo hi = (i : ℕ) → i < n → (nat_abs (at lo i) ≤ k) × (nat_abs (at hi i) ≤ k)

-- the search's own: an image that stays in S, one that lands in the goal, and the image
abbrev pub stays_lent : ℕ → List ℤ → List ℤ → ℕ → List Side → Bool
stays_lent n coef limits u b = covered n coef limits (safe_at u) u b

abbrev pub lands_lent : ℕ → List ℤ → List ℤ → ℕ → List Side → Bool
lands_lent n coef limits u b = covered n coef limits (goal_at u) u b

abbrev pub image_lent : ℕ → ℕ → List ℤ → List ℤ → ℕ → List Side → List Side
image_lent n q bands coef u b = tab (divided_at n q bands coef u b) n 0

-- the rest of a pattern behind a last mode: none is left, where the image lands
abbrev pub landing : ℕ → List ℤ → List ℤ → List Side → ℕ → Option (List ℕ)
landing n coef limits b u = guard (lands_lent n coef limits u b) none λ _. some []

-- ---- what is asked

-- of mode u: each of its rows stands in the slice
abbrev pub RowsSound : ℕ → List ℤ → ℕ → Type 0
RowsSound n coef u = (i : ℕ) → i < n → RowSound n coef (row_start n u i)

-- and each of its bands in theirs
abbrev pub BandsSound : ℕ → List ℤ → ℕ → Type 0
BandsSound n bands u = (i : ℕ) → i < n → BandSound n bands u i

-- an offset more than four terms
abbrev pub add_limit : ℕ
add_limit = 90_000_000_000

-- of the marks
pub record MarksLent (n modes : ℕ) (coef marks : List ℤ) : Type 0 where
  pub room : marks_size * modes ≤ length marks
  pub marked : Marked n modes coef marks

-- of all else that the search is lent; an image that stays is small again
pub record Lent (n modes q : ℕ) (bands coef limits : List ℤ) : Type 0 where
  pub some : 1 ≤ n
  pub rooms : n ≤ 4
  pub room : limits_size * modes ≤ length limits
  pub least : 1 ≤ q
  pub most : q ≤ 10_000
  pub rows : (u : ℕ) → u < modes → RowsSound n coef u
  pub band : (u : ℕ) → u < modes → BandsSound n bands u
  pub small : (u : ℕ) (b : List Side) → u < modes → Small edge_limit b → stays_lent n coef limits u b ≡ true → Small edge_limit (image_lent n q bands coef u b)

-- of a frame and its modes, that they are sound, and of its limits and last rows
pub record LimitsLaid (f : Frame) (bands coef limits marks : List ℤ) : Type 0 where
  pub sound : FrameSound f
  pub modes : ModesSound f.n f.modes f.q bands coef
  pub room : limits_size * f.modes ≤ length limits
  pub laid : Laid f.n f.modes f.q (side_at f.goal.lo f.goal.hi) (side_at f.safe.lo f.safe.hi) bands limits
  pub marked : MarksLent f.n f.modes coef marks
