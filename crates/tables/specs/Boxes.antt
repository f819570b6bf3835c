-- Boxes as the code holds them, what it asks of their edges, one side of a child by the child's number or by a count that it holds, and the place of the longest
-- side. Definitions alone.
use Rattle.std.specs.Prelude.{ℕ, suc, ◌/◌, ◌%◌, cond, List, [], ◌∷◌, eqb, ℤ, pos, ◌+ℤ◌}
use Rattle.std.specs.Int.Signed.{le_z}
use Rattle.meaning.specs.Boxes.{Side, side, sides_of, long, middle, reach, furthest}
use Rattle.promises.specs.Files.Sound.{Bounded}
use Rattle.files.specs.declared.bounds.Sides.{Sides}

-- the first n sides
abbrev pub box_of : ℕ → Sides → List Side
box_of n b = sides_of n b.lo b.hi

-- each side of a box, not of two arrays (promises' `Edges`): boxes are computed, too
unfoldable pub Small : ℕ → List Side → Type 0
Small k [] = Unit {0}
Small k (s ∷ ss) = Bounded k s × Small k ss

-- the two halves of a long side
abbrev pub lower : Side → Side
lower s = side s.lo (middle s)

abbrev pub upper : Side → Side
upper s = side (middle s +ℤ pos 1) s.hi

-- the half of a side that the lowest bit of x names, and the bits that are left for the other sides; a one-count side takes no bit
abbrev pub piece_of : Side → ℕ → Side
piece_of s x = cond (long s) (cond (eqb (x % 2) 0) (lower s) (upper s)) s

abbrev pub rest_of : Side → ℕ → ℕ
rest_of s x = cond (long s) (x / 2) x

-- the half of a side that holds a count of it, and its number among the halves; a one-count side is the only one
abbrev pub part_of : Side → ℤ → Side
part_of s x = cond (long s) (cond (le_z x (middle s)) (lower s) (upper s)) s

abbrev pub bit_of : Side → ℤ → ℕ
bit_of s x = cond (long s) (cond (le_z x (middle s)) 0 1) 0

-- the place, from 0, of the longest side, the lowest where several are equal: the first that no side behind it outreaches
unfoldable pub longest_at : List Side → ℕ
longest_at [] = 0
longest_at (s ∷ ss) = cond (le_z (furthest ss) (reach s)) 0 (suc (longest_at ss))
