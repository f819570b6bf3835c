-- Boxes (document 01, "Split"): a box is a list of sides, a reading a list of counts, of any number of dimensions.
-- Each test by dimension is a list, so that the first dimension at fault can be told.
use Rattle.std.specs.Prelude.{ℕ, Bool, false, ◌&&◌, ◌||◌, cond, List, [], ◌∷◌, ◌++◌, map, ℤ, pos, ◌+ℤ◌, ◌-ℤ◌}
use Rattle.std.specs.Int.Signed.{le_z, lt_z}
use Rattle.laws.specs.Division.{floor_z}
use Rattle.laws.specs.Lists.{at, tab, all}

pub record Side : Type 0 where
  pub lo : ℤ
  pub hi : ℤ

abbrev pub side : ℤ → ℤ → Side
side a b = record { lo = a; hi = b }

abbrev pub side_at : List ℤ → List ℤ → ℕ → Side
side_at lo hi i = side (at lo i) (at hi i)

-- the first n sides of two arrays of edges
abbrev pub sides_of : ℕ → List ℤ → List ℤ → List Side
sides_of n lo hi = tab (side_at lo hi) n 0

-- a reading in a box, dimension by dimension; they have as many dimensions
abbrev pub has : Side → ℤ → Bool
has s x = le_z s.lo x && le_z x s.hi

unfoldable pub fits : List Side → List ℤ → List Bool
fits [] [] = []
fits [] (x ∷ xs) = false ∷ []
fits (s ∷ ss) [] = false ∷ []
fits (s ∷ ss) (x ∷ xs) = has s x ∷ fits ss xs

-- a box in a box, dimension by dimension
abbrev pub covers : Side → Side → Bool
covers b a = le_z b.lo a.lo && le_z a.hi b.hi

unfoldable pub lies : List Side → List Side → List Bool
lies [] [] = []
lies [] (b ∷ bs) = false ∷ []
lies (a ∷ ss) [] = false ∷ []
lies (a ∷ ss) (b ∷ bs) = covers b a ∷ lies ss bs

abbrev pub within : List Side → List Side → Bool
within a b = all (lies a b)

-- a side of more than one count
abbrev pub long : Side → Bool
long s = lt_z s.lo s.hi

-- a..b with a < b becomes a..m and m+1..b, m the floor of (a+b)/2; a one-count side stays
abbrev pub middle : Side → ℤ
middle s = floor_z (s.lo +ℤ s.hi) 2

abbrev pub halves : Side → List Side
halves s = cond (long s) (side s.lo (middle s) ∷ side (middle s +ℤ pos 1) s.hi ∷ []) (s ∷ [])

-- each half in front of each of the boxes of the other dimensions, the halves of one such box side by side
unfoldable pub in_front : List Side → List (List Side) → List (List Side)
in_front hs [] = []
in_front hs (b ∷ bs) = map (λ h. h ∷ b) hs ++ in_front hs bs

-- along all long sides at once, ordered by a binary number, dimension 1 the lowest bit, lower half 0
unfoldable pub pieces : List Side → List (List Side)
pieces [] = [] ∷ []
pieces (s ∷ ss) = in_front (halves s) (pieces ss)

-- a box with no long side cannot be split: it has no children
unfoldable pub any_long : List Side → Bool
any_long [] = false
any_long (s ∷ ss) = long s || any_long ss

unfoldable pub children : List Side → List (List Side)
children b = cond (any_long b) (pieces b) []

-- ---- request 2026-06: the longest side alone, in two

-- a side's counts beyond the first; and the most of a box
abbrev pub reach : Side → ℤ
reach s = s.hi -ℤ s.lo

abbrev pub larger : ℤ → ℤ → ℤ
larger a b = cond (le_z a b) b a

unfoldable pub furthest : List Side → ℤ
furthest [] = pos 0
furthest (s ∷ ss) = larger (reach s) (furthest ss)

-- the first side that reaches so far, halved, lower half first; the others stay
unfoldable pub halved : ℤ → List Side → List (List Side)
halved far [] = []
halved far (s ∷ ss) = cond (le_z far (reach s)) (map (λ h. h ∷ ss) (halves s)) (map (λ b. s ∷ b) (halved far ss))

-- the longest side, the lowest dimension where several are equal; a box with no long side cannot be split
unfoldable pub longest_halved : List Side → List (List Side)
longest_halved b = cond (any_long b) (halved (furthest b) b) []
