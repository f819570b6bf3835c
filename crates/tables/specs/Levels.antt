-- Boxes side by side in one array, as the search is lent them: of each four lows, then four highs. Definitions alone.
use Rattle.std.specs.Prelude.{ℕ, ◌+◌, ◌*◌, ◌≤◌, ◌<◌, ◌≡◌, ◌⊎◌, List, length, set, ℤ}
use Rattle.laws.specs.Lists.{at, tab}
use Rattle.meaning.specs.Boxes.{Side, side}

-- numbers of a box, and of an array: a box for each mode of the longest pattern
abbrev pub wide : ℕ
wide = 8

abbrev pub room : ℕ
room = 48

abbrev pub side_in : List ℤ → ℕ → ℕ → Side
side_in boxes place i = side (at boxes (place + i)) (at boxes (place + 4 + i))

-- the first n sides of the box at `place`, and of that of level l
abbrev pub box_in : ℕ → List ℤ → ℕ → List Side
box_in n boxes place = tab (side_in boxes place) n 0

abbrev pub level_in : ℕ → List ℤ → ℕ → List Side
level_in n boxes l = box_in n boxes (wide * l)

-- side i of the box at `place` set
abbrev pub stored : List ℤ → ℕ → ℕ → Side → List ℤ
stored boxes place i s = set (set boxes (place + i) s.lo) (place + 4 + i) s.hi

-- every other box as it was
pub record Beside (place : ℕ) (boxes₀ boxes : List ℤ) : Type 0 where
  pub long : length boxes ≡ length boxes₀
  pub others : (other i : ℕ) → i < 4 → (other + wide ≤ place) ⊎ (place + wide ≤ other) → side_in boxes other i ≡ side_in boxes₀ other i
