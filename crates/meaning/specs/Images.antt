-- Images (document 01, "The plant and its readings" and "Image"). What a mode does to a reading enters through one small record, a step,
-- so that another band, a product of two modes or a part of the rooms is another step.
use Rattle.std.specs.Prelude.{ℕ, Bool, false, ◌&&◌, List, [], ◌∷◌, map, ℤ, pos, negsuc, ◌+ℤ◌, ◌-ℤ◌, ◌*ℤ◌}
use Rattle.std.specs.Int.Signed.{le_z}
use Rattle.laws.specs.Division.{floor_z, ceil_z}
use Rattle.laws.specs.Lists.{all}
use Rattle.meaning.specs.Boxes.{Side, side}

-- a dimension's row: A_i1..A_in, b_i, and its band w lo .. w hi
pub record Row : Type 0 where
  pub entries : List ℤ
  pub offset : ℤ
  pub low : ℤ
  pub high : ℤ

pub record Step : Type 0 where
  pub rows : List Row
  pub q : ℕ

-- A·x, one row of it
unfoldable pub dot : List ℤ → List ℤ → ℤ
dot [] xs = pos 0
dot (a ∷ rest) [] = pos 0
dot (a ∷ rest) (x ∷ xs) = a *ℤ x +ℤ dot rest xs

-- q·y_i − (A·x + b)_i lies in w lo_i .. w hi_i, ends included
abbrev pub reached : ℕ → List ℤ → Row → ℤ → Bool
reached q x r y =
    let z = pos q *ℤ y -ℤ (dot r.entries x +ℤ r.offset) in
    le_z r.low z && le_z z r.high

unfoldable pub reached_all : ℕ → List ℤ → List Row → List ℤ → List Bool
reached_all q x [] [] = []
reached_all q x [] (y ∷ ys) = false ∷ []
reached_all q x (r ∷ rs) [] = false ∷ []
reached_all q x (r ∷ rs) (y ∷ ys) = reached q x r y ∷ reached_all q x rs ys

-- from reading x a whole reading y may follow exactly when that holds in each dimension
abbrev pub follows : Step → List ℤ → List ℤ → Bool
follows st x y = all (reached_all st.q x st.rows y)

-- a times a side's count, at its least and at its greatest: a takes the low or high edge by its sign
abbrev pub least_of : ℤ → Side → ℤ
least_of (pos a) s = pos a *ℤ s.lo
least_of (negsuc a) s = negsuc a *ℤ s.hi

abbrev pub greatest_of : ℤ → Side → ℤ
greatest_of (pos a) s = pos a *ℤ s.hi
greatest_of (negsuc a) s = negsuc a *ℤ s.lo

-- the sum of these over a row and a box
unfoldable pub extreme : (ℤ → Side → ℤ) → List ℤ → List Side → ℤ
extreme of [] ss = pos 0
extreme of (a ∷ rest) [] = pos 0
extreme of (a ∷ rest) (s ∷ ss) = of a s +ℤ extreme of rest ss

-- the least and greatest of A·x + b over the box, w lo added to the least, w hi to the greatest; divided by q, the low edge rounded up, the high edge down
abbrev pub image_side : ℕ → List Side → Row → Side
image_side q b r = side
    (ceil_z (extreme least_of r.entries b +ℤ r.offset +ℤ r.low) q)
    (floor_z (extreme greatest_of r.entries b +ℤ r.offset +ℤ r.high) q)

unfoldable pub image : Step → List Side → List Side
image st b = map (image_side st.q b) st.rows
