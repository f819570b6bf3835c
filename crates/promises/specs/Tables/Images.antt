-- S3, image: a smaller box has a smaller image, and every reading that may follow from a box lies in its image.
-- Low and high edges go by one argument: a row's sum over a box moves with the box. And the second follows from the first: a reading is a box
-- of one count a side, and what is reached from it lies in its image. That each edge is reached is page Reached.
-- Relies on the laws of rounding. Any step, any number of dimensions; what the numbers of a plant are is left out.
use Rattle.std.specs.Prelude.{ℕ, ◌≤◌, ◌≡◌, true, ℤ, pos, negsuc, ◌+ℤ◌, ◌-ℤ◌, ◌*ℤ◌, ◌≤ℤ◌}
use Rattle.std.proofs.Math.Path.{refl}
use mathlib.Core.List.{List, [], ◌∷◌, map}
use Rattle.std.specs.Int.Signed.{≤ℤ_refl}
use Rattle.laws.specs.DivisionLaws.{sum-le, mul_mono, mul-anti, floor-greatest, ceil-least, floor-mono, ceil-mono, Banded}
use Rattle.laws.specs.Integers.{zarith, add, sub}
use Rattle.laws.specs.Lists as L
use Rattle.laws.specs.Lists.{all}
use Rattle.laws.specs.Tests.{never, first, second, both, orders, ordered}
use Rattle.meaning.specs.Boxes as B
use Rattle.meaning.specs.Boxes.{Side, side, has, fits, covers, lies, within}
use Rattle.meaning.specs.Images as I
use Rattle.meaning.specs.Images.{Row, Step, dot, reached, reached_all, follows, least_of, greatest_of, extreme, image_side, image}
use Rattle.promises.specs.Tables.Boxes.{covers-facts, points, points-fit, within-fits}

-- ---- a row's sum over a box moves with the box

-- in an order that sums keep, so does the sum of what keeps it in each dimension
module _ (R : ℤ → ℤ → Type 0) (none : R (pos 0) (pos 0)) (plus : (a b c d : ℤ) → R a b → R c d → R (a +ℤ c) (b +ℤ d))
    (of : ℤ → Side → ℤ) (one : (c : ℤ) (t s : Side) → covers t s ≡ true → R (of c t) (of c s)) where
  extreme-within : (cs : List ℤ) (a b : List Side) → within a b ≡ true → R (extreme of cs b) (extreme of cs a)
  unfolding I.extreme B.lies L.all
  extreme-within [] a b e = none
  extreme-within (c ∷ cs) [] [] e = none
  extreme-within (c ∷ cs) [] (t ∷ b) e = never e
  extreme-within (c ∷ cs) (s ∷ a) [] e = never e
  extreme-within (c ∷ cs) (s ∷ a) (t ∷ b) e =
      plus _ _ _ _ (one c t s (first (covers t s) (all (lies a b)) e)) (extreme-within cs a b (second (covers t s) (all (lies a b)) e))

least-side : (c : ℤ) (t s : Side) → covers t s ≡ true → least_of c t ≤ℤ least_of c s
least-side (pos c) t s e = mul_mono c (covers-facts t s e).0
least-side (negsuc c) t s e = mul-anti c (covers-facts t s e).1

greatest-side : (c : ℤ) (t s : Side) → covers t s ≡ true → greatest_of c s ≤ℤ greatest_of c t
greatest-side (pos c) t s e = mul_mono c (covers-facts t s e).1
greatest-side (negsuc c) t s e = mul-anti c (covers-facts t s e).0

least-within : (cs : List ℤ) (a b : List Side) → within a b ≡ true → extreme least_of cs b ≤ℤ extreme least_of cs a
least-within = extreme-within (λ m n. m ≤ℤ n) (≤ℤ_refl (pos 0)) (λ a b c d h k. sum-le h k) least_of least-side

greatest-within : (cs : List ℤ) (a b : List Side) → within a b ≡ true → extreme greatest_of cs a ≤ℤ extreme greatest_of cs b
greatest-within = extreme-within (λ m n. n ≤ℤ m) (≤ℤ_refl (pos 0)) (λ a b c d h k. sum-le h k) greatest_of greatest-side

-- ---- a reading's sum is its own

point-extreme : (of : ℤ → Side → ℤ) → ((c z : ℤ) → of c (side z z) ≡ c *ℤ z) → (cs x : List ℤ) → extreme of cs (points x) ≡ dot cs x
unfolding I.extreme I.dot
point-extreme of e [] x = refl
point-extreme of e (c ∷ cs) [] = refl
point-extreme of e (c ∷ cs) (z ∷ x) = rw (e c z, point-extreme of e cs x) refl

least-point : (c z : ℤ) → least_of c (side z z) ≡ c *ℤ z
least-point (pos c) z = refl
least-point (negsuc c) z = refl

greatest-point : (c z : ℤ) → greatest_of c (side z z) ≡ c *ℤ z
greatest-point (pos c) z = refl
greatest-point (negsuc c) z = refl

module _ (q : ℕ) (positive : 1 ≤ q) where
  -- ---- one dimension

  side-within : (r : Row) (a b : List Side) → within a b ≡ true → covers (image_side q b r) (image_side q a r) ≡ true
  side-within r a b e =
      ordered
      (ceil-mono q positive (sum-le (sum-le (least-within r.entries a b e) (≤ℤ_refl r.offset)) (≤ℤ_refl r.low)))
      (floor-mono q positive (sum-le (sum-le (greatest-within r.entries a b e) (≤ℤ_refl r.offset)) (≤ℤ_refl r.high)))

  -- what is reached from a reading lies in its image
  point-side : (r : Row) (x : List ℤ) (y : ℤ) → reached q x r y ≡ true → has (image_side q (points x) r) y ≡ true
  point-side r x y e =
      let m = dot r.entries x +ℤ r.offset in
      let z = pos q *ℤ y -ℤ m in
      let h : Banded q m r.low r.high y = orders r.low z z r.high e in
      let low : (m +ℤ r.low) ≤ℤ (pos q *ℤ y) = omega (zarith, h, add m r.low, sub (pos q *ℤ y) m) in
      let high : (pos q *ℤ y) ≤ℤ (m +ℤ r.high) = omega (zarith, h, add m r.high, sub (pos q *ℤ y) m) in
      rw (point-extreme least_of least-point r.entries x, point-extreme greatest_of greatest-point r.entries x)
      (ordered ((ceil-least q positive y (m +ℤ r.low)).1 low) ((floor-greatest q positive y (m +ℤ r.high)).1 high))

  -- ---- all dimensions

  rows-within : (rows : List Row) (a b : List Side) → within a b ≡ true → within (map (image_side q a) rows) (map (image_side q b) rows) ≡ true
  unfolding B.lies L.all
  rows-within [] a b e = refl
  rows-within (r ∷ rows) a b e = both (side-within r a b e) (rows-within rows a b e)

  rows-reached : (rows : List Row) (x y : List ℤ) → all (reached_all q x rows y) ≡ true → all (fits (map (image_side q (points x)) rows) y) ≡ true
  unfolding B.fits I.reached_all L.all
  rows-reached [] x [] e = refl
  rows-reached [] x (y ∷ ys) e = never e
  rows-reached (r ∷ rows) x [] e = never e
  rows-reached (r ∷ rows) x (y ∷ ys) e =
      both (point-side r x y (first (reached q x r y) (all (reached_all q x rows ys)) e)) (rows-reached rows x ys (second (reached q x r y) (all (reached_all q x rows ys)) e))

-- ---- S3

-- a smaller box has a smaller image
pub image-within : (st : Step) (a b : List Side) → 1 ≤ st.q → within a b ≡ true → within (image st a) (image st b) ≡ true
unfolding I.image
image-within st a b p e = rows-within st.q p st.rows a b e

-- every reading that may follow from the box lies in the image
pub image_holds : (st : Step) (b : List Side) (x y : List ℤ) → 1 ≤ st.q → all (fits b x) ≡ true → follows st x y ≡ true → all (fits (image st b) y) ≡ true
unfolding I.image
image_holds st b x y p h e =
    within-fits (image st (points x)) (image st b) y (image-within st (points x) b p (rw (points-fit b x) h)) (rows-reached st.q p st.rows x y e)
