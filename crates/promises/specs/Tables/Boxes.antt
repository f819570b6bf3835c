-- Laws of boxes: a box in a box in a box, and so what a box in a box holds (a reading is a box of one count a side); the middle of a long side.
-- Relies on meaning's page Boxes and the laws of rounding. Any number of dimensions.
use Rattle.std.specs.Prelude.{◌≡◌, refl, Bool, true, List, [], ◌∷◌, map, ℤ, pos, ◌+ℤ◌, ◌*ℤ◌, ◌≤ℤ◌, ◌<ℤ◌}
use Rattle.std.proofs.Common.{ap, arith}
use Rattle.laws.specs.Division.{floor_z}
use Rattle.laws.specs.DivisionLaws.{floor-low, floor-high}
use Rattle.laws.specs.Every.{Every}
use Rattle.laws.specs.Integers.{zarith, add, mul, lt_z-true}
use Rattle.laws.specs.Lists.{all}
use Rattle.laws.specs.Tests.{never, first, second, both, orders, ordered}
use Rattle.meaning.specs.Boxes as B
use Rattle.meaning.specs.Boxes.{Side, side, has, fits, covers, lies, within, long, middle}

-- no side is empty
abbrev pub Nonempty : List Side → Type 0
Nonempty b = Every (λ s. s.lo ≤ℤ s.hi) b

-- ---- a box in a box

-- a side that is covered, as facts
pub covers-facts : (t s : Side) → covers t s ≡ true → (t.lo ≤ℤ s.lo) × (s.hi ≤ℤ t.hi)
covers-facts t s e = orders t.lo s.lo s.hi t.hi e

covers-trans : (u t s : Side) → covers u t ≡ true → covers t s ≡ true → covers u s ≡ true
covers-trans u t s e f =
    let c = covers-facts u t e in
    let d = covers-facts t s f in
    let low : u.lo ≤ℤ s.lo = omega (zarith, c, d) in
    let high : s.hi ≤ℤ u.hi = omega (zarith, c, d) in
    ordered low high

pub covers-itself : (s : Side) → covers s s ≡ true
covers-itself s =
    let low : s.lo ≤ℤ s.lo = omega zarith in
    let high : s.hi ≤ℤ s.hi = omega zarith in
    ordered low high

pub within-itself : (a : List Side) → within a a ≡ true
unfolding B.lies all
within-itself [] = refl
within-itself (s ∷ a) = both (covers-itself s) (within-itself a)

pub within-trans : (a b c : List Side) → within a b ≡ true → within b c ≡ true → within a c ≡ true
unfolding B.lies all
within-trans [] [] c e f = f
within-trans [] (t ∷ b) c e f = never e
within-trans (s ∷ a) [] c e f = never e
within-trans (s ∷ a) (t ∷ b) [] e f = f
within-trans (s ∷ a) (t ∷ b) (u ∷ c) e f =
    both (covers-trans u t s (first (covers u t) (all (lies b c)) f) (first (covers t s) (all (lies a b)) e))
    (within-trans a b c (second (covers t s) (all (lies a b)) e) (second (covers u t) (all (lies b c)) f))

-- ---- a reading in a box

-- a reading as a box
abbrev pub points : List ℤ → List Side
points x = map (λ z. side z z) x

pub points-fit : (b : List Side) (x : List ℤ) → lies (points x) b ≡ fits b x
unfolding B.lies B.fits
points-fit [] [] = refl
points-fit [] (z ∷ x) = refl
points-fit (s ∷ b) [] = refl
points-fit (s ∷ b) (z ∷ x) = ap (λ (ts : List Bool). has s z ∷ ts) (points-fit b x)

-- what a box holds, a box around it holds
pub within-fits : (a b : List Side) (x : List ℤ) → within a b ≡ true → all (fits a x) ≡ true → all (fits b x) ≡ true
within-fits a b x e h = rw (← points-fit b x) (within-trans (points x) a b (rw (points-fit a x) h) e)

-- ---- the middle

pub middle-in : (s : Side) → long s ≡ true → (s.lo ≤ℤ middle s) × (middle s <ℤ s.hi)
middle-in s e =
    let a = s.lo in
    let b = s.hi in
    let m = floor_z (a +ℤ b) 2 in
    let h = lt_z-true a b e in
    let l = floor-low 2 (omega arith) (a +ℤ b) in
    let u = floor-high 2 (omega arith) (a +ℤ b) in
    omega (zarith, h, l, u, add a b, mul (pos 2) m, add (pos 2 *ℤ m) (pos 2))
