-- Laws of the search's steps: the sums of a row from its extremes; sums that are kept; and that sums lie in the limits exactly where what they
-- are divided to lies in the side that the limits are of. Assumes nothing.
use Prim.Native.Nat.{ℕ, ◌+◌, ◌≤◌, ◌<◌}
use mathlib.Core.Path.{◌≡◌, refl, sym, ap, ◌∙◌}
use mathlib.Core.Bool.{Bool, true, false}
use mathlib.Core.List.{List}
use native.Mathlib.Omega.{arith}
use native.Mathlib.Decide.{ℕ_discrete}
use native.Mathlib.Nat.{zero-add}
use lib.ListN.{length, get_or, set}
use lib.IntN.{ℤ, pos, nat_abs, ◌+ℤ◌, ◌-ℤ◌, ◌*ℤ◌}
use lib.Signed.{le_z, ◌≤ℤ◌, ◌<ℤ◌}
use Rattle.laws.specs.Integers.{zarith, add, sub, le_z-true, le_z-false}
use Rattle.laws.specs.Division.{floor_z, ceil_z}
use Rattle.laws.specs.DivisionLaws.{floor-greatest, ceil-least}
use Rattle.laws.specs.Lists.{at, tab, all}
use Rattle.laws.specs.Tabs.{get_d-tab, at-below, at_stored}
use Rattle.laws.specs.Tests.{never, true-le_z, false-le_z, all-tab}
use Rattle.meaning.specs.Boxes.{Side, side, covers}
use Rattle.meaning.specs.Images.{least_of, greatest_of, extreme}
use Rattle.tables.specs.Images.{Extremes}
use Rattle.tables.specs.Limits.{limit_side, divided, Within}

-- ---- the sums

pub sides-are : {es : List ℤ} {b : List Side} {lo hi : ℤ} → Extremes es b lo hi → (o : ℤ) → side (lo +ℤ o) (hi +ℤ o) ≡ side (extreme least_of es b +ℤ o) (extreme greatest_of es b +ℤ o)
sides-are e o = rw (e.least, e.greatest) refl

-- one test that does not hold is enough
pub one-fails : (t : ℕ → Bool) (n i : ℕ) → i < n → t i ≡ false → false ≡ all (tab t n 0)
one-fails t n i h e = go (all (tab t n 0)) refl
  where
    go : (a : Bool) → all (tab t n 0) ≡ a → false ≡ all (tab t n 0)
    go false q = sym q
    go true q = never (sym e ∙ (rw zero-add at (all-tab t n 0 i h q)))

-- ---- arrays that are filled from the front

-- equal lists have equal entries
pub tab-entry : (f g : ℕ → Side) (n i : ℕ) → tab f n 0 ≡ tab g n 0 → i < n → f i ≡ g i
tab-entry f g n i e h =
    let d = side (pos 0) (pos 0) in
    let z : 0 + i ≡ i = zero-add i in
    (rw z at (sym (get_d-tab f d n 0 i h))) ∙ ap (λ (l : List Side). get_or l i d) e ∙ (rw z at (get_d-tab g d n 0 i h))

pub within_more : {k i : ℕ} (lo hi : List ℤ) (x y : ℤ) → i < length lo → i < length hi → Within k i lo hi → nat_abs x ≤ k → nat_abs y ≤ k → Within k (i + 1) (set lo i x) (set hi i y)
within_more {k} {i} lo hi x y a b w f g j h = go (ℕ_discrete j i)
  where
    go : Dec (j ≡ i) → (nat_abs (at (set lo i x) j) ≤ k) × (nat_abs (at (set hi i y) j) ≤ k)
    go (yes e) = rw (e, at_stored lo i x a, at_stored hi i y b) (f, g)
    go (no e) =
        let l : j < i = omega arith in
        rw (at-below lo i x j l, at-below hi i y j l) (w j l)

-- ---- limits

module _ (q : ℕ) (h : 1 ≤ q) where
  -- lo ≤ ceil((v + w) / q) exactly where q·(lo − 1) + 1 − w ≤ v
  low-limit : (lo w v : ℤ) → le_z (pos q *ℤ (lo -ℤ pos 1) +ℤ pos 1 -ℤ w) v ≡ le_z lo (ceil_z (v +ℤ w) q)
  low-limit lo w v = go (le_z (v +ℤ w) (pos q *ℤ m)) refl
    where
      m : ℤ
      m = lo -ℤ pos 1

      e : ℤ
      e = pos q *ℤ m

      go : (t : Bool) → le_z (v +ℤ w) e ≡ t → le_z (e +ℤ pos 1 -ℤ w) v ≡ le_z lo (ceil_z (v +ℤ w) q)
      go true k =
          let c = (ceil-least q h m (v +ℤ w)).1 (le_z-true (v +ℤ w) e k) in
          let l = le_z-true (v +ℤ w) e k in
          false-le_z {a = e +ℤ pos 1 -ℤ w} {b = v} (omega (zarith, add v w, add e (pos 1), sub (e +ℤ pos 1) w)) ∙ sym (false-le_z {a = lo} {b = ceil_z (v +ℤ w) q} (omega (zarith, sub lo (pos 1))))
      go false k =
          let l = le_z-false (v +ℤ w) e k in
          true-le_z {a = e +ℤ pos 1 -ℤ w} {b = v} (omega (zarith, add v w, add e (pos 1), sub (e +ℤ pos 1) w)) ∙ sym (true-le_z {a = lo} {b = ceil_z (v +ℤ w) q} (over l))
        where
          over : e <ℤ (v +ℤ w) → lo ≤ℤ ceil_z (v +ℤ w) q
          over l = pick (le_z (ceil_z (v +ℤ w) q) m) refl
            where
              pick : (t : Bool) → le_z (ceil_z (v +ℤ w) q) m ≡ t → lo ≤ℤ ceil_z (v +ℤ w) q
              pick true k = let c = (ceil-least q h m (v +ℤ w)).0 (le_z-true (ceil_z (v +ℤ w) q) m k) in absurd (omega zarith)
              pick false k = let c = le_z-false (ceil_z (v +ℤ w) q) m k in omega (zarith, sub lo (pos 1))

  -- floor((v + w) / q) ≤ hi exactly where v ≤ q·(hi + 1) − 1 − w
  high-limit : (hi w v : ℤ) → le_z v (pos q *ℤ (hi +ℤ pos 1) -ℤ pos 1 -ℤ w) ≡ le_z (floor_z (v +ℤ w) q) hi
  high-limit hi w v = go (le_z (pos q *ℤ m) (v +ℤ w)) refl
    where
      m : ℤ
      m = hi +ℤ pos 1

      e : ℤ
      e = pos q *ℤ m

      go : (t : Bool) → le_z e (v +ℤ w) ≡ t → le_z v (e -ℤ pos 1 -ℤ w) ≡ le_z (floor_z (v +ℤ w) q) hi
      go true k =
          let c = (floor-greatest q h m (v +ℤ w)).1 (le_z-true e (v +ℤ w) k) in
          let l = le_z-true e (v +ℤ w) k in
          false-le_z {a = v} {b = e -ℤ pos 1 -ℤ w} (omega (zarith, add v w, sub e (pos 1), sub (e -ℤ pos 1) w)) ∙ sym (false-le_z {a = floor_z (v +ℤ w) q} {b = hi} (omega (zarith, add hi (pos 1))))
      go false k =
          let l = le_z-false e (v +ℤ w) k in
          true-le_z {a = v} {b = e -ℤ pos 1 -ℤ w} (omega (zarith, add v w, sub e (pos 1), sub (e -ℤ pos 1) w)) ∙ sym (true-le_z {a = floor_z (v +ℤ w) q} {b = hi} (under l))
        where
          under : (v +ℤ w) <ℤ e → floor_z (v +ℤ w) q ≤ℤ hi
          under l = pick (le_z m (floor_z (v +ℤ w) q)) refl
            where
              pick : (t : Bool) → le_z m (floor_z (v +ℤ w) q) ≡ t → floor_z (v +ℤ w) q ≤ℤ hi
              pick true k = let c = (floor-greatest q h m (v +ℤ w)).0 (le_z-true m (floor_z (v +ℤ w) q) k) in absurd (omega zarith)
              pick false k = let c = le_z-false m (floor_z (v +ℤ w) q) k in omega (zarith, add hi (pos 1))

  -- sums lie in the limits of a side exactly where what they are divided to lies in it
  pub limit-covers : (w s t : Side) → covers (limit_side q w s) t ≡ covers s (divided q w t)
  limit-covers w s t = rw (low-limit s.lo w.lo t.lo, high-limit s.hi w.hi t.hi) refl
