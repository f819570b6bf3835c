-- Rounding down as the machine does it: by its quotient, which cuts towards zero, and by its shift; and how large the answer is. Assumes nothing.
use Rattle.std.specs.Prelude.{◌≡◌, refl, ℕ, ◌+◌, ◌*◌, ◌/◌, ◌≤◌, ℤ, pos, negsuc, nat_abs, ◌+ℤ◌, ◌-ℤ◌, ◌≤ℤ◌, ◌<ℤ◌}
use Rattle.std.proofs.Common.{arith, div-le_self}
use Rattle.std.proofs.Math.Nat.{add-mul-div_right}
use Rattle.std.specs.Int.Signed.{quot_z, shr_z}
use Rattle.laws.specs.Division.{floor_z}
use Rattle.laws.specs.Integers.{zarith, sub}

-- ---- the quotient of z + q is one more than the floor from 0 on; below 0 that of q − 1 − z is the floor mirrored

one_more : (a q : ℕ) → 1 ≤ q → (a + q) / q ≡ a / q + 1
one_more a q h = let e : a + q ≡ a + 1 * q = omega arith in rw e (add-mul-div_right a 1 (omega arith))

pub quot-floor : (z : ℤ) (q : ℕ) → 1 ≤ q → pos 0 ≤ℤ z → quot_z (z +ℤ pos q) (pos q) -ℤ pos 1 ≡ floor_z z q
quot-floor (pos a) q g h = rw (one_more a q g) (omega (zarith, sub (pos (a / q + 1)) (pos 1)))
quot-floor (negsuc a) q g h = absurd h.le

pub quot-floor-below : (z : ℤ) (q : ℕ) → 1 ≤ q → z <ℤ pos 0 → pos 0 -ℤ quot_z (pos q -ℤ pos 1 -ℤ z) (pos q) ≡ floor_z z q
quot-floor-below (pos a) q g h = absurd (none h)
  where
    none : {n : ℕ} → pos n <ℤ pos 0 → ⊥
    none {n} h = omega zarith
quot-floor-below (negsuc a) q g h =
    let e : pos q -ℤ pos 1 -ℤ negsuc a ≡ pos (a + q) = omega (zarith, sub (pos q) (pos 1), sub (pos q -ℤ pos 1) (negsuc a)) in
    rw (e, one_more a q g) (omega (zarith, sub (pos 0) (pos (a / q + 1))))

-- a shift copies the sign and so rounds down
pub shift-floor : (z : ℤ) (q : ℕ) → shr_z z q ≡ floor_z z q
shift-floor (pos a) q = refl
shift-floor (negsuc a) q = refl

-- ---- sizes

pub abs-floor : (z : ℤ) (q : ℕ) → nat_abs (floor_z z q) ≤ nat_abs z
abs-floor (pos a) q = div-le_self a q
abs-floor (negsuc a) q = omega (zarith, div-le_self a q)
