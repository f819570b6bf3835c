-- The last steps of page Nearest (specs/Sheets): what is made of a float is the whole number nearest k times it, and it is told exactly. They rest on that
-- page's `signed-nearest`, and stand here since a theorem of specs/ that rests on a wrong one leaves a wrong program untried.
use Prim.Native.Nat.{ℕ, ◌+◌, ◌*◌, ◌/◌, ◌≤◌, ◌<◌}
use Rattle.std.specs.Prelude.{◌≡◌, Bool, true, ◌↔◌, T, ℤ, ◌*ℤ◌, Float, Some}
use Rattle.std.proofs.Math.Path.{refl}
use Rattle.std.proofs.Common.{subst, arith, le-leb, pow_pos}
use Rattle.std.proofs.Math.IntN.{pos, nat_abs}
use Rattle.std.specs.Float.{nan, inf, fin, binary64}
use Rattle.std.specs.Float.Ieee.{up, down, fits}
use Rattle.std.specs.Float.Ieee.Fits.{down_pos}
use Rattle.std.specs.Float.Ieee.Nearest.{div_same}
use Rattle.laws.specs.Tests.{never}
use Rattle.meaning.specs.Sheets as S
use Rattle.meaning.specs.Sheets.{finite, signed_by, nearest, limited_to, whole_of, units, units_of}
use Rattle.promises.specs.Sheets.Nearest.{Nearest, crossed, half_up, signed-times, signed-nearest, out-near, limited-was, whole-limit, units-exact, one-nearest}

nearest-is : (s : Bool) (k m : ℕ) (e : ℤ) (u a : ℕ) → 0 < u → m * up e * u ≡ a * down e → Nearest u (pos k *ℤ signed_by s a) (signed_by s (nearest k m e))
nearest-is s k m e u a p h =
    let w = half_up (k * a) u p in
    let d : 0 < 2 * down e = omega (arith, down_pos e) in
    let q : nearest k m e ≡ (2 * (k * a) + u) / (2 * u) =
    div_same (2 * (k * (m * up e)) + down e) (2 * down e) (2 * (k * a) + u) (2 * u) d (omega arith) (crossed k (m * up e) (down e) a u h) in
    rw (signed-times s k a, q) (signed-nearest s u (k * a) ((2 * (k * a) + u) / (2 * u)) p w.0 w.1)

-- and of a float that binary64 holds the whole number nearest k times it
pub whole-nearest : (limit k : ℕ) (x : Float) (v : ℤ) → T (fits binary64 x) → whole_of limit k x ≡ Some v → Nearest units (pos k *ℤ units_of x) v
unfolding S.whole_of S.units_of
whole-nearest limit k nan v t h = out-near h
whole-nearest limit k (inf s) v t h = out-near h
whole-nearest limit k (fin s m e) v t h =
    let size = m * up e * units / down e in
    subst (Nearest units (pos k *ℤ signed_by s size)) (limited-was limit (signed_by s (nearest k m e)) v h).0 (nearest-is s k m e units size (pow_pos 1074) (units-exact s m e t))

pub near-exactly : (limit k : ℕ) (x : Float) (v : ℤ) → T (fits binary64 x)
    → (whole_of limit k x ≡ Some v) ↔ ((finite x ≡ true) × Nearest units (pos k *ℤ units_of x) v × (nat_abs v ≤ limit))
unfolding S.whole_of S.units_of S.finite
near-exactly limit k nan v t = (λ h. out-near h, λ w. never w.0)
near-exactly limit k (inf s) v t = (λ h. out-near h, λ w. never w.0)
near-exactly limit k (fin s m e) v t = (
  λ h. (refl, whole-nearest limit k (fin s m e) v t h, whole-limit limit k (fin s m e) v h),
  λ w.
      let size = m * up e * units / down e in
      let here = nearest-is s k m e units size (pow_pos 1074) (units-exact s m e t) in
      let q : signed_by s (nearest k m e) ≡ v = one-nearest units (pos k *ℤ signed_by s size) (pow_pos 1074) v (signed_by s (nearest k m e)) w.1 here in
      rw (q, le-leb (nat_abs v) limit w.2) refl,
)
