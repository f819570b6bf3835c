-- Nearest whole numbers (document 01, "The sheet"): a finite f64 is a whole number of units of 2 ^ −1074, and the whole number made of k times it is
-- the nearest one, halves away from zero. Said without fractions: what is divided by u stands beside u times the whole number.
-- Relies on lib.Ieee for which floats a format holds; every result of f64 is one.
use Prim.Native.Nat.{ℕ, zero, suc, ◌+◌, ◌-◌, ◌*◌, ◌/◌, ◌%◌, ◌^◌, ◌≤◌, ◌<◌}
use Rattle.std.specs.Prelude.{◌≡◌, Bool, true, false, ◌&&◌, cond, T, eqb, ltb, leb, ℤ, negsuc, ◌+ℤ◌, ◌-ℤ◌, ◌*ℤ◌, Float, Some, None}
use Rattle.std.proofs.Math.Path.{refl, ap}
use Rattle.std.proofs.Common.{sym, ◌∙◌, le_of_suc-le-suc, lt_of_not-le, lt_irrefl, lt_of_lt_of_le, div-one, mul-one, zero-mul, mul_assoc, mul_left_comm, mul_comm, add-mul, mod-lt, div-add-mod', arith, leb→le, leb-true, pow-add}
use Rattle.std.proofs.Math.Nat.{div-eq_of_lt}
use Rattle.std.proofs.Math.Pow.{pow-lt}
use Rattle.std.proofs.lemmas.Nat.{shl-shr}
use Rattle.std.proofs.Math.IntN.{pos, neg_ℤ, nat_abs}
use Rattle.std.specs.Float.Ieee as F
use Rattle.std.specs.Float.{nan, inf, fin, binary64}
use Rattle.std.specs.Float.Ieee.{up, down, fits}
use Rattle.std.specs.Float.Ieee.Digits.{back}
use Rattle.std.specs.Float.Ieee.Exact.{HasValue}
use Rattle.std.specs.Float.Ieee.Fits.{down_pos, and_l, and_r}
use Rattle.laws.specs.Integers.{P, N, zarith, sub, neg, abs, apart, abs_neg, mul-neg, mul-add, abs-sub, abs-mul}
use Rattle.laws.specs.Tests.{never}
use Rattle.meaning.specs.Sheets as S
use Rattle.meaning.specs.Sheets.{finite, signed_by, nearest, limited_to, whole_of, units, units_of}

-- v is the whole number nearest z / u: no farther than a half, and where it is a half the one away from zero
pub record Nearest (u : ℕ) (z v : ℤ) : Type 0 where
  pub half : 2 * nat_abs (pos u *ℤ v -ℤ z) ≤ u
  pub away : 2 * nat_abs (pos u *ℤ v -ℤ z) ≡ u → nat_abs z < u * nat_abs v

-- ---- a sign kept apart

pub signed-size : (s : Bool) (a : ℕ) → nat_abs (signed_by s a) ≡ a
signed-size false a = refl
signed-size true a = abs_neg (pos a)

pub signed-times : (s : Bool) (k a : ℕ) → pos k *ℤ signed_by s a ≡ signed_by s (k * a)
signed-times false k a = refl
signed-times true k a = mul-neg (pos k) (pos a)

signed-gap : (s : Bool) (a b : ℕ) → nat_abs (signed_by s a -ℤ signed_by s b) ≡ a - b + (b - a)
signed-gap false a b = let z = pos a -ℤ pos b in omega (zarith, sub (pos a) (pos b), apart z, abs z)
signed-gap true a b = let z = neg_ℤ (pos a) -ℤ neg_ℤ (pos b) in omega (zarith, sub (neg_ℤ (pos a)) (neg_ℤ (pos b)), neg (pos a), neg (pos b), apart z, abs z)

-- ---- every finite f64 is a whole number of units

shifted : (n k l : ℕ) → k ≤ l → n * 2 ^ l ≡ n * 2 ^ l / 2 ^ k * 2 ^ k
shifted n k l h =
    let e : n * 2 ^ l ≡ n * 2 ^ (l - k) * 2 ^ k =
    ap (λ (z : ℕ). n * 2 ^ z) (sym (back l k h)) ∙ ap (λ (z : ℕ). n * z) (pow-add 2 (l - k) k) ∙ sym (mul_assoc n (2 ^ (l - k)) (2 ^ k)) in
    e ∙ ap (λ (z : ℕ). z * 2 ^ k) (sym (shl-shr (n * 2 ^ (l - k)) k) ∙ ap (λ (z : ℕ). z / 2 ^ k) (sym e))

power-back : (a l : ℕ) → 2 ^ a ≤ 2 ^ l → a ≤ l
power-back a l h = le_of_suc-le-suc (lt_of_not-le (λ (g : suc l ≤ a). lt_irrefl (2 ^ l) (lt_of_lt_of_le (pow-lt g) h)))

lowered : (n : ℕ) (e : ℤ) (l : ℕ) → down e ≤ 2 ^ l → n * 2 ^ l ≡ n * 2 ^ l / down e * down e
lowered n (pos k) l h = sym (mul-one (n * 2 ^ l / 1) ∙ div-one (n * 2 ^ l))
lowered n (negsuc k) l h = shifted n (suc k) l (power-back (suc k) l h)

nothing : (p d : ℕ) → 0 < d → 0 * p ≡ 0 * p / d * d
nothing p d h = rw (zero-mul, div-eq_of_lt h, zero-mul)

-- so the division in `units_of` loses nothing
pub units-exact : (s : Bool) (m : ℕ) (e : ℤ) → T (fits binary64 (fin s m e)) → m * up e * units ≡ m * up e * units / down e * down e
unfolding F.fits
units-exact s zero e t = ap (λ (z : ℕ). z * units) (zero-mul (up e)) ∙ nothing units (down e) (down_pos e) ∙ ap (λ (z : ℕ). z * units / down e * down e) (sym (zero-mul (up e)))
units-exact s (suc m) e t =
    let a : Bool = eqb (suc m % 2) 1 in
    let b : Bool = ltb (suc m) (2 ^ 53) in
    let c : Bool = leb (down e) (2 ^ 1074) in
    let d : Bool = ltb (suc m * up e) (2 ^ 1024 * down e) in
    lowered (suc m * up e) e 1074 (leb→le (down e) (2 ^ 1074) (and_r (a && b) c (and_l (a && b && c) d t)))

-- x is just so many units
pub has-units : (s : Bool) (m : ℕ) (e : ℤ) → T (fits binary64 (fin s m e)) → HasValue (fin s m e) s (nat_abs (units_of (fin s m e))) units
unfolding S.units_of
has-units s m e t = (refl, units-exact s m e t ∙ ap (λ (z : ℕ). z * down e) (sym (signed-size s (m * up e * units / down e))))

-- ---- k times a size n / d that is a units of 1 / u, to the nearest

pub crossed : (k n d a u : ℕ) → n * u ≡ a * d → (2 * (k * n) + d) * (2 * u) ≡ (2 * (k * a) + u) * (2 * d)
crossed k n d a u h =
    let p : 2 * (k * n) * (2 * u) ≡ 2 * (2 * (k * (n * u))) = simp (mul_assoc, mul_left_comm) in
    let q : 2 * (k * a) * (2 * d) ≡ 2 * (2 * (k * (a * d))) = simp (mul_assoc, mul_left_comm) in
    let r : d * (2 * u) ≡ u * (2 * d) = simp (mul_comm, mul_left_comm) in
    let e : k * (n * u) ≡ k * (a * d) = ap (λ (z : ℕ). k * z) h in
    rw (add-mul (2 * (k * n)) d (2 * u), add-mul (2 * (k * a)) u (2 * d)) (omega arith)

-- no farther than a half, a half counted up
pub half_up : (t u : ℕ) → 0 < u → (2 * (u * ((2 * t + u) / (2 * u))) ≤ 2 * t + u) × (2 * t < 2 * (u * ((2 * t + u) / (2 * u))) + u)
half_up t u p =
    let v = (2 * t + u) / (2 * u) in
    let w : v * (2 * u) + (2 * t + u) % (2 * u) ≡ 2 * t + u = div-add-mod' (2 * t + u) (2 * u) in
    let m : (2 * t + u) % (2 * u) < 2 * u = mod-lt (2 * t + u) (omega arith) in
    let e : v * (2 * u) ≡ 2 * (u * v) = omega arith in
    parts (v * (2 * u)) (u * v) ((2 * t + u) % (2 * u)) e w m
  where
    parts : (z uv r : ℕ) → z ≡ 2 * uv → z + r ≡ 2 * t + u → r < 2 * u → (2 * uv ≤ 2 * t + u) × (2 * t < 2 * uv + u)
    parts z uv r e w m = (omega arith, omega arith)

pub signed-nearest : (s : Bool) (u t v : ℕ) → 0 < u → 2 * (u * v) ≤ 2 * t + u → 2 * t < 2 * (u * v) + u → Nearest u (signed_by s t) (signed_by s v)
signed-nearest s u t v p h l = record {
  half = rw (signed-times s u v, signed-gap s (u * v) t) (omega arith);
  away = λ e. rw (signed-size s t, signed-size s v) (up-side (u * v) (rw (signed-times s u v, signed-gap s (u * v) t) at e) h l);
}
  where
    up-side : (uv : ℕ) → 2 * (uv - t + (t - uv)) ≡ u → 2 * uv ≤ 2 * t + u → 2 * t < 2 * uv + u → t < uv
    up-side uv e h l = omega arith

-- ---- what `whole_of` answers

pub out-near : {A : Type 0} {v : ℤ} → None ≡ Some v → A
out-near e = never (cc)

pub limited-was : (limit : ℕ) (w v : ℤ) → limited_to limit w ≡ Some v → (w ≡ v) × (nat_abs v ≤ limit)
limited-was limit w v e = go (leb (nat_abs w) limit) refl e
  where
    go : (b : Bool) → leb (nat_abs w) limit ≡ b → cond b (Some w) None ≡ Some v → (w ≡ v) × (nat_abs v ≤ limit)
    go true q e = let z : w ≡ v = cc in (z, rw (← z) (leb-true (nat_abs w) limit q))
    go false q e = out-near e

-- within the limit
pub whole-limit : (limit k : ℕ) (x : Float) (v : ℤ) → whole_of limit k x ≡ Some v → nat_abs v ≤ limit
unfolding S.whole_of
whole-limit limit k nan v h = out-near h
whole-limit limit k (inf s) v h = out-near h
whole-limit limit k (fin s m e) v h = (limited-was limit (signed_by s (nearest k m e)) v h).1

-- ---- no whole number is nearer, and there is one nearest

module _ (u : ℕ) (z : ℤ) where
  -- how far u times a whole number is from z
  off : ℤ → ℕ
  off v = nat_abs (pos u *ℤ v -ℤ z)

  -- two whole numbers are u apart or more
  spread : (v w : ℤ) → nat_abs (pos u *ℤ w -ℤ pos u *ℤ v) ≡ u * nat_abs (w -ℤ v)
  spread v w =
      let e : pos u *ℤ w -ℤ pos u *ℤ v ≡ pos u *ℤ (w -ℤ v) = sym (mul-add (pos u) w (neg_ℤ v) ∙ ap (λ (t : ℤ). pos u *ℤ w +ℤ t) (mul-neg (pos u) v)) in
      ap nat_abs e ∙ abs-mul (pos u) (w -ℤ v)

  between : (v w : ℤ) → u * nat_abs (w -ℤ v) ≤ off w + off v
  unfolding off
  between v w =
      let a = pos u *ℤ v in
      let b = pos u *ℤ w in
      let e : b -ℤ a ≡ b -ℤ z -ℤ (a -ℤ z) = omega (zarith, sub b a, sub b z, sub a z, sub (b -ℤ z) (a -ℤ z)) in
      omega (arith, spread v w, ap nat_abs e, abs-sub (b -ℤ z) (a -ℤ z))

  same : (v w : ℤ) → nat_abs (w -ℤ v) ≡ 0 → w ≡ v
  same v w e = omega (zarith, sub w v, abs (w -ℤ v))

  pub no-nearer : (v : ℤ) → Nearest u z v → (w : ℤ) → nat_abs (pos u *ℤ v -ℤ z) ≤ nat_abs (pos u *ℤ w -ℤ z)
  unfolding off
  no-nearer v n w = go (nat_abs (w -ℤ v)) refl
    where
      go : (d : ℕ) → nat_abs (w -ℤ v) ≡ d → off v ≤ off w
      go zero e = rw (same v w e) (omega arith)
      go (suc d) e =
          let g : u * nat_abs (w -ℤ v) ≡ u * suc d = ap (λ (t : ℕ). u * t) e in
          omega (arith, between v w, n.half)

  -- a half away, and away from zero: z is half a u below a u·v that is above 0, and half a u above one that is below 0
  up-half : (a : ℕ) → 2 * off (pos a) ≡ u → nat_abs z < u * a → 2 * (u * a) + 2 * N z ≡ u + 2 * P z
  unfolding off
  up-half a e h = let x = pos (u * a) -ℤ z in omega (arith, sub (pos (u * a)) z, abs x, abs z, apart x)

  down-half : (a : ℕ) → 2 * off (negsuc a) ≡ u → nat_abs z < u * suc a → 2 * (u * suc a) + 2 * P z ≡ u + 2 * N z
  unfolding off
  down-half a e h =
      let b = pos (u * suc a) in
      let x = neg_ℤ b -ℤ z in
      omega (arith, sub (neg_ℤ b) z, neg b, abs x, abs z, apart x)

  apart_none : (a b : ℤ) → a ≡ b → nat_abs (b -ℤ a) ≡ 0
  apart_none a b e = let d = b -ℤ a in omega (zarith, sub b a, abs d, apart d)

  -- so there are not two, with u or more between them
  one_side : 0 < u → (v w : ℤ) → 2 * off v ≡ u → nat_abs z < u * nat_abs v → 2 * off w ≡ u → nat_abs z < u * nat_abs w → u ≤ nat_abs (pos u *ℤ w -ℤ pos u *ℤ v) → ⊥
  one_side p (pos a) (pos b) e h f g l =
      let q : u * a ≡ u * b = omega (arith, up-half a e h, up-half b f g) in
      omega (arith, apart_none (pos (u * a)) (pos (u * b)) (ap pos q))
  one_side p (pos a) (negsuc b) e h f g l = omega (arith, up-half a e h, down-half b f g)
  one_side p (negsuc a) (pos b) e h f g l = omega (arith, down-half a e h, up-half b f g)
  one_side p (negsuc a) (negsuc b) e h f g l =
      let q : u * suc a ≡ u * suc b = omega (arith, down-half a e h, down-half b f g) in
      omega (arith, apart_none (neg_ℤ (pos (u * suc a))) (neg_ℤ (pos (u * suc b))) (ap (λ (t : ℕ). neg_ℤ (pos t)) q))

  pub one-nearest : 0 < u → (v w : ℤ) → Nearest u z v → Nearest u z w → w ≡ v
  unfolding off
  one-nearest p v w n m = go (nat_abs (w -ℤ v)) refl
    where
      go : (d : ℕ) → nat_abs (w -ℤ v) ≡ d → w ≡ v
      go zero e = same v w e
      go (suc d) e =
          let g : u * nat_abs (w -ℤ v) ≡ u * suc d = ap (λ (t : ℕ). u * t) e in
          let a : 2 * off v ≡ u = omega (arith, between v w, n.half, m.half) in
          let b : 2 * off w ≡ u = omega (arith, between v w, n.half, m.half) in
          absurd (one_side p v w a (n.away a) b (m.away b) (omega (arith, spread v w)))

-- ---- so the number is told exactly: it is the nearest one of a finite float, and within the limit
