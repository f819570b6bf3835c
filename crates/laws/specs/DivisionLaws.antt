-- Laws of the two roundings of page Division, for a divisor q ≥ 1: each is the nearest whole number on its side, so both keep the order,
-- and a band that is q − 1 wide or wider holds a multiple of q. What is said of rounding up follows from rounding down by turning signs.
-- Relies on page Integers.
use Rattle.std.specs.Prelude.{ℕ, suc, ◌+◌, ◌*◌, ◌/◌, ◌≤◌, ◌<◌, ◌↔◌, ℤ, pos, negsuc, neg_ℤ, ◌+ℤ◌, ◌-ℤ◌, ◌*ℤ◌, ◌≤ℤ◌, ◌<ℤ◌}
use Rattle.std.proofs.Math.Nat.{div-add-mod, lt_of_mul-lt-mul_left}
use Rattle.std.proofs.Common.{mod-lt, mul-le-mul_left}
use Rattle.std.proofs.Math.IntN.{neg_ℤ-+ℤ}
use Rattle.std.specs.Int.Signed.{≤ℤ_refl}
use Rattle.laws.specs.Division.{floor_z, ceil_z}
use Rattle.laws.specs.Integers.{P, N, zarith, of_le, mul-neg, add, sub, mul, neg}

-- ---- order, sum and product

pub sum-le : {a b c d : ℤ} → a ≤ℤ b → c ≤ℤ d → (a +ℤ c) ≤ℤ (b +ℤ d)
sum-le {a} {b} {c} {d} h k = omega (zarith, add a c, add b d)

pub mul_mono : (k : ℕ) {a b : ℤ} → a ≤ℤ b → (pos k *ℤ a) ≤ℤ (pos k *ℤ b)
mul_mono k {a} {b} h = omega (zarith, mul (pos k) a, mul (pos k) b, mul-le-mul_left k (of_le h))

pub mul-anti : (k : ℕ) {a b : ℤ} → a ≤ℤ b → (negsuc k *ℤ b) ≤ℤ (negsuc k *ℤ a)
mul-anti k {a} {b} h = omega (zarith, mul (negsuc k) a, mul (negsuc k) b, mul-le-mul_left (suc k) (of_le h))

-- q·y − m lies in low .. high
abbrev pub Banded : ℕ → ℤ → ℤ → ℤ → ℤ → Type 0
Banded q m low high y = (low ≤ℤ (pos q *ℤ y -ℤ m)) × ((pos q *ℤ y -ℤ m) ≤ℤ high)

module _ (q : ℕ) (positive : 1 ≤ q) where
  -- ---- q·floor ≤ a < q·floor + q

  pub floor-low : (a : ℤ) → (pos q *ℤ floor_z a q) ≤ℤ a
  floor-low (pos a) = omega (zarith, mul (pos q) (pos (a / q)), div-add-mod a q)
  floor-low (negsuc a) = omega (zarith, mul (pos q) (negsuc (a / q)), div-add-mod a q, mod-lt a positive)

  pub floor-high : (a : ℤ) → a <ℤ (pos q *ℤ floor_z a q +ℤ pos q)
  floor-high (pos a) = omega (zarith, add (pos q *ℤ pos (a / q)) (pos q), mul (pos q) (pos (a / q)), div-add-mod a q, mod-lt a positive)
  floor-high (negsuc a) = omega (zarith, add (pos q *ℤ negsuc (a / q)) (pos q), mul (pos q) (negsuc (a / q)), div-add-mod a q)

  -- ---- the floor is the greatest y with q·y ≤ a, the ceiling the least with a ≤ q·y

  pub floor-greatest : (y a : ℤ) → (y ≤ℤ floor_z a q) ↔ ((pos q *ℤ y) ≤ℤ a)
  floor-greatest y a = (there, back)
    where
      there : y ≤ℤ floor_z a q → (pos q *ℤ y) ≤ℤ a
      there k = let l = mul_mono q k in let m = floor-low a in omega zarith

      back : (pos q *ℤ y) ≤ℤ a → y ≤ℤ floor_z a q
      back k =
          let u = floor-high a in
          let e : q * (P y + N (floor_z a q)) < q * (P (floor_z a q) + 1 + N y) = omega (zarith, mul (pos q) y, mul (pos q) (floor_z a q), add (pos q *ℤ floor_z a q) (pos q)) in
          let l = lt_of_mul-lt-mul_left q e in
          omega zarith

  pub ceil-least : (y a : ℤ) → (ceil_z a q ≤ℤ y) ↔ (a ≤ℤ (pos q *ℤ y))
  ceil-least y a = (there, back)
    where
      turned : (neg_ℤ y ≤ℤ floor_z (neg_ℤ a) q) ↔ ((pos q *ℤ neg_ℤ y) ≤ℤ neg_ℤ a)
      turned = floor-greatest (neg_ℤ y) (neg_ℤ a)

      there : ceil_z a q ≤ℤ y → a ≤ℤ (pos q *ℤ y)
      there k =
          let l = turned.0 (omega (zarith, neg y, neg (floor_z (neg_ℤ a) q))) in
          omega (zarith, mul-neg (pos q) y, neg (pos q *ℤ y), neg a)

      back : a ≤ℤ (pos q *ℤ y) → ceil_z a q ≤ℤ y
      back k =
          let l = turned.1 (omega (zarith, mul-neg (pos q) y, neg (pos q *ℤ y), neg a)) in
          omega (zarith, neg y, neg (floor_z (neg_ℤ a) q))

  -- ---- both keep the order

  pub floor-mono : {a b : ℤ} → a ≤ℤ b → floor_z a q ≤ℤ floor_z b q
  floor-mono {a} {b} k = (floor-greatest (floor_z a q) b).1 (let l = floor-low a in omega zarith)

  pub ceil-mono : {a b : ℤ} → a ≤ℤ b → ceil_z a q ≤ℤ ceil_z b q
  ceil-mono {a} {b} k = (ceil-least (ceil_z b q) a).1 (let l = (ceil-least (ceil_z b q) b).0 (≤ℤ_refl (ceil_z b q)) in omega zarith)

  -- ---- a wide band: from m the multiples of q nearest to its ends from inside lie in it

  pub floor-banded : (m low high : ℤ) → (pos q -ℤ pos 1) ≤ℤ (high -ℤ low) → Banded q m low high (floor_z (m +ℤ high) q)
  floor-banded m low high w =
      let y = floor_z (m +ℤ high) q in
      let l = floor-low (m +ℤ high) in
      let u = floor-high (m +ℤ high) in
      (omega (zarith, sub (pos q *ℤ y) m, add m high, add (pos q *ℤ y) (pos q), sub (pos q) (pos 1), sub high low), omega (zarith, sub (pos q *ℤ y) m, add m high))

  pub ceil-banded : (m low high : ℤ) → (pos q -ℤ pos 1) ≤ℤ (high -ℤ low) → Banded q m low high (ceil_z (m +ℤ low) q)
  ceil-banded m low high w =
      let f = floor_z (neg_ℤ m +ℤ neg_ℤ low) q in
      let turned = floor-banded (neg_ℤ m) (neg_ℤ high) (neg_ℤ low) (omega (zarith, neg low, neg high, sub (neg_ℤ low) (neg_ℤ high), sub high low)) in
      rw (neg_ℤ-+ℤ m low)
      (omega (zarith, turned, neg m, neg low, neg high, mul-neg (pos q) f, neg (pos q *ℤ f), sub (pos q *ℤ f) (neg_ℤ m), sub (pos q *ℤ neg_ℤ f) m))

  -- between two numbers that are q − 1 apart there is a multiple of q
  pub ceil-floor : (x y : ℤ) → (x +ℤ pos q) ≤ℤ (y +ℤ pos 1) → ceil_z x q ≤ℤ floor_z y q
  ceil-floor x y e =
      let f = floor_z (neg_ℤ x) q in
      (floor-greatest (ceil_z x q) y).1
      (omega (zarith, floor-high (neg_ℤ x), add (pos q *ℤ f) (pos q), neg x, mul-neg (pos q) f, neg (pos q *ℤ f), add x (pos q), add y (pos 1)))
