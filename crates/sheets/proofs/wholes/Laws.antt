-- How `whole` rounds: the nearest whole number does not depend on the fraction that a float is written as, and by the exponent's field it is out of
-- every limit, 0, or what the shifted product says. Relies on page Fields, and on promises' page Nearest.
use Rattle.std.specs.Prelude.{Some, None}
use Prim.Native.Nat.{ℕ, zero, suc, ◌+◌, ◌-◌, ◌*◌, ◌/◌, ◌%◌, ◌^◌, ◌≤◌, ◌<◌}
use mathlib.Core.Path.{◌≡◌, refl, sym, ap, ◌∙◌, subst}
use mathlib.Core.Bool.{Bool, true, false, cond}
use native.Mathlib.Nat.{le_trans, le_of_lt, le_of_suc-le-suc, le-add_right, lt_of_le_of_lt, zero-lt-suc, mul_comm, mul_assoc, mul-add, one-mul, mul-le-mul, mul-le-mul_left, mul-le-mul_right, div-add-mod', div-eq_of_lt, add-div_right, mul-add-div_right, div-div-eq-div-mul, mul-div-mul_left, mul-div-mul_right, le-div_iff_mul-le}
use native.Mathlib.Omega.{arith}
use borrow.Author.Tests.{le-leb, lt-leb, eqb-true, eqb-false}
use lib.Dec.{eqb, lit<, lit≤}
use lib.Pow.{pow-add, pow_pos, pow_mono, shr-shr}
use lib.IntN.{pos, nat_abs}
use lib.Ieee.{Float, nan, inf, fin, binary64, up, down, of_fields, is_nan}
use lib.Ieee.Fits.{down_pos}
use lib.Ieee.Exact.{HasValue}
use lib.Ieee.Nearest.{div_same}
use Rattle.meaning.specs.Sheets.{signed_by, limited_to, whole_of}
use Rattle.promises.specs.Sheets.Nearest.{signed-size, crossed}
use Rattle.sheets.proofs.wholes.Fields.{top-is, low_value, field-value}

-- ---- within the limit, or not

pub limited-in : (limit : ℕ) (s : Bool) (v : ℕ) → v ≤ limit → limited_to limit (signed_by s v) ≡ Some (signed_by s v)
limited-in limit s v h = simp (le-leb (nat_abs (signed_by s v)) limit (omega (arith, signed-size s v)))

pub limited-out : (limit : ℕ) (s : Bool) (v : ℕ) → limit < v → limited_to limit (signed_by s v) ≡ None
limited-out limit s v h = simp (lt-leb (nat_abs (signed_by s v)) limit (omega (arith, signed-size s v)))

-- ---- the whole number nearest k·u/l, halves upwards, from any fraction u/l that a float is

abbrev pub near_at : ℕ → ℕ → ℕ → ℕ
near_at k u l = (2 * (k * u) + l) / (2 * l)

twice : (l : ℕ) → 0 < l → 0 < 2 * l
twice l h = omega arith

whole-at : (limit k : ℕ) (x : Float) (s : Bool) (u l : ℕ) → 0 < l → HasValue x s u l → whole_of limit k x ≡ limited_to limit (signed_by s (near_at k u l))
unfolding whole_of
whole-at limit k nan s u l p h = absurd h
whole-at limit k (inf t) s u l p h = absurd h
whole-at limit k (fin t m e) s u l p h =
    let same = div_same (2 * (k * (m * up e)) + down e) (2 * down e) (2 * (k * u) + l) (2 * l) (twice (down e) (down_pos e)) (twice l p) (crossed k (m * up e) (down e) u l h.1) in
    ap (λ (v : ℕ). limited_to limit (signed_by t v)) same ∙ ap (λ (z : Bool). limited_to limit (signed_by z (near_at k u l))) h.0

-- ---- not a number, and what lies outside every limit

pub nan-out : (limit k : ℕ) (x : Float) → is_nan x ≡ true → None ≡ whole_of limit k x
unfolding whole_of is_nan
nan-out limit k nan h = refl
nan-out limit k (inf s) h = cc
nan-out limit k (fin s m e) h = cc

top-out : (limit k : ℕ) (b s : Bool) → whole_of limit k (cond b (inf s) nan) ≡ None
unfolding whole_of
top-out limit k true s = refl
top-out limit k false s = refl

big : (limit k u : ℕ) → limit ≤ 10000000000 → 1 ≤ k → 2 ^ 1108 ≤ u → limit < near_at k u (2 ^ 1074)
big limit k u a b h =
    let g : u ≤ k * u = subst (λ (z : ℕ). z ≤ k * u) (one-mul u) (mul-le-mul_right u b) in
    (le-div_iff_mul-le (pow_pos 1075)).1 (enough (2 ^ 1074) (k * u) (le_trans h g))
  where
    enough : (l z : ℕ) → 2 ^ 34 * l ≤ z → suc limit * (2 * l) ≤ 2 * z + l
    enough l z h =
        let p : suc limit * (2 * l) ≤ 2 ^ 34 * (2 * l) = mul-le-mul_right (2 * l) (omega arith) in
        omega arith

-- 2 ^ 34 or more, or an infinity
pub far-out : (limit k : ℕ) (s : Bool) (e t : ℕ) → limit ≤ 10000000000 → 1 ≤ k → 1057 ≤ e → whole_of limit k (of_fields binary64 s e t) ≡ None
far-out limit k s zero t a b h = absurd (omega arith)
far-out limit k s (suc j) t a b h = go (eqb (suc j) 2047) refl
  where
    go : (z : Bool) → eqb (suc j) 2047 ≡ z → whole_of limit k (of_fields binary64 s (suc j) t) ≡ None
    go true q = ap (whole_of limit k) (top-is s (suc j) t (eqb-true (suc j) 2047 q)) ∙ top-out limit k (eqb t 0) s
    go false q =
        let u = (2 ^ 52 + t) * 2 ^ j in
        let least : 2 ^ 1108 ≤ u = mul-le-mul (le-add_right (2 ^ 52) t) (pow_mono {i = 1056} (le_of_suc-le-suc h)) in
        whole-at limit k (of_fields binary64 s (suc j) t) s u (2 ^ 1074) (pow_pos 1074) (field-value s j t (eqb-false (suc j) 2047 q))
        ∙ limited-out limit s (near_at k u (2 ^ 1074)) (big limit k u a b least)

-- ---- below a half

zero_is : (limit : ℕ) (s : Bool) (v : ℕ) → v ≡ 0 → limited_to limit (signed_by s v) ≡ Some (pos 0)
zero_is limit false v h = rw h (limited-in limit false 0 (omega arith))
zero_is limit true v h = rw h (limited-in limit true 0 (omega arith))

tiny : (k u : ℕ) → k ≤ 10000000 → u ≤ 2 ^ 1044 → near_at k u (2 ^ 1074) ≡ 0
tiny k u a h = div-eq_of_lt (less (2 ^ 1074) (2 * (k * u)) (lt_of_le_of_lt (mul-le-mul_left 2 (mul-le-mul a h)) (lit< tt)))
  where
    less : (l z : ℕ) → z < l → z + l < 2 * l
    less l z h = omega arith

pub near-zero : (limit k : ℕ) (s : Bool) (e t : ℕ) → k ≤ 10000000 → e < 993 → t < 2 ^ 52 → whole_of limit k (of_fields binary64 s e t) ≡ Some (pos 0)
near-zero limit k s zero t a h b =
    whole-at limit k (of_fields binary64 s 0 t) s (t * 2 ^ 0) (2 ^ 1074) (pow_pos 1074) (low_value s t)
    ∙ zero_is limit s (near_at k (t * 2 ^ 0) (2 ^ 1074)) (tiny k (t * 2 ^ 0) a (le_trans (mul-le-mul_right 1 (le_of_lt b)) (lit≤ tt)))
near-zero limit k s (suc j) t a h b =
    let u = (2 ^ 52 + t) * 2 ^ j in
    let most : 2 ^ 52 + t ≤ 2 ^ 53 = omega arith in
    let under : u ≤ 2 ^ 53 * 2 ^ 991 = mul-le-mul most (pow_mono (less j h)) in
    whole-at limit k (of_fields binary64 s (suc j) t) s u (2 ^ 1074) (pow_pos 1074) (field-value s j t (no j h))
    ∙ zero_is limit s (near_at k u (2 ^ 1074)) (tiny k u a under)
  where
    no : (j : ℕ) → suc j < 993 → suc j ≡ 2047 → ⊥
    no j h e = omega arith

    less : (j : ℕ) → suc j < 993 → j ≤ 991
    less j h = omega arith

-- ---- between: the product in two parts, shifted

half : (a h : ℕ) → 0 < h → (2 * a + 2 * h) / (2 * (2 * h)) ≡ (a / h + 1) / 2
half a h p =
    ap (λ (n : ℕ). n / (2 * (2 * h))) (sym (mul-add 2 a h))
    ∙ mul-div-mul_left (a + h) (2 * h) (zero-lt-suc 1)
    ∙ ap (λ (d : ℕ). (a + h) / d) (mul_comm 2 h)
    ∙ sym (div-div-eq-div-mul (a + h) h 2)
    ∙ ap (λ (y : ℕ). y / 2) (add-div_right a p)

shifted : (t c k q i j : ℕ) → c + i + j ≡ t → k * (q * 2 ^ j) / 2 ^ t ≡ k * q / 2 ^ c / 2 ^ i
shifted t c k q i j h =
    ap (λ (n : ℕ). n / 2 ^ t) (sym (mul_assoc k q (2 ^ j)))
    ∙ ap (λ (d : ℕ). k * q * 2 ^ j / d) (ap (λ (z : ℕ). 2 ^ z) (sym h) ∙ pow-add 2 (c + i) j)
    ∙ mul-div-mul_right (k * q) (2 ^ (c + i)) (pow_pos j)
    ∙ sym (shr-shr (k * q) c i)

-- the source's `high`, and what it is
abbrev pub high : ℕ → ℕ → ℕ
high k m = k * (m / 2 ^ 18) + k * (m % 2 ^ 18) / 2 ^ 18

high_is : (k m c : ℕ) → 0 < c → k * (m / c) + k * (m % c) / c ≡ k * m / c
high_is k m c p =
    sym (mul-add-div_right p (k * (m / c)) (k * (m % c)))
    ∙ ap (λ (n : ℕ). n / c) (ap (λ (z : ℕ). z + k * (m % c)) (mul_assoc k (m / c) c) ∙ sym (mul-add k (m / c * c) (m % c)) ∙ ap (λ (z : ℕ). k * z) (div-add-mod' m c))

mid : (k m i j : ℕ) → 18 + i + j ≡ 1073 → near_at k (m * 2 ^ j) (2 ^ 1074) ≡ (high k m / 2 ^ i + 1) / 2
mid k m i j h =
    half (k * (m * 2 ^ j)) (2 ^ 1073) (pow_pos 1073)
    ∙ ap (λ (y : ℕ). (y + 1) / 2) (shifted 1073 18 k m i j h ∙ ap (λ (y : ℕ). y / 2 ^ i) (sym (high_is k m (2 ^ 18) (pow_pos 18))))

pub near-shifted : (limit k : ℕ) (s : Bool) (e t : ℕ) → 993 ≤ e → e < 1057
    → whole_of limit k (of_fields binary64 s e t) ≡ limited_to limit (signed_by s ((high k (2 ^ 52 + t) / 2 ^ (1056 - e) + 1) / 2))
near-shifted limit k s zero t h g = absurd (omega arith)
near-shifted limit k s (suc j) t h g =
    whole-at limit k (of_fields binary64 s (suc j) t) s ((2 ^ 52 + t) * 2 ^ j) (2 ^ 1074) (pow_pos 1074) (field-value s j t (no j g))
    ∙ ap (λ (v : ℕ). limited_to limit (signed_by s v)) (mid k (2 ^ 52 + t) (1056 - suc j) j (sums j g))
  where
    no : (j : ℕ) → suc j < 1057 → suc j ≡ 2047 → ⊥
    no j g e = omega arith

    sums : (j : ℕ) → suc j < 1057 → 18 + (1056 - suc j) + j ≡ 1073
    sums j g = omega arith

-- ---- sizes of the parts, m having 53 bits
