-- Laws of the number reader's and writer's loops, in the terms of their proofs. Assumes nothing.
use Rattle.std.specs.Prelude.{Some, None}
use Prim.Native.Nat.{ℕ, zero, suc, ◌+◌, ◌-◌, ◌*◌, ◌/◌, ◌%◌, ◌^◌, ◌<◌, ◌≤◌}
use mathlib.Core.Path.{◌≡◌, refl, sym, ◌∙◌, subst}
use mathlib.Core.Bool.{true, false, cond}
use mathlib.Core.List.{List, [], ◌∷◌}
use native.Mathlib.Omega.{arith}
use native.Mathlib.Nat.{mul-le-mul_right}
use lib.ListN.{length, get_or}
use lib.Pow.{pow-add}
use lib.Dec.{ltb}
use borrow.Author.Tests.{le-ltb, lt-ltb, ne_eqb}
use lib.Dec.{T, leb, leb-zero}
use lib.IntN.{ℤ, pos, negsuc, nat_abs, ◌-ℤ◌}
use lib.Signed.{le_z, non_neg}
use Rattle.laws.specs.Integers.{zarith, sub}
use mir.Syntax.{w64}
use mir.Val.{SFits}
use Rattle.meaning.specs.Numbers.{groups_at, last_group, groups_of, bytes_of, stored}

-- ---- the reader: one law for each way out of a turn, after k of at most 5 bytes. The weight of group k is 2 ^ (7 * k)
pub weight-next : (k w : ℕ) → w ≡ 2 ^ (7 * k) → w * 128 ≡ 2 ^ (7 * (k + 1))
weight-next k w e =
    let q : 7 * (k + 1) ≡ 7 * k + 7 = omega arith in
    rw (e, q) (sym (pow-add 2 (7 * k) 7))

pub group-le : (b w : ℕ) → b < 128 → b * w ≤ 127 * w
group-le b w h = let g : b ≤ 127 = omega arith in mul-le-mul_right w g

pub over : (s : List ℕ) (i v w k : ℕ) → 5 ≤ k → groups_at (5 - k) s i v w ≡ None
unfolding groups_at
over s i v w k h = let q : 5 - k ≡ 0 = omega arith in rw q refl

module _ (s : List ℕ) (i v w k : ℕ) (h : k < 5) where
  turn : groups_at (5 - k) s i v w
      ≡ cond (ltb i (length s))
      (cond (ltb (get_or s i 0) 128) (last_group (get_or s i 0) i v w) (cond (ltb (get_or s i 0) 256) (groups_at (5 - (k + 1)) s (i + 1) (v + (get_or s i 0 - 128) * w) (w * 128)) None))
      None
  unfolding groups_at
  turn = let q : 5 - k ≡ suc (5 - (k + 1)) = omega arith in rw q refl

  pub short : length s ≤ i → groups_at (5 - k) s i v w ≡ None
  short e = turn ∙ simp (le-ltb _ _ e)

  pub zero-first : i < length s → get_or s i 0 ≡ 0 → w ≡ 1 → v < w → groups_at (5 - k) s i v w ≡ Some (v + get_or s i 0 * w, i + 1)
  zero-first l z e g = let sum : v + get_or s i 0 * w ≡ 0 = rw (z, e) (omega arith) in turn ∙ rw sum (simp (lt-ltb _ _ l, z, e))

  pub zero-late : i < length s → get_or s i 0 ≡ 0 → (w ≡ 1 → ⊥) → groups_at (5 - k) s i v w ≡ None
  zero-late l z e = turn ∙ simp (lt-ltb _ _ l, z, ne_eqb _ _ e)

  pub last : i < length s → get_or s i 0 < 128 → (get_or s i 0 ≡ 0 → ⊥) → groups_at (5 - k) s i v w ≡ Some (v + get_or s i 0 * w, i + 1)
  last l b z = turn ∙ simp (lt-ltb _ _ l, lt-ltb _ _ b, ne_eqb _ _ z)

  pub more : i < length s → 128 ≤ get_or s i 0 → get_or s i 0 < 256 → groups_at (5 - k) s i v w ≡ groups_at (5 - (k + 1)) s (i + 1) (v + (get_or s i 0 - 128) * w) (w * 128)
  more l b g = turn ∙ simp (lt-ltb _ _ l, le-ltb _ _ b, lt-ltb _ _ g)

-- ---- the writer: the last group, and one with more behind it. Which bound there is on the groups makes no difference while there are enough

enough : (f x : ℕ) → x < 2 ^ (7 * (f + 1)) → groups_of (suc f) x ≡ groups_of f x
unfolding groups_of
enough zero x h = simp (lt-ltb x 128 (omega arith))
enough (suc f) x h =
    let q : 7 * (suc f + 1) ≡ 7 * (f + 1) + 7 = omega arith in
    let m : x < 2 ^ (7 * (f + 1)) * 2 ^ 7 = rw (q, pow-add 2 (7 * (f + 1)) 7) at h in
    rw (enough f (x / 128) (omega arith)) refl

pub last-byte : (x : ℕ) → x < 128 → bytes_of x ≡ x ∷ []
unfolding groups_of
last-byte x h = simp (lt-ltb _ _ h)

pub more-bytes : (x : ℕ) → 128 ≤ x → x < 2 ^ 64 → bytes_of x ≡ (x % 128 + 128) ∷ bytes_of (x / 128)
unfolding groups_of
more-bytes x h l = simp (le-ltb _ _ h, enough 8 (x / 128) (omega arith))

-- ---- a signed number's stored form, as the machine makes it

pub stored-up : (v : ℤ) → le_z (pos 0) v ≡ true → SFits w64 v → T (non_neg v) × (nat_abs v < 2 ^ 63) × (nat_abs v * 2 ≡ stored v)
stored-up (pos n) e f = (tt, f.sfits, omega arith)
stored-up (negsuc n) e f = absurd (subst T (sym e) tt)

turned : (n : ℕ) → negsuc 0 -ℤ negsuc n ≡ pos n
turned n = omega (zarith, sub (negsuc 0) (negsuc n))

pub stored-down : (v : ℤ) → le_z (pos 0) v ≡ false → SFits w64 v
    → SFits w64 (negsuc 0 -ℤ v) × T (non_neg (negsuc 0 -ℤ v)) × (nat_abs (negsuc 0 -ℤ v) < 2 ^ 63) × (nat_abs (negsuc 0 -ℤ v) * 2 + 1 ≡ stored v)
stored-down (pos n) e f = absurd (omega (arith, (let z : T (le_z (pos 0) (pos n)) = leb·zero-T n in no (subst T e z))))
  where
    leb·zero-T : (n : ℕ) → T (leb 0 n)
    leb·zero-T n = subst T (sym (leb-zero n)) tt

    no : ⊥ → 1 ≤ 0
    no z = absurd z
stored-down (negsuc n) e f =
    rw (turned n) (record { sfits = f.sfits }, tt, f.sfits, omega arith)
