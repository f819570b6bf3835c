-- The expression checker: straight-line arithmetic of i64, as data. `val` is what it means, over ℤ. `mach` is the term that a need shows: each
-- result is written to bits and read back. `bound` bounds its size, and `ok` computes whether every step stays within ±(2 ^ 63 − 1).
-- `need e tt` then answers each overflow need, and `exact e tt` says that the machine's value is the integer. Assumes nothing.
use Rattle.std.specs.Prelude.{◌≡◌, refl, Bool, true, false, ◌&&◌, ℕ, ◌+◌, ◌*◌, ◌^◌, ◌≤◌, T, ltb, leb, ℤ, pos, nat_abs, ◌+ℤ◌, ◌-ℤ◌, ◌*ℤ◌, ◌≤ℤ◌, ◌<ℤ◌}
use Rattle.std.proofs.Common.{subst, arith, mul-le-mul, le_refl, ltb→lt, leb→le, SFits, of_z, to_z, to_z-of_z}
use Rattle.std.specs.Int.Signed.{lt_z, quot_z, nat_abs-le}
use Rattle.std.specs.Int.{w64}
use Rattle.std.proofs.Math.Facts.{sfits_lit}
use Rattle.laws.specs.Integers.{zarith, abs-add, abs-sub, abs-mul, abs-quot, lt_z-true, lt_z-false}

pub data Op : Type 0 where
  plus : Op
  minus : Op
  times : Op
  over : Op

abbrev pub apply : Op → ℤ → ℤ → ℤ
apply plus a b = a +ℤ b
apply minus a b = a -ℤ b
apply times a b = a *ℤ b
apply over a b = quot_z a b

abbrev pub grow : Op → ℕ → ℕ → ℕ
grow plus a b = a + b
grow minus a b = a + b
grow times a b = a * b
grow over a b = a

-- `var z k h`: a parameter, an element or a call's result z, with |z| ≤ k. `held m z k e h`: a term m that is z, as what a
-- loop's variable holds. `lit z`: a literal
pub data Ex : Type 0 where
  var : (z : ℤ) (k : ℕ) → nat_abs z ≤ k → Ex
  held : (m z : ℤ) (k : ℕ) → m ≡ z → nat_abs z ≤ k → Ex
  lit : ℤ → Ex
  bin : Op → Ex → Ex → Ex

infixl 6 ◌⊕◌ ◌⊝◌
infixl 7 ◌⊗◌ ◌⊘◌
abbrev pub ◌⊕◌ : Ex → Ex → Ex
e ⊕ f = bin plus e f

abbrev pub ◌⊝◌ : Ex → Ex → Ex
e ⊝ f = bin minus e f

abbrev pub ◌⊗◌ : Ex → Ex → Ex
e ⊗ f = bin times e f

abbrev pub ◌⊘◌ : Ex → Ex → Ex
e ⊘ f = bin over e f

abbrev pub val : Ex → ℤ
val (var z k h) = z
val (held m z k e h) = z
val (lit z) = z
val (bin o e f) = apply o (val e) (val f)

abbrev pub mach : Ex → ℤ
mach (var z k h) = to_z w64 (of_z w64 z)
mach (held m z k e h) = m
mach (lit z) = z
mach (bin o e f) = to_z w64 (of_z w64 (apply o (mach e) (mach f)))

-- the last step before it is written to bits: what a `Need-add-..` asks of
abbrev pub raw : Ex → ℤ
raw (var z k h) = z
raw (held m z k e h) = pos 0
raw (lit z) = pos 0
raw (bin o e f) = apply o (mach e) (mach f)

abbrev pub bound : Ex → ℕ
bound (var z k h) = k
bound (held m z k e h) = k
bound (lit z) = nat_abs z
bound (bin o e f) = grow o (bound e) (bound f)

abbrev pub ok : Ex → Bool
ok (var z k h) = ltb k (2 ^ 63)
ok (held m z k e h) = true
ok (lit z) = true
ok (bin o e f) = ltb (grow o (bound e) (bound f)) (2 ^ 63) && (ok e && ok f)

grows : (o : Op) (a b : ℤ) {m n : ℕ} → nat_abs a ≤ m → nat_abs b ≤ n → nat_abs (apply o a b) ≤ grow o m n
grows plus a b h k = omega (arith, abs-add a b)
grows minus a b h k = omega (arith, abs-sub a b)
grows times a b h k = omega (arith, abs-mul a b, mul-le-mul h k)
grows over a b h k = omega (arith, abs-quot a b)

pub size : (e : Ex) → nat_abs (val e) ≤ bound e
size (var z k h) = h
size (held m z k e h) = h
size (lit z) = le_refl (nat_abs z)
size (bin o e f) = grows o (val e) (val f) (size e) (size f)

fst : (a b : Bool) → T (a && b) → T a
fst true b t = tt
fst false b t = t

snd : (a b : Bool) → T (a && b) → T b
snd true b t = t
snd false b t = absurd t

ok-both : (o : Op) (e f : Ex) → T (ok (bin o e f)) → T (ok e && ok f)
ok-both o e f t = snd (ltb (grow o (bound e) (bound f)) (2 ^ 63)) (ok e && ok f) t

sum_fits : (o : Op) (e f : Ex) → T (ok (bin o e f)) → SFits w64 (apply o (val e) (val f))
sum_fits o e f t =
    omega (zarith, size (bin o e f), ltb→lt (grow o (bound e) (bound f)) (2 ^ 63) (fst (ltb (grow o (bound e) (bound f)) (2 ^ 63)) (ok e && ok f) t))

-- the machine computes the value
pub exact : (e : Ex) → T (ok e) → mach e ≡ val e
exact (var z k h) t = to_z-of_z {w = w64} (omega (zarith, ltb→lt k (2 ^ 63) t))
exact (held m z k e h) t = e
exact (lit z) t = refl
exact (bin o e f) t =
    rw (exact e (fst (ok e) (ok f) (ok-both o e f t)), exact f (snd (ok e) (ok f) (ok-both o e f t)))
    (to_z-of_z (sum_fits o e f t))

-- ---- what the needs ask. `t` is `tt` wherever the bounds are numerals

-- `Need-add-..`, `Need-sub-..`, `Need-mul-..`, and `.1` of `Need-div-..`
pub need : (e : Ex) → T (ok e) → SFits w64 (raw e)
need (var z k h) t = omega (zarith, ltb→lt k (2 ^ 63) t)
need (held m z k e h) t = sfits_lit tt
need (lit z) t = sfits_lit tt
need (bin o e f) t =
    rw (exact e (fst (ok e) (ok f) (ok-both o e f t)), exact f (snd (ok e) (ok f) (ok-both o e f t)))
    (sum_fits o e f t)

-- a parameter of which nothing is known but its type
abbrev pub any : (z : ℤ) → SFits w64 z → Ex
any z f = held (to_z w64 (of_z w64 z)) z (2 ^ 63) (to_z-of_z f) (nat_abs-le z f.sfits)

-- a callee's `requires` that bounds an argument
pub under : (e : Ex) (k : ℕ) → T (ok e && leb (bound e) k) → nat_abs (mach e) ≤ k
under e k t =
    rw (exact e (fst (ok e) (leb (bound e) k) t))
    (omega (arith, size e, leb→le (bound e) k (snd (ok e) (leb (bound e) k) t)))

-- a fact of what the machine holds, said of the value
pub down : (Q : ℤ → Type 0) (e : Ex) → T (ok e) → Q (mach e) → Q (val e)
down Q e t q = subst Q (exact e t) q

-- a test that held or failed
pub lt_yes : (e f : Ex) → T (ok e && ok f) → lt_z (mach e) (mach f) ≡ true → val e <ℤ val f
lt_yes e f t h = lt_z-true (val e) (val f) (rw (exact e (fst (ok e) (ok f) t), exact f (snd (ok e) (ok f) t)) at h)

pub lt_no : (e f : Ex) → T (ok e && ok f) → lt_z (mach e) (mach f) ≡ false → val f ≤ℤ val e
lt_no e f t h = lt_z-false (val e) (val f) (rw (exact e (fst (ok e) (ok f) t), exact f (snd (ok e) (ok f) t)) at h)
