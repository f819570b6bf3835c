-- Laws of ℤ. A signed number z is P z − N z, of two natural numbers: `omega`, which reads ℕ alone, proves with `zarith` whatever is linear over ℤ, given
-- one fact for each sum, difference or product (`add`, `sub`, `mul`). Assumes nothing.
use Rattle.std.specs.Prelude.{◌≡◌, refl, Bool, true, false, not, cond, ℕ, zero, suc, ◌+◌, ◌*◌, ◌-◌, ◌^◌, ◌/◌, ◌≤◌, ◌<◌, T, leb, ltb, ℤ, pos, negsuc, neg_ℤ, nat_abs, ◌+ℤ◌, ◌-ℤ◌, ◌*ℤ◌, ◌≤ℤ◌, ◌<ℤ◌}
use Rattle.std.proofs.Common.{sym, ap, ◌∙◌, subst, arith, div-le_self, le-leb, lt-ltb, le-ltb, ltb→lt, nltb→le, leb→le, le→leb, lt→ltb, to_z-of_z}
use Rattle.std.proofs.Math.Decide.{dec_lt}
use Rattle.std.proofs.lemmas.Bool.{lt-leb}
use Rattle.std.proofs.Math.Dec.{nleb→lt}
use Rattle.std.proofs.Math.IntN.{sub_ℕ}
use Rattle.std.specs.Int.Signed.{mag, le_z, lt_z, quot_z, lt_z_no}
use Rattle.std.specs.Int.{Width, w64}
use mir.Val.{SFits, hbits, of_z, to_z}

abbrev pub P : ℤ → ℕ
P (pos n) = n
P (negsuc n) = 0

abbrev pub N : ℤ → ℕ
N (pos n) = 0
N (negsuc n) = suc n

-- ---- the order

pub of_le : {a b : ℤ} → a ≤ℤ b → P a + N b ≤ P b + N a
of_le {a = pos a} {b = pos b} h = omega (arith, leb→le a b h.le)
of_le {a = pos a} {b = negsuc b} h = absurd h.le
of_le {a = negsuc a} {b = pos b} h = omega arith
of_le {a = negsuc a} {b = negsuc b} h = omega (arith, leb→le b a h.le)

pub to_le : {a b : ℤ} → P a + N b ≤ P b + N a → a ≤ℤ b
to_le {a = pos a} {b = pos b} h = record { le = le→leb a b (omega arith) }
to_le {a = pos a} {b = negsuc b} h = absurd (nope a b h)
  where
    nope : (a b : ℕ) → a + suc b ≤ 0 + 0 → ⊥
    nope a b h = omega arith
to_le {a = negsuc a} {b = pos b} h = record { le = tt }
to_le {a = negsuc a} {b = negsuc b} h = record { le = le→leb b a (omega arith) }

pub of_lt : {a b : ℤ} → a <ℤ b → P a + N b < P b + N a
of_lt {a = pos a} {b = pos b} h = omega (arith, ltb→lt a b h.lt)
of_lt {a = pos a} {b = negsuc b} h = absurd h.lt
of_lt {a = negsuc a} {b = pos b} h = omega arith
of_lt {a = negsuc a} {b = negsuc b} h = omega (arith, ltb→lt b a h.lt)

pub to-lt : {a b : ℤ} → P a + N b < P b + N a → a <ℤ b
to-lt {a = pos a} {b = pos b} h = record { lt = lt→ltb a b (omega arith) }
to-lt {a = pos a} {b = negsuc b} h = absurd (nope a b h)
  where
    nope : (a b : ℕ) → a + suc b < 0 + 0 → ⊥
    nope a b h = omega arith
to-lt {a = negsuc a} {b = pos b} h = record { lt = tt }
to-lt {a = negsuc a} {b = negsuc b} h = record { lt = lt→ltb b a (omega arith) }

pub of_eq : {a b : ℤ} → a ≡ b → P a + N b ≡ P b + N a
of_eq {a} {b} e = subst (λ (z : ℤ). P a + N z ≡ P z + N a) e (refl)

pub to-eq : {a b : ℤ} → P a + N b ≡ P b + N a → a ≡ b
to-eq {a = pos a} {b = pos b} h = ap pos (omega arith)
to-eq {a = pos a} {b = negsuc b} h = absurd (nope a b h)
  where
    nope : (a b : ℕ) → a + suc b ≡ 0 + 0 → ⊥
    nope a b h = omega arith
to-eq {a = negsuc a} {b = pos b} h = absurd (nope a b h)
  where
    nope : (a b : ℕ) → 0 + 0 ≡ b + suc a → ⊥
    nope a b h = omega arith
to-eq {a = negsuc a} {b = negsuc b} h = ap negsuc (omega arith)

-- ---- what the parts of a sum, a difference and a product are

pub neg : (a : ℤ) → (P (neg_ℤ a) ≡ N a) × (N (neg_ℤ a) ≡ P a)
neg (pos zero) = (refl, refl)
neg (pos (suc n)) = (refl, refl)
neg (negsuc n) = (refl, refl)

cond_ind : (c : Bool) (x y : ℤ) (Q : ℤ → Type 0) → (T c → Q x) → (T (not c) → Q y) → Q (cond c x y)
cond_ind true x y Q f g = f tt
cond_ind false x y Q f g = g tt

pub sub_parts : (a b : ℕ) → P (sub_ℕ a b) + b ≡ a + N (sub_ℕ a b)
sub_parts a b =
    cond_ind (ltb a b) (negsuc (b - suc a)) (pos (a - b)) (λ z. P z + b ≡ a + N z)
    (λ t. let h : a < b = ltb→lt a b t in omega arith)
    (λ t. let h : b ≤ a = nltb→le a b t in omega arith)

sub-abs : (a b : ℕ) → nat_abs (sub_ℕ a b) ≤ a + b
sub-abs a b =
    cond_ind (ltb a b) (negsuc (b - suc a)) (pos (a - b)) (λ z. nat_abs z ≤ a + b)
    (λ t. let h : a < b = ltb→lt a b t in omega arith)
    (λ t. let h : b ≤ a = nltb→le a b t in omega arith)

-- P (a + b) − N (a + b) = (P a − N a) + (P b − N b)
pub add : (a b : ℤ) → P (a +ℤ b) + (N a + N b) ≡ P a + P b + N (a +ℤ b)
add (pos a) (pos b) = omega arith
add (pos a) (negsuc b) = omega (arith, sub_parts a (suc b))
add (negsuc a) (pos b) = omega (arith, sub_parts b (suc a))
add (negsuc a) (negsuc b) = omega arith

pub sub : (a b : ℤ) → P (a -ℤ b) + (N a + P b) ≡ P a + N b + N (a -ℤ b)
sub a b = omega (arith, add a (neg_ℤ b), neg b)

pub mul : (a b : ℤ) → P (a *ℤ b) + (P a * N b + N a * P b) ≡ P a * P b + N a * N b + N (a *ℤ b)
mul (pos a) (pos b) = omega arith
mul (pos a) (negsuc b) = omega (arith, neg (pos (a * suc b)))
mul (negsuc a) (pos b) = omega (arith, neg (pos (suc a * b)))
mul (negsuc a) (negsuc b) = omega arith

-- ---- sizes
pub abs : (a : ℤ) → P a + N a ≡ nat_abs a
abs (pos a) = omega arith
abs (negsuc a) = omega arith

-- one of the parts is 0, in a form that omega reads (each `-` is a split, so list it only where it is wanted)
pub apart : (a : ℤ) → (P a - N a ≡ P a) × (N a - P a ≡ N a)
apart (pos a) = omega arith
apart (negsuc a) = omega arith

-- the size from two bounds
pub within : (k : ℕ) {z : ℤ} → neg_ℤ (pos k) ≤ℤ z → z ≤ℤ pos k → nat_abs z ≤ k
within k {z} h l = omega (arith, of_le h, of_le l, neg (pos k), apart z, abs z)

pub abs-add : (a b : ℤ) → nat_abs (a +ℤ b) ≤ nat_abs a + nat_abs b
abs-add (pos a) (pos b) = omega arith
abs-add (pos a) (negsuc b) = sub-abs a (suc b)
abs-add (negsuc a) (pos b) = omega (arith, sub-abs b (suc a))
abs-add (negsuc a) (negsuc b) = omega arith

pub abs_neg : (a : ℤ) → nat_abs (neg_ℤ a) ≡ nat_abs a
abs_neg (pos zero) = refl
abs_neg (pos (suc n)) = refl
abs_neg (negsuc n) = refl

pub abs-sub : (a b : ℤ) → nat_abs (a -ℤ b) ≤ nat_abs a + nat_abs b
abs-sub a b = omega (arith, abs-add a (neg_ℤ b), abs_neg b)

pub abs-mul : (a b : ℤ) → nat_abs (a *ℤ b) ≡ nat_abs a * nat_abs b
abs-mul (pos a) (pos b) = refl
abs-mul (pos a) (negsuc b) = abs_neg (pos (a * suc b))
abs-mul (negsuc a) (pos b) = abs_neg (pos (suc a * b))
abs-mul (negsuc a) (negsuc b) = refl

pub abs-quot : (a b : ℤ) → nat_abs (quot_z a b) ≤ nat_abs a
abs-quot (pos a) (pos b) = div-le_self a b
abs-quot (pos a) (negsuc b) = omega (arith, abs_neg (pos (a / suc b)), div-le_self a (suc b))
abs-quot (negsuc a) (pos b) = omega (arith, abs_neg (pos (suc a / b)), div-le_self (suc a) b)
abs-quot (negsuc a) (negsuc b) = div-le_self (suc a) (suc b)

-- a number of less than 63 bits fits an i64, and so at each width (all but the least number do so by this)
pub fits : {w : Width} {z : ℤ} → nat_abs z < 2 ^ hbits w → SFits w z
fits {z = pos n} h = record { sfits = h }
fits {w = w} {z = negsuc n} h = record { sfits = omega arith }

-- ---- what a test of two i64 leaves: it held, or it did not. A literal's `SFits` is `sfits_lit tt`
is : (t : Bool) → t ≡ true → T t
is t e = subst T (sym e) tt

isn't : (t : Bool) → t ≡ false → T (not t)
isn't t e = subst (λ (b : Bool). T (not b)) (sym e) tt

pub le_z-true : (a b : ℤ) → le_z a b ≡ true → a ≤ℤ b
le_z-true a b e = record { le = is (le_z a b) e }

pub lt_z-true : (a b : ℤ) → lt_z a b ≡ true → a <ℤ b
lt_z-true a b e = record { lt = is (lt_z a b) e }

pub lt_z-false : (a b : ℤ) → lt_z a b ≡ false → b ≤ℤ a
lt_z-false a b e = lt_z_no (isn't (lt_z a b) e)

nle : (a b : ℤ) → T (not (le_z a b)) → T (lt_z b a)
nle (pos a) (pos b) t = lt→ltb b a (nleb→lt a b t)
nle (pos a) (negsuc b) t = tt
nle (negsuc a) (pos b) t = t
nle (negsuc a) (negsuc b) t = lt→ltb a b (nleb→lt b a t)

pub le_z-false : (a b : ℤ) → le_z a b ≡ false → b <ℤ a
le_z-false a b e = record { lt = nle a b (isn't (le_z a b) e) }

pub le-held : (a b : ℤ) → SFits w64 a → SFits w64 b → le_z (to_z w64 (of_z w64 a)) (to_z w64 (of_z w64 b)) ≡ true → a ≤ℤ b
le-held a b f g e = le_z-true a b (simp to_z-of_z at e)

pub le-failed : (a b : ℤ) → SFits w64 a → SFits w64 b → le_z (to_z w64 (of_z w64 a)) (to_z w64 (of_z w64 b)) ≡ false → b <ℤ a
le-failed a b f g e = le_z-false a b (simp to_z-of_z at e)

pub lt-failed : (a b : ℤ) → SFits w64 a → SFits w64 b → lt_z (to_z w64 (of_z w64 a)) (to_z w64 (of_z w64 b)) ≡ false → b ≤ℤ a
lt-failed a b f g e = lt_z-false a b (simp to_z-of_z at e)

pub ruleset zarith = (arith, of_le, to_le, of_lt, to-lt, of_eq, to-eq, fits)

-- ---- the ring laws that lib.IntN lacks
pub times : {m n : ℕ} (k : ℕ) → m ≡ n → k * m ≡ k * n
times k e = ap (λ (n : ℕ). k * n) e

pub mul-neg : (a b : ℤ) → a *ℤ neg_ℤ b ≡ neg_ℤ (a *ℤ b)
mul-neg a b =
    omega (zarith, mul a b, mul a (neg_ℤ b), neg (a *ℤ b), times (P a) (neg b).0, times (P a) (neg b).1, times (N a) (neg b).0, times (N a) (neg b).1)

pub mul-add : (a b c : ℤ) → a *ℤ (b +ℤ c) ≡ a *ℤ b +ℤ a *ℤ c
mul-add a b c =
    omega (zarith, mul a (b +ℤ c), times (P a) (add b c), times (N a) (add b c), mul a b, mul a c, add (a *ℤ b) (a *ℤ c))

pub mul_assoc : (a b c : ℤ) → a *ℤ b *ℤ c ≡ a *ℤ (b *ℤ c)
mul_assoc a b c =
    omega (zarith, mul (a *ℤ b) c, mul a (b *ℤ c), times (P a) (mul b c), times (N a) (mul b c), times (P c) (mul a b), times (N c) (mul a b))

-- what `.ok` of a call and `.given` of a read say, as the record
pub ok64 : (z : ℤ) → mag z < 2 ^ 63 → SFits w64 z
ok64 z h = record { sfits = h }

-- ---- tests: less is the opposite of not less

ltb-not : (a b : ℕ) → ltb a b ≡ not (leb b a)
ltb-not a b = go (dec_lt a b)
  where
    go : Dec (a < b) → ltb a b ≡ not (leb b a)
    go (yes h) = simp (lt-ltb _ _ h, lt-leb _ _ h)
    go (no h) = let g : b ≤ a = omega arith in simp (le-ltb _ _ g, le-leb _ _ g)

pub lt_z-not : (a b : ℤ) → lt_z a b ≡ not (le_z b a)
lt_z-not (pos a) (pos b) = ltb-not a b
lt_z-not (pos a) (negsuc b) = refl
lt_z-not (negsuc a) (pos b) = refl
lt_z-not (negsuc a) (negsuc b) = ltb-not b a

not-true : (t : Bool) → not t ≡ true → t ≡ false
not-true true e = sym e
not-true false e = refl

not-false : (t : Bool) → not t ≡ false → t ≡ true
not-false true e = refl
not-false false e = sym e

pub lt-nle : (a b : ℤ) → lt_z a b ≡ true → le_z b a ≡ false
lt-nle a b e = not-true (le_z b a) (sym (lt_z-not a b) ∙ e)

pub nlt-le : (a b : ℤ) → lt_z a b ≡ false → le_z b a ≡ true
nlt-le a b e = not-false (le_z b a) (sym (lt_z-not a b) ∙ e)
