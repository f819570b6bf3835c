-- Tests: what one says that holds, by its halves and as an order of ℤ, and one that was passed; and lists of tests, the first that does not hold,
-- found in a loop, and what it says of all. Relies on the order of page Integers.
use Rattle.std.specs.Prelude.{ℕ, zero, suc, ◌+◌, ◌-◌, ◌≤◌, ◌<◌, ◌≡◌, refl, Bool, true, false, ◌&&◌, T, length, ℤ, ◌≤ℤ◌, ◌<ℤ◌}
use Rattle.std.proofs.Math.Path.{sym, ap}
use Rattle.std.proofs.Common.{◌∙◌, arith, zero-add, add-zero}
use mathlib.Core.List.{List, [], ◌∷◌, map}
use Rattle.std.specs.Int.Signed.{le_z, lt_z}
use Rattle.laws.specs.Every as E
use Rattle.laws.specs.Every.{Every}
use Rattle.laws.specs.Guards.{guard}
use Rattle.laws.specs.Integers.{le_z-true, lt-nle}
use Rattle.laws.specs.Lists.{tab, all, first_false}
use Rattle.laws.specs.Tabs.{length-tab, tab-step, tab-done}

-- what a test that cannot hold proves
pub never {ℓ} : {A : Type ℓ} → false ≡ true → A
never e = absurd (let z : ◌≡◌ {A = ℕ} 0 1 = cc in omega arith)

-- an answer that is not the one behind a failed test has passed it
pub guard_passed : {A : Type 0} {otherwise a : A} (t : Bool) (rest : Unit {0} → A) → (otherwise ≡ a → ⊥) → guard t otherwise rest ≡ a
    → (t ≡ true) × (rest tt ≡ a)
guard_passed true rest other e = (refl, e)
guard_passed false rest other e = absurd (other e)

-- ---- both halves of a test

pub first : (a b : Bool) → (a && b) ≡ true → a ≡ true
first true b e = refl
first false b e = e

pub second : (a b : Bool) → (a && b) ≡ true → b ≡ true
second true b e = e
second false b e = never e

pub both : {a b : Bool} → a ≡ true → b ≡ true → (a && b) ≡ true
both p q = simp (p, q)

-- ---- the order as a test

is_true : (t : Bool) → T t → t ≡ true
is_true true h = refl
is_true false h = absurd h

pub true-le_z : {a b : ℤ} → a ≤ℤ b → le_z a b ≡ true
true-le_z {a} {b} h = is_true (le_z a b) h.le

pub false-le_z : {a b : ℤ} → b <ℤ a → le_z a b ≡ false
false-le_z {a} {b} h = lt-nle b a (is_true (lt_z b a) h.lt)

-- two orders that hold, as one test and as facts: a side that has a count or covers another, a number in its range
pub orders : (a b c d : ℤ) → (le_z a b && le_z c d) ≡ true → (a ≤ℤ b) × (c ≤ℤ d)
orders a b c d e = (le_z-true a b (first (le_z a b) (le_z c d) e), le_z-true c d (second (le_z a b) (le_z c d) e))

pub ordered : {a b c d : ℤ} → a ≤ℤ b → c ≤ℤ d → (le_z a b && le_z c d) ≡ true
ordered h k = both (true-le_z h) (true-le_z k)

-- ---- n tests, of which the first i hold

pub record HoldUpTo (t : ℕ → Bool) (n i : ℕ) : Type 0 where
  pub few : i ≤ n
  pub rest : i + first_false (tab t (n - i) i) ≡ first_false (tab t n 0)

pub hold-none : (t : ℕ → Bool) (n : ℕ) → HoldUpTo t n 0
hold-none t n = record { few = omega arith; rest = let q : n - 0 ≡ n = omega arith in rw (q, zero-add) refl }

module _ {t : ℕ → Bool} {n i : ℕ} (w : HoldUpTo t n i) where
  pub hold-more : i < n → t i ≡ true → HoldUpTo t n (i + 1)
  unfolding first_false
  hold-more h e = record { few = omega arith; rest = step ∙ w.rest }
    where
      step : i + 1 + first_false (tab t (n - (i + 1)) (i + 1)) ≡ i + first_false (tab t (n - i) i)
      step = rw (tab-step t n i h) (simp e (omega arith))

  pub first-here : i < n → t i ≡ false → i ≡ first_false (tab t n 0)
  unfolding first_false
  first-here h e = sym (add-zero i) ∙ sym (rw (tab-step t n i h) (simp e)) ∙ w.rest

  pub first-none : n ≤ i → i ≡ first_false (tab t n 0)
  unfolding first_false
  first-none h = sym (add-zero i) ∙ ap (λ (ts : List Bool). i + first_false ts) (sym (tab-done t n i h)) ∙ w.rest

-- ---- the first that does not hold is behind the end exactly where all hold

pub first-within : (ts : List Bool) → first_false ts < length ts → all ts ≡ false
unfolding first_false all
first-within [] h = absurd (omega arith)
first-within (false ∷ ts) h = refl
first-within (true ∷ ts) h = first-within ts (omega arith)

pub first-behind : (ts : List Bool) → length ts ≤ first_false ts → all ts ≡ true
unfolding first_false all
first-behind [] h = refl
first-behind (false ∷ ts) h = absurd (omega arith)
first-behind (true ∷ ts) h = first-behind ts (omega arith)

module _ {t : ℕ → Bool} {n i : ℕ} (w : HoldUpTo t n i) where
  pub fails-here : i < n → t i ≡ false → false ≡ all (tab t n 0)
  fails-here h e = sym (first-within (tab t n 0) (omega (arith, first-here w h e, length-tab t n 0)))

  pub all_hold : n ≤ i → true ≡ all (tab t n 0)
  all_hold h = sym (first-behind (tab t n 0) (omega (arith, first-none w h, length-tab t n 0)))

-- where all of m tests hold, each does
pub all-tab : (t : ℕ → Bool) (m i k : ℕ) → k < m → all (tab t m i) ≡ true → t (i + k) ≡ true
unfolding tab all
all-tab t zero i k h e = absurd (omega arith)
all-tab t (suc m) i zero h e = rw add-zero (first (t i) (all (tab t m (i + 1))) e)
all-tab t (suc m) i (suc k) h e =
    let q : i + suc k ≡ i + 1 + k = omega arith in
    rw q (all-tab t m (i + 1) k (omega arith) (second (t i) (all (tab t m (i + 1))) e))

-- and where each does, all do
pub tab-holds : (t : ℕ → Bool) (m i : ℕ) → ((k : ℕ) → i ≤ k → k < i + m → t k ≡ true) → all (tab t m i) ≡ true
unfolding tab all
tab-holds t zero i h = refl
tab-holds t (suc m) i h = both (h i (omega arith) (omega arith)) (tab-holds t m (i + 1) (λ k a b. h k (omega arith) (omega arith)))

-- where a test of all entries holds, it holds of every entry
pub all-every {ℓ} : {A : Type ℓ} (t : A → Bool) (l : List A) → all (map t l) ≡ true → Every (λ a. t a ≡ true) l
unfolding all E.Every
all-every t [] e = tt
all-every t (a ∷ l) e = (first (t a) (all (map t l)) e, all-every t l (second (t a) (all (map t l)) e))
