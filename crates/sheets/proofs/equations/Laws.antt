-- The equations step by step. Relies on promises' page SheetPlants for how many emitters there are.
use Prim.Native.Nat.{ℕ, ◌+◌, ◌-◌, ◌/◌, ◌%◌, ◌^◌, ◌≤◌, ◌<◌}
use mathlib.Core.Path.{◌≡◌, refl, sym, ap, ◌∙◌}
use mathlib.Core.Bool.{Bool, true, false}
use mathlib.Core.List.{List}
use native.Mathlib.Omega.{arith}
use native.Mathlib.Numerals.{add-one}
use borrow.Author.Tests.{lt-ltb, le-ltb, eq-eqb, ne_eqb}
use lib.Dec.{eqb}
use lib.ListN.{get_or}
use lib.Ieee.{Float, binary64, add, sub, mul}
use Rattle.std.proofs.lemmas.List.{get_or_default}
use Rattle.laws.specs.Lists.{tab, padded}
use Rattle.laws.specs.Tabs.{tab-step, tab-done, tab-same, padding-size, padding-at, FilledBy, filling-padded}
use Rattle.meaning.specs.declared.Sheet.{Sheet}
use Rattle.meaning.specs.Sheets.{one_f, zero_f, room_at, exchange_at, sum_from, loss_sum, gained, coefficient, pushed, has_emitter, emitters, offset}
use Rattle.promises.specs.Sheets.SheetPlants.{emitters-few}
use Rattle.sheets.specs.Equations.{sum_at, sums_of, bits_of}

-- ---- the sum of losses, j of m exchanges being added

pub sum_step : (g : ℕ → Float) (s : Float) (m j : ℕ) → j < m → sum_from s (tab g (m - j) j) ≡ sum_from (add binary64 s (g j)) (tab g (m - (j + 1)) (j + 1))
unfolding sum_from
sum_step g s m j h = ap (sum_from s) (tab-step g m j h)

pub sum_done : (g : ℕ → Float) (s : Float) (m j : ℕ) → m ≤ j → sum_from s (tab g (m - j) j) ≡ s
unfolding sum_from
sum_done g s m j h = ap (sum_from s) (tab-done g m j h)

-- ---- an array of m that holds f of the first i

pub record StoredUpTo {A : Type 0} (z : A) (f : ℕ → A) (m i : ℕ) (l : List A) : Type 0 where
  pub filled : FilledBy z m i l
  pub front : (k : ℕ) → k < i → get_or l k z ≡ f k

module _ {A : Type 0} (z : A) (f : ℕ → A) (m : ℕ) where
  pub stored-all : (n i : ℕ) (l : List A) → n ≤ i → i ≤ n → n ≤ m → StoredUpTo z f m i l → l ≡ padded m z (tab f n 0)
  stored-all n i l a b h w =
      let e : i ≡ n = omega arith in
      rw (← e)
      (sym (filling-padded z w.filled (omega arith)) ∙ ap (padded m z) (tab-same (λ k. get_or l k z) f i 0 (λ k c d. w.front k (omega arith))))

-- what the code reads of such an array, whatever would stand behind its end
stored-read : {A : Type 0} (z d : A) (f : ℕ → A) (m n i : ℕ) (l : List A) → l ≡ padded m z (tab f n 0) → n ≤ m → i < n → get_or l i d ≡ f i
stored-read z d f m n i l e few h =
    let long = padding-size z f m n few in
    rw e (get_or_default (padded m z (tab f n 0)) i d z (omega (arith, long)) ∙ padding-at z f m n i h)

module _ (h : Sheet) (few : h.n ≤ 4) (i : ℕ) (inside : i < h.n) where
  pub sum-read : (sums : List Float) → sums ≡ sums_of h → (d : Float) → get_or sums i d ≡ loss_sum h.n (room_at h i)
  unfolding sums_of
  sum-read sums e d = stored-read zero_f d (sum_at h) 4 h.n i sums e few inside

  pub bit-read : (bits : List ℕ) → bits ≡ bits_of h → (d : ℕ) → get_or bits i d ≡ emitters h i
  unfolding bits_of
  bit-read bits e d = stored-read 0 d (emitters h) 4 h.n i bits e few inside

-- ---- a coefficient: on the diagonal, its room's bit set or not, before the gap and behind it

module _ (h : Sheet) (u i j : ℕ) where
  abbrev sum : Float
  sum = loss_sum h.n (room_at h i)

  abbrev bit_set : Bool
  bit_set = eqb (u / 2 ^ emitters h i % 2) 1

  pub on-diagonal : i ≡ j → bit_set ≡ true → coefficient h u i j ≡ sub binary64 one_f (mul binary64 h.time (gained sum (room_at h i).emitter))
  unfolding coefficient
  on-diagonal e t = simp (eq-eqb i j e, t)

  pub off-diagonal : i ≡ j → bit_set ≡ false → coefficient h u i j ≡ sub binary64 one_f (mul binary64 h.time sum)
  unfolding coefficient
  off-diagonal e t = simp (eq-eqb i j e, t)

  pub before-gap : (i ≡ j → ⊥) → j < i → coefficient h u i j ≡ mul binary64 h.time (exchange_at (room_at h i) j)
  unfolding coefficient
  before-gap e l = simp (ne_eqb i j e, lt-ltb j i l)

  pub behind-gap : (i ≡ j → ⊥) → i ≤ j → coefficient h u i j ≡ mul binary64 h.time (exchange_at (room_at h i) (j - 1))
  unfolding coefficient
  behind-gap e l = simp (ne_eqb i j e, le-ltb j i l)

-- ---- emitters

pub none_before : (h : Sheet) → emitters h 0 ≡ 0
unfolding emitters
none_before h = refl

pub one_more : (h : Sheet) (m : ℕ) → emitters h (m + 1) ≡ emitters h m + has_emitter (room_at h m).emitter
unfolding emitters
one_more h m = rw add-one refl

-- a mode has few bits
pub bit-small : (h : Sheet) (m t : ℕ) → t ≡ emitters h m → m ≤ 4 → t < 64
bit-small h m t e l = omega (arith, emitters-few h m)

-- ---- an offset, its room's bit set or not

module _ (h : Sheet) (u i : ℕ) where
  abbrev steady : Float
  steady = mul binary64 h.time (mul binary64 (room_at h i).loss h.outside)

  pub pushed-offset : eqb (u / 2 ^ emitters h i % 2) 1 ≡ true → offset h u i ≡ pushed steady h.time (room_at h i).emitter
  unfolding offset
  pushed-offset t = simp t

  pub plain-offset : eqb (u / 2 ^ emitters h i % 2) 1 ≡ false → offset h u i ≡ steady
  unfolding offset
  plain-offset t = simp t
