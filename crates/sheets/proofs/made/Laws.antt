-- The coefficients of a plant one by one: each is that of its column, row and mode, so that they are the definition's rows; and how many there are. Relies on
-- promises' pages SheetPlants, for how many emitters there are.
use Prim.Native.Nat.{ℕ, zero, suc, ◌+◌, ◌*◌, ◌/◌, ◌%◌, ◌≤◌, ◌<◌}
use mathlib.Core.Path.{◌≡◌, refl, sym, ap, ◌∙◌}
use mathlib.Core.Bool.{cond}
use native.Mathlib.Omega.{arith}
use native.Mathlib.Nat.{le_trans, lt_of_lt_of_le, mod-lt, zero-add, add-zero, mul_comm, mul_assoc, mul-add, mul-le-mul, mod-eq_of_lt, div-eq_of_lt, mul-add-div, mul-add-mod_self_left}
use borrow.Author.Tests.{lt-ltb, le-ltb}
use lib.Dec.{ltb}
use lib.Pow.{pow_mono}
use lib.Ieee.{Float}
use Rattle.laws.specs.Lists.{tab, tabs}
use Rattle.laws.specs.Tabs.{tab-snoc}
use Rattle.laws.specs.Columns.{tabs-tab}
use Rattle.meaning.specs.Answers.{Whole}
use Rattle.meaning.specs.declared.Sheet.{Sheet}
use Rattle.meaning.specs.Plants.{entry_limit, offset_limit, coef_count}
use Rattle.meaning.specs.Sheets.{whole_of, coefficient, offset, made_row, made_modes}
use Rattle.promises.specs.Sheets.SheetPlants.{emitters-few}
use Rattle.sheets.specs.Sizes.{Sized}
use Rattle.sheets.specs.Made.{most_entries, entry_at}

-- ---- what the code reads of a place: an entry of A, or b

module _ (h : Sheet) (p : ℕ) where
  pub entry-is : p % (h.n + 1) < h.n → (x : Float) → x ≡ coefficient h (p / (h.n + 1) / h.n) (p / (h.n + 1) % h.n) (p % (h.n + 1))
      → whole_of entry_limit h.q x ≡ entry_at h p
  unfolding entry_at
  entry-is l x e = rw e (simp (lt-ltb (p % (h.n + 1)) h.n l))

  pub offset-is : h.n ≤ p % (h.n + 1) → (x : Float) → x ≡ offset h (p / (h.n + 1) / h.n) (p / (h.n + 1) % h.n)
      → whole_of offset_limit (h.q * h.r) x ≡ entry_at h p
  unfolding entry_at
  offset-is l x e = rw e (simp (le-ltb (p % (h.n + 1)) h.n l))

  -- the row in its mode
  pub row_below : Sized h → p / (h.n + 1) % h.n < h.n
  row_below s = mod-lt (p / (h.n + 1)) s.some

  pub row_small : Sized h → p / (h.n + 1) % h.n < 4
  row_small s = lt_of_lt_of_le (row_below s) s.few

-- ---- entries that are those of g, `base` further on

module _ (f g : ℕ → Whole) (base : ℕ) where
  shift : (m i : ℕ) → ((k : ℕ) → i ≤ k → k < i + m → f k ≡ g (base + k)) → tab f m i ≡ tab g m (base + i)
  unfolding tab
  shift zero i h = refl
  shift (suc m) i h =
      let a : base + i + 1 ≡ base + (i + 1) = omega arith in
      rw (h i (omega arith) (omega arith), a, shift m (i + 1) (λ k a b. h k (omega arith) (omega arith))) refl

  tab-shift : (m : ℕ) → ((k : ℕ) → k < m → f k ≡ g (base + k)) → tab f m 0 ≡ tab g m base
  tab-shift m h = shift m 0 (λ k a b. h k (omega arith)) ∙ rw add-zero refl

-- ---- the place of column j of row i of mode u

module _ (h : Sheet) (some : 1 ≤ h.n) (u i : ℕ) (inside : i < h.n) where
  abbrev row : ℕ
  row = h.n * u + i

  row-mod : row % h.n ≡ i
  row-mod = mul-add-mod_self_left h.n u i ∙ mod-eq_of_lt inside

  row-div : row / h.n ≡ u
  row-div = mul-add-div some u i ∙ ap (λ (k : ℕ). u + k) (div-eq_of_lt inside) ∙ add-zero u

  module _ (j : ℕ) (narrow : j < h.n + 1) where
    place-mod : ((h.n + 1) * row + j) % (h.n + 1) ≡ j
    place-mod = mul-add-mod_self_left (h.n + 1) row j ∙ mod-eq_of_lt narrow

    place-div : ((h.n + 1) * row + j) / (h.n + 1) ≡ row
    place-div =
        let wide : 0 < h.n + 1 = omega arith in
        mul-add-div wide row j ∙ ap (λ (k : ℕ). row + k) (div-eq_of_lt narrow) ∙ add-zero row

    at_place : entry_at h ((h.n + 1) * row + j) ≡ cond (ltb j h.n) (whole_of entry_limit h.q (coefficient h u i j)) (whole_of offset_limit (h.q * h.r) (offset h u i))
    unfolding entry_at
    at_place = rw (place-mod, place-div, row-mod, row-div) refl

  entry_place : (j : ℕ) → j < h.n → whole_of entry_limit h.q (coefficient h u i j) ≡ entry_at h ((h.n + 1) * row + j)
  entry_place j l = rw (at_place j (omega arith)) (simp (lt-ltb j h.n l))

  offset-place : whole_of offset_limit (h.q * h.r) (offset h u i) ≡ entry_at h ((h.n + 1) * row + h.n)
  offset-place = rw (at_place h.n (omega arith)) (simp (le-ltb h.n h.n (omega arith)))

  row_is : made_row h u i ≡ tab (entry_at h) (h.n + 1) ((h.n + 1) * row)
  row_is =
      rw (tab-shift (λ j. whole_of entry_limit h.q (coefficient h u i j)) (entry_at h) ((h.n + 1) * row) h.n entry_place, offset-place)
      (sym (tab-snoc (entry_at h) h.n ((h.n + 1) * row)))

-- ---- all of them are the rows of all modes

module _ (h : Sheet) (some : 1 ≤ h.n) where
  mode-is : (u : ℕ) → tabs (made_row h u) h.n 0 ≡ tab (entry_at h) ((h.n + 1) * h.n) (0 + (h.n + 1) * h.n * u)
  mode-is u =
      tabs-tab (entry_at h) (made_row h u) (h.n + 1) (0 + (h.n + 1) * h.n * u) h.n
      (λ i l. row_is h some u i l ∙ ap (tab (entry_at h) (h.n + 1)) (turn i))
    where
      turn : (i : ℕ) → (h.n + 1) * (h.n * u + i) ≡ 0 + (h.n + 1) * h.n * u + (h.n + 1) * i
      turn i = mul-add (h.n + 1) (h.n * u) i ∙ ap (λ (k : ℕ). k + (h.n + 1) * i) (sym (mul_assoc (h.n + 1) h.n u) ∙ sym (zero-add ((h.n + 1) * h.n * u)))

  pub rows_are : (modes : ℕ) → tabs (λ u. tabs (made_row h u) h.n 0) modes 0 ≡ tab (entry_at h) (coef_count modes h.n) 0
  rows_are modes =
      tabs-tab (entry_at h) (λ u. tabs (made_row h u) h.n 0) ((h.n + 1) * h.n) 0 modes (λ u l. mode-is u)
      ∙ ap (λ (k : ℕ). tab (entry_at h) k 0) (mul_comm ((h.n + 1) * h.n) modes ∙ ap (λ (k : ℕ). modes * k) (mul_comm (h.n + 1) h.n) ∙ sym (mul_assoc modes h.n (h.n + 1)))

-- ---- how many there are

module _ (h : Sheet) (s : Sized h) where
  pub modes-few : made_modes h ≤ 16
  modes-few = pow_mono {j = 4} (le_trans (emitters-few h h.n) s.few)

  pub rows_few : made_modes h * h.n ≤ 64
  rows_few = mul-le-mul modes-few s.few

  pub count-few : coef_count (made_modes h) h.n ≤ most_entries
  count-few = let wide : h.n + 1 ≤ 5 = omega (arith, s.few) in mul-le-mul rows_few wide
