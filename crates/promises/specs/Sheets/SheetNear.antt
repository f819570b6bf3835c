-- A sheet whose every number a plant can hold (meaning's `fitting`): its entries, offsets and widened ends are numbers, each within its limit.
-- Relies on page Nearest. How near they are to the sheet's own is page SheetSteps.
use Rattle.std.specs.Prelude.{ℕ, ◌*◌, ◌≤◌, ◌<◌, ◌≡◌, refl, true, ℤ, nat_abs, ◌+ℤ◌, ◌-ℤ◌, Some, None}
use Rattle.std.proofs.Math.Path.{sym}
use mathlib.Core.List.{[], ◌∷◌, ◌++◌, map}
use Rattle.std.proofs.Common.{zero-add}
use Rattle.std.proofs.Math.IntN.{pos}
use Rattle.laws.specs.Every as E
use Rattle.laws.specs.Every.{Every, every-parts, every-tab-at, every-tabs-at}
use Rattle.laws.specs.Lists.{at, tab, tabs, all}
use Rattle.laws.specs.Tests.{never, all-every}
use Rattle.meaning.specs.Answers.{Whole}
use Rattle.meaning.specs.declared.Sheet.{Sheet}
use Rattle.meaning.specs.Plants.{entry_limit, offset_limit, band_limit}
use Rattle.meaning.specs.Sheets as S
use Rattle.meaning.specs.Sheets.{limited_to, widening, coefficient, offset, sheet_edges, made_band, made_row, made_modes, made_numbers, is_near, near_value}
use Rattle.promises.specs.Sheets.Nearest.{limited-was, whole-limit}
use Rattle.promises.specs.Sheets.SheetNumbers.{entry_at, offset_at}

pub near-is : (w : Whole) → is_near w ≡ true → w ≡ Some (near_value w)
near-is (Some v) e = refl
near-is None e = never e

abbrev pub Near : Whole → Type 0
Near w = is_near w ≡ true

-- a number that a limit allows is the number itself, within the limit
limited-near : (limit : ℕ) (v : ℤ) → Near (limited_to limit v) → (v ≡ near_value (limited_to limit v)) × (nat_abs (near_value (limited_to limit v)) ≤ limit)
limited-near limit v e = limited-was limit v (near_value (limited_to limit v)) (near-is (limited_to limit v) e)

module _ (h : Sheet) (fit : all (map is_near (made_numbers h)) ≡ true) where
  ends-and-rows : Every Near (tabs (made_band h) h.n 0) × Every Near (tabs (λ u. tabs (made_row h u) h.n 0) (made_modes h) 0)
  unfolding S.made_numbers
  ends-and-rows =
      let bands = tabs (made_band h) h.n 0 in
      let rows = tabs (λ u. tabs (made_row h u) h.n 0) (made_modes h) 0 in
      let header = map (λ v. Some (pos v)) (1 ∷ h.n ∷ made_modes h ∷ h.q ∷ h.k ∷ h.d ∷ []) in
      let body = (every-parts Near header (map Some (sheet_edges h) ++ (bands ++ rows)) (all-every is_near (made_numbers h) fit)).1 in
      every-parts Near bands rows (every-parts Near (map Some (sheet_edges h)) (bands ++ rows) body).1

  ends-near : (i : ℕ) → i < h.n → Every Near (made_band h i)
  ends-near i l = rw (zero-add i) at (every-tabs-at Near (made_band h) h.n 0 ends-and-rows.0 i l)

  row_near : (u i : ℕ) → u < made_modes h → i < h.n → Every Near (made_row h u i)
  row_near u i a b =
      let mode : Every Near (tabs (made_row h u) h.n 0) = rw (zero-add u) at (every-tabs-at Near (λ u. tabs (made_row h u) h.n 0) (made_modes h) 0 ends-and-rows.1 u a) in
      rw (zero-add i) at (every-tabs-at Near (made_row h u) h.n 0 mode i b)

  pub entry-near : (u i j : ℕ) → u < made_modes h → i < h.n → j < h.n → Near (entry_at h u i j)
  entry-near u i j a b c =
      let es = (every-parts Near (tab (entry_at h u i) h.n 0) (offset_at h u i ∷ []) (row_near u i a b)).0 in
      rw (zero-add j) at (every-tab-at Near (entry_at h u i) h.n 0 es j c)

  pub offset_near : (u i : ℕ) → u < made_modes h → i < h.n → Near (offset_at h u i)
  unfolding E.Every
  offset_near u i a b = (every-parts Near (tab (entry_at h u i) h.n 0) (offset_at h u i ∷ []) (row_near u i a b)).1.0

  -- the ends of the band are those of the sheet, made wider
  pub low-is : (i : ℕ) → i < h.n → near_value (limited_to band_limit (at h.wlo i -ℤ pos (widening h))) ≡ at h.wlo i -ℤ pos (widening h)
  unfolding E.Every
  low-is i l = sym (limited-near band_limit (at h.wlo i -ℤ pos (widening h)) (ends-near i l).0).0

  pub high_is : (i : ℕ) → i < h.n → near_value (limited_to band_limit (at h.whi i +ℤ pos (widening h))) ≡ at h.whi i +ℤ pos (widening h)
  unfolding E.Every
  high_is i l = sym (limited-near band_limit (at h.whi i +ℤ pos (widening h)) (ends-near i l).1.0).0

  -- ---- within their limits

  pub low-few : (i : ℕ) → i < h.n → nat_abs (near_value (limited_to band_limit (at h.wlo i -ℤ pos (widening h)))) ≤ band_limit
  unfolding E.Every
  low-few i l = (limited-near band_limit (at h.wlo i -ℤ pos (widening h)) (ends-near i l).0).1

  pub high-few : (i : ℕ) → i < h.n → nat_abs (near_value (limited_to band_limit (at h.whi i +ℤ pos (widening h)))) ≤ band_limit
  unfolding E.Every
  high-few i l = (limited-near band_limit (at h.whi i +ℤ pos (widening h)) (ends-near i l).1.0).1

  pub entry-few : (u i j : ℕ) → u < made_modes h → i < h.n → j < h.n → nat_abs (near_value (entry_at h u i j)) ≤ entry_limit
  entry-few u i j a b c = whole-limit entry_limit h.q (coefficient h u i j) (near_value (entry_at h u i j)) (near-is (entry_at h u i j) (entry-near u i j a b c))

  pub offset-few : (u i : ℕ) → u < made_modes h → i < h.n → nat_abs (near_value (offset_at h u i)) ≤ offset_limit
  offset-few u i a b = whole-limit offset_limit (h.q * h.r) (offset h u i) (near_value (offset_at h u i)) (near-is (offset_at h u i) (offset_near u i a b))
