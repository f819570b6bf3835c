-- M and the widening: sizes; the ends of all bands. Assumes nothing.
use Rattle.std.specs.Prelude.{Some, None, Ok, Err}
use Prim.Native.Nat.{ℕ, zero, suc, ◌+◌, ◌*◌, ◌/◌, ◌%◌, ◌≤◌, ◌<◌, max}
use mathlib.Core.Path.{◌≡◌, refl, ◌∙◌}
use mathlib.Core.List.{List}
use native.Mathlib.Omega.{arith}
use native.Mathlib.Numerals.{add-one}
use native.Mathlib.Nat.{mul-le-mul}
use lib.ListN.{set}
use lib.IntN.{ℤ, pos, nat_abs}
use mir.Syntax.{w64}
use mir.Val.{SFits, to_z}
use mir.Facts.{to_z-of_z}
use Rattle.std.specs.Int.{div_ceil}
use Rattle.laws.specs.Integers.{fits}
use Rattle.laws.specs.Expressions as E
use Rattle.laws.specs.Expressions.{Ex}
use Rattle.laws.specs.Columns.{tabs-tab}
use Rattle.laws.specs.Lists.{at, tab, tabs}
use Rattle.meaning.specs.declared.Sheet.{Sheet}
use Rattle.meaning.specs.Plants.{edge_limit}
use Rattle.meaning.specs.Refusals.{bad_result}
use Rattle.meaning.specs.Sheets.{largest_edge, widening, made_band}
use Rattle.sheets.specs.Sizes.{Sized}
use Rattle.sheets.specs.Bands.{low_end, high_end, end_at, most_ends, bands_of}
use Rattle.sheets.proofs.wholes.Counts.{FitUpTo, fit-more, fit-out, fit-all}

-- ---- M

pub largest-none : (h : Sheet) → largest_edge h 0 ≡ 0
unfolding largest_edge
largest-none h = refl

pub largest-more : (h : Sheet) (m : ℕ) → largest_edge h (m + 1) ≡ max (largest_edge h m) (max (nat_abs (at h.slo m)) (nat_abs (at h.shi m)))
unfolding largest_edge
largest-more h m = rw add-one refl

pub largest-small : (h : Sheet) → Sized h → (m : ℕ) → m ≤ h.n → largest_edge h m ≤ edge_limit
unfolding largest_edge
largest-small h s zero l = omega arith
largest-small h s (suc m) l = omega (arith, largest-small h s m (omega arith), s.edges m (omega arith))

-- ---- the widening

module _ (h : Sheet) (s : Sized h) where
  pub product_small : h.n * largest_edge h h.n ≤ 4000000
  product_small = mul-le-mul s.few (largest-small h s h.n (omega arith))

  pub widening-small : widening h ≤ 2000001
  unfolding widening
  widening-small = let p = product_small in omega arith

rounded-up : (v : ℕ) → div_ceil (v + 1) 2 ≡ (v + 2) / 2
rounded-up v = omega arith

pub widening-is : (h : Sheet) → div_ceil (h.n * largest_edge h h.n + 1) 2 ≡ widening h
unfolding widening
widening-is h = rounded-up (h.n * largest_edge h h.n)

-- the widening as the machine holds it
module _ (h : Sheet) (s : Sized h) (w : ℕ) (e : w ≡ widening h) where
  pub width_fits : SFits w64 (pos w)
  width_fits = fits (omega (arith, widening-small h s))

  abbrev pub width : Ex
  width = E.held (to_z w64 w) (pos w) 2000001 (to_z-of_z width_fits) (omega (arith, widening-small h s))

-- ---- the ends in plant order

module _ (h : Sheet) (i : ℕ) where
  pub low-at : end_at h (2 * i) ≡ low_end h i
  unfolding end_at
  low-at =
      let r : 2 * i % 2 ≡ 0 = omega arith in
      let d : 2 * i / 2 ≡ i = omega arith in
      rw (r, d) refl

  pub high-at : end_at h (2 * i + 1) ≡ high_end h i
  unfolding end_at
  high-at =
      let r : (2 * i + 1) % 2 ≡ 1 = omega arith in
      let d : (2 * i + 1) / 2 ≡ i = omega arith in
      rw (r, d) refl

-- all of them are the definition's bands
pub bands_are : (h : Sheet) → tabs (made_band h) h.n 0 ≡ tab (end_at h) (2 * h.n) 0
unfolding tab
bands_are h = tabs-tab (end_at h) (made_band h) 2 0 h.n (λ i l. let z : 0 + 2 * i ≡ 2 * i = omega arith in rw (z, low-at h i, high-at h i) refl)

-- ---- dimension by dimension

abbrev pub BandsUpTo : Sheet → ℕ → List ℤ → Type 0
BandsUpTo h i ends = FitUpTo most_ends (end_at h) (2 * h.n) (2 * i) ends

module _ (h : Sheet) (i : ℕ) (ends : List ℤ) (place : ℕ) (w : BandsUpTo h i ends) where
  pub low-stops : i < h.n → low_end h i ≡ None → bands_of h place ≡ Err (bad_result (place + 2 * i))
  low-stops l e = rw (bands_are h) (fit-out most_ends (end_at h) (2 * h.n) w place (omega arith) (low-at h i ∙ e))

  module _ (few : h.n ≤ 4) (l : i < h.n) (lo : ℤ) (e : low_end h i ≡ Some lo) where
    one : FitUpTo most_ends (end_at h) (2 * h.n) (2 * i + 1) (set ends (2 * i) lo)
    one = fit-more most_ends (end_at h) (2 * h.n) w lo (omega arith) (omega arith) (low-at h i ∙ e)

    pub high-stops : high_end h i ≡ None → bands_of h place ≡ Err (bad_result (place + 2 * i + 1))
    high-stops g =
        let p : place + 2 * i + 1 ≡ place + (2 * i + 1) = omega arith in
        rw (bands_are h, p) (fit-out most_ends (end_at h) (2 * h.n) one place (omega arith) (high-at h i ∙ g))

    pub bands-more : (hi : ℤ) → high_end h i ≡ Some hi → BandsUpTo h (i + 1) (set (set ends (2 * i) lo) (2 * i + 1) hi)
    bands-more hi g =
        let p : 2 * i + 1 + 1 ≡ 2 * (i + 1) = omega arith in
        rw p at (fit-more most_ends (end_at h) (2 * h.n) one hi (omega arith) (omega arith) (high-at h i ∙ g))

  pub bands-all : h.n ≤ 4 → h.n ≤ i → bands_of h place ≡ Ok ends
  bands-all few l = rw (bands_are h) (fit-all most_ends (end_at h) (2 * h.n) w place (omega arith) (omega arith))
