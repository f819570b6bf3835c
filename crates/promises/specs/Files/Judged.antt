-- A plant whose file was judged good is sound (page Sound): what document 01 says of a plant's numbers, from the form that its file was
-- read by (pages Forms and Framed) and the two tests behind it (page Related). That its
-- edges are 0 beyond n is left out.
use Rattle.std.specs.Prelude.{ℕ, ◌+◌, ◌*◌, ◌≤◌, ◌<◌, ◌≡◌, Bool, cond, List, map, ℤ}
use Rattle.std.proofs.Math.Path.{refl, ap}
use Rattle.std.proofs.Common.{◌∙◌, subst, le_refl}
use Rattle.std.proofs.Math.Bool.{true, false}
use native.Mathlib.Omega.{arith}
use Rattle.std.proofs.Math.Nat.{mul-le-mul}
use Rattle.std.proofs.Math.IntN.{nat_abs}
use Rattle.laws.specs.Lists.{at, tab, tabs, all}
use Rattle.laws.specs.Columns.{parted-long, parted-at}
use Rattle.meaning.specs.Boxes.{side, within}
use Rattle.meaning.specs.Files.{Form, end, values_of, good}
use Rattle.meaning.specs.Plants as P
use Rattle.meaning.specs.Plants.{band_limit, entry_limit, offset_limit, limited, row, times, plant_forms, most_modes, own_bands, mode_form, modes_own, modes_alike, modes_form, plant_form, Plant, coef_count, band_count, mode_size, bands_at, rows_at, plant_of, root_of, safe_of, band_start, band_side, bands_of, wide, plant_judged, row_start}
use Rattle.promises.specs.Files.Files.{file-writes}
use Rattle.promises.specs.Files.Forms.{Right, values-right, times-right}
use Rattle.promises.specs.Files.Framed.{limited-right, wide-bands, bands-right, framed}
use Rattle.promises.specs.Files.Related.{good-plant}
use Rattle.promises.specs.Files.Sound.{Bounded, Sound}

-- ---- a row of the form, as facts

module _ (vs : List ℤ) where
  -- A_i1..A_in, b_i
  record RowAt (n i : ℕ) : Type 0 where
    entries : (j : ℕ) → j < n → nat_abs (at vs (i + 1 * j)) ≤ entry_limit
    offset : nat_abs (at vs (i + 1 * n)) ≤ offset_limit

  row-right : (n : ℕ) (rest : Form) (i : ℕ) → Right (row n rest) vs i → RowAt n i × Right rest vs (i + (n + 1))
  unfolding P.row
  row-right n rest i h =
      let a = times-right vs (limited entry_limit) 1 (λ k. nat_abs (at vs k) ≤ entry_limit) (limited-right vs entry_limit) n (limited offset_limit rest) i h in
      let b = limited-right vs offset_limit rest (i + 1 * n) a.1 in
      let e : i + (n + 1) ≡ i + 1 * n + 1 = omega arith in
      (record { entries = a.0; offset = b.0 }, rw e b.1)

  -- a mode of form 2: its bands, and then its rows
  record ModeAt (n i : ℕ) : Type 0 where
    bands : (t : ℕ) → t < n → Bounded band_limit (side (at vs (i + 2 * t)) (at vs (i + 2 * t + 1)))
    rows : (t : ℕ) → t < n → RowAt n (i + 2 * n + (n + 1) * t)

  mode-right : (n : ℕ) (rest : Form) (i : ℕ) → Right (mode_form n rest) vs i → ModeAt n i × Right rest vs (i + mode_size n)
  mode-right n rest i h =
      let b = bands-right vs n (times n (row n) rest) i h in
      let r = times-right vs (row n) (n + 1) (RowAt n) (row-right n) n rest (i + 2 * n) b.1 in
      let e : i + mode_size n ≡ i + 2 * n + (n + 1) * n = omega arith in
      (record { bands = b.0; rows = r.0 }, rw e r.1)

  -- the bands and rows of all modes, in either form
  record ModesAt (own : Bool) (n modes : ℕ) : Type 0 where
    bands : (u t : ℕ) → u < modes → t < n → let i = 6 + 4 * n + cond own (mode_size n * u) 0 in Bounded band_limit (side (at vs (i + 2 * t)) (at vs (i + 2 * t + 1)))
    rows : (u t : ℕ) → u < modes → t < n → RowAt n (6 + 6 * n + cond own (mode_size n * u) (n * (n + 1) * u) + (n + 1) * t)

  modes-right : (own : Bool) (n modes : ℕ) → Right (cond own (modes_own n modes) (modes_alike n modes)) vs (6 + 4 * n) → ModesAt own n modes
  unfolding P.modes_own P.modes_alike
  modes-right true n modes h =
      let m = times-right vs (mode_form n) (mode_size n) (ModeAt n) (mode-right n) modes end (6 + 4 * n) h in
      record {
        bands = λ u t hu ht. (m.0 u hu).bands t ht;
        rows = λ u t hu ht. let e : 6 + 6 * n + mode_size n * u + (n + 1) * t ≡ 6 + 4 * n + mode_size n * u + 2 * n + (n + 1) * t = omega arith in rw e ((m.0 u hu).rows t ht);
      }
  modes-right false n modes h =
      let b = bands-right vs n (times (modes * n) (row n) end) (6 + 4 * n) h in
      let r = times-right vs (row n) (n + 1) (RowAt n) (row-right n) (modes * n) end (6 + 4 * n + 2 * n) b.1 in
      record {
        bands = λ u t hu ht. let e : 6 + 4 * n + 0 ≡ 6 + 4 * n = omega arith in rw e (b.0 t ht);
        rows = λ u t hu ht.
            let e : 6 + 6 * n + n * (n + 1) * u + (n + 1) * t ≡ 6 + 4 * n + 2 * n + (n + 1) * (u * n + t) = omega arith in
            rw e (r.0 (u * n + t) (omega (arith, mul-le-mul hu (le_refl n))));
      }

-- ---- the arrays of the plant

module _ (vs : List ℤ) (form n modes : ℕ) where
  bands : List ℤ
  bands = tabs (λ u. tab (at vs) (2 * n) (bands_at form n u)) modes 0

  coefs : List ℤ
  coefs = tabs (λ u. tab (at vs) (n * (n + 1)) (rows_at form n u)) modes 0

  -- the ends of the band of mode u in dimension i
  lows-at : (u i : ℕ) → u < modes → i < n → at bands (band_start n u i) ≡ at vs (bands_at form n u + 2 * i)
  unfolding bands
  lows-at u i hu hi =
      let e : band_start n u i ≡ 2 * n * u + 2 * i = omega arith in
      ap (at bands) e ∙ parted-at vs (2 * n) (bands_at form n) modes u (2 * i) hu (omega arith)

  highs-at : (u i : ℕ) → u < modes → i < n → at bands (band_start n u i + 1) ≡ at vs (bands_at form n u + 2 * i + 1)
  unfolding bands
  highs-at u i hu hi =
      let e : band_start n u i + 1 ≡ 2 * n * u + (2 * i + 1) = omega arith in
      let q : bands_at form n u + (2 * i + 1) ≡ bands_at form n u + 2 * i + 1 = omega arith in
      ap (at bands) e ∙ parted-at vs (2 * n) (bands_at form n) modes u (2 * i + 1) hu (omega arith) ∙ rw q refl

  -- entry j of row i of mode u, its b_i being entry n
  coefs-at : (u i j : ℕ) → u < modes → i < n → j ≤ n → at coefs (row_start n u i + j) ≡ at vs (rows_at form n u + (n + 1) * i + 1 * j)
  unfolding coefs
  coefs-at u i j hu hi hj =
      let e : row_start n u i + j ≡ n * (n + 1) * u + ((n + 1) * i + 1 * j) = omega arith in
      let q : rows_at form n u + ((n + 1) * i + 1 * j) ≡ rows_at form n u + (n + 1) * i + 1 * j = omega arith in
      let l : (n + 1) * i + 1 * j < n * (n + 1) = omega (arith, mul-le-mul (le_refl (n + 1)) hi) in
      ap (at coefs) e ∙ parted-at vs (n * (n + 1)) (rows_at form n) modes u ((n + 1) * i + 1 * j) hu l ∙ rw q refl

-- ---- the whole form

right-sound : (vs : List ℤ) → Right plant_form vs 0 → within (root_of (plant_of vs)) (safe_of (plant_of vs)) ≡ true
    → ((u : ℕ) → u < (plant_of vs).modes → all (map (wide (plant_of vs).q) (bands_of (plant_of vs) u)) ≡ true) → Sound (plant_of vs)
unfolding P.plant_form P.plant_of bands coefs
right-sound vs h in_safe all_wide =
    let form = nat_abs (at vs 0) in
    let n = nat_abs (at vs 1) in
    let modes = nat_abs (at vs 2) in
    let q = nat_abs (at vs 3) in
    let f = framed plant_forms most_modes modes_form vs h in
    let m = modes-right vs (own_bands form) n modes f.behind in
    let b : 2 * n * modes ≡ band_count modes n = omega arith in
    let c : n * (n + 1) * modes ≡ coef_count modes n = omega arith in
    record {
      first = f.first;
      known = f.known;
      ranges = f.ranges;
      root-safe = in_safe;
      band-size = parted-long vs (2 * n) (bands_at form n) modes ∙ b;
      bands = λ u i hu hi. rw (lows-at vs form n modes u i hu hi, highs-at vs form n modes u i hu hi) (m.bands u i hu hi);
      wide = λ u i hu hi. wide-bands q (band_side n (bands vs form n modes) u) n (all_wide u hu) i hi;
      coef-size = parted-long vs (n * (n + 1)) (rows_at form n) modes ∙ c;
      entries = λ u i j hu hi hj. rw (coefs-at vs form n modes u i j hu hi (omega arith)) ((m.rows u i hu hi).entries j hj);
      offsets = λ u i hu hi. rw (coefs-at vs form n modes u i n hu hi (le_refl n)) (m.rows u i hu hi).offset;
    }

-- a plant that was judged good is sound: its numbers were read by the form, to the end of the file
pub judged-sound : (s : List ℕ) (p : Plant) → plant_judged s ≡ good p → Sound p
unfolding P.plant_judged
judged-sound s p e =
    let g = good-plant (values_of plant_form s) p e in
    let w = file-writes plant_form s g.was in
    subst Sound g.plant (right-sound g.values (values-right plant_form s 0 g.values g.next w.0) g.root-safe g.bands-wide)
