-- A plant file of form 1 has at most 17,504 bytes (document 01, "Plant file": 1,183 while N ≤ 16; request 2026-08), one of form 2 at most 27,704, and of each form one has exactly so many.
-- Relies on pages Files, Lengths, Related and Taken; the checker computes how long the two are.
use Rattle.std.specs.Prelude.{ℕ, zero, suc, ◌+◌, ◌*◌, ◌≤◌, ◌<◌, ◌≡◌, refl, Bool, true, false, cond, length, ℤ, neg_ℤ}
use Rattle.std.proofs.Common.{sym, ◌∙◌, arith, mul-le-mul, le_refl, zero-add}
use Rattle.std.proofs.Math.Path.{ap, subst}
use mathlib.Core.List.{List, [], ◌∷◌, ◌++◌}
use Rattle.std.proofs.Math.ListN.{get_or-eq_default}
use Rattle.std.proofs.Math.IntN.{pos, nat_abs}
use Rattle.std.specs.Int.Signed.{le_z}
use Rattle.laws.specs.Columns.{tab-moved, tab-at}
use Rattle.laws.specs.Integers.{le_z-true}
use Rattle.laws.specs.Lists.{at, tab, tabs}
use Rattle.laws.specs.Tabs.{length-tabs, get_d-tabs, tabs-same, Filled}
use Rattle.meaning.specs.Boxes.{Side, side, side_at}
use Rattle.meaning.specs.Files.{values_of, good, file_of}
use Rattle.meaning.specs.Plants.{Plant, edge_limit, band_limit, entry_limit, offset_limit, edges, row, plant_forms, most_modes, own_bands, modes_own, modes_alike, plant_form, plant_of, edges_of, band_numbers, row_numbers, numbers_of, band_start, band_side, row_start, plant_judged}
use Rattle.meaning.specs.Computing.{computing}
use Rattle.promises.specs.Files.Files.{file-writes}
use Rattle.promises.specs.Files.Lengths.{Longest, longer, Adds, end-longest, limited-adds, then-adds, times-adds, edges-adds, bands-adds, headed-longest}
use Rattle.promises.specs.Files.PlantFiles.{plant_file}
use Rattle.promises.specs.Files.Plants.{Tidy}
use Rattle.promises.specs.Files.PlantShapes.{plant_body}
use Rattle.promises.specs.Files.Related.{good-plant}
use Rattle.promises.specs.Files.Sound.{Bounded, Edges, Wide, Sound}
use Rattle.promises.specs.Files.Taken.{sound-judged}

-- ---- at most

-- entries of A take 3 bytes and b 5
row-adds : (n : ℕ) → Adds (row n) (n * 3 + 5)
unfolding row
row-adds n = then-adds (times-adds (limited-adds entry_limit 2 (omega arith)) n) (limited-adds offset_limit 4 (omega arith))

-- the modes of form 2, and of form 1
modes-longest : (own : Bool) (n modes : ℕ) → n ≤ 4 → modes ≤ most_modes → Longest (edges n (cond own (modes_own n modes) (modes_alike n modes))) (cond own 27_696 17_496)
unfolding modes_own modes_alike
modes-longest true n modes few many =
    let r : n * 3 + 5 ≤ 17 = omega arith in
    let a : n * (n * 3 + 5) ≤ 4 * 17 = mul-le-mul few r in
    let m : n * 10 + n * (n * 3 + 5) ≤ 108 = omega arith in
    let b : modes * (n * 10 + n * (n * 3 + 5)) ≤ most_modes * 108 = mul-le-mul many m in
    longer ((edges-adds n).adds ((times-adds (then-adds (bands-adds n) (times-adds (row-adds n) n)) modes).adds end-longest)) (omega arith)
modes-longest false n modes few many =
    let a : modes * n ≤ most_modes * 4 = mul-le-mul many few in
    let b : n * 3 + 5 ≤ 17 = omega arith in
    longer ((edges-adds n).adds ((bands-adds n).adds ((times-adds (row-adds n) (modes * n)).adds end-longest))) (omega (arith, mul-le-mul a b))

-- at most so many bytes, by the form
abbrev pub longest_of : ℕ → ℕ
longest_of form = 8 + cond (own_bands form) 27_696 17_496

pub at_most : (s : List ℕ) (p : Plant) → plant_judged s ≡ good p → length s ≤ longest_of p.form
unfolding plant_judged plant_form plant_of
at_most s p e =
    let g = good-plant (values_of plant_form s) p e in
    let w = file-writes plant_form s g.was in
    let l = headed-longest plant_forms most_modes 1 plant_body (λ form. cond (own_bands form) 27_696 17_496) (omega arith) (omega arith) (λ form n k. modes-longest (own_bands form) n k) s w.0 in
    subst (λ (p : Plant). length s ≤ longest_of p.form) g.plant (omega (arith, l, w.1))

-- whichever the form
pub at-most-any : (s : List ℕ) (p : Plant) → plant_judged s ≡ good p → length s ≤ 27_704
at-most-any s p e = go (own_bands p.form) (at_most s p e)
  where
    go : (own : Bool) → length s ≤ 8 + cond own 27_696 17_496 → length s ≤ 27_704
    go true h = h
    go false h = omega arith

-- ---- and one that has them: n 4, N 256, q 10,000, K 6, D 3, and every edge, end, entry and b at its limit

abbrev lows : List ℤ
lows = let l = neg_ℤ (pos edge_limit) in l ∷ l ∷ l ∷ l ∷ []

abbrev highs : List ℤ
highs = let h = pos edge_limit in h ∷ h ∷ h ∷ h ∷ []

abbrev longest_band : List ℤ
longest_band = neg_ℤ (pos band_limit) ∷ pos band_limit ∷ []

abbrev longest_row : List ℤ
longest_row = pos entry_limit ∷ pos entry_limit ∷ pos entry_limit ∷ pos entry_limit ∷ pos offset_limit ∷ []

unfoldable pub longest_bands : List ℤ
longest_bands = tabs (λ _. longest_band) 4 0

unfoldable pub longest_rows : List ℤ
longest_rows = tabs (λ _. longest_row) 4 0

unfoldable pub every_band : List ℤ
every_band = tabs (λ _. longest_bands) 256 0

unfoldable pub every_row : List ℤ
every_row = tabs (λ _. longest_rows) 256 0

abbrev pub largest : ℕ → Plant
largest form = record { form = form; n = 4; modes = 256; q = 10_000; k = 6; d = 3; rlo = lows; rhi = highs; slo = lows; shi = highs; bands = every_band; coef = every_row }

-- the same list many times: one of its entries, and all of them
one_of : (l : List ℤ) (w m u j : ℕ) → length l ≡ w → u < m → j < w → at (tabs (λ _. l) m 0) (w * u + j) ≡ at l j
one_of l w m u j e h g = get_d-tabs (λ _. l) w (λ _. e) (pos 0) m 0 u j h g

all_of : (l : List ℤ) (w m u : ℕ) → length l ≡ w → u < m → tab (at (tabs (λ _. l) m 0)) w (w * u) ≡ l
all_of l w m u e h =
    tab-moved (at (tabs (λ _. l) m 0)) (at l) w (w * u) 0 (λ k g. rw zero-add (one_of l w m u k e h g))
    ∙ ap (λ (c : ℕ). tab (at l) c 0) (sym e) ∙ tab-at l

bands-eight : length longest_bands ≡ 8
unfolding longest_bands
bands-eight = length-tabs (λ _. longest_band) 2 (λ _. refl) 4 0

rows-twenty : length longest_rows ≡ 20
unfolding longest_rows
rows-twenty = length-tabs (λ _. longest_row) 5 (λ _. refl) 4 0

band-at : (u i j : ℕ) → u < 256 → i < 4 → j < 2 → at every_band (band_start 4 u i + j) ≡ at longest_band j
unfolding every_band longest_bands
band-at u i j h k l =
    let e : band_start 4 u i + j ≡ 8 * u + (2 * i + j) = omega arith in
    ap (at every_band) e ∙ one_of longest_bands 8 256 u (2 * i + j) bands-eight h (omega arith) ∙ one_of longest_band 2 4 i j refl k l

row_at : (u i j : ℕ) → u < 256 → i < 4 → j < 5 → at every_row (row_start 4 u i + j) ≡ at longest_row j
unfolding every_row longest_rows
row_at u i j h k l =
    let e : row_start 4 u i + j ≡ 20 * u + (5 * i + j) = omega arith in
    ap (at every_row) e ∙ one_of longest_rows 20 256 u (5 * i + j) rows-twenty h (omega arith) ∙ one_of longest_row 5 4 i j refl k l

side-is : (u i : ℕ) → u < 256 → i < 4 → band_side 4 every_band u i ≡ side (neg_ℤ (pos band_limit)) (pos band_limit)
side-is u i h k =
    let z : band_start 4 u i + 0 ≡ band_start 4 u i = omega arith in
    let lo : at every_band (band_start 4 u i) ≡ neg_ℤ (pos band_limit) = rw z at (band-at u i 0 h k (omega arith)) in
    let hi : at every_band (band_start 4 u i + 1) ≡ pos band_limit = band-at u i 1 h k (omega arith) in
    rw (lo, hi) refl

entry-is : (j : ℕ) → j < 4 → at longest_row j ≡ pos entry_limit
entry-is zero h = refl
entry-is (suc zero) h = refl
entry-is (suc (suc zero)) h = refl
entry-is (suc (suc (suc zero))) h = refl
entry-is (suc (suc (suc (suc j)))) h = absurd (omega arith)

edge-is : (i : ℕ) → i < 4 → side_at lows highs i ≡ side (neg_ℤ (pos edge_limit)) (pos edge_limit)
edge-is zero h = refl
edge-is (suc zero) h = refl
edge-is (suc (suc zero)) h = refl
edge-is (suc (suc (suc zero))) h = refl
edge-is (suc (suc (suc (suc i)))) h = absurd (omega arith)

at-limit : (limit : ℕ) → le_z (neg_ℤ (pos limit)) (pos limit) ≡ true → Bounded limit (side (neg_ℤ (pos limit)) (pos limit))
at-limit limit e = record { low = omega (arith, nat_abs-neg limit); high = le_refl limit; order = le_z-true (neg_ℤ (pos limit)) (pos limit) e }
  where
    nat_abs-neg : (v : ℕ) → nat_abs (neg_ℤ (pos v)) ≡ v
    nat_abs-neg zero = refl
    nat_abs-neg (suc v) = refl

edges-right : Edges edge_limit 4 lows highs
edges-right = record { lo-size = refl; hi-size = refl; sides = λ i h. rw (edge-is i h) (at-limit edge_limit refl) }

four-filled : (l : List ℤ) → length l ≡ 4 → Filled 4 4 l
four-filled l e = record { size = e; rest = λ k h. get_or-eq_default l (pos 0) (omega arith) }

module _ (form : ℕ) (some : 1 ≤ form) (known : form ≤ plant_forms) where
  bands-many : length every_band ≡ 2_048
  unfolding every_band
  bands-many = length-tabs (λ _. longest_bands) 8 (λ _. bands-eight) 256 0

  rows-many : length every_row ≡ 5_120
  unfolding every_row
  rows-many = length-tabs (λ _. longest_rows) 20 (λ _. rows-twenty) 256 0

  sound : Sound (largest form)
  unfolding computing
  sound = record {
    first = some;
    known = known;
    ranges = record {
      n-low = omega arith;
      n-high = omega arith;
      m-low = omega arith;
      m-high = omega arith;
      q-low = omega arith;
      q-high = omega arith;
      k-low = omega arith;
      k-high = omega arith;
      d-high = omega arith;
      nd-high = omega arith;
      root = edges-right;
      safe = edges-right;
    };
    root-safe = refl;
    band-size = bands-many;
    bands = λ u i h k. subst (λ (x : Side). Bounded band_limit x) (sym (side-is u i h k)) (at-limit band_limit refl);
    wide = λ u i h k. subst (λ (x : Side). Wide 10_000 x) (sym (side-is u i h k)) (le_z-true _ _ refl);
    coef-size = rows-many;
    entries = λ u i j h k l. subst (λ (z : ℤ). nat_abs z ≤ entry_limit) (sym (row_at u i j h k (omega arith) ∙ entry-is j l)) (le_refl entry_limit);
    offsets = λ u i h k. subst (λ (z : ℤ). nat_abs z ≤ offset_limit) (sym (row_at u i 4 h k (omega arith))) (le_refl offset_limit);
  }

  bands-are : (u : ℕ) → u < 256 → band_numbers 4 every_band u ≡ longest_bands
  unfolding every_band
  bands-are u h = all_of longest_bands 8 256 u bands-eight h

  rows_are : (u : ℕ) → u < 256 → row_numbers 4 every_row u ≡ longest_rows
  unfolding every_row
  rows_are u h = all_of longest_rows 20 256 u rows-twenty h

  tidy : Tidy (largest form)
  tidy = record {
    rooms = omega arith;
    rlo-filled = four-filled lows refl;
    rhi-filled = four-filled highs refl;
    slo-filled = four-filled lows refl;
    shi-filled = four-filled highs refl;
    bands-long = bands-many;
    coef-long = rows-many;
    alike = λ _ u h. bands-are 0 (omega arith) ∙ sym (bands-are u h);
  }

  -- its numbers, written down
  abbrev modes : Bool → List ℤ
  modes own = cond own (tabs (λ _. longest_bands ++ longest_rows) 256 0) (longest_bands ++ tabs (λ _. longest_rows) 256 0)

  abbrev numbers : List ℤ
  numbers = pos form ∷ pos 4 ∷ pos 256 ∷ pos 10_000 ∷ pos 6 ∷ pos 3 ∷ (tabs (edges_of lows highs lows highs) 4 0 ++ modes (own_bands form))

  modes-are : (own : Bool) → cond own (tabs (λ u. band_numbers 4 every_band u ++ row_numbers 4 every_row u) 256 0) (band_numbers 4 every_band 0 ++ tabs (row_numbers 4 every_row) 256 0) ≡ modes own
  modes-are true =
      tabs-same (λ u. band_numbers 4 every_band u ++ row_numbers 4 every_row u) (λ _. longest_bands ++ longest_rows) 256 0 (λ u a b. rw (bands-are u (omega arith), rows_are u (omega arith)) refl)
  modes-are false = rw (bands-are 0 (omega arith), tabs-same (row_numbers 4 every_row) (λ _. longest_rows) 256 0 (λ u a b. rows_are u (omega arith))) refl

  numbers-are : numbers_of (largest form) ≡ numbers
  unfolding numbers_of
  numbers-are = ap (λ (l : List ℤ). pos form ∷ pos 4 ∷ pos 256 ∷ pos 10_000 ∷ pos 6 ∷ pos 3 ∷ (tabs (edges_of lows highs lows highs) 4 0 ++ l)) (modes-are (own_bands form))

  reaches : length (file_of plant_form numbers) ≡ longest_of form → (length (plant_file (largest form)) ≡ longest_of form) × (plant_judged (plant_file (largest form)) ≡ good (largest form))
  reaches e = (ap (λ (vs : List ℤ). length (file_of plant_form vs)) numbers-are ∙ e, sound-judged (largest form) sound tidy)

abbrev pub Reached : ℕ → Type 0
Reached form = (length (plant_file (largest form)) ≡ longest_of form) × (plant_judged (plant_file (largest form)) ≡ good (largest form))

pub reached : Reached 1 × Reached 2
unfolding computing longest_bands longest_rows
reached = (reaches 1 (omega arith) (omega arith) refl, reaches 2 (omega arith) (omega arith) refl)
