-- The plant made of a sheet that was judged good is one that the plant's reader takes, so what is written of it is what the plant's writer writes.
-- Relies on pages Passing, SheetSound, SheetNumbers and SheetNear; what the plant allows is page SheetSteps.
use Rattle.std.specs.Prelude.{ℕ, zero, suc, ◌+◌, ◌*◌, ◌≤◌, ◌<◌, ◌≡◌, true, ℤ, ◌+ℤ◌, ◌-ℤ◌, ◌≤ℤ◌}
use Rattle.std.proofs.Math.Path.{refl, ap}
use Rattle.std.proofs.Common.{sym, ◌∙◌, arith, pow_pos, pow_mono}
use mathlib.Core.List.{List, [], ◌∷◌, ◌++◌, map, append-nil, map-append}
use Rattle.std.proofs.Math.Nat.{zero-add}
use Rattle.std.proofs.Math.IntN.{pos}
use Rattle.laws.specs.Integers.{zarith, add, sub}
use Rattle.laws.specs.Lists.{at, tab, all}
use Rattle.laws.specs.Tabs.{tab-same, padded-at, map-tab}
use Rattle.laws.specs.Tests.{true-le_z, tab-holds}
use Rattle.meaning.specs.declared.Emitter.{Emitter}
use Rattle.meaning.specs.declared.Refusal.{Refusal}
use Rattle.meaning.specs.declared.Sheet.{Sheet}
use Rattle.meaning.specs.Boxes.{Side, side, side_at, sides_of}
use Rattle.meaning.specs.Buffers.{left, refused_with}
use Rattle.meaning.specs.Files.{Form, end, Judged, good, bad, file_of, file_judged}
use Rattle.meaning.specs.Plants as P
use Rattle.meaning.specs.Plants.{band_limit, times, row, column, plant_forms, most_modes, plant_form, plant_of, numbers_of, root_of, safe_of, band_start, band_side, bands_of, wide, plant_related, plant_judged, plant_left}
use Rattle.meaning.specs.Sheets as S
use Rattle.meaning.specs.Sheets.{emitters, has_emitter, room_at, widening, limited_to, made_modes, near_value, made_values, made_plant, root_sheet, safe_sheet, plant_file_made, sheet_judged, made_left}
use Rattle.promises.specs.Files.Files.{file-writes}
use Rattle.promises.specs.Files.FormShapes.{times-each}
use Rattle.promises.specs.Files.Passing as Q
use Rattle.promises.specs.Files.Passing.{Passes, passes-read, edges-pass, bands-pass, row-pass, times-times, headed-passes}
use Rattle.promises.specs.Files.PlantShapes.{plant_body, plant-read}
use Rattle.promises.specs.Files.Related.{related-holds, modes-pass}
use Rattle.promises.specs.Sheets.SheetNear.{entry-few, offset-few, low-is, high_is, low-few, high-few}
use Rattle.promises.specs.Sheets.SheetNumbers.{edges, numbers_row, mode_rows, rows, made-groups, entry_at, offset_at, edge-made, end-made}
use Rattle.promises.specs.Sheets.SheetSound.{SoundSheet, judged-sound}
use Rattle.promises.specs.Files.Sound.{Bounded}

-- ---- at most 16 modes

pub has_one : (e : Emitter) → has_emitter e ≤ 1
has_one Emitter.None = omega arith
has_one (Emitter.Heater p water) = omega arith
has_one (Emitter.Steady rate) = omega arith

pub emitters-few : (h : Sheet) (m : ℕ) → emitters h m ≤ m
unfolding S.emitters
emitters-few h zero = omega arith
emitters-few h (suc m) = omega (arith, emitters-few h m, has_one (room_at h m).emitter)

module _ (h : Sheet) (s : SoundSheet h) where
  -- sheets reach 16 modes at most
  pub modes-sixteen : made_modes h ≤ 16
  modes-sixteen = pow_mono {j = 4} (omega (arith, emitters-few h h.n, s.ranges.n-high))

  modes-few : made_modes h ≤ most_modes
  modes-few = omega (arith, modes-sixteen)

  -- ---- the numbers pass, group by group

  -- lo ≤ hi is kept, and so is the width
  wider : (i : ℕ) → i < h.n → (at h.wlo i -ℤ pos (widening h)) ≤ℤ (at h.whi i +ℤ pos (widening h))
  wider i l =
      let w = pos (widening h) in
      let k = (s.band.sides i l).order in
      omega (zarith, k, sub (at h.wlo i) w, add (at h.whi i) w)

  abbrev low : ℕ → ℤ
  low i = near_value (limited_to band_limit (at h.wlo i -ℤ pos (widening h)))

  abbrev high : ℕ → ℤ
  high i = near_value (limited_to band_limit (at h.whi i +ℤ pos (widening h)))

  ends-bounded : (i : ℕ) → i < h.n → Bounded band_limit (side (low i) (high i))
  ends-bounded i l =
      let order : low i ≤ℤ high i = rw (low-is h s.fit i l, high_is h s.fit i l) (wider i l) in
      record { low = low-few h s.fit i l; high = high-few h s.fit i l; order = order }

  one-pass : (u i : ℕ) → u < made_modes h → i < h.n → (rest : Form) (vs : List ℤ) → Passes rest vs → Passes (row h.n rest) (numbers_row h u i ++ vs)
  one-pass u i a b rest vs p =
      let f : ℕ → ℤ = λ j. near_value (entry_at h u i j) in
      let o = near_value (offset_at h u i) in
      let e : numbers_row h u i ≡ tab f h.n 0 ++ o ∷ [] =
      map-append near_value (tab (entry_at h u i) h.n 0) (offset_at h u i ∷ []) ∙ rw (map-tab near_value (entry_at h u i) h.n 0) refl in
      rw e (row-pass h.n f o (λ j l. entry-few h s.fit u i j a b l) (offset-few h s.fit u i a b) rest vs p)

  rows_pass : Passes (times (made_modes h * h.n) (row h.n) end) (rows h)
  unfolding Q.Passes
  rows_pass =
      rw (times-times (row h.n) (made_modes h) h.n end, ← append-nil (rows h))
      (times-each Passes (times h.n (row h.n)) (mode_rows h) (made_modes h) 0 end []
      (λ u a b rest vs p. times-each Passes (row h.n) (numbers_row h u) h.n 0 rest vs (λ i c d. one-pass u i (omega arith) (omega arith)) p) refl)

  made-pass : Passes plant_form (made_values h)
  unfolding P.plant_form P.modes_alike
  made-pass =
      let r = s.ranges in
      let few = emitters h h.n in
      rw (made-groups h)
      (headed-passes plant_forms most_modes plant_body 1 h.n (made_modes h) h.q h.k h.d _ (omega arith) (omega arith) (omega arith) (omega arith) r.n-low r.n-high (pow_pos few) modes-few
      r.q-low r.q-high r.k-low r.k-high r.d-high r.nd-high
      (edges-pass h.n r.root r.safe _ _ (bands-pass h.n low high ends-bounded _ (rows h) rows_pass)))

  -- ---- R within S, and each band wide enough

  -- the sides of the plant, by the columns of its numbers
  sides-made : (lo hi : List ℤ) (f g : ℕ → ℤ) → ((i : ℕ) → i < h.n → at lo i ≡ f i) → ((i : ℕ) → i < h.n → at hi i ≡ g i)
      → sides_of h.n lo hi ≡ tab (λ i. side (f i) (g i)) h.n 0
  sides-made lo hi f g p q = tab-same (side_at lo hi) (λ i. side (f i) (g i)) h.n 0 (λ i a b. rw (p i (omega arith), q i (omega arith)) refl)

  edge-is : (j i : ℕ) → j < 4 → i < h.n → at (column (made_values h) (6 + j) 4 h.n) i ≡ at (edges h i) j
  edge-is j i l k = rw (edge-made h j l) (padded-at (λ i. at (edges h i) j) 4 h.n i k)

  pub root-made : root_of (made_plant h) ≡ root_sheet h
  unfolding P.plant_of S.made_numbers
  root-made = sides-made (column (made_values h) 6 4 h.n) (column (made_values h) 7 4 h.n) (at h.rlo) (at h.rhi) (λ i l. edge-is 0 i (omega arith) l) (λ i l. edge-is 1 i (omega arith) l)

  pub safe-made : safe_of (made_plant h) ≡ safe_sheet h
  unfolding P.plant_of S.made_numbers
  safe-made = sides-made (column (made_values h) 8 4 h.n) (column (made_values h) 9 4 h.n) (at h.slo) (at h.shi) (λ i l. edge-is 2 i (omega arith) l) (λ i l. edge-is 3 i (omega arith) l)

  widely : ℕ → Side
  widely i = side (at h.wlo i -ℤ pos (widening h)) (at h.whi i +ℤ pos (widening h))

  -- of form 1, and each mode has the sheet's bands, made wider
  pub form-made : (made_plant h).form ≡ 1
  unfolding P.plant_of S.made_numbers
  form-made = refl

  pub bands-made : (u : ℕ) → u < made_modes h → bands_of (made_plant h) u ≡ tab (λ i. side (at h.wlo i -ℤ pos (widening h)) (at h.whi i +ℤ pos (widening h))) h.n 0
  unfolding P.plant_of S.made_numbers
  bands-made u a = tab-same (band_side h.n (made_plant h).bands u) _ h.n 0 (λ i x y. rw (low i (omega arith), high i (omega arith)) refl)
    where
      low : (i : ℕ) → i < h.n → at (made_plant h).bands (band_start h.n u i) ≡ at h.wlo i -ℤ pos (widening h)
      low i l = end-made h u i 0 (band_start h.n u i) a l (omega arith) (omega arith) ∙ low-is h s.fit i l

      high : (i : ℕ) → i < h.n → at (made_plant h).bands (band_start h.n u i + 1) ≡ at h.whi i +ℤ pos (widening h)
      high i l = end-made h u i 1 (band_start h.n u i + 1) a l (omega arith) refl ∙ high_is h s.fit i l

  wide_enough : (i : ℕ) → i < h.n → wide h.q (widely i) ≡ true
  unfolding widely
  wide_enough i l =
      let w = pos (widening h) in
      let lo = at h.wlo i in
      let hi = at h.whi i in
      let k = s.wide i l in
      let g : (pos h.q -ℤ pos 1) ≤ℤ (hi +ℤ w -ℤ (lo -ℤ w)) = omega (zarith, k, sub hi lo, sub lo w, add hi w, sub (hi +ℤ w) (lo -ℤ w)) in
      true-le_z g

  bands-wide : (u : ℕ) → u < made_modes h → all (map (wide h.q) (bands_of (made_plant h) u)) ≡ true
  unfolding widely
  bands-wide u a = rw (bands-made u a, map-tab (wide h.q) widely h.n 0) (tab-holds (λ i. wide h.q (widely i)) h.n 0 (λ i a b. wide_enough i (omega arith)))

  -- ---- so the plant's reader takes it, and its numbers are just these

  pub made-judged : plant_judged (file_of plant_form (made_values h)) ≡ good (made_plant h)
  unfolding P.plant_judged P.plant_of S.made_numbers
  made-judged =
      let p = made_plant h in
      ap plant_related (passes-read plant_form (made_values h) made-pass)
      ∙ related-holds h.q (root_of p) (safe_of p) (tab (bands_of p) (made_modes h) 0) _ (rw (root-made, safe-made) s.root-safe)
      ∙ modes-pass h.q _ (bands_of p) (made_modes h) 0 (λ u a. rw zero-add (bands-wide u a))

  pub made-numbers : numbers_of (made_plant h) ≡ made_values h
  made-numbers = let f = file_of plant_form (made_values h) in (plant-read f (file-writes plant_form f (passes-read plant_form (made_values h) made-pass)).0).1

-- ---- from the sheet's file

-- document 01's plant of a sheet
pub plant-taken : (s : List ℕ) (h : Sheet) → sheet_judged s ≡ good h → plant_judged (file_of plant_form (made_values h)) ≡ good (made_plant h)
plant-taken s h e = made-judged h (judged-sound s h e)

-- what sheet to plant leaves is what the writer of that plant leaves; or the sheet's refusal
pub made-left : (s : List ℕ) (h : Sheet) → sheet_judged s ≡ good h → (buf : List ℕ) → made_left s buf ≡ plant_left (made_plant h) buf
unfolding S.made_left P.plant_left
made-left s h e buf =
    let k = judged-sound s h e in
    let bytes = file_of plant_form (made_values h) in
    let there : made_left s buf ≡ left (good bytes) buf = ap (λ (j : Judged Sheet). left (plant_file_made j) buf) e in
    let here : plant_left (made_plant h) buf ≡ left (good bytes) buf =
    ap (λ (vs : List ℤ). let b = file_of plant_form vs in left (file_judged b (plant_judged b)) buf) (made-numbers h k) ∙ rw (made-judged h k) refl in
    there ∙ sym here

pub made-refused : (s : List ℕ) (r : Refusal) → sheet_judged s ≡ bad r → (buf : List ℕ) → made_left s buf ≡ refused_with r buf
unfolding S.made_left
made-refused s r e buf = ap (λ (j : Judged Sheet). left (plant_file_made j) buf) e
