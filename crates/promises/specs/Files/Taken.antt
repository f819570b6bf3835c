-- The other way of page Judged: the numbers of a sound plant pass the plant's form, so its file is read; so a plant's reader takes exactly the files of sound plants
-- whose arrays hold nothing beyond. Relies on pages Passing, Plants, PlantFiles and Related.
use Prim.Native.Nat.{ℕ, ◌+◌, ◌*◌, ◌<◌}
use Rattle.std.specs.Prelude.{◌≡◌, refl, Bool, cond, ◌↔◌}
use Rattle.std.proofs.Math.Path.{sym, ap}
use Rattle.std.proofs.Common.{◌∙◌}
use Rattle.std.proofs.Math.Bool.{true, false}
use mathlib.Core.List.{List, [], ◌∷◌, ◌++◌, map, append-nil, append_assoc}
use native.Mathlib.Omega.{arith}
use Rattle.std.proofs.Math.Nat.{zero-add}
use Rattle.std.proofs.Math.IntN.{ℤ}
use Rattle.laws.specs.Columns.{tab-join, tabs-tab, tab-moved}
use Rattle.laws.specs.Lists as L
use Rattle.laws.specs.Lists.{at, tab, tabs, all}
use Rattle.laws.specs.Tabs.{map-tab}
use Rattle.laws.specs.Tests.{true-le_z, tab-holds}
use Rattle.meaning.specs.Files.{Form, end, good}
use Rattle.meaning.specs.Plants as P
use Rattle.meaning.specs.Plants.{Plant, times, bands, row, plant_forms, most_modes, own_bands, mode_form, modes_own, modes_alike, plant_form, band_numbers, row_numbers, numbers_of, root_of, safe_of, band_start, band_side, bands_of, wide, plant_related, plant_judged, row_start}
use Rattle.promises.specs.Files.FormShapes.{times-each}
use Rattle.promises.specs.Files.Judged.{judged-sound}
use Rattle.promises.specs.Files.Passing as Q
use Rattle.promises.specs.Files.Passing.{Passes, passes-read, edges-pass, bands-pass, row-pass, times-times, headed-passes}
use Rattle.promises.specs.Files.PlantFiles.{plant_file, read-tidy}
use Rattle.promises.specs.Files.PlantShapes.{plant_body}
use Rattle.promises.specs.Files.Plants.{Tidy, plant-back}
use Rattle.promises.specs.Files.Related.{related-holds, modes-pass}
use Rattle.promises.specs.Files.Sound.{Sound}

module _ (p : Plant) (s : Sound p) where
  n : ℕ
  n = p.n

  -- ---- the numbers of a mode

  own-bands : (u : ℕ) → u < p.modes → (rest : Form) (vs : List ℤ) → Passes rest vs → Passes (bands n rest) (band_numbers n p.bands u ++ vs)
  unfolding n L.tab
  own-bands u m rest vs q =
      let lo : ℕ → ℤ = λ i. at p.bands (2 * n * u + 2 * i) in
      let hi : ℕ → ℤ = λ i. at p.bands (2 * n * u + 2 * i + 1) in
      let e : band_numbers n p.bands u ≡ tabs (λ i. lo i ∷ hi i ∷ []) n 0 = sym (tabs-tab (at p.bands) (λ i. lo i ∷ hi i ∷ []) 2 (2 * n * u) n (λ k l. refl)) in
      rw e (bands-pass n lo hi (λ i l. let d : 2 * n * u + 2 * i ≡ band_start n u i = omega arith in rw d (s.bands u i m l)) rest vs q)

  -- row i: its entries of A, and b_i
  entry : ℕ → ℕ → ℕ → ℤ
  entry u i j = at p.coef (row_start n u i + j)

  row_is : (u i : ℕ) → tab (entry u i) n 0 ++ entry u i n ∷ [] ≡ tab (at p.coef) (n + 1) (n * (n + 1) * u + (n + 1) * i)
  unfolding entry L.tab
  row_is u i =
      let start = n * (n + 1) * u + (n + 1) * i in
      let at-start : (k : ℕ) → entry u i k ≡ at p.coef (start + k) = λ k. (let e : row_start n u i + k ≡ start + k = omega arith in ap (at p.coef) e) in
      let front : tab (entry u i) n 0 ≡ tab (at p.coef) n start = tab-moved (entry u i) (at p.coef) n 0 start (λ k l. rw zero-add (at-start k)) in
      rw (front, at-start n) (tab-join (at p.coef) n 1 start)

  own-rows : (u : ℕ) → u < p.modes → (rest : Form) (vs : List ℤ) → Passes rest vs → Passes (times n (row n) rest) (row_numbers n p.coef u ++ vs)
  unfolding n entry
  own-rows u m rest vs q =
      let f : ℕ → List ℤ = λ i. tab (entry u i) n 0 ++ entry u i n ∷ [] in
      let c : n * (n + 1) ≡ (n + 1) * n = omega arith in
      let e : row_numbers n p.coef u ≡ tabs f n 0 =
      ap (λ (m : ℕ). tab (at p.coef) m (n * (n + 1) * u)) c ∙ sym (tabs-tab (at p.coef) f (n + 1) (n * (n + 1) * u) n (λ i l. row_is u i)) in
      rw e (times-each Passes (row n) f n 0 rest vs
      (λ i a b. row-pass n (entry u i) (entry u i n) (λ j l. s.entries u i j m (omega arith) l) (s.offsets u i m (omega arith))) q)

  -- ---- those of all modes, in either form, and the whole file

  all-modes : (own : Bool)
      → Passes (cond own (modes_own n p.modes) (modes_alike n p.modes))
      (cond own (tabs (λ u. band_numbers n p.bands u ++ row_numbers n p.coef u) p.modes 0) (band_numbers n p.bands 0 ++ tabs (row_numbers n p.coef) p.modes 0))
  unfolding P.modes_own P.modes_alike Q.Passes
  all-modes true =
      let one : ℕ → List ℤ = λ u. band_numbers n p.bands u ++ row_numbers n p.coef u in
      rw (← append-nil (tabs one p.modes 0)) (times-each Passes (mode_form n) one p.modes 0 end []
      (λ u a b rest vs q. rw (append_assoc (band_numbers n p.bands u) (row_numbers n p.coef u) vs)
      (own-bands u (omega arith) (times n (row n) rest) (row_numbers n p.coef u ++ vs) (own-rows u (omega arith) rest vs q))) refl)
  all-modes false =
      own-bands 0 (omega (arith, s.ranges.m-low)) _ _
      (rw (times-times (row n) p.modes n end, ← append-nil (tabs (row_numbers n p.coef) p.modes 0))
      (times-each Passes (times n (row n)) (row_numbers n p.coef) p.modes 0 end [] (λ u a b. own-rows u (omega arith)) refl))

  plant-passes : Passes plant_form (numbers_of p)
  unfolding n P.plant_form P.numbers_of
  plant-passes =
      let r = s.ranges in
      headed-passes plant_forms most_modes plant_body p.form n p.modes p.q p.k p.d _ (omega arith) (omega arith) s.first s.known
      r.n-low r.n-high r.m-low r.m-high r.q-low r.q-high r.k-low r.k-high r.d-high r.nd-high
      (edges-pass n r.root r.safe _ _ (all-modes (own_bands p.form)))

  all-wide : (u : ℕ) → u < p.modes → all (map (wide p.q) (bands_of p u)) ≡ true
  all-wide u m =
      rw (map-tab (wide p.q) (band_side p.n p.bands u) p.n 0)
      (tab-holds (λ i. wide p.q (band_side p.n p.bands u i)) p.n 0 (λ i a b. true-le_z (s.wide u i m (omega arith))))

  pub sound-judged : Tidy p → plant_judged (plant_file p) ≡ good p
  unfolding P.plant_judged
  sound-judged t =
      ap plant_related (passes-read plant_form (numbers_of p) plant-passes)
      ∙ rw (plant-back p t) (related-holds p.q (root_of p) (safe_of p) (tab (bands_of p) p.modes 0) _ s.root-safe
      ∙ modes-pass p.q _ (bands_of p) p.modes 0 (λ u m. rw zero-add (all-wide u m)))

-- what a plant's reader takes
pub judged-exactly : (s : List ℕ) (p : Plant) → (plant_judged s ≡ good p) ↔ (Sound p × Tidy p × (plant_file p ≡ s))
judged-exactly s p = (
  λ e. let r = read-tidy s p e in (judged-sound s p e, r.0, r.1),
  λ w. rw w.2 at (sound-judged p w.0 w.1),
)
