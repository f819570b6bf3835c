-- S2 for plants, the values: a plant is what its file's numbers say. Relies on page Bodies; the other way is page PlantShapes.
use Rattle.std.specs.Prelude.{ℕ, ◌+◌, ◌*◌, ◌≤◌, ◌<◌, ◌≡◌, Bool, ℤ, pos}
use Rattle.std.proofs.Math.Path.{refl, ap}
use Rattle.std.proofs.Common.{sym, ◌∙◌, length-append}
use Rattle.std.proofs.Math.Bool.{true, false, cond}
use mathlib.Core.List.{List, [], ◌∷◌, ◌++◌}
use native.Mathlib.Omega.{arith}
use Rattle.std.proofs.Math.Nat.{zero-add}
use Rattle.std.proofs.Math.ListN.{length, get_or-append}
use Rattle.std.proofs.Math.Seq.{get_or-append-add}
use Rattle.laws.specs.Columns.{tabs-tab, tab-at, tab-moved}
use Rattle.laws.specs.Lists.{at, tab, tabs}
use Rattle.laws.specs.Tabs.{length-tab, get_d-tab, get_d-tabs, Filled}
use Rattle.meaning.specs.Plants.{Plant, own_bands, edges_of, column, coef_count, band_count, mode_size, bands_at, rows_at, band_numbers, row_numbers, modes_numbers, plant_of, numbers_of}
use Rattle.promises.specs.Files.Bodies.{edge_same, behind-at}

-- a plant whose edges are zeros beyond n rooms, whose bands and coefficients are those of N modes, in form 1 the bands of mode 0 for each: what a reader makes
pub record Tidy (p : Plant) : Type 0 where
  pub rooms : p.n ≤ 4
  pub rlo-filled : Filled 4 p.n p.rlo
  pub rhi-filled : Filled 4 p.n p.rhi
  pub slo-filled : Filled 4 p.n p.slo
  pub shi-filled : Filled 4 p.n p.shi
  pub bands-long : length p.bands ≡ band_count p.modes p.n
  pub coef-long : length p.coef ≡ coef_count p.modes p.n
  pub alike : own_bands p.form ≡ false → (u : ℕ) → u < p.modes → band_numbers p.n p.bands 0 ≡ band_numbers p.n p.bands u

-- ---- the numbers of a mode among those of all

module _ (n modes : ℕ) (bands coef : List ℤ) where
  one : ℕ → List ℤ
  one u = band_numbers n bands u ++ row_numbers n coef u

  bands-long : (u : ℕ) → length (band_numbers n bands u) ≡ 2 * n
  bands-long u = length-tab (at bands) (2 * n) (2 * n * u)

  rows_long : (u : ℕ) → length (row_numbers n coef u) ≡ n * (n + 1)
  rows_long u = length-tab (at coef) (n * (n + 1)) (n * (n + 1) * u)

  pub mode-long : (u : ℕ) → length (band_numbers n bands u ++ row_numbers n coef u) ≡ mode_size n
  mode-long u = length-append (band_numbers n bands u) (row_numbers n coef u) ∙ rw (bands-long u, rows_long u) refl

  -- where the bands of mode u begin among the numbers of the modes, and its rows
  band-at : (own : Bool) → (own ≡ false → (u : ℕ) → u < modes → band_numbers n bands 0 ≡ band_numbers n bands u) → (u k : ℕ) → u < modes → k < 2 * n
      → at (cond own (tabs one modes 0) (band_numbers n bands 0 ++ tabs (row_numbers n coef) modes 0)) (cond own (mode_size n * u) 0 + k) ≡ at bands (2 * n * u + k)
  unfolding one
  band-at true alike u k h l =
      get_d-tabs one (mode_size n) mode-long (pos 0) modes 0 u k h (omega arith) ∙ ap (λ (c : ℕ). at (one c) k) (zero-add u)
      ∙ get_or-append (band_numbers n bands u) (row_numbers n coef u) (pos 0) k (omega (arith, bands-long u))
      ∙ get_d-tab (at bands) (pos 0) (2 * n) (2 * n * u) k l
  band-at false alike u k h l =
      let z : 0 + k ≡ k = zero-add k in
      rw z (get_or-append (band_numbers n bands 0) (tabs (row_numbers n coef) modes 0) (pos 0) k (omega (arith, bands-long 0)))
      ∙ ap (λ (t : List ℤ). at t k) (alike refl u h) ∙ get_d-tab (at bands) (pos 0) (2 * n) (2 * n * u) k l

  row_at : (own : Bool) (u k : ℕ) → u < modes → k < n * (n + 1)
      → at (cond own (tabs one modes 0) (band_numbers n bands 0 ++ tabs (row_numbers n coef) modes 0)) (2 * n + (cond own (mode_size n * u) (n * (n + 1) * u) + k))
      ≡ at coef (n * (n + 1) * u + k)
  unfolding one
  row_at true u k h l =
      let e : 2 * n + (mode_size n * u + k) ≡ mode_size n * u + (2 * n + k) = omega arith in
      rw e (get_d-tabs one (mode_size n) mode-long (pos 0) modes 0 u (2 * n + k) h (omega arith)) ∙ ap (λ (c : ℕ). at (one c) (2 * n + k)) (zero-add u)
      ∙ ap (λ (c : ℕ). at (one u) (c + k)) (sym (bands-long u)) ∙ get_or-append-add (band_numbers n bands u) (row_numbers n coef u) k (pos 0)
      ∙ get_d-tab (at coef) (pos 0) (n * (n + 1)) (n * (n + 1) * u) k l
  row_at false u k h l =
      ap (λ (c : ℕ). at (band_numbers n bands 0 ++ tabs (row_numbers n coef) modes 0) (c + (n * (n + 1) * u + k))) (sym (bands-long 0))
      ∙ get_or-append-add (band_numbers n bands 0) (tabs (row_numbers n coef) modes 0) (n * (n + 1) * u + k) (pos 0)
      ∙ get_d-tabs (row_numbers n coef) (n * (n + 1)) rows_long (pos 0) modes 0 u k h l ∙ ap (λ (c : ℕ). at (row_numbers n coef c) k) (zero-add u)
      ∙ get_d-tab (at coef) (pos 0) (n * (n + 1)) (n * (n + 1) * u) k l

-- two plants of the same fields
same : (form n modes q k d : ℕ) {rlo rhi slo shi bands coef rlo' rhi' slo' shi' bands' coef' : List ℤ}
    → rlo ≡ rlo' → rhi ≡ rhi' → slo ≡ slo' → shi ≡ shi' → bands ≡ bands' → coef ≡ coef'
    → ◌≡◌ {A = Plant}
    (record { form = form; n = n; modes = modes; q = q; k = k; d = d; rlo = rlo; rhi = rhi; slo = slo; shi = shi; bands = bands; coef = coef })
    (record { form = form; n = n; modes = modes; q = q; k = k; d = d; rlo = rlo'; rhi = rhi'; slo = slo'; shi = shi'; bands = bands'; coef = coef' })
same form n modes q k d e₀ e₁ e₂ e₃ e₄ e₅ = rw (e₀, e₁, e₂, e₃, e₄, e₅) refl

module _ (p : Plant) (t : Tidy p) where
  n : ℕ
  n = p.n

  front : List ℤ
  front = pos p.form ∷ pos n ∷ pos p.modes ∷ pos p.q ∷ pos p.k ∷ pos p.d ∷ []

  edges : ℕ → List ℤ
  edges = edges_of p.rlo p.rhi p.slo p.shi

  modes : List ℤ
  modes = modes_numbers p.form n p.modes p.bands p.coef

  -- an array is the column that it was taken from
  edges-same : (j : ℕ) → j < 4 → (l : List ℤ) → Filled 4 n l → ((i : ℕ) → at (edges i) j ≡ at l i) → column (numbers_of p) (6 + j) 4 n ≡ l
  unfolding numbers_of n front edges modes
  edges-same = edge_same front refl n edges (λ i. refl) modes t.rooms

  bands-same : tabs (λ u. tab (at (numbers_of p)) (2 * n) (bands_at p.form n u)) p.modes 0 ≡ p.bands
  unfolding numbers_of n front edges modes one
  bands-same =
      let e : 2 * n * p.modes ≡ length p.bands = omega (arith, t.bands-long) in
      tabs-tab (at p.bands) (λ u. tab (at (numbers_of p)) (2 * n) (bands_at p.form n u)) (2 * n) 0 p.modes
      (λ u h. let z : 0 + 2 * n * u ≡ 2 * n * u = zero-add (2 * n * u) in
      rw z (tab-moved (at (numbers_of p)) (at p.bands) (2 * n) (bands_at p.form n u) (2 * n * u) (λ k l. here u k h l)))
      ∙ ap (λ (c : ℕ). tab (at p.bands) c 0) e ∙ tab-at p.bands
    where
      here : (u k : ℕ) → u < p.modes → k < 2 * n → at (numbers_of p) (bands_at p.form n u + k) ≡ at p.bands (2 * n * u + k)
      here u k h l =
          let c = cond (own_bands p.form) (mode_size n * u) 0 in
          let e : 6 + 4 * n + c + k ≡ 6 + 4 * n + (c + k) = omega arith in
          ap (at (numbers_of p)) e ∙ behind-at front refl n edges (λ i. refl) modes (c + k)
          ∙ band-at n p.modes p.bands p.coef (own_bands p.form) t.alike u k h l

  coef-same : tabs (λ u. tab (at (numbers_of p)) (n * (n + 1)) (rows_at p.form n u)) p.modes 0 ≡ p.coef
  unfolding numbers_of n front edges modes one
  coef-same =
      let e : n * (n + 1) * p.modes ≡ length p.coef = omega (arith, t.coef-long) in
      tabs-tab (at p.coef) (λ u. tab (at (numbers_of p)) (n * (n + 1)) (rows_at p.form n u)) (n * (n + 1)) 0 p.modes
      (λ u h. let z : 0 + n * (n + 1) * u ≡ n * (n + 1) * u = zero-add (n * (n + 1) * u) in
      rw z (tab-moved (at (numbers_of p)) (at p.coef) (n * (n + 1)) (rows_at p.form n u) (n * (n + 1) * u) (λ k l. here u k h l)))
      ∙ ap (λ (c : ℕ). tab (at p.coef) c 0) e ∙ tab-at p.coef
    where
      here : (u k : ℕ) → u < p.modes → k < n * (n + 1) → at (numbers_of p) (rows_at p.form n u + k) ≡ at p.coef (n * (n + 1) * u + k)
      here u k h l =
          let c = cond (own_bands p.form) (mode_size n * u) (n * (n + 1) * u) in
          let e : 6 + 6 * n + c + k ≡ 6 + 4 * n + (2 * n + (c + k)) = omega arith in
          ap (at (numbers_of p)) e ∙ behind-at front refl n edges (λ i. refl) modes (2 * n + (c + k))
          ∙ row_at n p.modes p.bands p.coef (own_bands p.form) u k h l

  -- reading a written plant's values gives the plant
  pub plant-back : plant_of (numbers_of p) ≡ p
  unfolding plant_of numbers_of n edges
  plant-back =
      same p.form p.n p.modes p.q p.k p.d
      (edges-same 0 (omega arith) p.rlo t.rlo-filled (λ i. refl))
      (edges-same 1 (omega arith) p.rhi t.rhi-filled (λ i. refl))
      (edges-same 2 (omega arith) p.slo t.slo-filled (λ i. refl))
      (edges-same 3 (omega arith) p.shi t.shi-filled (λ i. refl))
      bands-same
      coef-same
