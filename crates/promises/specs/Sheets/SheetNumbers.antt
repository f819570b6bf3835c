-- The plant made of a sheet, by its parts: its arrays are the sheet's edges and the rounded and widened numbers, each at its place.
-- Relies on page Bodies. Any sheet, also one whose numbers a plant cannot hold (0 stands for such a number).
use Rattle.std.specs.Prelude.{ℕ, suc, ◌+◌, ◌*◌, ◌≤◌, ◌<◌, length, get_or, ℤ, pos, ◌+ℤ◌, ◌-ℤ◌, Some}
use Rattle.std.proofs.Math.Path.{◌≡◌, refl, ap}
use Rattle.std.proofs.Common.{◌∙◌, le_refl, zero-add, length-append, get_or-append-add}
use mathlib.Core.List.{List, [], ◌∷◌, ◌++◌, map, map-append}
use native.Mathlib.Omega.{arith}
use Rattle.std.proofs.Math.Nat.{mul-le-mul}
use Rattle.std.proofs.lemmas.List.{length-map}
use Rattle.std.proofs.Math.ListN.{get_or-append, get_or-map}
use Rattle.laws.specs.Columns.{parted-at}
use Rattle.laws.specs.Lists.{at, tab, tabs, padded}
use Rattle.laws.specs.Tabs.{length-tab, length-tabs, get_d-tab, get_d-tabs, tab-same, tabs-same, map-tabs}
use Rattle.meaning.specs.Answers.{Whole}
use Rattle.meaning.specs.declared.Sheet.{Sheet}
use Rattle.meaning.specs.Images.{Row}
use Rattle.meaning.specs.Plants as P
use Rattle.meaning.specs.Plants.{entry_limit, offset_limit, band_limit, column, bands_at, rows_at, edges_of, plant_of, band_start, row_start, row_of}
use Rattle.meaning.specs.Sheets as S
use Rattle.meaning.specs.Sheets.{sheet_edges, coefficient, offset, whole_of, limited_to, widening, made_band, made_row, made_modes, made_numbers, near_value, made_values, made_plant}
use Rattle.promises.specs.Files.Bodies.{edge-column, band-at, rest_at}

-- numbers that are taken over as they are
pub map-values : (l : List ℤ) → map near_value (map Some l) ≡ l
map-values [] = refl
map-values (v ∷ l) = ap (λ (t : List ℤ). v ∷ t) (map-values l)

module _ (h : Sheet) where
  -- ---- the numbers in groups

  abbrev pub header : List ℤ
  header = pos 1 ∷ pos h.n ∷ pos (made_modes h) ∷ pos h.q ∷ pos h.k ∷ pos h.d ∷ []

  abbrev pub edges : ℕ → List ℤ
  edges = edges_of h.rlo h.rhi h.slo h.shi

  abbrev pub ends : ℕ → List ℤ
  ends i = map near_value (made_band h i)

  abbrev pub numbers_row : ℕ → ℕ → List ℤ
  numbers_row u i = map near_value (made_row h u i)

  abbrev pub mode_rows : ℕ → List ℤ
  mode_rows u = tabs (numbers_row u) h.n 0

  abbrev pub rows : List ℤ
  rows = tabs mode_rows (made_modes h) 0

  pub made-groups : made_values h ≡ header ++ (tabs edges h.n 0 ++ (tabs ends h.n 0 ++ rows))
  unfolding S.made_numbers
  made-groups = ap (λ (t : List ℤ). header ++ t) (step₁ ∙ ap (λ (t : List ℤ). tabs edges h.n 0 ++ t) step₂)
    where
      bands : List Whole
      bands = tabs (made_band h) h.n 0

      coefs : List Whole
      coefs = tabs (λ u. tabs (made_row h u) h.n 0) (made_modes h) 0

      step₁ : map near_value (map Some (sheet_edges h) ++ (bands ++ coefs)) ≡ sheet_edges h ++ map near_value (bands ++ coefs)
      step₁ = map-append near_value (map Some (sheet_edges h)) (bands ++ coefs) ∙ rw (map-values (sheet_edges h)) refl

      step₂ : map near_value (bands ++ coefs) ≡ tabs ends h.n 0 ++ rows
      step₂ =
          map-append near_value bands coefs
          ∙ rw (map-tabs near_value (made_band h) h.n 0, map-tabs near_value (λ u. tabs (made_row h u) h.n 0) (made_modes h) 0)
          (ap (λ (t : List ℤ). tabs ends h.n 0 ++ t)
          (tabs-same (λ u. map near_value (tabs (made_row h u) h.n 0)) mode_rows (made_modes h) 0 (λ u a b. map-tabs near_value (made_row h u) h.n 0)))

  -- ---- the arrays of edges and bands

  pub edge-made : (j : ℕ) → j < 4 → column (made_values h) (6 + j) 4 h.n ≡ padded 4 (pos 0) (tab (λ i. at (edges i) j) h.n 0)
  edge-made j l = rw made-groups (edge-column header refl h.n edges (λ i. refl) (tabs ends h.n 0 ++ rows) j l)

  -- end j of the band of dimension i, the same in each mode
  pub end-made : (u i j k : ℕ) → u < made_modes h → i < h.n → j < 2 → k ≡ band_start h.n u i + j → at (made_plant h).bands k ≡ at (ends i) j
  unfolding P.plant_of S.made_numbers
  end-made u i j k a b l e =
      let n = h.n in
      let t : k ≡ 2 * n * u + (2 * i + j) = omega arith in
      let d : 6 + 4 * n + 0 + (2 * i + j) ≡ 6 + 4 * n + (2 * i + j) = omega arith in
      ap (at (made_plant h).bands) t
      ∙ parted-at (made_values h) (2 * n) (bands_at 1 n) (made_modes h) u (2 * i + j) a (omega arith) ∙ ap (at (made_values h)) d
      ∙ rw made-groups (band-at header refl n edges ends (λ i. refl) (λ i. refl) rows i j b l)

  -- ---- the coefficients

  row-long : (u i : ℕ) → length (numbers_row u i) ≡ h.n + 1
  row-long u i =
      let es = tab (λ j. whole_of entry_limit h.q (coefficient h u i j)) h.n 0 in
      let b = whole_of offset_limit (h.q * h.r) (offset h u i) ∷ [] in
      length-map (es ++ b) near_value ∙ length-append es b ∙ ap (λ (m : ℕ). m + 1) (length-tab (λ j. whole_of entry_limit h.q (coefficient h u i j)) h.n 0)

  mode-long : (u : ℕ) → length (mode_rows u) ≡ (h.n + 1) * h.n
  mode-long u = length-tabs (numbers_row u) (h.n + 1) (row-long u) h.n 0

  -- number j of row i of mode u
  row_at : (u i j : ℕ) → u < made_modes h → i < h.n → j ≤ h.n → at rows (row_start h.n u i + j) ≡ at (numbers_row u i) j
  row_at u i j a b c =
      let n = h.n in
      let l : suc i * (n + 1) ≤ n * (n + 1) = mul-le-mul b (le_refl (n + 1)) in
      let e : row_start n u i + j ≡ (n + 1) * n * u + ((n + 1) * i + j) = omega arith in
      ap (at rows) e
      ∙ get_d-tabs mode_rows ((n + 1) * n) mode-long (pos 0) (made_modes h) 0 u ((n + 1) * i + j) a (omega arith)
      ∙ ap (λ (v : ℕ). at (mode_rows v) ((n + 1) * i + j)) (zero-add u)
      ∙ get_d-tabs (numbers_row u) (n + 1) (row-long u) (pos 0) n 0 i j b (omega arith)
      ∙ ap (λ (k : ℕ). at (numbers_row u k) j) (zero-add i)

  coef-made : (u i j : ℕ) → u < made_modes h → i < h.n → j ≤ h.n → at (made_plant h).coef (row_start h.n u i + j) ≡ at (numbers_row u i) j
  unfolding P.plant_of S.made_numbers
  coef-made u i j a b c =
      let n = h.n in
      let m = (n + 1) * i + j in
      let l : m < n * (n + 1) = omega (arith, mul-le-mul b (le_refl (n + 1))) in
      let e : row_start n u i + j ≡ n * (n + 1) * u + m = omega arith in
      let d : 6 + 6 * n + n * (n + 1) * u + m ≡ 6 + 6 * n + (row_start n u i + j) = omega arith in
      ap (at (made_plant h).coef) e
      ∙ parted-at (made_values h) (n * (n + 1)) (rows_at 1 n) (made_modes h) u m a l ∙ ap (at (made_values h)) d
      ∙ rw made-groups (rest_at header refl n edges ends (λ i. refl) (λ i. refl) rows (row_start n u i + j)) ∙ row_at u i j a b c

  -- ---- a row of the plant

  abbrev pub entry_at : ℕ → ℕ → ℕ → Whole
  entry_at u i j = whole_of entry_limit h.q (coefficient h u i j)

  abbrev pub offset_at : ℕ → ℕ → Whole
  offset_at u i = whole_of offset_limit (h.q * h.r) (offset h u i)

  entry-is : (u i j : ℕ) → j < h.n → at (numbers_row u i) j ≡ near_value (entry_at u i j)
  entry-is u i j l =
      let es = tab (entry_at u i) h.n 0 in
      get_or-map near_value (es ++ offset_at u i ∷ []) j (Some (pos 0))
      ∙ ap near_value (get_or-append es (offset_at u i ∷ []) (Some (pos 0)) j (omega (arith, length-tab (entry_at u i) h.n 0))
      ∙ get_d-tab (entry_at u i) (Some (pos 0)) h.n 0 j l ∙ ap (entry_at u i) (zero-add j))

  offset-is : (u i : ℕ) → at (numbers_row u i) h.n ≡ near_value (offset_at u i)
  offset-is u i =
      let es = tab (entry_at u i) h.n 0 in
      let e : h.n ≡ length es + 0 = omega (arith, length-tab (entry_at u i) h.n 0) in
      get_or-map near_value (es ++ offset_at u i ∷ []) h.n (Some (pos 0))
      ∙ ap near_value (ap (λ (k : ℕ). get_or (es ++ offset_at u i ∷ []) k (Some (pos 0))) e ∙ get_or-append-add es (offset_at u i ∷ []) 0 (Some (pos 0)))

  pub row_made : (u i : ℕ) → u < made_modes h → i < h.n → row_of (made_plant h) u i ≡ record {
    entries = tab (λ j. near_value (entry_at u i j)) h.n 0;
    offset = near_value (offset_at u i);
    low = near_value (limited_to band_limit (at h.wlo i -ℤ pos (widening h)));
    high = near_value (limited_to band_limit (at h.whi i +ℤ pos (widening h)));
  }
  unfolding P.plant_of S.made_numbers
  row_made u i a b =
      let n = h.n in
      let c = (made_plant h).coef in
      let e : tab (λ j. at c (row_start n u i + j)) n 0 ≡ tab (λ j. near_value (entry_at u i j)) n 0 =
      tab-same (λ j. at c (row_start n u i + j)) (λ j. near_value (entry_at u i j)) n 0 (λ j x y. coef-made u i j a b (omega arith) ∙ entry-is u i j (omega arith)) in
      same e (coef-made u i n a b (le_refl n) ∙ offset-is u i) (end-made u i 0 (band_start n u i) a b (omega arith) (omega arith)) (end-made u i 1 (band_start n u i + 1) a b (omega arith) refl)
    where
      same : {es es' : List ℤ} {b b' l l' g g' : ℤ} → es ≡ es' → b ≡ b' → l ≡ l' → g ≡ g'
          → ◌≡◌ {A = Row} (record { entries = es; offset = b; low = l; high = g }) (record { entries = es'; offset = b'; low = l'; high = g' })
      same p q r s = rw (p, q, r, s) refl
