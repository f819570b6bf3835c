-- The values of plant and sheet files by their places (document 01, "Plant file", "The sheet"): six of the header; for each dimension four edges; for
-- each dimension the two ends of its band; and the rest. Values put together are found at their places; and taken out
-- into arrays they are put together again. Assumes nothing.
use Rattle.std.specs.Prelude.{ℕ, ◌+◌, ◌*◌, ◌≤◌, ◌<◌, ◌≡◌, length, ℤ, pos}
use Rattle.std.proofs.Math.Path.{refl, ap}
use Rattle.std.proofs.Common.{sym, ◌∙◌, zero-add, length-append}
use mathlib.Core.List.{List, [], ◌∷◌, ◌++◌, append_assoc}
use native.Mathlib.Omega.{arith}
use Rattle.std.proofs.Math.ListN.{drop, get_or-append}
use Rattle.std.proofs.Math.Seq.{get_or-append-add, drop-append_seam}
use Rattle.laws.specs.Columns.{tabs-tab, tab-drop}
use Rattle.laws.specs.Lists as L
use Rattle.laws.specs.Lists.{at, tab, tabs, padded}
use Rattle.laws.specs.Tabs.{length-tabs, get_d-tabs, tab-same, padded-at, Filled, filled-padded}
use Rattle.meaning.specs.Plants.{column, edges_of, band_of}

module _ (front : List ℤ) (six : length front ≡ 6) (n : ℕ) (edges : ℕ → List ℤ) (four : (i : ℕ) → length (edges i) ≡ 4) (rest : List ℤ) where
  -- header, edges, and what is behind them
  abbrev pub edged : List ℤ
  edged = front ++ (tabs edges n 0 ++ rest)

  edges-long : length (tabs edges n 0) ≡ 4 * n
  edges-long = length-tabs edges 4 four n 0

  body_at : (k : ℕ) → at edged (6 + k) ≡ at (tabs edges n 0 ++ rest) k
  body_at k = ap (λ (c : ℕ). at edged (c + k)) (sym six) ∙ get_or-append-add front (tabs edges n 0 ++ rest) k (pos 0)

  -- the j-th edge of dimension i
  edge_at : (i j : ℕ) → i < n → j < 4 → at edged (6 + (4 * i + j)) ≡ at (edges i) j
  edge_at i j h l =
      body_at (4 * i + j)
      ∙ get_or-append (tabs edges n 0) rest (pos 0) (4 * i + j) (omega (arith, edges-long))
      ∙ get_d-tabs edges 4 four (pos 0) n 0 i j h l ∙ ap (λ (k : ℕ). at (edges k) j) (zero-add i)

  -- behind the edges
  pub behind-at : (i : ℕ) → at edged (6 + 4 * n + i) ≡ at rest i
  behind-at i =
      let e : 6 + 4 * n + i ≡ 6 + (4 * n + i) = omega arith in
      ap (at edged) e ∙ body_at (4 * n + i)
      ∙ ap (λ (k : ℕ). at (tabs edges n 0 ++ rest) (k + i)) (sym edges-long)
      ∙ get_or-append-add (tabs edges n 0) rest i (pos 0)

  -- the arrays that they are taken out into
  pub edge-column : (j : ℕ) → j < 4 → column edged (6 + j) 4 n ≡ padded 4 (pos 0) (tab (λ i. at (edges i) j) n 0)
  edge-column j h = ap (padded 4 (pos 0)) (tab-same (λ i. at edged (6 + j + 4 * i)) (λ i. at (edges i) j) n 0 (λ i a b. here i (omega arith)))
    where
      here : (i : ℕ) → i < n → at edged (6 + j + 4 * i) ≡ at (edges i) j
      here i l = let e : 6 + j + 4 * i ≡ 6 + (4 * i + j) = omega arith in ap (at edged) e ∙ edge_at i j l h

  -- which are the arrays that they came from, where these hold 0 beyond n
  pub edge_same : n ≤ 4 → (j : ℕ) → j < 4 → (l : List ℤ) → Filled 4 n l → ((i : ℕ) → at (edges i) j ≡ at l i) → column edged (6 + j) 4 n ≡ l
  edge_same few j h l f e = edge-column j h ∙ ap (padded 4 (pos 0)) (tab-same (λ i. at (edges i) j) (at l) n 0 (λ i a b. e i)) ∙ filled-padded f few

-- the same with one band for each dimension behind the edges, as a sheet has it
module _ (front : List ℤ) (six : length front ≡ 6) (n : ℕ) (edges bands : ℕ → List ℤ)
    (four : (i : ℕ) → length (edges i) ≡ 4) (two : (i : ℕ) → length (bands i) ≡ 2) (rest : List ℤ) where
  abbrev pub filed : List ℤ
  filed = edged front six n edges four (tabs bands n 0 ++ rest)

  bands-long : length (tabs bands n 0) ≡ 2 * n
  bands-long = length-tabs bands 2 two n 0

  -- the j-th end of the band of dimension i
  pub band-at : (i j : ℕ) → i < n → j < 2 → at filed (6 + 4 * n + (2 * i + j)) ≡ at (bands i) j
  band-at i j h l =
      behind-at front six n edges four (tabs bands n 0 ++ rest) (2 * i + j)
      ∙ get_or-append (tabs bands n 0) rest (pos 0) (2 * i + j) (omega (arith, bands-long))
      ∙ get_d-tabs bands 2 two (pos 0) n 0 i j h l ∙ ap (λ (k : ℕ). at (bands k) j) (zero-add i)

  band-column : (j : ℕ) → j < 2 → column filed (6 + j + 4 * n) 2 n ≡ padded 4 (pos 0) (tab (λ i. at (bands i) j) n 0)
  band-column j h = ap (padded 4 (pos 0)) (tab-same (λ i. at filed (6 + j + 4 * n + 2 * i)) (λ i. at (bands i) j) n 0 (λ i a b. here i (omega arith)))
    where
      here : (i : ℕ) → i < n → at filed (6 + j + 4 * n + 2 * i) ≡ at (bands i) j
      here i l = let e : 6 + j + 4 * n + 2 * i ≡ 6 + 4 * n + (2 * i + j) = omega arith in ap (at filed) e ∙ band-at i j l h

  pub band-same : n ≤ 4 → (j : ℕ) → j < 2 → (l : List ℤ) → Filled 4 n l → ((i : ℕ) → at (bands i) j ≡ at l i) → column filed (6 + j + 4 * n) 2 n ≡ l
  band-same few j h l f e = band-column j h ∙ ap (padded 4 (pos 0)) (tab-same (λ i. at (bands i) j) (at l) n 0 (λ i a b. e i)) ∙ filled-padded f few

  -- and the rest
  pub rest_at : (i : ℕ) → at filed (6 + 6 * n + i) ≡ at rest i
  rest_at i =
      let e : 6 + 6 * n + i ≡ 6 + 4 * n + (2 * n + i) = omega arith in
      ap (at filed) e ∙ behind-at front six n edges four (tabs bands n 0 ++ rest) (2 * n + i)
      ∙ ap (λ (k : ℕ). at (tabs bands n 0 ++ rest) (k + i)) (sym bands-long)
      ∙ get_or-append-add (tabs bands n 0) rest i (pos 0)

  pub rest-drop : drop (6 + 6 * n) filed ≡ rest
  rest-drop =
      let all = front ++ (tabs edges n 0 ++ tabs bands n 0) in
      let f = length-tabs edges 4 four n 0 in
      let e : 6 + 6 * n ≡ length all = omega (arith, six, length-append front (tabs edges n 0 ++ tabs bands n 0), length-append (tabs edges n 0) (tabs bands n 0), bands-long) in
      let q : filed ≡ all ++ rest =
      ap (λ (t : List ℤ). front ++ t) (sym (append_assoc (tabs edges n 0) (tabs bands n 0) rest))
      ∙ sym (append_assoc front (tabs edges n 0 ++ tabs bands n 0) rest) in
      rw (q, e) (drop-append_seam all rest)

-- ---- taken out of a body and put together again

module _ (front : List ℤ) (six : length front ≡ 6) (body : List ℤ) (n : ℕ) where
  columns : ℕ → ℕ → List ℤ
  columns first by = column (front ++ body) first by n

  column-at : (first by i j : ℕ) → i < n → first + by * i ≡ 6 + j → at (columns first by) i ≡ at body j
  unfolding columns
  column-at first by i j h e =
      padded-at (λ i. at (front ++ body) (first + by * i)) 4 n i h
      ∙ ap (at (front ++ body)) (e ∙ ap (λ (c : ℕ). c + j) (sym six)) ∙ get_or-append-add front body j (pos 0)

  edges-back : tabs (edges_of (columns 6 4) (columns 7 4) (columns 8 4) (columns 9 4)) n 0 ≡ tab (at body) (4 * n) 0
  unfolding L.tab
  edges-back = tabs-tab (at body) (edges_of (columns 6 4) (columns 7 4) (columns 8 4) (columns 9 4)) 4 0 n (λ i h. here i h (0 + 4 * i) (omega arith))
    where
      here : (i : ℕ) → i < n → (j : ℕ) → j ≡ 4 * i
          → edges_of (columns 6 4) (columns 7 4) (columns 8 4) (columns 9 4) i ≡ at body j ∷ at body (j + 1) ∷ at body (j + 1 + 1) ∷ at body (j + 1 + 1 + 1) ∷ []
      here i h j e =
          rw (column-at 6 4 i j h (omega arith), column-at 7 4 i (j + 1) h (omega arith), column-at 8 4 i (j + 1 + 1) h (omega arith), column-at 9 4 i (j + 1 + 1 + 1) h (omega arith))
          refl

  -- the edges alone
  pub edges-taken : tabs (edges_of (column (front ++ body) 6 4 n) (column (front ++ body) 7 4 n) (column (front ++ body) 8 4 n) (column (front ++ body) 9 4 n)) n 0 ≡ tab (at body) (4 * n) 0
  unfolding columns
  edges-taken = edges-back

  bands-back : tabs (band_of (columns (6 + 4 * n) 2) (columns (7 + 4 * n) 2)) n 0 ≡ tab (at body) (2 * n) (4 * n)
  unfolding L.tab
  bands-back = tabs-tab (at body) (band_of (columns (6 + 4 * n) 2) (columns (7 + 4 * n) 2)) 2 (4 * n) n (λ i h. here i h (4 * n + 2 * i) refl)
    where
      here : (i : ℕ) → i < n → (j : ℕ) → j ≡ 4 * n + 2 * i → band_of (columns (6 + 4 * n) 2) (columns (7 + 4 * n) 2) i ≡ at body j ∷ at body (j + 1) ∷ []
      here i h j e = rw (column-at (6 + 4 * n) 2 i j h (omega arith), column-at (7 + 4 * n) 2 i (j + 1) h (omega arith)) refl

  -- edges, bands and the rest one behind another
  pub body_back : 6 * n ≤ length body
      → tabs (edges_of (column (front ++ body) 6 4 n) (column (front ++ body) 7 4 n) (column (front ++ body) 8 4 n) (column (front ++ body) 9 4 n)) n 0
      ++ (tabs (band_of (column (front ++ body) (6 + 4 * n) 2 n) (column (front ++ body) (7 + 4 * n) 2 n)) n 0 ++ drop (6 * n) body) ≡ body
  unfolding columns
  body_back h =
      let a : 6 * n ≡ 4 * n + 2 * n = omega arith in
      let b : 4 * n ≡ 0 + 4 * n = omega arith in
      rw (edges-back, bands-back, a) (rw (tab-drop body (2 * n) (4 * n) (omega arith)) (ap (λ (c : ℕ). tab (at body) (4 * n) 0 ++ drop c body) b ∙ tab-drop body (4 * n) 0 (omega arith)))
