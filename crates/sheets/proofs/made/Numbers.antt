-- The numbers of the made plant are those of the definition, and the first that is out is told as the definition tells it. Relies on page Laws, and on promises' page SheetNumbers.
use Rattle.std.specs.Prelude.{Some, Ok, Err, Result}
use Prim.Native.Nat.{ℕ, ◌+◌, ◌*◌, ◌<◌}
use mathlib.Core.Path.{◌≡◌, refl, sym, ap, ◌∙◌}
use mathlib.Core.Bool.{true}
use mathlib.Core.List.{List, [], ◌∷◌, ◌++◌, map, map-append}
use native.Mathlib.Omega.{arith}
use native.Mathlib.Nat.{zero-add}
use lib.ListN.{length, length-map}
use lib.IntN.{ℤ, pos}
use Rattle.laws.specs.Lists.{at, tab, tabs, all}
use Rattle.laws.specs.Columns.{tabs-tab}
use Rattle.laws.specs.Tabs.{length-tabs, map-tab, map-tabs, tab-same, padded-at}
use Rattle.meaning.specs.Answers.{Whole}
use Rattle.meaning.specs.declared.Refusal.{Refusal}
use Rattle.meaning.specs.declared.Sheet.{Sheet}
use Rattle.meaning.specs.Plants.{coef_count, edges_of, band_numbers, row_numbers, numbers_of}
use Rattle.meaning.specs.Sheets.{sheet_edges, made_band, made_modes, made_numbers, is_near, near_value}
use Rattle.promises.specs.Sheets.SheetNumbers.{map-values}
use Rattle.sheets.specs.Sizes.{Sized}
use Rattle.sheets.specs.Wholes.{all_near, held}
use Rattle.sheets.specs.Bands.{end_at, most_ends, bands_of}
use Rattle.sheets.specs.declared.made.Made.{Made}
use Rattle.sheets.specs.Made.{most_entries, entry_at, held_outline, held_ends, held_coef, held_plant, held_made, entries_of, made_of}
use Rattle.sheets.proofs.wholes.Counts.{near-behind, near-more, near-stops, near-same, near-fits, near-holds}
use Rattle.sheets.proofs.bands.Laws.{low-at, high-at}
use Rattle.sheets.proofs.made.Laws.{rows_are}

-- numbers that are taken over as they are are all near
near-all : (l : List ℤ) → all (map is_near (map Some l)) ≡ true
unfolding all
near-all [] = refl
near-all (v ∷ l) = near-all l

module _ (h : Sheet) (s : Sized h) where
  abbrev head : List Whole
  head = map (λ v. Some (pos v)) (1 ∷ h.n ∷ made_modes h ∷ h.q ∷ h.k ∷ h.d ∷ [])

  abbrev edges : List Whole
  edges = map Some (sheet_edges h)

  abbrev bands : List Whole
  bands = tabs (made_band h) h.n 0

  abbrev count : ℕ
  count = coef_count (made_modes h) h.n

  abbrev entries : List Whole
  entries = tab (entry_at h) count 0

  numbers-are : made_numbers h ≡ head ++ (edges ++ (bands ++ entries))
  unfolding made_numbers
  numbers-are = rw (rows_are h s.some (made_modes h)) refl

  -- ---- the values

  abbrev ends : List ℤ
  ends = held most_ends (end_at h) (2 * h.n)

  bands-held : map near_value bands ≡ band_numbers h.n ends 0
  unfolding tab
  bands-held =
      let z : 2 * h.n * 0 ≡ 0 = omega arith in
      map-tabs near_value (made_band h) h.n 0
      ∙ tabs-tab (at ends) (λ i. map near_value (made_band h i)) 2 0 h.n band
      ∙ ap (tab (at ends) (2 * h.n)) (sym z)
    where
      end-at : (p : ℕ) → p < 2 * h.n → at ends p ≡ near_value (end_at h p)
      end-at p l = padded-at (λ k. near_value (end_at h k)) most_ends (2 * h.n) p l

      band : (i : ℕ) → i < h.n → map near_value (made_band h i) ≡ tab (at ends) 2 (0 + 2 * i)
      band i l =
          let z : 0 + 2 * i ≡ 2 * i = omega arith in
          rw (z, end-at (2 * i) (omega arith), end-at (2 * i + 1) (omega arith), low-at h i, high-at h i) refl

  abbrev coef : List ℤ
  coef = held most_entries (entry_at h) count

  entries-held : map near_value entries ≡ tabs (row_numbers h.n coef) (made_modes h) 0
  entries-held =
      let size : coef_count (made_modes h) h.n ≡ h.n * (h.n + 1) * made_modes h = omega arith in
      map-tab near_value (entry_at h) count 0
      ∙ tab-same (λ k. near_value (entry_at h k)) (at coef) count 0 (λ k a b. sym (padded-at (λ i. near_value (entry_at h i)) most_entries count k (omega arith)))
      ∙ ap (λ (c : ℕ). tab (at coef) c 0) size
      ∙ sym (tabs-tab (at coef) (row_numbers h.n coef) (h.n * (h.n + 1)) 0 (made_modes h)
      (λ u _. let z : 0 + h.n * (h.n + 1) * u ≡ h.n * (h.n + 1) * u = zero-add _ in rw z refl))

  pub made-numbers : numbers_of (held_plant h) ≡ map near_value (made_numbers h)
  unfolding numbers_of
  made-numbers =
      sym (ap (map near_value) numbers-are
      ∙ map-append near_value head (edges ++ (bands ++ entries))
      ∙ rw (map-append near_value edges (bands ++ entries), map-append near_value bands entries, map-values (sheet_edges h), bands-held, entries-held) refl)

  -- ---- told part by part: those in front of the bands fit

  edges-long : length edges ≡ 4 * h.n
  edges-long = length-map (sheet_edges h) Some ∙ length-tabs (edges_of h.rlo h.rhi h.slo h.shi) 4 (λ k. refl) h.n 0

  bands-long : length bands ≡ 2 * h.n
  bands-long = length-tabs (made_band h) 2 (λ k. refl) h.n 0

  front-fits : made_of h ≡ all_near (6 + 4 * h.n) (bands ++ entries) (held_made h)
  unfolding all
  front-fits =
      ap (λ (ws : List Whole). all_near 0 ws (held_made h)) numbers-are
      ∙ near-behind 0 head (edges ++ (bands ++ entries)) (held_made h) refl
      ∙ near-behind 6 edges (bands ++ entries) (held_made h) (near-all (sheet_edges h))
      ∙ ap (λ (k : ℕ). all_near (6 + k) (bands ++ entries) (held_made h)) edges-long

  pub bands-stop : (e : Refusal) → bands_of h (6 + 4 * h.n) ≡ Err e → made_of h ≡ Err e
  bands-stop e q = front-fits ∙ near-stops (6 + 4 * h.n) bands entries (held_made h) (held_ends h) e q

  module _ (ends' : List ℤ) (q : bands_of h (6 + 4 * h.n) ≡ Ok ends') where
    bands-fit : made_of h ≡ all_near (6 + 4 * h.n + 2 * h.n) entries (held_made h)
    bands-fit =
        front-fits ∙ near-more (6 + 4 * h.n) bands entries (held_made h) (held_ends h) ends' q
        ∙ ap (λ (k : ℕ). all_near (6 + 4 * h.n + k) entries (held_made h)) bands-long

    pub entries-stop : (e : Refusal) → entries_of h (6 + 4 * h.n + 2 * h.n) count ≡ Err e → made_of h ≡ Err e
    entries-stop e g = bands-fit ∙ near-same (6 + 4 * h.n + 2 * h.n) entries (held_made h) (held_coef h) e g

    module _ (coef' : List ℤ) (g : entries_of h (6 + 4 * h.n + 2 * h.n) count ≡ Ok coef') where
      pub made-is : ◌≡◌ {A = Result Made Refusal} (Ok (record { outline = held_outline h; ends = ends' })) (made_of h)
      made-is =
          rw (near-holds (6 + 4 * h.n) bands (held_ends h) ends' q)
          (sym (bands-fit ∙ near-fits (6 + 4 * h.n + 2 * h.n) entries (held_made h) (held_coef h) coef' g))

      pub coef-is : coef' ≡ held_coef h
      coef-is = near-holds (6 + 4 * h.n + 2 * h.n) entries (held_coef h) coef' g
