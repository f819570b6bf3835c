-- S2 for sheets, the values: a sheet is what its file's values say, where its floats are f64s and its arrays hold nothing beyond n rooms.
-- Relies on pages Bodies and SheetRooms; the other way is page SheetShapes.
use Rattle.std.specs.Prelude.{ℕ, zero, suc, ◌+◌, ◌*◌, ◌≤◌, ◌<◌, ◌≡◌, ℤ, pos, Float}
use Rattle.std.proofs.Math.Path.{refl, sym, ap}
use Rattle.std.proofs.Common.{◌∙◌, drop-drop}
use mathlib.Core.List.{List, [], ◌∷◌, ◌++◌}
use native.Mathlib.Omega.{arith}
use Rattle.std.proofs.Math.ListN.{drop}
use Rattle.laws.specs.Lists as L
use Rattle.laws.specs.Lists.{at, tab, tabs, padded}
use Rattle.laws.specs.Tabs.{Filled, FilledBy, filling-padded}
use Rattle.meaning.specs.declared.Room.{Room}
use Rattle.meaning.specs.declared.Sheet.{Sheet}
use Rattle.meaning.specs.Plants.{edges_of, band_of, column}
use Rattle.meaning.specs.Sheets as S
use Rattle.meaning.specs.Sheets.{no_room, bits_of, float_of, rooms_of, room_at, room_values, sheet_of, sheet_values}
use Rattle.promises.specs.Files.Bodies.{edge_same, band-same, rest_at, rest-drop}
use Rattle.promises.specs.Sheets.SheetRooms.{Held, HeldRoom, TidyRoom, bits_back, room_back, room-behind}

-- the floats that count are f64s (every float of a running program is one)
pub record HeldSheet (h : Sheet) : Type 0 where
  pub time : Held h.time
  pub outside : Held h.outside
  pub rooms : (i : ℕ) → i < h.n → HeldRoom h.n (room_at h i)

-- zeros beyond n rooms and n − 1 exchanges, and rooms without an emitter: what a reader makes
pub record TidySheet (h : Sheet) : Type 0 where
  pub few : h.n ≤ 4
  pub rlo-filled : Filled 4 h.n h.rlo
  pub rhi-filled : Filled 4 h.n h.rhi
  pub slo-filled : Filled 4 h.n h.slo
  pub shi-filled : Filled 4 h.n h.shi
  pub wlo-filled : Filled 4 h.n h.wlo
  pub whi-filled : Filled 4 h.n h.whi
  pub rooms-filled : FilledBy no_room 4 h.n h.rooms
  pub rooms : (i : ℕ) → i < h.n → TidyRoom h.n (room_at h i)

-- rooms that were written
rooms-back : (n : ℕ) → n ≤ 4 → (room : ℕ → Room) (m i : ℕ) → m ≤ n → ((k : ℕ) → i ≤ k → k < i + m → HeldRoom n (room k) × TidyRoom n (room k))
    → rooms_of n m (tabs (λ k. room_values n (room k)) m i) ≡ tab room m i
unfolding S.rooms_of L.tabs L.tab
rooms-back n few room zero i l h = refl
rooms-back n few room (suc m) i l h =
    let w = h i (omega arith) (omega arith) in
    let vs = tabs (λ k. room_values n (room k)) m (i + 1) in
    let one : 1 ≤ n = omega arith in
    rw (room_back n one (room i) w.0 w.1 vs few, room-behind n one (room i) w.0 w.1 vs)
    (ap (λ (t : List Room). room i ∷ t) (rooms-back n few room m (i + 1) (omega arith) (λ k a b. h k (omega arith) (omega arith))))

-- two sheets of the same fields
same : (n r q k d : ℕ) {rlo rhi slo shi wlo whi rlo' rhi' slo' shi' wlo' whi' : List ℤ} {t t' o o' : Float} {rooms rooms' : List Room}
    → rlo ≡ rlo' → rhi ≡ rhi' → slo ≡ slo' → shi ≡ shi' → wlo ≡ wlo' → whi ≡ whi' → t ≡ t' → o ≡ o' → rooms ≡ rooms'
    → ◌≡◌ {A = Sheet}
    (record { n = n; r = r; q = q; k = k; d = d; rlo = rlo; rhi = rhi; slo = slo; shi = shi; wlo = wlo; whi = whi; time = t; outside = o; rooms = rooms })
    (record { n = n; r = r; q = q; k = k; d = d; rlo = rlo'; rhi = rhi'; slo = slo'; shi = shi'; wlo = wlo'; whi = whi'; time = t'; outside = o'; rooms = rooms' })
same n r q k d e₀ e₁ e₂ e₃ e₄ e₅ e₆ e₇ e₈ = rw (e₀, e₁, e₂, e₃, e₄, e₅, e₆, e₇, e₈) refl

module _ (h : Sheet) where
  abbrev pub sheet_header : List ℤ
  sheet_header = pos 1 ∷ pos h.n ∷ pos h.r ∷ pos h.q ∷ pos h.k ∷ pos h.d ∷ []

  abbrev edges : ℕ → List ℤ
  edges = edges_of h.rlo h.rhi h.slo h.shi

  abbrev bands : ℕ → List ℤ
  bands = band_of h.wlo h.whi

  -- the floats, which stand behind the bands
  abbrev pub rooms_values : List ℤ
  rooms_values = tabs (λ i. room_values h.n (room_at h i)) h.n 0

  abbrev pub floats : List ℤ
  floats = bits_of h.time ∷ bits_of h.outside ∷ rooms_values

  module _ (t : TidySheet h) (f : HeldSheet h) where
    edges-same : (j : ℕ) → j < 4 → (l : List ℤ) → Filled 4 h.n l → ((i : ℕ) → at (edges i) j ≡ at l i) → column (sheet_values h) (6 + j) 4 h.n ≡ l
    unfolding S.sheet_values
    edges-same = edge_same sheet_header refl h.n edges (λ i. refl) (tabs bands h.n 0 ++ floats) t.few

    bands-same : (j : ℕ) → j < 2 → (l : List ℤ) → Filled 4 h.n l → ((i : ℕ) → at (bands i) j ≡ at l i) → column (sheet_values h) (6 + j + 4 * h.n) 2 h.n ≡ l
    unfolding S.sheet_values
    bands-same = band-same sheet_header refl h.n edges bands (λ i. refl) (λ i. refl) floats t.few

    float_at : (i j : ℕ) → i ≡ 6 + 6 * h.n + j → at (sheet_values h) i ≡ at floats j
    unfolding S.sheet_values
    float_at i j e = ap (at (sheet_values h)) e ∙ rest_at sheet_header refl h.n edges bands (λ i. refl) (λ i. refl) floats j

    rooms-at : drop (8 + 6 * h.n) (sheet_values h) ≡ rooms_values
    unfolding S.sheet_values
    rooms-at =
        let e : 8 + 6 * h.n ≡ 6 + 6 * h.n + 2 = omega arith in
        ap (λ (c : ℕ). drop c (sheet_values h)) e ∙ sym (drop-drop 2 (6 + 6 * h.n) (sheet_values h))
        ∙ ap (λ (l : List ℤ). drop 2 l) (rest-drop sheet_header refl h.n edges bands (λ i. refl) (λ i. refl) floats)

    -- reading a written sheet's values gives the sheet
    pub sheet-back : sheet_of (sheet_values h) ≡ h
    unfolding S.sheet_of S.sheet_values
    sheet-back =
        same h.n h.r h.q h.k h.d
        (edges-same 0 (omega arith) h.rlo t.rlo-filled (λ i. refl))
        (edges-same 1 (omega arith) h.rhi t.rhi-filled (λ i. refl))
        (edges-same 2 (omega arith) h.slo t.slo-filled (λ i. refl))
        (edges-same 3 (omega arith) h.shi t.shi-filled (λ i. refl))
        (bands-same 0 (omega arith) h.wlo t.wlo-filled (λ i. refl))
        (bands-same 1 (omega arith) h.whi t.whi-filled (λ i. refl))
        (ap float_of (float_at (6 + 6 * h.n) 0 (omega arith)) ∙ bits_back h.time f.time)
        (ap float_of (float_at (7 + 6 * h.n) 1 (omega arith)) ∙ bits_back h.outside f.outside)
        (ap (λ (l : List ℤ). padded 4 no_room (rooms_of h.n h.n l)) rooms-at
        ∙ ap (padded 4 no_room) (rooms-back h.n t.few (room_at h) h.n 0 (omega arith) (λ i a b. (f.rooms i (omega arith), t.rooms i (omega arith))))
        ∙ filling-padded no_room t.rooms-filled t.few)
