-- The shape of a sheet's file: the values of every sheet whose floats are f64s have it, and values that were read by the form are those of the sheet that
-- they make. Relies on pages Bodies, Files, FormShapes, Headers, Passing and SheetRooms. The other half, that a sheet is what its values say, is page Sheets.
use Prim.Native.Nat.{ℕ, zero, suc, ◌+◌, ◌*◌, ◌≤◌, ◌<◌}
use Rattle.std.specs.Prelude.{◌≡◌, length, get_or, pos, nat_abs}
use Rattle.std.proofs.Math.Path.{refl, sym, ap, subst}
use Rattle.std.proofs.Common.{◌∙◌, add-one, get_or-drop, drop-drop}
use mathlib.Core.List.{List, [], ◌∷◌, ◌++◌, append-nil}
use native.Mathlib.Omega.{arith}
use Rattle.std.proofs.Math.ListN.{drop, get_or-append}
use Rattle.std.proofs.Math.Seq.{get_or-append-add, drop-append-add}
use Rattle.std.proofs.Math.IntN.{ℤ}
use Rattle.laws.specs.Columns.{tab-get_d, tabs-later, padded-filled, padding-filled}
use Rattle.laws.specs.Lists as L
use Rattle.laws.specs.Lists.{at, tab, tabs, padded}
use Rattle.laws.specs.Tabs.{tabs-same, Filled, FilledBy}
use Rattle.meaning.specs.declared.Room.{Room}
use Rattle.meaning.specs.declared.Sheet.{Sheet}
use Rattle.meaning.specs.Files.{Form, end, read, values_at}
use Rattle.meaning.specs.Plants as P
use Rattle.meaning.specs.Plants.{edge_limit, band_limit, span, times, edges_and_bands, headed, edges_of, band_of, column}
use Rattle.meaning.specs.Sheets as S
use Rattle.meaning.specs.Sheets.{floating, above, any_float, room_form, sheet_form, no_room, float_of, bits_of, emitter_size, room_of, rooms_of, room_at, room_values, sheet_of, sheet_values}
use Rattle.promises.specs.Files.Bodies.{body_back}
use Rattle.promises.specs.Files.Files as J
use Rattle.promises.specs.Files.Files.{Shaped}
use Rattle.promises.specs.Files.FormShapes.{times-each, Leaves, then-leaves, times-leaves}
use Rattle.promises.specs.Files.Headers.{headed-read}
use Rattle.promises.specs.Files.Passing as Q
use Rattle.promises.specs.Files.Passing.{Passes, read-passes}
use Rattle.promises.specs.Sheets.SheetRooms.{HeldRoom, TidyRoom, bits-stored, float-held, float-taken, room-shaped, room-held, room-tidy, room-taken}
use Rattle.promises.specs.Sheets.Sheets.{HeldSheet, TidySheet, rooms_values, floats}

-- what a sheet's file holds behind the header, and behind the bands
abbrev pub floats_form : ℕ → Form
floats_form n = floating above (floating any_float (times n (room_form n) end))

abbrev pub sheet_body : ℕ → ℕ → ℕ → Form
sheet_body form n r = edges_and_bands n (floats_form n)

-- ---- the values of a sheet

floats-shaped : (h : Sheet) → HeldSheet h → Shaped (floats_form h.n) (floats h)
unfolding J.Shaped
floats-shaped h f = (
  bits-stored h.time f.time,
  (
    bits-stored h.outside f.outside,
    rw (← append-nil (rooms_values h))
        (times-each Shaped (room_form h.n) (λ i. room_values h.n (room_at h i)) h.n 0 end [] (λ i a b. room-shaped h.n (room_at h i) (f.rooms i (omega arith))) refl),
  ),
)

pub sheet-shaped : (h : Sheet) → HeldSheet h → Shaped sheet_form (sheet_values h)
unfolding J.Shaped S.sheet_form P.headed P.edges P.bands S.sheet_values
sheet-shaped h f = (
  refl,
  (
    refl,
    (
      refl,
      (
        refl,
        (
          refl,
          (
            refl,
            times-each Shaped (λ more. span edge_limit (span edge_limit more)) (edges_of h.rlo h.rhi h.slo h.shi) h.n 0 _ _ (λ i a b rest vs p. (tt, (tt, (tt, (tt, p)))))
                (times-each Shaped (span band_limit) (band_of h.wlo h.whi) h.n 0 _ (floats h) (λ i a b rest vs p. (tt, (tt, p))) (floats-shaped h f)),
          ),
        ),
      ),
    ),
  ),
)

-- ---- rooms that were read

rooms-taken : (n m : ℕ) (vs : List ℤ) → m ≤ n → Passes (times m (room_form n) end) vs → tabs (λ i. room_values n (get_or (rooms_of n m vs) i no_room)) m 0 ≡ vs
unfolding Q.Passes P.times S.rooms_of L.tabs
rooms-taken n zero vs l h = sym h
rooms-taken n (suc m) vs l h =
    let w = room-taken n (omega arith) (times m (room_form n) end) vs h in
    let us = drop (n + 1 + emitter_size (nat_abs (at vs n))) vs in
    let later : tabs (λ i. room_values n (get_or (room_of n vs ∷ rooms_of n m us) i no_room)) m (0 + 1) ≡ us =
    tabs-later (λ i. room_values n (get_or (room_of n vs ∷ rooms_of n m us) i no_room)) (λ i. room_values n (get_or (rooms_of n m us) i no_room)) m 0 (λ k. rw (add-one k) refl)
    ∙ rooms-taken n m us (omega arith) w.1 in
    ap (λ (t : List ℤ). room_values n (room_of n vs) ++ t) later ∙ w.0

rooms-long : (n m : ℕ) (vs : List ℤ) → length (rooms_of n m vs) ≡ m
unfolding S.rooms_of
rooms-long n zero vs = refl
rooms-long n (suc m) vs = ap suc (rooms-long n m (drop (n + 1 + emitter_size (nat_abs (at vs n))) vs))

rooms-each : (n m : ℕ) (vs : List ℤ) → n ≤ 4 → (i : ℕ) → i < m → HeldRoom n (get_or (rooms_of n m vs) i no_room) × TidyRoom n (get_or (rooms_of n m vs) i no_room)
unfolding S.rooms_of
rooms-each n zero vs few i l = absurd (omega arith)
rooms-each n (suc m) vs few zero l = (room-held n vs, room-tidy n vs few)
rooms-each n (suc m) vs few (suc i) l = rooms-each n m (drop (n + 1 + emitter_size (nat_abs (at vs n))) vs) few i (omega arith)

-- made up to four, their first n are themselves
pub rooms-padded : (n : ℕ) (vs : List ℤ) (i : ℕ) → i < n → get_or (padded 4 no_room (rooms_of n n vs)) i no_room ≡ get_or (rooms_of n n vs) i no_room
rooms-padded n vs i l = get_or-append (rooms_of n n vs) _ no_room i (omega (arith, rooms-long n n vs))

rooms-filled : (n : ℕ) (vs : List ℤ) → n ≤ 4 → FilledBy no_room 4 n (padded 4 no_room (rooms_of n n vs))
rooms-filled n vs few =
    let room : ℕ → Room = λ i. get_or (rooms_of n n vs) i no_room in
    let e : tab room n 0 ≡ rooms_of n n vs = ap (λ (m : ℕ). tab room m 0) (sym (rooms-long n n vs)) ∙ tab-get_d no_room (rooms_of n n vs) in
    subst (λ (l : List Room). FilledBy no_room 4 n (padded 4 no_room l)) e (padding-filled no_room room 4 n few)

-- ---- edges and bands that were read

span-leaves : (limit : ℕ) → Leaves Passes (span limit) 2
unfolding Q.Passes
span-leaves limit = record { leaves = go }
  where
    go : (rest : Form) (vs : List ℤ) → Passes (span limit rest) vs → (2 ≤ length vs) × Passes rest (drop 2 vs)
    go rest [] h = absurd h
    go rest (v ∷ []) h = absurd h.3
    go rest (v ∷ w ∷ vs) h = (omega arith, h.3.3)

edges-leaves : (n : ℕ) → Leaves Passes (edges_and_bands n) (6 * n)
unfolding P.edges P.bands
edges-leaves n =
    let e : 6 * n ≡ n * 4 + n * 2 = omega arith in
    rw e (then-leaves Passes (times-leaves Passes (then-leaves Passes (span-leaves edge_limit) (span-leaves edge_limit)) n) (times-leaves Passes (span-leaves band_limit) n))

-- ---- floats that were read

abbrev floats_of : ℕ → ℤ → ℤ → List ℤ → List ℤ
floats_of n t o vs = bits_of (float_of t) ∷ bits_of (float_of o) ∷ tabs (λ i. room_values n (get_or (padded 4 no_room (rooms_of n n vs)) i no_room)) n 0

floats-taken : (n : ℕ) (vs : List ℤ) → Passes (floats_form n) vs → floats_of n (at vs 0) (at vs 1) (drop 2 vs) ≡ vs
unfolding Q.Passes
floats-taken n [] h = absurd h
floats-taken n (t ∷ []) h = absurd h.3
floats-taken n (t ∷ o ∷ vs) h =
    let rooms : tabs (λ i. room_values n (get_or (padded 4 no_room (rooms_of n n vs)) i no_room)) n 0 ≡ vs =
    tabs-same (λ i. room_values n (get_or (padded 4 no_room (rooms_of n n vs)) i no_room)) (λ i. room_values n (get_or (rooms_of n n vs) i no_room)) n 0
    (λ i a b. ap (room_values n) (rooms-padded n vs i (omega arith)))
    ∙ rooms-taken n n vs (omega arith) h.3.3 in
    same (float-taken above t h.0 h.2) (float-taken any_float o h.3.0 h.3.2) rooms
  where
    same : {a b c d : ℤ} {x y : List ℤ} → a ≡ b → c ≡ d → x ≡ y → a ∷ c ∷ x ≡ b ∷ d ∷ y
    same p q r = rw (p, q, r) refl

-- ---- values that were read, as many as n rooms call for

module _ (n r q k d : ℕ) (body : List ℤ) (few : n ≤ 4) (h : Passes (sheet_body 1 n r) body) where
  front : List ℤ
  front = pos 1 ∷ pos n ∷ pos r ∷ pos q ∷ pos k ∷ pos d ∷ []

  numbers : List ℤ
  numbers = front ++ body

  behind : List ℤ
  behind = drop (6 * n) body

  taken : (6 * n ≤ length body) × Passes (floats_form n) behind
  unfolding behind
  taken = (edges-leaves n).leaves (floats_form n) body h

  float_at : (i j : ℕ) → i ≡ 6 + (6 * n + j) → at numbers i ≡ at behind j
  unfolding front numbers behind
  float_at i j e = ap (at numbers) e ∙ get_or-append-add front body (6 * n + j) (pos 0) ∙ sym (get_or-drop (6 * n) body j (pos 0))

  rooms-at : drop (8 + 6 * n) numbers ≡ drop 2 behind
  unfolding front numbers behind
  rooms-at =
      let e : 8 + 6 * n ≡ 6 + (6 * n + 2) = omega arith in
      ap (λ (c : ℕ). drop c numbers) e ∙ drop-append-add front body (6 * n + 2) ∙ sym (drop-drop 2 (6 * n) body)

  floats-back : floats_of n (at numbers (6 + 6 * n)) (at numbers (7 + 6 * n)) (drop (8 + 6 * n) numbers) ≡ behind
  floats-back = rw (float_at (6 + 6 * n) 0 (omega arith), float_at (7 + 6 * n) 1 (omega arith), rooms-at) (floats-taken n behind taken.1)

  values-back : sheet_values (sheet_of numbers) ≡ numbers
  unfolding front numbers behind S.sheet_of S.sheet_values
  values-back = ap (λ (t : List ℤ). front ++ t) (ap (joined (column numbers)) floats-back ∙ body_back front refl body n taken.0)
    where
      joined : (ℕ → ℕ → ℕ → List ℤ) → List ℤ → List ℤ
      joined c t =
          tabs (edges_of (c 6 4 n) (c 7 4 n) (c 8 4 n) (c 9 4 n)) n 0 ++ (tabs (band_of (c (6 + 4 * n) 2 n) (c (7 + 4 * n) 2 n)) n 0 ++ t)

  values-held : HeldSheet (sheet_of numbers)
  unfolding front numbers S.sheet_of
  values-held = record {
    time = float-held (at numbers (6 + 6 * n));
    outside = float-held (at numbers (7 + 6 * n));
    rooms = λ i l. subst (HeldRoom n) (sym (rooms-padded n (drop (8 + 6 * n) numbers) i l)) (rooms-each n n (drop (8 + 6 * n) numbers) few i l).0;
  }

  values-tidy : TidySheet (sheet_of numbers)
  unfolding front numbers S.sheet_of
  values-tidy = record {
    few = few;
    rlo-filled = columns 6 4;
    rhi-filled = columns 7 4;
    slo-filled = columns 8 4;
    shi-filled = columns 9 4;
    wlo-filled = columns (6 + 4 * n) 2;
    whi-filled = columns (7 + 4 * n) 2;
    rooms-filled = rooms-filled n (drop (8 + 6 * n) numbers) few;
    rooms = λ i l. subst (TidyRoom n) (sym (rooms-padded n (drop (8 + 6 * n) numbers) i l)) (rooms-each n n (drop (8 + 6 * n) numbers) few i l).1;
  }
    where
      columns : (first by : ℕ) → Filled 4 n (column numbers first by n)
      columns first by = padded-filled (λ i. at numbers (first + by * i)) 4 n few

-- the sheet that values of a file make: its floats are f64s, its arrays are tidy, and those are its values
pub sheet-read : (s : List ℕ) {vs : List ℤ} {next : ℕ} → values_at sheet_form s 0 ≡ read vs next → TidySheet (sheet_of vs) × HeldSheet (sheet_of vs) × (sheet_values (sheet_of vs) ≡ vs)
unfolding S.sheet_form front numbers
sheet-read s {vs} {next} e =
    let w = headed-read 1 1_000 sheet_body s 0 e in
    let one : w.form ≡ 1 = omega (arith, w.first, w.known) in
    let p = read-passes (sheet_body 1 w.n w.m) s w.place w.body next w.behind in
    rw (w.values, one) (
      values-tidy w.n w.m w.q w.k w.d w.body w.few p,
      values-held w.n w.m w.q w.k w.d w.body w.few p,
      values-back w.n w.m w.q w.k w.d w.body w.few p,
    )
