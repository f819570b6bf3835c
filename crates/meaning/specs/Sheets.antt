-- The sheet (document 01, "The sheet"): its file, read and written by one form, the equations in f64, and the plant made of it.
-- Floats are lib.Ieee's; in a list of a file's values a float is its bit pattern.
use Rattle.std.specs.Prelude.{ℕ, zero, suc, ◌+◌, ◌-◌, ◌*◌, ◌/◌, ◌%◌, ◌^◌, max, Bool, true, false, not, ◌&&◌, cond, List, [], ◌∷◌, ◌++◌, map, get_or, drop, leb, ltb, eqb, ℤ, pos, nat_abs, neg_ℤ, ◌+ℤ◌, ◌-ℤ◌, ◌*ℤ◌, Float, Some, None, Ok, Err}
use Rattle.std.specs.Float.{nan, inf, fin, binary64}
use Rattle.std.specs.Float.Ieee.{up, down, add, sub, mul, lt, of_bits, to_bits}
use Rattle.laws.specs.Guards.{guard}
use Rattle.laws.specs.Lists.{at, tab, tabs, padded, all, first_false}
use Rattle.meaning.specs.Answers.{Whole, SheetRead}
use Rattle.meaning.specs.declared.Emitter.{Emitter}
use Rattle.meaning.specs.declared.Room.{Room}
use Rattle.meaning.specs.declared.Sheet.{Sheet}
use Rattle.meaning.specs.Refusals.{bad_float, bad_result}
use Rattle.meaning.specs.Files.{float, Form, end, field, Read, read, refused, values_of, file_of, Judged, good, bad, file_judged}
use Rattle.meaning.specs.Boxes.{Side, sides_of}
use Rattle.meaning.specs.Plants.{Plant, entry_limit, offset_limit, band_limit, counted, from, headed, times, edges_and_bands, edges_of, band_of, column, plant_of, plant_form, related}
use Rattle.meaning.specs.Images.{Row, Step}
use Rattle.meaning.specs.Buffers.{Left, left}

-- ---- the file

unfoldable pub finite : Float → Bool
finite nan = false
finite (inf s) = false
finite (fin s m e) = true

-- 0.0 and 1.0
abbrev pub zero_f : Float
zero_f = fin false 0 (pos 0)

abbrev pub one_f : Float
one_f = fin false 1 (pos 0)

-- the float of a bit pattern, and the other way
abbrev pub float_of : ℤ → Float
float_of v = of_bits binary64 (nat_abs v)

abbrev pub bits_of : Float → ℤ
bits_of x = pos (to_bits binary64 x)

-- a float that has to be finite, and more; else 13 at its first byte
abbrev pub floating : (Float → Bool) → Form → Form
floating ok rest = field (record { kind = float; right = λ v. finite (float_of v) && ok (float_of v); wrong = bad_float }) λ _. rest

abbrev pub any_float : Float → Bool
any_float x = true

-- minus zero is not below 0, and not above it
abbrev pub not_below : Float → Bool
not_below x = not (lt x zero_f)

abbrev pub above : Float → Bool
above x = lt zero_f x

-- an emitter's own values: none; coefficient p and water temperature; a rate
abbrev pub emitter_form : Form → ℕ → Form
emitter_form rest zero = rest
emitter_form rest (suc zero) = floating not_below (floating any_float rest)
emitter_form rest (suc (suc kind)) = floating any_float rest

-- a room: its loss, its exchanges g_ij for j ascending, j ≠ i, its emitter number and values
unfoldable pub room_form : ℕ → Form → Form
room_form n rest = floating not_below (times (n - 1) (floating not_below) (counted (from 0 2) (emitter_form rest)))

-- form 1, n, r, q, K, D; R, S and w; sample time, outside temperature; the rooms
unfoldable pub sheet_form : Form
sheet_form = headed 1 1_000 λ form n r. edges_and_bands n (floating above (floating any_float (times n (room_form n) end)))

-- ---- a sheet and the values of its file

abbrev pub no_room : Room
no_room = record { loss = zero_f; exchange = zero_f ∷ zero_f ∷ zero_f ∷ []; emitter = Emitter.None }

abbrev pub emitter_of : ℕ → List ℤ → Emitter
emitter_of zero vs = Emitter.None
emitter_of (suc zero) vs = Emitter.Heater (float_of (at vs 0)) (float_of (at vs 1))
emitter_of (suc (suc kind)) vs = Emitter.Steady (float_of (at vs 0))

-- how many values an emitter has behind its number
abbrev pub emitter_size : ℕ → ℕ
emitter_size zero = 0
emitter_size (suc zero) = 2
emitter_size (suc (suc kind)) = 1

-- a room of n, its values being the first of a list
abbrev pub room_of : ℕ → List ℤ → Room
room_of n vs = record {
  loss = float_of (at vs 0);
  exchange = padded 3 zero_f (tab (λ j. float_of (at vs (1 + j))) (n - 1) 0);
  emitter = emitter_of (nat_abs (at vs n)) (drop (n + 1) vs);
}

-- m rooms of n
unfoldable pub rooms_of : ℕ → ℕ → List ℤ → List Room
rooms_of n zero vs = []
rooms_of n (suc m) vs = room_of n vs ∷ rooms_of n m (drop (n + 1 + emitter_size (nat_abs (at vs n))) vs)

unfoldable pub sheet_of : List ℤ → Sheet
sheet_of vs =
    let n = nat_abs (at vs 1) in
    record {
      n = n;
      r = nat_abs (at vs 2);
      q = nat_abs (at vs 3);
      k = nat_abs (at vs 4);
      d = nat_abs (at vs 5);
      rlo = column vs 6 4 n;
      rhi = column vs 7 4 n;
      slo = column vs 8 4 n;
      shi = column vs 9 4 n;
      wlo = column vs (6 + 4 * n) 2 n;
      whi = column vs (7 + 4 * n) 2 n;
      time = float_of (at vs (6 + 6 * n));
      outside = float_of (at vs (7 + 6 * n));
      rooms = padded 4 no_room (rooms_of n n (drop (8 + 6 * n) vs));
    }

abbrev pub emitter_values : Emitter → List ℤ
emitter_values Emitter.None = pos 0 ∷ []
emitter_values (Emitter.Heater p water) = pos 1 ∷ bits_of p ∷ bits_of water ∷ []
emitter_values (Emitter.Steady rate) = pos 2 ∷ bits_of rate ∷ []

abbrev pub room_at : Sheet → ℕ → Room
room_at h i = get_or h.rooms i no_room

abbrev pub exchange_at : Room → ℕ → Float
exchange_at room j = get_or room.exchange j zero_f

abbrev pub room_values : ℕ → Room → List ℤ
room_values n room = bits_of room.loss ∷ (tab (λ j. bits_of (exchange_at room j)) (n - 1) 0 ++ emitter_values room.emitter)

abbrev pub sheet_edges : Sheet → List ℤ
sheet_edges h = tabs (edges_of h.rlo h.rhi h.slo h.shi) h.n 0

unfoldable pub sheet_values : Sheet → List ℤ
sheet_values h =
    pos 1 ∷ pos h.n ∷ pos h.r ∷ pos h.q ∷ pos h.k ∷ pos h.d
    ∷ (sheet_edges h ++ (tabs (band_of h.wlo h.whi) h.n 0
    ++ (bits_of h.time ∷ bits_of h.outside ∷ tabs (λ i. room_values h.n (room_at h i)) h.n 0)))

-- ---- the equations: every operation is f64, rounded once, in this order

-- s = loss, then s + g_ij for j ascending
unfoldable pub sum_from : Float → List Float → Float
sum_from s [] = s
sum_from s (g ∷ gs) = sum_from (add binary64 s g) gs

abbrev pub loss_sum : ℕ → Room → Float
loss_sum n room = sum_from room.loss (tab (exchange_at room) (n - 1) 0)

abbrev pub has_emitter : Emitter → ℕ
has_emitter Emitter.None = 0
has_emitter (Emitter.Heater p water) = 1
has_emitter (Emitter.Steady rate) = 1

-- how many of the first m rooms have an emitter
unfoldable pub emitters : Sheet → ℕ → ℕ
emitters h zero = 0
emitters h (suc m) = emitters h m + has_emitter (room_at h m).emitter

-- mode bit t, the lowest being bit 0, switches the t-th room that has an emitter, counted from 0; asked of a room that has none, nothing is switched
abbrev pub switched_on : Sheet → ℕ → ℕ → Bool
switched_on h u i = eqb (u / 2 ^ emitters h i % 2) 1

-- for a heater that is on, s gains p after the exchanges (request 2026-02); steady emitters stay
abbrev pub gained : Float → Emitter → Float
gained s Emitter.None = s
gained s (Emitter.Heater p water) = add binary64 s p
gained s (Emitter.Steady rate) = s

abbrev pub fading_sum : Sheet → ℕ → ℕ → Float
fading_sum h u i =
    let room = room_at h i in
    let s = loss_sum h.n room in
    cond (switched_on h u i) (gained s room.emitter) s

-- in mode u: diagonal 1 − time·s; off it time·g_ij, which stands before or behind the gap at j = i
unfoldable pub coefficient : Sheet → ℕ → ℕ → ℕ → Float
coefficient h u i j =
    let time = h.time in
    let diagonal = sub binary64 one_f (mul binary64 time (fading_sum h u i)) in
    let off = mul binary64 time (exchange_at (room_at h i) (cond (ltb j i) j (j - 1))) in
    cond (eqb i j) diagonal off

-- offset c = time·(loss·outside); with a heater on, c + time·(p·water); with a steady one on, c + time·rate
abbrev pub pushed : Float → Float → Emitter → Float
pushed c time Emitter.None = c
pushed c time (Emitter.Heater p water) = add binary64 c (mul binary64 time (mul binary64 p water))
pushed c time (Emitter.Steady rate) = add binary64 c (mul binary64 time rate)

unfoldable pub offset : Sheet → ℕ → ℕ → Float
offset h u i =
    let room = room_at h i in
    let time = h.time in
    let c = mul binary64 time (mul binary64 room.loss h.outside) in
    cond (switched_on h u i) (pushed c time room.emitter) c

-- ---- whole numbers

abbrev pub signed_by : Bool → ℕ → ℤ
signed_by false v = pos v
signed_by true v = neg_ℤ (pos v)

-- the whole number nearest k·m·2^e, halves upwards: the whole part of the exact product and a half
abbrev pub nearest : ℕ → ℕ → ℤ → ℕ
nearest k m e = (2 * (k * (m * up e)) + down e) / (2 * down e)

-- within ± a limit, or the plant cannot hold it
abbrev pub limited_to : ℕ → ℤ → Whole
limited_to limit v = cond (leb (nat_abs v) limit) (Some v) None

-- the whole number nearest k·x, halves away from zero; the product is exact, of the float's exact value
unfoldable pub whole_of : ℕ → ℕ → Float → Whole
whole_of limit k nan = None
whole_of limit k (inf s) = None
whole_of limit k (fin s m e) = limited_to limit (signed_by s (nearest k m e))

-- M, the largest absolute edge of S over the first m rooms
unfoldable pub largest_edge : Sheet → ℕ → ℕ
largest_edge h zero = 0
largest_edge h (suc m) = max (largest_edge h m) (max (nat_abs (at h.slo m)) (nat_abs (at h.shi m)))

-- the ceiling of (n·M + 1)/2
unfoldable pub widening : Sheet → ℕ
widening h = (h.n * largest_edge h h.n + 2) / 2

-- ---- the sheet's own equation, its floats taken exactly: a step like a plant's, in units of 2 ^ −1074, of which every finite f64 is a whole number

abbrev pub units : ℕ
units = 2 ^ 1074

-- not asked of a float that is not finite
unfoldable pub units_of : Float → ℤ
units_of nan = pos 0
units_of (inf s) = pos 0
units_of (fin s m e) = signed_by s (m * up e * units / down e)

-- q·y − (q·a·x + q·r·c) lies in the sheet's band, times the units
abbrev pub exact_row : Sheet → ℕ → ℕ → Row
exact_row h u i = record {
  entries = tab (λ j. pos h.q *ℤ units_of (coefficient h u i j)) h.n 0;
  offset = pos (h.q * h.r) *ℤ units_of (offset h u i);
  low = pos units *ℤ at h.wlo i;
  high = pos units *ℤ at h.whi i;
}

abbrev pub exact_step : Sheet → ℕ → Step
exact_step h u = record { rows = tab (exact_row h u) h.n 0; q = h.q * units }

-- ---- the plant made of a sheet: its numbers in plant order

abbrev pub made_band : Sheet → ℕ → List Whole
made_band h i =
    limited_to band_limit (at h.wlo i -ℤ pos (widening h))
    ∷ limited_to band_limit (at h.whi i +ℤ pos (widening h)) ∷ []

-- A is the whole number nearest q·a, b the one nearest q·r·c
abbrev pub made_row : Sheet → ℕ → ℕ → List Whole
made_row h u i =
    tab (λ j. whole_of entry_limit h.q (coefficient h u i j)) h.n 0
    ++ (whole_of offset_limit (h.q * h.r) (offset h u i) ∷ [])

-- N is 2 to the number of rooms that have an emitter
abbrev pub made_modes : Sheet → ℕ
made_modes h = 2 ^ emitters h h.n

unfoldable pub made_numbers : Sheet → List Whole
made_numbers h =
    map (λ v. Some (pos v)) (1 ∷ h.n ∷ made_modes h ∷ h.q ∷ h.k ∷ h.d ∷ [])
    ++ (map Some (sheet_edges h)
    ++ (tabs (made_band h) h.n 0
    ++ tabs (λ u. tabs (made_row h u) h.n 0) (made_modes h) 0))

abbrev pub is_near : Whole → Bool
is_near (Some v) = true
is_near None = false

abbrev pub near_value : Whole → ℤ
near_value (Some v) = v
near_value None = pos 0

-- the plant's numbers as values, and the plant
abbrev pub made_values : Sheet → List ℤ
made_values h = map near_value (made_numbers h)

abbrev pub made_plant : Sheet → Plant
made_plant h = plant_of (made_values h)

-- 14 at the first number, in plant order, that the plant cannot hold
abbrev pub fitting : {A : Type 0} → Sheet → (Unit {0} → Judged A) → Judged A
fitting h rest =
    let fit = map is_near (made_numbers h) in
    guard (all fit) (bad (bad_result (first_false fit))) rest

-- ---- judged: the values in file order, leftover bytes, 4, 5 on the sheet's own band, then 14

-- R, S and the bands of a sheet
abbrev pub root_sheet : Sheet → List Side
root_sheet h = sides_of h.n h.rlo h.rhi

abbrev pub safe_sheet : Sheet → List Side
safe_sheet h = sides_of h.n h.slo h.shi

abbrev pub bands_sheet : Sheet → List Side
bands_sheet h = sides_of h.n h.wlo h.whi

abbrev pub sheet_related : Read (List ℤ) → Judged Sheet
sheet_related (refused r) = bad r
sheet_related (read vs next) =
    let h = sheet_of vs in
    related h.q (root_sheet h) (safe_sheet h) (bands_sheet h ∷ []) λ _.
    fitting h λ _. good h

unfoldable pub sheet_judged : List ℕ → Judged Sheet
sheet_judged s = sheet_related (values_of sheet_form s)

-- what a sheet's reader answers: the sheet, or the refusal
abbrev pub sheet_read_of : Judged Sheet → SheetRead
sheet_read_of (good h) = Ok h
sheet_read_of (bad r) = Err r

abbrev pub sheet_read : List ℕ → SheetRead
sheet_read s = sheet_read_of (sheet_judged s)

-- what a sheet's writer leaves: the sheet is judged as the file it would be
unfoldable pub sheet_left : Sheet → List ℕ → Left
sheet_left h buf = let bytes = file_of sheet_form (sheet_values h) in left (file_judged bytes (sheet_judged bytes)) buf

-- sheet to plant bytes
abbrev pub plant_file_made : Judged Sheet → Judged (List ℕ)
plant_file_made (bad r) = bad r
plant_file_made (good h) = good (file_of plant_form (made_values h))

unfoldable pub made_left : List ℕ → List ℕ → Left
made_left sheet buf = left (plant_file_made (sheet_judged sheet)) buf
