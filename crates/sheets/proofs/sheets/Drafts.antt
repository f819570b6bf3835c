-- A sheet's draft: the file of its values, how long it can be, and that what is left of a lent buffer is told by how it is judged. Relies on files' page
-- DraftLaws.
use Prim.Native.Nat.{ℕ, zero, suc, ◌+◌, ◌-◌, ◌*◌, ◌≤◌}
use mathlib.Core.Path.{◌≡◌, refl, sym, ap, ◌∙◌}
use mathlib.Core.List.{List, [], ◌∷◌, ◌++◌, append_assoc, append-nil}
use native.Mathlib.Omega.{arith}
use native.Mathlib.Nat.{mul-suc}
use lib.ListN.{length, get_or, replicate, length-append}
use lib.IntN.{ℤ}
use lib.Ieee.{Float}
use Rattle.meaning.specs.Answers.{SheetRead, verdict_in}
use Rattle.laws.specs.Columns.{tab-tabs}
use Rattle.laws.specs.Lists.{tab, tabs}
use Rattle.laws.specs.Writing.{Put}
use Rattle.meaning.specs.declared.Emitter.{Emitter}
use Rattle.meaning.specs.declared.Room.{Room}
use Rattle.meaning.specs.declared.Sheet.{Sheet}
use Rattle.meaning.specs.Numbers.{groups_of}
use Rattle.meaning.specs.Buffers.{left}
use Rattle.meaning.specs.Files.{low_first, Form, end, file_of, Judged, good, bad}
use Rattle.meaning.specs.Plants.{times, edges_and_bands}
use Rattle.meaning.specs.Sheets.{zero_f, bits_of, floating, not_below, room_form, sheet_form, no_room, emitter_values, room_values, sheet_values, sheet_related, sheet_judged, sheet_read_of, sheet_read, sheet_left}
use Rattle.files.specs.declared.beginnings.Beginning.{Beginning}
use Rattle.files.specs.Signed.{signed_bytes}
use Rattle.files.specs.Beginnings.{edges_in, bands_in, verdict_of, by_verdict}
use Rattle.files.specs.BeginningFiles.{file-times, file-bounds}
use Rattle.files.specs.DraftLaws.{draft-long, draft-left, InDraft, in_array}
use Rattle.sheets.specs.Floats.{float_bytes}
use Rattle.sheets.specs.Rooms.{exchange_bits, emitter_part, rest_part, rest_values, values_of_room, exchange_bytes, emitter_bytes, room_bytes, bytes_of_room}
use Rattle.sheets.specs.Sheets.{rooms_form, sheet_beginning, rest_bytes, sheet_room, sheet_draft}

-- ---- the bytes of the parts behind the beginning

file-float : (xs : List Float) (k : ℕ) (rest : Form) (vs : List ℤ) → file_of (floating not_below rest) (exchange_bits xs k ++ vs) ≡ exchange_bytes xs k ++ file_of rest vs
unfolding file_of
file-float xs k rest vs = refl

file-emitter : (e : Emitter) (rest : Form) (vs : List ℤ) → file_of (emitter_part rest) (emitter_values e ++ vs) ≡ emitter_bytes e ++ file_of rest vs
unfolding file_of
file-emitter Emitter.None rest vs = refl
file-emitter (Emitter.Heater p water) rest vs = simp append_assoc
file-emitter (Emitter.Steady rate) rest vs = simp append_assoc

file-rest : (n : ℕ) (room : Room) (rest : Form) (vs : List ℤ)
    → file_of (rest_part n rest) (rest_values n room ++ vs) ≡ (tabs (exchange_bytes room.exchange) (n - 1) 0 ++ emitter_bytes room.emitter) ++ file_of rest vs
file-rest n room rest vs =
    let xs = room.exchange in
    let e = room.emitter in
    ap (file_of (rest_part n rest)) (append_assoc (tab (λ j. bits_of (get_or xs j zero_f)) (n - 1) 0) (emitter_values e) vs)
    ∙ ap (λ (l : List ℤ). file_of (rest_part n rest) (l ++ (emitter_values e ++ vs))) (tab-tabs (λ j. bits_of (get_or xs j zero_f)) (n - 1) 0)
    ∙ file-times (floating not_below) (exchange_bits xs) (exchange_bytes xs) (file-float xs) (n - 1) 0 (emitter_part rest) (emitter_values e ++ vs)
    ∙ ap (λ (bs : List ℕ). tabs (exchange_bytes xs) (n - 1) 0 ++ bs) (file-emitter e rest vs)
    ∙ sym (append_assoc (tabs (exchange_bytes xs) (n - 1) 0) (emitter_bytes e) (file_of rest vs))

file-room : (n : ℕ) (room : Room) (rest : Form) (vs : List ℤ) → file_of (room_form n rest) (room_values n room ++ vs) ≡ room_bytes n room ++ file_of rest vs
unfolding room_form file_of
file-room n room rest vs =
    let more = tabs (exchange_bytes room.exchange) (n - 1) 0 ++ emitter_bytes room.emitter in
    ap (λ (bs : List ℕ). float_bytes room.loss ++ bs) (file-rest n room rest vs) ∙ sym (append_assoc (float_bytes room.loss) more (file_of rest vs))

-- ---- how long they can be

tabs-few : (f : ℕ → List ℕ) (w : ℕ) → ((k : ℕ) → length (f k) ≤ w) → (m i : ℕ) → length (tabs f m i) ≤ w * m
unfolding tabs
tabs-few f w few zero i = omega arith
tabs-few f w few (suc m) i =
    let e : w * suc m ≡ w + w * m = omega (arith, mul-suc w m) in
    omega (arith, length-append (f i) (tabs f m (i + 1)), few i, tabs-few f w few m (i + 1))

eight : (x : Float) → length (float_bytes x) ≡ 8
unfolding low_first
eight x = refl

emitter-long : (e : Emitter) → length (emitter_bytes e) ≤ 17
unfolding groups_of
emitter-long Emitter.None = omega arith
emitter-long (Emitter.Heater p water) = omega (arith, length-append (float_bytes p) (float_bytes water), eight p, eight water)
emitter-long (Emitter.Steady rate) = omega (arith, eight rate)

room-long : (n : ℕ) (room : Room) → n ≤ 4 → length (room_bytes n room) ≤ 49
room-long n room h =
    let xs = tabs (exchange_bytes room.exchange) (n - 1) 0 in
    let m : n - 1 ≤ 3 = omega arith in
    omega (
      arith,
      eight room.loss,
      length-append (float_bytes room.loss) (xs ++ emitter_bytes room.emitter),
      length-append xs (emitter_bytes room.emitter),
      tabs-few (exchange_bytes room.exchange) 8 (λ k. omega (arith, eight (get_or room.exchange k zero_f))) (n - 1) 0,
      emitter-long room.emitter,
    )

-- ---- the file of a sheet's values

module _ (h : Sheet) where
  abbrev b : Beginning
  b = sheet_beginning h

  rest : List ℤ
  rest = bits_of h.time ∷ bits_of h.outside ∷ tabs (values_of_room h.n h.rooms) h.n 0

  rest-file : file_of (rooms_form 1 h.n h.r) rest ≡ rest_bytes h
  unfolding rest file_of
  rest-file =
      let vs = tabs (values_of_room h.n h.rooms) h.n 0 in
      let bs = tabs (bytes_of_room h.n h.rooms) h.n 0 in
      let same : file_of (times h.n (room_form h.n) end) vs ≡ bs = ap (file_of (times h.n (room_form h.n) end)) (sym (append-nil vs))
      ∙ file-times (room_form h.n) (values_of_room h.n h.rooms) (bytes_of_room h.n h.rooms) (λ k. file-room h.n (get_or h.rooms k no_room)) h.n 0 end []
      ∙ append-nil bs in
      ap (λ (l : List ℕ). float_bytes h.time ++ (float_bytes h.outside ++ l)) same

  -- behind the header
  says : file_of (edges_and_bands h.n (rooms_form 1 h.n h.r)) (edges_in b ++ (bands_in b ++ rest)) ≡ signed_bytes (edges_in b ++ bands_in b) ++ rest_bytes h
  says = file-bounds b (rooms_form 1 h.n h.r) rest ∙ ap (λ (bs : List ℕ). signed_bytes (edges_in b ++ bands_in b) ++ bs) rest-file

  -- ---- the draft in its array

  pub in-draft : (r : ℕ) (out : List ℕ) → Put (replicate sheet_room 0) 0 (sheet_draft h) r out → InDraft (sheet_draft h) r out
  unfolding sheet_draft
  in-draft r out t = in_array sheet_room (sheet_draft h) r out (draft-long 1 1000 (omega arith) (omega arith) (sheet_beginning h) (rest_bytes h) 212 rest-long) t
    where
      rooms : List ℕ
      rooms = tabs (bytes_of_room h.n h.rooms) h.n 0

      rest-long : h.n ≤ 4 → h.r ≤ 1000 → length (rest_bytes h) ≤ 212
      rest-long few l =
          omega (
            arith,
            length-append (float_bytes h.time) (float_bytes h.outside ++ rooms),
            length-append (float_bytes h.outside) rooms,
            eight h.time,
            eight h.outside,
            tabs-few (bytes_of_room h.n h.rooms) 49 (λ k. room-long h.n (get_or h.rooms k no_room) few) h.n 0,
          )

  -- ---- what the writer leaves, s being the draft and x what was read of it

  pub sheet-left : (s : List ℕ) (x : SheetRead) → s ≡ sheet_draft h → x ≡ sheet_read s → (buf : List ℕ) → left (by_verdict (verdict_in x) λ _. good s) buf ≡ sheet_left h buf
  unfolding rest sheet_draft sheet_left sheet_judged sheet_form sheet_values
  sheet-left s x e q buf =
      draft-left 1 1000 (omega arith) (omega arith) b (rest_bytes h) sheet_related (λ e. refl) (λ form n r. edges_and_bands n (rooms_form form n r)) (edges_in b ++ (bands_in b ++ rest))
      (λ _ _ _. says) s (verdict_in x) e (ap (λ (y : SheetRead). verdict_in y) q ∙ told (sheet_judged s)) buf
    where
      told : (j : Judged Sheet) → verdict_in (sheet_read_of j) ≡ verdict_of j
      told (good y) = refl
      told (bad r) = refl
