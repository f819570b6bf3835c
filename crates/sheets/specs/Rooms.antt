-- Rooms of a sheet as the code reads them: the parts of the form that they are, with their values; that these give
-- them back is promises' page Sheets. Relies on promises' page SheetRooms.
use Rattle.std.specs.Prelude.{ℕ, ◌-◌, ◌<◌, ◌≡◌, List, [], ◌∷◌, ◌++◌, get_or, drop, ℤ, nat_abs, Float, Ok, Err, Result}
use Rattle.meaning.specs.declared.Refusal.{Refusal}
use Rattle.laws.specs.Lists.{at, tab, tabs}
use Rattle.laws.specs.Tabs.{FilledBy}
use Rattle.meaning.specs.declared.Emitter.{Emitter}
use Rattle.meaning.specs.declared.Room.{Room}
use Rattle.meaning.specs.Files.{Form}
use Rattle.meaning.specs.Numbers.{bytes_of}
use Rattle.meaning.specs.Plants.{counted, from, times}
use Rattle.meaning.specs.Sheets.{zero_f, bits_of, floating, not_below, emitter_form, room_form, no_room, emitter_values, exchange_at, room_values}
use Rattle.promises.specs.Sheets.SheetRooms.{Held, HeldEmitter, HeldRoom, TidyRoom}
use Rattle.files.specs.Parts.{Holds, Fails}
use Rattle.sheets.specs.Floats.{float_bytes}

-- ---- exchanges

abbrev pub exchange_bits : List Float → ℕ → List ℤ
exchange_bits xs j = bits_of (get_or xs j zero_f) ∷ []

pub record ExchangesRead (s : List ℕ) (start m : ℕ) (xs : List Float) (next : ℕ) : Type 0 where
  pub part : Holds (times m (floating not_below)) s start (tabs (exchange_bits xs) m 0) next
  pub filled : FilledBy zero_f 3 m xs
  pub held : (j : ℕ) → j < m → Held (get_or xs j zero_f)

abbrev pub ExchangesTold : List ℕ → ℕ → ℕ → Result (List Float × ℕ) Refusal → Type 0
ExchangesTold s start m (Ok (xs, next)) = ExchangesRead s start m xs next
ExchangesTold s start m (Err e) = Fails (times m (floating not_below)) s start e

-- ---- an emitter: its number and its own values

abbrev pub kind_of : Emitter → ℕ
kind_of e = nat_abs (at (emitter_values e) 0)

abbrev pub own_values : Emitter → List ℤ
own_values e = drop 1 (emitter_values e)

abbrev pub own_part : ℕ → Form → Form
own_part kind rest = emitter_form rest kind

abbrev pub emitter_part : Form → Form
emitter_part rest = counted (from 0 2) (emitter_form rest)

pub record OwnRead (kind : ℕ) (s : List ℕ) (start : ℕ) (e : Emitter) (next : ℕ) : Type 0 where
  pub same : kind_of e ≡ kind
  pub part : Holds (own_part kind) s start (own_values e) next
  pub held : HeldEmitter e

abbrev pub OwnTold : ℕ → List ℕ → ℕ → Result (Emitter × ℕ) Refusal → Type 0
OwnTold kind s start (Ok (e, next)) = OwnRead kind s start e next
OwnTold kind s start (Err e) = Fails (own_part kind) s start e

pub record EmitterHeld (s : List ℕ) (start : ℕ) (e : Emitter) (next : ℕ) : Type 0 where
  pub part : Holds emitter_part s start (emitter_values e) next
  pub held : HeldEmitter e

abbrev pub EmitterTold : List ℕ → ℕ → Result (Emitter × ℕ) Refusal → Type 0
EmitterTold s start (Ok (e, next)) = EmitterHeld s start e next
EmitterTold s start (Err e) = Fails emitter_part s start e

-- ---- a room of n

-- its exchanges and its emitter, which stand behind its loss
abbrev pub rest_part : ℕ → Form → Form
rest_part n rest = times (n - 1) (floating not_below) (emitter_part rest)

abbrev pub rest_values : ℕ → Room → List ℤ
rest_values n room = tab (λ j. bits_of (exchange_at room j)) (n - 1) 0 ++ emitter_values room.emitter

pub record RestRead (s : List ℕ) (start n : ℕ) (loss : Float) (room : Room) (next : ℕ) : Type 0 where
  pub same : room.loss ≡ loss
  pub part : Holds (rest_part n) s start (rest_values n room) next
  pub tidy : TidyRoom n room
  pub exchanges : (j : ℕ) → j < n - 1 → Held (exchange_at room j)
  pub emitter : HeldEmitter room.emitter

abbrev pub RestTold : List ℕ → ℕ → ℕ → Float → Result (Room × ℕ) Refusal → Type 0
RestTold s start n loss (Ok (room, next)) = RestRead s start n loss room next
RestTold s start n loss (Err e) = Fails (rest_part n) s start e

pub record RoomHeld (s : List ℕ) (start n : ℕ) (room : Room) (next : ℕ) : Type 0 where
  pub part : Holds (room_form n) s start (room_values n room) next
  pub tidy : TidyRoom n room
  pub held : HeldRoom n room

abbrev pub RoomTold : List ℕ → ℕ → ℕ → Result (Room × ℕ) Refusal → Type 0
RoomTold s start n (Ok (room, next)) = RoomHeld s start n room next
RoomTold s start n (Err e) = Fails (room_form n) s start e

-- ---- n rooms

abbrev pub values_of_room : ℕ → List Room → ℕ → List ℤ
values_of_room n rooms i = room_values n (get_or rooms i no_room)

pub record RoomsHeld (s : List ℕ) (start n : ℕ) (rooms : List Room) (next : ℕ) : Type 0 where
  pub part : Holds (times n (room_form n)) s start (tabs (values_of_room n rooms) n 0) next
  pub filled : FilledBy no_room 4 n rooms
  pub tidy : (i : ℕ) → i < n → TidyRoom n (get_or rooms i no_room)
  pub held : (i : ℕ) → i < n → HeldRoom n (get_or rooms i no_room)

abbrev pub RoomsTold : List ℕ → ℕ → ℕ → Result (List Room × ℕ) Refusal → Type 0
RoomsTold s start n (Ok (rooms, next)) = RoomsHeld s start n rooms next
RoomsTold s start n (Err e) = Fails (times n (room_form n)) s start e

-- ---- the bytes written

abbrev pub exchange_bytes : List Float → ℕ → List ℕ
exchange_bytes xs j = float_bytes (get_or xs j zero_f)

abbrev pub emitter_bytes : Emitter → List ℕ
emitter_bytes Emitter.None = bytes_of 0
emitter_bytes (Emitter.Heater p water) = bytes_of 1 ++ (float_bytes p ++ float_bytes water)
emitter_bytes (Emitter.Steady rate) = bytes_of 2 ++ float_bytes rate

abbrev pub room_bytes : ℕ → Room → List ℕ
room_bytes n room = float_bytes room.loss ++ (tabs (exchange_bytes room.exchange) (n - 1) 0 ++ emitter_bytes room.emitter)

abbrev pub bytes_of_room : ℕ → List Room → ℕ → List ℕ
bytes_of_room n rooms i = room_bytes n (get_or rooms i no_room)
