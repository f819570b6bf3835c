-- Rooms read against the form: exchanges by their loop, an emitter by its number, a room by its parts, rooms by their loop.
-- Relies on promises' page SheetRooms, and on files' pages FieldLaws and Parts.
use Rattle.std.specs.Prelude.{Some, None, Ok, Err, Result, ℕ}
use Prim.Native.Nat.{ℕ, ◌+◌, ◌-◌, ◌≤◌, ◌<◌}
use mathlib.Core.Path.{◌≡◌, refl, ap, ◌∙◌}
use mathlib.Core.Bool.{true}
use mathlib.Core.List.{List, [], ◌∷◌}
use native.Mathlib.Omega.{arith}
use native.Mathlib.Decide.{ℕ_discrete}
use lib.ListN.{length, get_or, set, replicate}
use lib.Seq.{get_or-set_same}
use lib.IntN.{pos}
use lib.Ieee.{Float}
use borrow.Author.Tests.{le-leb, lt-leb}
use Rattle.std.proofs.lemmas.List.{get_or_default}
use Rattle.laws.specs.Columns.{tab-tabs}
use Rattle.laws.specs.Tabs.{FilledBy, filling-none, filling-more, get_d-below}
use Rattle.laws.specs.Writing.{Put}
use Rattle.meaning.specs.declared.Refusal.{Refusal}
use Rattle.meaning.specs.declared.Emitter.{Emitter}
use Rattle.meaning.specs.declared.Room.{Room}
use Rattle.meaning.specs.Numbers.{number_at}
use Rattle.meaning.specs.Refusals.{broken, unfit}
use Rattle.meaning.specs.Files.{before}
use Rattle.meaning.specs.Plants.{from, times}
use Rattle.meaning.specs.Sheets.{zero_f, bits_of, floating, not_below, emitter_form, room_form, no_room, emitter_values, room_values}
use Rattle.promises.specs.Sheets.SheetRooms.{Held, HeldRoom, TidyRoom}
use Rattle.files.specs.FieldLaws.{taken-right, taken-wrong, not_taken}
use Rattle.files.specs.Parts.{behind, Fails, holds_then, holds-fails, fails-then, Rows, rows_none, rows_more, rows-fails, rows_all}
use Rattle.sheets.specs.Floats.{Floated}
use Rattle.sheets.specs.Rooms.{exchange_bits, ExchangesRead, kind_of, own_values, own_part, emitter_part, OwnRead, OwnTold, EmitterHeld, EmitterTold, rest_part, RestRead, RestTold, values_of_room, RoomHeld, RoomTold, RoomsHeld, room_bytes, bytes_of_room}

-- ---- the loop over exchanges: j of m are done

pub record ExchangesUpTo (s : List ℕ) (start m j p : ℕ) (xs : List Float) : Type 0 where
  pub rows : Rows (floating not_below) (exchange_bits xs) s start m j p
  pub filled : FilledBy zero_f 3 j xs
  pub held : (k : ℕ) → k < j → Held (get_or xs k zero_f)

pub exchanges-none : (s : List ℕ) (start m : ℕ) → ExchangesUpTo s start m 0 start (replicate 3 zero_f)
exchanges-none s start m = record {
  rows = rows_none (floating not_below) (exchange_bits (replicate 3 zero_f)) s start m;
  filled = filling-none zero_f 3;
  held = λ k h. absurd (omega arith);
}

module _ {s : List ℕ} {start m j p : ℕ} {xs : List Float} (w : ExchangesUpTo s start m j p xs) where
  pub exchanges-more : (g : Float) (next : ℕ) → j < m → m ≤ 3 → Floated not_below s p g next → ExchangesUpTo s start m (j + 1) next (set xs j g)
  exchanges-more g next h l t = record {
    rows = rows_more w.rows (exchange_bits (set xs j g)) next h (λ k a. ap (λ (x : Float). bits_of x ∷ []) (get_d-below zero_f xs j g k a)) (rw new t.part);
    filled = filling-more zero_f g w.filled;
    held = λ k a. each k a (ℕ_discrete k j);
  }
    where
      new : get_or (set xs j g) j zero_f ≡ g
      new = get_or-set_same xs j g zero_f (omega (arith, w.filled.size))

      each : (k : ℕ) → k < j + 1 → Dec (k ≡ j) → Held (get_or (set xs j g) k zero_f)
      each k a (yes e) = rw (e, new) t.held
      each k a (no e) = let c : k < j = omega arith in rw (get_d-below zero_f xs j g k c) (w.held k c)

  pub exchanges-fails : (e : Refusal) → j < m → Fails (floating not_below) s p e → Fails (times m (floating not_below)) s start e
  exchanges-fails e h t = rows-fails w.rows h t

  pub exchanges-all : m ≤ j → ExchangesRead s start m xs p
  exchanges-all h =
      let q : j ≡ m = omega (arith, w.rows.few) in
      record { part = rows_all w.rows h; filled = rw q at w.filled; held = λ k a. w.held k (omega arith) }

-- ---- an emitter's own values, then its number in front of them

module _ (s : List ℕ) (start : ℕ) where
  pub none_read : OwnRead 0 s start Emitter.None start
  unfolding behind
  none_read = record { same = refl; part = record { holds = λ rest. refl }; held = tt }

values-split : (e : Emitter) → emitter_values e ≡ pos (kind_of e) ∷ own_values e
values-split Emitter.None = refl
values-split (Emitter.Heater p water) = refl
values-split (Emitter.Steady rate) = refl

module _ (s : List ℕ) (start : ℕ) where
  pub kind-cut : number_at s start ≡ None → Fails emitter_part s start (broken start)
  kind-cut e = record { fails = λ rest. not_taken (from 0 2) (emitter_form rest) s start e }

  module _ (kind mid : ℕ) (e : number_at s start ≡ Some (kind, mid)) where
    pub kind-over : 2 < kind → Fails emitter_part s start (unfit start)
    kind-over h = record { fails = λ rest. taken-wrong (from 0 2) (emitter_form rest) s start kind mid e (let z : 0 ≤ kind = omega arith in simp (le-leb _ _ z, lt-leb _ _ h)) }

    module _ (h : kind ≤ 2) where
      in-range : from 0 2 kind ≡ true
      in-range = let z : 0 ≤ kind = omega arith in simp (le-leb _ _ z, le-leb _ _ h)

      own-fails : (r : Refusal) → Fails (own_part kind) s mid r → Fails emitter_part s start r
      own-fails r t = record {
        fails = λ rest. taken-right (from 0 2) (emitter_form rest) s start kind mid e in-range ∙ ap (before (pos kind)) (t.fails rest);
      }

      own_held : (m : Emitter) (next : ℕ) → OwnRead kind s mid m next → EmitterHeld s start m next
      unfolding behind
      own_held m next t = record {
        part = record {
          holds = λ rest.
              taken-right (from 0 2) (emitter_form rest) s start kind mid e in-range ∙ ap (before (pos kind)) (t.part.holds rest)
              ∙ rw (values-split m, t.same) refl;
        };
        held = t.held;
      }

      pub own-told : (r : Result (Emitter × ℕ) Refusal) → OwnTold kind s mid r → EmitterTold s start r
      own-told (Ok (m, next)) t = own_held m next t
      own-told (Err r) t = own-fails r t

-- ---- a room of n

module _ (s : List ℕ) (start n : ℕ) where
  module _ (xs : List Float) (mid : ℕ) (t : ExchangesRead s start (n - 1) xs mid) where
    pub emitter-cut : (e : Refusal) → Fails emitter_part s mid e → Fails (rest_part n) s start e
    emitter-cut e u = holds-fails t.part u

    pub rest_read : (loss : Float) (m : Emitter) (next : ℕ) → EmitterHeld s mid m next → RestRead s start n loss (record { loss = loss; exchange = xs; emitter = m }) next
    rest_read loss m next u = record {
      same = refl;
      part = rw (tab-tabs (λ j. bits_of (get_or xs j zero_f)) (n - 1) 0) (holds_then t.part u.part);
      tidy = t.filled;
      exchanges = t.held;
      emitter = u.held;
    }

  pub loss-cut : (e : Refusal) → Fails (floating not_below) s start e → Fails (room_form n) s start e
  unfolding room_form
  loss-cut e t = fails-then {g = rest_part n} t

  module _ (loss : Float) (mid : ℕ) (t : Floated not_below s start loss mid) where
    rest-cut : (e : Refusal) → Fails (rest_part n) s mid e → Fails (room_form n) s start e
    unfolding room_form
    rest-cut e u = holds-fails t.part u

    room-held : (room : Room) (next : ℕ) → RestRead s mid n loss room next → RoomHeld s start n room next
    unfolding room_form
    room-held room next u = record {
      part = rw u.same (holds_then t.part u.part);
      tidy = u.tidy;
      held = record { loss = rw u.same t.held; exchanges = u.exchanges; emitter = u.emitter };
    }

    pub rest-told : (r : Result (Room × ℕ) Refusal) → RestTold s mid n loss r → RoomTold s start n r
    rest-told (Ok (room, next)) u = room-held room next u
    rest-told (Err e) u = rest-cut e u

-- ---- the loop over rooms: i of n are done

pub record RoomsUpTo (s : List ℕ) (start n i p : ℕ) (rooms : List Room) : Type 0 where
  pub rows : Rows (room_form n) (values_of_room n rooms) s start n i p
  pub filled : FilledBy no_room 4 i rooms
  pub tidy : (k : ℕ) → k < i → TidyRoom n (get_or rooms k no_room)
  pub held : (k : ℕ) → k < i → HeldRoom n (get_or rooms k no_room)

pub rooms-none : (s : List ℕ) (start n : ℕ) → RoomsUpTo s start n 0 start (replicate 4 no_room)
rooms-none s start n = record {
  rows = rows_none (room_form n) (values_of_room n (replicate 4 no_room)) s start n;
  filled = filling-none no_room 4;
  tidy = λ k h. absurd (omega arith);
  held = λ k h. absurd (omega arith);
}

module _ {s : List ℕ} {start n i p : ℕ} {rooms : List Room} (w : RoomsUpTo s start n i p rooms) where
  pub rooms-more : (room : Room) (next : ℕ) → i < n → n ≤ 4 → RoomHeld s p n room next → RoomsUpTo s start n (i + 1) next (set rooms i room)
  rooms-more room next h l t = record {
    rows = rows_more w.rows (values_of_room n (set rooms i room)) next h (λ k a. ap (λ (x : Room). room_values n x) (get_d-below no_room rooms i room k a)) (rw new t.part);
    filled = filling-more no_room room w.filled;
    tidy = λ k a. each (TidyRoom n) t.tidy w.tidy k a (ℕ_discrete k i);
    held = λ k a. each (HeldRoom n) t.held w.held k a (ℕ_discrete k i);
  }
    where
      new : get_or (set rooms i room) i no_room ≡ room
      new = get_or-set_same rooms i room no_room (omega (arith, w.filled.size))

      each : (F : Room → Type 0) → F room → ((k : ℕ) → k < i → F (get_or rooms k no_room)) → (k : ℕ) → k < i + 1 → Dec (k ≡ i) → F (get_or (set rooms i room) k no_room)
      each F x more k a (yes e) = rw (e, new) x
      each F x more k a (no e) = let c : k < i = omega arith in rw (get_d-below no_room rooms i room k c) (more k c)

  pub rooms-fails : (e : Refusal) → i < n → Fails (room_form n) s p e → Fails (times n (room_form n)) s start e
  rooms-fails e h t = rows-fails w.rows h t

  pub rooms-all : n ≤ i → RoomsHeld s start n rooms p
  rooms-all h =
      let q : i ≡ n = omega (arith, w.rows.few) in
      record { part = rows_all w.rows h; filled = rw q at w.filled; tidy = λ k a. w.tidy k (omega arith); held = λ k a. w.held k (omega arith) }

-- ---- the room that is read out of the array and written

pub put-there : (n : ℕ) (rooms : List Room) (i : ℕ) (d : Room) {buf : List ℕ} {p r : ℕ} {out : List ℕ} → i < length rooms → Put buf p (room_bytes n (get_or rooms i d)) r out → Put buf p (bytes_of_room n rooms i) r out
put-there n rooms i d h t = rw (get_or_default rooms i no_room d h) t
