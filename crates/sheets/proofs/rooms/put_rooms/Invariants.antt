-- `rooms::put_rooms`: what is left to write is the definition's rest. Assumes nothing.
use Prim.Native.Nat.{◌-◌}
use Rattle.laws.specs.Lists.{tabs}
use Rattle.laws.specs.Writing.{Under}
use Rattle.sheets.specs.Rooms.{bytes_of_room}
use Rattle.sheets.proofs.rooms.put_rooms.Given as goal

abbrev pub invariant-loop-room : goal.invariant-loop-room
invariant-loop-room l =
    let bytes = bytes_of_room l.n l.fn.rooms in
    Under l.initial.buf l.at (tabs bytes l.n 0) (tabs bytes (l.n - l.room-index) l.room-index) l.p l.buf
