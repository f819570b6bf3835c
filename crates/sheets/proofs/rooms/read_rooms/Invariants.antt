-- `rooms::read_rooms` reads room by room. Assumes nothing.
use Rattle.sheets.proofs.rooms.Laws.{RoomsUpTo}
use Rattle.sheets.proofs.rooms.read_rooms.Given as goal

abbrev pub invariant-loop-i : goal.invariant-loop-i
invariant-loop-i l = RoomsUpTo l.s l.at l.n l.i l.p l.rooms
