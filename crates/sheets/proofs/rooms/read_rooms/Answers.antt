-- `rooms::read_rooms` reads room by room. Assumes nothing.
use native.Mathlib.Omega.{arith}
use Rattle.std.proofs.lemmas.Result.{err_from_is_err_and}
use Rattle.sheets.proofs.rooms.Laws.{rooms-none, rooms-more, rooms-fails, rooms-all}
use Rattle.sheets.proofs.rooms.read_rooms.Goals as goal

pub loop-i-init : goal.loop-i-init
loop-i-init c = rw c.no_room-rooms.ensures (rooms-none c.args.s.now c.args.at c.args.n)

pub returns-in_err-room : goal.returns-in_err-room
returns-in_err-room c =
    let p = err_from_is_err_and c.from_residual.result c.from_residual.ensures.1 in
    rw (p.1, p.2) (rooms-fails c.loop-i.invariant _ (omega arith) c.in_err-room.ensures)

pub loop-i-preserved : goal.loop-i-preserved
loop-i-preserved c = rooms-more c.loop-i.invariant c.in_ok-room.room c.in_ok-room.next (omega arith) (omega arith) c.in_ok-room.ensures

pub returns : goal.returns
returns c = rooms-all c.loop-i.invariant (omega arith)
