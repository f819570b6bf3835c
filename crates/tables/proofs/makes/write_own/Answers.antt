-- `makes::write_own`: the smallest draft that is sure to have room. Assumes nothing.
use native.Mathlib.Omega.{arith}
use Rattle.tables.proofs.drafts.Laws.{room_most, room-long, room-few}
use Rattle.tables.proofs.makes.write_own.Goals as goal

pub write_table-requires-clause-room : goal.write_table-requires-clause-room
write_table-requires-clause-room c = room_most c.args.f c.requires.0

pub write_table-requires-then-f-le4-clause-room : goal.write_table-requires-then-f-le4-clause-room
write_table-requires-then-f-le4-clause-room c = room-few c.args.f c.requires.0 (omega (arith, c.if-f-gt-BRIEF.false)) c.if-f-le4.true

pub write_table-requires-2-clause-room : goal.write_table-requires-2-clause-room
write_table-requires-2-clause-room c = room-long c.args.f c.requires.0 (omega (arith, c.if-f-gt-BRIEF.false))
