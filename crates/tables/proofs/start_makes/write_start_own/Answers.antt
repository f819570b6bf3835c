-- `start_makes::write_start_own`: the smallest draft that is sure to have room for each table, for R0's and so for all. Assumes nothing.
use native.Mathlib.Omega.{arith}
use Rattle.tables.specs.Chains.{frame_at}
use Rattle.tables.specs.Frames.{FrameSound}
use Rattle.tables.proofs.drafts.Laws.{room_most, room-long, room-few}
use Rattle.tables.proofs.start_makes.write_start_own.Goals as goal

pub write_start-requires-clause-room : goal.write_start-requires-clause-room
write_start-requires-clause-room c = room_most _ (c.requires.1 0 (omega arith)).0

pub write_start-requires-then-f-le4-clause-room : goal.write_start-requires-then-f-le4-clause-room
write_start-requires-then-f-le4-clause-room c =
    let first : FrameSound (frame_at c.args.f c.args.edges.now 0) = (c.requires.1 0 (omega arith)).0 in
    room-few (frame_at c.args.f c.args.edges.now 0) first (omega (arith, c.if-f-gt-BRIEF.false)) c.if-f-le4.true

pub write_start-requires-2-clause-room : goal.write_start-requires-2-clause-room
write_start-requires-2-clause-room c =
    let first : FrameSound (frame_at c.args.f c.args.edges.now 0) = (c.requires.1 0 (omega arith)).0 in
    room-long (frame_at c.args.f c.args.edges.now 0) first (omega (arith, c.if-f-gt-BRIEF.false))
