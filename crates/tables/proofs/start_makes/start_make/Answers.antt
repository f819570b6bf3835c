-- `start_makes::start_make`: arrays for few modes, or for any. Assumes nothing.
use native.Mathlib.Omega.{arith}
use Rattle.tables.proofs.arrays.Laws.{few-room, any-room}
use Rattle.tables.proofs.start_makes.start_make.Goals as goal

pub start_make_in-requires-clause-room : goal.start_make_in-requires-clause-room
start_make_in-requires-clause-room c = any-room _

pub start_make_in-requires-2-clause-room : goal.start_make_in-requires-2-clause-room
start_make_in-requires-2-clause-room c = few-room _ (omega (arith, c.if-modes_told-gt-FEW_MODES.false, c.modes_told.ensures))
