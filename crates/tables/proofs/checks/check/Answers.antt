-- `checks::check`: arrays for few modes, or for any. Assumes nothing.
use native.Mathlib.Omega.{arith}
use Rattle.tables.proofs.arrays.Laws.{few-room, any-room}
use Rattle.tables.proofs.checks.check.Goals as goal

pub check_in-requires-clause-room : goal.check_in-requires-clause-room
check_in-requires-clause-room c = any-room _

pub check_in-requires-2-clause-room : goal.check_in-requires-2-clause-room
check_in-requires-2-clause-room c = few-room _ (omega (arith, c.if-modes_told-gt-FEW_MODES.false, c.modes_told.ensures))
