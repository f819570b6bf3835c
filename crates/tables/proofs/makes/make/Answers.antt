-- `makes::make`: arrays for few modes, or for any. Assumes nothing.
use native.Mathlib.Omega.{arith}
use Rattle.tables.proofs.arrays.Laws.{few-room, any-room}
use Rattle.tables.proofs.makes.make.Goals as goal

pub make_in-requires-clause-room : goal.make_in-requires-clause-room
make_in-requires-clause-room c = any-room _

pub make_in-requires-2-clause-room : goal.make_in-requires-2-clause-room
make_in-requires-2-clause-room c = few-room _ (omega (arith, c.if-modes_told-gt-FEW_MODES.false, c.modes_told.ensures))
