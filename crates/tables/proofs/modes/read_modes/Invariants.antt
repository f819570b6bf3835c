-- `modes::read_modes` reads the modes one after another. Each return cites the law of the mode that it stops at. Assumes nothing.
use Rattle.tables.proofs.modes.Laws.{ModesUpTo}
use Rattle.tables.proofs.modes.read_modes.Given as goal

abbrev pub invariant-loop-i : goal.invariant-loop-i
invariant-loop-i l = ModesUpTo l.modes l.k l.table l.at l.i l.w l.us
