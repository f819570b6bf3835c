-- `modes::read_further`: mode by mode. Relies on page Reading.
use Rattle.files.specs.Modes.{FurtherTo}
use Rattle.files.proofs.modes.read_further.Given as goal

abbrev pub invariant-loop-u : goal.invariant-loop-u
invariant-loop-u l = FurtherTo l.s l.b l.at l.u l.initial.told l.told l.initial.bands l.initial.coef l.bands l.coef l.p
