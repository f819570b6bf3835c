-- `modes::lay_alike`: mode by mode, as long as there is room. Assumes nothing.
use Rattle.files.proofs.modes.Laws.{AlikeTo}
use Rattle.files.proofs.modes.lay_alike.Given as goal

abbrev pub invariant-loop-u : goal.invariant-loop-u
invariant-loop-u l = AlikeTo l.n l.modes l.w.lo l.w.hi l.initial.bands l.u l.bands
