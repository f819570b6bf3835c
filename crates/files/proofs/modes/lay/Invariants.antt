-- `modes::lay`: the ends of a band one behind the other. Assumes nothing.
use Rattle.files.proofs.modes.Laws.{LaidTo}
use Rattle.files.proofs.modes.lay.Given as goal

abbrev pub invariant-loop-i : goal.invariant-loop-i
invariant-loop-i l = LaidTo l.n l.u l.w.lo l.w.hi l.initial.bands l.i l.bands
