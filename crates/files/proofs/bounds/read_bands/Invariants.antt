-- `bounds::read_bands` reads the bands dimension by dimension. Assumes nothing.
use Rattle.files.proofs.bounds.Laws.{BandsUpTo}
use Rattle.files.proofs.bounds.read_bands.Given as goal

abbrev pub invariant-loop-i : goal.invariant-loop-i
invariant-loop-i l = BandsUpTo l.s l.at l.n l.i l.p l.bands.lo l.bands.hi
