-- `bands::widened` goes dimension by dimension. Assumes nothing.
use Rattle.sheets.proofs.bands.Laws.{BandsUpTo}
use Rattle.sheets.proofs.bands.widened.Given as goal

abbrev pub invariant-loop-i : goal.invariant-loop-i
invariant-loop-i l = BandsUpTo l.h l.i l.ends
