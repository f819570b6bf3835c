-- `equations::loss_sums` goes room by room. Assumes nothing.
use Rattle.meaning.specs.Sheets.{zero_f}
use Rattle.sheets.specs.Equations.{sum_at}
use Rattle.sheets.proofs.equations.Laws.{StoredUpTo}
use Rattle.sheets.proofs.equations.loss_sums.Given as goal

abbrev pub invariant-loop-i : goal.invariant-loop-i
invariant-loop-i l = StoredUpTo zero_f (sum_at l.h) 4 l.i l.sums
