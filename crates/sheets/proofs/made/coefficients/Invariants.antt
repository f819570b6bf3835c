-- `made::coefficients` goes place by place. Assumes nothing.
use Rattle.sheets.specs.Made.{most_entries, entry_at}
use Rattle.sheets.proofs.wholes.Counts.{FitUpTo}
use Rattle.sheets.proofs.made.coefficients.Given as goal

abbrev pub invariant-loop-p : goal.invariant-loop-p
invariant-loop-p l = FitUpTo most_entries (entry_at l.h) l.count l.p l.coef
