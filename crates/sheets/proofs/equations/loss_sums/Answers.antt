-- `equations::loss_sums` goes room by room. Assumes nothing.
use native.Mathlib.Omega.{arith}
use Rattle.meaning.specs.Sheets.{zero_f}
use Rattle.sheets.specs.Equations as Q
use Rattle.sheets.specs.Equations.{sum_at}
use Rattle.sheets.proofs.equations.Laws.{stored-all}
use Rattle.sheets.proofs.equations.loss_sums.Goals as goal

pub returns : goal.returns
unfolding Q.sums_of
returns c =
    let h = c.args.h in
    stored-all zero_f (sum_at h) 4 h.n c.loop-i.i c.loop-i.sums (omega arith) (omega arith) (omega arith) c.loop-i.invariant
