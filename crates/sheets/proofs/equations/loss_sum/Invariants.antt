-- `equations::loss_sum`: what is summed so far and what is left give the whole sum. Assumes nothing.
use Prim.Native.Nat.{◌-◌}
use mathlib.Core.Path.{◌≡◌}
use Rattle.laws.specs.Lists.{tab}
use Rattle.meaning.specs.Sheets.{exchange_at, sum_from}
use Rattle.sheets.proofs.equations.loss_sum.Given as goal

abbrev pub invariant-loop-g : goal.invariant-loop-g
invariant-loop-g l =
    let g = exchange_at l.fn.room in
    sum_from l.s (tab g (l.n - 1 - l.g-index) l.g-index) ≡ sum_from l.loss (tab g (l.n - 1) 0)
