-- `lengths::total`: what is added so far and what is left come to the whole; k lengths below 2^35 are below k·2^35. Assumes nothing.
use mathlib.Core.Path.{sym, ◌∙◌}
use native.Mathlib.Omega.{arith}
use Rattle.promises.specs.Files.Numbers.{was}
use Rattle.tables.proofs.lengths.Laws.{total-done, total-broken, total-more}
use Rattle.tables.proofs.lengths.total.Goals as goal

pub returns-in_err-size : goal.returns-in_err-size
returns-in_err-size c = rw c.from_residual.ensures (total-broken c.args.table.now c.args.k c.loop.counter c.loop.sum c.loop.place (omega arith) (sym c.in_err-size.ensures) ∙ c.loop.invariant.1)

pub overflow_add-sum : goal.overflow_add-sum
overflow_add-sum c = omega (arith, c.loop.invariant.0, c.requires, (was c.in_ok-size.size c.loop.place c.in_ok-size.next c.args.table.now (sym c.in_ok-size.ensures)).0)

pub loop-preserved : goal.loop-preserved
loop-preserved c = (
  omega (arith, c.loop.invariant.0, (was c.in_ok-size.size c.loop.place c.in_ok-size.next c.args.table.now (sym c.in_ok-size.ensures)).0),
  total-more c.args.table.now c.args.k c.loop.counter c.loop.sum c.loop.place (omega arith) (sym c.in_ok-size.ensures) ∙ c.loop.invariant.1,
)

pub returns : goal.returns
returns c = total-done c.args.table.now c.args.k c.loop.counter c.loop.sum c.loop.place (omega arith) ∙ c.loop.invariant.1
