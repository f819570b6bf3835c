-- `plants::third_number`: each number as it was read. Relies on page Laws.
use mathlib.Core.Path.{sym}
use Rattle.files.proofs.plants.Laws.{form-broken, n-broken, modes-broken, modes-there}
use Rattle.files.proofs.plants.third_number.Goals as goal

pub returns-in_err-a : goal.returns-in_err-a
returns-in_err-a c = rw c.from_residual.ensures (form-broken c.args.s.now (sym c.in_err-a.ensures))

pub returns-in_err-b : goal.returns-in_err-b
returns-in_err-b c = rw c.from_residual-in_err-b.ensures (n-broken c.args.s.now (sym c.in_ok-a.ensures) (sym c.in_err-b.ensures))

pub returns-in_err-third : goal.returns-in_err-third
returns-in_err-third c = rw c.from_residual-in_err-third.ensures (modes-broken c.args.s.now (sym c.in_ok-a.ensures) (sym c.in_ok-b.ensures) (sym c.in_err-third.ensures))

pub returns : goal.returns
returns c = modes-there c.args.s.now (sym c.in_ok-a.ensures) (sym c.in_ok-b.ensures) (sym c.in_ok-third.ensures)
