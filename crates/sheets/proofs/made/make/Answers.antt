-- `made::make` puts the parts together. Assumes nothing.
use mathlib.Core.Path.{sym}
use native.Mathlib.Omega.{arith}
use Rattle.std.proofs.lemmas.Result.{err_from_is_err_and}
use Rattle.sheets.proofs.made.Laws.{rows_few, count-few}
use Rattle.sheets.proofs.made.Numbers.{bands-stop, entries-stop, made-is, coef-is}
use Rattle.sheets.proofs.made.make.Goals as goal

pub returns-in_err-ends-clause-plant : goal.returns-in_err-ends-clause-plant
returns-in_err-ends-clause-plant c =
    let p = err_from_is_err_and c.from_residual.result c.from_residual.ensures.1 in
    rw (p.1, p.2) (sym (bands-stop c.args.h c.requires.sized _ (sym c.in_err-ends.ensures)))

pub overflow_mul-modes : goal.overflow_mul-modes
overflow_mul-modes c = rw c.modes-modes.ensures (record { fits = omega (arith, rows_few c.args.h c.requires.sized) })

pub overflow_mul-modes-2 : goal.overflow_mul-modes-2
overflow_mul-modes-2 c = rw c.modes-modes.ensures (record { fits = omega (arith, count-few c.args.h c.requires.sized) })

pub coefficients-requires-clause-fact_2 : goal.coefficients-requires-clause-fact_2
coefficients-requires-clause-fact_2 c = rw c.modes-modes.ensures (count-few c.args.h c.requires.sized)

pub returns-in_err-coefficients-clause-plant : goal.returns-in_err-coefficients-clause-plant
returns-in_err-coefficients-clause-plant c =
    let p = err_from_is_err_and c.from_residual-in_err-coefficients.result c.from_residual-in_err-coefficients.ensures.1 in
    rw (p.1, p.2) (sym (entries-stop c.args.h c.requires.sized _ (sym c.in_ok-ends.ensures) _ (rw c.modes-modes.ensures at c.in_err-coefficients.ensures)))

pub returns-clause-plant : goal.returns-clause-plant
returns-clause-plant c =
    rw c.modes-modes.ensures (made-is c.args.h c.requires.sized _ (sym c.in_ok-ends.ensures) _ (rw c.modes-modes.ensures at c.in_ok-coefficients.ensures))

pub returns-clause-coef : goal.returns-clause-coef
returns-clause-coef c = coef-is c.args.h c.requires.sized _ (sym c.in_ok-ends.ensures) _ (rw c.modes-modes.ensures at c.in_ok-coefficients.ensures)
