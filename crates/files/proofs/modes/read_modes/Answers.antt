-- `modes::read_modes`: by the form. Relies on page Reading.
use native.Mathlib.Omega.{arith}
use native.Mathlib.Nat.{mul-le-mul}
use borrow.Author.Tests.{eq-eqb, ne_eqb}
use Rattle.std.proofs.lemmas.Result.{err_from_is_err_and}
use Rattle.promises.specs.Files.PlantShapes.{numbers-few}
use Rattle.files.proofs.modes.Reading.{alike-held, alike-cut}
use Rattle.files.proofs.modes.read_modes.Goals as goal

pub read_own-requires : goal.read_own-requires
read_own-requires c = (c.requires.0, eq-eqb _ _ c.if-b-eq2.true, c.requires.1)

pub overflow_mul-b : goal.overflow_mul-b
overflow_mul-b c = let z = c.requires.0 in omega (arith, mul-le-mul z.m-high z.n-high)

pub read_rows-requires : goal.read_rows-requires
read_rows-requires c = (c.requires.0.n-high, omega (arith, numbers-few c.args.begun.beginning.m c.args.begun.beginning.n c.requires.0.n-high c.requires.0.m-high))

pub returns-in_err-next : goal.returns-in_err-next
returns-in_err-next c =
    let a = c.args in
    let p = err_from_is_err_and c.from_residual.result c.from_residual.ensures.1 in
    rw (p.1, p.2) (alike-cut a.s.now a.begun.beginning a.begun.next c.requires.0.m-low (ne_eqb _ _ c.if-b-eq2.false) c.in_err-next.field-0.0 c.in_err-next.ensures)

pub returns : goal.returns
returns c =
    let a = c.args in
    alike-held a.s.now a.begun.beginning a.begun.next c.requires.0.m-low (ne_eqb _ _ c.if-b-eq2.false) c.lay_alike.ensures c.requires.1 c.in_ok-next.ensures
