-- `modes::read_mode`: bands, then rows. Relies on page Reading.
use native.Mathlib.Omega.{arith}
use Rattle.std.proofs.lemmas.Result.{err_from_is_err_and}
use Rattle.files.proofs.modes.Laws.{size_few, rows_few}
use Rattle.files.proofs.modes.Reading.{mode-bands-refused, mode-rows-refused, mode-held}
use Rattle.files.proofs.modes.read_mode.Goals as goal

pub first_narrow-thin-requires : goal.first_narrow-thin-requires
first_narrow-thin-requires c = record { fact_1 = c.requires.sizes.0; fact_2 = c.requires.sizes.1; fact_3 = c.in_ok-w.ensures.sizes }

pub overflow_mul-n : goal.overflow_mul-n
overflow_mul-n c = omega (arith, size_few c.args.n c.requires.sizes.0)

pub read_rows-requires : goal.read_rows-requires
read_rows-requires c = (c.requires.sizes.0, omega (arith, rows_few c.args.n c.args.u c.requires.sizes.0 c.requires.sizes.2))

pub returns-in_err-w : goal.returns-in_err-w
returns-in_err-w c =
    let z = c.args in
    let p = err_from_is_err_and c.from_residual.result c.from_residual.ensures.1 in
    rw (p.1, p.2) (mode-bands-refused z.s.now z.at z.n z.q z.u c.in_err-w.field-0.0 c.in_err-w.ensures)

pub returns-in_err-next : goal.returns-in_err-next
returns-in_err-next c =
    let z = c.args in
    let r = c.in_ok-w in
    let p = err_from_is_err_and c.from_residual-in_err-next.result c.from_residual-in_err-next.ensures.1 in
    rw (p.1, p.2) (mode-rows-refused z.s.now z.at z.n z.q z.u r.w r.mid r.ensures c.in_err-next.field-0.0 c.in_err-next.ensures)

pub returns : goal.returns
returns c =
    let z = c.args in
    let r = c.in_ok-w in
    mode-held z.s.now z.at z.n z.q z.u r.w r.mid r.ensures c.first_narrow-thin.result c.in_ok-next.next c.lay.ensures c.in_ok-next.ensures c.first_narrow-thin.ensures
