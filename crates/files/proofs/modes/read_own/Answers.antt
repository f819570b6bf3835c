-- `modes::read_own`: mode 0, then the others. Relies on page Reading.
use native.Mathlib.Omega.{arith}
use Rattle.std.proofs.lemmas.Result.{err_from_is_err_and}
use Rattle.files.proofs.modes.Laws.{size_few}
use Rattle.files.proofs.modes.Reading.{own-cut, own-told}
use Rattle.files.proofs.modes.read_own.Goals as goal

pub read_rows-requires : goal.read_rows-requires
read_rows-requires c = (c.requires.0.n-high, omega (arith, size_few c.args.begun.beginning.n c.requires.0.n-high))

pub returns-in_err-mid : goal.returns-in_err-mid
returns-in_err-mid c =
    let p = err_from_is_err_and c.from_residual.result c.from_residual.ensures.1 in
    rw (p.1, p.2) (own-cut c.args.s.now c.args.begun.beginning c.args.begun.next c.requires.1 c.in_err-mid.field-0.0 c.in_err-mid.ensures)

pub returns : goal.returns
returns c =
    let a = c.args in
    let l = c.lay in
    let r = c.read_rows in
    let f = c.read_further in
    own-told a.s.now a.begun.beginning a.begun.next c.requires.1 a.bands.now a.coef.now l.new.bands r.new.coef f.new.bands f.new.coef
    c.requires.0.m-low c.requires.2 l.ensures c.in_ok-mid.ensures f.result f.ensures
