-- `floats::read_two`: the first, then the second. Assumes nothing.
use Rattle.std.proofs.Common.{rules}
use Rattle.std.proofs.lemmas.Result.{err_from_is_err_and}
use Rattle.sheets.specs.Floats.{ok_of}
use Rattle.sheets.proofs.floats.Laws.{second-cut, two-read}
use Rattle.sheets.proofs.floats.read_two.Goals as goal

pub returns-in_err-y : goal.returns-in_err-y
returns-in_err-y c =
    let z = c.args in
    let x = c.in_ok-x in
    let p = err_from_is_err_and c.from_residual-in_err-y.result c.from_residual-in_err-y.ensures.1 in
    rw (p.1, p.2) (second-cut (ok_of z.asked) z.s.now z.at x.x x.mid x.ensures _ c.in_err-y.ensures)

pub returns : goal.returns
returns c = search (rules, two-read)
