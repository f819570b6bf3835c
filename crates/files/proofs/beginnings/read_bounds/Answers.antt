-- `beginnings::read_bounds`: edges, then bands. Relies on page Laws.
use Rattle.std.proofs.lemmas.Result.{err_from_is_err_and}
use Rattle.files.proofs.beginnings.Laws.{edges-refused, bands-refused, bounds-read}
use Rattle.files.proofs.beginnings.read_bounds.Goals as goal

pub returns-in_err-root : goal.returns-in_err-root
returns-in_err-root c =
    let z = c.args in
    let p = err_from_is_err_and c.from_residual.result c.from_residual.ensures.1 in
    rw (p.1, p.2) (edges-refused z.s.now z.h z.at c.in_err-root.field-0.0 c.in_err-root.ensures)

pub returns-in_err-bands : goal.returns-in_err-bands
returns-in_err-bands c =
    let z = c.args in
    let e = c.in_ok-root in
    let p = err_from_is_err_and c.from_residual-in_err-bands.result c.from_residual-in_err-bands.ensures.1 in
    rw (p.1, p.2) (bands-refused z.s.now z.h z.at e.root e.safe e.mid e.ensures c.in_err-bands.field-0.0 c.in_err-bands.ensures)

pub returns : goal.returns
returns c =
    let z = c.args in
    let e = c.in_ok-root in
    bounds-read z.s.now z.h z.at e.root e.safe e.mid e.ensures c.in_ok-bands.bands c.in_ok-bands.next c.in_ok-bands.ensures
