-- `modes::read_further`: mode by mode. Relies on page Reading.
use native.Mathlib.Omega.{arith}
use Rattle.std.proofs.lemmas.Result.{err_from_is_err_and}
use Rattle.files.proofs.modes.Reading.{further-none, further-more, further-stop, further-all}
use Rattle.files.proofs.modes.read_further.Goals as goal

pub loop-u-init : goal.loop-u-init
loop-u-init c = further-none c.args.s.now c.args.b c.args.at c.args.related c.args.bands.now c.args.coef.now c.requires.2

pub returns-in_err-thin : goal.returns-in_err-thin
returns-in_err-thin c =
    let z = c.args in
    let p = err_from_is_err_and c.from_residual.result c.from_residual.ensures.1 in
    rw (p.1, p.2) (further-stop z.s.now z.b z.at c.loop-u.invariant c.in_err-thin.field-0.0 (omega arith) c.in_err-thin.ensures)

pub loop-u-preserved : goal.loop-u-preserved
loop-u-preserved c =
    let z = c.args in
    let m = c.in_ok-thin in
    rw c.after-told.ensures (further-more z.s.now z.b z.at c.loop-u.invariant m.thin m.next (omega arith) m.ensures)

pub returns : goal.returns
returns c = let z = c.args in further-all z.s.now z.b z.at c.loop-u.invariant (omega arith)
