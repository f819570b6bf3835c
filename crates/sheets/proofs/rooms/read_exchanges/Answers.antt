-- `rooms::read_exchanges` reads float by float. Assumes nothing.
use native.Mathlib.Omega.{arith}
use Rattle.std.proofs.lemmas.Result.{err_from_is_err_and}
use Rattle.sheets.proofs.floats.Laws.{zero_is}
use Rattle.sheets.proofs.rooms.Laws.{exchanges-none, exchanges-more, exchanges-fails, exchanges-all}
use Rattle.sheets.proofs.rooms.read_exchanges.Goals as goal

pub loop-j-init : goal.loop-j-init
loop-j-init c = rw zero_is (exchanges-none c.args.s.now c.args.at c.args.m)

pub returns-in_err-g : goal.returns-in_err-g
returns-in_err-g c =
    let p = err_from_is_err_and c.from_residual.result c.from_residual.ensures.1 in
    rw (p.1, p.2) (exchanges-fails c.loop-j.invariant _ (omega arith) c.in_err-g.ensures)

pub loop-j-preserved : goal.loop-j-preserved
loop-j-preserved c = exchanges-more c.loop-j.invariant c.in_ok-g.g c.in_ok-g.next (omega arith) (omega arith) c.in_ok-g.ensures

pub returns : goal.returns
returns c = exchanges-all c.loop-j.invariant (omega arith)
