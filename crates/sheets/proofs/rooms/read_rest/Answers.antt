-- `rooms::read_rest`: exchanges, then the emitter. Assumes nothing.
use Rattle.std.proofs.Common.{rules}
use Rattle.sheets.proofs.rooms.Laws.{emitter-cut, rest_read}
use Rattle.std.proofs.lemmas.Result.{err_from_is_err_and}
use Rattle.sheets.proofs.rooms.read_rest.Goals as goal

pub returns-in_err-emitter : goal.returns-in_err-emitter
returns-in_err-emitter c =
    let z = c.args in
    let p = err_from_is_err_and c.from_residual-in_err-emitter.result c.from_residual-in_err-emitter.ensures.1 in
    rw (p.1, p.2) (emitter-cut z.s.now z.at z.n _ _ c.in_ok-exchange.ensures _ c.in_err-emitter.ensures)

pub returns : goal.returns
returns c = search (rules, rest_read)
