-- `rooms::read_room`: the loss, then the rest. Assumes nothing.
use Rattle.std.proofs.Common.{rules}
use Rattle.std.proofs.lemmas.Result.{err_from_is_err_and}
use Rattle.sheets.proofs.rooms.Laws.{loss-cut, rest-told}
use Rattle.sheets.proofs.rooms.read_room.Goals as goal

pub returns-in_err-loss : goal.returns-in_err-loss
returns-in_err-loss c =
    let p = err_from_is_err_and c.from_residual.result c.from_residual.ensures.1 in
    rw (p.1, p.2) (loss-cut c.args.s.now c.args.at c.args.n _ c.in_err-loss.ensures)

pub returns : goal.returns
returns c = search (rules, rest-told)
