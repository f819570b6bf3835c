-- `control::idle_call`: each answer cites its law. Assumes nothing.
use Rattle.std.proofs.lemmas.Result.{err_from_is_err_and}
use mathlib.Core.Path.{◌∙◌}
use Rattle.tables.proofs.control.Laws.{found-refused, found-answers}
use Rattle.tables.proofs.control.idle_call.Goals as goal

pub returns-in_err-from : goal.returns-in_err-from
returns-in_err-from c =
    let a = c.args in
    let p = err_from_is_err_and c.from_residual-in_err-from.result c.from_residual-in_err-from.ensures.1 in
    rw (p.1, p.2) (found-refused a.f a.table.now a.x a.at a.place c.admit.ensures c.in_ok-admit.was c.counts_of.ensures c.edges_of-edges.ensures c.depth-depth.ensures c.find.ensures c.in_err-from.was)

pub returns : goal.returns
returns c =
    let a = c.args in
    c.answer.ensures ∙ found-answers a.f a.table.now a.x a.at a.place c.admit.ensures c.in_ok-admit.was c.counts_of.ensures c.edges_of-edges.ensures c.depth-depth.ensures c.find.ensures c.in_ok-from.was
