-- `lengths::behind`: what is left from here is the whole. Assumes nothing.
use Rattle.std.specs.Prelude.{Err}
use Rattle.std.proofs.lemmas.Result.{err_from_is_err_and}
use mathlib.Core.Path.{sym, ap, ◌∙◌}
use native.Mathlib.Omega.{arith}
use Rattle.tables.proofs.lengths.Laws.{behind-done, behind-broken, behind_more}
use Rattle.tables.proofs.refusals.Laws.{there, nothing}
use Rattle.tables.proofs.lengths.behind.Goals as goal

pub returns-in_err-next : goal.returns-in_err-next
returns-in_err-next c =
    let p = err_from_is_err_and c.from_residual.result c.from_residual.ensures.1 in
    let h = nothing c.number.result c.broken.result c.in_err-next.ensures.value in
    rw (p.1, p.2, h.1) (ap Err c.broken.ensures ∙ behind-broken c.args.table.now c.args.k c.loop.counter c.loop.place (omega arith) (sym c.number.ensures ∙ h.0) ∙ c.loop.invariant)

pub loop-preserved : goal.loop-preserved
loop-preserved c = behind_more c.args.table.now c.args.k c.loop.counter c.loop.place (omega arith) (sym c.number.ensures ∙ there c.number.result c.broken.result c.in_ok-next.ensures.value) ∙ c.loop.invariant

pub returns : goal.returns
returns c = behind-done c.args.table.now c.args.k c.loop.counter c.loop.place (omega arith) ∙ c.loop.invariant
