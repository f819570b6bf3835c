-- `lengths::ends`: what is left from here is the whole. Assumes nothing.
use Rattle.std.specs.Prelude.{Err}
use Rattle.std.proofs.lemmas.Result.{err_from_is_err_and}
use mathlib.Core.Path.{sym, ap, ◌∙◌}
use native.Mathlib.Omega.{arith}
use Rattle.tables.proofs.lengths.Laws.{ends-done, ends-broken, ends-past, ends_more}
use Rattle.tables.proofs.refusals.Laws.{there, nothing}
use Rattle.tables.proofs.lengths.ends.Goals as goal

pub returns-in_err-size : goal.returns-in_err-size
returns-in_err-size c =
    let p = err_from_is_err_and c.from_residual.result c.from_residual.ensures.1 in
    let h = nothing c.number.result c.broken.result c.in_err-size.ensures.value in
    rw (p.1, p.2, h.1) (ap Err c.broken.ensures ∙ ends-broken c.args.table.now c.args.k c.loop.counter c.loop.cursor c.loop.place (omega arith) (sym c.number.ensures ∙ h.0) ∙ c.loop.invariant.1)

pub returns-then-room-size : goal.returns-then-room-size
returns-then-room-size c =
    ap Err c.bad_table.ensures
    ∙ ends-past c.args.table.now c.args.k c.loop.counter c.loop.cursor c.loop.place (omega arith) (sym c.number.ensures ∙ there c.number.result c.broken.result c.in_ok-size.ensures.value) (omega (arith, c.if-room-size.true, c.loop.invariant.0)) ∙ c.loop.invariant.1

pub loop-preserved : goal.loop-preserved
loop-preserved c = (
  omega (arith, c.if-room-size.false, c.loop.invariant.0),
  ends_more c.args.table.now c.args.k c.loop.counter c.loop.cursor c.loop.place (omega arith) (sym c.number.ensures ∙ there c.number.result c.broken.result c.in_ok-size.ensures.value) (omega (arith, c.if-room-size.false, c.loop.invariant.0))
      ∙ c.loop.invariant.1,
)

pub returns : goal.returns
returns c = ends-done c.args.table.now c.args.k c.loop.counter c.loop.cursor c.loop.place (omega arith) ∙ c.loop.invariant.1
