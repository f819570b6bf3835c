-- `modes::read_modes` reads the modes one after another. Each return cites the law of the mode that it stops at. Assumes nothing.
use Rattle.std.proofs.lemmas.Result.{err_from_is_err_and}
use mathlib.Core.Path.{refl, sym, ap, ◌∙◌}
use native.Mathlib.Omega.{arith}
use Rattle.meaning.specs.Files.{refused}
use Rattle.tables.proofs.modes.Laws.{modes-none, modes-all, modes-end, modes-past, modes-next}
use Rattle.tables.proofs.refusals.Laws.{there, nothing}
use Rattle.tables.proofs.modes.read_modes.Goals as goal

pub loop-i-init : goal.loop-i-init
loop-i-init c = modes-none c.args.modes c.args.k c.args.table.now c.args.at _ refl

pub returns-in_err-u : goal.returns-in_err-u
returns-in_err-u c =
    let a = c.args in
    let l = c.loop-i in
    let p = err_from_is_err_and c.from_residual.result c.from_residual.ensures.1 in
    let h = nothing c.number.result c.broken.result c.in_err-u.ensures.value in
    rw (p.1, p.2, h.1) (ap refused c.broken.ensures ∙ modes-end a.modes a.k a.table.now a.at l.i l.w l.us l.invariant (omega arith) (sym c.number.ensures ∙ h.0))

pub returns-then-modes-u : goal.returns-then-modes-u
returns-then-modes-u c =
    let a = c.args in
    let l = c.loop-i in
    ap refused c.bad_table.ensures ∙ modes-past a.modes a.k a.table.now a.at l.i l.w l.us l.invariant (omega arith) c.in_ok-u.u c.in_ok-u.next (sym c.number.ensures ∙ there c.number.result c.broken.result c.in_ok-u.ensures.value) c.if-modes-u.true

pub loop-i-preserved : goal.loop-i-preserved
loop-i-preserved c =
    let a = c.args in
    let l = c.loop-i in
    modes-next a.modes a.k a.table.now a.at l.i l.w l.us l.invariant (omega arith) c.in_ok-u.u c.in_ok-u.next (sym c.number.ensures ∙ there c.number.result c.broken.result c.in_ok-u.ensures.value) c.if-modes-u.false c.requires

pub returns : goal.returns
returns c =
    let a = c.args in
    let l = c.loop-i in
    modes-all a.modes a.k a.table.now a.at l.i l.w l.us l.invariant (omega arith)
