-- `start_control::call_behind`: the lengths up to the table, then the call on it. Assumes nothing.
use Rattle.std.specs.Prelude.{Ok, Err}
use Rattle.std.proofs.lemmas.Result.{err_from_is_err_and}
use mathlib.Core.Path.{sym, ap, ◌∙◌}
use native.Mathlib.Omega.{arith}
use Rattle.meaning.specs.declared.StartState.{StartState}
use Rattle.tables.proofs.parts.Laws.{behind-within}
use Rattle.tables.proofs.start_control.Laws.{behind-refused, behind-moved, behind-answered, behind-movable}
use Rattle.tables.proofs.start_control.call_behind.Goals as goal

pub returns-in_err-first : goal.returns-in_err-first
returns-in_err-first c =
    let s = c.args in
    let p = err_from_is_err_and c.from_residual.result c.from_residual.ensures.1 in
    rw (p.1, p.2) (behind-refused s.f s.start.now s.at s.i s.st s.x c.part_behind.ensures c.in_err-first.was)

pub overflow_add-end : goal.overflow_add-end
overflow_add-end c = omega (arith, behind-within c.args.start.now c.args.i c.args.at _ _ (sym c.in_ok-first.ensures))

pub slice_bounds-call-end : goal.slice_bounds-call-end
slice_bounds-call-end c = behind-within c.args.start.now c.args.i c.args.at _ _ (sym c.in_ok-first.ensures)

pub moved-requires : goal.moved-requires
moved-requires c =
    let s = c.args in
    behind-movable s.f s.start.now s.at s.i s.st s.x c.part_behind.ensures c.in_ok-first.was c.call.ensures (omega arith) c.in-Err.is

pub returns-in-Err : goal.returns-in-Err
returns-in-Err c =
    let s = c.args in
    ap Err c.moved.ensures ∙ behind-moved s.f s.start.now s.at s.i s.st s.x c.part_behind.ensures c.in_ok-first.was c.call.ensures c.in-Err.is

pub returns-in-Ok : goal.returns-in-Ok
returns-in-Ok c =
    let s = c.args in
    ap (λ (s : StartState). Ok (c.in-Ok.u, s)) c.state_in.ensures ∙ behind-answered s.f s.start.now s.at s.i s.st s.x c.part_behind.ensures c.in_ok-first.was c.call.ensures c.in-Ok.is
