-- `parts::part_behind`: what is left from here is the whole. Assumes nothing.
use Rattle.std.proofs.lemmas.Result.{err_from_is_err_and}
use mathlib.Core.Path.{sym, ◌∙◌}
use native.Mathlib.Omega.{arith}
use Rattle.tables.proofs.parts.Laws.{part-within, behind-done, behind_more, behind-stopped}
use Rattle.tables.proofs.parts.part_behind.Goals as goal

pub returns-in_err-first : goal.returns-in_err-first
returns-in_err-first c =
    let p = err_from_is_err_and c.from_residual.result c.from_residual.ensures.1 in
    rw (p.1, p.2) (behind-stopped c.args.s.now c.args.i c.loop.counter c.loop.place (omega arith) (sym c.in_err-first.ensures) ∙ c.loop.invariant)

pub overflow_add-place : goal.overflow_add-place
overflow_add-place c = omega (arith, part-within c.args.s.now c.loop.place _ _ (sym c.in_ok-first.ensures))

pub loop-preserved : goal.loop-preserved
loop-preserved c = behind_more c.args.s.now c.args.i c.loop.counter c.loop.place (omega arith) (sym c.in_ok-first.ensures) ∙ c.loop.invariant

pub returns : goal.returns
returns c = c.part_at-2.ensures ∙ behind-done c.args.s.now c.args.i c.loop.counter c.loop.place (omega arith) ∙ c.loop.invariant
