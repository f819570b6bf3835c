-- `start_checks::tables_at`: what is left from table i on is the whole. Assumes nothing.
use Rattle.std.specs.Prelude.{Err}
use Rattle.std.proofs.lemmas.Result.{err_from_is_err_and}
use mathlib.Core.Path.{ap, ◌∙◌}
use native.Mathlib.Omega.{arith}
use Rattle.tables.specs.declared.frames.Frame.{Frame}
use Rattle.tables.specs.Frames.{rules_by}
use Rattle.tables.specs.StartChecks.{rules_at, table_at}
use Rattle.tables.proofs.start_checks.Laws.{tables-ended, tables-over, tables-stopped, tables_more}
use Rattle.tables.proofs.start_checks.tables_at.Goals as goal

pub returns-in_err-place : goal.returns-in_err-place
returns-in_err-place c =
    let a = c.args in
    let told = c.table_at.ensures ∙ ap (λ (g : Frame). table_at (rules_by g a.bands.now a.coef.now) a.start.now c.loop-i.place) c.frame_at.ensures in
    let p = err_from_is_err_and c.from_residual.result c.from_residual.ensures.1 in
    rw (p.1, p.2) (
    tables-stopped (rules_at a.f a.edges.now a.bands.now a.coef.now) a.start.now a.m c.loop-i.i c.loop-i.place (omega arith) c.table_at.result told _ c.in_err-place.was
    ∙ c.loop-i.invariant.1
    )

pub loop-i-preserved : goal.loop-i-preserved
loop-i-preserved c =
    let a = c.args in
    let told = c.table_at.ensures ∙ ap (λ (g : Frame). table_at (rules_by g a.bands.now a.coef.now) a.start.now c.loop-i.place) c.frame_at.ensures in (
      omega arith,
      tables_more (rules_at a.f a.edges.now a.bands.now a.coef.now) a.start.now a.m c.loop-i.i c.loop-i.place (omega arith) c.table_at.result told _ c.in_ok-place.was ∙ c.loop-i.invariant.1,
    )

pub returns-then-place-start : goal.returns-then-place-start
returns-then-place-start c =
    let a = c.args in
    tables-ended (rules_at a.f a.edges.now a.bands.now a.coef.now) a.start.now a.m c.loop-i.i c.loop-i.place (omega arith) c.if-place-start.true ∙ c.loop-i.invariant.1

pub returns-else-place-start : goal.returns-else-place-start
returns-else-place-start c =
    let a = c.args in
    ap Err c.unfit.ensures
    ∙ tables-over (rules_at a.f a.edges.now a.bands.now a.coef.now) a.start.now a.m c.loop-i.i c.loop-i.place (omega arith) c.if-place-start.false ∙ c.loop-i.invariant.1
