-- `start_checks::table_at`: the length, the table within it, and that it ends there. Assumes nothing.
use Rattle.std.specs.Prelude.{Err}
use mathlib.Core.Path.{ap, ◌∙◌}
use native.Mathlib.Omega.{arith}
use Rattle.tables.specs.Frames.{rules_by}
use Rattle.tables.proofs.start_checks.Laws.{table-refused, table-ends, table-over, table-movable}
use Rattle.tables.proofs.start_checks.table_at.Goals as goal

pub moved-requires : goal.moved-requires
moved-requires c =
    let a = c.args in
    table-movable (rules_by a.f a.bands.now a.coef.now) a.start.now a.at c.part_at.ensures c.in_ok-first.was c.table_end.ensures c.requires.0.longest (omega arith) c.in-Err.is

pub returns-in-Err : goal.returns-in-Err
returns-in-Err c =
    let a = c.args in
    ap Err c.moved.ensures ∙ table-refused (rules_by a.f a.bands.now a.coef.now) a.start.now a.at c.part_at.ensures c.in_ok-first.was c.table_end.ensures c.in-Err.is

pub returns-then-next-size : goal.returns-then-next-size
returns-then-next-size c =
    let a = c.args in
    table-ends (rules_by a.f a.bands.now a.coef.now) a.start.now a.at c.part_at.ensures c.in_ok-first.was c.table_end.ensures c.in-Ok.is c.if-next-size.true

pub returns-else-next-size : goal.returns-else-next-size
returns-else-next-size c =
    let a = c.args in
    ap Err c.unfit.ensures ∙ table-over (rules_by a.f a.bands.now a.coef.now) a.start.now a.at c.part_at.ensures c.in_ok-first.was c.table_end.ensures c.in-Ok.is c.if-next-size.false
