-- `checks::end_by`: header, then tree, by the walk that the form asks for. Assumes nothing.
use mathlib.Core.Path.{◌∙◌}
use Rattle.tables.proofs.checks.Laws.{by-walk}
use Rattle.tables.proofs.checks.end_by.Goals as goal

pub returns-then-f-eq2 : goal.returns-then-f-eq2
returns-then-f-eq2 c = c.walk_told.ensures ∙ by-walk c.args.f c.args.bands.now c.args.coef.now c.args.table.now c.header.ensures c.in_ok-at.was c.counts_of-counts.ensures c.edges_of-edges.ensures c.depth-depth.ensures

pub returns-else-f-eq2 : goal.returns-else-f-eq2
returns-else-f-eq2 c = c.walk.ensures ∙ by-walk c.args.f c.args.bands.now c.args.coef.now c.args.table.now c.header.ensures c.in_ok-at.was c.counts_of-counts.ensures c.edges_of-edges.ensures c.depth-depth.ensures
