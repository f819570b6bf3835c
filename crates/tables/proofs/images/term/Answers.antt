-- `images::term`: each product fits, and the sign of a says which is the least. Assumes nothing.
use mathlib.Core.Path.{◌∙◌}
use lib.IntN.{pos}
use mir.Facts.{sfits_lit}
use Rattle.laws.specs.Integers.{le-held, le-failed}
use Rattle.laws.specs.Expressions.{Ex, var, ◌⊗◌, exact}
use Rattle.meaning.specs.Plants.{edge_limit, entry_limit}
use Rattle.tables.proofs.images.Laws.{least_above, least-below}
use Rattle.tables.proofs.images.term.Goals as goal

pub returns-then-a-ge0 : goal.returns-then-a-ge0
returns-then-a-ge0 c =
    let at_low : Ex = var c.args.a entry_limit c.requires.0 ⊗ var c.args.l edge_limit c.requires.1 in
    let at_high : Ex = var c.args.a entry_limit c.requires.0 ⊗ var c.args.h edge_limit c.requires.2 in
    let a = c.args in
    let t = least_above a.a a.l a.h (le-held (pos 0) a.a (sfits_lit tt) c.ranges.a c.if-a-ge0.true) in
    (exact at_low tt ∙ t.0, exact at_high tt ∙ t.1)

pub returns-else-a-ge0 : goal.returns-else-a-ge0
returns-else-a-ge0 c =
    let at_low : Ex = var c.args.a entry_limit c.requires.0 ⊗ var c.args.l edge_limit c.requires.1 in
    let at_high : Ex = var c.args.a entry_limit c.requires.0 ⊗ var c.args.h edge_limit c.requires.2 in
    let a = c.args in
    let t = least-below a.a a.l a.h (le-failed (pos 0) a.a (sfits_lit tt) c.ranges.a c.if-a-ge0.false) in
    (exact at_high tt ∙ t.0, exact at_low tt ∙ t.1)
