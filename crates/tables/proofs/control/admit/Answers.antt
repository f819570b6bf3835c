-- `control::admit`: the state, then the reading. Assumes nothing.
use Rattle.std.specs.Prelude.{Err}
use mathlib.Core.Path.{ap, ◌∙◌}
use Rattle.tables.proofs.control.Laws.{admit-reading, admit-both}
use Rattle.tables.proofs.control.admit.Goals as goal

pub returns-then-missed-n : goal.returns-then-missed-n
returns-then-missed-n c =
    let a = c.args in
    ap Err c.outside.ensures ∙ admit-reading a.can c.if-not-can.false a.n a.b.lo a.b.hi a.x c.missed-missed.result c.missed-missed.ensures c.if-missed-n.true

pub returns : goal.returns
returns c =
    let a = c.args in
    admit-both a.can c.if-not-can.false a.n a.b.lo a.b.hi a.x c.missed-missed.result c.missed-missed.ensures c.if-missed-n.false
