-- `levels::begin`: the sides that are done are filled. Assumes nothing.
use mathlib.Core.Path.{◌≡◌, ◌∙◌}
use native.Mathlib.Omega.{arith}
use Rattle.tables.proofs.levels.Laws.{filled-box}
use Rattle.tables.proofs.levels.begin.Goals as goal

pub returns : goal.returns
returns c =
    let l = c.loop-i in
    let e : l.i ≡ c.args.n = omega arith in
    (rw e at (filled-box l.invariant.1), l.invariant.1.beside.long ∙ c.requires.1)
