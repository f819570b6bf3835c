-- `modes::lay_alike`: mode by mode, as long as there is room. Assumes nothing.
use native.Mathlib.Omega.{arith}
use Rattle.files.proofs.modes.Laws.{alike-more, alike-full, alike_all}
use Rattle.files.proofs.modes.lay_alike.Goals as goal

pub returns-then-bands-n : goal.returns-then-bands-n
returns-then-bands-n c = alike-full _ _ _ _ _ c.loop-u.invariant c.if-bands-n.true

pub loop-u-preserved : goal.loop-u-preserved
loop-u-preserved c = alike-more _ _ _ _ _ c.loop-u.invariant (omega arith) c.lay.ensures

pub returns : goal.returns
returns c = alike_all _ _ _ _ _ c.loop-u.invariant (omega arith)
