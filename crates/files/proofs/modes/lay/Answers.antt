-- `modes::lay`: the ends of a band one behind the other. Assumes nothing.
use native.Mathlib.Omega.{arith}
use mir.Facts.{to_z-of_z}
use Rattle.laws.specs.Integers.{ok64}
use Rattle.laws.specs.Lists.{at}
use Rattle.files.proofs.modes.Laws.{laid_more, laid-all}
use Rattle.files.proofs.modes.lay.Goals as goal

pub loop-i-preserved : goal.loop-i-preserved
loop-i-preserved c =
    let i = c.loop-i.i in
    rw (c.store-in-loop-i.ensures, c.store.ensures, to_z-of_z (ok64 (at c.args.w.lo i) (omega arith)), to_z-of_z (ok64 (at c.args.w.hi i) (omega arith)))
    (laid_more _ _ _ _ _ c.loop-i.invariant (omega arith))

pub returns : goal.returns
returns c = laid-all _ _ _ _ _ c.loop-i.invariant (omega arith)
