-- `bounds::put_bands`: what is left to write is the definition's rest. Assumes nothing.
use native.Mathlib.Omega.{arith}
use mir.Facts.{to_z-of_z}
use Rattle.laws.specs.Integers.{ok64}
use Rattle.laws.specs.Lists.{at}
use Rattle.meaning.specs.Plants.{band_of}
use Rattle.laws.specs.Writing.{under_more, under-done}
use Rattle.files.proofs.bounds.Laws.{bands-step, tabs-over}
use Rattle.files.proofs.bounds.put_bands.Goals as goal

pub loop-i-preserved : goal.loop-i-preserved
loop-i-preserved c =
    let a = c.args in
    let i = c.loop-i.i in
    let f1 = ok64 (at a.bands.lo i) (omega arith) in
    let t1 = simp to_z-of_z at c.put_signed-p.ensures in
    let f2 = ok64 (at a.bands.hi i) (omega arith) in
    let t2 = simp to_z-of_z at c.put_signed-p-in-loop-i.ensures in
    under_more (under_more (rw (bands-step a.bands.lo a.bands.hi a.n i (omega arith)) at c.loop-i.invariant) t1) t2

pub returns : goal.returns
returns c =
    let a = c.args in
    under-done (rw (tabs-over (band_of a.bands.lo a.bands.hi) a.n c.loop-i.i (omega arith)) at c.loop-i.invariant)
