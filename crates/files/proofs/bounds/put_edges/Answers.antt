-- `bounds::put_edges`: what is left to write is the definition's rest. Assumes nothing.
use native.Mathlib.Omega.{arith}
use mir.Facts.{to_z-of_z}
use Rattle.laws.specs.Integers.{ok64}
use Rattle.laws.specs.Lists.{at}
use Rattle.meaning.specs.Plants.{edges_of}
use Rattle.laws.specs.Writing.{under_more, under-done}
use Rattle.files.proofs.bounds.Laws.{edges_step, tabs-over}
use Rattle.files.proofs.bounds.put_edges.Goals as goal

pub loop-i-preserved : goal.loop-i-preserved
loop-i-preserved c =
    let a = c.args in
    let i = c.loop-i.i in
    let f1 = ok64 (at a.root.lo i) (omega arith) in
    let t1 = simp to_z-of_z at c.put_signed-p.ensures in
    let f2 = ok64 (at a.root.hi i) (omega arith) in
    let t2 = simp to_z-of_z at c.put_signed-p-in-loop-i.ensures in
    let f3 = ok64 (at a.safe.lo i) (omega arith) in
    let t3 = simp to_z-of_z at c.put_signed-p-in-loop-i-2.ensures in
    let f4 = ok64 (at a.safe.hi i) (omega arith) in
    let t4 = simp to_z-of_z at c.put_signed-p-in-loop-i-3.ensures in
    under_more (under_more (under_more (under_more (rw (edges_step a.root.lo a.root.hi a.safe.lo a.safe.hi a.n i (omega arith)) at c.loop-i.invariant) t1) t2) t3) t4

pub returns : goal.returns
returns c =
    let a = c.args in
    under-done (rw (tabs-over (edges_of a.root.lo a.root.hi a.safe.lo a.safe.hi) a.n c.loop-i.i (omega arith)) at c.loop-i.invariant)
