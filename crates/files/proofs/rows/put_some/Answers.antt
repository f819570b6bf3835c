-- `rows::put_some`: what is left to write is the definition's rest. Assumes nothing.
use Prim.Native.Nat.{◌+◌}
use native.Mathlib.Omega.{arith}
use mir.Facts.{to_z-of_z}
use Rattle.laws.specs.Integers.{ok64}
use Rattle.laws.specs.Writing.{under_more, under-done}
use Rattle.files.proofs.rows.Laws.{some-step, some-over}
use Rattle.files.proofs.rows.put_some.Goals as goal

pub loop-i-preserved : goal.loop-i-preserved
loop-i-preserved c =
    let a = c.args in
    let i = c.loop-i.i in
    let v = c.number in
    under_more (rw (some-step a.values.now (a.from + a.count) i (omega arith)) at c.loop-i.invariant) (rw (to_z-of_z (ok64 v.result v.type_inv), v.ensures) at c.put_signed-p.ensures)

pub returns : goal.returns
returns c =
    let a = c.args in
    under-done (rw (some-over a.values.now (a.from + a.count) c.loop-i.i (omega arith)) at c.loop-i.invariant)
