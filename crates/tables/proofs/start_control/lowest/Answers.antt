-- `start_control::lowest`: the boxes before i do not hold the reading. Assumes nothing.
use Prim.Native.Nat.{◌+◌}
use mathlib.Core.Path.{◌≡◌, ◌∙◌}
use native.Mathlib.Omega.{arith}
use Rattle.laws.specs.Tests.{hold-more, first-here, first-none}
use Rattle.tables.proofs.start_control.Laws.{box-stops, box-passed}
use Rattle.tables.proofs.start_control.lowest.Goals as goal

pub returns-then-n-missed : goal.returns-then-n-missed
returns-then-n-missed c =
    let a = c.args in
    let b = c.box_at-b in
    first-here c.loop-i.invariant (omega arith) (box-stops a.n (omega arith) a.root a.edges.now a.m a.x c.loop-i.i b.result b.ensures c.missed.result c.missed.ensures c.if-n-missed.true)

pub loop-i-preserved : goal.loop-i-preserved
loop-i-preserved c =
    let a = c.args in
    let b = c.box_at-b in
    hold-more c.loop-i.invariant (omega arith) (box-passed a.n (omega arith) a.root a.edges.now a.m a.x c.loop-i.i b.result b.ensures c.missed.result c.missed.ensures c.if-n-missed.false)

pub returns : goal.returns
returns c =
    let e : c.args.m + 1 ≡ c.loop-i.i = omega (arith, c.loop-i.invariant.few) in
    e ∙ first-none c.loop-i.invariant (omega arith)
