-- `chains::first_unheld`: the first i boxes keep, and the last of them is at hand. Assumes nothing.
use mathlib.Core.Path.{◌≡◌, sym, ◌∙◌}
use native.Mathlib.Omega.{arith}
use Rattle.laws.specs.Tests.{hold-more, first-here, first-none}
use Rattle.tables.specs.Boxes.{box_of}
use Rattle.tables.proofs.chains.Laws.{held-as, next-box}
use Rattle.tables.proofs.chains.first_unheld.Goals as goal

pub returns-then-not-keeps : goal.returns-then-not-keeps
returns-then-not-keeps c =
    let l = c.loop-i in
    let a = c.args in
    let kept = c.keeps.ensures ∙ held-as a.n (omega arith) a.edges.now a.m (box_of a.n a.root) a.safe l.below c.box_on-b.result l.i l.invariant.0 c.box_on-b.ensures in
    first-here l.invariant.1 (omega arith) (sym kept ∙ c.if-not-keeps.true)

pub loop-i-preserved : goal.loop-i-preserved
loop-i-preserved c =
    let l = c.loop-i in
    let a = c.args in
    let kept = c.keeps.ensures ∙ held-as a.n (omega arith) a.edges.now a.m (box_of a.n a.root) a.safe l.below c.box_on-b.result l.i l.invariant.0 c.box_on-b.ensures in
    (next-box a.n (omega arith) a.edges.now a.m (box_of a.n a.root) c.box_on-b.result l.i c.box_on-b.ensures, hold-more l.invariant.1 (omega arith) (sym kept ∙ c.if-not-keeps.false))

pub returns : goal.returns
returns c = let i : c.loop-i.i ≡ c.args.m = omega arith in sym i ∙ first-none c.loop-i.invariant.1 (omega arith)
