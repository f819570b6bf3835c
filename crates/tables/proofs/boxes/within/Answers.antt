-- `boxes::within`: the first j tests hold. Assumes nothing.
use mathlib.Core.Path.{◌≡◌, sym, ap, ◌∙◌}
use mathlib.Core.Bool.{Bool}
use Prim.Native.Nat.{ℕ}
use native.Mathlib.Omega.{arith}
use mir.Facts.{to_z-of_z}
use Rattle.laws.specs.Integers.{ok64}
use Rattle.laws.specs.Lists.{at, tab, all}
use Rattle.laws.specs.Tests.{hold-more, fails-here, all_hold}
use Rattle.meaning.specs.Boxes.{side_at, within}
use Rattle.tables.specs.Boxes.{box_of}
use Rattle.tables.proofs.boxes.Laws.{covers_at, lies-tab}
use Rattle.tables.proofs.boxes.within.Goals as goal

pub loop-j-preserved : goal.loop-j-preserved
loop-j-preserved c =
    let test : ℕ → Bool = covers_at c.args.a.lo c.args.a.hi c.args.b.lo c.args.b.hi in
    let al = to_z-of_z (ok64 (at c.args.a.lo c.loop-j.j) (omega arith)) in
    let ah = to_z-of_z (ok64 (at c.args.a.hi c.loop-j.j) (omega arith)) in
    let bl = to_z-of_z (ok64 (at c.args.b.lo c.loop-j.j) (omega arith)) in
    let bh = to_z-of_z (ok64 (at c.args.b.hi c.loop-j.j) (omega arith)) in
    let tested : c.ordered.result ≡ test c.loop-j.j = rw (bl, al, ah, bh) at c.ordered.ensures in
    hold-more c.loop-j.invariant (omega arith) (sym tested ∙ c.if-not-ordered.false)

pub returns-then-not-ordered : goal.returns-then-not-ordered
returns-then-not-ordered c =
    let test : ℕ → Bool = covers_at c.args.a.lo c.args.a.hi c.args.b.lo c.args.b.hi in
    let whole : within (box_of c.args.n c.args.a) (box_of c.args.n c.args.b) ≡ all (tab test c.args.n 0) = let a = c.args in ap all (lies-tab (side_at a.a.lo a.a.hi) (side_at a.b.lo a.b.hi) a.n 0) in
    let al = to_z-of_z (ok64 (at c.args.a.lo c.loop-j.j) (omega arith)) in
    let ah = to_z-of_z (ok64 (at c.args.a.hi c.loop-j.j) (omega arith)) in
    let bl = to_z-of_z (ok64 (at c.args.b.lo c.loop-j.j) (omega arith)) in
    let bh = to_z-of_z (ok64 (at c.args.b.hi c.loop-j.j) (omega arith)) in
    let tested : c.ordered.result ≡ test c.loop-j.j = rw (bl, al, ah, bh) at c.ordered.ensures in
    fails-here c.loop-j.invariant (omega arith) (sym tested ∙ c.if-not-ordered.true) ∙ sym whole

pub returns : goal.returns
returns c =
    let test : ℕ → Bool = covers_at c.args.a.lo c.args.a.hi c.args.b.lo c.args.b.hi in
    let whole : within (box_of c.args.n c.args.a) (box_of c.args.n c.args.b) ≡ all (tab test c.args.n 0) = let a = c.args in ap all (lies-tab (side_at a.a.lo a.a.hi) (side_at a.b.lo a.b.hi) a.n 0) in
    all_hold c.loop-j.invariant c.loop-j-test.false ∙ sym whole
