-- `turns::tell`: in the loop over the children, the lengths that are left are of the trees that are left. Assumes nothing.
use Prim.Native.Nat.{◌+◌, ◌<◌}
use mathlib.Core.Bool.{false}
use native.Mathlib.Omega.{arith}
use lib.ListN.{length}
use Rattle.meaning.specs.Plants.{edge_limit}
use Rattle.meaning.specs.Tables.{children_by}
use Rattle.tables.specs.Boxes.{box_of}
use Rattle.tables.proofs.boxes.Halving.{small-children}
use Rattle.tables.proofs.turns.Laws.{next-tree, telling-none, telling-kid, telling-done}
use Rattle.tables.proofs.turns.tell.Goals as goal

pub loop-c-init : goal.loop-c-init
loop-c-init c g m l =
    let a = c.args in
    telling-none a.f a.table.now a.d (children_by a.f.form (box_of a.f.n a.b)) a.buf.now a.to a.at g m c.requires.place l

pub sized-kid-requires : goal.sized-kid-requires
sized-kid-requires c =
    let a = c.args in
    let p = c.loop-c in
    let l = c.requires.trees in
    let box = box_of a.f.n a.b in
    let kids = children_by a.f.form box in
    let h : p.c < length kids = omega (arith, c.requires.counts.2, c.loop-c-test.true) in
    let z = p.invariant l.0 l.1 l.2 in
    let n = next-tree a.f false a.table.now a.d kids p.c p.place z.rest l.1 h z.lie in
    let e = c.child-child.ensures in
    (c.requires.counts.0, rw e (small-children a.f.form edge_limit box p.c h c.requires.counts.1), (n.tree, n.behind, rw e n.lies))

pub loop-c-preserved : goal.loop-c-preserved
loop-c-preserved c g m l =
    let a = c.args in
    let h : c.loop-c.c + 1 < length (children_by a.f.form (box_of a.f.n a.b)) = omega (arith, c.requires.counts.2, c.loop-c-test.true) in
    telling-kid (c.loop-c.invariant g m l) h c.child-child.ensures c.sized-kid.result c.sized-kid.ensures c.put_number-past.ensures

pub returns : goal.returns
returns c g m l =
    let a = c.args in
    let p = c.loop-c in
    telling-done a.f a.table.now a.d (children_by a.f.form (box_of a.f.n a.b)) a.buf.now a.to p.c p.place p.past p.buf g m (p.invariant g m l) (omega (arith, c.requires.counts.2, c.loop-c-test.false))
