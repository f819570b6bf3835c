-- `turns::turn`, which calls itself with less depth: a tile is copied; of a split the 0, the lengths, and in the loop its trees. Assumes nothing.
use Prim.Native.Nat.{◌-◌, ◌<◌}
use mathlib.Core.Path.{◌≡◌, sym, ◌∙◌}
use mathlib.Core.Bool.{not}
use native.Mathlib.Omega.{arith}
use lib.ListN.{length, take, drop}
use Rattle.laws.specs.Writing.{put-length}
use Rattle.meaning.specs.Plants.{edge_limit}
use Rattle.meaning.specs.Tables.{children_by}
use Rattle.meaning.specs.Trees.{layout}
use Rattle.tables.specs.Boxes.{box_of}
use Rattle.tables.proofs.boxes.Halving.{small-children}
use Rattle.tables.proofs.turns.Laws.{lies-read, was-tile, was-split, next-tree, turning-none, turning-kid, turning-done, split-turned, tile-cut, tree-within}
use Rattle.tables.proofs.turns.+turn.Goals as goal

pub unreachable-requires : goal.unreachable-requires
unreachable-requires t c = lies-read c.requires.0 c.requires.2.2 (sym c.number.ensures ∙ c.in_default.is)

pub copy-past-requires : goal.copy-past-requires
copy-past-requires t c =
    let a = c.args in
    let p = c.requires.2 in
    let w = was-tile c.requires.0 (sym c.number.ensures ∙ c.in-Some.is) p.2 c.if-k-gt0.true in
    let e = c.passed-behind.ensures p.1 w.behind in
    let in-file = tree-within a.f a.told a.table.now a.d (box_of a.f.n a.b) a.at p.0 p.1 p.2 in
    (omega (arith, e, in-file.0), omega (arith, e, in-file.1))

pub returns-then-k-gt0 : goal.returns-then-k-gt0
returns-then-k-gt0 t c u m l =
    let a = c.args in
    let v = c.passed-behind in
    let w = was-tile c.requires.0 (sym c.number.ensures ∙ c.in-Some.is) l c.if-k-gt0.true in
    let e = v.ensures m w.behind in
    let q : take (v.result - a.at) (drop a.at a.table.now) ≡ layout (not a.told) u = rw e (tile-cut a.table.now (layout a.told u) a.at m l.stand ∙ sym (w.same (not a.told))) in
    (e, rw q at c.copy-past.ensures)

pub overflow_sub-below : goal.overflow_sub-below
overflow_sub-below t c = (was-split c.requires.0 (sym c.number.ensures ∙ c.in-Some.is) c.requires.2.2 c.if-k-gt0.false).deep

pub between-first-requires : goal.between-first-requires
between-first-requires t c =
    let z = was-split c.requires.0 (sym c.number.ensures ∙ c.in-Some.is) c.requires.2.2 c.if-k-gt0.false in
    let n = c.count-count.ensures in
    let v = c.put_number-zero in
    record { counts = (c.requires.0, c.requires.1, n, omega (arith, n, z.some)); trees = (z.first, z.trees, c.requires.2.1, z.lie); place = omega (arith, v.ensures.place, put-length v.ensures) }

pub loop-c-init : goal.loop-c-init
loop-c-init t c first g m l =
    let a = c.args in
    let x = c.between-first in
    let z = was-split c.requires.0 (sym c.number.ensures ∙ c.in-Some.is) c.requires.2.2 c.if-k-gt0.false in
    let v = (x.ensures z.first z.trees c.requires.2.1 z.lie).1 in
    let e = (x.ensures first g m l).0 in
    rw e (turning-none a.f a.told a.table.now (a.d - 1) (children_by a.f.form (box_of a.f.n a.b)) x.new.buf x.result.to first g m l.trees (omega (arith, v.place, put-length v)))

pub turn-kid-requires : goal.turn-kid-requires
turn-kid-requires t c =
    let a = c.args in
    let p = c.loop-c in
    let box = box_of a.f.n a.b in
    let kids = children_by a.f.form box in
    let z = was-split c.requires.0 (sym c.number.ensures ∙ c.in-Some.is) c.requires.2.2 c.if-k-gt0.false in
    let h : p.c < length kids = omega (arith, c.count-count.ensures, c.loop-c-test.true) in
    let y = p.invariant z.first z.trees c.requires.2.1 z.lie in
    let n = next-tree a.f a.told a.table.now (a.d - 1) kids p.c p.place y.rest c.requires.2.1 h y.lie in
    let less = c.requires.0 in
    let d = z.deep in
    let e = c.child-child.ensures in
    (omega (arith, less, d), (c.requires.0, rw e (small-children a.f.form edge_limit box p.c h c.requires.1), (n.tree, n.behind, rw e n.lies)))

pub loop-c-preserved : goal.loop-c-preserved
loop-c-preserved t c first g m l = turning-kid (c.loop-c.invariant first g m l) c.count-count.ensures c.loop-c-test.true c.child-child.ensures c.turn-kid.result c.turn-kid.ensures

pub returns : goal.returns
returns t c u m l =
    let a = c.args in
    let p = c.loop-c in
    let x = c.between-first in
    let z = was-split c.requires.0 (sym c.number.ensures ∙ c.in-Some.is) l c.if-k-gt0.false in
    let kids = children_by a.f.form (box_of a.f.n a.b) in
    let e = turning-done a.f a.told a.table.now (a.d - 1) kids x.new.buf x.result.to p.c p.place p.past p.buf z.trees m (p.invariant z.first z.trees m z.lie) (omega (arith, c.count-count.ensures, c.loop-c-test.false)) in
    (e.0, rw z.is (split-turned (not a.told) z.trees c.put_number-zero.ensures (x.ensures z.first z.trees m z.lie).1 e.1))
