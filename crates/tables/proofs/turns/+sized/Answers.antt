-- `turns::sized`, which calls itself with less depth: a tile's size is its bytes; of a split, in the loop over the children, what is counted and the trees that
-- are left are the whole. Assumes nothing.
use Prim.Native.Nat.{◌-◌, ◌<◌}
use mathlib.Core.Path.{refl, sym, ap, ◌∙◌}
use mathlib.Core.Bool.{true, false}
use native.Mathlib.Omega.{arith}
use lib.ListN.{length}
use Rattle.meaning.specs.Plants.{edge_limit}
use Rattle.meaning.specs.Tables.{children_by}
use Rattle.tables.specs.Boxes.{box_of}
use Rattle.tables.proofs.boxes.Halving.{small-children}
use Rattle.tables.proofs.turns.Laws.{lies-read, was-tile, was-split, next-tree, sizing-none, sizing-kid, sizing-done}
use Rattle.tables.proofs.turns.+sized.Goals as goal

pub unreachable-requires : goal.unreachable-requires
unreachable-requires t c = lies-read c.requires.0 c.requires.2.2 (sym c.number.ensures ∙ c.in_default.is)

pub overflow_sub-result : goal.overflow_sub-result
overflow_sub-result t c =
    let l = c.requires.2.2 in
    let w = was-tile c.requires.0 (sym c.number.ensures ∙ c.in-Some.is) l c.if-k-gt0.true in
    omega (arith, c.passed-behind.ensures _ w.behind, l.stand.end)

pub returns-then-k-gt0 : goal.returns-then-k-gt0
returns-then-k-gt0 t c u m l =
    let w = was-tile c.requires.0 (sym c.number.ensures ∙ c.in-Some.is) l c.if-k-gt0.true in
    let e = c.passed-behind.ensures m w.behind in
    (e, omega (arith, e, l.stand.end, ap length (w.same true)))

pub loop-c-init : goal.loop-c-init
loop-c-init t c u m l =
    let a = c.args in
    let w = was-split c.requires.0 (sym c.number.ensures ∙ c.in-Some.is) l c.if-k-gt0.false in
    let short = rw w.is at l.short in
    rw w.is (sizing-none a.f a.table.now (a.d - 1) (children_by a.f.form (box_of a.f.n a.b)) c.in-Some.next w.first m w.trees w.lie short)

pub overflow_sub-d : goal.overflow_sub-d
overflow_sub-d t c = (was-split c.requires.0 (sym c.number.ensures ∙ c.in-Some.is) c.requires.2.2 c.if-k-gt0.false).deep

pub sized-kid-requires : goal.sized-kid-requires
sized-kid-requires t c =
    let a = c.args in
    let p = c.requires in
    let l = c.loop-c in
    let kids = children_by a.f.form (box_of a.f.n a.b) in
    let h : l.c < length kids = omega (arith, c.count-count.ensures, c.loop-c-test.true) in
    let z = l.invariant p.2.0 p.2.1 p.2.2 in
    let n = next-tree a.f false a.table.now (a.d - 1) kids l.c l.place z.rest p.2.1 h z.lie in
    let d = (was-split c.requires.0 (sym c.number.ensures ∙ c.in-Some.is) p.2.2 c.if-k-gt0.false).deep in
    let less = c.requires.0 in
    (omega (arith, less, d), (p.0, rw c.child-child.ensures (small-children a.f.form edge_limit (box_of a.f.n a.b) l.c h p.1), (n.tree, n.behind, rw c.child-child.ensures n.lies)))

pub long-told-requires : goal.long-told-requires
long-told-requires t c =
    let p = c.requires.2 in
    let z = sizing-kid (c.loop-c.invariant p.0 p.1 p.2) c.count-count.ensures c.loop-c-test.true c.child-child.ensures c.sized-kid.result c.sized-kid.ensures refl in
    omega (arith, z.sum, z.short)

pub overflow_add-size : goal.overflow_add-size
overflow_add-size t c =
    let p = c.requires.2 in
    let z = sizing-kid (c.loop-c.invariant p.0 p.1 p.2) c.count-count.ensures c.loop-c-test.true c.child-child.ensures c.sized-kid.result c.sized-kid.ensures c.long-told.ensures in
    record { fits = omega (arith, z.sum, z.short) }

pub overflow_add-size-in-loop-c : goal.overflow_add-size-in-loop-c
overflow_add-size-in-loop-c t c =
    let p = c.requires.2 in
    let z = sizing-kid (c.loop-c.invariant p.0 p.1 p.2) c.count-count.ensures c.loop-c-test.true c.child-child.ensures c.sized-kid.result c.sized-kid.ensures c.long-told.ensures in
    record { fits = omega (arith, z.sum, z.short) }

pub loop-c-preserved : goal.loop-c-preserved
loop-c-preserved t c u m l =
    sizing-kid (c.loop-c.invariant u m l) c.count-count.ensures c.loop-c-test.true c.child-child.ensures c.sized-kid.result c.sized-kid.ensures c.long-told.ensures

pub returns : goal.returns
returns t c u m l =
    let a = c.args in
    let p = c.loop-c in
    sizing-done a.f a.table.now (a.d - 1) (children_by a.f.form (box_of a.f.n a.b)) p.c p.place p.size u m (p.invariant u m l) (omega (arith, c.count-count.ensures, c.loop-c-test.false))
