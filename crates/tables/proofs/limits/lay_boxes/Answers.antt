-- `limits::lay_boxes`: the modes that are done are laid. Assumes nothing.
use Prim.Native.Nat.{◌+◌, ◌*◌, ◌≤◌}
use mathlib.Core.Path.{◌∙◌}
use native.Mathlib.Omega.{arith}
use lib.ListN.{length}
use Rattle.meaning.specs.Boxes.{side_at}
use Rattle.tables.specs.Limits.{limits_size}
use Rattle.tables.proofs.limits.Laws.{laid_more}
use Rattle.tables.proofs.limits.lay_boxes.Goals as goal

pub lay_box-requires : goal.lay_box-requires
lay_box-requires c =
    let room : limits_size * c.loop-u.u + limits_size ≤ length c.loop-u.limits = let h = c.loop-u-test.true in omega (arith, c.requires.sizes.2, c.loop-u.invariant.1) in
    let l = c.loop-u in
    let f = room in
    record { step = (c.requires.sizes.0, c.requires.sizes.1, c.requires.boxes.2 l.u c.loop-u-test.true, c.requires.boxes.1); place = omega arith }

pub lay_box-requires-in-loop-u : goal.lay_box-requires-in-loop-u
lay_box-requires-in-loop-u c =
    let room : limits_size * c.loop-u.u + limits_size ≤ length c.loop-u.limits = let h = c.loop-u-test.true in omega (arith, c.requires.sizes.2, c.loop-u.invariant.1) in
    let l = c.loop-u in
    let f = room in
    record { step = (c.requires.sizes.0, c.requires.sizes.1, c.requires.boxes.2 l.u c.loop-u-test.true, c.requires.boxes.0); place = omega (arith, c.lay_box.ensures.beside.long) }

pub loop-u-preserved : goal.loop-u-preserved
loop-u-preserved c =
    let l = c.loop-u in
    let f = c.args.f in
    let x = c.lay_box in
    let y = c.lay_box-in-loop-u in
    let m = c.loop-u-test.true in (
      omega arith,
      y.ensures.beside.long ∙ x.ensures.beside.long ∙ l.invariant.1,
      laid_more f.n f.q c.requires.sizes.0 (side_at f.goal.lo f.goal.hi) (side_at f.safe.lo f.safe.hi) c.args.bands.now l.u l.limits _ _
          x.ensures.beside x.ensures.sides y.ensures.beside y.ensures.sides l.invariant.2,
    )
