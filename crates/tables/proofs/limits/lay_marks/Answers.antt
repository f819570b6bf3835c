-- `limits::lay_marks`: the marks and offsets that are set are those of their modes. Assumes nothing.
use Prim.Native.Nat.{◌+◌, ◌*◌, ◌≤◌}
use mathlib.Core.Path.{◌∙◌}
use native.Mathlib.Omega.{arith}
use lib.ListN.{length, length-set}
use mir.Facts.{to_z-of_z}
use Rattle.laws.specs.Integers.{ok64}
use Rattle.tables.specs.Limits.{marks_size}
use Rattle.tables.proofs.limits.Laws.{marked_more}
use Rattle.tables.proofs.limits.lay_marks.Goals as goal

pub loop-u-preserved : goal.loop-u-preserved
loop-u-preserved c =
    let room : marks_size * c.loop-u.u + marks_size ≤ length c.loop-u.marks = let h = c.loop-u-test.true in omega (arith, c.requires.room, c.loop-u.invariant.1) in
    let l = c.loop-u in
    let h = c.loop-u-test.true in
    let m = c.mark in
    let o = c.last_offset in (
      omega arith,
      simp length-set l.invariant.1,
      marked_more c.args.n c.args.coef.now l.marks l.u _ _ (omega (arith, room)) (λ z. m.ensures (λ e. z (to_z-of_z (ok64 m.result m.type_inv) ∙ e)))
          (to_z-of_z (ok64 o.result o.type_inv) ∙ o.ensures) l.invariant.2,
    )
