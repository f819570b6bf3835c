-- `texts::put_signed`: a minus and the number's size. Assumes nothing.
use mir.Facts.{to_z-of_z}
use Rattle.laws.specs.Writing.{put-append}
use Rattle.figures.proofs.texts.Laws.{signed_up, signed-down}
use Rattle.figures.proofs.texts.put_signed.Goals as goal

pub returns-then-v-ge0 : goal.returns-then-v-ge0
returns-then-v-ge0 c =
    let f = c.ranges.v in
    let size = simp to_z-of_z at c.unsigned_abs-size.ensures.value in
    rw (signed_up c.args.v (simp to_z-of_z at c.if-v-ge0.true)) (rw size at c.put_decimal.ensures)

pub returns : goal.returns
returns c =
    let f = c.ranges.v in
    let size = simp to_z-of_z at c.unsigned_abs-size.ensures.value in
    rw (signed-down c.args.v (simp to_z-of_z at c.if-v-ge0.false)) (put-append c.put_byte-place.ensures (rw size at c.put_decimal-2.ensures))
