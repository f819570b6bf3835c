-- `lines::Lines::signed`: the minus and the digits fit the buffer that they are put into. Assumes nothing.
use mir.Facts.{to_z-of_z}
use Rattle.figures.proofs.texts.Laws.{signed-few, put-whole}
use Rattle.figures.proofs.lines.Lines.signed.Goals as goal

pub slice_bounds-digits-end : goal.slice_bounds-digits-end
slice_bounds-digits-end c = (put-whole (signed-few _) c.put_signed-end.ensures).1

pub slice_bounds-extend_from_slice-end : goal.slice_bounds-extend_from_slice-end
slice_bounds-extend_from_slice-end c =
    let w = put-whole (signed-few _) c.put_signed-end.ensures in
    rw w.2 w.0

pub returns : goal.returns
returns c =
    let f = c.ranges.v in
    let w = put-whole (signed-few _) c.put_signed-end.ensures in
    simp to_z-of_z at (rw w.2 at c.extend_from_slice.ensures.items)
