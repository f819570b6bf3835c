-- `lines::Lines::number`: the digits fit the buffer that they are put into. Assumes nothing.
use Rattle.figures.proofs.texts.Laws.{decimal-few, put-whole}
use Rattle.figures.proofs.lines.Lines.number.Goals as goal

pub slice_bounds-digits-end : goal.slice_bounds-digits-end
slice_bounds-digits-end c = (put-whole (decimal-few _) c.put_decimal-end.ensures).1

pub slice_bounds-extend_from_slice-end : goal.slice_bounds-extend_from_slice-end
slice_bounds-extend_from_slice-end c =
    let w = put-whole (decimal-few _) c.put_decimal-end.ensures in
    rw w.2 w.0

pub returns : goal.returns
returns c =
    let w = put-whole (decimal-few _) c.put_decimal-end.ensures in
    rw w.2 at c.extend_from_slice.ensures.items
