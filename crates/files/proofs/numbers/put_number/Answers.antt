-- `numbers::put_number`: one group more, and the last. Assumes nothing.
use native.Mathlib.Omega.{arith}
use Rattle.laws.specs.Writing.{put-append}
use Rattle.files.proofs.numbers.Laws.{last-byte, more-bytes}
use Rattle.files.proofs.numbers.put_number.Goals as goal

pub loop-x-preserved : goal.loop-x-preserved
loop-x-preserved c r out h =
    let l = c.loop-x in
    l.invariant r out (rw (more-bytes l.x (omega arith) (omega arith)) (put-append c.put_byte-p.ensures h))

pub returns : goal.returns
returns c =
    let l = c.loop-x in
    l.invariant _ _ (rw (last-byte l.x (omega arith)) c.put_byte.ensures)
