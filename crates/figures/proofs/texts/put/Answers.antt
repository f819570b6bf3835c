-- `texts::put`: what is left to put are the bytes from the index on. Assumes nothing.
use lib.ListN.{drop_of_length-le}
use Rattle.laws.specs.Writing.{under_more, under-done}
use Rattle.figures.proofs.texts.Laws.{under-stopped, next-byte}
use Rattle.figures.proofs.texts.put.Goals as goal

pub loop-letter-init : goal.loop-letter-init
loop-letter-init c =
    let a = c.args in
    under-stopped a.buf.now a.at a.text.now c.min-place.result c.min-place.ensures

pub loop-letter-preserved : goal.loop-letter-preserved
loop-letter-preserved c =
    let l = c.loop-letter in
    let a = c.args in
    under_more (rw (next-byte a.text.now l.letter-index c.loop-letter-test.true) at l.invariant) c.put_byte-place.ensures

pub returns : goal.returns
returns c =
    let l = c.loop-letter in
    let a = c.args in
    under-done (rw (drop_of_length-le a.text.now c.loop-letter-test.false) at l.invariant)
