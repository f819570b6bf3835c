-- `drafts::put_tile`: what is left to write are the modes that are left. Assumes nothing.
use Rattle.laws.specs.Writing.{under_more, under-done}
use Rattle.tables.proofs.drafts.Laws.{tile-whole, tile-mode, tile-end}
use Rattle.tables.proofs.drafts.put_tile.Goals as goal

pub loop-j-preserved : goal.loop-j-preserved
loop-j-preserved c =
    let a = c.args in
    let l = c.loop-j in
    under_more (rw (tile-mode a.k a.us.now l.j c.loop-j-test.true) at l.invariant) c.put_number-place-in-loop-j.ensures

pub returns : goal.returns
returns c =
    let a = c.args in
    let l = c.loop-j in
    tile-whole a.k a.us.now c.put_number-place.ensures (under-done (rw (tile-end a.k a.us.now l.j c.loop-j-test.false) at l.invariant))
