-- `turns::put_table`: form, n, then the tree, by the frame's counts. Assumes nothing.
use mathlib.Core.Bool.{not}
use Rattle.laws.specs.Writing.{Put, put-append}
use Rattle.meaning.specs.Trees.{layout}
use Rattle.tables.proofs.turns.put_table.Goals as goal

pub turn-turned-requires : goal.turn-turned-requires
turn-turned-requires c =
    let g = c.requires.0 in
    rw (c.counts_of.ensures, c.depth-depth.ensures) ((g.rooms, g.longest, g.modes), g.root, c.requires.1)

pub returns : goal.returns
returns c t m l =
    let w = c.turn-turned in
    let e = c.counts_of.ensures in
    let d = c.depth-depth.ensures in
    let v : Put c.put_number-past_rooms.new.buf c.put_number-past_rooms.result (layout (not c.args.told) t) w.result.to w.new.buf = (w.ensures t m (rw (e, d) l)).1 in
    put-append c.put_number-past_form.ensures (put-append c.put_number-past_rooms.ensures v)
