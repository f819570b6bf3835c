-- `limits::lay`: the boxes, and the marks, each in its slice. Assumes nothing.
use Rattle.tables.proofs.limits.lay.Goals as goal

pub lay_boxes-requires : goal.lay_boxes-requires
lay_boxes-requires c =
    let g = c.requires.plant.0 in
    record { sizes = (g.rooms, g.most, c.requires.room.0); boxes = (g.goal, g.safe, λ u h. λ i k. c.requires.plant.1.band u i h k) }
