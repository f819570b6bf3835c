-- `finds::find`: where lengths are told, in the loop, what is left to find is the whole. Assumes nothing.
use mathlib.Core.Path.{◌≡◌}
use mathlib.Core.Bool.{true}
use mathlib.Core.List.{[]}
use Rattle.meaning.specs.Control.{find}
use Rattle.meaning.specs.Plants.{edge_limit}
use Rattle.tables.specs.Boxes.{box_of, Small}
use Rattle.tables.specs.Finds.{holds_in}
use Rattle.tables.specs.Frames.{frame_from, rules_in}
use Rattle.tables.proofs.finds.find.Given as goal

abbrev pub invariant-loop-k : goal.invariant-loop-k
invariant-loop-k l =
    let r = rules_in (frame_from l.f l.edges) [] [] in
    Small edge_limit (box_of l.f.n l.here) × (holds_in l.f.n l.x (box_of l.f.n l.here) ≡ true) × (find r l.left l.table l.place (box_of l.f.n l.here) l.x ≡ find r l.d l.table l.at (box_of l.f.n l.initial.here) l.x)

abbrev pub decreases-loop-k : goal.decreases-loop-k
decreases-loop-k l = l.left
