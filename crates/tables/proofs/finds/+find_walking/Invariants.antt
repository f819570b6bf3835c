-- `finds::find_walking`, which calls itself with less depth: a node, and a loop over the children of a split up to the one that holds the reading. Assumes nothing.
use Prim.Native.Nat.{◌-◌, ◌≤◌}
use mathlib.Core.Path.{◌≡◌}
use mathlib.Core.List.{[]}
use Rattle.meaning.specs.Control.{find}
use Rattle.tables.specs.Boxes.{box_of}
use Rattle.tables.specs.Frames.{frame_from, rules_in}
use Rattle.tables.proofs.finds.Untold.{look_from}
use Rattle.tables.proofs.finds.+find_walking.Given as goal

abbrev pub invariant-loop-c : goal.invariant-loop-c
invariant-loop-c l =
    (l.c ≤ l.count) × (look_from (frame_from l.f l.edges) l.x (l.d - 1) l.table l.at (box_of l.f.n l.b) l.c l.place ≡ find (rules_in (frame_from l.f l.edges) [] []) l.d l.table l.at (box_of l.f.n l.b) l.x)

abbrev pub decreases-find_walking : goal.decreases-find_walking
decreases-find_walking l = l.d
