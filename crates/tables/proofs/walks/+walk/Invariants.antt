-- `walks::walk`, which calls itself with less depth: each return cites the law of the node that it stops at; in the loop over the children,
-- those that are left say what the whole says. Assumes nothing.
use Prim.Native.Nat.{◌-◌, ◌≤◌}
use mathlib.Core.Path.{◌≡◌}
use mathlib.Core.List.{[]}
use lib.ListN.{drop}
use Rattle.meaning.specs.Verdicts.{each}
use Rattle.meaning.specs.Tables.{children_by}
use Rattle.tables.specs.Boxes.{box_of}
use Rattle.tables.specs.Frames.{frame_from}
use Rattle.tables.proofs.walks.Laws.{tree}
use Rattle.tables.proofs.walks.+walk.Given as goal

abbrev pub invariant-loop-c : goal.invariant-loop-c
invariant-loop-c l =
    (l.c ≤ l.count) × (each (tree (frame_from l.f l.edges) l.bands l.coef l.judged (l.d - 1) l.table) (drop l.c (children_by l.f.form (box_of l.f.n l.b))) [] l.place ≡ tree (frame_from l.f l.edges) l.bands l.coef l.judged l.d l.table l.at (box_of l.f.n l.b))

abbrev pub decreases-walk : goal.decreases-walk
decreases-walk l = l.d
