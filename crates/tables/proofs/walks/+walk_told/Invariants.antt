-- `walks::walk_told`, which calls itself with less depth: each return cites the law of the node that it stops at; in the loop over the children,
-- those that are left say what the whole says, each held to its length. Assumes nothing.
use Prim.Native.Nat.{◌-◌, ◌≤◌}
use Rattle.meaning.specs.Tables.{children_by}
use Rattle.tables.specs.Boxes.{box_of}
use Rattle.tables.specs.Frames.{frame_from}
use Rattle.tables.proofs.walks.Laws.{Left, tree}
use Rattle.tables.proofs.walks.+walk_told.Given as goal

abbrev pub invariant-loop-c : goal.invariant-loop-c
invariant-loop-c l =
    (l.c ≤ l.count) × Left (tree (frame_from l.f l.edges) l.bands l.coef l.judged (l.d - 1) l.table) (children_by l.f.form (box_of l.f.n l.b)) l.table l.told l.c l.cursor l.place (tree (frame_from l.f l.edges) l.bands l.coef l.judged l.d l.table l.at (box_of l.f.n l.b))

abbrev pub decreases-walk_told : goal.decreases-walk_told
decreases-walk_told l = l.d
