-- `drafts::tree`, which calls itself with less depth: each return cites the law of the node that it stops at; in the loop over the children,
-- whoever writes those that are left has written them all. Assumes nothing.
use Prim.Native.Nat.{◌-◌}
use lib.ListN.{drop}
use Rattle.meaning.specs.Tables.{children_by}
use Rattle.tables.specs.Boxes.{box_of}
use Rattle.tables.specs.Frames.{frame_from, rules_in}
use Rattle.tables.specs.Drafts.{trees_bytes}
use Rattle.tables.proofs.drafts.Laws.{Growing}
use Rattle.tables.proofs.drafts.+tree.Given as goal

abbrev pub invariant-loop-c : goal.invariant-loop-c
invariant-loop-c l =
    let r = rules_in (frame_from l.f l.edges) l.bands l.coef in
    Growing l.initial.buf l.initial.place (trees_bytes r (l.d - 1) (children_by l.f.form (box_of l.f.n l.b))) (trees_bytes r (l.d - 1) (drop l.c (children_by l.f.form (box_of l.f.n l.b)))) l.place l.buf

abbrev pub decreases-tree : goal.decreases-tree
decreases-tree l = l.d
