-- `turns::sized`, which calls itself with less depth: in the loop, what is counted and the trees that are left are the whole. Assumes nothing.
use Prim.Native.Nat.{ℕ, ◌-◌}
use mathlib.Core.Bool.{false}
use Rattle.meaning.specs.Tables.{children_by}
use Rattle.meaning.specs.Trees.{Tree}
use Rattle.tables.specs.Boxes.{box_of}
use Rattle.tables.specs.Turns.{TreeLies}
use Rattle.tables.proofs.turns.Laws.{Sizing}
use Rattle.tables.proofs.turns.+sized.Given as goal

abbrev pub invariant-loop-c : goal.invariant-loop-c
invariant-loop-c l =
    let bs = children_by l.f.form (box_of l.f.n l.b) in
    ((t : Tree) (m : ℕ) → TreeLies l.f false l.table l.d (box_of l.f.n l.b) l.at t m → Sizing l.f l.table (l.d - 1) bs l.c l.place l.size t m)

abbrev pub decreases-sized : goal.decreases-sized
decreases-sized l = l.d
