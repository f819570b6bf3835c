-- `turns::tell`: in the loop over the children, the lengths that are left are of the trees that are left. Assumes nothing.
use Prim.Native.Nat.{ℕ}
use mathlib.Core.Bool.{false}
use Rattle.meaning.specs.Tables.{children_by}
use Rattle.meaning.specs.Trees.{Forest}
use Rattle.tables.specs.Boxes.{box_of}
use Rattle.tables.specs.Turns.{TreesLie}
use Rattle.tables.proofs.turns.Laws.{Telling}
use Rattle.tables.proofs.turns.tell.Given as goal

abbrev pub invariant-loop-c : goal.invariant-loop-c
invariant-loop-c l =
    let bs = children_by l.f.form (box_of l.f.n l.b) in
    ((g : Forest) (m : ℕ) → TreesLie l.f false l.table l.d bs l.at g m → Telling l.f l.table l.d bs l.initial.buf l.to l.c l.place l.past l.buf g m)
