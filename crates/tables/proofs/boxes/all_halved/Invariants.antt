-- `boxes::all_halved`: the sides that are done, and the child of the others by the bits that are left, are the whole child. Assumes nothing.
use mathlib.Core.Path.{◌≡◌}
use Prim.Native.Nat.{◌≤◌}
use lib.ListN.{length}
use Rattle.tables.specs.Boxes.{box_of}
use Rattle.tables.proofs.boxes.Laws.{child_at, Cut}
use Rattle.tables.proofs.boxes.all_halved.Given as goal

abbrev pub invariant-loop-j : goal.invariant-loop-j
invariant-loop-j l =
    (l.j ≤ l.n) × (length l.kid.lo ≡ 4) × (length l.kid.hi ≡ 4) × Cut l.b.lo l.b.hi l.kid.lo l.kid.hi l.n l.j l.bits (child_at (box_of l.n l.b) l.x)
