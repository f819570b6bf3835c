-- `levels::begin`: the sides that are done are filled. Assumes nothing.
use Prim.Native.Nat.{◌≤◌}
use Rattle.meaning.specs.Boxes.{side_at}
use Rattle.tables.proofs.levels.Laws.{FilledTo}
use Rattle.tables.proofs.levels.begin.Given as goal

abbrev pub invariant-loop-i : goal.invariant-loop-i
invariant-loop-i l = (l.i ≤ l.n) × FilledTo 0 (side_at l.b.lo l.b.hi) l.i l.initial.boxes l.boxes
