-- `boxes::missed`: the first j tests hold. Assumes nothing.
use Rattle.laws.specs.Tests.{HoldUpTo}
use Rattle.tables.proofs.boxes.Laws.{holds_at}
use Rattle.tables.proofs.boxes.missed.Given as goal

abbrev pub invariant-loop-j : goal.invariant-loop-j
invariant-loop-j l = HoldUpTo (holds_at l.b.lo l.b.hi l.x) l.n l.j
