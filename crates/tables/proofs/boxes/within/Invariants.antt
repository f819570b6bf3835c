-- `boxes::within`: the first j tests hold. Assumes nothing.
use Rattle.laws.specs.Tests.{HoldUpTo}
use Rattle.tables.proofs.boxes.Laws.{covers_at}
use Rattle.tables.proofs.boxes.within.Given as goal

abbrev pub invariant-loop-j : goal.invariant-loop-j
invariant-loop-j l = HoldUpTo (covers_at l.a.lo l.a.hi l.b.lo l.b.hi) l.n l.j
