-- `bounds::Sides::first_out` goes by the tests of the dimensions. Assumes nothing.
use Rattle.laws.specs.Tests.{HoldUpTo}
use Rattle.files.proofs.bounds.Laws.{inside}
use Rattle.files.proofs.bounds.Sides.first_out.Given as goal

abbrev pub invariant-loop-i : goal.invariant-loop-i
invariant-loop-i l = HoldUpTo (inside l.self.lo l.self.hi l.other.lo l.other.hi) l.n l.i
