-- `bounds::Sides::first_narrow` goes by the tests of the dimensions. Assumes nothing.
use Rattle.laws.specs.Tests.{HoldUpTo}
use Rattle.files.proofs.bounds.Laws.{broad}
use Rattle.files.proofs.bounds.Sides.first_narrow.Given as goal

abbrev pub invariant-loop-i : goal.invariant-loop-i
invariant-loop-i l = HoldUpTo (broad l.q l.self.lo l.self.hi) l.n l.i
