-- `start_control::lowest`: the boxes before i do not hold the reading. Assumes nothing.
use Prim.Native.Nat.{◌+◌}
use Rattle.laws.specs.Tests.{HoldUpTo}
use Rattle.tables.specs.Boxes.{box_of}
use Rattle.tables.specs.Chains.{values_in}
use Rattle.tables.specs.StartControl.{misses_at}
use Rattle.tables.proofs.start_control.lowest.Given as goal

abbrev pub invariant-loop-i : goal.invariant-loop-i
invariant-loop-i l = HoldUpTo (misses_at l.n (box_of l.n l.root) (values_in l.m l.edges) l.x) (l.m + 1) l.i
