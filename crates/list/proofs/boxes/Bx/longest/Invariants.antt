-- `boxes::Bx::longest`: the place is one of the four sides. Assumes nothing.
use Rattle.std.proofs.Common.{◌≤◌}
use Rattle.list.proofs.boxes.Bx.longest.Given as goal

abbrev pub invariant-loop-j : goal.invariant-loop-j
invariant-loop-j l = l.place ≤ 3
