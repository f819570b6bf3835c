-- `steps::divide`: the sides that are done are filled with the sums divided. Assumes nothing.
use Prim.Native.Nat.{◌≤◌}
use Rattle.tables.specs.Limits.{divided_in}
use Rattle.tables.proofs.levels.Laws.{FilledTo}
use Rattle.tables.proofs.steps.divide.Given as goal

abbrev pub invariant-loop-i : goal.invariant-loop-i
invariant-loop-i l = (l.i ≤ l.n) × FilledTo l.place (divided_in l.n l.q l.bands l.u l.slo l.shi) l.i l.initial.boxes l.boxes
