-- `limits::lay_box`: the sides that are done are the limits of their dimensions. Assumes nothing.
use Prim.Native.Nat.{◌≤◌}
use Rattle.tables.specs.Limits.{limit_at}
use Rattle.tables.proofs.levels.Laws.{FilledTo}
use Rattle.tables.proofs.limits.lay_box.Given as goal

abbrev pub invariant-loop-i : goal.invariant-loop-i
invariant-loop-i l = (l.i ≤ l.n) × FilledTo l.base (limit_at l.n l.q l.bands l.u l.b.lo l.b.hi) l.i l.initial.limits l.limits
