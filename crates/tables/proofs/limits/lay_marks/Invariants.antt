-- `limits::lay_marks`: the marks and offsets that are set are those of their modes. Assumes nothing.
use Prim.Native.Nat.{◌≤◌}
use mathlib.Core.Path.{◌≡◌}
use lib.ListN.{length}
use Rattle.tables.specs.Limits.{Marked}
use Rattle.tables.proofs.limits.lay_marks.Given as goal

abbrev pub invariant-loop-u : goal.invariant-loop-u
invariant-loop-u l = (l.u ≤ l.modes) × (length l.marks ≡ length l.initial.marks) × Marked l.n l.u l.coef l.marks
