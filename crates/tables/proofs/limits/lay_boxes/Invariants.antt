-- `limits::lay_boxes`: the modes that are done are laid. Assumes nothing.
use Prim.Native.Nat.{◌≤◌}
use mathlib.Core.Path.{◌≡◌}
use lib.ListN.{length}
use Rattle.meaning.specs.Boxes.{side_at}
use Rattle.tables.specs.Limits.{Laid}
use Rattle.tables.proofs.limits.lay_boxes.Given as goal

abbrev pub invariant-loop-u : goal.invariant-loop-u
invariant-loop-u l =
    (l.u ≤ l.f.modes) × (length l.limits ≡ length l.initial.limits) × Laid l.f.n l.u l.f.q (side_at l.f.goal.lo l.f.goal.hi) (side_at l.f.safe.lo l.f.safe.hi) l.bands l.limits
