-- `steps::last`: the modes that are left say what all of them say, and the extremes are those of the mode before. Assumes nothing.
use Prim.Native.Nat.{◌-◌, ◌≤◌}
use mathlib.Core.Path.{◌≡◌}
use Rattle.meaning.specs.Defined.{first_mode}
use Rattle.tables.specs.Images.{Extremes}
use Rattle.tables.specs.Levels.{box_in}
use Rattle.tables.specs.Limits.{landing, last_entries}
use Rattle.tables.proofs.steps.last.Given as goal

abbrev pub invariant-loop-u : goal.invariant-loop-u
invariant-loop-u l =
    (l.u ≤ l.count) × (1 ≤ l.u → Extremes (last_entries l.n l.coef (l.u - 1)) (box_in l.n l.boxes l.place) l.e.lo l.e.hi)
    × (first_mode (landing l.n l.coef l.limits (box_in l.n l.boxes l.place)) (l.count - l.u) l.u ≡ first_mode (landing l.n l.coef l.limits (box_in l.n l.boxes l.place)) l.count 0)
