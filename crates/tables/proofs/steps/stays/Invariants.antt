-- `steps::stays`: the first i rows hold, and their sums are stored. Assumes nothing.
use mathlib.Core.Path.{◌≡◌}
use lib.ListN.{length}
use Rattle.laws.specs.Lists.{tab}
use Rattle.laws.specs.Tests.{HoldUpTo}
use Rattle.meaning.specs.Boxes.{side_at}
use Rattle.tables.specs.Levels.{box_in}
use Rattle.tables.specs.Limits.{add_limit, sums_at, covered_at, Within}
use Rattle.tables.proofs.steps.stays.Given as goal

abbrev pub invariant-loop-i : goal.invariant-loop-i
invariant-loop-i l =
    (length l.kept.lo ≡ 4) × (length l.kept.hi ≡ 4) × (tab (side_at l.kept.lo l.kept.hi) l.i 0 ≡ tab (sums_at l.n l.coef l.u (box_in l.n l.boxes l.place)) l.i 0) × HoldUpTo (covered_at l.n l.coef l.limits l.base l.u (box_in l.n l.boxes l.place)) l.n l.i × Within add_limit l.i l.kept.lo l.kept.hi
