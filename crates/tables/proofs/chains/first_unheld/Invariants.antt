-- `chains::first_unheld`: the first i boxes keep, and the last of them is at hand. Assumes nothing.
use mathlib.Core.Path.{◌≡◌}
use Rattle.laws.specs.Tests.{HoldUpTo}
use Rattle.meaning.specs.Starts.{box_at, held}
use Rattle.tables.specs.Boxes.{box_of}
use Rattle.tables.specs.Chains.{values_in}
use Rattle.tables.proofs.chains.first_unheld.Given as goal

abbrev pub invariant-loop-i : goal.invariant-loop-i
invariant-loop-i l =
    (box_of l.n l.below ≡ box_at l.n (box_of l.n l.initial.below) (values_in l.m l.edges) l.i) × HoldUpTo (held l.n (box_of l.n l.initial.below) (values_in l.m l.edges) (box_of l.n l.safe)) l.m l.i
