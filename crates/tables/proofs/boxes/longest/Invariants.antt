-- `boxes::longest`: the side that leads, against the sides that are left, is the longest of all. Assumes nothing.
use mathlib.Core.Path.{◌≡◌}
use Prim.Native.Nat.{◌≤◌, ◌-◌}
use lib.IntN.{pos}
use lib.Signed.{◌≤ℤ◌}
use Rattle.laws.specs.Lists.{tab}
use Rattle.meaning.specs.Boxes.{side_at}
use Rattle.tables.specs.Boxes.{box_of, longest_at}
use Rattle.tables.proofs.boxes.Halving.{leads}
use Rattle.tables.proofs.boxes.longest.Given as goal

abbrev pub invariant-loop-j : goal.invariant-loop-j
invariant-loop-j l =
    (l.j ≤ l.n) × (pos 0 ≤ℤ l.most) × (leads l.most l.place l.j (tab (side_at l.b.lo l.b.hi) (l.n - l.j) l.j) ≡ longest_at (box_of l.n l.b))
