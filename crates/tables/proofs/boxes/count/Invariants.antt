-- `boxes::count`: with j sides behind it, k times the count of the others is the whole count. Assumes nothing.
use mathlib.Core.Path.{◌≡◌}
use Prim.Native.Nat.{◌≤◌, ◌-◌, ◌*◌, ◌^◌}
use Rattle.laws.specs.Lists.{tab}
use Rattle.meaning.specs.Boxes.{side_at}
use Rattle.tables.specs.Boxes.{box_of}
use Rattle.tables.proofs.boxes.Laws.{count_of}
use Rattle.tables.proofs.boxes.count.Given as goal

abbrev pub invariant-loop-j : goal.invariant-loop-j
invariant-loop-j l = (l.j ≤ l.n) × (l.k ≤ 2 ^ l.j) × (l.k * count_of (tab (side_at l.b.lo l.b.hi) (l.n - l.j) l.j) ≡ count_of (box_of l.n l.b))
