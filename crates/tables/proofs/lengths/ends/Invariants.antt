-- `lengths::ends`: what is left from here is the whole. Assumes nothing.
use Prim.Native.Nat.{◌-◌, ◌≤◌}
use mathlib.Core.Path.{◌≡◌}
use lib.ListN.{length}
use Rattle.tables.specs.Lengths.{ends_at}
use Rattle.tables.proofs.lengths.ends.Given as goal

abbrev pub invariant-loop : goal.invariant-loop
invariant-loop l = (l.place ≤ length l.table) × (ends_at (l.k - l.counter) l.table l.cursor l.place ≡ ends_at l.k l.table l.at l.from)
