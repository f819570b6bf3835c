-- `lengths::total`: what is added so far and what is left come to the whole; k lengths below 2^35 are below k·2^35. Assumes nothing.
use Prim.Native.Nat.{◌-◌, ◌*◌, ◌≤◌}
use mathlib.Core.Path.{◌≡◌}
use Rattle.meaning.specs.Verdicts.{lengths_at}
use Rattle.tables.specs.Lengths.{total_of, total_at}
use Rattle.tables.proofs.lengths.total.Given as goal

abbrev pub invariant-loop : goal.invariant-loop
invariant-loop l = (l.sum ≤ l.counter * 34_359_738_368) × (total_of l.sum (lengths_at (l.k - l.counter) l.table l.place) ≡ total_at l.k l.table l.at)
