-- `lengths::behind`: what is left from here is the whole. Assumes nothing.
use Prim.Native.Nat.{◌-◌}
use mathlib.Core.Path.{◌≡◌}
use Rattle.tables.specs.Lengths.{behind_at}
use Rattle.tables.proofs.lengths.behind.Given as goal

abbrev pub invariant-loop : goal.invariant-loop
invariant-loop l = behind_at (l.k - l.counter) l.table l.place ≡ behind_at l.k l.table l.at
