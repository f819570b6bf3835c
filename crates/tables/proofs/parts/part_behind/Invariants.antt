-- `parts::part_behind`: what is left from here is the whole. Assumes nothing.
use Prim.Native.Nat.{◌-◌}
use mathlib.Core.Path.{◌≡◌}
use Rattle.tables.specs.Parts.{part_behind}
use Rattle.tables.proofs.parts.part_behind.Given as goal

abbrev pub invariant-loop : goal.invariant-loop
invariant-loop l = part_behind (l.i - l.counter) l.s l.place ≡ part_behind l.i l.s l.at
