-- `start_checks::tables_at`: what is left from table i on is the whole. Assumes nothing.
use Prim.Native.Nat.{◌+◌, ◌-◌, ◌≤◌}
use mathlib.Core.Path.{◌≡◌}
use Rattle.meaning.specs.Starts.{tables_at}
use Rattle.tables.specs.StartChecks.{rules_at}
use Rattle.tables.proofs.start_checks.tables_at.Given as goal

abbrev pub invariant-loop-i : goal.invariant-loop-i
invariant-loop-i l =
    (l.i ≤ l.m + 1) × (tables_at (rules_at l.f l.edges l.bands l.coef) l.start (l.m + 1 - l.i) l.i l.place ≡ tables_at (rules_at l.f l.edges l.bands l.coef) l.start (l.m + 1) 0 l.at)
