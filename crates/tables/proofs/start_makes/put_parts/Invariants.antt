-- `start_makes::put_parts`: whoever writes the tables that are left has written them all. Assumes nothing.
use Prim.Native.Nat.{◌+◌, ◌-◌}
use mathlib.Core.Path.{◌≡◌}
use lib.ListN.{length}
use Rattle.meaning.specs.Starts.{tables_from}
use Rattle.tables.specs.StartMakes.{frames_rules, frames_tables}
use Rattle.tables.proofs.start_makes.Laws.{Going}
use Rattle.tables.proofs.start_makes.put_parts.Given as goal

abbrev pub invariant-loop-i : goal.invariant-loop-i
invariant-loop-i l =
    (length l.draft ≡ length l.initial.draft) × Going l.initial.buf l.at (frames_tables l.f l.bands l.coef l.edges l.m) (tables_from (frames_rules l.f l.bands l.coef l.edges) (l.m + 1 - l.i) l.i) l.place l.buf
