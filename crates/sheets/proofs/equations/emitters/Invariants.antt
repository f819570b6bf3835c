-- `equations::emitters`: so far, those of the first rooms. Assumes nothing.
use Prim.Native.Nat.{◌≤◌}
use mathlib.Core.Path.{◌≡◌}
use Rattle.meaning.specs.Sheets as S
use Rattle.sheets.proofs.equations.emitters.Given as goal

abbrev pub invariant-loop-room : goal.invariant-loop-room
invariant-loop-room l = (l.t ≤ l.room-index) × (l.t ≡ S.emitters l.fn.h l.room-index)
