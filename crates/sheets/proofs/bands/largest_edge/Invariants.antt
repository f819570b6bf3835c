-- `bands::largest_edge`: so far, that of the first i rooms. Assumes nothing.
use mathlib.Core.Path.{◌≡◌}
use Rattle.meaning.specs.Sheets.{largest_edge}
use Rattle.sheets.proofs.bands.largest_edge.Given as goal

abbrev pub invariant-loop-i : goal.invariant-loop-i
invariant-loop-i l = l.most ≡ largest_edge l.h l.i
