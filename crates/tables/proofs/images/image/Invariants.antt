-- `images::image`: the sides that are done are those of the image. Assumes nothing.
use mathlib.Core.Path.{◌≡◌}
use Prim.Native.Nat.{◌≤◌}
use lib.ListN.{length}
use Rattle.laws.specs.Lists.{tab}
use Rattle.meaning.specs.Boxes.{side_at, sides_of}
use Rattle.tables.proofs.images.Laws.{image_side_at}
use Rattle.tables.proofs.images.image.Given as goal

abbrev pub invariant-loop-i : goal.invariant-loop-i
invariant-loop-i l =
    (l.i ≤ l.n) × (length l.least ≡ 4) × (length l.greatest ≡ 4) × (tab (side_at l.least l.greatest) l.i 0 ≡ tab (image_side_at l.n l.q l.bands l.coef l.u (sides_of l.n l.lo l.hi)) l.i 0)
