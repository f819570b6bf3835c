-- What the modes of a sheet share, room by room, as the code holds it: the sum of a room's losses, to which a heater that is on adds, and the bit that
-- switches its emitter. Definitions alone.
use Rattle.std.specs.Prelude.{ℕ, List, Float}
use Rattle.laws.specs.Lists.{tab, padded}
use Rattle.meaning.specs.declared.Sheet.{Sheet}
use Rattle.meaning.specs.Sheets.{zero_f, room_at, loss_sum, emitters}

abbrev pub sum_at : Sheet → ℕ → Float
sum_at h i = loss_sum h.n (room_at h i)

unfoldable pub sums_of : Sheet → List Float
sums_of h = padded 4 zero_f (tab (sum_at h) h.n 0)

unfoldable pub bits_of : Sheet → List ℕ
bits_of h = padded 4 0 (tab (emitters h) h.n 0)
