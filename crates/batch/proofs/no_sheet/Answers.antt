-- `no_sheet` is the definition's zeros. Assumes nothing.
use mathlib.Core.Path.{refl}
use Rattle.laws.specs.Lists.{tab}
use Rattle.meaning.specs.Sheets.{rooms_of, sheet_of}
use lib.Ieee.{of_bits}
use Rattle.batch.proofs.no_sheet.Goals as goal

pub returns : goal.returns
unfolding sheet_of rooms_of tab of_bits
returns c = rw c.no_room.ensures refl
