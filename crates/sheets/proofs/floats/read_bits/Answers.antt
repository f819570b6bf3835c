-- `floats::read_bits`: eight bytes are there, or not. Assumes nothing.
use mathlib.Core.Path.{sym}
use native.Mathlib.Omega.{arith}
use Rattle.sheets.proofs.floats.Laws.{cut_short}
use Rattle.sheets.proofs.floats.read_bits.Goals as goal

pub returns-then-at-s : goal.returns-then-at-s
returns-then-at-s c = sym c.low_first.ensures

pub returns-else-at-s : goal.returns-else-at-s
returns-else-at-s c = sym (cut_short c.args.s.now c.args.at (omega arith))

pub returns-else-s-ge8 : goal.returns-else-s-ge8
returns-else-s-ge8 c = sym (cut_short c.args.s.now c.args.at (omega arith))
