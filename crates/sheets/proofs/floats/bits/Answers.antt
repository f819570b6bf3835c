-- `floats::bits` has the one choice of bits for no number, and else asks the machine. Assumes nothing.
use mathlib.Core.Path.{sym, ◌∙◌}
use Rattle.sheets.proofs.floats.Laws.{nan-bits}
use Rattle.sheets.proofs.floats.bits.Goals as goal

pub returns-then-is_nan : goal.returns-then-is_nan
returns-then-is_nan c = nan-bits c.args.x (sym c.is_nan.ensures.value ∙ c.if-is_nan.true)
