-- `parts::part_at`: the length, and whether so many bytes stand behind it. Assumes nothing.
use mathlib.Core.Path.{sym, ◌∙◌}
use native.Mathlib.Omega.{arith}
use Rattle.tables.proofs.parts.Laws.{number-within, part-there}
use Rattle.tables.proofs.refusals.Laws.{there}
use Rattle.tables.proofs.parts.part_at.Goals as goal

pub overflow_sub-left : goal.overflow_sub-left
overflow_sub-left c = number-within c.args.s.now c.args.at _ _ (sym c.number.ensures ∙ there c.number.result c.broken.result c.in_ok-size.ensures.value)

pub returns : goal.returns
returns c = part-there c.args.s.now c.args.at _ _ (sym c.number.ensures ∙ there c.number.result c.broken.result c.in_ok-size.ensures.value) (omega arith)
