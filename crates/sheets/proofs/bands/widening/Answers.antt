-- `bands::widening`: nothing overflows, S being small. Assumes nothing.
use mathlib.Core.Path.{◌∙◌}
use native.Mathlib.Omega.{arith}
use Rattle.sheets.proofs.bands.Laws.{product_small, widening-is}
use Rattle.sheets.proofs.bands.widening.Goals as goal

pub overflow_mul-h : goal.overflow_mul-h
overflow_mul-h c = rw c.largest_edge.ensures (record { fits = omega (arith, product_small c.args.h c.requires) })

pub overflow_add-h : goal.overflow_add-h
overflow_add-h c = rw c.largest_edge.ensures (record { fits = omega (arith, product_small c.args.h c.requires) })

pub returns : goal.returns
returns c = c.div_ceil.ensures ∙ rw c.largest_edge.ensures (widening-is c.args.h)
