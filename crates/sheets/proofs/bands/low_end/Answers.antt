-- `bands::low_end`: the sum stays small. Assumes nothing.
use Prim.Native.Nat.{ℕ}
use mathlib.Core.Path.{ap, ◌∙◌}
use lib.IntN.{pos, ◌-ℤ◌}
use Rattle.laws.specs.Lists.{at}
use Rattle.laws.specs.Expressions.{Ex, var, ◌⊝◌, need, exact}
use Rattle.meaning.specs.Plants.{band_limit}
use Rattle.meaning.specs.Sheets.{limited_to}
use Rattle.sheets.proofs.bands.Laws.{width_fits, width}
use Rattle.sheets.proofs.bands.low_end.Goals as goal

pub overflow_cast-w : goal.overflow_cast-w
overflow_cast-w c = width_fits c.args.h c.requires.fact_1 c.widening-w.result c.widening-w.ensures

pub overflow_sub-h : goal.overflow_sub-h
overflow_sub-h c =
    let sum : Ex = var (at c.args.h.wlo c.args.i) band_limit (c.requires.fact_1.bands c.args.i c.requires.fact_2).0 ⊝ width c.args.h c.requires.fact_1 c.widening-w.result c.widening-w.ensures in
    need sum tt

pub returns : goal.returns
returns c =
    let sum : Ex = var (at c.args.h.wlo c.args.i) band_limit (c.requires.fact_1.bands c.args.i c.requires.fact_2).0 ⊝ width c.args.h c.requires.fact_1 c.widening-w.result c.widening-w.ensures in
    let v = at c.args.h.wlo c.args.i in
    c.end.ensures ∙ ap (limited_to band_limit) (exact sum tt) ∙ ap (λ (w : ℕ). limited_to band_limit (v -ℤ pos w)) c.widening-w.ensures
