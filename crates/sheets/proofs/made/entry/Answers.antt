-- `made::entry` goes by the column: an entry of A, or b. Assumes nothing.
use mathlib.Core.Path.{◌∙◌}
use Rattle.sheets.proofs.equations.Laws.{sum-read, bit-read}
use Rattle.sheets.proofs.made.Laws.{entry-is, offset-is, row_below, row_small}
use Rattle.sheets.proofs.made.entry.Goals as goal

pub coefficient-requires : goal.coefficient-requires
coefficient-requires c =
    let h = c.args.h in
    let few = c.requires.fact_1.few in
    let inside = row_below h c.args.p c.requires.fact_1 in
    record { fact_1 = few; fact_2 = inside; fact_3 = c.if-j-h.true; fact_4 = sum-read h few _ inside _ c.requires.fact_2 _; fact_5 = bit-read h few _ inside _ c.requires.fact_3 _ }

pub returns-then-j-h : goal.returns-then-j-h
returns-then-j-h c =
    let a = c.args in
    c.whole.ensures ∙ entry-is a.h a.p c.if-j-h.true _ c.coefficient.ensures

pub offset-requires : goal.offset-requires
offset-requires c =
    let h = c.args.h in
    let p = c.args.p in
    record { fact_1 = row_small h p c.requires.fact_1; fact_2 = bit-read h c.requires.fact_1.few _ (row_below h p c.requires.fact_1) _ c.requires.fact_3 _ }

pub returns : goal.returns
returns c =
    let a = c.args in
    c.whole-2.ensures ∙ offset-is a.h a.p c.if-j-h.false _ c.offset.ensures
