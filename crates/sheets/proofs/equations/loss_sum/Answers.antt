-- `equations::loss_sum`: what is summed so far and what is left give the whole sum. Assumes nothing.
use Prim.Native.Nat.{◌-◌, ◌<◌}
use mathlib.Core.Path.{◌≡◌, sym, ◌∙◌}
use native.Mathlib.Omega.{arith}
use borrow.Author.Rules.{rules}
use lib.ListN.{length}
use lib.Ieee.{nan}
use Rattle.std.proofs.lemmas.List.{length-take, get_or-take, get_or_default}
use Rattle.meaning.specs.Sheets.{zero_f, exchange_at}
use Rattle.sheets.proofs.equations.Laws.{sum_step, sum_done}
use Rattle.sheets.proofs.equations.loss_sum.Goals as goal

pub loop-g-preserved : goal.loop-g-preserved
loop-g-preserved c =
    let a = c.args in
    let gs = a.room.exchange in
    let j = c.loop-g.g-index in
    let long : length gs ≡ 3 = search rules in
    let few : j < a.n - 1 = omega (arith, length-take (a.n - 1) gs) in
    let same = get_or-take (a.n - 1) gs j nan few ∙ get_or_default gs j nan zero_f (omega arith) in
    rw same (sym (sum_step (exchange_at a.room) c.loop-g.s (a.n - 1) j few) ∙ c.loop-g.invariant)

pub returns : goal.returns
returns c =
    let a = c.args in
    let gs = a.room.exchange in
    let long : length gs ≡ 3 = search rules in
    sym (sum_done (exchange_at a.room) c.loop-g.s (a.n - 1) c.loop-g.g-index (omega (arith, length-take (a.n - 1) gs))) ∙ c.loop-g.invariant
