-- `rooms::put_exchanges`: what is left to write is the definition's rest. Assumes nothing.
use Prim.Native.Nat.{◌<◌}
use mathlib.Core.Path.{◌≡◌, ◌∙◌}
use native.Mathlib.Omega.{arith}
use borrow.Author.Rules.{rules}
use lib.ListN.{length}
use lib.Ieee.{nan}
use Rattle.std.proofs.lemmas.List.{length-take, get_or-take, get_or_default}
use Rattle.meaning.specs.Sheets.{zero_f}
use Rattle.laws.specs.Tabs.{tabs-step, tabs-done}
use Rattle.laws.specs.Writing.{under_more, under-done}
use Rattle.sheets.specs.Rooms.{exchange_bytes}
use Rattle.sheets.proofs.rooms.put_exchanges.Goals as goal

pub loop-g-preserved : goal.loop-g-preserved
loop-g-preserved c =
    let a = c.args in
    let j = c.loop-g.g-index in
    let long : length a.exchange ≡ 3 = search rules in
    let few : j < a.m = omega (arith, length-take a.m a.exchange) in
    let same = get_or-take a.m a.exchange j nan few ∙ get_or_default a.exchange j nan zero_f (omega arith) in
    under_more (rw (tabs-step (exchange_bytes a.exchange) a.m j few) at c.loop-g.invariant) (rw same at c.put_float-p.ensures)

pub returns : goal.returns
returns c =
    let a = c.args in
    let long : length a.exchange ≡ 3 = search rules in
    under-done (rw (tabs-done (exchange_bytes a.exchange) a.m c.loop-g.g-index (omega (arith, length-take a.m a.exchange))) at c.loop-g.invariant)
