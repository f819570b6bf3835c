-- `walks::tile`: the modes that were read are a pattern. Assumes nothing.
use mathlib.Core.Path.{sym}
use native.Mathlib.Omega.{arith}
use Rattle.tables.proofs.modes.Laws.{modes-pattern}
use Rattle.tables.proofs.walks.tile.Goals as goal

pub tile_rule-requires-clause-pattern : goal.tile_rule-requires-clause-pattern
tile_rule-requires-clause-pattern c =
    modes-pattern c.args.f.modes c.args.k c.args.table.now c.args.from c.in_ok-us.us c.in_ok-us.next (omega (arith, c.requires.size, c.requires.frame.0.longest)) (sym c.in_ok-us.ensures)
