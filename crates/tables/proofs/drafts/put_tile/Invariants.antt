-- `drafts::put_tile`: what is left to write are the modes that are left. Assumes nothing.
use Rattle.laws.specs.Writing.{Under}
use Rattle.meaning.specs.Trees.{modes_bytes}
use Rattle.tables.specs.Tiles.{pattern_of}
use Rattle.tables.proofs.drafts.Laws.{modes_from}
use Rattle.tables.proofs.drafts.put_tile.Given as goal

abbrev pub invariant-loop-j : goal.invariant-loop-j
invariant-loop-j l = Under l.initial.buf l.initial.place (modes_bytes (pattern_of l.k l.us)) (modes_from l.k l.us l.j) l.place l.buf
