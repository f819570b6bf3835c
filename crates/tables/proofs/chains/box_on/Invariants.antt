-- `chains::box_on` takes a box out of the edges, side by side. Assumes nothing.
use Prim.Native.Nat.{◌*◌, ◌+◌}
use Rattle.tables.proofs.chains.Laws.{TakenOut}
use Rattle.tables.proofs.chains.box_on.Given as goal

abbrev pub invariant-loop-j : goal.invariant-loop-j
invariant-loop-j l = TakenOut l.edges (2 * (l.i * l.n)) l.j l.lo × TakenOut l.edges (2 * (l.i * l.n) + 1) l.j l.hi
