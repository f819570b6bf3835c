-- `bounds::read_edges` reads R and S dimension by dimension. Assumes nothing.
use Rattle.files.proofs.bounds.Laws.{EdgesUpTo}
use Rattle.files.proofs.bounds.read_edges.Given as goal

abbrev pub invariant-loop-i : goal.invariant-loop-i
invariant-loop-i l = EdgesUpTo l.s l.at l.n l.i l.p l.root.lo l.root.hi l.safe.lo l.safe.hi
