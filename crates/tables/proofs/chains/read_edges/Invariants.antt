-- `chains::read_edges` reads the boxes' sides one by one. Assumes nothing.
use Rattle.tables.proofs.chains.Reading.{EdgesUpTo}
use Rattle.tables.proofs.chains.read_edges.Given as goal

abbrev pub invariant-loop-i : goal.invariant-loop-i
invariant-loop-i l = EdgesUpTo l.s l.at l.count l.i l.p l.edges
