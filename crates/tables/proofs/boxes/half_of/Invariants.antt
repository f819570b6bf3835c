-- `boxes::half_of`: the sides that are done, with what the others say, are the whole child that holds the reading. Assumes nothing.
use Rattle.tables.proofs.boxes.HalfOf.{Halfway}
use Rattle.tables.proofs.boxes.half_of.Given as goal

abbrev pub invariant-loop-j : goal.invariant-loop-j
invariant-loop-j l = Halfway l.b.lo l.b.hi l.x l.kid.lo l.kid.hi l.n l.number l.count l.j
