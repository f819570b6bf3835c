-- `texts::put`: what is left to put are the bytes from the index on. Assumes nothing.
use lib.ListN.{drop}
use Rattle.laws.specs.Writing.{Under}
use Rattle.figures.proofs.texts.put.Given as goal

abbrev pub invariant-loop-letter : goal.invariant-loop-letter
invariant-loop-letter l = Under l.initial.buf l.at l.text (drop l.letter-index l.text) l.place l.buf
