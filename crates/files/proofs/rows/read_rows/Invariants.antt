-- `rows::read_rows` reads the coefficients number by number. Assumes nothing.
use Rattle.files.proofs.rows.Laws.{EntriesUpTo}
use Rattle.files.proofs.rows.read_rows.Given as goal

abbrev pub invariant-loop-c : goal.invariant-loop-c
invariant-loop-c l = EntriesUpTo l.s l.at l.n l.entries l.from l.c l.column l.p l.initial.coef l.coef
