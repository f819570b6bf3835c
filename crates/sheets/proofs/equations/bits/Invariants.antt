-- `equations::bits` goes room by room. Assumes nothing.
use Rattle.meaning.specs.Sheets as S
use Rattle.sheets.proofs.equations.Laws.{StoredUpTo}
use Rattle.sheets.proofs.equations.bits.Given as goal

abbrev pub invariant-loop-i : goal.invariant-loop-i
invariant-loop-i l = StoredUpTo 0 (S.emitters l.h) 4 l.i l.bits
