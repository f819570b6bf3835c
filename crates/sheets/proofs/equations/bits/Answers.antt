-- `equations::bits` goes room by room. Assumes nothing.
use native.Mathlib.Omega.{arith}
use Rattle.meaning.specs.Sheets as S
use Rattle.sheets.specs.Equations as Q
use Rattle.sheets.proofs.equations.Laws.{stored-all}
use Rattle.sheets.proofs.equations.bits.Goals as goal

pub returns : goal.returns
unfolding Q.bits_of
returns c =
    let h = c.args.h in
    stored-all 0 (S.emitters h) 4 h.n c.loop-i.i c.loop-i.bits (omega arith) (omega arith) (omega arith) c.loop-i.invariant
