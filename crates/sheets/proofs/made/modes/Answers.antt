-- `made::modes`: at most four rooms have an emitter. Assumes nothing.
use native.Mathlib.Omega.{arith}
use native.Mathlib.Nat.{one-mul, mod-eq_of_lt}
use Rattle.sheets.proofs.equations.Laws.{bit-small}
use Rattle.sheets.proofs.made.Laws.{modes-few}
use Rattle.sheets.proofs.made.modes.Goals as goal

pub overflow_shl-result : goal.overflow_shl-result
overflow_shl-result c = bit-small _ _ _ c.emitters.ensures c.requires.few

pub returns : goal.returns
returns c =
    rw (c.emitters.ensures, one-mul) (mod-eq_of_lt (omega (arith, modes-few c.args.h c.requires)))
