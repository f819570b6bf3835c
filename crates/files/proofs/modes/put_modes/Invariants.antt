-- `modes::put_modes`: what is left to write is the definition's rest. Assumes nothing.
use Prim.Native.Nat.{◌-◌}
use Rattle.laws.specs.Lists.{tabs}
use Rattle.laws.specs.Writing.{Under}
use Rattle.files.specs.Signed.{signed_bytes}
use Rattle.files.specs.Modes.{mode_numbers}
use Rattle.files.proofs.modes.put_modes.Given as goal

abbrev pub invariant-loop-u : goal.invariant-loop-u
invariant-loop-u l = Under l.initial.buf l.initial.p (signed_bytes (tabs (mode_numbers l.n l.bands l.coef) (l.modes - 1) 1)) (signed_bytes (tabs (mode_numbers l.n l.bands l.coef) (l.modes - l.u) l.u)) l.p l.buf
