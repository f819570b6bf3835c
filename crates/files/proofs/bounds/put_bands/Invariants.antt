-- `bounds::put_bands`: what is left to write is the definition's rest. Assumes nothing.
use Prim.Native.Nat.{◌-◌}
use Rattle.laws.specs.Lists.{tabs}
use Rattle.meaning.specs.Plants.{band_of}
use Rattle.laws.specs.Writing.{Under}
use Rattle.files.specs.Signed.{signed_bytes}
use Rattle.files.proofs.bounds.put_bands.Given as goal

abbrev pub invariant-loop-i : goal.invariant-loop-i
invariant-loop-i l = Under l.initial.buf l.at (signed_bytes (tabs (band_of l.bands.lo l.bands.hi) l.n 0)) (signed_bytes (tabs (band_of l.bands.lo l.bands.hi) (l.n - l.i) l.i)) l.p l.buf
