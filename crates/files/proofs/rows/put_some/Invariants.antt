-- `rows::put_some`: what is left to write is the definition's rest. Assumes nothing.
use Prim.Native.Nat.{◌+◌, ◌-◌}
use Rattle.laws.specs.Lists
use Rattle.laws.specs.Lists.{tab}
use Rattle.laws.specs.Writing.{Under}
use Rattle.files.specs.Signed.{signed_bytes}
use Rattle.files.proofs.rows.put_some.Given as goal

abbrev pub invariant-loop-i : goal.invariant-loop-i
invariant-loop-i l = Under l.initial.buf l.at (signed_bytes (tab (Lists.at l.values) l.count l.from)) (signed_bytes (tab (Lists.at l.values) (l.from + l.count - l.i) l.i)) l.p l.buf
