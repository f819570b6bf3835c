-- `numbers::put_number`: whoever writes what is left of x from here has written v whole. Assumes nothing.
use Prim.Native.Nat.{ℕ}
use mathlib.Core.List.{List}
use Rattle.laws.specs.Writing.{Put}
use Rattle.meaning.specs.Numbers.{bytes_of}
use Rattle.files.proofs.numbers.put_number.Given as goal

abbrev pub invariant-loop-x : goal.invariant-loop-x
invariant-loop-x l = (r : ℕ) (out : List ℕ) → Put l.buf l.p (bytes_of l.x) r out → Put l.initial.buf l.at (bytes_of l.v) r out

abbrev pub decreases-loop-x : goal.decreases-loop-x
decreases-loop-x l = l.x
