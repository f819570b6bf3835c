-- `buffers::copy`: whoever stores what is left from i on has stored the whole file. Assumes nothing.
use Prim.Native.Nat.{◌≤◌}
use mathlib.Core.Path.{◌≡◌}
use lib.ListN.{length, drop}
use lib.Seq.{sets}
use Rattle.files.proofs.buffers.copy.Given as goal

abbrev pub invariant-loop-i : goal.invariant-loop-i
invariant-loop-i l = (l.i ≤ length l.file) × (length l.buf ≡ length l.initial.buf) × (sets l.buf l.i (drop l.i l.file) ≡ sets l.initial.buf 0 l.file)
