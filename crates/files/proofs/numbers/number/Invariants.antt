-- `numbers::number` reads what the definition says. The loop's invariant: after k bytes, what the definition says from here is what it says of the whole.
-- Assumes nothing.
use Prim.Native.Nat.{◌+◌, ◌-◌, ◌*◌, ◌^◌, ◌<◌}
use mathlib.Core.Path.{◌≡◌}
use Rattle.meaning.specs.Numbers.{groups_at}
use Rattle.files.proofs.numbers.number.Given as goal

abbrev pub invariant-loop-k : goal.invariant-loop-k
invariant-loop-k l = (l.at + l.k < 2 ^ 64) × (l.w ≡ 2 ^ (7 * l.k)) × (l.v < l.w) × (groups_at (5 - l.k) l.s (l.at + l.k) l.v l.w ≡ groups_at 5 l.s l.at 0 1)
