-- `floats::low_first` reads the eight bytes at once. Assumes nothing.
use Prim.Native.Nat.{◌+◌, ◌-◌}
use mathlib.Core.Path.{◌≡◌}
use native.Mathlib.Omega.{arith}
use Rattle.sheets.proofs.floats.Laws.{low-read}
use Rattle.sheets.proofs.floats.low_first.Goals as goal

pub returns : goal.returns
returns c =
    let a = c.args in
    let bytes = c.copy_from_slice.ensures.after in
    let eight : a.at + 8 - a.at ≡ 8 = omega arith in
    rw (c.from_le_bytes.ensures, bytes, eight) (low-read a.s.now a.at c.requires (λ i. (c.type_inv.s i).fits))
