-- The end of page SheetFloats (specs/Sheets): every room of the form, the whole form, and every sheet that was judged good. It rests on that page's
-- `room-right`, and stands here since a theorem of specs/ that rests on a wrong one leaves a wrong program untried.
use Prim.Native.Nat.{ℕ, zero, suc, ◌+◌, ◌*◌, ◌≤◌, ◌<◌}
use Rattle.std.specs.Prelude.{◌≡◌, List, get_or, ℤ, nat_abs}
use Rattle.std.proofs.Math.Path.{sym}
use Rattle.std.proofs.Common.{subst, drop-drop}
use native.Mathlib.Omega.{arith}
use Rattle.std.proofs.Math.ListN.{drop}
use Rattle.laws.specs.Lists.{at}
use Rattle.meaning.specs.declared.Sheet.{Sheet}
use Rattle.meaning.specs.Files.{end, values_of, good}
use Rattle.meaning.specs.Plants as P
use Rattle.meaning.specs.Plants.{counted, from, times, bands}
use Rattle.meaning.specs.Sheets as S
use Rattle.meaning.specs.Sheets.{finite, zero_f, float_of, floating, any_float, not_below, above, emitter_form, room_form, sheet_form, no_room, emitter_of, emitter_size, room_of, rooms_of, sheet_of, room_at, exchange_at, sheet_judged}
use Rattle.promises.specs.Files.Files.{file-writes}
use Rattle.promises.specs.Files.Forms.{Right, values-right}
use Rattle.promises.specs.Files.Framed.{bands-right, framed}
use Rattle.promises.specs.Files.Related.{good-sheet}
use Rattle.promises.specs.Sheets.SheetShapes.{floats_form, rooms-padded}
use Rattle.promises.specs.Sheets.SheetFloats.{PhysicalRoom, Physical, floating-right, room_size, room-right}

-- rooms of n, the first of them from i on
module _ (vs : List ℤ) where
  module _ (n : ℕ) (some : 1 ≤ n) where
    rooms-right : (m i : ℕ) → Right (times m (room_form n) end) vs i → (k : ℕ) → k < m → PhysicalRoom n (get_or (rooms_of n m (drop i vs)) k no_room)
    unfolding P.times S.rooms_of
    rooms-right zero i h k l = absurd (omega arith)
    rooms-right (suc m) i h zero l = (room-right vs n some (times m (room_form n) end) i h).0
    rooms-right (suc m) i h (suc k) l = rw (drop-drop (room_size vs n some i) i vs) (rooms-right m (i + room_size vs n some i) (room-right vs n some (times m (room_form n) end) i h).1 k (omega arith))

-- ---- the whole form

right-physical : (vs : List ℤ) → Right sheet_form vs 0 → Physical (sheet_of vs)
unfolding S.sheet_form S.sheet_of
right-physical vs h =
    let n = nat_abs (at vs 1) in
    let w = framed 1 1_000 (λ form n r. bands n (floats_form n)) vs h in
    let behind = (bands-right vs n (floats_form n) (6 + 4 * n) w.behind).1 in
    let e : 6 + 4 * n + 2 * n ≡ 6 + 6 * n = omega arith in
    let t = floating-right vs above (floating any_float (times n (room_form n) end)) (6 + 6 * n) (rw e at behind) in
    let o = floating-right vs any_float (times n (room_form n) end) (6 + 6 * n + 1) t.1 in
    let d : 7 + 6 * n ≡ 6 + 6 * n + 1 = omega arith in
    let f : 8 + 6 * n ≡ 6 + 6 * n + 1 + 1 = omega arith in
    record {
      time-finite = t.0.is_finite;
      time-above = t.0.is_ok;
      outside-finite = rw d o.0.is_finite;
      rooms = λ i l.
          subst (PhysicalRoom n) (sym (rooms-padded n (drop (8 + 6 * n) vs) i l))
          (rw f (rooms-right vs n w.ranges.n-low n (6 + 6 * n + 1 + 1) o.1 i l));
    }

-- row 13: of every sheet that was judged good
pub judged-physical : (s : List ℕ) (h : Sheet) → sheet_judged s ≡ good h → Physical h
unfolding S.sheet_judged
judged-physical s h e =
    let g = good-sheet (values_of sheet_form s) h e in
    let w = file-writes sheet_form s g.was in
    subst Physical g.sheet (right-physical g.values (values-right sheet_form s 0 g.values g.next w.0))
