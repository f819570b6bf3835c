-- What document 01 asks of the floats of a sheet ("The sheet", and row 13 of "What each number says"), as facts of one that was judged good: all that
-- count are finite, time is above 0, and loss, exchanges and p are not below 0. The order is lib.Ieee's, in which minus zero equals 0: it may be a loss, an
-- exchange or p, and is no time. Relies on pages Forms and Framed; the whole numbers are page SheetSound. What is made of the floats is left out.
use Prim.Native.Nat.{ℕ, zero, suc, ◌+◌, ◌-◌, ◌*◌, ◌≤◌, ◌<◌}
use Rattle.std.specs.Prelude.{◌≡◌, refl, Bool, true, false, not, List, ℤ, pos, nat_abs, Float}
use Rattle.std.proofs.Math.Path.{sym, ap}
use Rattle.std.proofs.Common.{◌∙◌, get_or-drop, drop-drop}
use native.Mathlib.Omega.{arith}
use Rattle.std.proofs.Math.ListN.{drop}
use Rattle.std.specs.Float.Ieee as Ieee
use Rattle.std.specs.Float.{fin}
use Rattle.std.specs.Float.Ieee.{lt}
use Rattle.laws.specs.Lists.{at}
use Rattle.laws.specs.Tabs.{padding-at}
use Rattle.laws.specs.Tests.{never, first, second}
use Rattle.meaning.specs.declared.Emitter.{Emitter}
use Rattle.meaning.specs.declared.Room.{Room}
use Rattle.meaning.specs.declared.Sheet.{Sheet}
use Rattle.meaning.specs.Files.{Form}
use Rattle.meaning.specs.Plants.{counted, from, times}
use Rattle.meaning.specs.Sheets as S
use Rattle.meaning.specs.Sheets.{finite, zero_f, float_of, floating, any_float, not_below, above, emitter_form, room_form, sheet_form, no_room, emitter_of, emitter_size, room_of, rooms_of, sheet_of, room_at, exchange_at, sheet_judged}
use Rattle.promises.specs.Files.Forms as F
use Rattle.promises.specs.Files.Forms.{Right, values-right, times-right}

-- ---- the sentences

-- each emitter kind has its own values: none; p, not below 0, and a water temperature; a rate
pub record PhysicalHeater (p water : Float) : Type 0 where
  pub p-finite : finite p ≡ true
  pub p-not-below : lt p zero_f ≡ false
  pub water-finite : finite water ≡ true

abbrev pub PhysicalEmitter : Emitter → Type 0
PhysicalEmitter Emitter.None = Unit {0}
PhysicalEmitter (Emitter.Heater p water) = PhysicalHeater p water
PhysicalEmitter (Emitter.Steady rate) = finite rate ≡ true

-- a room of n, with n − 1 exchanges
pub record PhysicalRoom (n : ℕ) (room : Room) : Type 0 where
  pub loss-finite : finite room.loss ≡ true
  pub loss-not-below : lt room.loss zero_f ≡ false
  pub exchanges-finite : (j : ℕ) → j < n - 1 → finite (exchange_at room j) ≡ true
  pub exchanges-not-below : (j : ℕ) → j < n - 1 → lt (exchange_at room j) zero_f ≡ false
  pub emitter : PhysicalEmitter room.emitter

pub record Physical (h : Sheet) : Type 0 where
  pub time-finite : finite h.time ≡ true
  pub time-above : lt zero_f h.time ≡ true
  pub outside-finite : finite h.outside ≡ true
  pub rooms : (i : ℕ) → i < h.n → PhysicalRoom h.n (room_at h i)

-- minus zero is finite, not below 0 and not above it
abbrev minus_zero : Float
minus_zero = fin true 0 (pos 0)

pub minus-zero : (finite minus_zero ≡ true) × (lt minus_zero zero_f ≡ false) × (lt zero_f minus_zero ≡ false)
unfolding S.finite Ieee.lt
minus-zero = (refl, refl, refl)

-- ---- a float of the form, as facts

not-true : (t : Bool) → not t ≡ true → t ≡ false
not-true true e = never e
not-true false e = refl

-- it passed its field's tests
pub record Passed (ok : Float → Bool) (x : Float) : Type 0 where
  pub is_finite : finite x ≡ true
  pub is_ok : ok x ≡ true

not-below : (x : Float) → Passed not_below x → lt x zero_f ≡ false
not-below x h = not-true (lt x zero_f) h.is_ok

module _ (vs : List ℤ) where
  abbrev pub float_in : ℕ → Float
  float_in i = float_of (at vs i)

  pub floating-right : (ok : Float → Bool) (rest : Form) (i : ℕ) → Right (floating ok rest) vs i → Passed ok (float_in i) × Right rest vs (i + 1)
  unfolding F.Right
  floating-right ok rest i h =
      let x = float_in i in
      (record { is_finite = first (finite x) (ok x) h.0; is_ok = second (finite x) (ok x) h.0 }, h.1)

  -- value j of those from i on
  value_in : (i j : ℕ) → at (drop i vs) j ≡ at vs (i + j)
  value_in i j = get_or-drop i vs j (pos 0)

  -- ---- an emitter: its number was read, and its own values stand from i on

  own-right : (kind : ℕ) (rest : Form) (i : ℕ) → Right (emitter_form rest kind) vs i → PhysicalEmitter (emitter_of kind (drop i vs)) × Right rest vs (i + emitter_size kind)
  own-right zero rest i h = let e : i + 0 ≡ i = omega arith in (tt, rw e h)
  own-right (suc zero) rest i h =
      let a = floating-right not_below (floating any_float rest) i h in
      let b = floating-right any_float rest (i + 1) a.1 in
      let e : i + 0 ≡ i = omega arith in
      let d : i + 2 ≡ i + 1 + 1 = omega arith in (
        rw (value_in i 0, value_in i 1, e) (record { p-finite = a.0.is_finite; p-not-below = not-below (float_in i) a.0; water-finite = b.0.is_finite }),
        rw d b.1,
      )
  own-right (suc (suc kind)) rest i h =
      let a = floating-right any_float rest i h in
      let e : i + 0 ≡ i = omega arith in
      (rw (value_in i 0, e) a.0.is_finite, a.1)

  emitter-right : (rest : Form) (i : ℕ) → Right (counted (from 0 2) (emitter_form rest)) vs i → Right (emitter_form rest (nat_abs (at vs i))) vs (i + 1)
  unfolding F.Right
  emitter-right rest i h = h.1

  -- ---- rooms of n, the first of them from i on

  module _ (n : ℕ) (some : 1 ≤ n) where
    -- how many values the room has
    abbrev pub room_size : ℕ → ℕ
    room_size i = n + 1 + emitter_size (nat_abs (at (drop i vs) n))

    pub room-right : (rest : Form) (i : ℕ) → Right (room_form n rest) vs i → PhysicalRoom n (room_of n (drop i vs)) × Right rest vs (i + room_size i)
    unfolding S.room_form
    room-right rest i h =
        let ws = drop i vs in
        let behind = counted (from 0 2) (emitter_form rest) in
        let a = floating-right not_below (times (n - 1) (floating not_below) behind) i h in
        let b = times-right vs (floating not_below) 1 (λ k. Passed not_below (float_in k)) (λ rest k r. floating-right not_below rest k r) (n - 1) behind (i + 1) a.1 in
        let k : i + 1 + 1 * (n - 1) ≡ i + n = omega arith in
        let kind : at vs (i + n) ≡ at ws n = sym (value_in i n) in
        let own : Right (emitter_form rest (nat_abs (at ws n))) vs (i + n + 1) = rw kind at (emitter-right rest (i + n) (rw k at b.1)) in
        let c = own-right (nat_abs (at ws n)) rest (i + n + 1) own in
        let from-here : drop (i + n + 1) vs ≡ drop (n + 1) ws = (let q : i + n + 1 ≡ i + (n + 1) = omega arith in rw q (sym (drop-drop (n + 1) i vs))) in
        let size : i + room_size i ≡ i + n + 1 + emitter_size (nat_abs (at ws n)) = omega arith in
        let loss : float_of (at ws 0) ≡ float_in i = (let e : i + 0 ≡ i = omega arith in ap float_of (value_in i 0) ∙ rw e refl) in
        let g : (j : ℕ) → j < n - 1 → exchange_at (room_of n ws) j ≡ float_in (i + 1 + 1 * j) =
        λ j l. (let e : i + (1 + j) ≡ i + 1 + 1 * j = omega arith in padding-at zero_f (λ j. float_of (at ws (1 + j))) 3 (n - 1) j l ∙ ap float_of (value_in i (1 + j)) ∙ rw e refl) in (
          record {
            loss-finite = rw loss a.0.is_finite;
            loss-not-below = rw loss (not-below (float_in i) a.0);
            exchanges-finite = λ j l. rw (g j l) (b.0 j l).is_finite;
            exchanges-not-below = λ j l. rw (g j l) (not-below (float_in (i + 1 + 1 * j)) (b.0 j l));
            emitter = rw from-here at c.0;
          },
          rw size c.1,
        )
