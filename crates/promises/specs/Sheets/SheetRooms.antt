-- S2 for sheets, their rooms: a room is what its values say, and values that were read by a room's form are those of the room that they make.
-- In a file a float is its bit pattern. Every pattern stands for a float that binary64 holds, and a finite one is its float's own pattern (lib.Ieee); a
-- float that binary64 does not hold has no pattern of 64 bits, so of a room's floats it is asked that it holds them. Minus zero keeps its sign.
-- Relies on pages Files, FormShapes and Passing.
use Prim.Native.Nat.{ℕ, zero, suc, ◌+◌, ◌-◌, ◌≤◌, ◌<◌}
use Rattle.std.specs.Prelude.{◌≡◌, Bool, true, not, ◌&&◌, T, length, pos, nat_abs, Float}
use Rattle.std.proofs.Math.Path.{refl, sym, ap}
use Rattle.std.proofs.Common.{◌∙◌, subst, zero-add, get_or-drop, drop-drop}
use mathlib.Core.List.{List, [], ◌∷◌, ◌++◌, append_assoc}
use native.Mathlib.Omega.{arith}
use Rattle.std.proofs.Math.ListN.{drop, get_or-append}
use Rattle.std.proofs.Math.Seq.{get_or-append-add, drop-append-add}
use Rattle.std.proofs.Math.IntN.{ℤ}
use Rattle.std.specs.Float.Ieee as Ieee
use Rattle.std.specs.Float.{nan, inf, fin, binary64}
use Rattle.std.specs.Float.Ieee.{fits, is_nan}
use Rattle.std.specs.Float.Ieee.Bits.{of_bits-to_bits, to_bits-lt, of_bits-fits, to_bits-of_bits}
use Rattle.laws.specs.Columns.{tab-tabs, tab-drop, padding-filled}
use Rattle.laws.specs.Lists.{at, tab, padded}
use Rattle.laws.specs.Tabs.{length-tab, get_d-tab, tab-same, padding-at, FilledBy, filling-padded}
use Rattle.laws.specs.Tests.{never, first}
use Rattle.meaning.specs.declared.Emitter.{Emitter}
use Rattle.meaning.specs.declared.Room.{Room}
use Rattle.meaning.specs.Files.{float, Form}
use Rattle.meaning.specs.Plants as P
use Rattle.meaning.specs.Plants.{counted, from, times}
use Rattle.meaning.specs.Sheets as S
use Rattle.meaning.specs.Sheets.{finite, zero_f, float_of, bits_of, floating, not_below, any_float, emitter_form, room_form, emitter_of, emitter_size, room_of, emitter_values, exchange_at, room_values}
use Rattle.promises.specs.Files.Files as J
use Rattle.promises.specs.Files.Files.{Storable, Shaped}
use Rattle.promises.specs.Files.FormShapes.{times-each}
use Rattle.promises.specs.Files.Headers.{most-of}
use Rattle.promises.specs.Files.Passing as Q
use Rattle.promises.specs.Files.Passing.{Passes}

-- ---- floats

-- binary64 holds it: so it is with every f64
abbrev pub Held : Float → Type 0
Held x = T (fits binary64 x)

pub bits-stored : (x : Float) → Held x → Storable float (bits_of x)
bits-stored x t = (refl, to_bits-lt binary64 x t)

pub bits_back : (x : Float) → Held x → float_of (bits_of x) ≡ x
bits_back x t = of_bits-to_bits binary64 x t

pub float-held : (v : ℤ) → Held (float_of v)
float-held v = of_bits-fits binary64 (nat_abs v)

pub finite_number : (x : Float) → finite x ≡ true → T (not (is_nan x))
unfolding S.finite Ieee.is_nan
finite_number nan e = never e
finite_number (inf s) e = never e
finite_number (fin s m e) h = tt

pub float_back : (v : ℤ) → Storable float v → finite (float_of v) ≡ true → bits_of (float_of v) ≡ v
float_back v s e = ap pos (to_bits-of_bits binary64 (nat_abs v) s.1 (finite_number (float_of v) e)) ∙ s.0

-- ---- a room's floats, and a room that holds 0.0 beyond its n − 1 exchanges

abbrev pub HeldEmitter : Emitter → Type 0
HeldEmitter Emitter.None = Unit {0}
HeldEmitter (Emitter.Heater p water) = Held p × Held water
HeldEmitter (Emitter.Steady rate) = Held rate

pub record HeldRoom (n : ℕ) (room : Room) : Type 0 where
  pub loss : Held room.loss
  pub exchanges : (j : ℕ) → j < n - 1 → Held (exchange_at room j)
  pub emitter : HeldEmitter room.emitter

abbrev pub TidyRoom : ℕ → Room → Type 0
TidyRoom n room = FilledBy zero_f 3 (n - 1) room.exchange

emitter-held : (kind : ℕ) (vs : List ℤ) → HeldEmitter (emitter_of kind vs)
emitter-held zero vs = tt
emitter-held (suc zero) vs = (float-held (at vs 0), float-held (at vs 1))
emitter-held (suc (suc kind)) vs = float-held (at vs 0)

-- a room made of values
pub room-held : (n : ℕ) (vs : List ℤ) → HeldRoom n (room_of n vs)
room-held n vs = record {
  loss = float-held (at vs 0);
  exchanges = λ j h. subst Held (sym (padding-at zero_f (λ j. float_of (at vs (1 + j))) 3 (n - 1) j h)) (float-held (at vs (1 + j)));
  emitter = emitter-held (nat_abs (at vs n)) (drop (n + 1) vs);
}

pub room-tidy : (n : ℕ) (vs : List ℤ) → n ≤ 4 → TidyRoom n (room_of n vs)
room-tidy n vs few = padding-filled zero_f (λ j. float_of (at vs (1 + j))) 3 (n - 1) (omega arith)

-- ---- the shape of a room's values

emitter-shaped : (e : Emitter) → HeldEmitter e → (rest : Form) (vs : List ℤ) → Shaped rest vs → Shaped (counted (from 0 2) (emitter_form rest)) (emitter_values e ++ vs)
unfolding J.Shaped
emitter-shaped Emitter.None t rest vs h = (refl, h)
emitter-shaped (Emitter.Heater p water) t rest vs h = (refl, (bits-stored p t.0, (bits-stored water t.1, h)))
emitter-shaped (Emitter.Steady rate) t rest vs h = (refl, (bits-stored rate t, h))

pub room-shaped : (n : ℕ) (room : Room) → HeldRoom n room → (rest : Form) (vs : List ℤ) → Shaped rest vs → Shaped (room_form n rest) (room_values n room ++ vs)
unfolding J.Shaped S.room_form
room-shaped n room t rest vs h =
    let bits : ℕ → ℤ = λ j. bits_of (exchange_at room j) in (
      bits-stored room.loss t.loss,
      rw (append_assoc (tab bits (n - 1) 0) (emitter_values room.emitter) vs, tab-tabs bits (n - 1) 0)
          (times-each Shaped (floating not_below) (λ j. bits j ∷ []) (n - 1) 0 (counted (from 0 2) (emitter_form rest)) (emitter_values room.emitter ++ vs)
          (λ j a b rest vs p. (bits-stored (exchange_at room j) (t.exchanges j (omega arith)), p)) (emitter-shaped room.emitter t.emitter rest vs h)),
    )

-- ---- a room that was written

emitter-back : (e : Emitter) → HeldEmitter e → (vs : List ℤ)
    → (emitter_of (nat_abs (at (emitter_values e ++ vs) 0)) (drop 1 (emitter_values e ++ vs)) ≡ e)
    × (drop (1 + emitter_size (nat_abs (at (emitter_values e ++ vs) 0))) (emitter_values e ++ vs) ≡ vs)
emitter-back Emitter.None t vs = (refl, refl)
emitter-back (Emitter.Heater p water) t vs = (rw (bits_back p t.0, bits_back water t.1) refl, refl)
emitter-back (Emitter.Steady rate) t vs = (rw (bits_back rate t) refl, refl)

module _ (n : ℕ) (some : 1 ≤ n) (room : Room) (t : HeldRoom n room) (f : TidyRoom n room) (vs : List ℤ) where
  front : List ℤ
  front = bits_of room.loss ∷ tab (λ j. bits_of (exchange_at room j)) (n - 1) 0

  tail : List ℤ
  tail = emitter_values room.emitter ++ vs

  whole : room_values n room ++ vs ≡ front ++ tail
  unfolding front tail
  whole = ap (λ (l : List ℤ). bits_of room.loss ∷ l) (append_assoc (tab (λ j. bits_of (exchange_at room j)) (n - 1) 0) (emitter_values room.emitter) vs)

  front_long : length front ≡ n
  unfolding front
  front_long = omega (arith, length-tab (λ j. bits_of (exchange_at room j)) (n - 1) 0)

  tail_at : (k : ℕ) → at (front ++ tail) (n + k) ≡ at tail k
  tail_at k = ap (λ (c : ℕ). at (front ++ tail) (c + k)) (sym front_long) ∙ get_or-append-add front tail k (pos 0)

  tail-drop : (k : ℕ) → drop (n + k) (front ++ tail) ≡ drop k tail
  tail-drop k = ap (λ (c : ℕ). drop (c + k) (front ++ tail)) (sym front_long) ∙ drop-append-add front tail k

  kind_at : at (front ++ tail) n ≡ at tail 0
  kind_at = let e : n ≡ n + 0 = omega arith in ap (at (front ++ tail)) e ∙ tail_at 0

  exchange-back : (j : ℕ) → j < n - 1 → float_of (at (front ++ tail) (1 + j)) ≡ exchange_at room j
  unfolding front
  exchange-back j h =
      let bits : ℕ → ℤ = λ j. bits_of (exchange_at room j) in
      let e : at (front ++ tail) (1 + j) ≡ bits j =
      get_or-append-add (bits_of room.loss ∷ []) (tab bits (n - 1) 0 ++ tail) j (pos 0)
      ∙ get_or-append (tab bits (n - 1) 0) tail (pos 0) j (omega (arith, length-tab bits (n - 1) 0)) ∙ get_d-tab bits (pos 0) (n - 1) 0 j h ∙ ap bits (zero-add j) in
      ap float_of e ∙ bits_back (exchange_at room j) (t.exchanges j h)

  loss-back : float_of (at (front ++ tail) 0) ≡ room.loss
  unfolding front
  loss-back = bits_back room.loss t.loss

  emitter-is : emitter_of (nat_abs (at (front ++ tail) n)) (drop (n + 1) (front ++ tail)) ≡ room.emitter
  unfolding tail
  emitter-is = rw (kind_at, tail-drop 1) (emitter-back room.emitter t.emitter vs).0

  pub room_back : n ≤ 4 → room_of n (room_values n room ++ vs) ≡ room
  room_back few =
      ap (room_of n) whole
      ∙ same loss-back
      (ap (padded 3 zero_f) (tab-same (λ j. float_of (at (front ++ tail) (1 + j))) (exchange_at room) (n - 1) 0 (λ j a b. exchange-back j (omega arith))) ∙ filling-padded zero_f f (omega arith))
      emitter-is
    where
      same : {l l' : Float} {x x' : List Float} {e e' : Emitter} → l ≡ l' → x ≡ x' → e ≡ e'
          → ◌≡◌ {A = Room} (record { loss = l; exchange = x; emitter = e }) (record { loss = l'; exchange = x'; emitter = e' })
      same p q r = rw (p, q, r) refl

  pub room-behind : drop (n + 1 + emitter_size (nat_abs (at (room_values n room ++ vs) n))) (room_values n room ++ vs) ≡ vs
  unfolding tail
  room-behind =
      let size = emitter_size (nat_abs (at tail 0)) in
      let e : n + 1 + size ≡ n + (1 + size) = omega arith in
      ap (λ (l : List ℤ). drop (n + 1 + emitter_size (nat_abs (at l n))) l) whole
      ∙ ap (λ (z : ℤ). drop (n + 1 + emitter_size (nat_abs z)) (front ++ tail)) kind_at
      ∙ ap (λ (k : ℕ). drop k (front ++ tail)) e ∙ tail-drop (1 + size) ∙ (emitter-back room.emitter t.emitter vs).1

-- ---- a room that was read

pub float-taken : (ok : Float → Bool) (v : ℤ) → Storable float v → (finite (float_of v) && ok (float_of v)) ≡ true → bits_of (float_of v) ≡ v
float-taken ok v s r = float_back v s (first (finite (float_of v)) (ok (float_of v)) r)

floats-taken : (ok : Float → Bool) (m : ℕ) (rest : Form) (vs : List ℤ) → Passes (times m (floating ok) rest) vs
    → (m ≤ length vs) × ((j : ℕ) → j < m → bits_of (float_of (at vs j)) ≡ at vs j) × Passes rest (drop m vs)
unfolding Q.Passes P.times
floats-taken ok zero rest vs h = (omega arith, λ j l. absurd (omega arith), h)
floats-taken ok (suc m) rest [] h = absurd h
floats-taken ok (suc m) rest (v ∷ vs) h =
    let w = floats-taken ok m rest vs h.3 in
    (omega (arith, w.0), each (float-taken ok v h.0 h.2) w.1, w.2)
  where
    each : bits_of (float_of v) ≡ v → ((j : ℕ) → j < m → bits_of (float_of (at vs j)) ≡ at vs j) → (j : ℕ) → j < suc m → bits_of (float_of (at (v ∷ vs) j)) ≡ at (v ∷ vs) j
    each e more zero l = e
    each e more (suc j) l = more j (omega arith)

-- an emitter's values behind its number
own-taken : (kind : ℕ) (rest : Form) (vs : List ℤ) → kind ≤ 2 → Passes (emitter_form rest kind) vs
    → (emitter_values (emitter_of kind vs) ++ drop (emitter_size kind) vs ≡ pos kind ∷ vs) × Passes rest (drop (emitter_size kind) vs)
unfolding Q.Passes
own-taken zero rest vs l h = (refl, h)
own-taken (suc zero) rest [] l h = absurd h
own-taken (suc zero) rest (p ∷ []) l h = absurd h.3
own-taken (suc zero) rest (p ∷ water ∷ vs) l h =
    (rw (float-taken not_below p h.0 h.2, float-taken any_float water h.3.0 h.3.2) refl, h.3.3)
own-taken (suc (suc zero)) rest [] l h = absurd h
own-taken (suc (suc zero)) rest (rate ∷ vs) l h = (rw (float-taken any_float rate h.0 h.2) refl, h.3)
own-taken (suc (suc (suc kind))) rest vs l h = absurd (omega arith)

-- its number and its values
abbrev emitter_at : List ℤ → Emitter
emitter_at vs = emitter_of (nat_abs (at vs 0)) (drop 1 vs)

abbrev emitter_behind : List ℤ → List ℤ
emitter_behind vs = drop (1 + emitter_size (nat_abs (at vs 0))) vs

emitter-taken : (rest : Form) (vs : List ℤ) → Passes (counted (from 0 2) (emitter_form rest)) vs → (emitter_values (emitter_at vs) ++ emitter_behind vs ≡ vs) × Passes rest (emitter_behind vs)
unfolding Q.Passes
emitter-taken rest [] h = absurd h
emitter-taken rest (k ∷ vs) h =
    let kind = nat_abs k in
    let w = own-taken kind rest vs (most-of 0 2 kind h.2) h.3 in
    let e : drop (1 + emitter_size kind) (k ∷ vs) ≡ drop (emitter_size kind) vs = (let q : 1 + emitter_size kind ≡ suc (emitter_size kind) = omega arith in rw q refl) in
    rw e (w.0 ∙ ap (λ (z : ℤ). z ∷ vs) h.0, w.1)

module _ (n : ℕ) (some : 1 ≤ n) (rest : Form) (v : ℤ) (vs : List ℤ) (h : Passes (room_form n rest) (v ∷ vs)) where
  values : List ℤ
  values = v ∷ vs

  behind : List ℤ
  behind = drop (n - 1) vs

  exchanges-taken : (n - 1 ≤ length vs) × ((j : ℕ) → j < n - 1 → bits_of (float_of (at vs j)) ≡ at vs j) × Passes (counted (from 0 2) (emitter_form rest)) behind
  unfolding Q.Passes S.room_form behind
  exchanges-taken = floats-taken not_below (n - 1) (counted (from 0 2) (emitter_form rest)) vs h.3

  loss-taken : bits_of (float_of v) ≡ v
  unfolding Q.Passes S.room_form
  loss-taken = float-taken not_below v h.0 h.2

  value-at : (j : ℕ) → at values (1 + j) ≡ at vs j
  unfolding values
  value-at j = get_or-append-add (v ∷ []) vs j (pos 0)

  behind-at : at values n ≡ at behind 0
  unfolding behind
  behind-at =
      let e : n ≡ 1 + (n - 1 + 0) = omega arith in
      ap (at values) e ∙ value-at (n - 1 + 0) ∙ sym (get_or-drop (n - 1) vs 0 (pos 0))

  behind-drop : (k : ℕ) → drop (n + k) values ≡ drop k behind
  unfolding values behind
  behind-drop k =
      let e : n + k ≡ 1 + (n - 1 + k) = omega arith in
      ap (λ (c : ℕ). drop c values) e ∙ drop-append-add (v ∷ []) vs (n - 1 + k) ∙ sym (drop-drop k (n - 1) vs)

  room_behind : List ℤ
  room_behind = drop (n + 1 + emitter_size (nat_abs (at values n))) values

  behind-is : room_behind ≡ emitter_behind behind
  unfolding room_behind
  behind-is =
      let size = emitter_size (nat_abs (at behind 0)) in
      let e : n + 1 + size ≡ n + (1 + size) = omega arith in
      ap (λ (z : ℤ). drop (n + 1 + emitter_size (nat_abs z)) values) behind-at ∙ ap (λ (k : ℕ). drop k values) e ∙ behind-drop (1 + size)

  emitter-at : emitter_of (nat_abs (at values n)) (drop (n + 1) values) ≡ emitter_at behind
  emitter-at = rw (behind-at, behind-drop 1) refl

  exchanges-at : tab (λ j. bits_of (exchange_at (room_of n values) j)) (n - 1) 0 ≡ tab (at vs) (n - 1) 0
  exchanges-at = tab-same (λ j. bits_of (exchange_at (room_of n values) j)) (at vs) (n - 1) 0 (λ j a b. here j (omega arith))
    where
      here : (j : ℕ) → j < n - 1 → bits_of (exchange_at (room_of n values) j) ≡ at vs j
      here j l =
          ap bits_of (padding-at zero_f (λ j. float_of (at values (1 + j))) 3 (n - 1) j l) ∙ ap (λ (z : ℤ). bits_of (float_of z)) (value-at j) ∙ exchanges-taken.1 j l

  joined : tab (at vs) (n - 1) 0 ++ behind ≡ vs
  unfolding behind
  joined = let e : 0 + (n - 1) ≡ n - 1 = omega arith in rw e at (tab-drop vs (n - 1) 0 (omega (arith, exchanges-taken.0)))

  room_joined : room_values n (room_of n values) ++ room_behind ≡ values
  unfolding values
  room_joined =
      let w = emitter-taken rest behind exchanges-taken.2 in
      let es = tab (at vs) (n - 1) 0 in
      let e : tab (λ j. bits_of (exchange_at (room_of n values) j)) (n - 1) 0 ++ emitter_values (emitter_of (nat_abs (at values n)) (drop (n + 1) values)) ≡ es ++ emitter_values (emitter_at behind) =
      rw (exchanges-at, emitter-at) refl in
      let j : (es ++ emitter_values (emitter_at behind)) ++ emitter_behind behind ≡ vs =
      append_assoc es (emitter_values (emitter_at behind)) (emitter_behind behind) ∙ ap (λ (t : List ℤ). es ++ t) w.0 ∙ joined in
      cons loss-taken (ap (λ (t : List ℤ). t ++ room_behind) e ∙ ap (λ (t : List ℤ). (es ++ emitter_values (emitter_at behind)) ++ t) behind-is ∙ j)
    where
      cons : {a b : ℤ} {x y : List ℤ} → a ≡ b → x ≡ y → a ∷ x ≡ b ∷ y
      cons p q = rw (p, q) refl

  room-rest : Passes rest room_behind
  room-rest = rw behind-is (emitter-taken rest behind exchanges-taken.2).1

-- the values of a room, and what is left behind them
pub room-taken : (n : ℕ) → 1 ≤ n → (rest : Form) (vs : List ℤ) → Passes (room_form n rest) vs
    → (room_values n (room_of n vs) ++ drop (n + 1 + emitter_size (nat_abs (at vs n))) vs ≡ vs) × Passes rest (drop (n + 1 + emitter_size (nat_abs (at vs n))) vs)
unfolding Q.Passes S.room_form values room_behind
room-taken n some rest [] h = absurd h
room-taken n some rest (v ∷ vs) h = (room_joined n some rest v vs h, room-rest n some rest v vs h)
