-- A float of a sheet against its definition: its bytes, its exponent's field, what is asked of it; and its bytes written.
-- Relies on promises' pages Floats and SheetRooms, and on wholes' page Fields.
use Prim.Native.Nat.{ℕ, zero, suc, ◌+◌, ◌*◌, ◌≤◌, ◌<◌}
use mathlib.Core.Path.{◌≡◌, refl, ap}
use mathlib.Core.Bool.{Bool, true, false, not, ◌&&◌}
use mathlib.Core.List.{List, [], ◌∷◌, map}
use native.Mathlib.Omega.{arith}
use native.Mathlib.Nat.{div-div-eq-div-mul}
use lib.ListN.{length, get_or, take, drop, length-take, length-drop}
use lib.Seq.{drop-cons}
use lib.Dec.{T, ltb, eqb, eqb→eq, not_T}
use lib.IntN.{pos}
use lib.Ieee.{Float, binary64, odd, of_fields, of_bits, to_bits, nan_bits, nan, inf, fin, is_nan}
use lib.Ieee.Fits.{and_l}
use lib.Ieee.Bits.{to_bits-of_bits}
use borrow.Author.Tests.{lt-ltb, eq-eqb, ne_eqb}
use Rattle.std.specs.Int.{w64, from_le_bytes, to_le_bytes}
use Rattle.std.proofs.lemmas.List.{get_or-drop, drop_all}
use Rattle.laws.specs.Lists.{all}
use Rattle.meaning.specs.declared.Refusal.{Refusal}
use Rattle.meaning.specs.Files.{taken, none, little, low_first, float_at, values_at}
use Rattle.meaning.specs.Refusals.{broken, bad_float}
use Rattle.meaning.specs.Sheets.{zero_f, floating, any_float}
use Rattle.promises.specs.Files.Floats.{float-was}
use Rattle.promises.specs.Sheets.SheetRooms.{float-held, finite_number}
use Rattle.files.specs.Parts.{behind, Fails, holds_then, holds-fails}
use Rattle.sheets.specs.Floats.{Floated, two_part, TwoFloated}
use Rattle.sheets.proofs.wholes.Fields.{exponent, digits, finite-good, finite-bad}

-- ---- eight bytes, as the machine reads them

-- a list's number is that of its first entry and of the rest
little-step : (s : List ℕ) (i : ℕ) → i < length s → little (drop i s) ≡ get_or s i 0 + 256 * little (drop (suc i) s)
unfolding little
little-step s i h = rw (drop-cons s i 0 h) refl

little-eight : (s : List ℕ) → length s ≡ 8 → little s ≡ from_le_bytes w64 s
unfolding little
little-eight s e =
    let step = λ (i : ℕ) (h : i < 8). little-step s i (omega arith) in
    let end = ap little (drop_all 8 s (omega arith)) in
    omega (arith, step 0 (omega arith), step 1 (omega arith), step 2 (omega arith), step 3 (omega arith), step 4 (omega arith), step 5 (omega arith), step 6 (omega arith), step 7 (omega arith), end)

small-bytes : (k : ℕ) (s : List ℕ) → ((i : ℕ) → get_or s i 0 < 256) → all (map (λ c. ltb c 256) (take k s)) ≡ true
unfolding all
small-bytes zero s h = refl
small-bytes (suc k) [] h = refl
small-bytes (suc k) (c ∷ s) h = simp (lt-ltb c 256 (h 0)) (small-bytes k s (λ i. h (suc i)))

pub low-read : (s : List ℕ) (from : ℕ) → from + 8 ≤ length s → ((i : ℕ) → get_or s i 0 < 256) → float_at s from ≡ taken (pos (from_le_bytes w64 (take 8 (drop from s)))) (from + 8)
low-read s from h b =
    let cs = take 8 (drop from s) in
    let long : length cs ≡ 8 = omega (arith, length-take 8 (drop from s), length-drop from s) in
    let bytes = small-bytes 8 (drop from s) (λ i. rw (get_or-drop from s i 0) (b (from + i))) in
    simp (eq-eqb (length cs) 8 long, bytes, little-eight cs long)

-- fewer than eight
pub cut_short : (s : List ℕ) (from : ℕ) → length s < from + 8 → float_at s from ≡ none
cut_short s from h =
    let long : length (take 8 (drop from s)) < 8 = omega (arith, length-take 8 (drop from s), length-drop from s) in
    simp (ne_eqb (length (take 8 (drop from s))) 8 (λ e. absurd (omega arith)))

-- ---- its bits

-- what `f64::from_bits` asks
pub no_nan : (b : ℕ) → (exponent b ≡ 2047 → ⊥) → T (not (nan_bits binary64 b))
unfolding nan_bits
no_nan b h = not_T (eqb (exponent b) 2047 && not (eqb (digits b) 0)) (λ t. h (eqb→eq (exponent b) 2047 (and_l (eqb (exponent b) 2047) (not (eqb (digits b) 0)) t)))

-- ---- a float read

module _ (ok : Float → Bool) (s : List ℕ) (from : ℕ) where
  pub float_cut : float_at s from ≡ none → Fails (floating ok) s from (broken from)
  unfolding values_at
  float_cut e = record { fails = λ rest. simp e }

  module _ (b next : ℕ) (e : float_at s from ≡ taken (pos b) next) where
    pub not_finite : exponent b ≡ 2047 → Fails (floating ok) s from (bad_float from)
    unfolding values_at
    not_finite h = record { fails = λ rest. simp (e, finite-bad b h) }

    module _ (h : exponent b ≡ 2047 → ⊥) where
      pub not-asked : ok (of_bits binary64 b) ≡ false → Fails (floating ok) s from (bad_float from)
      unfolding values_at
      not-asked o = record { fails = λ rest. simp (e, finite-good b h, o) }

      same_bits : to_bits binary64 (of_bits binary64 b) ≡ b
      same_bits =
          let w = float-was (pos b) from next s e in
          let q : b ≡ w.0 = cc in
          to_bits-of_bits binary64 b (omega (arith, w.2)) (finite_number (of_bits binary64 b) (finite-good b h))

      pub floated : ok (of_bits binary64 b) ≡ true → Floated ok s from (of_bits binary64 b) next
      unfolding values_at behind
      floated o = record {
        part = record { holds = λ rest. rw same_bits (simp (e, finite-good b h, o)) };
        held = float-held (pos b);
      }

-- ---- two floats

module _ (ok : Float → Bool) (s : List ℕ) (start : ℕ) where
  module _ (x : Float) (mid : ℕ) (t : Floated ok s start x mid) where
    pub second-cut : (e : Refusal) → Fails (floating any_float) s mid e → Fails (two_part ok) s start e
    second-cut e u = holds-fails t.part u

    pub two-read : (y : Float) (next : ℕ) → Floated any_float s mid y next → TwoFloated ok s start x y next
    two-read y next u = record { part = holds_then t.part u.part; first-held = t.held; second-held = u.held }

-- ---- a float written

pub nan-bits : (x : Float) → is_nan x ≡ true → 0x7ff8_0000_0000_0000 ≡ to_bits binary64 x
unfolding to_bits is_nan
nan-bits nan h = refl
nan-bits (inf s) h = cc
nan-bits (fin s m e) h = cc

-- its bytes, as the machine gives them
pub low-bytes : (v : ℕ) → to_le_bytes w64 v ≡ low_first 8 v
unfolding low_first
low-bytes v = simp div-div-eq-div-mul

-- the machine's 0.0
pub zero_is : of_bits binary64 0 ≡ zero_f
unfolding of_bits of_fields odd
zero_is = refl
