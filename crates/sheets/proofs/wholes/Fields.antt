-- What the fields of a float's 64 bits say of it: its sign, the exponent's field, the digits; whether it is finite. Assumes nothing.
use Prim.Native.Nat.{ℕ, zero, suc, ◌+◌, ◌*◌, ◌/◌, ◌%◌, ◌^◌, ◌<◌}
use mathlib.Core.Path.{◌≡◌, refl, sym, ap, ◌∙◌, subst}
use mathlib.Core.Bool.{Bool, true, false, cond}
use native.Mathlib.Omega.{arith}
use borrow.Author.Tests.{ne_eqb, eq-eqb}
use lib.Dec.{T, leb, eqb}
use lib.Ieee.{Float, nan, inf, binary64, odd, of_fields, of_bits, to_bits, fits}
use lib.Ieee.Bits.{of_bits-to_bits}
use lib.Ieee.Exact.{HasValue, odd_sign}
use Rattle.meaning.specs.Sheets.{finite}

abbrev pub sign : ℕ → Bool
sign bits = leb (2 ^ 63) bits

abbrev pub exponent : ℕ → ℕ
exponent bits = bits % 2 ^ 63 / 2 ^ 52

abbrev pub digits : ℕ → ℕ
digits bits = bits % 2 ^ 52

pub digits-few : (bits : ℕ) → digits bits < 2 ^ 52
digits-few bits = omega arith

-- a float is what the fields of its bits say
pub of-fields : (x : Float) → T (fits binary64 x) → x ≡ of_fields binary64 (sign (to_bits binary64 x)) (exponent (to_bits binary64 x)) (digits (to_bits binary64 x))
unfolding of_bits
of-fields x h = sym (of_bits-to_bits binary64 x h)

-- the field 2047: an infinity, or NaN
pub top-is : (s : Bool) (e t : ℕ) → e ≡ 2047 → of_fields binary64 s e t ≡ cond (eqb t 0) (inf s) nan
unfolding of_fields
top-is s zero t h = absurd (omega arith)
top-is s (suc j) t h = simp (eq-eqb (suc j) 2047 h)

-- another field: the digits, with the leading one unless the field is 0, in units of 2 ^ −1074
pub low_value : (s : Bool) (t : ℕ) → HasValue (of_fields binary64 s 0 t) s (t * 2 ^ 0) (2 ^ 1074)
unfolding of_fields
low_value s t = odd_sign 53 s t 0 1074

field_is : (s : Bool) (j t : ℕ) → (suc j ≡ 2047 → ⊥) → of_fields binary64 s (suc j) t ≡ odd 53 s (2 ^ 52 + t) j 1074
unfolding of_fields
field_is s j t h = simp (ne_eqb (suc j) 2047 h)

pub field-value : (s : Bool) (j t : ℕ) → (suc j ≡ 2047 → ⊥) → HasValue (of_fields binary64 s (suc j) t) s ((2 ^ 52 + t) * 2 ^ j) (2 ^ 1074)
field-value s j t h = subst (λ (v : Float). HasValue v s ((2 ^ 52 + t) * 2 ^ j) (2 ^ 1074)) (sym (field_is s j t h)) (odd_sign 53 s (2 ^ 52 + t) j 1074)

-- ---- it is finite where the exponent's field is not 2047

finite-odd : (d : ℕ) (s : Bool) (q k l : ℕ) → finite (odd d s q k l) ≡ true
unfolding odd finite
finite-odd d s zero k l = refl
finite-odd d s (suc q) k l = refl

finite-top : (b s : Bool) → finite (cond b (inf s) nan) ≡ false
unfolding finite
finite-top true s = refl
finite-top false s = refl

field-finite : (s : Bool) (e t : ℕ) → (e ≡ 2047 → ⊥) → finite (of_fields binary64 s e t) ≡ true
unfolding of_fields
field-finite s zero t h = finite-odd 53 s t 0 1074
field-finite s (suc j) t h = ap finite (field_is s j t h) ∙ finite-odd 53 s (2 ^ 52 + t) j 1074

pub finite-good : (b : ℕ) → (exponent b ≡ 2047 → ⊥) → finite (of_bits binary64 b) ≡ true
unfolding of_bits
finite-good b h = field-finite _ (exponent b) (digits b) h

pub finite-bad : (b : ℕ) → exponent b ≡ 2047 → finite (of_bits binary64 b) ≡ false
unfolding of_bits
finite-bad b h = ap finite (top-is _ (exponent b) (digits b) h) ∙ finite-top (eqb (digits b) 0) _
