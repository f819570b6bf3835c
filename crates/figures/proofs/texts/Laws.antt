-- Laws of text that is put into a buffer, in the terms of the proofs. Assumes nothing.
use Prim.Native.Nat.{ℕ, zero, suc, ◌+◌, ◌-◌, ◌*◌, ◌/◌, ◌%◌, ◌^◌, ◌≤◌, ◌<◌, min}
use mathlib.Core.Path.{◌≡◌, refl, sym, ap, ◌∙◌, subst}
use mathlib.Core.List.{List, [], ◌∷◌, ◌++◌}
use native.Mathlib.Omega.{arith}
use native.Mathlib.Numerals.{add-one}
use native.Mathlib.Nat.{zero-lt-suc, one-le-pow, pow-le-pow_right}
use native.Mathlib.Decide.{dec_le}
use lib.ListN.{length, get_or, take, drop}
use lib.Seq.{drop-cons, take-append_seam, sets-eq}
use Rattle.std.proofs.Common.{length-append, le-leb}
use lib.Pow.{pow-add}
use lib.Dec.{T, ltb}
use lib.IntN.{ℤ, pos, negsuc, nat_abs}
use lib.Signed.{le_z}
use mathlib.Core.Bool.{Bool, true, false}
use borrow.Author.Tests.{lt-ltb, le-ltb}
use Rattle.io.specs.Digits.{last_digits, hex_digit_ascii, IsDigitCount}
use Rattle.laws.specs.Writing.{Put, Under, put-append, put-length}
use Rattle.figures.specs.Texts.{digits_in, decimal, signed_decimal}

-- a write from where the place stopped is a write from the place itself
pub under-stopped : (buf : List ℕ) (at : ℕ) (whole : List ℕ) (p : ℕ) → p ≡ min at (length buf + 1) → Under buf at whole whole p buf
under-stopped buf at whole p e = record {
  long = refl;
  within = omega arith;
  goes = λ next out t. put-append {xs = []} (record { place = omega arith; bytes = refl }) t;
}

-- the byte at i, then the bytes behind it
pub next-byte : (s : List ℕ) (i : ℕ) → i < length s → drop i s ≡ (get_or s i 0 ∷ []) ++ drop (i + 1) s
next-byte s i h = drop-cons s i 0 h ∙ ap (λ (k : ℕ). get_or s i 0 ∷ drop k s) (sym (add-one i))

-- ---- the digits that io puts are those of the definition

one-digit : (n : ℕ) → n < 10 → hex_digit_ascii (n % 10) ≡ 48 + n
one-digit n h = let e : n % 10 ≡ n = omega arith in rw e (simp (lt-ltb n 10 h))

last-digit : (n : ℕ) → hex_digit_ascii (n % 10) ≡ 48 + n % 10
last-digit n = let h : n % 10 < 10 = omega arith in simp (lt-ltb (n % 10) 10 h)

ten-times : (k : ℕ) → 10 ^ suc k ≡ 10 ^ k * 10
ten-times k = rw (← add-one k) (pow-add 10 k 1)

pub digits_are : (most k n : ℕ) → k ≤ most → IsDigitCount 10 1 n k → last_digits 10 k n ≡ digits_in most n
unfolding digits_in
digits_are most zero n h f = absurd (omega (arith, f.0))
digits_are zero (suc _) n h f = elim h [ ]
digits_are (suc most) (suc zero) n h f =
    let l : n < 10 = f.1 in
    rw (one-digit n l) (simp (lt-ltb n 10 l))
digits_are (suc most) (suc (suc k)) n h f =
    let t = ten-times k in
    let t2 = ten-times (suc k) in
    let e : suc (suc k) - 1 ≡ suc k = omega arith in
    let up : 10 ^ suc k ≤ n = rw e at (f.2 (omega arith)) in
    let below : n < 10 ^ suc (suc k) = f.1 in
    let some : 1 ≤ 10 ^ k = one-le-pow k 10 (zero-lt-suc 9) in
    let ten : 10 ≤ n = omega arith in
    let e2 : suc k - 1 ≡ k = omega arith in
    let less : 10 ^ (suc k - 1) ≤ n / 10 = rw e2 (omega arith) in
    rw (le-ltb n 10 ten, last-digit n, digits_are most (suc k) (n / 10) (omega arith) (omega arith, omega arith, λ g. less)) refl

pub few-digits : (n k : ℕ) → n < 2 ^ 64 → IsDigitCount 10 1 n k → k ≤ 20
few-digits n k h f = go (dec_le k 20)
  where
    go : Dec (k ≤ 20) → k ≤ 20
    go (yes l) = l
    go (no l) =
        let m : 20 ≤ k - 1 = omega arith in
        let p : 10 ^ 20 ≤ 10 ^ (k - 1) = pow-le-pow_right (zero-lt-suc 9) m in
        let q : 10 ^ (k - 1) ≤ n = f.2 (omega arith) in
        omega arith

-- ---- a signed number's digits are those of its size

pub signed_up : (v : ℤ) → le_z (pos 0) v ≡ true → signed_decimal v ≡ decimal (nat_abs v)
unfolding signed_decimal decimal
signed_up (pos n) e = refl
signed_up (negsuc n) e = absurd (subst T (sym e) tt)

pub signed-down : (v : ℤ) → le_z (pos 0) v ≡ false → signed_decimal v ≡ (45 ∷ []) ++ decimal (nat_abs v)
unfolding signed_decimal decimal
signed-down (pos n) e = absurd (subst T (sym (le-leb 0 n (omega arith)) ∙ e) tt)
signed-down (negsuc n) e = refl

-- ---- a text that was put at the start of a buffer with room for it

digits-few : (most n : ℕ) → length (digits_in most n) ≤ most
unfolding digits_in
digits-few zero n = omega arith
digits-few (suc most) n = go (ltb n 10) refl (digits-few most (n / 10))
  where
    go : (b : Bool) → ltb n 10 ≡ b → length (digits_in most (n / 10)) ≤ most → length (digits_in (suc most) n) ≤ suc most
    go true e h = rw e (omega arith)
    go false e h = rw (e, length-append (digits_in most (n / 10)) ((48 + n % 10) ∷ [])) (omega arith)

pub decimal-few : (n : ℕ) → length (decimal n) ≤ 20
unfolding decimal
decimal-few n = digits-few 20 n

pub signed-few : (v : ℤ) → length (signed_decimal v) ≤ 21
unfolding signed_decimal
signed-few (pos n) = let h = decimal-few n in omega arith
signed-few (negsuc n) = let h = decimal-few (suc n) in omega arith

pub put-whole : {buf xs : List ℕ} {next : ℕ} {out : List ℕ} → length xs ≤ length buf → Put buf 0 xs next out → (next ≡ length xs) × (next ≤ length out) × (take next out ≡ xs)
put-whole {buf} {xs} {next} {out} h p =
    let e : next ≡ length xs = omega (arith, p.place) in
    let l = put-length p in
    (e, omega arith, rw (e, p.bytes, sets-eq xs buf 0 (omega arith)) (take-append_seam xs (drop (0 + length xs) buf)))
