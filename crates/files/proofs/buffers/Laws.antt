-- Bytes that are copied to a place of a buffer: into the part behind that place, which then stands in the buffer again. Assumes nothing.
use Prim.Native.Nat.{ℕ, ◌+◌, ◌-◌, ◌≤◌, ◌<◌}
use mathlib.Core.Path.{◌≡◌, refl, sym, ap, ◌∙◌}
use mathlib.Core.List.{List, ◌++◌, append-nil, append_assoc}
use native.Mathlib.Omega.{arith}
use native.Mathlib.Nat.{zero-add}
use lib.ListN.{length, take, drop, length-drop, take-append-drop, drop_of_length-le}
use lib.Seq.{sets, sets-eq, drop-drop, take_all, length-take-le}
use borrow.Rule.Slice.PartMut.{mid_of, post_of, put_mid}
use Rattle.laws.specs.Writing.{Put, put-append, put-length, sets-out}

module _ (buf : List ℕ) (at : ℕ) (inside : at ≤ length buf) where
  -- what stands from the place on
  abbrev behind : List ℕ
  behind = mid_of at (length buf - at) buf

  whole : behind ≡ drop at buf
  whole = take_all (length buf - at) (drop at buf) (omega (arith, length-drop at buf))

  long : length behind ≡ length buf - at
  long = ap length whole ∙ length-drop at buf

  -- all of it fits
  pub put-part : (xs mid : List ℕ) → at + length xs ≤ length buf → mid ≡ sets behind 0 xs → Put buf at xs (at + length xs) (put_mid at (length buf - at) buf mid)
  put-part xs mid h e = record { place = omega arith; bytes = rw (e ∙ stored) (ap (λ (r : List ℕ). take at buf ++ r) joined) ∙ sym (append_assoc (take at buf) xs (drop (at + length xs) buf)) ∙ sym (sets-eq xs buf at h) }
    where
      stored : sets behind 0 xs ≡ xs ++ drop (length xs) behind
      stored = sets-eq xs behind 0 (omega (arith, long)) ∙ rw (zero-add (length xs)) refl

      joined : (xs ++ drop (length xs) behind) ++ post_of at (length buf - at) buf ≡ xs ++ drop (at + length xs) buf
      joined =
          ap (λ (r : List ℕ). (xs ++ drop (length xs) behind) ++ r) (drop_of_length-le (drop at buf) {i = length buf - at} (omega (arith, length-drop at buf)))
          ∙ append-nil (xs ++ drop (length xs) behind)
          ∙ ap (λ (r : List ℕ). xs ++ drop (length xs) r) whole
          ∙ ap (λ (r : List ℕ). xs ++ r) (drop-drop (length xs) at buf)

  -- as much as fits
  pub put_front : (xs mid : List ℕ) → length buf - at < length xs → mid ≡ sets behind 0 (take (length buf - at) xs) → Put buf at xs (length buf + 1) (put_mid at (length buf - at) buf mid)
  put_front xs mid h e =
      let k = length buf - at in
      let n : length (take k xs) ≡ k = length-take-le k xs (omega arith) in
      let t = put-part (take k xs) mid (omega (arith, n)) e in
      let m = length-drop k xs in
      rw (← take-append-drop k xs) (put-append t (record { place = omega (arith, n, m, put-length t); bytes = sym (sets-out (drop k xs) _ _ (omega (arith, n, put-length t))) }))
