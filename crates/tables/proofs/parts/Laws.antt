-- Tables behind their lengths, as the code finds them: one, those that are passed, and what stands behind a found one in the definitions. Assumes nothing.
use Rattle.std.specs.Prelude.{Some, None, Ok, Err, Result, ℕ}
use Prim.Native.Nat.{ℕ, zero, suc, ◌+◌, ◌-◌, ◌≤◌, ◌<◌}
use mathlib.Core.Path.{◌≡◌, refl, sym, ap, ◌∙◌}
use mathlib.Core.Bool.{Bool, true, false}
use mathlib.Core.List.{List}
use native.Mathlib.Omega.{arith}
use lib.Dec.{leb}
use lib.ListN.{length, take, drop}
use borrow.Author.Tests.{leb-true, le-leb}
use Rattle.laws.specs.Pairs.{ok-first, ok-second}
use Rattle.laws.specs.Guards.{guard}
use Rattle.laws.specs.Standing.{stand-within}
use Rattle.laws.specs.Tests.{never}
use Rattle.meaning.specs.Answers.{Number, Found}
use Rattle.meaning.specs.declared.Refusal.{Refusal}
use Rattle.meaning.specs.Numbers.{number_at, bytes_of}
use Rattle.meaning.specs.Refusals.{broken, unfit}
use Rattle.meaning.specs.Starts as S
use Rattle.meaning.specs.Starts.{on_length, on_part, part}
use Rattle.meaning.specs.Verdicts.{on_number}
use Rattle.promises.specs.Files.Bytes.{bytes-some}
use Rattle.promises.specs.Files.Numbers.{was}
use Rattle.tables.specs.Parts.{part_at, part_behind, on_found}

-- ---- one

module _ (s : List ℕ) (at : ℕ) where
  pub number-within : (v next : ℕ) → number_at s at ≡ Some (v, next) → next ≤ length s
  number-within v next q = stand-within s (bytes_of v) at next (was v at next s q).1 (bytes-some v)

  module _ (size first : ℕ) (e : number_at s at ≡ Some (size, first)) where
    pub part-there : size ≤ length s - first → Ok (first, size) ≡ part_at s at
    part-there h = let l : first + size ≤ length s = omega (arith, number-within size first e) in simp (e, le-leb _ _ l)

  -- a table that was found ends in the file
  pub part-within : (first size : ℕ) → part_at s at ≡ Ok (first, size) → first + size ≤ length s
  part-within first size q = go (number_at s at) q
    where
      go : (n : Number) → on_number {A = Found} n (Err (broken at)) (λ size first. guard (leb (first + size) (length s)) (Err (unfit at)) λ _. Ok (first, size)) ≡ Ok (first, size) → first + size ≤ length s
      go None e = never cc
      go (Some (z, f)) e = tests (leb (f + z) (length s)) refl e
        where
          tests : (t : Bool) → leb (f + z) (length s) ≡ t → guard {A = Found} t (Err (unfit at)) (λ _. Ok (f, z)) ≡ Ok (first, size) → first + size ≤ length s
          tests false p e = never cc
          tests true p e =
              let a : f ≡ first = ok-first e in
              let b : z ≡ size = ok-second e in
              omega (arith, leb-true (f + z) (length s) p)

  -- what stands behind it in the definitions
  pub by_length : {A : Type 0} (refuse : Refusal → A) (rest : ℕ → ℕ → A) → on_length s at refuse rest ≡ on_found (part_at s at) refuse rest
  by_length {A} refuse rest = go (number_at s at)
    where
      go : (n : Number) → on_number n (refuse (broken at)) (λ size first. guard (leb (first + size) (length s)) (refuse (unfit at)) λ _. rest first size)
          ≡ on_found (on_number n (Err (broken at)) (λ size first. guard (leb (first + size) (length s)) (Err (unfit at)) λ _. Ok (first, size))) refuse rest
      go None = refl
      go (Some (size, first)) = tests (leb (first + size) (length s))
        where
          tests : (t : Bool) → guard t (refuse (unfit at)) (λ _. rest first size) ≡ on_found (guard t (Err (unfit at)) (λ _. Ok (first, size))) refuse rest
          tests true = refl
          tests false = refl

-- ---- behind others

module _ (s : List ℕ) where
  behind-step : {A : Type 0} (i at : ℕ) (refuse : Refusal → A) (rest : ℕ → ℕ → A) → on_part (suc i) s at refuse rest ≡ on_found (part_at s at) refuse (λ first size. on_part i s (first + size) refuse rest)
  unfolding S.on_part
  behind-step i at refuse rest = by_length s at refuse (λ first size. on_part i s (first + size) refuse rest)

  -- k of i are passed; one more is, or stops it
  module _ (i k at : ℕ) where
    pub behind-done : i ≤ k → part_at s at ≡ part_behind (i - k) s at
    unfolding S.on_part
    behind-done h = let e : i - k ≡ 0 = omega arith in rw e refl

    module _ (h : k < i) where
      one-passed : part_behind (i - k) s at ≡ on_found (part_at s at) Err (λ first size. part_behind (i - (k + 1)) s (first + size))
      one-passed =
          let e : i - k ≡ suc (i - (k + 1)) = omega arith in
          ap (λ (i : ℕ). part_behind i s at) e ∙ behind-step (i - (k + 1)) at Err (λ first size. Ok (first, size))

      pub behind_more : {first size : ℕ} → part_at s at ≡ Ok (first, size) → part_behind (i - (k + 1)) s (first + size) ≡ part_behind (i - k) s at
      behind_more q = sym (one-passed ∙ rw q refl)

      pub behind-stopped : {e : Refusal} → part_at s at ≡ Err e → Err e ≡ part_behind (i - k) s at
      behind-stopped q = sym (one-passed ∙ rw q refl)

  pub by_part : {A : Type 0} (i at : ℕ) (refuse : Refusal → A) (rest : ℕ → ℕ → A) → on_part i s at refuse rest ≡ on_found (part_behind i s at) refuse rest
  unfolding S.on_part
  by_part zero at refuse rest = by_length s at refuse rest
  by_part {A} (suc i) at refuse rest = behind-step i at refuse rest ∙ go (part_at s at) (λ at. by_part i at refuse rest) ∙ ap (λ (p : Result (ℕ × ℕ) Refusal). on_found p refuse rest) (sym (behind-step i at Err (λ first size. Ok (first, size))))
    where
      go : (p : Result (ℕ × ℕ) Refusal) → ((at : ℕ) → on_part i s at refuse rest ≡ on_found (part_behind i s at) refuse rest)
          → on_found p refuse (λ first size. on_part i s (first + size) refuse rest) ≡ on_found (on_found p Err (λ first size. part_behind i s (first + size))) refuse rest
      go (Err e) ih = refl
      go (Ok (first, size)) ih = ih (first + size)

  pub behind-within : (i at first size : ℕ) → part_behind i s at ≡ Ok (first, size) → first + size ≤ length s
  unfolding S.on_part
  behind-within zero at first size q = part-within s at first size q
  behind-within (suc i) at first size q = go (part_at s at) (λ at. behind-within i at first size) (sym (behind-step i at Err (λ first size. Ok (first, size))) ∙ q)
    where
      go : (p : Result (ℕ × ℕ) Refusal) → ((at : ℕ) → part_behind i s at ≡ Ok (first, size) → first + size ≤ length s)
          → on_found p Err (λ first size. part_behind i s (first + size)) ≡ Ok (first, size) → first + size ≤ length s
      go (Err e) ih q = never cc
      go (Ok (f, z)) ih q = ih (f + z) q

-- a slice of the bytes between is the table
pub slice-part : (s : List ℕ) (first size : ℕ) → take (first + size - first) (drop first s) ≡ part s first size
slice-part s first size = let e : first + size - first ≡ size = omega arith in rw e refl
