-- Laws of a state for the proofs of module states: each test that fails alone, and all of them together; the mode at a place with none left, one, and
-- more. Assumes nothing.
use Rattle.std.specs.Prelude.{Some, None, Ok, Err}
use Prim.Native.Nat.{ℕ, zero, suc, ◌-◌}
use mathlib.Core.Path.{◌≡◌, refl}
use mathlib.Core.Bool.{Bool, true, false, ◌&&◌}
use mathlib.Core.List.{List}
use native.Mathlib.Omega.{arith}
use Rattle.meaning.specs.Control.{idle, mode_at}
use Rattle.meaning.specs.Numbers.{number_at}
use Rattle.meaning.specs.Refusals.{bad_state}

and-false : (t : Bool) → (t && false) ≡ false
and-false true = refl
and-false false = refl

module _ (s : List ℕ) (place : ℕ) where
  pub none_left : (left : ℕ) → left ≡ 0 → Err bad_state ≡ mode_at s place left
  none_left left e = rw e refl

  pub no_mode : number_at s place ≡ None → (left : ℕ) → Err bad_state ≡ mode_at s place left
  no_mode e zero = refl
  no_mode e (suc m) = rw e refl

  module _ (u next : ℕ) (e : number_at s place ≡ Some (u, next)) where
    pub last-mode : (left : ℕ) → left ≡ 1 → Ok (u, idle) ≡ mode_at s place left
    last-mode left q = rw (q, e) refl

    pub more-modes : (left : ℕ) → (left ≡ 0 → ⊥) → (left ≡ 1 → ⊥) → Ok (u, record { place = next; left = left - 1 }) ≡ mode_at s place left
    more-modes zero h z = absurd (h refl)
    more-modes (suc zero) h z = absurd (z refl)
    more-modes (suc (suc m)) h z = let q : suc (suc m) - 1 ≡ suc m = omega arith in rw (q, e) refl
