-- Tests that choose what is looked at next.
-- antt computes a call's arguments first, so what may be left alone waits under a λ.
use Rattle.std.specs.Prelude.{Bool, true, false}

-- the first where the test holds, the second where it does not
abbrev pub choose {ℓ} : {A : Type ℓ} → Bool → (Unit {0} → A) → (Unit {0} → A) → A
choose true one other = one tt
choose false one other = other tt

-- a test that has to hold before anything behind it is looked at
abbrev pub guard {ℓ} : {A : Type ℓ} → Bool → A → (Unit {0} → A) → A
guard true otherwise rest = rest tt
guard false otherwise rest = otherwise
