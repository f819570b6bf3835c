-- Equal answers that are pairs: what stands first in the one stands first in the other, and so for what stands second.
use Rattle.std.specs.Prelude.{◌≡◌, Option, Some, Result, Ok}
use Rattle.std.proofs.Math.Path.{ap}

pub some-first : {A B : Type 0} {a c : A} {b d : B} → ◌≡◌ {A = Option (A × B)} (Some (a, b)) (Some (c, d)) → a ≡ c
some-first {A} {B} {a} {c} {b} {d} e = let p : ◌≡◌ {A = A × B} (a, b) (c, d) = cc in ap (λ (q : A × B). q.0) p

pub some-second : {A B : Type 0} {a c : A} {b d : B} → ◌≡◌ {A = Option (A × B)} (Some (a, b)) (Some (c, d)) → b ≡ d
some-second {A} {B} {a} {c} {b} {d} e = let p : ◌≡◌ {A = A × B} (a, b) (c, d) = cc in ap (λ (q : A × B). q.1) p

pub ok-first : {A B E : Type 0} {a c : A} {b d : B} → ◌≡◌ {A = Result (A × B) E} (Ok (a, b)) (Ok (c, d)) → a ≡ c
ok-first {A} {B} {E} {a} {c} {b} {d} e = let p : ◌≡◌ {A = A × B} (a, b) (c, d) = cc in ap (λ (q : A × B). q.0) p

pub ok-second : {A B E : Type 0} {a c : A} {b d : B} → ◌≡◌ {A = Result (A × B) E} (Ok (a, b)) (Ok (c, d)) → b ≡ d
ok-second {A} {B} {E} {a} {c} {b} {d} e = let p : ◌≡◌ {A = A × B} (a, b) (c, d) = cc in ap (λ (q : A × B). q.1) p
