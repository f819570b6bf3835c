-- The last step of page Widening (specs/Sheets): what the exact row with a band allows, the whole row allows with the wider band. It rests on that page's
-- `gap-size`, and stands here since a theorem of specs/ that rests on a wrong one leaves a wrong program untried.
use Rattle.std.specs.Prelude.{ℕ, ◌+◌, ◌*◌, ◌≤◌, ◌<◌, ◌≡◌, true, length, ℤ, neg_ℤ, nat_abs, ◌+ℤ◌, ◌-ℤ◌, ◌*ℤ◌, ◌≤ℤ◌}
use mathlib.Core.List.{List}
use Rattle.std.proofs.Math.IntN.{pos}
use Rattle.laws.specs.Every.{Every}
use Rattle.laws.specs.Integers.{zarith, add, sub, neg, abs, mul-add, mul-neg}
use Rattle.laws.specs.Tests.{orders, ordered}
use Rattle.meaning.specs.Images.{dot, reached}
use Rattle.promises.specs.Sheets.Widening.{Close, Halves, cancel, exactly, widely, gap, gap-size, residue}

module _ (u : ℕ) where
  module _ (positive : 0 < u) (M wider : ℕ) (cs es : List ℤ) (b f : ℤ) (near : Halves u cs es) (near-offset : Close u 1 b f)
      (enough : length cs * M + 1 ≤ 2 * wider) (q : ℕ) (x : List ℤ) (few : Every (λ z. nat_abs z ≤ M) x) where
    pub widened : (low high y : ℤ) → reached (q * u) x (exactly u es f low high) y ≡ true → reached q x (widely u wider cs b low high) y ≡ true
    widened low high y r =
        let here = gap u positive M wider cs es b f near near-offset enough q x few in
        let size = gap-size u positive M wider cs es b f near near-offset enough q x few in
        let z = pos (q * u) *ℤ y -ℤ (dot es x +ℤ f) in
        let t = pos q *ℤ y -ℤ (dot cs x +ℤ b) in
        let k = orders (pos u *ℤ low) z z (pos u *ℤ high) r in
        let c = residue u positive M wider cs es b f near near-offset enough q x few y in
        let l : (pos u *ℤ (low -ℤ pos wider)) ≤ℤ (pos u *ℤ t) =
        rw (mul-add (pos u) low (neg_ℤ (pos wider)), mul-neg (pos u) (pos wider), c)
        (omega (zarith, k, sub z here, add (pos u *ℤ low) (neg_ℤ (pos (u * wider))), neg (pos (u * wider)), size, abs here)) in
        let h : (pos u *ℤ t) ≤ℤ (pos u *ℤ (high +ℤ pos wider)) =
        rw (mul-add (pos u) high (pos wider), c) (omega (zarith, k, sub z here, add (pos u *ℤ high) (pos (u * wider)), size, abs here)) in
        ordered (cancel u positive (low -ℤ pos wider) t l) (cancel u positive t (high +ℤ pos wider) h)
