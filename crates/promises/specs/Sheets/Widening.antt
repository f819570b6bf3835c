-- S10, the widening, over rows: a row of whole numbers beside an exact row in units of 1 / u, each of its n entries and its offset no farther from the
-- exact one than a half. From a reading of counts within ± M, what the exact row with a band allows, the whole row allows with the band wider by
-- the ceiling of (n·M + 1)/2 at each end. Any row, so the entries may differ from mode to mode. What a sheet's rows are is page SheetSteps.
-- Relies on laws' page Integers.
use Rattle.std.specs.Prelude.{ℕ, suc, ◌+◌, ◌*◌, ◌≤◌, ◌<◌, ◌≡◌, refl, length, ℤ, neg_ℤ, nat_abs, ◌+ℤ◌, ◌-ℤ◌, ◌*ℤ◌, ◌≤ℤ◌}
use Rattle.std.proofs.Math.Path.{sym, ap}
use Rattle.std.proofs.Common.{◌∙◌, mul-le-mul_right, mul_comm}
use mathlib.Core.List.{List, [], ◌∷◌}
use Rattle.std.proofs.Math.Nat.{mul-le-mul_left, lt_of_mul-lt-mul_left}
use native.Mathlib.Omega.{arith}
use Rattle.std.proofs.Math.IntN.{pos, *ℤ_comm}
use Rattle.laws.specs.Every as E
use Rattle.laws.specs.Every.{Every}
use Rattle.laws.specs.Integers.{P, N, zarith, add, sub, mul, neg, mul-add, mul-neg, mul_assoc, abs-add, abs-mul}
use Rattle.meaning.specs.Images as I
use Rattle.meaning.specs.Images.{Row, dot, reached}

module _ (u : ℕ) where
  -- v is no farther from z / u than r halves
  abbrev pub Close : ℕ → ℤ → ℤ → Type 0
  Close r v z = 2 * nat_abs (pos u *ℤ v -ℤ z) ≤ u * r

  -- ---- sums and products

  sub-mul : (a b c : ℤ) → (a -ℤ b) *ℤ c ≡ a *ℤ c -ℤ b *ℤ c
  sub-mul a b c = *ℤ_comm (a -ℤ b) c ∙ mul-add c a (neg_ℤ b) ∙ rw (mul-neg c b, *ℤ_comm c a, *ℤ_comm c b) refl

  close-times : (a e x : ℤ) → Close 1 a e → Close (nat_abs x) (a *ℤ x) (e *ℤ x)
  close-times a e x h =
      let s : pos u *ℤ (a *ℤ x) -ℤ e *ℤ x ≡ (pos u *ℤ a -ℤ e) *ℤ x = sym (sub-mul (pos u *ℤ a) e x ∙ rw (mul_assoc (pos u) a x) refl) in
      let k : 2 * nat_abs (pos u *ℤ a -ℤ e) * nat_abs x ≤ u * 1 * nat_abs x = mul-le-mul_right (nat_abs x) h in
      omega (arith, ap nat_abs s, abs-mul (pos u *ℤ a -ℤ e) x)

  close-sum : (r t : ℕ) (a e b f : ℤ) → Close r a e → Close t b f → Close (r + t) (a +ℤ b) (e +ℤ f)
  close-sum r t a e b f h k =
      let x = pos u *ℤ a in
      let y = pos u *ℤ b in
      let s : pos u *ℤ (a +ℤ b) -ℤ (e +ℤ f) ≡ x -ℤ e +ℤ (y -ℤ f) =
      rw (mul-add (pos u) a b) (omega (zarith, add x y, add e f, sub (x +ℤ y) (e +ℤ f), sub x e, sub y f, add (x -ℤ e) (y -ℤ f))) in
      omega (arith, ap nat_abs s, abs-add (x -ℤ e) (y -ℤ f))

  -- ---- a row and a reading

  -- entry by entry no farther than a half
  unfoldable pub Halves : List ℤ → List ℤ → Type 0
  Halves [] [] = Unit {0}
  Halves [] (e ∷ es) = ⊥
  Halves (c ∷ cs) [] = ⊥
  Halves (c ∷ cs) (e ∷ es) = Close 1 c e × Halves cs es

  dot-close : (M : ℕ) (cs es x : List ℤ) → Halves cs es → Every (λ z. nat_abs z ≤ M) x → Close (length cs * M) (dot cs x) (dot es x)
  unfolding Halves I.dot E.Every
  dot-close M [] [] x h w = omega arith
  dot-close M [] (e ∷ es) x h w = absurd h
  dot-close M (c ∷ cs) [] x h w = absurd h
  dot-close M (c ∷ cs) (e ∷ es) [] h w = omega arith
  dot-close M (c ∷ cs) (e ∷ es) (z ∷ x) h w =
      let one = close-times c e z h.0 in
      let more = dot-close M cs es x h.1 w.1 in
      omega (arith, close-sum (nat_abs z) (length cs * M) (c *ℤ z) (e *ℤ z) (dot cs x) (dot es x) one more, mul-le-mul_left u w.0)

  -- ---- what is allowed

  -- a factor above 0 taken away
  pub cancel : 0 < u → (a b : ℤ) → (pos u *ℤ a) ≤ℤ (pos u *ℤ b) → a ≤ℤ b
  cancel p a b h =
      let l : u * (P a + N b) < u * suc (P b + N a) = omega (zarith, mul (pos u) a, mul (pos u) b) in
      let k = lt_of_mul-lt-mul_left u l in
      omega zarith

  -- the exact row in units, with a band; and the whole one, with the band made wider
  abbrev pub exactly : List ℤ → ℤ → ℤ → ℤ → Row
  exactly es f low high = record { entries = es; offset = f; low = pos u *ℤ low; high = pos u *ℤ high }

  abbrev pub widely : ℕ → List ℤ → ℤ → ℤ → ℤ → Row
  widely wider cs b low high = record { entries = cs; offset = b; low = low -ℤ pos wider; high = high +ℤ pos wider }

  module _ (positive : 0 < u) (M wider : ℕ) (cs es : List ℤ) (b f : ℤ) (near : Halves cs es) (near-offset : Close 1 b f)
      (enough : length cs * M + 1 ≤ 2 * wider) (q : ℕ) (x : List ℤ) (few : Every (λ z. nat_abs z ≤ M) x) where
    pub gap : ℤ
    gap = pos u *ℤ (dot cs x +ℤ b) -ℤ (dot es x +ℤ f)

    pub gap-size : nat_abs gap ≤ u * wider
    unfolding gap
    gap-size =
        let h = close-sum (length cs * M) 1 (dot cs x) (dot es x) b f (dot-close M cs es x near few) near-offset in
        omega (arith, mul-le-mul_left u enough)

    -- what the whole row leaves, times u, is what the exact row leaves and the gap
    pub residue : (y : ℤ) → pos u *ℤ (pos q *ℤ y -ℤ (dot cs x +ℤ b)) ≡ pos (q * u) *ℤ y -ℤ (dot es x +ℤ f) -ℤ gap
    unfolding gap
    residue y =
        let d = dot cs x +ℤ b in
        let e = dot es x +ℤ f in
        let t = pos q *ℤ y in
        let s : pos u *ℤ t ≡ pos (q * u) *ℤ y = sym (mul_assoc (pos u) (pos q) y) ∙ ap (λ (k : ℕ). pos k *ℤ y) (mul_comm u q) in
        let w = pos (q * u) *ℤ y in
        let v = pos u *ℤ d in
        mul-add (pos u) t (neg_ℤ d) ∙ rw (s, mul-neg (pos u) d) (omega (zarith, add w (neg_ℤ v), neg v, sub w e, sub v e, sub (w -ℤ e) (v -ℤ e)))
