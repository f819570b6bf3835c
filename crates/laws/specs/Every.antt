-- What holds of every entry of a list. Assumes nothing.
use Prim.Native.Nat.{ℕ, zero, suc, ◌+◌, ◌≤◌, ◌<◌}
use Rattle.std.specs.Prelude.{◌≡◌}
use mathlib.Core.List.{List, [], ◌∷◌, ◌++◌}
use native.Mathlib.Omega.{arith}
use Rattle.laws.specs.Lists.{tab, tabs}

unfoldable pub Every {ℓ} : {A : Type ℓ} → (A → Type 0) → List A → Type 0
Every P [] = Unit {0}
Every P (a ∷ rest) = P a × Every P rest

module _ {ℓ} {A : Type ℓ} (P : A → Type 0) where
  pub every_append : (front back : List A) → Every P front → Every P back → Every P (front ++ back)
  unfolding Every
  every_append [] back h k = k
  every_append (a ∷ front) back h k = (h.0, every_append front back h.1 k)

  pub every_map : (Q : A → Type 0) → ((a : A) → P a → Q a) → (l : List A) → Every P l → Every Q l
  unfolding Every
  every_map Q f [] h = tt
  every_map Q f (a ∷ rest) h = (f a h.0, every_map Q f rest h.1)

  pub every-tab : (f : ℕ → A) (m i : ℕ) → ((k : ℕ) → i ≤ k → k < i + m → P (f k)) → Every P (tab f m i)
  unfolding Every tab
  every-tab f zero i h = tt
  every-tab f (suc m) i h = (h i (omega arith) (omega arith), every-tab f m (i + 1) (λ k a b. h k (omega arith) (omega arith)))

  -- ---- and taken apart again

  pub every-parts : (front back : List A) → Every P (front ++ back) → Every P front × Every P back
  unfolding Every
  every-parts [] back h = (tt, h)
  every-parts (a ∷ front) back h = let w = every-parts front back h.1 in ((h.0, w.0), w.1)

  pub every-tab-at : (f : ℕ → A) (m i : ℕ) → Every P (tab f m i) → (k : ℕ) → k < m → P (f (i + k))
  unfolding Every tab
  every-tab-at f zero i h k l = absurd (omega arith)
  every-tab-at f (suc m) i h zero l = let e : i + 0 ≡ i = omega arith in rw e h.0
  every-tab-at f (suc m) i h (suc k) l = let e : i + suc k ≡ i + 1 + k = omega arith in rw e (every-tab-at f m (i + 1) h.1 k (omega arith))

  pub every-tabs-at : (f : ℕ → List A) (m i : ℕ) → Every P (tabs f m i) → (k : ℕ) → k < m → Every P (f (i + k))
  unfolding Every tabs
  every-tabs-at f zero i h k l = absurd (omega arith)
  every-tabs-at f (suc m) i h zero l = let e : i + 0 ≡ i = omega arith in rw e (every-parts (f i) (tabs f m (i + 1)) h).0
  every-tabs-at f (suc m) i h (suc k) l =
      let e : i + suc k ≡ i + 1 + k = omega arith in
      rw e (every-tabs-at f m (i + 1) (every-parts (f i) (tabs f m (i + 1)) h).1 k (omega arith))
