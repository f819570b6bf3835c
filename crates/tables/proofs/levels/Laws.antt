-- Boxes side by side in one array: one side is set, and every other one stays; then a box is filled side by side. Assumes nothing.
use Prim.Native.Nat.{ℕ, ◌+◌, ◌≤◌, ◌<◌}
use mathlib.Core.Path.{◌≡◌, refl, ◌∙◌}
use mathlib.Core.List.{List}
use mathlib.Core.Logic.{◌⊎◌, ⊎_elim}
use native.Mathlib.Omega.{arith}
use native.Mathlib.Decide.{ℕ_discrete}
use lib.ListN.{length, set, length-set}
use lib.Seq.{get_or-set_other}
use lib.IntN.{ℤ, pos}
use Rattle.laws.specs.Lists.{at, tab}
use Rattle.laws.specs.Tabs.{tab-same, at_stored}
use Rattle.meaning.specs.Boxes.{Side}
use Rattle.tables.specs.Levels.{wide, side_in, box_in, stored, Beside}

pub at_other : (l : List ℤ) (i : ℕ) (z : ℤ) (k : ℕ) → (k ≡ i → ⊥) → at (set l i z) k ≡ at l k
at_other l i z k h = get_or-set_other l i k z (pos 0) h

pub length-stored : (l : List ℤ) (place i : ℕ) (s : Side) → length (stored l place i s) ≡ length l
length-stored l place i s = length-set (set l (place + i) s.lo) (place + 4 + i) s.hi ∙ length-set l (place + i) s.lo

module _ (l : List ℤ) (place i : ℕ) (s : Side) (h : i < 4) where
  abbrev half : List ℤ
  half = set l (place + i) s.lo

  stored_here : place + wide ≤ length l → side_in (stored l place i s) place i ≡ s
  stored_here k =
      let low = at_other half (place + 4 + i) s.hi (place + i) (λ e. absurd (omega arith)) ∙ at_stored l (place + i) s.lo (omega arith) in
      let high = at_stored half (place + 4 + i) s.hi (omega (arith, length-set l (place + i) s.lo)) in
      rw (low, high) refl

  -- every other side is as it was: of another box, and another of its own
  module _ (other j : ℕ) (k : j < 4) where
    same : (other + j ≡ place + i → ⊥) → (other + j ≡ place + 4 + i → ⊥) → (other + 4 + j ≡ place + i → ⊥) → (other + 4 + j ≡ place + 4 + i → ⊥) → side_in (stored l place i s) other j ≡ side_in l other j
    same p q r t =
        let low = at_other half (place + 4 + i) s.hi (other + j) q ∙ at_other l (place + i) s.lo (other + j) p in
        let high = at_other half (place + 4 + i) s.hi (other + 4 + j) t ∙ at_other l (place + i) s.lo (other + 4 + j) r in
        rw (low, high) refl

    pub stored_other : (other + wide ≤ place) ⊎ (place + wide ≤ other) → side_in (stored l place i s) other j ≡ side_in l other j
    stored_other =
        ⊎_elim
        (λ o. same (λ e. absurd (omega arith)) (λ e. absurd (omega arith)) (λ e. absurd (omega arith)) (λ e. absurd (omega arith)))
        (λ o. same (λ e. absurd (omega arith)) (λ e. absurd (omega arith)) (λ e. absurd (omega arith)) (λ e. absurd (omega arith)))

  stored-beside : (j : ℕ) → j < i → side_in (stored l place i s) place j ≡ side_in l place j
  stored-beside j o = same place j (omega arith) (λ e. absurd (omega arith)) (λ e. absurd (omega arith)) (λ e. absurd (omega arith)) (λ e. absurd (omega arith))

  -- what holds of the sides below i and of s at i
  pub stored_more : (t : ℕ → Side) → place + wide ≤ length l → s ≡ t i → ((j : ℕ) → j < i → side_in l place j ≡ t j) → (j : ℕ) → j < i + 1 → side_in (stored l place i s) place j ≡ t j
  stored_more t k e f j o = go (ℕ_discrete j i)
    where
      go : Dec (j ≡ i) → side_in (stored l place i s) place j ≡ t j
      go (yes q) = rw q (stored_here k ∙ e)
      go (no q) = let m : j < i = omega arith in stored-beside j m ∙ f j m

-- ---- a box is filled: its first i sides are those of t

pub record FilledTo (place : ℕ) (t : ℕ → Side) (i : ℕ) (boxes₀ boxes : List ℤ) : Type 0 where
  pub few : i ≤ 4
  pub beside : Beside place boxes₀ boxes
  pub sides : (j : ℕ) → j < i → side_in boxes place j ≡ t j

module _ {place : ℕ} {t : ℕ → Side} {i : ℕ} {boxes₀ boxes : List ℤ} (f : FilledTo place t i boxes₀ boxes) where
  pub filled_more : {boxes₁ : List ℤ} (s : Side) → i < 4 → place + wide ≤ length boxes₀ → s ≡ t i → boxes₁ ≡ stored boxes place i s → FilledTo place t (i + 1) boxes₀ boxes₁
  filled_more s h k e q = rw q record {
    few = omega arith;
    beside = record {
      long = length-stored boxes place i s ∙ f.beside.long;
      others = λ other j l o. stored_other boxes place i s h other j l o ∙ f.beside.others other j l o;
    };
    sides = stored_more boxes place i s h t (omega (arith, f.beside.long)) e f.sides;
  }

  pub filled-box : box_in i boxes place ≡ tab t i 0
  filled-box = tab-same (side_in boxes place) t i 0 (λ j a b. f.sides j (omega arith))
