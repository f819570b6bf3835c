-- Laws for the proof of module limits: limits fit the machine's words; a slice is laid mode by mode, and another is marked.
-- Assumes nothing.
use Prim.Native.Nat.{ℕ, ◌+◌, ◌-◌, ◌≤◌, ◌<◌}
use mathlib.Core.Path.{◌≡◌, refl, ap, ◌∙◌}
use mathlib.Core.List.{List}
use mathlib.Core.Logic.{inl}
use native.Mathlib.Omega.{arith}
use native.Mathlib.Decide.{ℕ_discrete}
use lib.ListN.{length, set, length-set}
use lib.IntN.{ℤ, pos}
use mir.Syntax.{w64}
use mir.Val.{of_z, to_z}
use Rattle.laws.specs.Lists.{at}
use Rattle.laws.specs.Tabs.{at_stored}
use Rattle.laws.specs.Expressions.{Ex, var, lit, ◌⊕◌, ◌⊝◌, ◌⊗◌, bound, size, exact}
use Rattle.meaning.specs.Boxes.{Side, side}
use Rattle.meaning.specs.Plants.{edge_limit, band_limit, band_side}
use Rattle.promises.specs.Files.Sound.{Bounded}
use Rattle.tables.specs.Levels.{wide, side_in, Beside}
use Rattle.tables.specs.Limits.{limit_side, safe_at, goal_at, mark_at, offset_at, last_entries, last_offset, LaidAt, Laid, MarkedAt, Marked}
use Rattle.tables.proofs.levels.Laws.{at_other}

-- ---- what the machine holds of a side: itself, of a small one and of its limits

abbrev held : Side → Side
held s = side (to_z w64 (of_z w64 s.lo)) (to_z w64 (of_z w64 s.hi))

pub band-held : (w : Side) → Bounded band_limit w → held w ≡ w
band-held w g = rw (exact (var w.lo band_limit g.low) tt, exact (var w.hi band_limit g.high) tt) refl

pub edge-held : (s : Side) → Bounded edge_limit s → held s ≡ s
edge-held s e = rw (exact (var s.lo edge_limit e.low) tt, exact (var s.hi edge_limit e.high) tt) refl

module _ (q : ℕ) (w s : Side) (h : q ≤ 10_000) (g : Bounded band_limit w) (e : Bounded edge_limit s) where
  abbrev from : Ex
  from = var (pos q) 10_000 h ⊗ (var s.lo edge_limit e.low ⊝ lit (pos 1)) ⊕ lit (pos 1) ⊝ var w.lo band_limit g.low

  abbrev to : Ex
  to = var (pos q) 10_000 h ⊗ (var s.hi edge_limit e.high ⊕ lit (pos 1)) ⊝ lit (pos 1) ⊝ var w.hi band_limit g.high

  -- of what was answered for the two as they are held
  pub limit-held : (t : Side) → t ≡ limit_side q (held w) (held s) → held t ≡ limit_side q w s
  limit-held t k =
      ap held {x = t} {y = limit_side q w s} (k ∙ ap (λ (v : Side). limit_side q v (held s)) (band-held w g) ∙ ap (λ (v : Side). limit_side q w v) (edge-held s e))
      ∙ rw (exact (var (limit_side q w s).lo (bound from) (size from)) tt, exact (var (limit_side q w s).hi (bound to) (size to)) tt) refl

-- ---- the limits, mode by mode

module _ (n q : ℕ) (rooms : n ≤ 4) (goal safe : ℕ → Side) (bands : List ℤ) where
  -- mode u behind u of them: x is the array with its limits of S, y with those of the goal too
  pub laid_more : (u : ℕ) (l x y : List ℤ) → Beside (safe_at u) l x → ((i : ℕ) → i < n → side_in x (safe_at u) i ≡ limit_side q (band_side n bands u i) (safe i))
      → Beside (goal_at u) x y → ((i : ℕ) → i < n → side_in y (goal_at u) i ≡ limit_side q (band_side n bands u i) (goal i)) → Laid n u q goal safe bands l → Laid n (u + 1) q goal safe bands y
  laid_more u l x y bs es bg eg old v o = go (ℕ_discrete v u)
    where
      before : (base i : ℕ) → base + wide ≤ safe_at u → i < 4 → side_in y base i ≡ side_in l base i
      before base i f k = bg.others base i k (inl (omega arith)) ∙ bs.others base i k (inl f)

      go : Dec (v ≡ u) → LaidAt n q goal safe bands y v
      go (yes e) = rw e record { in-safe = λ i k. bg.others (safe_at u) i (omega arith) (inl (omega arith)) ∙ es i k; in-goal = eg }
      go (no e) =
          let h : v < u = omega arith in
          record {
            in-safe = λ i k. before (safe_at v) i (omega arith) (omega arith) ∙ (old v h).in-safe i k;
            in-goal = λ i k. before (goal_at v) i (omega arith) (omega arith) ∙ (old v h).in-goal i k;
          }

-- ---- the last rows

-- mode m behind m of them: its mark z, and its offset o
pub marked_more : (n : ℕ) (coef l : List ℤ) (m : ℕ) (z o : ℤ) → offset_at m < length l → ((z ≡ pos 0 → ⊥) → (1 ≤ m) × (last_entries n coef (m - 1) ≡ last_entries n coef m)) → o ≡ last_offset n coef m
    → Marked n m coef l → Marked n (m + 1) coef (set (set l (mark_at m) z) (offset_at m) o)
marked_more n coef l m z o h new e old u k = go (ℕ_discrete u m)
  where
    x : List ℤ
    x = set l (mark_at m) z

    -- what stands at neither place
    same : (p : ℕ) → (p ≡ mark_at m → ⊥) → (p ≡ offset_at m → ⊥) → at (set x (offset_at m) o) p ≡ at l p
    same p a b = at_other x (offset_at m) o p b ∙ at_other l (mark_at m) z p a

    mark-is : at (set x (offset_at m) o) (mark_at m) ≡ z
    mark-is = at_other x (offset_at m) o (mark_at m) (λ p. absurd (omega arith)) ∙ at_stored l (mark_at m) z (omega arith)

    offset-is : at (set x (offset_at m) o) (offset_at m) ≡ o
    offset-is = at_stored x (offset_at m) o (rw (length-set l (mark_at m) z) h)

    go : Dec (u ≡ m) → MarkedAt n coef (set x (offset_at m) o) u
    go (yes q) = rw q record { shared = λ f. new (λ w. f (mark-is ∙ w)); offset = offset-is ∙ e }
    go (no q) =
        let b : u < m = omega arith in
        record {
          shared = λ f. (old u b).shared (λ w. f (same (mark_at u) (λ p. absurd (omega arith)) (λ p. absurd (omega arith)) ∙ w));
          offset = same (offset_at u) (λ p. absurd (omega arith)) (λ p. absurd (omega arith)) ∙ (old u b).offset;
        }
