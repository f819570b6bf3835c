-- Laws of the tile rule for the proof of module tiles: one step of it at any rules, and at those of a frame. Assumes nothing.
use Prim.Native.Nat.{ℕ, ◌+◌, ◌-◌, ◌≤◌, ◌<◌}
use mathlib.Core.Path.{◌≡◌, refl, sym, ap, ◌∙◌, subst}
use mathlib.Core.Bool.{true, false}
use mathlib.Core.List.{List}
use native.Mathlib.Numerals.{add-one}
use lib.IntN.{ℤ}
use Rattle.laws.specs.Lists.{tab}
use Rattle.laws.specs.Tabs.{tab-step, tab-done}
use Rattle.meaning.specs.declared.Tried.TheVariants.{Works, Leaves, Misses}
use Rattle.meaning.specs.Boxes.{Side, within}
use Rattle.meaning.specs.Plants.{edge_limit}
use Rattle.meaning.specs.Rules.{Rules, rule_from}
use Rattle.tables.specs.declared.frames.Frame.{Frame}
use Rattle.tables.specs.Boxes.{box_of, Small}
use Rattle.tables.specs.Frames.{rules_in, PlantSound}
use Rattle.tables.proofs.images.Laws.{small-image}

-- ---- at any rules: i of k modes are done, and c is what is kept

module _ (r : Rules) (us : ℕ → ℕ) (k i : ℕ) (c : Rules.Kept r) where
  open r use {within, image, kept, goal, safe}

  pub rule-works : k ≤ i → within (kept c) goal ≡ true → rule_from r i c (tab us (k - i) i) ≡ Works
  unfolding rule_from
  rule-works h e = rw (tab-done us k i h, e) refl

  pub rule-misses : k ≤ i → within (kept c) goal ≡ false → rule_from r i c (tab us (k - i) i) ≡ Misses i
  unfolding rule_from
  rule-misses h e = rw (tab-done us k i h, e) refl

  pub rule-leaves : i < k → within (kept (image (us i) c)) safe ≡ false → rule_from r i c (tab us (k - i) i) ≡ Leaves (i + 1)
  unfolding rule_from
  rule-leaves h e = rw (tab-step us k i h, e, add-one) refl

  pub rule-more : i < k → within (kept (image (us i) c)) safe ≡ true → rule_from r i c (tab us (k - i) i) ≡ rule_from r (i + 1) (image (us i) c) (tab us (k - (i + 1)) (i + 1))
  unfolding rule_from
  rule-more h e = rw (tab-step us k i h, e, add-one) refl

-- ---- at the rules of a frame: c is the box that the code holds, d the one that it holds as the image

module _ (f : Frame) (bands coef : List ℤ) (us : ℕ → ℕ) (k i : ℕ) (c d : List Side) (h : i < k) (q : d ≡ Rules.image (rules_in f bands coef) (us i) c) where
  pub tile-leaves : within d (box_of f.n f.safe) ≡ false → rule_from (rules_in f bands coef) i c (tab us (k - i) i) ≡ Leaves (i + 1)
  tile-leaves e = rule-leaves (rules_in f bands coef) us k i c h (rw q at e)

  module _ (e : within d (box_of f.n f.safe) ≡ true) where
    pub tile-more : rule_from (rules_in f bands coef) i c (tab us (k - i) i) ≡ rule_from (rules_in f bands coef) (i + 1) d (tab us (k - (i + 1)) (i + 1))
    tile-more = rule-more (rules_in f bands coef) us k i c h (rw q at e) ∙ ap (λ (b : List Side). rule_from (rules_in f bands coef) (i + 1) b (tab us (k - (i + 1)) (i + 1))) (sym q)

    pub tile-small : PlantSound f bands coef → us i < f.modes → Small edge_limit c → Small edge_limit d
    tile-small g m s = subst (λ (b : List Side). Small edge_limit b) (sym q) (small-image f bands coef g (us i) m c s (rw q at e))
