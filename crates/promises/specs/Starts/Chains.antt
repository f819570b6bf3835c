-- A chain that was read for a sound plant and keeps 15: m is at most 8; each of R0..Rm has n sides, whose edges lie within ± the limit and in order; each
-- lies in the one above it and in S; and the rules of each box's table meet the laws of page Laws, so that what is proved over any rules holds of each.
-- Relies on pages Forms and Framed for what was read, on PlantRules and PlantMotion for the rules; a plant that was judged good is sound (page Judged).
-- What stands behind the chain is page Accepted.
use Rattle.std.specs.Prelude.{ℕ, zero, suc, ◌+◌, ◌-◌, ◌*◌, ◌≤◌, ◌<◌, ◌≡◌, true, List, length, ℤ}
use Rattle.std.proofs.Common.{arith, mul-le-mul, le_refl, zero-add}
use Rattle.laws.specs.Every.{Every, every-tab}
use Rattle.laws.specs.Lists.{at, tab, all}
use Rattle.laws.specs.Tabs.{length-tab}
use Rattle.laws.specs.Tests.{first, second, all-tab}
use Rattle.meaning.specs.Boxes.{Side, side, side_at, within}
use Rattle.meaning.specs.Files.{end, read, values_at}
use Rattle.meaning.specs.Plants.{Plant, edge_limit, span, root_of, safe_of, step_of}
use Rattle.meaning.specs.Rules.{holds}
use Rattle.meaning.specs.Starts as S
use Rattle.meaning.specs.Starts.{chain_form, above, chain_side, box_at, box_below, held, box_rules}
use Rattle.meaning.specs.Tables.{known_form, reading_of}
use Rattle.promises.specs.Tables.Boxes.{within-itself, within-trans, within-fits}
use Rattle.promises.specs.Files.Forms as F
use Rattle.promises.specs.Files.Forms.{Right, values-right, times-right}
use Rattle.promises.specs.Files.Framed.{span_right}
use Rattle.promises.specs.Files.Headers.{most-of}
use Rattle.promises.specs.Tables.Laws.{Sizes, Splits, Motion}
use Rattle.promises.specs.Tables.PlantMotion.{splits-from, motion-from}
use Rattle.promises.specs.Tables.PlantRules.{sizes-over}
use Rattle.promises.specs.Files.Sound.{Bounded, Sound}

-- Ri of a plant
abbrev pub box_of : Plant → List ℤ → ℕ → List Side
box_of p vs i = box_at p.n (root_of p) vs i

-- the boxes that the values vs add to a plant's R
pub record Chained (p : Plant) (vs : List ℤ) : Type 0 where
  pub few : above vs ≤ 8
  pub sides : (i : ℕ) → i ≤ above vs → Every (Bounded edge_limit) (box_of p vs i)
  pub in-next : (i : ℕ) → i < above vs → within (box_of p vs i) (box_of p vs (suc i)) ≡ true
  pub in-safe : (i : ℕ) → i ≤ above vs → within (box_of p vs i) (safe_of p) ≡ true

-- ---- what was read

-- m, and each pair of edges
chain-right : (n : ℕ) (vs : List ℤ) → Right (chain_form n) vs 0
    → (above vs ≤ 8) × ((t : ℕ) → t < above vs * n → Bounded edge_limit (side (at vs (2 + 2 * t)) (at vs (2 + 2 * t + 1))))
unfolding F.Right S.chain_form
chain-right n vs h =
    (most-of 0 8 (above vs) h.1.0, (times-right vs (span edge_limit) 2 (λ i. Bounded edge_limit (side (at vs i) (at vs (i + 1)))) (span_right vs edge_limit) (above vs * n) end 2 h.1.1).0)

pub chain-few : (n : ℕ) (vs : List ℤ) (s : List ℕ) (next : ℕ) → values_at (chain_form n) s 0 ≡ read vs next → above vs ≤ 8
chain-few n vs s next e = (chain-right n vs (values-right (chain_form n) s 0 vs next e)).0

module _ (p : Plant) (sound : Sound p) (vs : List ℤ) where
  -- R itself has its edges from the plant
  root-sides : Every (Bounded edge_limit) (root_of p)
  root-sides = every-tab (Bounded edge_limit) (side_at p.rlo p.rhi) p.n 0 (λ j _ l. sound.ranges.root.sides j (omega arith))

  box-sides : ((t : ℕ) → t < above vs * p.n → Bounded edge_limit (side (at vs (2 + 2 * t)) (at vs (2 + 2 * t + 1)))) → (i : ℕ) → i ≤ above vs → Every (Bounded edge_limit) (box_of p vs i)
  box-sides edges zero h = root-sides
  box-sides edges (suc i) h =
      every-tab (Bounded edge_limit) (chain_side p.n vs i) p.n 0 (λ j _ l. edges (i * p.n + j) (omega (arith, mul-le-mul h (le_refl p.n))))

  module _ (kept : all (tab (held p.n (root_of p) vs (safe_of p)) (above vs) 0) ≡ true) where
    -- 15, box by box
    held-each : (i : ℕ) → i < above vs → held p.n (root_of p) vs (safe_of p) i ≡ true
    held-each i h = rw zero-add at (all-tab (held p.n (root_of p) vs (safe_of p)) (above vs) 0 i h kept)

    box-safe : (i : ℕ) → i ≤ above vs → within (box_of p vs i) (safe_of p) ≡ true
    box-safe zero h = sound.root-safe
    box-safe (suc i) h = second (within (box_of p vs i) (box_of p vs (suc i))) (within (box_of p vs (suc i)) (safe_of p)) (held-each i h)

    pub read-chained : (s : List ℕ) (next : ℕ) → values_at (chain_form p.n) s 0 ≡ read vs next → Chained p vs
    read-chained s next e =
        let w = chain-right p.n vs (values-right (chain_form p.n) s 0 vs next e) in
        record {
          few = w.0;
          sides = box-sides w.1;
          in-next = λ i h. first (within (box_of p vs i) (box_of p vs (suc i))) (within (box_of p vs (suc i)) (safe_of p)) (held-each i h);
          in-safe = box-safe;
        }

-- ---- each box

pub box-size : (p : Plant) (vs : List ℤ) (i : ℕ) → length (box_of p vs i) ≡ p.n
box-size p vs zero = length-tab (side_at p.rlo p.rhi) p.n 0
box-size p vs (suc i) = length-tab (chain_side p.n vs i) p.n 0

module _ (p : Plant) (vs : List ℤ) (c : Chained p vs) where
  -- and in every box above it
  pub in-above : (i j : ℕ) → i ≤ j → j ≤ above vs → within (box_of p vs i) (box_of p vs j) ≡ true
  in-above i j l h = let e : j ≡ i + (j - i) = omega arith in rw e (go (j - i) (omega arith))
    where
      go : (k : ℕ) → i + k ≤ above vs → within (box_of p vs i) (box_of p vs (i + k)) ≡ true
      go zero h = let e : i + 0 ≡ i = omega arith in rw e (within-itself (box_of p vs i))
      go (suc k) h =
          let e : i + suc k ≡ suc (i + k) = omega arith in
          rw e (within-trans (box_of p vs i) (box_of p vs (i + k)) (box_of p vs (suc (i + k))) (go k (omega arith)) (c.in-next (i + k) (omega arith)))

  -- so of a reading
  pub held-above : (i j : ℕ) (x : List ℤ) → i ≤ j → j ≤ above vs
      → holds (box_rules p vs i 1) (box_of p vs i) x ≡ true → holds (box_rules p vs j 1) (box_of p vs j) x ≡ true
  held-above i j x l h e = within-fits (box_of p vs i) (box_of p vs j) (reading_of p.n x) (in-above i j l h) e

  pub held-safe : (i : ℕ) (x : List ℤ) → i ≤ above vs → holds (box_rules p vs i 1) (box_of p vs i) x ≡ true → holds (box_rules p vs i 1) (safe_of p) x ≡ true
  held-safe i x h e = within-fits (box_of p vs i) (safe_of p) (reading_of p.n x) (c.in-safe i h) e

  -- the box that patterns end in
  pub below-inside : (i : ℕ) → i ≤ above vs → within (box_below p.n (root_of p) vs i) (box_of p vs i) ≡ true
  below-inside zero h = within-itself (root_of p)
  below-inside (suc i) h = c.in-next i h

-- ---- the rules of each box's table, of each form

module _ (p : Plant) (sound : Sound p) (vs : List ℤ) (i form : ℕ) where
  pub box-sizes : known_form form ≡ true → Sizes (box_rules p vs i form)
  box-sizes known = sizes-over form known p sound (box_of p vs i) (box_below p.n (root_of p) vs i) (box-size p vs i)

  pub box-splits : Splits (box_rules p vs i form)
  box-splits = splits-from form p.n p.modes p.k p.d (box_of p vs i) (box_below p.n (root_of p) vs i) (safe_of p) (step_of p)

  pub box-motion : Chained p vs → i ≤ above vs → Motion (box_rules p vs i form)
  box-motion c h =
      motion-from form p.n p.modes p.k p.d (box_of p vs i) (box_below p.n (root_of p) vs i) (safe_of p) (step_of p) (λ u. sound.ranges.q-low) (c.in-safe i h)
