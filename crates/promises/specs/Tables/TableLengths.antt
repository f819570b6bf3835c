-- How long an accepted table may be: by its form, and over all forms, whose longest is form 2. Of form 1 (document 01, "Table file") at most 30,039 bytes while
-- N ≤ 128, and 54,615 (request 2026-08); of form 2 (request 2026-01) 34,389 and 58,965; of form 3 (request 2026-06) 32,769 and 57,345. The header has two bytes, and
-- the rest is page TreeLengths. Relies on page Accept too. That 30,039, 34,389 and 32,769 are reached is page LongestTable; that 54,615, 58,965 and 57,345 are, is tested.
use Rattle.std.specs.Prelude.{ℕ, ◌+◌, ◌*◌, ◌≤◌, ◌≡◌, true, false, List, length, Ok}
use Rattle.std.proofs.Common.{sym, ap, subst, ◌∙◌, arith, le-leb}
use Rattle.meaning.specs.Boxes.{Side}
use Rattle.meaning.specs.Files.{good}
use Rattle.meaning.specs.Plants.{Plant, plant_judged, root_of}
use Rattle.meaning.specs.Tables.{known_form, depth_by, form_of, table_rules, rules_of, checked}
use Rattle.meaning.specs.Trees.{tells}
use Rattle.meaning.specs.Verdicts.{verdict}
use Rattle.promises.specs.Files.Judged.{judged-sound}
use Rattle.promises.specs.Files.Sound.{Sound}
use Rattle.promises.specs.Tables.Accept.{accepted-exactly}
use Rattle.promises.specs.Tables.Checked.{accepted-judged}
use Rattle.promises.specs.Tables.PlantRules.{root-sides, over-length, sizes-over, table-size, checked-as}
use Rattle.promises.specs.Tables.Shapes.{working-shaped}
use Rattle.promises.specs.Tables.TableForms.{form-known}
use Rattle.promises.specs.Tables.TreeLengths.{most, children_most, tile_bytes, tile-most, splits_most, splits-most, splits-untold, cap-by}

-- of a plant's table of a known form over any box of n sides, into any goal
module _ (form : ℕ) (known : known_form form ≡ true) (p : Plant) (s : Sound p) (root goal : List Side) (sides : length root ≡ p.n)
    (table : List ℕ) (a : verdict (table_rules form p root goal) table ≡ Ok tt) where
  pub over-most : length table ≤ 2 + most (tells form) (children_most form p.n) (tile_bytes p.modes) (depth_by form p.n p.d)
  over-most =
      let rules = table_rules form p root goal in
      let t = (accepted-exactly rules (sizes-over form known p s root goal sides) table).0 a in
      let tree = over-length form p s root goal sides t.0 (working-shaped rules t.0 t.1) in
      omega (arith, ap length t.2, table-size form known p s root goal t.0, tree)

  capped : most (tells form) (children_most form p.n) (tile_bytes p.modes) (depth_by form p.n p.d) ≤ 4096 * tile_bytes p.modes + splits_most form
  capped = cap-by form p.modes p.n p.d s.ranges.n-low s.ranges.n-high s.ranges.d-high s.ranges.nd-high

  -- 53,250 and the splits; while N ≤ 128, 28,674 and the splits
  pub by-splits : length table ≤ 53_250 + splits_most form
  by-splits = omega (arith, over-most, capped, tile-most p.modes)

  pub by-splits-few : p.modes ≤ 128 → length table ≤ 28_674 + splits_most form
  by-splits-few l = let e : tile_bytes p.modes ≡ 7 = simp (le-leb p.modes 128 l) in omega (arith, over-most, capped, e)

  -- over all forms
  pub over-box : length table ≤ 58_965
  over-box = omega (arith, by-splits, splits-most form)

module _ (plant table : List ℕ) (a : checked plant table ≡ Ok tt) where
  w : (p : Plant) × (plant_judged plant ≡ good p) × (verdict (rules_of (form_of table) p) table ≡ Ok tt)
  w = let v = accepted-judged plant table a in (v.0, v.1, sym (checked-as plant v.0 v.1 table) ∙ a)

  bounded : length table ≤ 53_250 + splits_most (form_of table)
  bounded = by-splits (form_of table) (form-known table) w.0 (judged-sound plant w.0 w.1) (root_of w.0) (root_of w.0) (root-sides w.0) table w.2

  bounded-few : (p : Plant) → plant_judged plant ≡ good p → p.modes ≤ 128 → length table ≤ 28_674 + splits_most (form_of table)
  bounded-few p e l =
      by-splits-few (form_of table) (form-known table) p (judged-sound plant p e) (root_of p) (root_of p) (root-sides p) table (sym (checked-as plant p e table) ∙ a) l

  -- whatever its form
  pub at_most : length table ≤ 58_965
  at_most = omega (arith, bounded, splits-most (form_of table))

  pub at-most-few : (p : Plant) → plant_judged plant ≡ good p → p.modes ≤ 128 → length table ≤ 34_389
  at-most-few p e l = omega (arith, bounded-few p e l, splits-most (form_of table))

  -- of one form
  of-form : (form : ℕ) → form_of table ≡ form → length table ≤ 53_250 + splits_most form
  of-form form q = subst (λ (f : ℕ). length table ≤ 53_250 + splits_most f) q bounded

  of-form-few : (form : ℕ) → form_of table ≡ form → (p : Plant) → plant_judged plant ≡ good p → p.modes ≤ 128 → length table ≤ 28_674 + splits_most form
  of-form-few form q p e l = subst (λ (f : ℕ). length table ≤ 28_674 + splits_most f) q (bounded-few p e l)

  -- of form 1: request 2026-08's bound, and document 01's, with as many modes as a byte holds
  pub at_most_one : form_of table ≡ 1 → length table ≤ 54_615
  at_most_one q = let k : length table ≤ 53_250 + splits_most 1 = of-form 1 q in omega (arith, k)

  pub at-most-one-few : form_of table ≡ 1 → (p : Plant) → plant_judged plant ≡ good p → p.modes ≤ 128 → length table ≤ 30_039
  at-most-one-few q p e l = let k : length table ≤ 28_674 + splits_most 1 = of-form-few 1 q p e l in omega (arith, k)

  -- of the forms that tell no lengths, of which form 3 has the longest
  pub at-most-untold : tells (form_of table) ≡ false → length table ≤ 57_345
  at-most-untold q = omega (arith, bounded, splits-untold (form_of table) q)

  pub at-most-untold-few : tells (form_of table) ≡ false → (p : Plant) → plant_judged plant ≡ good p → p.modes ≤ 128 → length table ≤ 32_769
  at-most-untold-few q p e l = omega (arith, bounded-few p e l, splits-untold (form_of table) q)
