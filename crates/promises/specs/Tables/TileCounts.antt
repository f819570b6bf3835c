-- How many tiles a table may have (request 2026-06: "so at most 4,096 tiles remain"; the same of forms 1 and 2). A tree of depth d whose splits have at most c
-- children has at most c^d tiles; a plant has 2^n children and depth D, in form 3 two and n·D, and n·D ≤ 12. Relies on pages Checked and TreeLengths.
use Rattle.std.specs.Prelude.{ℕ, zero, suc, ◌+◌, ◌*◌, ◌^◌, ◌≤◌, ◌≡◌, Bool, true, false, cond, List, [], ◌∷◌, length}
use Rattle.std.proofs.Common.{sym, ap, ◌∙◌, arith, mul-le-mul, mul_comm, mul-zero, le_refl, pow-suc, length-append, pow-add, pow_mono}
use Rattle.std.proofs.Math.Nat.{one-le-pow, pow-zero}
use Rattle.laws.specs.Every as E
use Rattle.laws.specs.Every.{Every}
use Rattle.laws.specs.Tabs.{length-tab}
use Rattle.meaning.specs.Boxes.{side_at}
use Rattle.meaning.specs.Numbers.{bytes_of}
use Rattle.meaning.specs.Plants.{root_of}
use Rattle.meaning.specs.Rules.{Rules, rule}
use Rattle.meaning.specs.Tables.{one_side, depth_by, form_of, rules_of}
use Rattle.meaning.specs.Trees as T
use Rattle.meaning.specs.Trees.{Tree, Forest, split, tile, leaf, more, tells, layout, Over, Overs, tiles_of, tiles_in}
use Rattle.promises.specs.Files.Judged.{judged-sound}
use Rattle.promises.specs.Tables.Checked.{Tiled}
use Rattle.promises.specs.Tables.Shapes.{Good}
use Rattle.promises.specs.Tables.SplitLengths.{told_bytes}
use Rattle.promises.specs.Tables.TreeLengths.{children_most, most-some, sided-few, sided-same}

-- ---- over any rules: Sized is kept by the children and bounds their number

module _ (r : Rules) (P : r.Box → List ℕ → Type 0) (c : ℕ) (some : 1 ≤ c) (Sized : r.Box → Type 0)
    (few : (b : r.Box) → Sized b → length (r.children b) ≤ c) (same : (b : r.Box) → Sized b → Every Sized (r.children b)) where
  open r use {Box, children, form}

  mutual
    unfolding T.tiles_of T.Over E.Every

    pub tiles-few : (t : Tree) (d : ℕ) (b : Box) (at : ℕ) → Sized b → Over r P t d b → length (tiles_of r t b at) ≤ c ^ d
    tiles-few (tile us) d b at z o = one-le-pow d c some
    tiles-few (split f) zero b at z o = absurd o
    tiles-few (split f) (suc d) b at z o =
        omega (
          arith,
          forest-few f d (children b) (at + length (bytes_of 0) + length (told_bytes (tells form) f)) (same b z) o.1,
          mul-le-mul (few b z) (le_refl (c ^ d)),
          pow-suc c d,
          mul_comm c (c ^ d),
        )

    forest-few : (f : Forest) (d : ℕ) (bs : List Box) (at : ℕ) → Every Sized bs → Overs r P f d bs → length (tiles_in r f bs at) ≤ length bs * c ^ d
    forest-few leaf d bs at z o = omega arith
    forest-few (more t f) d [] at z o = absurd o
    forest-few (more t f) d (b ∷ bs) at z o =
        omega (
          arith,
          length-append (tiles_of r t b at) (tiles_in r f bs (at + length (layout (tells form) t))),
          tiles-few t d b at z.0 o.0,
          forest-few f d bs (at + length (layout (tells form) t)) z.1 o.1,
        )

-- ---- a plant's: n·D ≤ 12

powers : (n d : ℕ) → (2 ^ n) ^ d ≡ 2 ^ (n * d)
powers n zero = pow-zero (2 ^ n) ∙ sym (rw (mul-zero n) (pow-zero 2))
powers n (suc d) =
    let e : n * suc d ≡ n * d + n = omega arith in
    pow-suc (2 ^ n) d ∙ ap (λ (k : ℕ). k * 2 ^ n) (powers n d) ∙ sym (pow-add 2 (n * d) n) ∙ ap (λ (k : ℕ). 2 ^ k) (sym e)

-- 2^(n·D) in each form
cap-by : (form n d : ℕ) → n * d ≤ 12 → children_most form n ^ depth_by form n d ≤ 4096
cap-by form n d e = go (one_side form)
  where
    go : (t : Bool) → cond t 2 (2 ^ n) ^ cond t (n * d) d ≤ 4096
    go true = omega (arith, pow_mono {i = n * d} {j = 12} e)
    go false = omega (arith, pow_mono {i = n * d} {j = 12} e, powers n d)

-- of an accepted table, whatever its form
pub tiles-at-most : (plant table : List ℕ) (t : Tiled plant table) → length (tiles_of (rules_of (form_of table) t.p) t.tree (root_of t.p) 2) ≤ 4096
tiles-at-most plant table t =
    let p = t.p in
    let form = form_of table in
    let r = rules_of form p in
    let s = judged-sound plant p t.judged in
    omega (
      arith,
      tiles-few r (Good r (rule r)) (children_most form p.n) (most-some form p.n) (λ b. length b ≡ p.n)
          (sided-few form p.n) (sided-same form p.n)
          t.tree (depth_by form p.n p.d) (root_of p) 2 (length-tab (side_at p.rlo p.rhi) p.n 0) t.works,
      cap-by form p.n p.d s.ranges.nd-high,
    )
